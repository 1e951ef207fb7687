-- Courses one after the other, and courses of one call.
use Rattle.std.proofs.Common.{◌≡◌, ℕ, List, [], ◌∷◌, ◌++◌, Option, Some, Bool, true, false, Result, refl, sym, ap, subst, ◌∙◌, append_assoc, append-nil}
use Rattle.std.specs.Prelude.{IsErrAnd, is_ok}
use Rattle.std.proofs.KnownBytes.{Appends-nil, Appends-trans, Appends-kept, Consumes-nil, Consumes-trans}
use Rattle.std.specs.Io.KnownBytes.{Appends, Consumes, Keeps}
use Rattle.sms_centre_spec.specs.declared.jobs.job.Job.{Job}
use Rattle.sms_centre_spec.specs.declared.jobs.reply.Reply.{Reply}
use Rattle.sms_seats.specs.declared.seat.Seat.{Seat}
use Rattle.sms_seats.specs.Seats.{IsSameSeat, put_by, taken_by}
use Rattle.smsc_loop.specs.Calls.{Call, Timed, Told, Took, Heard, GaveUp, AskedLink, AskedToLeave, Noted, Sent, Put, PutBack, Left, PutLast, PutOwn, Dropped, Refused}
use Rattle.smsc_loop.specs.Calls.{octets_taken, octets_sent, replies_taken, jobs_put}
use Rattle.smsc_loop.specs.Courses.{AreDue, Did, IsDue, LeadsTo, Runs, Standing, standing}
use Rattle.smsc_loop.specs.Phases.{Phase, Leaves, Moves, behind}
use Rattle.smsc_loop.proofs.Went.{not_ok}

-- ---- seats

pub seat_same : (s : Seat Job Reply) → IsSameSeat s s
seat_same s = record { number = refl; jobs = refl; answers = refl; slots = refl }

pub seat_trans : (s t u : Seat Job Reply) → IsSameSeat s t → IsSameSeat t u → IsSameSeat s u
seat_trans s t u p q = record { number = q.number ∙ p.number; jobs = q.jobs ∙ p.jobs; answers = q.answers ∙ p.answers; slots = q.slots ∙ p.slots }

-- ---- lists

pub longer : {A : Type 0} (a b c x y xy : List A) → b ≡ a ++ x → c ≡ b ++ y → xy ≡ x ++ y → c ≡ a ++ xy
longer {A} a b c x y xy p q r = q ∙ (ap (λ (l : List A). l ++ y) p ∙ (append_assoc a x y ∙ ap (λ (l : List A). a ++ l) (sym r)))

pub unchanged : {A : Type 0} (a b : List A) → b ≡ a → b ≡ a ++ []
unchanged a b p = p ∙ sym (append-nil a)

pub none_given : (a b : Option (List ℕ)) → b ≡ a → Consumes a b []
none_given a b p = subst (λ (x : Option (List ℕ)). Consumes a x []) (sym p) (Consumes-nil a)

pub kept_bytes : (a b : Option (List ℕ)) → b ≡ a → Appends a b []
kept_bytes a b p = subst (λ (x : Option (List ℕ)). Appends a x []) (sym p) (Appends-nil a)

pub nothing_more : (a b : Option (List ℕ)) → Keeps a b → Appends a b []
nothing_more a b p = Appends-kept a a b [] (Appends-nil a) p

pub with_nil : (a b : Option (List ℕ)) (octets : List ℕ) → Appends a b octets → Appends a b (octets ++ [])
with_nil a b octets p = subst (λ (l : List ℕ). Appends a b l) (sym (append-nil octets)) p

given_nil : (a b : Option (List ℕ)) (octets : List ℕ) → Consumes a b octets → Consumes a b (octets ++ [])
given_nil a b octets p = subst (λ (l : List ℕ). Consumes a b l) (sym (append-nil octets)) p

octets_taken_join : (one other : List Call) → octets_taken (one ++ other) ≡ octets_taken one ++ octets_taken other
octets_taken_join [] other = refl
octets_taken_join (Timed now went ∷ one) other = octets_taken_join one other
octets_taken_join (Told full ∷ one) other = octets_taken_join one other
octets_taken_join (Took octets went ∷ one) other = ap (λ (l : List ℕ). octets ++ l) (octets_taken_join one other) ∙ sym (append_assoc octets (octets_taken one) (octets_taken other))
octets_taken_join (Heard reply went ∷ one) other = octets_taken_join one other
octets_taken_join (GaveUp went ∷ one) other = octets_taken_join one other
octets_taken_join (AskedLink went ∷ one) other = octets_taken_join one other
octets_taken_join (AskedToLeave asked went ∷ one) other = octets_taken_join one other
octets_taken_join (Noted said ∷ one) other = octets_taken_join one other
octets_taken_join (Sent octets ∷ one) other = octets_taken_join one other
octets_taken_join (Put job ∷ one) other = octets_taken_join one other
octets_taken_join (PutBack job again went ∷ one) other = octets_taken_join one other
octets_taken_join (Left last ∷ one) other = octets_taken_join one other
octets_taken_join (PutLast job ∷ one) other = octets_taken_join one other
octets_taken_join (PutOwn job ∷ one) other = octets_taken_join one other
octets_taken_join (Dropped reply ∷ one) other = octets_taken_join one other
octets_taken_join (Refused reply ∷ one) other = octets_taken_join one other

octets_sent_join : (one other : List Call) → octets_sent (one ++ other) ≡ octets_sent one ++ octets_sent other
octets_sent_join [] other = refl
octets_sent_join (Timed now went ∷ one) other = octets_sent_join one other
octets_sent_join (Told full ∷ one) other = octets_sent_join one other
octets_sent_join (Took octets went ∷ one) other = octets_sent_join one other
octets_sent_join (Heard reply went ∷ one) other = octets_sent_join one other
octets_sent_join (GaveUp went ∷ one) other = octets_sent_join one other
octets_sent_join (AskedLink went ∷ one) other = octets_sent_join one other
octets_sent_join (AskedToLeave asked went ∷ one) other = octets_sent_join one other
octets_sent_join (Noted said ∷ one) other = octets_sent_join one other
octets_sent_join (Sent octets ∷ one) other = ap (λ (l : List ℕ). octets ++ l) (octets_sent_join one other) ∙ sym (append_assoc octets (octets_sent one) (octets_sent other))
octets_sent_join (Put job ∷ one) other = octets_sent_join one other
octets_sent_join (PutBack job again went ∷ one) other = octets_sent_join one other
octets_sent_join (Left last ∷ one) other = octets_sent_join one other
octets_sent_join (PutLast job ∷ one) other = octets_sent_join one other
octets_sent_join (PutOwn job ∷ one) other = octets_sent_join one other
octets_sent_join (Dropped reply ∷ one) other = octets_sent_join one other
octets_sent_join (Refused reply ∷ one) other = octets_sent_join one other

pub replies_taken_join : (one other : List Call) → replies_taken (one ++ other) ≡ replies_taken one ++ replies_taken other
replies_taken_join [] other = refl
replies_taken_join (Timed now went ∷ one) other = replies_taken_join one other
replies_taken_join (Told full ∷ one) other = replies_taken_join one other
replies_taken_join (Took octets went ∷ one) other = replies_taken_join one other
replies_taken_join (Heard reply went ∷ one) other = ap (λ (l : List Reply). reply ∷ l) (replies_taken_join one other)
replies_taken_join (GaveUp went ∷ one) other = replies_taken_join one other
replies_taken_join (AskedLink went ∷ one) other = replies_taken_join one other
replies_taken_join (AskedToLeave asked went ∷ one) other = replies_taken_join one other
replies_taken_join (Noted said ∷ one) other = replies_taken_join one other
replies_taken_join (Sent octets ∷ one) other = replies_taken_join one other
replies_taken_join (Put job ∷ one) other = replies_taken_join one other
replies_taken_join (PutBack job again went ∷ one) other = replies_taken_join one other
replies_taken_join (Left last ∷ one) other = replies_taken_join one other
replies_taken_join (PutLast job ∷ one) other = replies_taken_join one other
replies_taken_join (PutOwn job ∷ one) other = replies_taken_join one other
replies_taken_join (Dropped reply ∷ one) other = ap (λ (l : List Reply). reply ∷ l) (replies_taken_join one other)
replies_taken_join (Refused reply ∷ one) other = ap (λ (l : List Reply). reply ∷ l) (replies_taken_join one other)

pub jobs_put_join : (one other : List Call) → jobs_put (one ++ other) ≡ jobs_put one ++ jobs_put other
jobs_put_join [] other = refl
jobs_put_join (Timed now went ∷ one) other = jobs_put_join one other
jobs_put_join (Told full ∷ one) other = jobs_put_join one other
jobs_put_join (Took octets went ∷ one) other = jobs_put_join one other
jobs_put_join (Heard reply went ∷ one) other = jobs_put_join one other
jobs_put_join (GaveUp went ∷ one) other = jobs_put_join one other
jobs_put_join (AskedLink went ∷ one) other = jobs_put_join one other
jobs_put_join (AskedToLeave asked went ∷ one) other = jobs_put_join one other
jobs_put_join (Noted said ∷ one) other = jobs_put_join one other
jobs_put_join (Sent octets ∷ one) other = jobs_put_join one other
jobs_put_join (Put job ∷ one) other = ap (λ (l : List (Option Job)). Some job ∷ l) (jobs_put_join one other)
jobs_put_join (PutBack job again went ∷ one) other = jobs_put_join one other
jobs_put_join (Left last ∷ one) other = jobs_put_join one other
jobs_put_join (PutLast job ∷ one) other = ap (λ (l : List (Option Job)). Some job ∷ l) (jobs_put_join one other)
jobs_put_join (PutOwn job ∷ one) other = ap (λ (l : List (Option Job)). Some job ∷ l) (jobs_put_join one other)
jobs_put_join (Dropped reply ∷ one) other = jobs_put_join one other
jobs_put_join (Refused reply ∷ one) other = jobs_put_join one other

-- ---- which answers are due

pub due_at : (put put_then : List (Option Job)) (taken taken_then : List Reply) (calls : List Call) → put ≡ put_then → taken ≡ taken_then
    → AreDue put taken calls → AreDue put_then taken_then calls
due_at put put_then taken taken_then calls e f h =
    subst (λ (l : List Reply). AreDue put_then l calls) f (subst (λ (l : List (Option Job)). AreDue l taken calls) e h)

pub due_join : (put : List (Option Job)) (taken : List Reply) (one other : List Call) → AreDue put taken one
    → AreDue (put ++ jobs_put one) (taken ++ replies_taken one) other → AreDue put taken (one ++ other)
due_join put taken [] other h k = due_at (put ++ []) put (taken ++ []) taken other (append-nil put) (append-nil taken) k
due_join put taken (call ∷ one) other h k = (
  h.0,
  due_join (put ++ jobs_put (call ∷ [])) (taken ++ replies_taken (call ∷ [])) one other h.1
      (due_at _ _ _ _ other
      (ap (λ (l : List (Option Job)). put ++ l) (jobs_put_join (call ∷ []) one) ∙ sym (append_assoc put (jobs_put (call ∷ [])) (jobs_put one)))
      (ap (λ (l : List Reply). taken ++ l) (replies_taken_join (call ∷ []) one) ∙ sym (append_assoc taken (replies_taken (call ∷ [])) (replies_taken one)))
      k),
)

-- a call by which the seat takes nothing
due_without : (put : List (Option Job)) (taken : List Reply) (call : Call) → replies_taken (call ∷ []) ≡ [] → IsDue put taken call
due_without put taken (Timed now went) e = tt
due_without put taken (Told full) e = tt
due_without put taken (Took octets went) e = tt
due_without put taken (Heard reply went) e = absurd cc
due_without put taken (GaveUp went) e = tt
due_without put taken (AskedLink went) e = tt
due_without put taken (AskedToLeave asked went) e = tt
due_without put taken (Noted said) e = tt
due_without put taken (Sent octets) e = tt
due_without put taken (Put job) e = tt
due_without put taken (PutBack job again went) e = tt
due_without put taken (Left last) e = tt
due_without put taken (PutLast job) e = tt
due_without put taken (PutOwn job) e = tt
due_without put taken (Dropped reply) e = tt
due_without put taken (Refused reply) e = absurd cc

module _ {V : Type 0} (does : Call → V → V → Type 0) where
  runs_join : (u v w : V) (n o p : Phase) (one other : List Call) → Runs does u n one v o → Runs does v o other w p → Runs does u n (one ++ other) w p
  runs_join u v w n o p [] other r s =
      subst (λ (x : V). Runs does x n other w p) r.0 (subst (λ (y : Phase). Runs does v y other w p) r.1 s)
  runs_join u v w n o p (call ∷ one) other r s = (r.0, r.1, r.2, r.3, runs_join r.0 v w r.1 o p one other r.4 s)

  pub did_none : (v : V) (p : Phase) (a w : Option (List ℕ)) (s : Seat Job Reply) → Did does (standing v p a w s) (standing v p a w s)
  did_none v p a w s = record {
    calls = [];
    runs = (refl, refl);
    remaining_so = Consumes-nil a;
    written_so = Appends-nil w;
    taken_so = unchanged (taken_by s) _ refl;
    put_so = unchanged (put_by s) _ refl;
    due_so = tt;
    seat_so = seat_same s;
  }

  pub did_join : (r s t : Standing V) → Did does r s → Did does s t → Did does r t
  did_join r s t p q = record {
    calls = p.calls ++ q.calls;
    runs = runs_join r.view s.view t.view r.phase s.phase t.phase p.calls q.calls p.runs q.runs;
    remaining_so = subst (λ (l : List ℕ). Consumes r.remaining t.remaining l) (sym (octets_taken_join p.calls q.calls))
        (Consumes-trans r.remaining s.remaining t.remaining (octets_taken p.calls) (octets_taken q.calls) p.remaining_so q.remaining_so);
    written_so = subst (λ (l : List ℕ). Appends r.written t.written l) (sym (octets_sent_join p.calls q.calls))
        (Appends-trans r.written s.written t.written (octets_sent p.calls) (octets_sent q.calls) p.written_so q.written_so);
    taken_so = longer (taken_by r.seat) (taken_by s.seat) (taken_by t.seat) (replies_taken p.calls) (replies_taken q.calls) _ p.taken_so q.taken_so
        (replies_taken_join p.calls q.calls);
    put_so = longer (put_by r.seat) (put_by s.seat) (put_by t.seat) (jobs_put p.calls) (jobs_put q.calls) _ p.put_so q.put_so
        (jobs_put_join p.calls q.calls);
    due_so = due_join (put_by r.seat) (taken_by r.seat) p.calls q.calls p.due_so (due_at _ _ _ _ q.calls p.put_so p.taken_so q.due_so);
    seat_so = seat_trans r.seat s.seat t.seat p.seat_so q.seat_so;
  }

  -- one call, by which nothing passes
  pub did_still : (call : Call) (v u : V) (p q : Phase) (a w : Option (List ℕ)) (s : Seat Job Reply)
      → octets_taken (call ∷ []) ≡ [] → octets_sent (call ∷ []) ≡ [] → replies_taken (call ∷ []) ≡ [] → jobs_put (call ∷ []) ≡ []
      → LeadsTo does call v u → Moves call p q → Did does (standing v p a w s) (standing u q a w s)
  did_still call v u p q a w s e f g h l m = record {
    calls = call ∷ [];
    runs = (u, q, l, m, (refl, refl));
    remaining_so = subst (λ (l : List ℕ). Consumes a a l) (sym e) (Consumes-nil a);
    written_so = subst (λ (l : List ℕ). Appends w w l) (sym f) (Appends-nil w);
    taken_so = unchanged (taken_by s) _ refl ∙ ap (λ (l : List Reply). taken_by s ++ l) (sym g);
    put_so = unchanged (put_by s) _ refl ∙ ap (λ (l : List (Option Job)). put_by s ++ l) (sym h);
    due_so = (due_without (put_by s) (taken_by s) call g, tt);
    seat_so = seat_same s;
  }

  -- octets arrive, and the endpoint takes them
  pub did_take : (octets : List ℕ) (went : Bool) (v u : V) (p q : Phase) (a b w x : Option (List ℕ)) (s : Seat Job Reply)
      → does (Took octets went) v u → Moves (Took octets went) p q → Consumes a b octets → x ≡ w
      → Did does (standing v p a w s) (standing u q b x s)
  did_take octets went v u p q a b w x s l m e f = record {
    calls = Took octets went ∷ [];
    runs = (u, q, l, m, (refl, refl));
    remaining_so = given_nil a b octets e;
    written_so = kept_bytes w x f;
    taken_so = unchanged (taken_by s) _ refl;
    put_so = unchanged (put_by s) _ refl;
    due_so = (tt, tt);
    seat_so = seat_same s;
  }

  -- octets of the endpoint are written
  pub did_send : (octets : List ℕ) (v u : V) (p q : Phase) (a b w x : Option (List ℕ)) (s : Seat Job Reply)
      → does (Sent octets) v u → Moves (Sent octets) p q → b ≡ a → Appends w x octets
      → Did does (standing v p a w s) (standing u q b x s)
  did_send octets v u p q a b w x s l m f e = record {
    calls = Sent octets ∷ [];
    runs = (u, q, l, m, (refl, refl));
    remaining_so = none_given a b f;
    written_so = with_nil w x octets e;
    taken_so = unchanged (taken_by s) _ refl;
    put_so = unchanged (put_by s) _ refl;
    due_so = (tt, tt);
    seat_so = seat_same s;
  }

  -- no call: the endpoint is as it was
  pub did_same : (v u : V) (p : Phase) (a w : Option (List ℕ)) (s : Seat Job Reply) → u ≡ v → Did does (standing v p a w s) (standing u p a w s)
  did_same v u p a w s e = subst (λ (x : V). Did does (standing v p a w s) (standing x p a w s)) (sym e) (did_none v p a w s)

  -- a call was refused memory, and so is the function that made it
  pub did_refused : {A E : Type 0} (Q : E → Type 0) (r : Result A E) → IsErrAnd r Q → (s : Standing V) (u : V) (p : Phase) (a w : Option (List ℕ)) (t : Seat Job Reply)
      → Did does s (standing u (behind false p) a w t) → Did does s (standing u (behind (is_ok r) p) a w t)
  did_refused Q r h s u p a w t d = subst (λ (b : Bool). Did does s (standing u (behind b p) a w t)) (sym (not_ok Q r h)) d

  -- no call: the wire may state its octets no longer
  pub did_wire : (v : V) (p : Phase) (a b w x : Option (List ℕ)) (s : Seat Job Reply) → Consumes a b [] → Appends w x []
      → Did does (standing v p a w s) (standing v p b x s)
  did_wire v p a b w x s e f = record {
    calls = [];
    runs = (refl, refl);
    remaining_so = e;
    written_so = f;
    taken_so = unchanged (taken_by s) _ refl;
    put_so = unchanged (put_by s) _ refl;
    due_so = tt;
    seat_so = seat_same s;
  }

  -- one call, by which the seat takes replies or puts jobs
  pub did_seat : (call : Call) (v u : V) (p q : Phase) (a w : Option (List ℕ)) (s t : Seat Job Reply)
      → octets_taken (call ∷ []) ≡ [] → octets_sent (call ∷ []) ≡ []
      → LeadsTo does call v u → Moves call p q
      → taken_by t ≡ taken_by s ++ replies_taken (call ∷ []) → put_by t ≡ put_by s ++ jobs_put (call ∷ []) → IsSameSeat s t
      → IsDue (put_by s) (taken_by s) call → Did does (standing v p a w s) (standing u q a w t)
  did_seat call v u p q a w s t e f l m g h i due = record {
    calls = call ∷ [];
    runs = (u, q, l, m, (refl, refl));
    remaining_so = subst (λ (l : List ℕ). Consumes a a l) (sym e) (Consumes-nil a);
    written_so = subst (λ (l : List ℕ). Appends w w l) (sym f) (Appends-nil w);
    taken_so = g;
    put_so = h;
    due_so = (due, tt);
    seat_so = i;
  }

  -- the seat is asked, and nothing passes
  pub did_ask : (v : V) (p : Phase) (a w : Option (List ℕ)) (s t : Seat Job Reply)
      → taken_by t ≡ taken_by s → put_by t ≡ put_by s → IsSameSeat s t → Did does (standing v p a w s) (standing v p a w t)
  did_ask v p a w s t g h i = record {
    calls = [];
    runs = (refl, refl);
    remaining_so = Consumes-nil a;
    written_so = Appends-nil w;
    taken_so = unchanged (taken_by s) _ g;
    put_so = unchanged (put_by s) _ h;
    due_so = tt;
    seat_so = i;
  }

  -- an endpoint that has left goes on, whether a call went or not
  pub did_left : (went : Bool) (due : Option Job) (s : Standing V) (u : V) (a w : Option (List ℕ)) (t : Seat Job Reply)
      → Did does s (standing u (behind went (Leaves due)) a w t) → Did does s (standing u (Leaves due) a w t)
  did_left true due s u a w t d = d
  did_left false due s u a w t d = d

  -- the phase is known
  pub did_at : (s : Standing V) (u : V) (p q : Phase) (a w : Option (List ℕ)) (t : Seat Job Reply) → p ≡ q → Did does s (standing u p a w t) → Did does s (standing u q a w t)
  did_at s u p q a w t e d = subst (λ (x : Phase). Did does s (standing u x a w t)) e d
