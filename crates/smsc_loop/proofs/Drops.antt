-- What the loop does at a seat that its endpoint has left is a course.
use Rattle.std.proofs.Common.{◌≡◌, ◌⊎◌, ℕ, Bool, true, false, List, [], ◌∷◌, ◌++◌, Option, Some, None, refl, sym, ap, subst, ◌∙◌, append_assoc, append-nil, inl, inr}
use Rattle.std.specs.Prelude.{MatchBool, MatchOption}
use Rattle.std.proofs.KnownBytes.{Appends-nil, Consumes-nil}
use Rattle.std.specs.Io.KnownBytes.{Appends, Consumes}
use Rattle.sms_centre_spec.specs.declared.jobs.job.Job.{Job}
use Rattle.sms_centre_spec.specs.declared.jobs.reply.Reply.{Reply}
use Rattle.sms_seats.specs.declared.seat.Seat.{Seat}
use Rattle.sms_seats.specs.Seats.{IsSameSeat, put_by, taken_by}
use Rattle.smsc_loop.specs.Calls.{Call, PutLast, PutOwn, Dropped, octets_taken, octets_sent, replies_taken, jobs_put}
use Rattle.smsc_loop.specs.Courses.{AreDue, Did, Runs, standing}
use Rattle.smsc_loop.specs.Emptying.{AreOwn, Drops, Emptied, OwnPut, Owns, all_of, due_of}
use Rattle.smsc_loop.specs.Owing.{IsCleared}
use Rattle.smsc_loop.specs.Phases.{Phase, Leaves, Ends, Asks, HasEnded, HasLeft, IsOwn, own_request}
use Rattle.smsc_loop.proofs.Joins.{seat_same, seat_trans}

-- replies that nobody gets
abbrev drops : List Reply → List Call
drops [] = []
drops (reply ∷ replies) = Dropped reply ∷ drops replies

none_taken : (replies : List Reply) → octets_taken (drops replies) ≡ []
none_taken [] = refl
none_taken (reply ∷ replies) = none_taken replies

none_sent : (replies : List Reply) → octets_sent (drops replies) ≡ []
none_sent [] = refl
none_sent (reply ∷ replies) = none_sent replies

all_taken : (replies : List Reply) → replies_taken (drops replies) ≡ replies
all_taken [] = refl
all_taken (reply ∷ replies) = ap (λ (l : List Reply). reply ∷ l) (all_taken replies)

none_put : (replies : List Reply) → jobs_put (drops replies) ≡ []
none_put [] = refl
none_put (reply ∷ replies) = none_put replies

drops_due : (put : List (Option Job)) (taken : List Reply) (replies : List Reply) → AreDue put taken (drops replies)
drops_due put taken [] = tt
drops_due put taken (reply ∷ replies) = (tt, drops_due (put ++ []) (taken ++ reply ∷ []) replies)

-- jobs of the loop, and then such replies
abbrev own_calls : List Job → List Reply → List Call
own_calls [] replies = drops replies
own_calls (job ∷ jobs) replies = PutOwn job ∷ own_calls jobs replies

own_none_taken : (jobs : List Job) (replies : List Reply) → octets_taken (own_calls jobs replies) ≡ []
own_none_taken [] replies = none_taken replies
own_none_taken (job ∷ jobs) replies = own_none_taken jobs replies

own_none_sent : (jobs : List Job) (replies : List Reply) → octets_sent (own_calls jobs replies) ≡ []
own_none_sent [] replies = none_sent replies
own_none_sent (job ∷ jobs) replies = own_none_sent jobs replies

own_all_taken : (jobs : List Job) (replies : List Reply) → replies_taken (own_calls jobs replies) ≡ replies
own_all_taken [] replies = all_taken replies
own_all_taken (job ∷ jobs) replies = own_all_taken jobs replies

own_put : (jobs : List Job) (replies : List Reply) → jobs_put (own_calls jobs replies) ≡ all_of jobs
own_put [] replies = none_put replies
own_put (job ∷ jobs) replies = ap (λ (l : List (Option Job)). Some job ∷ l) (own_put jobs replies)

own_due : (put : List (Option Job)) (taken : List Reply) (jobs : List Job) (replies : List Reply) → AreDue put taken (own_calls jobs replies)
own_due put taken [] replies = drops_due put taken replies
own_due put taken (job ∷ jobs) replies = (tt, own_due (put ++ Some job ∷ []) (taken ++ []) jobs replies)

module _ {V : Type 0} (does : Call → V → V → Type 0) where
  drops_run : (v : V) (p : Phase) (replies : List Reply) → HasLeft p → Runs does v p (drops replies) v p
  drops_run v p [] h = (refl, refl)
  drops_run v p (reply ∷ replies) h = (v, p, refl, (h, refl), drops_run v p replies h)

  own_run : (v : V) (jobs : List Job) (replies : List Reply) → AreOwn jobs → Runs does v Asks (own_calls jobs replies) v Asks
  own_run v [] replies are = drops_run v Asks replies tt
  own_run v (job ∷ jobs) replies are = (v, Asks, refl, (tt, refl, are.0), own_run v jobs replies are.1)

  -- jobs are put first, and the replies dropped then
  module _ (v : V) (p : Phase) (a w : Option (List ℕ)) (s t : Seat Job Reply) (same : IsSameSeat s t) (dropped : List Reply) (taken : taken_by t ≡ taken_by s ++ dropped) where
    remaining_none : Consumes a a (octets_taken (drops dropped))
    remaining_none = subst (λ (l : List ℕ). Consumes a a l) (sym (none_taken dropped)) (Consumes-nil a)

    written_none : Appends w w (octets_sent (drops dropped))
    written_none = subst (λ (l : List ℕ). Appends w w l) (sym (none_sent dropped)) (Appends-nil w)

    taken_all : taken_by t ≡ taken_by s ++ replies_taken (drops dropped)
    taken_all = taken ∙ ap (λ (l : List Reply). taken_by s ++ l) (sym (all_taken dropped))

    dropped_did : HasLeft p → put_by t ≡ put_by s → Did does (standing v p a w s) (standing v p a w t)
    dropped_did h e = record {
      calls = drops dropped;
      runs = drops_run v p dropped h;
      remaining_so = remaining_none;
      written_so = written_none;
      taken_so = taken_all;
      put_so = e ∙ (sym (append-nil (put_by s)) ∙ ap (λ (l : List (Option Job)). put_by s ++ l) (sym (none_put dropped)));
      due_so = drops_due _ _ dropped;
      seat_so = same;
    }

    last_did : (job : Job) → p ≡ Leaves (Some job) → put_by t ≡ put_by s ++ Some job ∷ [] → Did does (standing v p a w s) (standing v Ends a w t)
    last_did job d e = record {
      calls = PutLast job ∷ drops dropped;
      runs = (v, Ends, refl, (d, refl), drops_run v Ends dropped tt);
      remaining_so = remaining_none;
      written_so = written_none;
      taken_so = taken_all;
      put_so = e ∙ ap (λ (l : List (Option Job)). put_by s ++ Some job ∷ l) (sym (none_put dropped));
      due_so = (tt, drops_due _ _ dropped);
      seat_so = same;
    }

    module _ (own : List Job) (are : AreOwn own) where
      remaining_own : Consumes a a (octets_taken (own_calls own dropped))
      remaining_own = subst (λ (l : List ℕ). Consumes a a l) (sym (own_none_taken own dropped)) (Consumes-nil a)

      written_own : Appends w w (octets_sent (own_calls own dropped))
      written_own = subst (λ (l : List ℕ). Appends w w l) (sym (own_none_sent own dropped)) (Appends-nil w)

      taken_own : taken_by t ≡ taken_by s ++ replies_taken (own_calls own dropped)
      taken_own = taken ∙ ap (λ (l : List Reply). taken_by s ++ l) (sym (own_all_taken own dropped))

      own_did : HasEnded p → put_by t ≡ put_by s ++ Some own_request ∷ all_of own → Did does (standing v p a w s) (standing v Asks a w t)
      own_did d e = record {
        calls = PutOwn own_request ∷ own_calls own dropped;
        runs = (v, Asks, refl, (d, refl, inl refl), own_run v own dropped are);
        remaining_so = remaining_own;
        written_so = written_own;
        taken_so = taken_own;
        put_so = e ∙ ap (λ (l : List (Option Job)). put_by s ++ Some own_request ∷ l) (sym (own_put own dropped));
        due_so = (tt, own_due _ _ own dropped);
        seat_so = same;
      }

      both_did : (job : Job) → p ≡ Leaves (Some job) → put_by t ≡ (put_by s ++ Some job ∷ []) ++ Some own_request ∷ all_of own
          → Did does (standing v p a w s) (standing v Asks a w t)
      both_did job d e = record {
        calls = PutLast job ∷ PutOwn own_request ∷ own_calls own dropped;
        runs = (v, Ends, refl, (d, refl), (v, Asks, refl, (tt, refl, inl refl), own_run v own dropped are));
        remaining_so = remaining_own;
        written_so = written_own;
        taken_so = taken_own;
        put_so = e ∙ (append_assoc (put_by s) (Some job ∷ []) (Some own_request ∷ all_of own)
            ∙ ap (λ (l : List (Option Job)). put_by s ++ Some job ∷ Some own_request ∷ l) (sym (own_put own dropped)));
        due_so = (tt, (tt, own_due _ _ own dropped));
        seat_so = same;
      }

  -- what the loop did at the seat, and whether all answers are taken
  abbrev pub IsEmptied : Type 0 → V → Option Job → Option (List ℕ) → Option (List ℕ) → Seat Job Reply → Seat Job Reply → Type 0
  IsEmptied run_over v due a w s t =
      (q : Phase) × Did does (standing v (Leaves due) a w s) (standing v q a w t) × (run_over ⊎ ((q ≡ Asks) × IsCleared (put_by t) (taken_by t)))

  answered : (run_over : Type 0) (t : Seat Job Reply) → run_over ⊎ IsCleared (put_by t) (taken_by t) → run_over ⊎ ((Asks ≡ Asks) × IsCleared (put_by t) (taken_by t))
  answered run_over t (inl over) = inl over
  answered run_over t (inr cleared) = inr (refl, cleared)

  pub emptied_did : (run_over : Type 0) (v : V) (due : Option Job) (a w : Option (List ℕ)) (s t : Seat Job Reply) → Emptied run_over due s t
      → IsEmptied run_over v due a w s t
  emptied_did run_over v due a w s t (same, dropped, inl (over, e)) =
      (Leaves due, dropped_did v (Leaves due) a w s t same dropped.0 dropped.1 tt e, inl over)
  emptied_did run_over v None a w s t (same, dropped, inr (inl (over, e))) =
      (Leaves None, dropped_did v (Leaves None) a w s t same dropped.0 dropped.1 tt (e ∙ append-nil (put_by s)), inl over)
  emptied_did run_over v (Some job) a w s t (same, dropped, inr (inl (over, e))) =
      (Ends, last_did v (Leaves (Some job)) a w s t same dropped.0 dropped.1 job refl e, inl over)
  emptied_did run_over v None a w s t (same, dropped, inr (inr (own, are, e, f))) = (
    Asks,
    own_did v (Leaves None) a w s t same dropped.0 dropped.1 own are tt
        (e ∙ ap (λ (l : List (Option Job)). l ++ Some own_request ∷ all_of own) (append-nil (put_by s))),
    answered run_over t f,
  )
  emptied_did run_over v (Some job) a w s t (same, dropped, inr (inr (own, are, e, f))) =
      (Asks, both_did v (Leaves (Some job)) a w s t same dropped.0 dropped.1 own are job refl e, answered run_over t f)

-- ---- replies that are taken one after the other

pub drops_none : (a : List Reply) → Drops a a
drops_none a = ([], sym (append-nil a))

pub drops_one : (a b c : List Reply) (reply : Reply) → Drops a b → c ≡ b ++ reply ∷ [] → Drops a c
drops_one a b c reply d e = (d.0 ++ reply ∷ [], e ∙ (ap (λ (l : List Reply). l ++ reply ∷ []) d.1 ∙ append_assoc a d.0 (reply ∷ [])))

pub drops_next : (r : Option Reply) (a b c : List Reply) → Drops a b → MatchOption r (c ≡ b) (λ reply. c ≡ b ++ reply ∷ []) → Drops a c
drops_next None a b c d e = subst (Drops a) (sym e) d
drops_next (Some reply) a b c d e = drops_one a b c reply d e

pub drops_both : (a b c : List Reply) → Drops a b → Drops b c → Drops a c
drops_both a b c d e = (d.0 ++ e.0, e.1 ∙ (ap (λ (l : List Reply). l ++ e.0) d.1 ∙ append_assoc a d.0 e.0))

-- ---- what is put behind what is put

pub put_one : (a b c : List (Option Job)) (job known : Job) → b ≡ a → c ≡ b ++ Some job ∷ [] → job ≡ known → c ≡ a ++ Some known ∷ []
put_one a b c job known e f h = f ∙ (ap (λ (l : List (Option Job)). l ++ Some job ∷ []) e ∙ ap (λ (x : Job). a ++ Some x ∷ []) h)

module _ (over : Type 0) (due : Option Job) (s m t : Seat Job Reply) (same : IsSameSeat s m) (dropped : Drops (taken_by s) (taken_by m))
    (put : put_by m ≡ put_by s ++ due_of due) (same_then : IsSameSeat m t) (dropped_then : Drops (taken_by m) (taken_by t)) where
  pub emptied_then : OwnPut over m t → Emptied over due s t
  emptied_then (inl (o, e)) = (seat_trans s m t same same_then, drops_both (taken_by s) (taken_by m) (taken_by t) dropped dropped_then, inr (inl (o, e ∙ put)))
  emptied_then (inr (own, are, e, f)) = (
    seat_trans s m t same same_then,
    drops_both (taken_by s) (taken_by m) (taken_by t) dropped dropped_then,
    inr (inr (own, are, e ∙ ap (λ (l : List (Option Job)). l ++ Some own_request ∷ all_of own) put, f)),
  )

-- ---- jobs of the loop that are put one after the other

all_join : (a b : List Job) → all_of (a ++ b) ≡ all_of a ++ all_of b
all_join [] b = refl
all_join (job ∷ a) b = ap (λ (l : List (Option Job)). Some job ∷ l) (all_join a b)

own_join : (a b : List Job) → AreOwn a → AreOwn b → AreOwn (a ++ b)
own_join [] b are others = others
own_join (job ∷ a) b are others = (are.0, own_join a b are.1 others)

pub owns_taken : (s t : Seat Job Reply) → IsSameSeat s t → Drops (taken_by s) (taken_by t) → put_by t ≡ put_by s → Owns s t
owns_taken s t same dropped e = (same, dropped, [], tt, e ∙ sym (append-nil (put_by s)))

pub owns_none : (s : Seat Job Reply) → Owns s s
owns_none s = owns_taken s s (seat_same s) (drops_none (taken_by s)) refl

pub owns_one : (over : Type 0) (s t : Seat Job Reply) (job : Job) (b : Bool) → IsOwn job → IsSameSeat s t → Drops (taken_by s) (taken_by t)
    → MatchBool b (put_by t ≡ put_by s ++ Some job ∷ []) (over × (put_by t ≡ put_by s)) → Owns s t
owns_one over s t job true own same dropped e = (same, dropped, job ∷ [], (own, tt), e)
owns_one over s t job false own same dropped e = owns_taken s t same dropped e.1

pub owns_both : (s m t : Seat Job Reply) → Owns s m → Owns m t → Owns s t
owns_both s m t h k = (
  seat_trans s m t h.0 k.0,
  drops_both (taken_by s) (taken_by m) (taken_by t) h.1 k.1,
  h.2 ++ k.2,
  own_join h.2 k.2 h.3 k.3,
  k.4 ∙ (ap (λ (l : List (Option Job)). l ++ all_of k.2) h.4
      ∙ (append_assoc (put_by s) (all_of h.2) (all_of k.2) ∙ ap (λ (l : List (Option Job)). put_by s ++ l) (sym (all_join h.2 k.2)))),
)

-- the first of them is the request
pub own_first : (over : Type 0) (s m t : Seat Job Reply) → put_by m ≡ put_by s ++ Some own_request ∷ [] → Owns m t → over ⊎ IsCleared (put_by t) (taken_by t)
    → OwnPut over s t
own_first over s m t e k f = inr
    (k.2, k.3, k.4 ∙ (ap (λ (l : List (Option Job)). l ++ all_of k.2) e ∙ append_assoc (put_by s) (Some own_request ∷ []) (all_of k.2)), f)
