-- Connections that sat at a seat, one after the other, and what a seat that comes back says of them.
use Rattle.std.proofs.Common.{◌≡◌, ◌⊎◌, ℕ, List, [], ◌∷◌, ◌++◌, Option, Some, None, true, refl, sym, ap, subst, ◌∙◌, append_assoc, append-nil, inl, inr}
use Rattle.sms_centre_spec.specs.declared.jobs.job.Job.{Job}
use Rattle.sms_centre_spec.specs.declared.jobs.reply.Reply.{Reply}
use Rattle.sms_seats.specs.declared.jobs.Letter.{Letter}
use Rattle.sms_seats.specs.declared.seat.Seat.{Seat}
use Rattle.sms_seats.specs.Jobs.{has_end, jobs_among, of}
use Rattle.sms_seats.specs.Seats.{IsSameSeat, number_of, put_by, taken_by}
use Rattle.sms_keeper.specs.History.{for_seat, work}
use Rattle.smsc_loop.specs.Calls.{Call}
use Rattle.smsc_loop.specs.Calls.{jobs_put, replies_taken}
use Rattle.smsc_loop.specs.Courses.{Did, Standing}
use Rattle.smsc_loop.specs.Emptying.{Drops}
use Rattle.smsc_loop.specs.Owing.{IsCleared}
use Rattle.smsc_loop.proofs.Joins.{jobs_put_join, replies_taken_join, seat_same, seat_trans}
use Rattle.smsc_arrivals.specs.declared.arrival.Arrival.{Arrival}
use Rattle.smsc_server.specs.serving.Connections.{Admitted, Connection, Session, Link, TurnedAway, HasSat, Sits, calls_of, came_as}
use Rattle.smsc_server.specs.serving.Sittings.{AllSatDown, HaveSat, InTurn, IsHandedBack, SatDown, SeatDid, arrivals_of, jobs_by, replies_to}

-- what some calls did at a seat
record DidAt (calls : List Call) (s t : Seat Job Reply) : Type 0 where
  pub put : put_by t ≡ put_by s ++ jobs_put calls
  pub taken : taken_by t ≡ taken_by s ++ replies_taken calls
  pub seat : IsSameSeat s t

at_ends : (calls : List Call) (r s t u : Seat Job Reply) → r ≡ s → t ≡ u → DidAt calls r t → DidAt calls s u
at_ends calls r s t u e f d = subst (λ (x : Seat Job Reply). DidAt calls s x) f (subst (λ (x : Seat Job Reply). DidAt calls x t) e d)

did_at : {V : Type 0} (does : Call → V → V → Type 0) (r s t : Standing V) (p : Did does r s) (q : Did does s t) → DidAt (p.calls ++ q.calls) r.seat t.seat
did_at does r s t p q = record {
  put = q.put_so ∙ (ap (λ (l : List (Option Job)). l ++ jobs_put q.calls) p.put_so
      ∙ (append_assoc (put_by r.seat) (jobs_put p.calls) (jobs_put q.calls) ∙ ap (λ (l : List (Option Job)). put_by r.seat ++ l) (sym (jobs_put_join p.calls q.calls))));
  taken = q.taken_so ∙ (ap (λ (l : List Reply). l ++ replies_taken q.calls) p.taken_so
      ∙ (append_assoc (taken_by r.seat) (replies_taken p.calls) (replies_taken q.calls)
      ∙ ap (λ (l : List Reply). taken_by r.seat ++ l) (sym (replies_taken_join p.calls q.calls))));
  seat = seat_trans r.seat s.seat t.seat p.seat_so q.seat_so;
}

pub jobs_join : (a b : List (Option Job)) → jobs_among (a ++ b) ≡ jobs_among a ++ jobs_among b
jobs_join [] b = refl
jobs_join (None ∷ a) b = jobs_join a b
jobs_join (Some job ∷ a) b = ap (λ (l : List Job). job ∷ l) (jobs_join a b)

-- a seat that was not used
pub cleared_first : (s t : Seat Job Reply) → t ≡ s → put_by s ≡ [] → taken_by s ≡ [] → IsCleared (put_by t) (taken_by t)
cleared_first s t e none nothing =
    subst (λ (l : List (Option Job)). IsCleared l (taken_by t)) (sym (ap put_by e ∙ none))
    (subst (λ (l : List Reply). IsCleared [] l) (sym (ap taken_by e ∙ nothing)) (refl, refl, refl, refl))

pub same_from : (s r t u : Seat Job Reply) → r ≡ s → IsSameSeat r t → IsSameSeat t u → IsSameSeat s u
same_from s r t u e h k = subst (λ (x : Seat Job Reply). IsSameSeat x u) e (seat_trans r t u h k)

module _ {S : Type 0} (remaining contents : S → Option (List ℕ)) (admitted : Admitted) where
  sat_at : (s : Seat Job Reply) (c : Connection remaining contents admitted) (t : Seat Job Reply) → Sits remaining contents admitted s c t
      → DidAt (calls_of remaining contents admitted c) s t
  sat_at s (Session accounts may visit) t h = at_ends _ visit.seat s visit.seat_then t h.0 h.1 (did_at _ _ _ _ visit.served.served visit.served.left)
  sat_at s (Link visit) t h = at_ends _ visit.seat s visit.seat_then t h.0 h.1 (did_at _ _ _ _ visit.served.served visit.served.left)
  sat_at s (TurnedAway arrival) t h = at_ends _ s s s t refl (sym h) (record { put = sym (append-nil (put_by s)); taken = sym (append-nil (taken_by s)); seat = seat_same s })

  jobs_more : (cs : List (Connection remaining contents admitted)) (c : Connection remaining contents admitted)
      → jobs_by remaining contents admitted (cs ++ c ∷ []) ≡ jobs_by remaining contents admitted cs ++ jobs_put (calls_of remaining contents admitted c)
  jobs_more [] c = append-nil (jobs_put (calls_of remaining contents admitted c))
  jobs_more (first ∷ cs) c =
      ap (λ (l : List (Option Job)). jobs_put (calls_of remaining contents admitted first) ++ l) (jobs_more cs c)
      ∙ sym (append_assoc (jobs_put (calls_of remaining contents admitted first)) (jobs_by remaining contents admitted cs) (jobs_put (calls_of remaining contents admitted c)))

  replies_more : (cs : List (Connection remaining contents admitted)) (c : Connection remaining contents admitted)
      → replies_to remaining contents admitted (cs ++ c ∷ []) ≡ replies_to remaining contents admitted cs ++ replies_taken (calls_of remaining contents admitted c)
  replies_more [] c = append-nil (replies_taken (calls_of remaining contents admitted c))
  replies_more (first ∷ cs) c =
      ap (λ (l : List Reply). replies_taken (calls_of remaining contents admitted first) ++ l) (replies_more cs c)
      ∙ sym (append_assoc (replies_taken (calls_of remaining contents admitted first)) (replies_to remaining contents admitted cs) (replies_taken (calls_of remaining contents admitted c)))

  cleared : (put put_then : List (Option Job)) (taken taken_then : List Reply) → put ≡ put_then → taken ≡ taken_then → IsCleared put taken → IsCleared put_then taken_then
  cleared put put_then taken taken_then e f h =
      subst (λ (l : List Reply). IsCleared put_then l) f (subst (λ (l : List (Option Job)). IsCleared l taken) e h)

  turn_more : (put : List (Option Job)) (taken : List Reply) (cs : List (Connection remaining contents admitted)) (c : Connection remaining contents admitted)
      → InTurn remaining contents admitted put taken cs → IsCleared (put ++ jobs_by remaining contents admitted cs) (taken ++ replies_to remaining contents admitted cs)
      → InTurn remaining contents admitted put taken (cs ++ c ∷ [])
  turn_more put taken [] c h e = (cleared _ _ _ _ (append-nil put) (append-nil taken) e, tt)
  turn_more put taken (first ∷ cs) c h e =
      let x = calls_of remaining contents admitted first in (
        h.0,
        turn_more (put ++ jobs_put x) (taken ++ replies_taken x) cs c h.1
            (cleared _ _ _ _ (sym (append_assoc put (jobs_put x) (jobs_by remaining contents admitted cs))) (sym (append_assoc taken (replies_taken x) (replies_to remaining contents admitted cs))) e),
      )

  sat_as : (put put_then : List (Option Job)) (taken taken_then : List Reply) (c : Connection remaining contents admitted) → put ≡ put_then → taken ≡ taken_then
      → SatDown remaining contents admitted put taken c → SatDown remaining contents admitted put_then taken_then c
  sat_as put put_then taken taken_then c e f h =
      subst (λ (l : List Reply). SatDown remaining contents admitted put_then l c) f (subst (λ (l : List (Option Job)). SatDown remaining contents admitted l taken c) e h)

  down_more : (put : List (Option Job)) (taken : List Reply) (cs : List (Connection remaining contents admitted)) (c : Connection remaining contents admitted)
      → AllSatDown remaining contents admitted put taken cs
      → SatDown remaining contents admitted (put ++ jobs_by remaining contents admitted cs) (taken ++ replies_to remaining contents admitted cs) c
      → AllSatDown remaining contents admitted put taken (cs ++ c ∷ [])
  down_more put taken [] c h e = (sat_as _ _ _ _ c (append-nil put) (append-nil taken) e, tt)
  down_more put taken (first ∷ cs) c h e =
      let x = calls_of remaining contents admitted first in (
        h.0,
        down_more (put ++ jobs_put x) (taken ++ replies_taken x) cs c h.1
            (sat_as _ _ _ _ c (sym (append_assoc put (jobs_put x) (jobs_by remaining contents admitted cs))) (sym (append_assoc taken (replies_taken x) (replies_to remaining contents admitted cs))) e),
      )

  -- a connection sits down at the seat as it is
  down_at : (s : Seat Job Reply) (c : Connection remaining contents admitted) (t : Seat Job Reply) → Sits remaining contents admitted s c t
      → SatDown remaining contents admitted (put_by s) (taken_by s) c
  down_at s (Session accounts may visit) t h = (ap put_by h.0, ap taken_by h.0)
  down_at s (Link visit) t h = (ap put_by h.0, ap taken_by h.0)
  down_at s (TurnedAway arrival) t h = tt

  arrivals_more : (cs : List (Connection remaining contents admitted)) (c : Connection remaining contents admitted)
      → arrivals_of remaining contents admitted (cs ++ c ∷ []) ≡ arrivals_of remaining contents admitted cs ++ came_as remaining contents admitted c ∷ []
  arrivals_more [] c = refl
  arrivals_more (first ∷ cs) c = ap (λ (l : List (Arrival S)). came_as remaining contents admitted first ∷ l) (arrivals_more cs c)

  pub sat_none : (s : Seat Job Reply) (a : List (Arrival S)) → HaveSat remaining contents admitted s s a a
  sat_none s a = record {
    connections = [];
    sat_down = tt;
    in_turn = tt;
    came = sym (append-nil a);
    put = sym (append-nil (put_by s));
    taken = sym (append-nil (taken_by s));
    seat = seat_same s;
  }

  -- no other connection came
  pub sat_same : (s t : Seat Job Reply) (a b c : List (Arrival S)) → c ≡ b → HaveSat remaining contents admitted s t a b → HaveSat remaining contents admitted s t a c
  sat_same s t a b c e h = subst (λ (l : List (Arrival S)). HaveSat remaining contents admitted s t a l) (sym e) h

  pub sat_more : (s t u : Seat Job Reply) (a b d : List (Arrival S)) (x : Arrival S) → HaveSat remaining contents admitted s t a b → IsCleared (put_by t) (taken_by t)
      → d ≡ b ++ x ∷ [] → HasSat remaining contents admitted x t u → HaveSat remaining contents admitted s u a d
  sat_more s t u a b d x h e f k =
      let c = k.0 in let did = sat_at t k.0 u k.2 in record {
        connections = h.connections ++ c ∷ [];
        sat_down = down_more (put_by s) (taken_by s) h.connections c h.sat_down (sat_as _ _ _ _ c h.put h.taken (down_at t k.0 u k.2));
        in_turn = turn_more (put_by s) (taken_by s) h.connections c h.in_turn (cleared _ _ _ _ h.put h.taken e);
        came = f ∙ (ap (λ (l : List (Arrival S)). l ++ x ∷ []) h.came
            ∙ (append_assoc a (arrivals_of remaining contents admitted h.connections) (x ∷ [])
            ∙ ap (λ (l : List (Arrival S)). a ++ l)
            (ap (λ (y : Arrival S). arrivals_of remaining contents admitted h.connections ++ y ∷ []) (sym k.1) ∙ sym (arrivals_more h.connections c))));
        put = did.put ∙ (ap (λ (l : List (Option Job)). l ++ jobs_put (calls_of remaining contents admitted c)) h.put
            ∙ (append_assoc (put_by s) _ _ ∙ ap (λ (l : List (Option Job)). put_by s ++ l) (sym (jobs_more h.connections c))));
        taken = did.taken ∙ (ap (λ (l : List Reply). l ++ replies_taken (calls_of remaining contents admitted c)) h.taken
            ∙ (append_assoc (taken_by s) _ _ ∙ ap (λ (l : List Reply). taken_by s ++ l) (sym (replies_more h.connections c))));
        seat = seat_trans s t u h.seat did.seat;
      }

  -- ---- the seat comes back

  closed_jobs : (put put_then : List (Option Job)) → (put_then ≡ put) ⊎ (put_then ≡ put ++ None ∷ []) → jobs_among put_then ≡ jobs_among put
  closed_jobs put put_then (inl e) = ap jobs_among e
  closed_jobs put put_then (inr e) = ap jobs_among e ∙ (jobs_join put (None ∷ []) ∙ append-nil (jobs_among put))

  pub handed_back : (s t r : Seat Job Reply) (a b : List (Arrival S)) → put_by s ≡ [] → taken_by s ≡ [] → a ≡ [] → HaveSat remaining contents admitted s t a b
      → (put_by r ≡ put_by t) ⊎ (put_by r ≡ put_by t ++ None ∷ []) → Drops (taken_by t) (taken_by r) → IsHandedBack remaining contents admitted r b
  handed_back s t r a b none nothing new h closed dropped = record {
    connections = h.connections;
    came = h.came ∙ ap (λ (l : List (Arrival S)). l ++ arrivals_of remaining contents admitted h.connections) new;
    sat_down = subst (λ (l : List Reply). AllSatDown remaining contents admitted [] l h.connections) nothing
        (subst (λ (l : List (Option Job)). AllSatDown remaining contents admitted l (taken_by s) h.connections) none h.sat_down);
    in_turn = subst (λ (l : List Reply). InTurn remaining contents admitted [] l h.connections) nothing
        (subst (λ (l : List (Option Job)). InTurn remaining contents admitted l (taken_by s) h.connections) none h.in_turn);
    put = closed_jobs (put_by t) (put_by r) closed
        ∙ ap jobs_among (h.put ∙ ap (λ (l : List (Option Job)). l ++ jobs_by remaining contents admitted h.connections) none);
    untaken = dropped.0;
    taken = dropped.1 ∙ ap (λ (l : List Reply). l ++ dropped.0) (h.taken ∙ ap (λ (l : List Reply). l ++ replies_to remaining contents admitted h.connections) nothing);
  }

  pub seat_did : (n m : ℕ) (r : Seat Job Reply) (ran : List (Letter Job)) (given : ℕ → List Reply) (took : List (Arrival S)) → m ≡ n → IsHandedBack remaining contents admitted r took
      → (has_end (of m ran) ≡ true → for_seat m (work ran) ≡ jobs_among (put_by r))
      → ((rest : List Reply) × (given m ≡ taken_by r ++ rest)) → has_end (of n ran) ≡ true
      → SeatDid remaining contents admitted (for_seat n (work ran)) (given n) took
  seat_did n m r ran given took is h run taken closed = record {
    connections = h.connections;
    came = h.came;
    sat_down = h.sat_down;
    in_turn = h.in_turn;
    jobs = ap (λ (k : ℕ). for_seat k (work ran)) (sym is) ∙ (run (ap (λ (k : ℕ). has_end (of k ran)) is ∙ closed) ∙ h.put);
    untaken = h.untaken ++ taken.0;
    replies = ap given (sym is) ∙ (taken.1 ∙ (ap (λ (l : List Reply). l ++ taken.0) h.taken ∙ append_assoc (replies_to remaining contents admitted h.connections) h.untaken taken.0));
  }

  pub did_same : (ran ran_then : List Job) (given given_then : List Reply) (took took_then : List (Arrival S)) → ran_then ≡ ran → given_then ≡ given → took_then ≡ took
      → SeatDid remaining contents admitted ran given took → SeatDid remaining contents admitted ran_then given_then took_then
  did_same ran ran_then given given_then took took_then e f g h = record {
    connections = h.connections;
    came = g ∙ h.came;
    sat_down = h.sat_down;
    in_turn = h.in_turn;
    jobs = e ∙ h.jobs;
    untaken = h.untaken;
    replies = f ∙ h.replies;
  }
