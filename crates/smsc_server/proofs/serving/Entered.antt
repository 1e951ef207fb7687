-- What came at the listeners was given to the seats, step by step.
use Rattle.std.proofs.Common.{◌≡◌, ◌≢◌, Bool, true, false, true≢false, List, [], ◌∷◌, ◌++◌, Option, Some, None, Result, Ok, Err, refl, sym, ap, subst, ◌∙◌, append_assoc, append-nil}
use Rattle.std.specs.Prelude.{MatchOption, MatchResult}
use Rattle.std.specs.declared.net.socket_addr.SocketAddr.{SocketAddr}
use Rattle.smsc_arrivals.specs.Arriving.{HaveCome}
use Rattle.smsc_arrivals.specs.Ways.{IsSameTaker, given_by}
use Rattle.smsc_arrivals.proofs.Came.{came_join, came_none}
use Rattle.smsc_arrivals.specs.declared.arrival.Arrival.{Arrival}
use Rattle.smsc_arrivals.specs.declared.doors.Doors.{Doors}
use Rattle.smsc_arrivals.specs.declared.sharing.ends.Giver.{Giver}
use Rattle.smsc_arrivals.specs.declared.sharing.ends.Taker.{Taker}
use Rattle.smsc_server.specs.declared.serving.entrance.Entrance.{Entrance}
use Rattle.smsc_server.specs.serving.Entering.{HasSameSeats, HaveEntered, arrivals_among}
use Rattle.smsc_server.proofs.serving.ShareLists.{among_join}

module _ {T : Type 0} where
  pub seats_same : (a : Giver T) → HasSameSeats a a
  seats_same a = record { same = refl; made = refl; settled = refl; returned = refl }

  pub seats_trans : (a b c : Giver T) → HasSameSeats a b → HasSameSeats b c → HasSameSeats a c
  seats_trans a b c h k = record { same = k.same ∙ h.same; made = k.made ∙ h.made; settled = k.settled ∙ h.settled; returned = k.returned ∙ h.returned }

-- one more item was taken: a connection, or an end mark
pub next_taken : {A : Type 0} (old new : List (Option A)) (item : Option A) → new ≡ old ++ item ∷ []
    → MatchOption item (arrivals_among new ≡ arrivals_among old) (λ a. arrivals_among new ≡ arrivals_among old ++ a ∷ [])
next_taken old new None e = ap arrivals_among e ∙ (among_join old (None ∷ []) ∙ append-nil (arrivals_among old))
next_taken old new (Some a) e = ap arrivals_among e ∙ among_join old (Some a ∷ [])

module _ {T : Type 0} where
  pub taker_same : (a : Taker T) → IsSameTaker a a
  taker_same a = record { queue = refl; seat = refl }

  pub taker_trans : (a b c : Taker T) → IsSameTaker a b → IsSameTaker b c → IsSameTaker a c
  taker_trans a b c h k = record { queue = k.queue ∙ h.queue; seat = k.seat ∙ h.seat }

module _ {L S : Type 0} (came : L → Option (List (S × SocketAddr))) where
  pub entered_none : (start doors : Doors L) (e : Entrance L S) → doors ≡ start → e.doors ≡ doors → e.is_shut ≡ false → given_by e.giver ≡ [] → HaveEntered came start e
  entered_none start doors e is so shut none = record {
    lost = [];
    came_so = subst (λ (l : List (Arrival S)). HaveCome came start e.doors l) (sym (append-nil (arrivals_among (given_by e.giver)) ∙ ap arrivals_among none))
        (subst (λ (d : Doors L). HaveCome came start d []) (sym (so ∙ is)) (came_none came start));
    none_lost = λ is. refl;
  }

  -- nothing came, or an end mark was given
  pub entered_same : (start : Doors L) (a b : Entrance L S) → HaveEntered came start a → HaveCome came a.doors b.doors []
      → arrivals_among (given_by b.giver) ≡ arrivals_among (given_by a.giver) → b.is_shut ≡ a.is_shut → HaveEntered came start b
  entered_same start a b h none given shut = record {
    lost = h.lost;
    came_so = subst (λ (l : List (Arrival S)). HaveCome came start b.doors l)
        (append-nil (arrivals_among (given_by a.giver) ++ h.lost) ∙ ap (λ (l : List (Arrival S)). l ++ h.lost) (sym given))
        (came_join came start a.doors b.doors _ [] h.came_so none);
    none_lost = λ is. h.none_lost (sym shut ∙ is);
  }

  -- one more was given
  pub entered_more : (start middle : Doors L) (e : Entrance L S) (before : List (Option (Arrival S))) (x : Arrival S)
      → HaveCome came start middle (arrivals_among before) → HaveCome came middle e.doors (x ∷ []) → given_by e.giver ≡ before ++ Some x ∷ [] → HaveEntered came start e
  entered_more start middle e before x h k is = record {
    lost = [];
    came_so = subst (λ (l : List (Arrival S)). HaveCome came start e.doors l)
        (sym (append-nil (arrivals_among (given_by e.giver)) ∙ (ap arrivals_among is ∙ among_join before (Some x ∷ []))))
        (came_join came start middle e.doors (arrivals_among before) (x ∷ []) h k);
    none_lost = λ is. refl;
  }

  -- nobody took it
  pub entered_lost : (start middle : Doors L) (e : Entrance L S) (before : List (Option (Arrival S))) (x : Arrival S)
      → HaveCome came start middle (arrivals_among before) → HaveCome came middle e.doors (x ∷ []) → given_by e.giver ≡ before → e.is_shut ≡ true → HaveEntered came start e
  entered_lost start middle e before x h k is shut = record {
    lost = x ∷ [];
    came_so = subst (λ (l : List (Option (Arrival S))). HaveCome came start e.doors (arrivals_among l ++ x ∷ [])) (sym is)
        (came_join came start middle e.doors (arrivals_among before) (x ∷ []) h k);
    none_lost = λ is. absurd (true≢false (sym shut ∙ is));
  }

  -- where the entrance is open all that came was given
  pub all_given : (start : Doors L) (e : Entrance L S) → HaveEntered came start e → e.is_shut ≡ false → HaveCome came start e.doors (arrivals_among (given_by e.giver))
  all_given start e h is =
      subst (λ (l : List (Arrival S)). HaveCome came start e.doors l)
      (ap (λ (l : List (Arrival S)). arrivals_among (given_by e.giver) ++ l) (h.none_lost is) ∙ append-nil (arrivals_among (given_by e.giver))) h.came_so

  -- an end mark was given, or not
  pub given_mark : (start : Doors L) (a b : Entrance L S) (r : Result (Unit {0}) (Option (Arrival S))) → HaveEntered came start a → b.doors ≡ a.doors → b.is_shut ≡ a.is_shut
      → MatchResult r (λ done. given_by b.giver ≡ given_by a.giver ++ None ∷ []) (λ back. (back ≡ None) × (given_by b.giver ≡ given_by a.giver)) → HaveEntered came start b
  given_mark start a b (Ok done) h doors shut given =
      entered_same start a b h (subst (λ (d : Doors L). HaveCome came a.doors d []) (sym doors) (came_none came a.doors))
      (ap arrivals_among given ∙ (among_join (given_by a.giver) (None ∷ []) ∙ append-nil (arrivals_among (given_by a.giver)))) shut
  given_mark start a b (Err back) h doors shut given =
      entered_same start a b h (subst (λ (d : Doors L). HaveCome came a.doors d []) (sym doors) (came_none came a.doors)) (ap arrivals_among given.1) shut
