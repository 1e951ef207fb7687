-- What verdicts, orders and the state of a connection lead to.
use Rattle.std.specs.Prelude.{◌≡◌, ℕ, Bool, true, false, ◌||◌, ◌==◌, nat_lt, Option, Some, None, Result, Ok, is_ok, MatchResult, if◌then◌else◌}
use Rattle.smpp_session.specs.declared.patience.Patience.{Patience}
use Rattle.smpp_session.specs.declared.patience.WaitOutcome.{WaitOutcome}
use Rattle.smpp_session.specs.declared.patience.WaitOutcome.TheVariants.{Waits, AsksLink, Silent, Stalled, Unanswered, Inactive, Ordered}
use Rattle.smpp_session.specs.Patience.{is_within_some, since_first}
use Rattle.smsc_loop.specs.declared.note.LeaveReason.TheVariants.{Silent as SilentReason, Stalled as StalledReason, Unanswered as UnansweredReason}
use Rattle.smsc_loop.specs.declared.note.LeaveReason.TheVariants.{Inactive as InactiveReason, Ordered as OrderedReason, Replaced as ReplacedReason}
use Rattle.smsc_loop.specs.declared.surroundings.Order.{Order}
use Rattle.smsc_loop.specs.declared.surroundings.Order.TheVariants.{Stay, Unbind, End, Replaced}
use Rattle.smsc_loop.specs.declared.turn_end.TurnEnd.{TurnEnd}
use Rattle.smsc_loop.specs.declared.turn_end.TurnEnd.TheVariants.{Stays, Leaves}
use Rattle.smsc_loop.specs.Calls.{Call, AskedLink, AskedToLeave}

-- An endpoint that was asked to leave and still has answers to get is given seven seconds for them, and not five.
abbrev pub has_time : Patience → ℕ → Bool
has_time p now = is_within_some 7000 p.leaving now

-- since when octets wait that the wire does not take, by how many it took and how many wait
abbrev pub stalled_by : ℕ → ℕ → ℕ → Option ℕ → Option ℕ
stalled_by sent left now stalled = if left == 0 || nat_lt 0 sent then None else since_first stalled now

-- whether the verdict ends the turn so; an endpoint that is to leave stays while it waits for answers in time
abbrev pub end_by : WaitOutcome → Bool → TurnEnd
end_by Waits waits = Stays
end_by AsksLink waits = Stays
end_by Silent waits = Leaves SilentReason
end_by Stalled waits = Leaves StalledReason
end_by Unanswered waits = Leaves UnansweredReason
end_by Inactive waits = Leaves InactiveReason
end_by Ordered waits = if waits then Stays else Leaves OrderedReason

-- It stays where it was sent unbind, or still has answers to get.
abbrev pub Stood : Bool → ℕ → Patience → Patience → TurnEnd → Type 0
Stood true now p q end = (q ≡ record p { leaving = Some now }) × (end ≡ Stays)
Stood false now p q end = (q ≡ p) × (end ≡ Leaves OrderedReason)

module _ {V E : Type 0} (does : Call → V → V → Type 0) (owing : V → Bool) where
  -- Enquire_link is sent once: the patience counts from there.
  abbrev pub Heeds : WaitOutcome → Bool → ℕ → Patience → V → Patience → V → Result TurnEnd E → Type 0
  Heeds AsksLink waits now p v q w result =
      does (AskedLink (is_ok result)) v w × MatchResult result (λ end. (end ≡ Stays) × (q ≡ record p { asked = Some now })) (λ error. q ≡ p)
  Heeds verdict waits now p v q w result = (w ≡ v) × (q ≡ p) × (result ≡ Ok (end_by verdict waits))

  abbrev pub AsksToLeave : ℕ → Patience → V → Patience → V → Result TurnEnd E → Type 0
  AsksToLeave now p v q w result =
      MatchResult result (λ end. (asked : Bool) × does (AskedToLeave asked true) v w × Stood (asked || owing w) now p q end)
      (λ error. does (AskedToLeave false false) v w × (q ≡ p))

  -- The order to unbind is obeyed once.
  abbrev pub Unbinds : Option ℕ → ℕ → Patience → V → Patience → V → Result TurnEnd E → Type 0
  Unbinds (Some since) now p v q w result = (w ≡ v) × (q ≡ p) × (result ≡ Ok Stays)
  Unbinds None now p v q w result = AsksToLeave now p v q w result

  abbrev pub Obeys : Order → ℕ → Patience → V → Patience → V → Result TurnEnd E → Type 0
  Obeys Stay now p v q w result = (w ≡ v) × (q ≡ p) × (result ≡ Ok Stays)
  Obeys Unbind now p v q w result = Unbinds p.leaving now p v q w result
  Obeys End now p v q w result = (w ≡ v) × (q ≡ p) × (result ≡ Ok (Leaves OrderedReason))
  Obeys Replaced now p v q w result = (w ≡ v) × (q ≡ p) × (result ≡ Ok (Leaves ReplacedReason))
