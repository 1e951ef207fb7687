use Rattle.std.proofs.Common.{◌≡◌, ℕ, drop, nat_eq, None}
use Rattle.std.specs.Map.{lookup}
use Rattle.sms_centre_rows.specs.conditions.WaitingTest.{place_from}
use Rattle.sms_centre_rows.proofs.conditions.waiting_rows.places_of.Given as goal

abbrev pub invariant-loop-handset : goal.invariant-loop-handset
invariant-loop-handset l = (key : ℕ) → place_from key (drop l.handset-index l.handsets) (lookup (nat_eq key) l.places.entries) ≡ place_from key l.handsets None
