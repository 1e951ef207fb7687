use Rattle.std.proofs.Common.{◌≡◌, ◌∙◌, [], drop, nat_eq, sym, ap, arith}
use Rattle.std.specs.Map.{lookup}
use Rattle.std.proofs.Math.ListN.{drop_of_length-le}
use Rattle.sms_centre_rows.specs.conditions.WaitingTest.{place_from}
use Rattle.sms_centre_rows.proofs.conditions.waiting_rows.places_of.Goals as goal

pub returns : goal.returns
returns c key =
    let none : drop c.loop-handset.handset-index c.args.handsets.now ≡ [] = drop_of_length-le c.args.handsets.now (omega (arith, c.loop-handset-test.false)) in
    sym (ap (λ hs. place_from key hs (lookup (nat_eq key) c.loop-handset.places.entries)) none) ∙ c.loop-handset.invariant key
