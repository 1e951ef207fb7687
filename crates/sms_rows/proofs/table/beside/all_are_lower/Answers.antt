use Rattle.std.proofs.Common.{arith, ap}
use Rattle.std.proofs.lemmas.Bool.{ltb-true}
use Rattle.sms_rows.proofs.table.Places.{all_lower}
use Rattle.sms_rows.proofs.table.beside.all_are_lower.Goals as goal

pub returns-clause-lower : goal.returns-clause-lower
returns-clause-lower g c e =
    let at = ap g.T.Row.key c.index-rows-place.is in
    let below = ltb-true _ _ e in
    all_lower g.T.Row.key c.args.key c.args.place c.args.rows.now c.index-rows-place.result c.requires (omega arith) (omega arith) (omega (arith, at, below, c.key.ensures, c.number.ensures, c.number-2.ensures))
