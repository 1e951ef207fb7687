use Rattle.std.proofs.Common.{arith, ap}
use Rattle.std.proofs.lemmas.Bool.{leb-true}
use Rattle.sms_rows.proofs.table.Places.{none_lower}
use Rattle.sms_rows.proofs.table.beside.none_is_lower.Goals as goal

pub returns : goal.returns
returns g c e =
    let at = ap g.T.Row.key c.index-rows-place.is in
    let above = leb-true _ _ e in
    none_lower g.T.Row.key c.args.key c.args.place c.args.rows.now c.index-rows-place.result c.requires (omega arith) (omega (arith, at, above, c.key.ensures, c.number.ensures, c.number-2.ensures))
