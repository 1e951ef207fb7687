use Rattle.std.proofs.Common.{◌∙◌, ap, length, arith}
use Rattle.sms_concat.proofs.joiner.Stepwise.{inserted_at}
use Rattle.sms_concat.proofs.joiner.insert.Goals as goal
use Rattle.sms_concat.proofs.joiner.insert.Goals.{in-Ok, in-Err}

pub returns-clause-items : goal.returns-clause-items
returns-clause-items c = elim c.match-insert.branch [
  | in-Ok w ↦
      w.in-Ok.ensures.items
      ∙ inserted_at c.args.part c.args.parts.now.items c.as_slice.result.now c.place_of-place.result c.number_of.result c.number_of.ensures c.as_slice.ensures.value c.place_of-place.ensures
  | in-Err w ↦ let same = ap length c.as_slice.ensures.value in absurd (omega (arith, w.in-Err.ensures.full, c.requires, c.as_slice.ensures.len, same))
]
