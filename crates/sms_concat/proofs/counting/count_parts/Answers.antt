use Rattle.std.proofs.Common.{sym, ap, ◌∙◌, arith}
use Rattle.sms_concat.specs.Counting.{content_with, counted}
use Rattle.sms_concat.proofs.Numbering.{split_alone, split_refused}
use Rattle.sms_concat.proofs.Tallies.{pieces_counted, pieces_too_many}
use Rattle.sms_concat.proofs.counting.count_parts.Goals as goal

pub returns-then-units-from : goal.returns-then-units-from
returns-then-units-from c = λ dcs reference. sym (ap counted (split_alone (content_with c.args.coding dcs c.args.units.now) reference (omega arith)))

pub returns-then-is_compressed : goal.returns-then-is_compressed
returns-then-is_compressed c = λ dcs reference. sym (ap counted (split_refused (content_with c.args.coding dcs c.args.units.now) reference (omega arith) (sym c.is_compressed.ensures ∙ c.if-is_compressed.true)))

pub returns-in-Some : goal.returns-in-Some
returns-in-Some c = λ dcs reference. pieces_counted c.args.coding c.args.units.now c.in-Some.total dcs reference (omega arith) (sym c.is_compressed.ensures ∙ c.if-is_compressed.false) c.in-Some.ensures

pub returns-in-None : goal.returns-in-None
returns-in-None c = λ dcs reference. pieces_too_many c.args.coding c.args.units.now dcs reference (omega arith) (sym c.is_compressed.ensures ∙ c.if-is_compressed.false) c.in-None.ensures
