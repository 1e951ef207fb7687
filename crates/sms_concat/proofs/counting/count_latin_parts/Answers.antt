use Rattle.std.proofs.Common.{ap, ◌∙◌, arith}
use Rattle.sms_base.proofs.OctetLaws.{are_octets}
use Rattle.sms_concat.specs.Counting.{text_outcome}
use Rattle.sms_concat.proofs.Tallies.{octets_scalar, text_counts}
use Rattle.sms_concat.proofs.counting.count_latin_parts.Goals as goal

pub returns : goal.returns
returns c = λ reference. c.parts.ensures ∙ ap text_outcome c.tally_latin.ensures ∙ text_counts c.args.octets.now reference (octets_scalar c.args.octets.now (are_octets c.args.octets.now (λ i. omega (arith, c.type_inv.octets i))))
