use Rattle.std.proofs.Common.{◌∙◌}
use Rattle.std.specs.Str.{chars}
use Rattle.std.proofs.lemmas.Str.{scalars-chars}
use Rattle.sms_concat.proofs.Tallies.{text_counts}
use Rattle.sms_concat.proofs.counting.count_text_parts.Goals as goal

pub returns : goal.returns
returns c = λ reference. c.tally_text.ensures ∙ text_counts (chars c.args.text.now) reference (scalars-chars c.args.text.now c.utf8.text)
