use Rattle.std.proofs.Common.{ap, ◌∙◌, arith}
use Rattle.sms_base.proofs.OctetLaws.{are_octets}
use Rattle.sms_concat.proofs.Tallies.{octets_scalar, text_fits}
use Rattle.sms_concat.specs.Counting.{text_fits_behind}
use Rattle.sms_concat.proofs.counting.latin_fits_behind.Goals as goal

pub returns : goal.returns
returns c = c.fits_behind.ensures ∙ ap (text_fits_behind c.args.header) c.tally_latin.ensures ∙ text_fits c.args.octets.now c.args.header (octets_scalar c.args.octets.now (are_octets c.args.octets.now (λ i. omega (arith, c.type_inv.octets i))))
