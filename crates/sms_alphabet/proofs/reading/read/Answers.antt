use Rattle.std.proofs.Common.{◌≡◌, ◌∙◌, ap, sym, true, refl}
use Rattle.std.specs.Prelude.{nat_lt}
use Rattle.std.specs.List.{list_all}
use Rattle.std.specs.Str.{chars}
use Rattle.sms_alphabet.specs.TextReading.{text_read}
use Rattle.sms_alphabet.proofs.TextReads.{text_characters}
use Rattle.sms_alphabet.proofs.reading.read.Goals as goal

pub returns : goal.returns
unfolding text_read
returns c =
    let test : list_all (λ septet. nat_lt septet 128) c.args.septets.now ≡ true = sym c.are_septets.ensures ∙ c.if-not-are_septets.false in
    let read = ap chars c.in_ok-text_of_septets.ensures ∙ text_characters c.args.septets.now test in
    rw (test, read) refl
