use Rattle.std.proofs.Common.{◌∙◌, ap, arith, chars, encode_utf8_all, length, refl, rules}
use Rattle.std.proofs.lemmas.Str.{chars-encodes}
use Rattle.sms_store_sql.specs.listing.Columns.{text_in}
use Rattle.sms_store_sql.proofs.listing.reading.digits_at.Goals as goal

pub returns-in_err-text-clause-only : goal.returns-in_err-text-clause-only
returns-in_err-text-clause-only c digits few has =
    let lacks = c.in_err-text.ensures.only (encode_utf8_all digits) (digits, (few.are, refl)) has in
    search (rules, lacks)

pub returns-in-None-clause-only : goal.returns-in-None-clause-only
returns-in-None-clause-only c digits few has =
    let spelled = c.in_ok-text.ensures.value ∙ ap text_in has.is in
    let same = ap (λ text. length (chars text)) spelled ∙ ap length (chars-encodes digits few.are) in
    absurd (omega (arith, same, few.few, c.in-None.ensures.none))
