use Rattle.std.proofs.Common.{◌∙◌, ap, rules, sym, subst}
use Rattle.sms_base.specs.Msisdn.{IsMsisdn}
use Rattle.sms_store_sql.specs.listing.Columns.{characters_in}
use Rattle.sms_store_sql.proofs.listing.Columns.{characters_back, digits_spelled}
use Rattle.sms_store_sql.proofs.listing.reading.handset_at.Goals as goal

pub returns-in_err-digits-clause-only : goal.returns-in_err-digits-clause-only
returns-in_err-digits-clause-only c digits number has =
    let lacks = c.in_err-digits.ensures.only digits (record { few = number.few; are = digits_spelled digits number.each }) has in
    search (rules, lacks)

pub returns-in-None-clause-only : goal.returns-in-None-clause-only
returns-in-None-clause-only c digits number has =
    let same = c.in_ok-digits.ensures.value ∙ ap characters_in has.is ∙ characters_back digits (digits_spelled digits number.each) in
    absurd (c.in-None.ensures (subst IsMsisdn (sym same) number))
