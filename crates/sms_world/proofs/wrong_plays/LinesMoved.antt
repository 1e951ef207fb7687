-- Lines and receipts that go, or change.
use Rattle.std.proofs.Common.{refl, sym, ◌∙◌, inl}
use Rattle.sms_centre_rows.specs.declared.report_lines.MessageState.TheVariants.{Enroute, Final}
use Rattle.sms_base.specs.declared.final_state.FinalState.TheVariants.{Delivered, Expired}
use Rattle.sms_world.proofs.wrong_reports.Apart.{delivered_is_not_expired, only_line}
use Rattle.sms_world.proofs.wrong_reports.GivenTwice.{refused as given_is_refused}
use Rattle.sms_world.proofs.wrong_reports.LineTwice.{refused as line_is_refused}
use Rattle.sms_world.specs.wrong_plays.Told.{GivenTwiceLaw, LineGoneLaw, LinesLaw, OtherEndLaw, OtherStateLaw, ReceiptGoneLaw, TwoReceiptsLaw}
use Rattle.sms_world.specs.wrong_reports.Literals.{line, receipt}

pub lines : LinesLaw
lines = line_is_refused

pub given : GivenTwiceLaw
given = given_is_refused

pub line_gone : LineGoneLaw
line_gone stay = (stay (line Enroute) (inl refl)).1.0

pub other_end : OtherEndLaw
other_end stay = delivered_is_not_expired (only_line (line (Final Delivered)) (Final Expired) (stay (line (Final Delivered)) Delivered (inl refl) refl))

pub receipt_gone : ReceiptGoneLaw
receipt_gone stay = stay receipt (inl refl)

pub other_state : OtherStateLaw
other_state have =
    let x = have receipt (inl refl) in delivered_is_not_expired (sym x.1.2 ∙ only_line x.0 (Final Expired) x.1.0)

pub two_receipts : TwoReceiptsLaw
two_receipts once = once.0 receipt (inl refl) refl
