-- Whether a centre can start with a setup, and whether moments and originators of rows are such as it can start with.
use Rattle.std.specs.Prelude.{◌≡◌, ℕ, ◌&&◌, nat_le, List, Bool, true}
use Rattle.std.specs.List.{list_all}
use Rattle.sms_base.specs.declared.address.Address.{Address}
use Rattle.sms_base.specs.declared.originator.Originator.{Originator}
use Rattle.sms_base.specs.declared.originator.Originator.TheVariants.{Application, Handset}
use Rattle.sms_centre_rows.specs.declared.messages.message.MessageRow.{MessageRow}
use Rattle.sms_centre_rows.specs.declared.reports.report.ReportRow.{ReportRow}
use Rattle.sms_centre_rows.specs.declared.waiting.reference.ReferenceRow.{ReferenceRow}
use Rattle.sms_intake.specs.declared.submission.CentreAccount.{CentreAccount}
use Rattle.sms_centre_spec.specs.declared.setup.Setup.{Setup}
use Rattle.sms_centre_rows.specs.conditions.AddressTest.{is_address}
use Rattle.sms_centre_rows.specs.conditions.MessageTest.{is_handset}

abbrev pub is_moment : ℕ → Bool
is_moment n = nat_le 946684800 n && nat_le n 4102444799

abbrev pub has_address : CentreAccount → Bool
has_address a = is_address a.address

abbrev pub is_setup : Setup → Bool
is_setup setup = (is_address setup.centre && is_moment setup.start) && list_all has_address setup.accounts

abbrev pub is_submitted : MessageRow → Bool
is_submitted m = is_moment m.submitted

abbrev pub is_dated : ReferenceRow → Bool
is_dated r = is_moment r.last

abbrev pub is_made : ReportRow → Bool
is_made r = is_moment r.made

-- a status report can be sent there
abbrev pub has_report_address : Originator → Address → Bool
has_report_address (Application account) source = true
has_report_address (Handset message_reference) source = is_handset source.digits

abbrev pub is_reportable : MessageRow → Bool
is_reportable m = has_report_address m.originator m.source

pub record TimesPass (messages : List MessageRow) (references : List ReferenceRow) (reports : List ReportRow) : Type 0 where
  pub submitted : list_all is_submitted messages ≡ true
  pub dated : list_all is_dated references ≡ true
  pub made : list_all is_made reports ≡ true
