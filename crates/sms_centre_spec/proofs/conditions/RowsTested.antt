-- The tests of the setup, of moments and of originators hold exactly where a centre can stand on them.
use Rattle.std.proofs.Common.{◌≡◌, ℕ, List, true, refl}
use Rattle.std.specs.List.{list_all}
use Rattle.std.specs.Prelude.{◌&&◌, nat_le}
use Rattle.std.proofs.lemmas.Bool.{and_from, and_parts, le-leb, leb-true}
use Rattle.sms_base.specs.Among.{Among}
use Rattle.sms_base.specs.declared.address.Address.{Address}
use Rattle.sms_base.specs.declared.originator.Originator.{Originator}
use Rattle.sms_base.specs.declared.originator.Originator.TheVariants.{Application, Handset}
use Rattle.sms_base.specs.HandsetNumber.{own_address}
use Rattle.sms_base.specs.TimeStamp.{IsMoment}
use Rattle.sms_centre_rows.specs.declared.messages.message.MessageRow.{MessageRow}
use Rattle.sms_centre_rows.specs.declared.reports.report.ReportRow.{ReportRow}
use Rattle.sms_centre_rows.specs.declared.waiting.reference.ReferenceRow.{ReferenceRow}
use Rattle.sms_centre_spec.specs.declared.setup.Setup.{Setup}
use Rattle.sms_centre_spec.specs.SoundRows.{AreTimes, HasReportAddress, IsSetup}
use Rattle.sms_centre_rows.specs.conditions.AddressTest.{is_address}
use Rattle.sms_centre_spec.specs.conditions.RowsTest.{TimesPass, has_report_address, has_address, is_dated, is_made, is_moment, is_setup, is_submitted, is_reportable}
use Rattle.sms_centre_rows.proofs.conditions.AddressTested.{address_from, address_to}
use Rattle.sms_centre_rows.proofs.conditions.Passing.{each_from, each_to}

moment_from : (n : ℕ) → is_moment n ≡ true → IsMoment n
moment_from n e = let a = and_parts (nat_le 946684800 n) (nat_le n 4102444799) e in record { from_2000 = leb-true 946684800 n a.0; to_2099 = leb-true n 4102444799 a.1 }

moment_to : (n : ℕ) → IsMoment n → is_moment n ≡ true
moment_to n is = and_from (nat_le 946684800 n) (nat_le n 4102444799) (le-leb 946684800 n is.from_2000) (le-leb n 4102444799 is.to_2099)

pub setup_from : (setup : Setup) → is_setup setup ≡ true → IsSetup setup
setup_from setup e =
    let a = and_parts (is_address setup.centre && is_moment setup.start) (list_all has_address setup.accounts) e in
    let b = and_parts (is_address setup.centre) (is_moment setup.start) a.0 in
    record { centre = address_from setup.centre b.0; start = moment_from setup.start b.1; accounts = λ x m. address_from x.address (each_from has_address setup.accounts a.1 x m) }

pub setup_to : (setup : Setup) → IsSetup setup → is_setup setup ≡ true
setup_to setup is =
    and_from (is_address setup.centre && is_moment setup.start) (list_all has_address setup.accounts)
    (and_from (is_address setup.centre) (is_moment setup.start) (address_to setup.centre is.centre) (moment_to setup.start is.start))
    (each_to has_address setup.accounts (λ x m. address_to x.address (is.accounts x m)))

pub times_from : (ms : List MessageRow) (refs : List ReferenceRow) (rs : List ReportRow) → TimesPass ms refs rs → AreTimes ms refs rs
times_from ms refs rs pass = record {
  submitted = λ m a. moment_from m.submitted (each_from is_submitted ms pass.submitted m a);
  given = λ r a. moment_from r.last (each_from is_dated refs pass.dated r a);
  made = λ r a. moment_from r.made (each_from is_made rs pass.made r a);
}

pub times_to : (ms : List MessageRow) (refs : List ReferenceRow) (rs : List ReportRow) → AreTimes ms refs rs → TimesPass ms refs rs
times_to ms refs rs are = record {
  submitted = each_to is_submitted ms (λ m a. moment_to m.submitted (are.submitted m a));
  dated = each_to is_dated refs (λ r a. moment_to r.last (are.given r a));
  made = each_to is_made rs (λ r a. moment_to r.made (are.made r a));
}

can_from : (o : Originator) (source : Address) → has_report_address o source ≡ true → HasReportAddress o source
can_from (Application account) source e = tt
can_from (Handset n) source e = address_from (own_address source.digits) e

can_to : (o : Originator) (source : Address) → HasReportAddress o source → has_report_address o source ≡ true
can_to (Application account) source is = refl
can_to (Handset n) source is = address_to (own_address source.digits) is

pub told_from : (ms : List MessageRow) → list_all is_reportable ms ≡ true → (m : MessageRow) → Among m ms → HasReportAddress m.originator m.source
told_from ms e m a = can_from m.originator m.source (each_from is_reportable ms e m a)

pub told_to : (ms : List MessageRow) → ((m : MessageRow) → Among m ms → HasReportAddress m.originator m.source) → list_all is_reportable ms ≡ true
told_to ms f = each_to is_reportable ms (λ m a. can_to m.originator m.source (f m a))
