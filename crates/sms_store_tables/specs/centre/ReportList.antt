-- Receipts and status reports, in the order in which they were made.
use Rattle.std.specs.Prelude.{◌≡◌, ℕ, ◌++◌, ◌==◌, ℤ, List, [], ◌∷◌, codes, refl}
use Rattle.std.specs.List.{list_all}
use Rattle.sqlite.specs.declared.types.Value.TheVariants.{Int, Text}
use Rattle.sqlite_value.specs.Order.{column}
use Rattle.sqlite.specs.Term.{Term, holds}
use Rattle.sqlite.specs.Command.TheVariants.{Select}
use Rattle.sqlite.specs.Listing.{understood}
use Rattle.sqlite_tied.specs.Compute.{everything}
use Rattle.sms_base.specs.MessageId.{IsMessageId}
use Rattle.sms_base.specs.TimeStamp.{IsMoment}
use Rattle.sms_store_sql.specs.listing.Columns.{number, number_in, text_in, flag}
use Rattle.sms_store_sql.specs.listing.Finding.{FindsOne}
use Rattle.sms_store_sql.specs.listing.Seeking.{SeeksBy}
use Rattle.sms_store_sql.specs.listing.Listing.{rows_where, ListOf, IsList, given_from, columns_of, equals}
use Rattle.sms_store_sql.proofs.listing.Columns.{one_found, cast_int, cast_flag}
use Rattle.sms_store_tables.specs.centre.CentreSchema.{centre_schema, report_plan}
use Rattle.sms_store_tables.specs.centre.Types.{ReportRow}
use Rattle.sms_store_tables.specs.centre.Pieces.{IsStoredKind, IsStoredProgress, kind_word, kind_reference, kind_tpdu, kind_in, kind_back, reference_stays}
use Rattle.sms_store_tables.specs.centre.Pieces.{progress_in, progress_back, progress_columns, progress_names}
use Rattle.sms_store_tables.specs.amending.Amending.{AmendsOne, ChangesColumns, FindsToAmend}
use Rattle.sms_centre_rows.specs.reports.Reports.{report_reaching}
use Rattle.sms_store_sql.specs.tabled.Tabled.{Computes, IsCompiledTo, IsReadBack, computed, rows_by_one, tabled}
use Rattle.sms_store_sql.proofs.tabled.Listed.{listed}
use Rattle.sms_store_sql.specs.tabled.Texts.{find_text, amend_text, seek_text}

-- a report with its numbers in their ranges
pub record IsStoredReport (r : ReportRow) : Type 0 where
  pub id : IsMessageId r.id
  pub kind : IsStoredKind r.kind
  pub made : IsMoment r.made
  pub progress : IsStoredProgress r.progress

abbrev pub report_list : ListOf ReportRow
report_list =
    rows_by_one ReportRow (tabled centre_schema 5 10 report_plan) (λ x. x.place)
    (λ r. number r.place ∷ number r.id ∷ Text (kind_word r.kind) ∷ kind_reference r.kind ∷ kind_tpdu r.kind ∷ number r.made ∷ flag r.progress.is_done
    ∷ number r.progress.attempts ∷ number r.progress.due ∷ [])
    (λ row. record {
      place = number_in (column row 0);
      id = number_in (column row 1);
      kind = kind_in (text_in (column row 2)) (column row 3) (column row 4);
      made = number_in (column row 5);
      progress = progress_in (column row 6) (column row 7) (column row 8);
    })
    IsStoredReport

-- ---- what the rows are

reads_back : IsReadBack report_list
reads_back x fits =
    let k = kind_back x.kind in
    let p = progress_back x.progress in
    λ i. record { place = x.place; id = x.id; kind = k i; made = x.made; progress = p i }

computes : Computes report_list
unfolding understood everything
computes = (
  computed report_list.table refl (refl, (refl, refl)) (refl, (refl, refl)) (refl, (refl, refl)) (refl, (refl, refl)) refl (λ d. refl) (λ k o n. refl) refl,
  λ x id new y. refl,
)

pub report_is_list : IsList report_list
report_is_list =
    listed report_list computes (λ x. refl) (λ id x. refl) (λ x id y. refl)
    (λ x. (cast_int _, (cast_int _, (refl, (reference_stays x.kind, (refl, (cast_int _, (cast_flag x.progress.is_done, (cast_int _, (cast_int _, tt))))))))))
    (λ n id x fits. one_found x.place n) (λ x id y fits suits. one_found y.place x.place)
    reads_back

-- ---- the row of a key

abbrev pub find_report : List ℕ
find_report = find_text report_plan

pub report_is_found : FindsOne report_list find_report
unfolding understood everything
report_is_found = record { selects = refl; alone = (refl, refl); is_no_listing = refl; read = λ params id x. refl }

-- ---- how far it is

abbrev pub amend_report : List ℕ
amend_report = amend_text report_plan progress_names

-- its other columns stay
abbrev pub report_amended : List Term
report_amended = columns_of 6 ++ given_from 1 3

amending : ChangesColumns report_list amend_report report_amended
unfolding understood everything
amending = (refl, (refl, refl))

amend_finds : FindsToAmend report_list progress_columns
amend_finds n q id x fits = one_found x.place n

pub report_amends : AmendsOne report_list amend_report report_reaching progress_columns report_amended
report_amends =
    record {
      updates = amending.0;
      alone = amending.1;
      finds = amend_finds;
      gives_columns = λ n q id x. refl;
      same_key = λ q x. refl;
      still_fits = λ q x far fits. record { id = fits.id; kind = fits.kind; made = fits.made; progress = far };
    }

-- ---- the rows of a message

abbrev pub report_message : ReportRow → ℕ
report_message r = r.id

abbrev pub seek_report : List ℕ
seek_report = seek_text report_plan (codes "message")

abbrev pub message_tests : List Term
message_tests = equals 2 0 ∷ []

seeking : IsCompiledTo report_list.table seek_report
    (Select (record { lets = []; body = rows_where report_list.table.tree message_tests report_list.table.projected }) report_list.table.names)
unfolding understood everything
seeking = (refl, (refl, refl))

seek_finds : (n : ℕ) (id : ℤ) (x : ReportRow) → report_list.Fits x
    → list_all (holds ((number n ∷ []) ∷ (Int id ∷ report_list.columns x) ∷ [])) message_tests ≡ (report_message x == n)
seek_finds n id x fits = one_found x.id n

pub report_is_sought : SeeksBy report_list report_message seek_report message_tests
unfolding understood everything
report_is_sought = record { selects = seeking.0; alone = seeking.1; is_no_listing = refl; finds = seek_finds; read = λ params id x. refl }
