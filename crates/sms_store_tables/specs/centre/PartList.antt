-- The parts of messages.
use Rattle.std.specs.Prelude.{ℕ, ◌++◌, List, [], ◌∷◌, IfSome, refl}
use Rattle.sqlite.specs.declared.types.Value.TheVariants.{Blob}
use Rattle.sqlite_value.specs.Order.{column}
use Rattle.sqlite.specs.Term.{Term}
use Rattle.sqlite.specs.Listing.{understood}
use Rattle.sqlite_tied.specs.Compute.{everything}
use Rattle.sms_base.specs.MessageId.{IsMessageId}
use Rattle.sms_store_sql.specs.listing.Columns.{IsOctet, number, number_in, octets_in, flag, or_none}
use Rattle.sms_store_sql.specs.listing.Finding.{FindsOne}
use Rattle.sms_store_sql.specs.listing.Listing.{ListOf, IsList, given_from, columns_of}
use Rattle.sms_store_sql.proofs.listing.Columns.{cast_int, cast_flag, cast_optional}
use Rattle.sms_store_tables.specs.centre.CentreSchema.{centre_schema, part_plan}
use Rattle.sms_store_tables.specs.centre.Types.{PartRow, ConcatKey}
use Rattle.sms_rows.specs.table.Keys.{pair_key}
use Rattle.sms_store_tables.specs.centre.Pieces.{IsStoredKey, IsStoredProgress, reference_bits, reference_number, key_in, key_back, progress_in, progress_back}
use Rattle.sms_store_tables.specs.centre.Pieces.{progress_columns, progress_names}
use Rattle.sms_store_tables.specs.amending.Amending.{AmendsOne, ChangesColumns, FindsToAmend}
use Rattle.sms_centre_rows.specs.messages.Messages.{part_reaching}
use Rattle.sms_store_sql.specs.tabled.Tabled.{Computes, IsReadBack, computed, rows_by_two, tabled}
use Rattle.sms_store_sql.proofs.tabled.Listed.{SuitsKinds, listed}
use Rattle.sms_store_sql.proofs.tabled.TwoColumns.{two_found, two_meet}
use Rattle.sms_store_sql.specs.tabled.Texts.{find_text, amend_text}

-- a part with its numbers in their ranges
pub record IsStoredPart (p : PartRow) : Type 0 where
  pub id : IsMessageId p.id
  pub number : IsOctet p.number
  pub reference : IsOctet p.reference
  pub key : IfSome p.key IsStoredKey
  pub progress : IsStoredProgress p.progress

abbrev pub part_list : ListOf PartRow
part_list =
    rows_by_two PartRow (tabled centre_schema 2 4 part_plan) (λ x. pair_key x.id x.number)
    (λ p. number p.id ∷ number p.number ∷ number p.reference ∷ Blob p.tpdu ∷ or_none (λ (k : ConcatKey). number (reference_bits k.reference)) p.key
    ∷ or_none (λ (k : ConcatKey). number (reference_number k.reference)) p.key ∷ or_none (λ (k : ConcatKey). number k.total) p.key
    ∷ or_none (λ (k : ConcatKey). number k.number) p.key ∷ flag p.progress.is_done ∷ number p.progress.attempts ∷ number p.progress.due ∷ [])
    (λ row. record {
      id = number_in (column row 0);
      number = number_in (column row 1);
      reference = number_in (column row 2);
      tpdu = octets_in (column row 3);
      key = key_in (column row 4) (column row 5) (column row 6) (column row 7);
      progress = progress_in (column row 8) (column row 9) (column row 10);
    })
    IsStoredPart

-- ---- what the rows are

suits : SuitsKinds part_list
suits x =
    let may = λ (write : ConcatKey → ℕ). cast_optional (λ (k : ConcatKey). number (write k)) x.key (λ k. cast_int _) in (
      cast_int _,
      (
        cast_int _,
        (
          cast_int _,
          (
            refl,
            (
              may (λ k. reference_bits k.reference),
              (
                may (λ k. reference_number k.reference),
                (may (λ k. k.total), (may (λ k. k.number), (cast_flag x.progress.is_done, (cast_int _, (cast_int _, tt))))),
              ),
            ),
          ),
        ),
      ),
    )

reads_back : IsReadBack part_list
reads_back x fits =
    let k = key_back x.key in
    let p = progress_back x.progress in
    λ i. record { id = x.id; number = x.number; reference = x.reference; tpdu = x.tpdu; key = k i; progress = p i }

computes : Computes part_list
unfolding understood everything
computes = (
  computed part_list.table refl (refl, (refl, refl)) (refl, (refl, refl)) (refl, (refl, refl)) (refl, (refl, refl)) refl (λ d. refl) (λ k o n. refl) refl,
  λ x id new y. refl,
)

pub part_is_list : IsList part_list
part_is_list =
    listed part_list computes (λ x. refl) (λ id x. refl) (λ x id y. refl)
    suits
    (λ n id x fits. two_found x.id x.number n fits.number)
    (λ x id y fits suits. two_meet y.id y.number x.id x.number suits.number fits.number)
    reads_back

-- ---- the row of a key

abbrev pub find_part : List ℕ
find_part = find_text part_plan

pub part_is_found : FindsOne part_list find_part
unfolding understood everything
part_is_found = record { selects = refl; alone = (refl, refl); is_no_listing = refl; read = λ params id x. refl }

-- ---- how far it is

abbrev pub amend_part : List ℕ
amend_part = amend_text part_plan progress_names

-- its other columns stay
abbrev pub part_amended : List Term
part_amended = columns_of 8 ++ given_from 2 3

amending : ChangesColumns part_list amend_part part_amended
unfolding understood everything
amending = (refl, (refl, refl))

amend_finds : FindsToAmend part_list progress_columns
amend_finds n q id x fits = two_found x.id x.number n fits.number

pub part_amends : AmendsOne part_list amend_part part_reaching progress_columns part_amended
part_amends =
    record {
      updates = amending.0;
      alone = amending.1;
      finds = amend_finds;
      gives_columns = λ n q id x. refl;
      same_key = λ q x. refl;
      still_fits = λ q x far fits. record { id = fits.id; number = fits.number; reference = fits.reference; key = fits.key; progress = far };
    }
