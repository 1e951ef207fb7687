-- The outbox.
use Rattle.std.specs.Prelude.{◌<◌, ◌≤◌, IfSome, length, [], ◌∷◌, encode_utf8_all, refl}
use Rattle.sqlite.specs.declared.types.Value.TheVariants.{Text, Blob}
use Rattle.sqlite_value.specs.Order.{column}
use Rattle.sqlite.specs.Listing.{understood}
use Rattle.sqlite_tied.specs.Compute.{everything}
use Rattle.sms_base.specs.TimeStamp.{IsMoment}
use Rattle.sms_store_sql.specs.listing.Columns.{IsOctet, IsWord, number, number_in, octets_in, text_in, if_given, flag, flag_in, or_none}
use Rattle.sms_store_sql.specs.listing.Listing.{ListOf, IsList}
use Rattle.sms_store_sql.proofs.listing.Columns.{one_found, cast_int, cast_flag, cast_optional, flag_back, given_back}
use Rattle.sms_store_tables.specs.handset.HandsetSchema.{handset_schema, out_plan}
use Rattle.sms_store_tables.specs.handset.Types.{OutEntry}
use Rattle.sms_base.specs.AddressKind.{type_number}
use Rattle.sms_store_sql.specs.listing.Addresses.{IsStoredAddress, address_in}
use Rattle.sms_store_sql.proofs.listing.Columns.{address_back}
use Rattle.sms_store_tables.specs.handset.Words.{state_word, state_in, state_back}
use Rattle.sms_store_sql.specs.tabled.Tabled.{Computes, IsReadBack, computed, rows_by_one, tabled}
use Rattle.sms_store_sql.proofs.tabled.Listed.{SuitsKinds, listed}

-- an entry with its numbers in their ranges, and a SUBMIT of 1 to 200 octets
pub record IsStoredOutEntry (o : OutEntry) : Type 0 where
  pub number : IsWord o.number
  pub message_reference : IsOctet o.message_reference
  pub reference : IsOctet o.reference
  pub destination : IsStoredAddress o.destination
  pub tpdu : (0 < length o.tpdu) × (length o.tpdu ≤ 200)
  pub tries : IsOctet o.tries
  pub due : IfSome o.due IsMoment
  pub status : IfSome o.status IsOctet

abbrev pub out_list : ListOf OutEntry
out_list =
    rows_by_one OutEntry (tabled handset_schema 3 6 out_plan) (λ x. x.number)
    (λ o. number o.number ∷ number o.message_reference ∷ number o.reference ∷ number (type_number o.destination.ton) ∷ number o.destination.npi
    ∷ Text (encode_utf8_all o.destination.digits) ∷ Blob o.tpdu ∷ flag o.is_long ∷ Text (state_word o.state) ∷ number o.tries ∷ flag o.rejects_duplicates
    ∷ or_none number o.due ∷ or_none number o.status ∷ [])
    (λ row. record {
      number = number_in (column row 0);
      message_reference = number_in (column row 1);
      reference = number_in (column row 2);
      destination = address_in (column row 3) (column row 4) (column row 5);
      tpdu = octets_in (column row 6);
      is_long = flag_in (column row 7);
      state = state_in (text_in (column row 8));
      tries = number_in (column row 9);
      rejects_duplicates = flag_in (column row 10);
      due = if_given number_in (column row 11);
      status = if_given number_in (column row 12);
    })
    IsStoredOutEntry

-- ---- what the rows are

suits : SuitsKinds out_list
suits x =
    let due = cast_optional number x.due (λ n. cast_int _) in
    let status = cast_optional number x.status (λ n. cast_int _) in (
      cast_int _,
      (
        cast_int _,
        (
          cast_int _,
          (cast_int _, (cast_int _, (refl, (refl, (cast_flag x.is_long, (refl, (cast_int _, (cast_flag x.rejects_duplicates, (due, (status, tt)))))))))),
        ),
      ),
    )

reads_back : IsReadBack out_list
reads_back x fits =
    let a = address_back x.destination fits.destination.digits.are in
    let long = flag_back x.is_long in
    let s = state_back x.state in
    let again = flag_back x.rejects_duplicates in
    let due = given_back number number_in x.due (λ n. refl) in
    let status = given_back number number_in x.status (λ n. refl) in
    λ i. record {
      number = x.number;
      message_reference = x.message_reference;
      reference = x.reference;
      destination = a i;
      tpdu = x.tpdu;
      is_long = long i;
      state = s i;
      tries = x.tries;
      rejects_duplicates = again i;
      due = due i;
      status = status i;
    }

computes : Computes out_list
unfolding understood everything
computes = (
  computed out_list.table refl (refl, (refl, refl)) (refl, (refl, refl)) (refl, (refl, refl)) (refl, (refl, refl)) refl (λ d. refl) (λ k o n. refl) refl,
  λ x id new y. refl,
)

pub out_is_list : IsList out_list
out_is_list =
    listed out_list computes (λ x. refl) (λ id x. refl) (λ x id y. refl)
    suits
    (λ n id x fits. one_found x.number n) (λ x id y fits suits. one_found y.number x.number)
    reads_back
