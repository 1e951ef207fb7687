-- The messages that were accepted. An application's message has an account, a handset's has its TP-MR.
use Rattle.std.specs.Prelude.{IfSome, [], ◌∷◌, encode_utf8_all, refl}
use Rattle.sqlite.specs.declared.types.Value.TheVariants.{Text}
use Rattle.sqlite_value.specs.Order.{column}
use Rattle.sqlite.specs.Listing.{understood}
use Rattle.sqlite_tied.specs.Compute.{everything}
use Rattle.sms_base.specs.MessageId.{IsMessageId}
use Rattle.sms_base.specs.Msisdn.{IsMsisdn}
use Rattle.sms_base.specs.TimeStamp.{IsMoment}
use Rattle.sms_store_sql.specs.listing.Columns.{IsOctet, IsShort, number, number_in, text_in, characters_in, if_given, or_none}
use Rattle.sms_store_sql.specs.listing.Listing.{ListOf, IsList}
use Rattle.sms_store_sql.proofs.listing.Columns.{one_found, cast_int, cast_optional, characters_back, digits_spelled, given_back}
use Rattle.sms_store_tables.specs.centre.CentreSchema.{centre_schema, message_plan}
use Rattle.sms_store_tables.specs.centre.Types.{MessageRow}
use Rattle.sms_base.specs.AddressKind.{type_number}
use Rattle.sms_store_sql.specs.listing.Addresses.{IsStoredAddress, address_in}
use Rattle.sms_store_sql.proofs.listing.Columns.{address_back}
use Rattle.sms_store_tables.specs.centre.Pieces.{IsStoredOriginator, account_of, mark_of, originator_in, originator_back, mark_stays, wish_word, wish_in}
use Rattle.sms_store_tables.specs.centre.Pieces.{wish_back, state_word, state_in, state_back}
use Rattle.sms_store_sql.specs.tabled.Tabled.{Computes, IsReadBack, computed, rows_by_one, tabled}
use Rattle.sms_store_sql.proofs.tabled.Listed.{SuitsKinds, listed}

-- a message with its numbers in their ranges
pub record IsStoredMessage (m : MessageRow) : Type 0 where
  pub id : IsMessageId m.id
  pub originator : IsStoredOriginator m.originator
  pub source : IsStoredAddress m.source
  pub handset : IsMsisdn m.handset
  pub data_coding_scheme : IsOctet m.data_coding_scheme
  pub protocol_identifier : IsOctet m.protocol_identifier
  pub submitted : IsMoment m.submitted
  pub limit : IsMoment m.limit
  pub split_reference : IfSome m.split_reference IsShort
  pub done : IfSome m.done IsMoment

abbrev pub message_list : ListOf MessageRow
message_list =
    rows_by_one MessageRow (tabled centre_schema 1 2 message_plan) (λ x. x.id)
    (λ m. number m.id ∷ account_of m.originator ∷ mark_of m.originator ∷ number (type_number m.source.ton) ∷ number m.source.npi
    ∷ Text (encode_utf8_all m.source.digits) ∷ Text (encode_utf8_all m.handset) ∷ number m.data_coding_scheme ∷ number m.protocol_identifier
    ∷ Text (wish_word m.wish) ∷ number m.submitted ∷ number m.limit ∷ or_none number m.split_reference ∷ Text (state_word m.state) ∷ or_none number m.done
    ∷ [])
    (λ row. record {
      id = number_in (column row 0);
      originator = originator_in (column row 1) (column row 2);
      source = address_in (column row 3) (column row 4) (column row 5);
      handset = characters_in (column row 6);
      data_coding_scheme = number_in (column row 7);
      protocol_identifier = number_in (column row 8);
      wish = wish_in (text_in (column row 9));
      submitted = number_in (column row 10);
      limit = number_in (column row 11);
      split_reference = if_given number_in (column row 12);
      state = state_in (text_in (column row 13));
      done = if_given number_in (column row 14);
    })
    IsStoredMessage

-- ---- what the rows are

suits : SuitsKinds message_list
suits x =
    let split = cast_optional number x.split_reference (λ n. cast_int _) in
    let done = cast_optional number x.done (λ n. cast_int _) in (
      cast_int _,
      (
        refl,
        (
          mark_stays x.originator,
          (cast_int _, (cast_int _, (refl, (refl, (cast_int _, (cast_int _, (refl, (cast_int _, (cast_int _, (split, (refl, (done, tt)))))))))))),
        ),
      ),
    )

reads_back : IsReadBack message_list
reads_back x fits =
    let o = originator_back x.originator in
    let a = address_back x.source fits.source.digits.are in
    let h = characters_back x.handset (digits_spelled x.handset fits.handset.each) in
    let w = wish_back x.wish in
    let split = given_back number number_in x.split_reference (λ n. refl) in
    let s = state_back x.state in
    let done = given_back number number_in x.done (λ n. refl) in
    λ i. record {
      id = x.id;
      originator = o i;
      source = a i;
      handset = h i;
      data_coding_scheme = x.data_coding_scheme;
      protocol_identifier = x.protocol_identifier;
      wish = w i;
      submitted = x.submitted;
      limit = x.limit;
      split_reference = split i;
      state = s i;
      done = done i;
    }

computes : Computes message_list
unfolding understood everything
computes = (
  computed message_list.table refl (refl, (refl, refl)) (refl, (refl, refl)) (refl, (refl, refl)) (refl, (refl, refl)) refl (λ d. refl) (λ k o n. refl) refl,
  λ x id new y. refl,
)

pub message_is_list : IsList message_list
message_is_list =
    listed message_list computes (λ x. refl) (λ id x. refl) (λ x id y. refl)
    suits
    (λ n id x fits. one_found x.id n) (λ x id y fits suits. one_found y.id x.id)
    reads_back
