-- The inbox. What a row does not have is NULL. That is of a single entry all but its octets, of a part how its content is coded, of a
-- joined one its group.
use Rattle.std.specs.Prelude.{◌≡◌, ℕ, ℤ, ⊤, [], ◌∷◌, codes, encode_utf8_all, refl}
use Rattle.std.proofs.Common.{ap}
use Rattle.sqlite.specs.declared.types.Value.TheVariants.{Null, Int, Text, Blob}
use Rattle.sqlite.specs.Order.{Row}
use Rattle.sqlite_value.specs.Order.{column}
use Rattle.sqlite.specs.Listing.{understood}
use Rattle.sqlite.specs.Effect.{value_rows}
use Rattle.sqlite_sql.specs.Term.{eval_all}
use Rattle.sqlite_tied.specs.Compute.{everything}
use Rattle.sms_store_sql.specs.listing.Columns.{IsOctet, IsWord, number, number_in, octets_in, text_in}
use Rattle.sms_store_sql.specs.listing.Listing.{ListOf, IsList, given_from, row_of, columns_of}
use Rattle.sms_store_sql.proofs.listing.Columns.{one_found, cast_null, cast_int}
use Rattle.sms_store_tables.specs.handset.HandsetSchema.{handset_schema, entry_plan}
use Rattle.sms_store_tables.specs.handset.Types.{Entry, Group, Message, Content}
use Rattle.std.specs.Prelude.{if◌then◌else◌, drop, refl}
use Rattle.sms_base.specs.AddressKind.{type_number}
use Rattle.sms_store_sql.specs.listing.Columns.{is_word}
use Rattle.sms_store_sql.specs.listing.Addresses.{IsStoredAddress, address_in}
use Rattle.sms_store_sql.proofs.listing.Columns.{AllSuit, address_back}
use Rattle.sms_store_tables.specs.handset.Types.{Single, Part, Joined}
use Rattle.sms_store_tables.specs.handset.Groups.{IsStoredGroup, reference_bits, reference_number, group_in, group_back}
use Rattle.sms_store_tables.specs.handset.Words.{coding_word, coding_in, coding_back}
use Rattle.sms_store_sql.specs.tabled.Tabled.{Computes, IsReadBack, computed, rows_by_one, tabled}
use Rattle.sms_store_sql.proofs.tabled.Listed.{listed}

abbrev pub message_columns : Message → Row
message_columns (Single tpdu) = Text (codes "single") ∷ Null ∷ Null ∷ Null ∷ Null ∷ Null ∷ Null ∷ Null ∷ Null ∷ Null ∷ Blob tpdu ∷ []
message_columns (Part g n tpdu) =
    Text (codes "part") ∷ number (type_number g.source.ton) ∷ number g.source.npi ∷ Text (encode_utf8_all g.source.digits) ∷ number (reference_bits g.reference)
    ∷ number (reference_number g.reference)
    ∷ number g.total ∷ number n ∷ Null ∷ Null ∷ Blob tpdu ∷ []
message_columns (Joined source content) =
    Text (codes "joined") ∷ number (type_number source.ton) ∷ number source.npi ∷ Text (encode_utf8_all source.digits) ∷ Null ∷ Null ∷ Null ∷ Null
    ∷ Text (coding_word content.coding) ∷ number content.dcs
    ∷ Blob content.units ∷ []

abbrev pub row_columns : Entry → Row
row_columns e = number e.number ∷ number e.slots ∷ message_columns e.message

abbrev pub content_in : Row → Content
content_in row = record { coding = coding_in (text_in (column row 10)); dcs = number_in (column row 11); units = octets_in (column row 12) }

abbrev pub part_in : Row → Message
part_in row =
    Part (group_in (column row 3) (column row 4) (column row 5) (column row 6) (column row 7) (column row 8)) (number_in (column row 9))
    (octets_in (column row 12))

abbrev pub joined_in : Row → Message
joined_in row = Joined (address_in (column row 3) (column row 4) (column row 5)) (content_in row)

abbrev pub message_in : Row → Message
message_in row =
    if is_word (codes "single") (text_in (column row 2)) then Single (octets_in (column row 12))
    else if is_word (codes "part") (text_in (column row 2)) then part_in row
    else joined_in row

abbrev pub entry_in : Row → Entry
entry_in row = record { number = number_in (column row 0); slots = number_in (column row 1); message = message_in row }

-- a message with its numbers in their ranges, and an entry with it
abbrev pub IsStoredMessage : Message → Type 0
IsStoredMessage (Single tpdu) = ⊤
IsStoredMessage (Part g n tpdu) = IsStoredGroup g × IsOctet n
IsStoredMessage (Joined source content) = IsStoredAddress source × IsOctet content.dcs

pub record IsStoredEntry (e : Entry) : Type 0 where
  pub number : IsWord e.number
  pub slots : IsOctet e.slots
  pub message : IsStoredMessage e.message

abbrev pub entry_list : ListOf Entry
entry_list =
    rows_by_one Entry (tabled handset_schema 1 2 entry_plan) (λ x. x.number)
    row_columns
    entry_in
    IsStoredEntry

-- ---- what the rows are

suits : (m : Message) → AllSuit (drop 2 entry_plan.columns) (message_columns m)
suits (Single tpdu) = (refl, (cast_null, (cast_null, (refl, (cast_null, (cast_null, (cast_null, (cast_null, (refl, (cast_null, (refl, tt)))))))))))
suits (Part g n tpdu) = (refl, (cast_int _, (cast_int _, (refl, (cast_int _, (cast_int _, (cast_int _, (cast_int _, (refl, (cast_null, (refl, tt)))))))))))
suits (Joined source content) =
    (refl, (cast_int _, (cast_int _, (refl, (cast_null, (cast_null, (cast_null, (cast_null, (refl, (cast_int _, (refl, tt)))))))))))

written : (number slots : ℕ) (m : Message) → let row =
    row_columns (record { number = number; slots = slots; message = m }) in value_rows row 14 1 (row_of 13) ≡ (Null ∷ row) ∷ []
written number slots (Single tpdu) = refl
written number slots (Part g n tpdu) = refl
written number slots (Joined source content) = refl

selects_columns : (id : ℤ) (number slots : ℕ) (m : Message) → let row =
    row_columns (record { number = number; slots = slots; message = m }) in eval_all (columns_of 13) ([] ∷ (Int id ∷ row) ∷ []) ≡ row
selects_columns id number slots (Single tpdu) = refl
selects_columns id number slots (Part g n tpdu) = refl
selects_columns id number slots (Joined source content) = refl

-- the columns of one entry are its own, whatever entry is found
sets : (number slots : ℕ) (m : Message) (id : ℤ) (found : Row) → let row =
    row_columns (record { number = number; slots = slots; message = m }) in eval_all (given_from 0 13) (row ∷ (Int id ∷ found) ∷ []) ≡ row
sets number slots (Single tpdu) id found = refl
sets number slots (Part g n tpdu) id found = refl
sets number slots (Joined source content) id found = refl

reads_back : IsReadBack entry_list
reads_back x fits = let m = message_back x.number x.slots x.message fits.message in λ i. record { number = x.number; slots = x.slots; message = m i }
  where
    message_back : (number slots : ℕ) (m : Message) → IsStoredMessage m → message_in (row_columns (record { number = number; slots = slots; message = m })) ≡ m
    message_back number slots (Single tpdu) fits = refl
    message_back number slots (Part g n tpdu) fits = ap (λ (h : Group). Part h n tpdu) (group_back g fits.0.source.digits.are)
    message_back number slots (Joined source content) fits =
        let a = address_back source fits.0.digits.are in
        let c = coding_back content.coding in
        λ i. Joined (a i) (record { coding = c i; dcs = content.dcs; units = content.units })

computes : Computes entry_list
unfolding understood everything
computes = (
  computed entry_list.table refl (refl, (refl, refl)) (refl, (refl, refl)) (refl, (refl, refl)) (refl, (refl, refl)) refl (λ d. refl) (λ k o n. refl) refl,
  λ x id new y. refl,
)

pub entry_is_list : IsList entry_list
entry_is_list =
    listed entry_list computes (λ x. written x.number x.slots x.message) (λ id x. selects_columns id x.number x.slots x.message)
    (λ x id y. sets x.number x.slots x.message id (row_columns y))
    (λ x. (cast_int _, (cast_int _, suits x.message)))
    (λ n id x fits. one_found x.number n) (λ x id y fits suits. one_found y.number x.number)
    reads_back
