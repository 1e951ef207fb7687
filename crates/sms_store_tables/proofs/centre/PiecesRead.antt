-- What is written in several columns, or as a word, has each column as its reader wants it.
use Rattle.std.proofs.Common.{◌≡◌, ℕ, true, false, bytes_eq, List, Option, Some, None, IfSome, IsUtf8, codes, refl}
use Rattle.sqlite.specs.Order.{Row}
use Rattle.sqlite.specs.declared.types.Value.TheVariants.{Blob}
use Rattle.sqlite_sql.specs.Ops.{is_null}
use Rattle.sms_store_sql.specs.listing.Columns.{IsOctet, number, or_none}
use Rattle.sms_store_sql.specs.listing.Reading.{HasAt}
use Rattle.sms_store_tables.specs.centre.Pieces.{HasKey, IsStoredKey, IsStoredKind, IsStoredOriginator, account_of, kind_reference, kind_tpdu, kind_word, mark_of, reference_bits, state_word, wish_word}
use Rattle.sms_store_tables.specs.centre.Types.{FinalState, Delivered, Expired, Deleted, Undeliverable, ConcatKey, Originator, Application, Handset, Wish, Nothing, Always, OnFailure, ReportKind, Receipt, Status, Unsent}

-- ---- words

pub wish_utf8 : (w : Wish) → IsUtf8 (wish_word w)
unfolding lib.Utf8.encode
wish_utf8 Nothing = (codes "nothing", (refl, refl))
wish_utf8 Always = (codes "always", (refl, refl))
wish_utf8 OnFailure = (codes "on_failure", (refl, refl))

pub state_utf8 : (s : Option FinalState) → IsUtf8 (state_word s)
unfolding lib.Utf8.encode
state_utf8 None = (codes "pending", (refl, refl))
state_utf8 (Some Delivered) = (codes "delivered", (refl, refl))
state_utf8 (Some Expired) = (codes "expired", (refl, refl))
state_utf8 (Some Deleted) = (codes "deleted", (refl, refl))
state_utf8 (Some Undeliverable) = (codes "undeliverable", (refl, refl))

pub kind_utf8 : (k : ReportKind) → IsUtf8 (kind_word k)
unfolding lib.Utf8.encode
kind_utf8 Receipt = (codes "receipt", (refl, refl))
kind_utf8 (Status reference tpdu) = (codes "status", (refl, refl))
kind_utf8 Unsent = (codes "unsent", (refl, refl))

-- ---- the place of a part in a long message

module _ (row : Row) (at : ℕ) where
  pub some_key : (key : Option ConcatKey) → is_null (or_none (λ (k : ConcatKey). number (reference_bits k.reference)) key) ≡ false → IfSome key IsStoredKey
      → HasKey row at key → (k : ConcatKey) × IsStoredKey k × HasKey row at (Some k)
  some_key None given stored has = absurd cc
  some_key (Some k) given stored has = (k, stored, has)

  -- ---- who submitted a message

  pub of_handset : (o : Originator) → is_null (account_of o) ≡ true → IsStoredOriginator o → HasAt row at (mark_of o) → (n : ℕ) × IsOctet n × HasAt row at (number n)
  of_handset (Application account) none stored has = absurd cc
  of_handset (Handset reference) none stored has = (reference, stored, has)

  pub of_application : (o : Originator) → is_null (account_of o) ≡ false → HasAt row at (account_of o) → (octets : List ℕ) × HasAt row at (Blob octets)
  of_application (Application account) given has = (account, has)
  of_application (Handset reference) given has = absurd cc

  -- ---- how an end is reported

  pub by_status : (k : ReportKind) → bytes_eq (kind_word k) (codes "status") ≡ true → IsStoredKind k → HasAt row at (kind_reference k) → (n : ℕ) × IsOctet n × HasAt row at (number n)
  by_status Receipt status stored has = absurd cc
  by_status (Status reference tpdu) status stored has = (reference, stored, has)
  by_status Unsent status stored has = absurd cc

  pub with_tpdu : (k : ReportKind) → bytes_eq (kind_word k) (codes "status") ≡ true → HasAt row at (kind_tpdu k) → (octets : List ℕ) × HasAt row at (Blob octets)
  with_tpdu Receipt status has = absurd cc
  with_tpdu (Status reference tpdu) status has = (tpdu, has)
  with_tpdu Unsent status has = absurd cc
