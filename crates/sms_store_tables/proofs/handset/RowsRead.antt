-- What is written in several columns, or as a word, has each column as its reader wants it.
use Rattle.std.proofs.Common.{◌≡◌, ℕ, true, bytes_eq, List, IsUtf8, Result, Ok, Err, IfOk, codes, refl, sym, subst}
use Rattle.sqlite.specs.Order.{Row}
use Rattle.sqlite.specs.declared.types.Value.TheVariants.{Blob, Text}
use Rattle.sms_base.specs.declared.address.Address.{Address}
use Rattle.sms_store_sql.specs.listing.Columns.{IsOctet, IsWord, number}
use Rattle.sms_store_sql.specs.listing.Reading.{HasAt}
use Rattle.sms_store_sql.proofs.listing.Columns.{has_in}
use Rattle.sms_store_tables.specs.handset.Words.{coding_word, state_word}
use Rattle.sms_store_tables.specs.handset.EntryList.{IsStoredEntry, IsStoredMessage, row_columns}
use Rattle.sms_store_tables.specs.handset.Types.{Coding, Septets, Octets, Ucs2, Compressed, EntryState, Queued, Sending, Sent, Failed, Unsure, Content, Entry, Group, Message, Single, Part, Joined}

-- ---- words

pub state_utf8 : (s : EntryState) → IsUtf8 (state_word s)
unfolding lib.Utf8.encode
state_utf8 Queued = (codes "queued", (refl, refl))
state_utf8 Sending = (codes "sending", (refl, refl))
state_utf8 Sent = (codes "sent", (refl, refl))
state_utf8 Failed = (codes "failed", (refl, refl))
state_utf8 Unsure = (codes "unsure", (refl, refl))

pub coding_utf8 : (c : Coding) → IsUtf8 (coding_word c)
unfolding lib.Utf8.encode
coding_utf8 Septets = (codes "septets", (refl, refl))
coding_utf8 Octets = (codes "octets", (refl, refl))
coding_utf8 Ucs2 = (codes "ucs2", (refl, refl))
coding_utf8 Compressed = (codes "compressed", (refl, refl))

-- ---- an entry

-- the word of a message
abbrev pub kind_of : Message → List ℕ
kind_of (Single tpdu) = codes "single"
kind_of (Part g n tpdu) = codes "part"
kind_of (Joined source content) = codes "joined"

pub kind_utf8 : (m : Message) → IsUtf8 (kind_of m)
unfolding lib.Utf8.encode
kind_utf8 (Single tpdu) = (codes "single", (refl, refl))
kind_utf8 (Part g n tpdu) = (codes "part", (refl, refl))
kind_utf8 (Joined source content) = (codes "joined", (refl, refl))

-- its octets
abbrev pub octets_of : Message → List ℕ
octets_of (Single tpdu) = tpdu
octets_of (Part g n tpdu) = tpdu
octets_of (Joined source content) = content.units

-- the columns that each entry has
pub record HasEntry (row : Row) (n few : ℕ) (m : Message) : Type 0 where
  pub entry : HasAt row 0 (number n)
  pub slots : HasAt row 1 (number few)
  pub kind : HasAt row 2 (Text (kind_of m))
  pub octets : HasAt row 12 (Blob (octets_of m))

pub entry_has : (row : Row) (n few : ℕ) (m : Message) → row ≡ row_columns (record { number = n; slots = few; message = m }) → HasEntry row n few m
entry_has row n few (Single tpdu) same =
    record { entry = has_in _ _ 0 _ same refl refl; slots = has_in _ _ 1 _ same refl refl; kind = has_in _ _ 2 _ same refl refl; octets = has_in _ _ 12 _ same refl refl }
entry_has row n few (Part g part tpdu) same =
    record { entry = has_in _ _ 0 _ same refl refl; slots = has_in _ _ 1 _ same refl refl; kind = has_in _ _ 2 _ same refl refl; octets = has_in _ _ 12 _ same refl refl }
entry_has row n few (Joined source content) same =
    record { entry = has_in _ _ 0 _ same refl refl; slots = has_in _ _ 1 _ same refl refl; kind = has_in _ _ 2 _ same refl refl; octets = has_in _ _ 12 _ same refl refl }

-- a message with the word of a part, and one with that of a joined message
pub record IsPart (m : Message) : Type 0 where
  pub group : Group
  pub part : ℕ
  pub tpdu : List ℕ
  pub is : m ≡ Part group part tpdu
  pub stored : IsStoredMessage (Part group part tpdu)

pub as_part : (m : Message) → bytes_eq (kind_of m) (codes "part") ≡ true → IsStoredMessage m → IsPart m
as_part (Single tpdu) word stored = absurd cc
as_part (Part g part tpdu) word stored = record { group = g; part = part; tpdu = tpdu; is = refl; stored = stored }
as_part (Joined source content) word stored = absurd cc

pub record IsJoined (m : Message) : Type 0 where
  pub source : Address
  pub content : Content
  pub is : m ≡ Joined source content
  pub stored : IsStoredMessage (Joined source content)

pub as_joined : (m : Message) → bytes_eq (kind_of m) (codes "joined") ≡ true → IsStoredMessage m → IsJoined m
as_joined (Single tpdu) word stored = absurd cc
as_joined (Part g part tpdu) word stored = absurd cc
as_joined (Joined source content) word stored = record { source = source; content = content; is = refl; stored = stored }

-- an entry fits where its message does
pub entry_fits : {X E : Type 0} (r : Result X E) (e : Entry) (m : Message) → e.message ≡ m → IsWord e.number → IsOctet e.slots → IfOk r (λ _. IsStoredMessage m)
    → IfOk r (λ _. IsStoredEntry e)
entry_fits (Ok x) e m same word few fits = record { number = word; slots = few; message = subst IsStoredMessage (sym same) fits }
entry_fits (Err x) e m same word few fits = tt
