-- Handsets and the references that were given there, on which a centre can start.
use Rattle.std.specs.Prelude.{◌≡◌, ℕ, ◌<◌, List, Option, Some}
use Rattle.sms_base.specs.Address.{IsAddress}
use Rattle.sms_base.specs.Among.{Among}
use Rattle.sms_base.specs.HandsetNumber.{own_address}
use Rattle.sms_rows.specs.table.Keys.{pair_key}
use Rattle.sms_rows.specs.table.Table.{Rises, row_at}
use Rattle.sms_centre_rows.specs.declared.waiting.handset.HandsetRow.{HandsetRow}
use Rattle.sms_centre_rows.specs.declared.waiting.reference.ReferenceRow.{ReferenceRow}
use Rattle.sms_centre_rows.specs.waiting.Keys.{handset_key, reference_key}

-- it can be written as the address of a handset
abbrev pub IsNumber : List ℕ → Type 0
IsNumber number = IsAddress (own_address number)

-- the row of a reference at a handset
abbrev pub reference_at : ℕ → ℕ → List ReferenceRow → Option ReferenceRow
reference_at place reference references = row_at reference_key (pair_key place reference) references

-- it has a place, and its last reference was given
pub record IsMentioned (references : List ReferenceRow) (h : HandsetRow) : Type 0 where
  pub place : 0 < h.place
  pub number : IsNumber h.number
  pub small : h.last_reference < 256
  pub last : (r : ReferenceRow) × (reference_at h.place h.last_reference references ≡ Some r)

-- its handset is there
pub record IsGiven (handsets : List HandsetRow) (r : ReferenceRow) : Type 0 where
  pub small : r.reference < 256
  pub handset : (h : HandsetRow) × (row_at handset_key r.place handsets ≡ Some h)

-- no number is there twice
abbrev pub AreApart : List HandsetRow → Type 0
AreApart handsets = (h g : HandsetRow) → Among h handsets → Among g handsets → h.number ≡ g.number → h.place ≡ g.place

pub record SoundAllocations (handsets : List HandsetRow) (references : List ReferenceRow) : Type 0 where
  pub handset_keys : Rises handset_key handsets
  pub reference_keys : Rises reference_key references
  pub mentioned : (h : HandsetRow) → Among h handsets → IsMentioned references h
  pub given : (r : ReferenceRow) → Among r references → IsGiven handsets r
  pub apart : AreApart handsets
