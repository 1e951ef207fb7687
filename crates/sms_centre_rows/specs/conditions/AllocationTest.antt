-- Whether a centre can start with a row of a handset or a reference, where others are looked up by their keys.
use Rattle.std.specs.Prelude.{◌≡◌, ℕ, ◌&&◌, nat_lt, is_some, map, List, Bool, true}
use Rattle.std.specs.List.{list_all}
use Rattle.sms_rows.specs.table.Keys.{digits_key}
use Rattle.sms_rows.specs.table.Table.{row_at}
use Rattle.sms_centre_rows.specs.declared.waiting.handset.HandsetRow.{HandsetRow}
use Rattle.sms_centre_rows.specs.declared.waiting.reference.ReferenceRow.{ReferenceRow}
use Rattle.sms_centre_rows.specs.waiting.Keys.{handset_key}
use Rattle.sms_centre_rows.specs.waiting.SoundAllocations.{reference_at}
use Rattle.sms_centre_rows.specs.conditions.Differing.{differ}
use Rattle.sms_centre_rows.specs.conditions.MessageTest.{is_handset}

abbrev pub is_mentioned : List ReferenceRow → HandsetRow → Bool
is_mentioned references h =
    (nat_lt 0 h.place && is_handset h.number) && (nat_lt h.last_reference 256 && is_some (reference_at h.place h.last_reference references))

abbrev pub is_given : List HandsetRow → ReferenceRow → Bool
is_given handsets r = nat_lt r.reference 256 && is_some (row_at handset_key r.place handsets)

abbrev pub number_key : HandsetRow → ℕ
number_key h = digits_key h.number

-- each row passes, and no number is there twice
pub record AllocationsPass (handsets : List HandsetRow) (references : List ReferenceRow) : Type 0 where
  pub each_handset : list_all (λ h. is_mentioned references h) handsets ≡ true
  pub each_reference : list_all (λ r. is_given handsets r) references ≡ true
  pub numbers : differ (map number_key handsets) ≡ true
