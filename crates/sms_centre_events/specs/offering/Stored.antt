-- The TPDUs that the store gives, and those that the event made.
use Rattle.std.specs.Prelude.{◌≡◌, ℕ, List, if◌then◌else◌, true, Option, Some, None}
use Rattle.sms_base.specs.Among.{Among}
use Rattle.sms_rows.specs.table.Keys.{pair_key}
use Rattle.sms_centre_rows.specs.declared.messages.part.PartRow.{PartRow}
use Rattle.sms_centre_rows.specs.messages.Messages.{part_key}
use Rattle.sms_centre_rows.specs.declared.reports.report.ReportRow.{ReportRow}
use Rattle.sms_centre_rows.specs.reports.Reports.{is_status, status_tpdu}
use Rattle.sms_tpdu.specs.AddressGrammar.{relay_address}
use Rattle.sms_centre_rows.specs.declared.waiting.queued_part.QueuedPart.{QueuedPart}
use Rattle.sms_centre_spec.specs.Draft.{Store, rows_of}
use Rattle.sms_centre_spec.specs.Offering.{is_made, tpdu_of}
use Rattle.sms_centre_spec.specs.SoundRows.{IsSound}

-- The store gives the TPDUs of the rows on which the event began. It is that of a part under its key, of a status report under
-- that of its message and number 0.
pub record Stores (body : ℕ → Option (List ℕ)) (s : Store) : Type 0 where
  pub parts : (p : PartRow) → Among p s.messages.parts.base → body (part_key p) ≡ Some p.tpdu
  pub reports : (r : ReportRow) → Among r s.reports.base → is_status r.kind ≡ true → body (pair_key r.id 0) ≡ Some (status_tpdu r.kind)

-- the TPDU of what waits, if the event made it
abbrev pub made_tpdu : QueuedPart → Store → Option (List ℕ)
made_tpdu l s = if is_made l s then Some (tpdu_of l s) else None

-- What offers rest on: sound rows, and a store that gives the TPDUs of those as the event began. The centre's address is as it is
-- sent.
pub record CanOffer {Rows : Type 0} (body_of : Rows → ℕ → Option (List ℕ)) (rows : Rows) (centre : List ℕ) (s : Store) : Type 0 where
  pub sound : IsSound (rows_of s)
  pub stored : Stores (body_of rows) s
  pub centre_is : centre ≡ relay_address s.setup.centre
