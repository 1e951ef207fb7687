-- What the rows say of the references that the centre gave: to whom, with which TPDU, and when last.
use Rattle.std.specs.Prelude.{◌≡◌, ℕ, List, Option, Some, None}
use Rattle.std.specs.Option.{option_map}
use Rattle.sms_base.specs.Among.{Among}
use Rattle.sms_base.specs.declared.holder.Holder.TheVariants.{Part, Report}
use Rattle.sms_centre_rows.specs.declared.messages.message.MessageRow.{MessageRow}
use Rattle.sms_centre_rows.specs.declared.reports.report.ReportKind.TheVariants.{Status}
use Rattle.sms_rows.specs.table.Table.{row_at}
use Rattle.sms_tpdu.specs.MoreMessages.{compared}
use Rattle.sms_centre_rows.specs.waiting.Keys.{reference_key}
use Rattle.sms_rows.specs.table.Keys.{pair_key}
use Rattle.sms_centre_rows.specs.waiting.References.{handset_at}
use Rattle.sms_centre_rows.specs.declared.waiting.handset.HandsetRow.{HandsetRow}
use Rattle.sms_centre_rows.specs.declared.waiting.reference.ReferenceRow.{ReferenceRow}
use Rattle.sms_world_model.specs.World.{Allocation}
use Rattle.sms_world.specs.headline.SeenWorld.{by_octet, PartSeen}
use Rattle.sms_world.specs.centres_refine_the_world.RefinesReports.{ReportSeen}

-- ---- the last second in which a reference was given at a handset

abbrev pub second_at : Option HandsetRow → ℕ → List ReferenceRow → Option ℕ
second_at None reference references = None
second_at (Some h) reference references = option_map (λ (r : ReferenceRow). r.last) (row_at reference_key (pair_key h.place reference) references)

abbrev pub seconds_by : List HandsetRow → List ReferenceRow → List ℕ → ℕ → Option ℕ
seconds_by handsets references handset reference = by_octet reference (second_at (handset_at handset handsets) reference references)

-- ---- to whom

abbrev pub given_part : MessageRow → ℕ → PartSeen → ℕ → Allocation
given_part m number p moment = record { handset = m.handset; reference = p.reference; holder = Part m.id number; moment = moment; tpdu = p.tpdu }

abbrev pub given_report : MessageRow → ℕ → List ℕ → ℕ → Allocation
given_report m reference tpdu moment = record { handset = m.source.digits; reference = reference; holder = Report m.id; moment = moment; tpdu = compared tpdu }

pub record RefinesHolders (messages : ℕ → Option MessageRow) (parts : ℕ → ℕ → Option PartSeen) (reports : ℕ → Option ReportSeen)
    (down : List Allocation) : Type 0 where
  pub part : (id number : ℕ) (m : MessageRow) (p : PartSeen) → messages id ≡ Some m → parts id number ≡ Some p
      → (moment : ℕ) × Among (given_part m number p moment) down
  pub report : (id reference : ℕ) (tpdu : List ℕ) (m : MessageRow) (r : ReportSeen) → messages id ≡ Some m → reports id ≡ Some r
      → r.kind ≡ Status reference tpdu
      → (moment : ℕ) × Among (given_report m reference tpdu moment) down
  pub of_part : (g : Allocation) (id number : ℕ) → Among g down → g.holder ≡ Part id number
      → (m : MessageRow) × (p : PartSeen) × ((messages id ≡ Some m) × (parts id number ≡ Some p) × (g ≡ given_part m number p g.moment))
  pub of_report : (g : Allocation) (id : ℕ) → Among g down → g.holder ≡ Report id
      → (m : MessageRow) × (r : ReportSeen) × (reference : ℕ) × (tpdu : List ℕ)
      × ((messages id ≡ Some m) × (reports id ≡ Some r) × (r.kind ≡ Status reference tpdu) × (g ≡ given_report m reference tpdu g.moment))
