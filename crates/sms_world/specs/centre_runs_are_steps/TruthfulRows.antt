-- What the centre's rows say is true of the handsets: wherever a run of the world led that the centre sees.
use Rattle.std.specs.Prelude.{◌≡◌, ℕ, ◌<◌, List, Some}
use Rattle.sms_base.specs.Among.{Among}
use Rattle.sms_base.specs.declared.final_state.FinalState.{FinalState}
use Rattle.sms_base.specs.declared.final_state.FinalState.TheVariants.{Delivered}
use Rattle.sms_centre_rows.specs.messages.Messages.{message_at, part_at}
use Rattle.sms_centre_rows.specs.declared.messages.message.MessageRow.{MessageRow}
use Rattle.sms_centre_rows.specs.declared.messages.part.PartRow.{PartRow}
use Rattle.sms_centre_rows.specs.reports.Reports.{report_of}
use Rattle.sms_centre_rows.specs.declared.reports.report.ReportRow.{ReportRow}
use Rattle.sms_centre_spec.specs.Draft.{Core, draft_of}
use Rattle.sms_world_model.specs.Groups.{OccursOnce}
use Rattle.sms_world_model.specs.WorldStep.{Item, Run, end}
use Rattle.sms_world_model.specs.Premises.{Timely}
use Rattle.sms_world_model.specs.World.{World, empty}
use Rattle.sms_world.specs.centres_refine_the_world.CentreRefinement.{CentreRefines}
use Rattle.sms_world.specs.centre_runs_are_steps.Run.{Episode, IsSteps, MayBe}
use Rattle.sms_world.specs.headline.Claims.{pair_in_row, IsAsSubmitted}

-- ---- rows that are true of the world

-- A message counts as delivered only if its handset accepted each of its parts exactly once, with the octets of the part's row.
abbrev pub DeliveredRows : Core → World → Type 0
DeliveredRows c w =
    (id number : ℕ) (m : MessageRow) (p : PartRow) → message_at id c.rows.messages ≡ Some m → m.state ≡ Some Delivered → part_at id number c.rows.parts ≡ Some p
    → number < 256
    → OccursOnce (pair_in_row m p) w.accepted × IsAsSubmitted m number p

-- no part was accepted twice, whatever became of its message
abbrev pub OnceRows : Core → World → Type 0
OnceRows c w =
    (id number : ℕ) (m : MessageRow) (p : PartRow) → message_at id c.rows.messages ≡ Some m → part_at id number c.rows.parts ≡ Some p → number < 256
    → Among (pair_in_row m p) w.accepted → OccursOnce (pair_in_row m p) w.accepted

-- a receipt or status report is of a message that has ended. The world has one receipt of it, of the state that its row has
abbrev pub ReportedRows : Core → World → Type 0
ReportedRows c w =
    (id : ℕ) (r : ReportRow) → report_of id c.rows.reports ≡ Some r
    → (m : MessageRow) × (f : FinalState)
    × ((message_at id c.rows.messages ≡ Some m) × (m.state ≡ Some f) × OccursOnce (record { id = id; state = f }) w.receipts)

-- ---- laws

-- an episode is a run
abbrev pub EpisodeLaw : Type 0
EpisodeLaw = (e : Episode) (c : Core) (w v : World) → MayBe e c w → IsSteps e c w v → (steps : List Item) × (Run w steps × (v ≡ end w steps))

abbrev pub ReportedLaw : Type 0
ReportedLaw =
    (steps : List Item) (c : Core) → Run empty steps → CentreRefines (end empty steps) (draft_of c) (end empty steps) → ReportedRows c (end empty steps)

-- while frames are timely
abbrev pub DeliveredLaw : Type 0
DeliveredLaw =
    (steps : List Item) (c : Core) → Run empty steps → Timely empty steps → CentreRefines (end empty steps) (draft_of c) (end empty steps)
    → DeliveredRows c (end empty steps)

abbrev pub OnceLaw : Type 0
OnceLaw =
    (steps : List Item) (c : Core) → Run empty steps → Timely empty steps → CentreRefines (end empty steps) (draft_of c) (end empty steps)
    → OnceRows c (end empty steps)
