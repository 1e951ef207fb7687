-- Words for worked scripts: what the report of a script's text tells, in short.
use Rattle.std.proofs.Common.{ℕ, ◌+◌, ◌-◌, ◌*◌, nat_lt, List, [], ◌∷◌, if◌then◌else◌, Option, Result, Ok, Err}
use Rattle.sms_script.specs.declared.report.answers.Answer.{Answer}
use Rattle.sms_centre_rows.specs.declared.report_lines.MessageState.{MessageState}
use Rattle.sms_script.specs.declared.report.Broken.{Broken}
use Rattle.sms_script.specs.declared.report.Report.{Report}
use Rattle.sms_script.specs.declared.report.rows.AcceptedRow.{AcceptedRow}
use Rattle.sms_script.specs.declared.report.rows.FrameRow.{FrameRow}
use Rattle.sms_script.specs.declared.report.rows.JoinedRow.{JoinedRow}
use Rattle.sms_centre_rows.specs.declared.report_lines.ReportedMessage.{ReportedMessage}
use Rattle.sms_centre_rows.specs.declared.report_lines.ReceiptRow.{ReceiptRow}
use Rattle.sms_script.specs.declared.script.Script.{Script}
use Rattle.sms_script.specs.WholeScript.{script_in}
use Rattle.sms_script.specs.declared.play_fault.PlayFault.{PlayFault}
use Rattle.sms_play.specs.Playing.{play_of, premises_of}

-- ---- hexadecimal

abbrev pub half : ℕ → ℕ
half c = if nat_lt c 58 then c - 48 else c - 55

abbrev pub hex : List ℕ → List ℕ
hex [] = []
hex (a ∷ []) = []
hex (a ∷ b ∷ rest) = (16 * half a + half b) ∷ hex rest

abbrev pub all_hex : List (List ℕ) → List (List ℕ)
all_hex [] = []
all_hex (t ∷ ts) = hex t ∷ all_hex ts

-- ---- what is told

pub record ReportedRun : Type 0 where
  pub answers : List Answer
  pub states : List MessageState
  -- the TPDUs that handsets accepted
  pub accepted : List (List ℕ)
  -- the units of what they joined
  pub joined : List (List ℕ)
  pub receipts : List ReceiptRow
  -- the octets of the frames
  pub frames : List (List ℕ)
  pub broken : Option Broken

abbrev pub states_in : List ReportedMessage → List MessageState
states_in [] = []
states_in (m ∷ ms) = m.state ∷ states_in ms

abbrev pub tpdus_in : List AcceptedRow → List (List ℕ)
tpdus_in [] = []
tpdus_in (a ∷ rest) = a.tpdu ∷ tpdus_in rest

abbrev pub units_in : List JoinedRow → List (List ℕ)
units_in [] = []
units_in (j ∷ rest) = j.units ∷ units_in rest

abbrev pub octets_in : List FrameRow → List (List ℕ)
octets_in [] = []
octets_in (f ∷ fs) = f.octets ∷ octets_in fs

pub data Outcome : Type 0 where
  RunReports : ReportedRun → Outcome
  Fails : PlayFault → Outcome
  Misread : ℕ → Outcome

abbrev pub told_with : Report → Result (Option Broken) PlayFault → Outcome
told_with r (Ok broken) = RunReports (record {
  answers = r.answers;
  states = states_in r.table;
  accepted = tpdus_in r.accepted;
  joined = units_in r.joined;
  receipts = r.receipts;
  frames = octets_in r.bag;
  broken = broken;
})
told_with r (Err fault) = Fails fault

abbrev pub told_of : Result Report PlayFault → Result (Option Broken) PlayFault → Outcome
told_of (Ok r) premises = told_with r premises
told_of (Err fault) premises = Fails fault

abbrev pub told_by : Result Script ℕ → Outcome
told_by (Ok s) = told_of (play_of s.setup s.events) (premises_of s.setup s.events)
told_by (Err line) = Misread line

abbrev pub told : List ℕ → Outcome
told text = told_by (script_in text)
