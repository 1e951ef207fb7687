-- What handsets send up for the entries of their outboxes: the texts that their owners gave.
use Rattle.std.specs.Prelude.{◌≡◌, ◌≤◌, ◌+◌, ℕ, suc, List, Bool, false, Some, Ok}
use Rattle.std.specs.Str.{chars}
use Rattle.sms_base.specs.Among.{Among}
use Rattle.sms_base.specs.declared.carried.Carried.{Carried}
use Rattle.sms_base.specs.declared.carried.Kind.TheVariants.{Data}
use Rattle.sms_base.specs.declared.holder.Holder.TheVariants.{Entry}
use Rattle.sms_concat.specs.TextContent.{content_of_text}
use Rattle.sms_control.specs.ControlReading.{cp_at}
use Rattle.sms_intake.specs.PartBodies.{bodies_under}
use Rattle.sms_intake.specs.declared.submission.SinglePart.{SinglePart}
use Rattle.sms_intake.specs.declared.submission.Text.TheVariants.{Whole as WholeText}
use Rattle.sms_play.specs.PlayState.{numbers_of}
use Rattle.sms_play.specs.Setups.{parties_of}
use Rattle.sms_script.specs.declared.event.Act.TheVariants.{Write}
use Rattle.sms_script.specs.declared.event.WorldEvent.{WorldEvent}
use Rattle.sms_script.specs.declared.report.Report.{Report}
use Rattle.sms_script.specs.declared.report.rows.Direction.TheVariants.{Up}
use Rattle.sms_script.specs.declared.report.rows.FrameRow.{FrameRow}
use Rattle.sms_script.specs.declared.script.Script.{Script}
use Rattle.sms_tpdu.specs.TpduReading.{submit_at}
use Rattle.sms_tpdu.specs.declared.submit.Submit.{Submit as SubmitOf}
use Rattle.sms_world.specs.headline.Origins.{user_data_of}
use Rattle.sms_world.specs.headline.PlainReport.{IsEntered}
use Rattle.sms_world.specs.headline.PlainScript.{Does}
use Rattle.sms_world.specs.headline.PlainWords.{numbered}
use Rattle.sms_world.specs.headline.SeenFrames.{frame_tpdu}

-- The octets are a SUBMIT of the one part, at the entry's place, of a text that the owner gave at an event. Its first part has the entry that was
-- entered first there.
pub record IsOwners (script : Script) (after : ℕ → Report) (h : List ℕ) (n : ℕ) (tpdu : List ℕ) : Type 0 where
  pub submit : SubmitOf
  pub reads : submit_at tpdu ≡ Ok submit
  pub given_at : ℕ
  pub first : ℕ
  pub place : ℕ
  pub own : n ≡ first + place
  pub entered : (e : ℕ) → IsEntered after given_at h e → first ≤ e
  pub first_entered : IsEntered after given_at h first
  pub owner : Among h (numbers_of (parties_of script.setup script.setup.handsets))
  pub writing : WorldEvent
  pub written_at : numbered given_at script.events ≡ Some writing
  pub to : List ℕ
  pub report : Bool
  pub text : List ℕ
  pub writes : Does writing (Write h to report text)
  pub reference : ℕ
  pub body : SinglePart
  pub piece : numbered (suc place) (bodies_under reference (WholeText (content_of_text (chars text)))) ≡ Some body
  pub destination : submit.destination_address.digits ≡ to
  pub request : submit.status_report_request ≡ report
  pub protocol_identifier : submit.protocol_identifier ≡ 0
  pub reply_path : submit.reply_path ≡ false
  pub scheme : submit.data_coding_scheme ≡ body.data_coding_scheme
  pub header : submit.user_data_header_indicator ≡ body.header_indicator
  pub user_data : submit.user_data ≡ user_data_of body

-- Each frame of data that a handset sent for an entry of its outbox has such octets.
abbrev pub OwnersAreSent : Script → (ℕ → Report) → Report → Type 0
OwnersAreSent script after r =
    (f : FrameRow) (x : Carried) (e : ℕ) → Among f r.bag → f.direction ≡ Up → f.carried ≡ Some x → x.kind ≡ Data → x.tag ≡ Entry e
    → IsOwners script after f.handset e (frame_tpdu (cp_at f.octets))
