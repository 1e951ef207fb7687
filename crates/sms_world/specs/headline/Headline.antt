-- The headline: what holds of every report that `play` answers, whatever the head of the script and its events.
use Rattle.sms_play.specs.PlayState.{PlayState}
use Rattle.sms_play.specs.Playing.{play_state_of, play_of, report_of}
use Rattle.sms_play.specs.Setups.{beginning}
use Rattle.sms_play.specs.answers.AnswerLaws.{HaveNoSystemError}
use Rattle.sms_script.specs.declared.event.WorldEvent.{WorldEvent}
use Rattle.sms_script.specs.declared.report.Report.{Report}
use Rattle.sms_script.specs.declared.setup.Setup.{Setup}
use Rattle.sms_world.specs.headline.Claims.{AllTimely, AreOnce, DeliveredOnce, FinalStays, GivenOnce, HeldDiffer, JoinedWhole, LinesStay, PartsOnce}
use Rattle.sms_world.specs.headline.Claims.{ReceiptsStay, ReceiptsHaveState, SentSubmitted, ConfirmedAreThere, StatusReportsAreListed, AllFresh}
use Rattle.sms_world.specs.headline.OneRun.{Runs}
use Rattle.sms_world.specs.headline.PlainReport.{AreAscending}
use Rattle.sms_world.specs.headline.ReportClaims.{StatusReportsSay}
use Rattle.sms_world.specs.headline.SplitClaims.{SplitsJoined, TextsSplit}
use Rattle.sms_world.specs.headline.Origins.{AreFromEvents, LinesDelivered, ReportedDelivered}
use Rattle.sms_world_model.specs.World.{empty}
use Rattle.std.specs.Prelude.{List, Ok, ◌++◌, ◌≡◌}

-- ---- whatever happens

-- in the one report and in the report of a longer list of events: lines stay, final states stay, and receipts stay
pub record Stay (before after : Report) : Type 0 where
  pub lines : LinesStay before after
  pub final : FinalStays before after
  pub receipts : ReceiptsStay before after

-- Each message has one line, in the order of their numbers. It keeps it in the report of every longer list of events, and a final state stays.
-- A receipt or status report has the final state of its message, and no message has two.
pub record FinalStates (setup : Setup) (events : List WorldEvent) (report : Report) : Type 0 where
  pub one_line : AreAscending report.table
  pub stay : (some others : List WorldEvent) (before : Report) → events ≡ some ++ others → play_of setup some ≡ Ok before → Stay before report
  pub receipts : ReceiptsHaveState report
  pub one_receipt : AreOnce report.receipts

-- The references that pending parts and open status reports of a handset hold differ, and none is given twice there in one second.
pub record References (c : PlayState) : Type 0 where
  pub held : HeldDiffer c
  pub given : GivenOnce c.given

-- A submit_sm that was answered with a number is a message in the table. Each STATUS-REPORT among the frames is of a status report that is
-- listed. No request was answered ESME_RSYSERR. Each event of the run says of each deliver_sm that its receipt is listed, and that it goes to
-- its account.
pub record Confirmed (report : Report) : Type 0 where
  pub messages : ConfirmedAreThere report
  pub status_reports : StatusReportsAreListed report
  pub no_system_error : HaveNoSystemError report.answers

-- ---- while frames are timely

-- What a receipt, a status report or a line of the table calls delivered was submitted by an event of the script. Its handset accepted each
-- part of it exactly once, as it was submitted. It also accepted each part of such a message exactly once, as its rows have it. No part of
-- any message was accepted twice.
pub record WasDelivered (setup : Setup) (events : List WorldEvent) (c : PlayState) : Type 0 where
  pub receipts : ReportedDelivered setup events c
  pub lines : LinesDelivered setup events c
  pub parts : DeliveredOnce c
  pub once : PartsOnce c

-- ---- while originators keep references fresh, too

-- Each long message that a handset joined is one round that was submitted to it, whole, and none was joined twice. What was joined of a
-- text that the centre split is that text.
pub record WasJoined (c : PlayState) : Type 0 where
  pub rounds : JoinedWhole c
  pub texts : SplitsJoined c

-- ---- all of it

pub record Headline (setup : Setup) (events : List WorldEvent) (report : Report) : Type 0 where
  -- what the events lead to, and the report is read off
  pub play : PlayState
  pub leads : play_state_of setup events ≡ Ok play
  pub is_of : report ≡ report_of play
  -- the events are one run of the world, from the empty one on
  pub run : Runs 1 events (beginning setup) empty play
  pub final_states : FinalStates setup events report
  pub references : References play
  -- each message is of one event; and a text that an event submitted, if the centre split it, is that text in the rows
  pub origins : AreFromEvents setup events play
  pub texts : TextsSplit setup events play
  pub confirmed : Confirmed report
  -- each STATUS-REPORT says which message it reports, when that was taken, and when and how it ended; the handset that sent it is told
  pub told : StatusReportsSay play
  -- while each frame that is handed over is timely
  pub delivered : AllTimely 1 events (beginning setup) → WasDelivered setup events play
  pub sent : AllTimely 1 events (beginning setup) → SentSubmitted play
  -- and while each submission is fresh, too
  pub joined : AllTimely 1 events (beginning setup) → AllFresh 1 events (beginning setup) → WasJoined play
