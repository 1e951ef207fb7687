-- The claims, of every script.
use Rattle.sms_play.specs.PlayState.{PlayState}
use Rattle.sms_play.specs.Playing.{play_state_of, play_of, report_of, premises_of}
use Rattle.sms_play.specs.Setups.{beginning}
use Rattle.sms_script.specs.declared.event.WorldEvent.{WorldEvent}
use Rattle.sms_script.specs.declared.report.Report.{Report}
use Rattle.sms_script.specs.declared.script.Script.{Script}
use Rattle.sms_script.specs.declared.setup.Setup.{Setup}
use Rattle.sms_world.specs.headline.Claims.{AllTimely, AreOnce, DeliveredOnce, FinalStays, GivenOnce, HasOneLine, HeldDiffer, JoinedOfParts, JoinedOnce}
use Rattle.sms_world.specs.headline.Claims.{JoinedWhole, LinesStay, PartsOnce, ReceiptsStay, ReceiptsHaveState, SentSubmitted, ReportedOnce, ConfirmedAreThere}
use Rattle.sms_world.specs.headline.Claims.{StatusReportsAreListed, AllFresh}
use Rattle.sms_world.specs.headline.Headline.{Headline}
use Rattle.sms_world.specs.headline.OneRun.{Runs}
use Rattle.sms_world.specs.headline.ReportClaims.{StatusReportsSay}
use Rattle.sms_world.specs.headline.SplitClaims.{SplitsAreLong, SplitsJoined, SplitsStay, TextsSplit}
use Rattle.sms_world.specs.headline.TypedEvents.{AreTyped}
use Rattle.sms_world.specs.scripts_are_runs.PlayRuns.{happenings}
use Rattle.sms_world.specs.scripts_are_runs.PlayRefinement.{PlayRefines}
use Rattle.sms_world_model.specs.ScriptRun.{Plays}
use Rattle.sms_world_model.specs.World.{World, empty}
use Rattle.std.specs.Prelude.{List, Ok, length, ◌++◌, ◌+◌, ◌≡◌, Option}
use Rattle.sms_world.specs.headline.WorldPremises.{WorldPremises}
use Rattle.sms_script.specs.declared.report.Broken.{Broken}

-- The script has these events in order, some and then others, and they are such as their types have them.
pub record IsScript (script : Script) (some others : List WorldEvent) : Type 0 where
  pub typed : AreTyped script.events
  pub events : script.events ≡ some ++ others

-- it leads here after the one, and there after the others
pub record LeadsOn (script : Script) (some : List WorldEvent) (c d : PlayState) : Type 0 where
  pub here : play_state_of script.setup some ≡ Ok c
  pub there : play_state_of script.setup script.events ≡ Ok d

-- ---- it is a run

-- The events up to any of them happened in the world, from the empty one on. The play state shows the world that they led to.
abbrev pub RunLaw : Type 0
RunLaw =
    (script : Script) (some others : List WorldEvent) (c d : PlayState) → IsScript script some others → LeadsOn script some c d
    → (w : World) × (v : World) ×
    (Plays empty (happenings 1 some (beginning script.setup)) w × PlayRefines c w × Plays w (happenings (1 + length some) others c) v × PlayRefines d v)

-- They are one run, and each play state on the way shows the world there.
abbrev pub OneRunLaw : Type 0
OneRunLaw =
    (script : Script) (some others : List WorldEvent) (c d : PlayState) → IsScript script some others → LeadsOn script some c d
    → Runs 1 some (beginning script.setup) empty c

-- ---- whatever happens

abbrev pub FinalLaw : Type 0
FinalLaw =
    (script : Script) (some others : List WorldEvent) (c d : PlayState) → IsScript script some others → LeadsOn script some c d
    → FinalStays (report_of c) (report_of d)

abbrev pub StayLaw : Type 0
StayLaw =
    (script : Script) (some others : List WorldEvent) (c d : PlayState) → IsScript script some others → LeadsOn script some c d
    → LinesStay (report_of c) (report_of d)

abbrev pub ReceiptsStayLaw : Type 0
ReceiptsStayLaw =
    (script : Script) (some others : List WorldEvent) (c d : PlayState) → IsScript script some others → LeadsOn script some c d
    → ReceiptsStay (report_of c) (report_of d)

-- the claim of one report
abbrev pub Of : (PlayState → Type 0) → Type 0
Of Claim =
    (script : Script) (some others : List WorldEvent) (c d : PlayState) → IsScript script some others → LeadsOn script some c d → Claim c

abbrev pub LineLaw : Type 0
LineLaw = Of (λ c. HasOneLine (report_of c))

abbrev pub ReceiptLaw : Type 0
ReceiptLaw = Of (λ c. ReceiptsHaveState (report_of c))

abbrev pub OnceLaw : Type 0
OnceLaw = Of (λ c. AreOnce (report_of c).receipts)

abbrev pub HeldLaw : Type 0
HeldLaw = Of (λ c. HeldDiffer c)

abbrev pub GivenLaw : Type 0
GivenLaw = Of (λ c. GivenOnce (report_of c).given)

abbrev pub JoinedLaw : Type 0
JoinedLaw = Of (λ c. JoinedOfParts c)

-- ---- while frames are timely

abbrev pub DeliveredLaw : Type 0
DeliveredLaw =
    (script : Script) (some others : List WorldEvent) (c d : PlayState) → IsScript script some others → LeadsOn script some c d
    → AllTimely 1 some (beginning script.setup) → DeliveredOnce c

abbrev pub PartsLaw : Type 0
PartsLaw =
    (script : Script) (some others : List WorldEvent) (c d : PlayState) → IsScript script some others → LeadsOn script some c d
    → AllTimely 1 some (beginning script.setup) → PartsOnce c

abbrev pub ReportedLaw : Type 0
ReportedLaw =
    (script : Script) (some others : List WorldEvent) (c d : PlayState) → IsScript script some others → LeadsOn script some c d
    → AllTimely 1 some (beginning script.setup) → ReportedOnce c

abbrev pub SentLaw : Type 0
SentLaw =
    (script : Script) (some others : List WorldEvent) (c d : PlayState) → IsScript script some others → LeadsOn script some c d
    → AllTimely 1 some (beginning script.setup) → SentSubmitted c

abbrev pub JoinedOnceLaw : Type 0
JoinedOnceLaw =
    (script : Script) (some others : List WorldEvent) (c d : PlayState) → IsScript script some others → LeadsOn script some c d
    → AllTimely 1 some (beginning script.setup) → JoinedOnce c

-- and while originators keep references fresh, too
abbrev pub JoinedWholeLaw : Type 0
JoinedWholeLaw =
    (script : Script) (some others : List WorldEvent) (c d : PlayState) → IsScript script some others → LeadsOn script some c d
    → AllTimely 1 some (beginning script.setup) → AllFresh 1 some (beginning script.setup) → JoinedWhole c

-- ---- messages that the centre split

abbrev pub SplitLongLaw : Type 0
SplitLongLaw = Of (λ c. SplitsAreLong c)

abbrev pub SplitStaysLaw : Type 0
SplitStaysLaw = (script : Script) (some others : List WorldEvent) (c d : PlayState) → IsScript script some others → LeadsOn script some c d → SplitsStay c d

abbrev pub SplitTextLaw : Type 0
SplitTextLaw =
    (script : Script) (c : PlayState) → AreTyped script.events → play_state_of script.setup script.events ≡ Ok c → TextsSplit script.setup script.events c

abbrev pub SplitJoinedLaw : Type 0
SplitJoinedLaw =
    (script : Script) (some others : List WorldEvent) (c d : PlayState) → IsScript script some others → LeadsOn script some c d
    → AllTimely 1 some (beginning script.setup) → AllFresh 1 some (beginning script.setup) → SplitsJoined c

-- ---- what the report confirms

abbrev pub ConfirmedLaw : Type 0
ConfirmedLaw = Of (λ c. ConfirmedAreThere (report_of c))

abbrev pub StatusLaw : Type 0
StatusLaw = Of (λ c. StatusReportsAreListed (report_of c))

-- each STATUS-REPORT says of its message what its row does
abbrev pub ReportsSayLaw : Type 0
ReportsSayLaw = Of (λ c. StatusReportsSay c)

-- ---- all of it

-- Whatever the head and the events of a script, the report that it leads to has the headline.
abbrev pub HeadlineLaw : Type 0
HeadlineLaw = (setup : Setup) (events : List WorldEvent) (report : Report) → AreTyped events → play_of setup events ≡ Ok report → Headline setup events report

-- What is decided of the premises is right of the world.
abbrev pub WorldLaw : Type 0
WorldLaw =
    (setup : Setup) (events : List WorldEvent) (broken : Option Broken) → AreTyped events → premises_of setup events ≡ Ok broken
    → WorldPremises setup events broken
