-- The plain headline of one report: it is said of that report and of those of each first part of its script.
use Rattle.std.specs.Prelude.{◌≡◌, ◌++◌, ℕ, List, length, Option, Ok}
use Rattle.sms_play.specs.Playing.{play_of}
use Rattle.sms_script.specs.declared.event.WorldEvent.{WorldEvent}
use Rattle.sms_script.specs.declared.report.Broken.{Broken}
use Rattle.sms_script.specs.declared.report.Report.{Report}
use Rattle.sms_script.specs.declared.setup.Setup.{Setup}
use Rattle.sms_world.specs.headline.DecidedPremises.{Premises}
use Rattle.sms_world.specs.headline.OwnerClaims.{OwnersAreSent}
use Rattle.sms_world.specs.headline.PlainHeadline.{PlainHeadline}

-- `after n` is the report that the first n events lead to
abbrev pub ReportsOf : Setup → List WorldEvent → (ℕ → Report) → Type 0
ReportsOf setup events after = (some others : List WorldEvent) → events ≡ some ++ others → play_of setup some ≡ Ok (after (length some))

-- The report is the last of them, and they have the plain headline with what breaks a premise. What handsets sent for entries are their
-- owners' texts, whatever became of it. That is said over octets, so it is no field of the plain headline.
pub record IsPlain (setup : Setup) (events : List WorldEvent) (report : Report) (broken : Option Broken) : Type 0 where
  pub after : ℕ → Report
  pub each : ReportsOf setup events after
  pub last : after (length events) ≡ report
  pub headline : PlainHeadline setup events after broken
  pub owners : OwnersAreSent (record { setup = setup; events = events }) after report

-- with what `premises` answers of the script
abbrev pub HasPlainHeadline : Setup → List WorldEvent → Report → Type 0
HasPlainHeadline setup events report = (broken : Option Broken) × (Premises setup events broken × IsPlain setup events report broken)
