-- What `premises` answers, in the words of the world, along one run of it. It answers whether each frame that is handed over is timely
-- and each submission fresh. Else it answers the first event that breaks one.
use Rattle.sms_play.specs.PlayState.{PlayState}
use Rattle.sms_play.specs.Playing.{play_state_of}
use Rattle.sms_play.specs.Setups.{beginning}
use Rattle.sms_script.specs.declared.event.WorldEvent.{WorldEvent}
use Rattle.sms_script.specs.declared.report.Broken.{Broken}
use Rattle.sms_script.specs.declared.report.Broken.TheVariants.{Reused, Timely}
use Rattle.sms_script.specs.declared.setup.Setup.{Setup}
use Rattle.sms_world.specs.headline.OneRun.{AreFreshThere, IsTimelyThere, Runs, world_after}
use Rattle.sms_world_model.specs.World.{World, empty}
use Rattle.sms_world_model.specs.WorldStep.{Step}
use Rattle.std.specs.Prelude.{List, None, Ok, Option, Some, [], ℕ, ◌+◌, ◌∷◌, ◌≡◌, ◌⊎◌}

-- ---- both hold of each event of the run

abbrev pub AllKeep : (number : ℕ) → (events : List WorldEvent) → (c : PlayState) → (w : World) → (last : PlayState) → Runs number events c w last → Type 0
AllKeep number [] c w last run = Unit {0}
AllKeep number (e ∷ es) c w last run =
    IsTimelyThere e c w × AreFreshThere e c w run.1.1 × AllKeep (number + 1) es run.1.0 (world_after w e c run.1.1) last run.1.2.1

-- ---- one does not

-- what the event of that number breaks: the frame that it hands over is looked at before what it submits
abbrev pub BreaksThere : ℕ → WorldEvent → PlayState → World → List Step → Broken → Type 0
BreaksThere number e c w steps (Timely n) = (n ≡ number) × ¬ IsTimelyThere e c w
BreaksThere number e c w steps (Reused n) = (n ≡ number) × IsTimelyThere e c w × ¬ AreFreshThere e c w steps

-- the first event that breaks one
abbrev pub BreaksFirstThere : (number : ℕ) → (events : List WorldEvent) → (c : PlayState) → (w : World) → (last : PlayState) → Runs number events c w last
    → Broken → Type 0
BreaksFirstThere number [] c w last run b = ⊥
BreaksFirstThere number (e ∷ es) c w last run b =
    BreaksThere number e c w run.1.1 b
    ⊎ (IsTimelyThere e c w × AreFreshThere e c w run.1.1 × BreaksFirstThere (number + 1) es run.1.0 (world_after w e c run.1.1) last run.1.2.1 b)

-- ---- what is answered

abbrev pub KeepsOrBreaks : (events : List WorldEvent) → (c : PlayState) → (last : PlayState) → Runs 1 events c empty last → Option Broken → Type 0
KeepsOrBreaks events c last run None = AllKeep 1 events c empty last run
KeepsOrBreaks events c last run (Some b) = BreaksFirstThere 1 events c empty last run b

-- The script plays, its events are that run from the empty world on, and the answer is right of it.
pub record WorldPremises (setup : Setup) (events : List WorldEvent) (broken : Option Broken) : Type 0 where
  pub play : PlayState
  pub leads : play_state_of setup events ≡ Ok play
  pub run : Runs 1 events (beginning setup) empty play
  pub answer : KeepsOrBreaks events (beginning setup) play run broken
