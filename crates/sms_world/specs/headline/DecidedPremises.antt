-- What `premises` answers: whether both premises hold of each event, and else the first event that breaks one.
use Rattle.std.specs.Prelude.{◌≡◌, ◌⊎◌, ◌↔◌, ℕ, ◌+◌, List, [], ◌∷◌, true, false, Option, Some, None, Ok}
use Rattle.sms_script.specs.declared.report.Broken.{Broken}
use Rattle.sms_script.specs.declared.report.Broken.TheVariants.{Reused, Timely}
use Rattle.sms_script.specs.declared.event.WorldEvent.{WorldEvent}
use Rattle.sms_script.specs.declared.setup.Setup.{Setup}
use Rattle.sms_play.specs.PlayState.{PlayState}
use Rattle.sms_play.specs.PlayedEvent.{played}
use Rattle.sms_play.specs.Playing.{play_state_of, premises_of}
use Rattle.sms_play.specs.Premises.{is_fresh_event, is_timely_event}
use Rattle.sms_play.specs.Setups.{beginning}
use Rattle.sms_world.specs.headline.Claims.{AllTimely, AllFresh}

-- the script plays
abbrev pub Plays : Setup → List WorldEvent → Type 0
Plays s events = (c : PlayState) × (play_state_of s events ≡ Ok c)

-- None is answered exactly where the script plays and both hold of every event.
abbrev pub NoneLaw : Type 0
NoneLaw =
    (s : Setup) (events : List WorldEvent)
    → (premises_of s events ≡ Ok None) ↔ (Plays s events × AllTimely 1 events (beginning s) × AllFresh 1 events (beginning s))

-- what the event of that number breaks: the frame that it hands over is looked at before what it gives
abbrev pub Breaks : ℕ → WorldEvent → PlayState → PlayState → Broken → Type 0
Breaks number e c d (Timely n) = (n ≡ number) × (is_timely_event e c ≡ false)
Breaks number e c d (Reused n) = (n ≡ number) × (is_timely_event e c ≡ true) × (is_fresh_event c d ≡ false)

-- the first event that breaks one, and what it breaks
abbrev pub BreaksFirst : ℕ → List WorldEvent → PlayState → Broken → Type 0
BreaksFirst number [] c b = ⊥
BreaksFirst number (e ∷ es) c b =
    (d : PlayState)
    × ((played number e c ≡ Ok d)
    × (Breaks number e c d b ⊎ ((is_timely_event e c ≡ true) × (is_fresh_event c d ≡ true) × BreaksFirst (number + 1) es d b)))

abbrev pub FirstLaw : Type 0
FirstLaw = (s : Setup) (events : List WorldEvent) (b : Broken) → (premises_of s events ≡ Ok (Some b)) ↔ (Plays s events × BreaksFirst 1 events (beginning s) b)

-- ---- what is answered

abbrev pub Premises : Setup → List WorldEvent → Option Broken → Type 0
Premises s events None = Plays s events × AllTimely 1 events (beginning s) × AllFresh 1 events (beginning s)
Premises s events (Some b) = Plays s events × BreaksFirst 1 events (beginning s) b
