-- What a watcher has seen when a play reaches a course.
use Rattle.std.specs.Prelude.{◌≡◌, ℕ, List, Option, Result, Ok}
use Rattle.sms_base.specs.Reading.{◌>>=◌}
use Rattle.sms_play.specs.judging.Premises.{or_first}
use Rattle.sms_script.specs.declared.play_fault.PlayFault.{PlayFault}
use Rattle.sms_play.specs.PlayState.{PlayState}
use Rattle.sms_play.specs.PlayedEvent.{played}
use Rattle.sms_play.specs.Playing.{broken_on, played_on}
use Rattle.sms_play.specs.Premises.{broken_by}
use Rattle.sms_player.specs.playing.Plays.{Represents}
use Rattle.sms_player.specs.playing.Played.{PlayingOf}
use Rattle.sms_script.specs.declared.report.Broken.{Broken}
use Rattle.sms_script.specs.declared.event.WorldEvent.{WorldEvent}

-- the course that was wanted is shown, and was seen with what was decided on the way
abbrev pub Follows : (Option Broken → PlayState → Type 0) → PlayingOf → Option Broken → Result PlayState PlayFault → Result (Option Broken) PlayFault → Type 0
Follows seen new broken wanted decided =
    (d : PlayState) × ((later : Option Broken) × ((wanted ≡ Ok d) × (decided ≡ Ok later) × Represents d new × seen (or_first broken later) d))

-- of one event
abbrev pub FollowsOne : (Option Broken → PlayState → Type 0) → PlayingOf → Option Broken → ℕ → WorldEvent → PlayState → Type 0
FollowsOne seen new broken number e c = Follows seen new broken (played number e c) (played number e c >>= λ (d : PlayState). Ok (broken_by number e c d))

-- of all events
abbrev pub FollowsAll : (Option Broken → PlayState → Type 0) → PlayingOf → Option Broken → List WorldEvent → PlayState → Type 0
FollowsAll seen new broken events c = Follows seen new broken (played_on 1 events c) (broken_on 1 events c)
