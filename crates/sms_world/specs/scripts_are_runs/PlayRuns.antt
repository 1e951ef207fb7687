-- A script's course is a run of the world, event by event.
use Rattle.std.specs.Prelude.{◌≡◌, ℕ, ◌+◌, List, [], ◌∷◌, true, Result, Ok, Err}
use Rattle.sms_script.specs.declared.event.WorldEvent.{WorldEvent}
use Rattle.sms_script.specs.declared.setup.Setup.{Setup}
use Rattle.sms_script.specs.declared.play_fault.PlayFault.{PlayFault}
use Rattle.sms_play.specs.PlayState.{PlayState}
use Rattle.sms_play.specs.PlayedEvent.{played}
use Rattle.sms_play.specs.Playing.{play_state_of, played_on}
use Rattle.sms_play.specs.Setups.{beginning, can_be_played}
use Rattle.sms_world_model.specs.WorldStep.{Run, end, Step}
use Rattle.sms_world_model.specs.ScriptRun.{Belongs, Happening, Plays, happened}
use Rattle.sms_world_model.specs.World.{World, empty}
use Rattle.sms_world.specs.scripts_are_runs.PlayRefinement.{PlayRefines}
use Rattle.sms_world.specs.scripts_are_runs.Happening.{HandsOctets, IsGoodEvent}
use Rattle.sms_world.specs.headline.OneRun.{happening_of}
use Rattle.sms_world.specs.headline.Claims.{IfPlayed}

-- ---- one event

-- the event, as it went, is steps of the world that lead to one which the course after it sees
abbrev pub LeadsTo : WorldEvent → PlayState → World → PlayState → Type 0
LeadsTo e c w d =
    (steps : List Step)
    × (Belongs w (happening_of e c.centre.moment) (happening_of e c.centre.moment).went steps × Run w (happened (happening_of e c.centre.moment) steps)
    × PlayRefines d (end w (happened (happening_of e c.centre.moment) steps)))

abbrev pub EventLaw : Type 0
EventLaw =
    (number : ℕ) (e : WorldEvent) (c d : PlayState) (w : World) → PlayRefines c w → IsGoodEvent e → HandsOctets e c → played number e c ≡ Ok d → LeadsTo e c w d

-- ---- all of them

abbrev pub AreGood : List WorldEvent → Type 0
AreGood [] = Unit {0}
AreGood (e ∷ es) = IsGoodEvent e × AreGood es

-- each event of a script hands over octets
abbrev pub AllHandOctets : ℕ → List WorldEvent → PlayState → Type 0
AllHandOctets number [] c = Unit {0}
AllHandOctets number (e ∷ es) c = HandsOctets e c × IfPlayed (played number e c) (λ d. AllHandOctets (number + 1) es d)

abbrev pub after_played : Result PlayState PlayFault → (PlayState → List Happening) → List Happening
after_played (Ok d) more = more d
after_played (Err fault) more = []

-- what happened, event by event
abbrev pub happenings : ℕ → List WorldEvent → PlayState → List Happening
happenings number [] c = []
happenings number (e ∷ es) c = happening_of e c.centre.moment ∷ after_played (played number e c) (λ d. happenings (number + 1) es d)

abbrev pub RunLaw : Type 0
RunLaw =
    (number : ℕ) (es : List WorldEvent) (c d : PlayState) (w : World) → PlayRefines c w → AreGood es → AllHandOctets number es c → played_on number es c ≡ Ok d
    → (v : World) × (Plays w (happenings number es c) v × PlayRefines d v)

-- a new script's course sees the empty world
abbrev pub BeginningLaw : Type 0
BeginningLaw = (s : Setup) → can_be_played s ≡ true → PlayRefines (beginning s) empty

-- so wherever a script leads, its events happened in the world, from the empty one on
abbrev pub ScriptLaw : Type 0
ScriptLaw =
    (s : Setup) (es : List WorldEvent) (c : PlayState) → AreGood es → AllHandOctets 1 es (beginning s) → play_state_of s es ≡ Ok c
    → (w : World) × (Plays empty (happenings 1 es (beginning s)) w × PlayRefines c w)
