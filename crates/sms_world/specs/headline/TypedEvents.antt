-- What the types of a script's events give. The ticks of the centre are at moments that time stamps write, and the texts of owners are
-- UTF-8.
use Rattle.std.specs.Prelude.{◌≡◌, List, [], ◌∷◌, true}
use Rattle.std.specs.Str.{is_utf8}
use Rattle.sms_script.specs.declared.event.Act.{Act}
use Rattle.sms_script.specs.declared.event.Act.TheVariants.{Submit, Query, Cancel, Write, Delete, Discard, Deliver, Tick}
use Rattle.sms_script.specs.declared.event.WorldEvent.{WorldEvent}
use Rattle.sms_script.specs.declared.event.WorldEvent.TheVariants.{Whole, Stopped, Restart}
use Rattle.sms_world.specs.scripts_are_runs.PlayRuns.{AreGood}
use Rattle.sms_world.specs.scripts_are_runs.Happening.{IsGoodEvent}

abbrev pub IsTextAct : Act → Type 0
IsTextAct (Submit s) = Unit {0}
IsTextAct (Query name id) = Unit {0}
IsTextAct (Cancel name id) = Unit {0}
IsTextAct (Write handset to report text) = is_utf8 text ≡ true
IsTextAct (Delete handset entry) = Unit {0}
IsTextAct (Discard handset entry) = Unit {0}
IsTextAct (Deliver number) = Unit {0}
IsTextAct (Tick side now) = Unit {0}

abbrev pub IsTextEvent : WorldEvent → Type 0
IsTextEvent (Whole act) = IsTextAct act
IsTextEvent (Stopped stop act) = IsTextAct act
IsTextEvent (Restart side) = Unit {0}

abbrev pub AreTexts : List WorldEvent → Type 0
AreTexts [] = Unit {0}
AreTexts (e ∷ es) = IsTextEvent e × AreTexts es

-- one event
pub record IsTyped (e : WorldEvent) : Type 0 where
  pub good : IsGoodEvent e
  pub text : IsTextEvent e

-- all of them
pub record AreTyped (events : List WorldEvent) : Type 0 where
  pub good : AreGood events
  pub texts : AreTexts events
