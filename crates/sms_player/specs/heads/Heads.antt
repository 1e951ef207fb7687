-- What is made of the head of a script.
use Rattle.std.specs.Prelude.{◌≡◌, ℕ, List, [], true, false, Option, Some, None}
use Rattle.sms_base.specs.Among.{Among}
use Rattle.sms_centre_spec.specs.SoundCore.{AreDifferent}
use Rattle.sms_handset_draft.specs.Draft.{recovered}
use Rattle.sms_handset_draft.specs.FirstRows.{first_rows}
use Rattle.sms_play.specs.PlayState.{Party, numbers_of}
use Rattle.sms_play.specs.Setups.{can_be_played, handset_setup, parties_of}
use Rattle.sms_script.specs.declared.setup.HandsetSetup.{HandsetSetup}
use Rattle.sms_script.specs.declared.setup.Setup.{Setup}
use Rattle.sms_centre_rows.specs.waiting.SoundAllocations.{IsNumber}

-- where it begins, exactly if it can be played
abbrev pub Judges : Option ℕ → Setup → Type 0
Judges (Some start) setup = (can_be_played setup ≡ true) × (start ≡ setup.start)
Judges None setup = can_be_played setup ≡ false

abbrev pub party_of : Setup → HandsetSetup → Party
party_of s h = record { number = h.number; core = recovered (first_rows (handset_setup s h)); accepted = []; joined = [] }

-- handsets to which a centre can have links
pub record AreHandsets (handsets : List (List ℕ)) : Type 0 where
  pub numbers : (number : List ℕ) → Among number handsets → IsNumber number
  pub apart : AreDifferent handsets

abbrev pub LinksLaw : Type 0
LinksLaw = (s : Setup) → can_be_played s ≡ true → AreHandsets (numbers_of (parties_of s s.handsets))
