-- What the value of an option is to be.
use Rattle.std.specs.Prelude.{◌≡◌, ℕ, List, true}
use Rattle.sms_base.specs.declared.address.Address.{Address}
use Rattle.smsc_cli.specs.words.LogWords.{is_log_word}
use Rattle.smsc_cli.specs.words.LookWords.{IsCountText, IsMessageText, IsPartyText, IsStateWord}
use Rattle.smsc_cli.specs.words.MisbehaviourWords.{IsPercentText, IsRefusalText}
use Rattle.smsc_cli.specs.words.Numbers.{IsSlots}
use Rattle.smsc_cli.specs.words.ServerWords.{IsPortText}
use Rattle.smsc_cli.specs.words.SimWords.{IsSeconds, SpellsNumber}
use Rattle.smsc_cli.specs.declared.words.explaining.Wanted.{Wanted}
use Rattle.smsc_cli.specs.declared.words.explaining.Wanted.TheVariants.{Port, Number, Count, Slots, Seconds, Message, Party, State, Log, Refusal, Percent}

-- the text spells one
abbrev pub IsWanted : Wanted → List ℕ → Type 0
IsWanted Port text = IsPortText text
IsWanted Number text = (address : Address) × SpellsNumber text address
IsWanted Count text = IsCountText text
IsWanted Slots text = (slots : ℕ) × IsSlots text slots
IsWanted Seconds text = (moment : ℕ) × IsSeconds text moment
IsWanted Message text = IsMessageText text
IsWanted Party text = IsPartyText text
IsWanted State text = IsStateWord text
IsWanted Log text = is_log_word text ≡ true
IsWanted Refusal text = IsRefusalText text
IsWanted Percent text = IsPercentText text
