-- What a handset that runs is given.
use Rattle.std.specs.Prelude.{◌<◌}
use Rattle.sms_base.specs.Address.{IsAddress}
use Rattle.smsc_cli.specs.declared.words.handset.HandsetWords.{HandsetWords}
use Rattle.smsc_cli.specs.declared.words.handset.HandsetWords.TheVariants.{Run, Show}

-- Its numbers are addresses, and it has a slot at least.
abbrev pub AreWords : HandsetWords → Type 0
AreWords (Run connect number centre slots store frames secret) = IsAddress number × IsAddress centre × (0 < slots)
AreWords (Show store) = Unit {0}
