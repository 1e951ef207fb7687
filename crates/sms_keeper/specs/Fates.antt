-- What befell an item.
use Rattle.std.specs.Prelude.{◌≡◌, ◌≢◌, List, [], ◌∷◌, ◌++◌}
use Rattle.sms_keeper.specs.declared.machine.Fate.{Fate}
use Rattle.sms_keeper.specs.declared.machine.Fate.TheVariants.{Done, NoMemory, Refused}
use Rattle.sms_keeper.specs.declared.machine.Item.{Item}

-- the first fact where the term continues, the second where it does not
abbrev pub MatchFate : Fate → Type 0 → Type 0 → Type 0
MatchFate Done went ended = went
MatchFate NoMemory went ended = went
MatchFate Refused went ended = ended

module _ {J O : Type 0} where
  -- no item was refused
  abbrev pub WentOn : List (Item J O) → Type 0
  WentOn [] = Unit {0}
  WentOn (e ∷ es) = (e.fate ≢ Refused) × WentOn es

  -- each item was refused
  abbrev pub AllRefused : List (Item J O) → Type 0
  AllRefused [] = Unit {0}
  AllRefused (e ∷ es) = (e.fate ≡ Refused) × AllRefused es

  -- there are items, and each was refused
  abbrev pub IsRefused : List (Item J O) → Type 0
  IsRefused items = (items ≢ []) × AllRefused items

  -- each item of the last group was refused, and none before it
  abbrev pub EndsRefused : List (Item J O) → Type 0
  EndsRefused items = (before : List (Item J O)) × (group : List (Item J O)) × (items ≡ before ++ group) × WentOn before × IsRefused group
