-- The words of a relay run, `relay --centre NUMBER --from NUMBER --now SECONDS`, by clap's matches of them.
use Rattle.std.specs.Prelude.{◌≡◌, ℕ, List, [], ◌∷◌, Bool, true, false, Option, Some, None, codes, bytes_eq}
use Rattle.std.specs.Str.{chars}
use Rattle.clap.specs.Words.{App, first_of, matches_of, new_app, takes}
use Rattle.sms_base.specs.declared.address.Address.{Address}
use Rattle.smsc_cli.specs.words.Numbers.{SpellsBetween, SpellsCount}
use Rattle.smsc_cli.specs.words.Options.{required_option, with_rules}
use Rattle.sms_base.specs.OwnAddress.{IsOwnAddress}
use Rattle.smsc_cli.specs.declared.words.sim.SimWords.{SimWords}
use Rattle.smsc_cli.specs.declared.words.sim.SimWords.TheVariants.{Relay}

abbrev pub relay_command : App
relay_command =
    with_rules (new_app (codes "relay")) (required_option (codes "centre") ∷ required_option (codes "from") ∷ required_option (codes "now") ∷ [])

-- the value of an option in the matches of a relay run's words
abbrev pub value_of : List ℕ → List (List ℕ) → Option (List ℕ)
value_of name words = first_of name (matches_of relay_command words)

-- the text is the digits of the international number
pub record SpellsNumber (text : List ℕ) (address : Address) : Type 0 where
  pub own : IsOwnAddress address
  pub digits : address.digits ≡ chars text

-- the text is decimal digits of the number of seconds
abbrev pub SpellsSeconds : List ℕ → ℕ → Type 0
SpellsSeconds = SpellsCount

-- to a moment of the years 2000 to 2099
abbrev pub IsSeconds : List ℕ → ℕ → Type 0
IsSeconds = SpellsBetween 946_684_800 4_102_444_799

-- the option of that name has a value that spells it
abbrev pub Gives : {A : Type 0} → (List ℕ → A → Type 0) → Option (List ℕ) → A → Type 0
Gives Spells given value = (text : List ℕ) × (given ≡ Some text) × Spells text value

-- the option has a value
abbrev pub HasValue : Option (List ℕ) → Type 0
HasValue given = (text : List ℕ) × (given ≡ Some text)

-- the option of that name has a value that spells one
abbrev pub Spells : {A : Type 0} → (List ℕ → A → Type 0) → Option (List ℕ) → Type 0
Spells {A} Spelled given = (value : A) × Gives Spelled given value

-- the values of the three options spell a relay run's numbers and its moment
abbrev pub Spelled : Option (List ℕ) → Option (List ℕ) → Option (List ℕ) → SimWords → Type 0
Spelled given_centre given_from given_now (Relay centre from now) =
    Gives SpellsNumber given_centre centre × Gives SpellsNumber given_from from × Gives SpellsSeconds given_now now

-- they spell some
abbrev pub SpellsRelay : Option (List ℕ) → Option (List ℕ) → Option (List ℕ) → Type 0
SpellsRelay given_centre given_from given_now = Spells SpellsNumber given_centre × Spells SpellsNumber given_from × Spells IsSeconds given_now

abbrev pub is_relay : Option (List ℕ) → Bool
is_relay None = false
is_relay (Some word) = bytes_eq word (codes "relay")

-- clap takes the words, and they ask for a relay run
pub record AskForRelay (words : List (List ℕ)) : Type 0 where
  pub taken : takes relay_command words ≡ true
  pub spelled : SpellsRelay (value_of (codes "centre") words) (value_of (codes "from") words) (value_of (codes "now") words)

abbrev pub AsksFor : List (List ℕ) → SimWords → Type 0
AsksFor words = Spelled (value_of (codes "centre") words) (value_of (codes "from") words) (value_of (codes "now") words)

-- the numbers are such as the centre itself writes
abbrev pub AreSimWords : SimWords → Type 0
AreSimWords (Relay centre from now) = IsOwnAddress centre × IsOwnAddress from
