-- The words of a look at a centre's store, by clap's matches of them: `show --store FILE` and what the messages are to be like.
use Rattle.std.specs.Prelude.{◌≡◌, ◌⊎◌, ◌<◌, ◌||◌, ℕ, List, [], ◌∷◌, Bool, Option, Some, None, bytes_eq, codes, length, option_map, true}
use Rattle.clap.specs.Words.{App, first_of, matches_of, new_app, takes}
use Rattle.sms_base.specs.Address.{IsName, IsNumber}
use Rattle.sms_base.specs.MessageId.{IsIdText, IsMessageId}
use Rattle.sms_base.specs.declared.final_state.FinalState.TheVariants.{Delivered, Expired, Deleted, Undeliverable}
use Rattle.std.specs.Str.{chars}
use Rattle.smsc_cli.specs.declared.centre_table.selecting.Filter.{Filter}
use Rattle.smsc_cli.specs.declared.words.look.LookOptions.{LookOptions}
use Rattle.smsc_cli.specs.centre_table.CentreTable.{state_word}
use Rattle.smsc_cli.specs.words.Numbers.{IsCount, SpellsCount}
use Rattle.smsc_cli.specs.words.Options.{flag_option, is_given, optional_option, required_option, with_rules}
use Rattle.smsc_cli.specs.words.SimWords.{HasValue}

abbrev pub look_command : App
look_command =
    with_rules (new_app (codes "show")) (
    required_option (codes "store") ∷ optional_option (codes "id") ∷ optional_option (codes "from") ∷ optional_option (codes "to")
    ∷ optional_option (codes "account") ∷ optional_option (codes "state") ∷ optional_option (codes "last") ∷ flag_option (codes "stuck") ∷ [])

-- the value of an option in the matches of the words
abbrev pub look_value : List ℕ → List (List ℕ) → Option (List ℕ)
look_value name words = first_of name (matches_of look_command words)

-- an option that isn't given wants nothing, and one with a value wants what that spells
abbrev pub Wants : {A : Type 0} → (List ℕ → A → Type 0) → Option (List ℕ) → Option A → Type 0
Wants Spells None None = Unit {0}
Wants Spells None (Some wanted) = ⊥
Wants Spells (Some text) None = ⊥
Wants Spells (Some text) (Some wanted) = Spells text wanted

-- a number or a name, by its characters
abbrev pub SpellsDigits : List ℕ → List ℕ → Type 0
SpellsDigits text digits = digits ≡ chars text

-- ten decimal digits, not all of them 0
abbrev pub IsMessageText : List ℕ → Type 0
IsMessageText text = (id : ℕ) × IsMessageId id × IsIdText text id

-- the text is that number of a message
abbrev pub IsIdOf : List ℕ → ℕ → Type 0
IsIdOf text id = IsMessageId id × IsIdText text id

abbrev pub IsNumberText : List ℕ → Type 0
IsNumberText text = (0 < length (chars text)) × IsNumber (chars text)

abbrev pub IsNameText : List ℕ → Type 0
IsNameText text = (0 < length (chars text)) × IsName (chars text)

-- the digits of a number, or the characters of a name (3GPP TS 23.040 9.1.2.5)
abbrev pub IsPartyText : List ℕ → Type 0
IsPartyText text = IsNumberText text ⊎ IsNameText text

-- a word that the table has for a state
abbrev pub is_state_word : List ℕ → Bool
is_state_word text =
    bytes_eq text (state_word None) || (bytes_eq text (state_word (Some Delivered)) || (bytes_eq text (state_word (Some Expired))
    || (bytes_eq text (state_word (Some Deleted)) || bytes_eq text (state_word (Some Undeliverable)))))

abbrev pub IsStateWord : List ℕ → Type 0
IsStateWord text = is_state_word text ≡ true

abbrev pub IsCountText : List ℕ → Type 0
IsCountText text = (count : ℕ) × IsCount text count

-- an option that isn't given, or has such a value
abbrev pub MayBe : (List ℕ → Type 0) → Option (List ℕ) → Type 0
MayBe Is None = Unit {0}
MayBe Is (Some text) = Is text

-- the values of the options spell whose messages are to be shown, and which of them
pub record SpelledLook (given : List ℕ → Option (List ℕ)) (path : List ℕ) (filter : Filter) (by_handset : Bool) : Type 0 where
  pub store : given (codes "store") ≡ Some path
  pub id : Wants IsIdText (given (codes "id")) filter.id
  pub from : Wants SpellsDigits (given (codes "from")) filter.from
  pub to : Wants SpellsDigits (given (codes "to")) filter.to
  pub account : given (codes "account") ≡ option_map (λ s. s.now) filter.account
  pub state : given (codes "state") ≡ option_map (λ s. s.now) filter.state
  pub known : MayBe IsStateWord (given (codes "state"))
  pub last : Wants SpellsCount (given (codes "last")) filter.last
  pub stuck : by_handset ≡ is_given (given (codes "stuck"))

-- so where they are these
pub record SpelledFilter (o : LookOptions) (filter : Filter) : Type 0 where
  pub id : Wants IsIdText (option_map (λ s. s.now) o.id) filter.id
  pub from : Wants SpellsDigits (option_map (λ s. s.now) o.from) filter.from
  pub to : Wants SpellsDigits (option_map (λ s. s.now) o.to) filter.to
  pub account : option_map (λ s. s.now) o.account ≡ option_map (λ s. s.now) filter.account
  pub state : option_map (λ s. s.now) o.state ≡ option_map (λ s. s.now) filter.state
  pub known : MayBe IsStateWord (option_map (λ s. s.now) o.state)
  pub last : Wants SpellsCount (option_map (λ s. s.now) o.last) filter.last

-- the values of these options spell which messages
abbrev pub SpellsFilter : Option (List ℕ) → Option (List ℕ) → Option (List ℕ) → Option (List ℕ) → Option (List ℕ) → Type 0
SpellsFilter given_id given_from given_to given_state given_last =
    MayBe IsMessageText given_id × MayBe IsPartyText given_from × MayBe IsPartyText given_to × MayBe IsStateWord given_state
    × MayBe IsCountText given_last

-- and those with the store's path a look
abbrev pub SpellsLook : Option (List ℕ) → Option (List ℕ) → Option (List ℕ) → Option (List ℕ) → Option (List ℕ) → Option (List ℕ) → Type 0
SpellsLook given_store given_id given_from given_to given_state given_last =
    HasValue given_store × SpellsFilter given_id given_from given_to given_state given_last

-- clap takes the words, and they ask for a look
pub record AskForLook (words : List (List ℕ)) : Type 0 where
  pub taken : takes look_command words ≡ true
  pub spelled : SpellsLook (look_value (codes "store") words) (look_value (codes "id") words) (look_value (codes "from") words)
      (look_value (codes "to") words) (look_value (codes "state") words) (look_value (codes "last") words)

-- the options have the values that the words give them
pub record AreLookOptions (given : List ℕ → Option (List ℕ)) (o : LookOptions) : Type 0 where
  pub store : option_map (λ s. s.now) o.store ≡ given (codes "store")
  pub id : option_map (λ s. s.now) o.id ≡ given (codes "id")
  pub from : option_map (λ s. s.now) o.from ≡ given (codes "from")
  pub to : option_map (λ s. s.now) o.to ≡ given (codes "to")
  pub account : option_map (λ s. s.now) o.account ≡ given (codes "account")
  pub state : option_map (λ s. s.now) o.state ≡ given (codes "state")
  pub last : option_map (λ s. s.now) o.last ≡ given (codes "last")
  pub stuck : option_map (λ s. s.now) o.stuck ≡ given (codes "stuck")
