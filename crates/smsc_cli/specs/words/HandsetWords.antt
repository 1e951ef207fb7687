-- The words of a handset, by clap's matches of them. The first word is the program's name.
use Rattle.std.specs.Prelude.{◌≡◌, ℕ, List, [], ◌∷◌, Bool, true, false, Option, Some, None, MatchBool, codes, bytes_eq, option_map}
use Rattle.clap.specs.Words.{App, first_of, matches_of, new_app, takes}
use Rattle.smsc_cli.specs.words.SimWords.{Gives, HasValue, Spells, SpellsNumber}
use Rattle.smsc_cli.specs.words.Numbers.{IsCount, IsPort, IsSlots, SpellsCount, SpellsFrom}
use Rattle.smsc_cli.specs.words.Options.{flag_option, optional_option, required_option, with_rules}
use Rattle.smsc_cli.specs.declared.words.handset.HandsetWords.{HandsetWords}
use Rattle.smsc_cli.specs.declared.words.handset.HandsetWords.TheVariants.{Run, Show}

-- what a run must have, what it is to do wrong on purpose, and the secret of its links
abbrev pub run_command : App
run_command =
    with_rules (new_app (codes "handset")) (
    required_option (codes "connect") ∷ required_option (codes "number") ∷ required_option (codes "centre")
    ∷ required_option (codes "slots") ∷ required_option (codes "store") ∷ required_option (codes "frames")
    ∷ optional_option (codes "refuse") ∷ optional_option (codes "slow") ∷ optional_option (codes "full-after")
    ∷ flag_option (codes "silent") ∷ optional_option (codes "drop") ∷ optional_option (codes "seed")
    ∷ optional_option (codes "secret") ∷ [])

abbrev pub show_command : App
show_command = with_rules (new_app (codes "show")) (required_option (codes "store") ∷ [])

-- the value of an option in the matches of the words of a run, and of a look at a store
abbrev pub run_value : List ℕ → List (List ℕ) → Option (List ℕ)
run_value name words = first_of name (matches_of run_command words)

abbrev pub show_value : List ℕ → List (List ℕ) → Option (List ℕ)
show_value name words = first_of name (matches_of show_command words)

-- the values of the seven options spell what a run is to do
abbrev pub SpelledRun : Option (List ℕ) → Option (List ℕ) → Option (List ℕ) → Option (List ℕ) → Option (List ℕ) → Option (List ℕ) → Option (List ℕ)
    → HandsetWords → Type 0
SpelledRun given_connect given_number given_centre given_slots given_store given_frames given_secret (Run connect number centre slots store frames secret) =
    Gives (SpellsFrom 1) given_connect connect × Gives SpellsNumber given_number number × Gives SpellsNumber given_centre centre
    × Gives (SpellsFrom 1) given_slots slots × (given_store ≡ Some store.now) × Gives SpellsCount given_frames frames
    × (given_secret ≡ option_map (λ s. s.now) secret)
SpelledRun given_connect given_number given_centre given_slots given_store given_frames given_secret (Show store) = ⊥

-- they spell some run: the secret's file may have any path
abbrev pub SpellsRun : Option (List ℕ) → Option (List ℕ) → Option (List ℕ) → Option (List ℕ) → Option (List ℕ) → Option (List ℕ) → Type 0
SpellsRun given_connect given_number given_centre given_slots given_store given_frames =
    Spells IsPort given_connect × Spells SpellsNumber given_number × Spells SpellsNumber given_centre
    × Spells IsSlots given_slots × HasValue given_store × Spells IsCount given_frames

-- clap takes the words, and they ask for a run
pub record AskForRun (words : List (List ℕ)) : Type 0 where
  pub taken : takes run_command words ≡ true
  pub spelled : SpellsRun (run_value (codes "connect") words) (run_value (codes "number") words) (run_value (codes "centre") words)
      (run_value (codes "slots") words) (run_value (codes "store") words) (run_value (codes "frames") words)

abbrev pub AsksToRun : List (List ℕ) → HandsetWords → Type 0
AsksToRun words =
    SpelledRun (run_value (codes "connect") words) (run_value (codes "number") words) (run_value (codes "centre") words)
    (run_value (codes "slots") words) (run_value (codes "store") words) (run_value (codes "frames") words) (run_value (codes "secret") words)

abbrev pub AsksToShow : List (List ℕ) → HandsetWords → Type 0
AsksToShow words (Run connect number centre slots store frames secret) = ⊥
AsksToShow words (Show store) = show_value (codes "store") words ≡ Some store.now

-- clap takes the words, and they ask for a look
pub record AskForShow (words : List (List ℕ)) : Type 0 where
  pub taken : takes show_command words ≡ true
  pub store : List ℕ
  pub given : show_value (codes "store") words ≡ Some store

abbrev pub is_show : Option (List ℕ) → Bool
is_show None = false
is_show (Some word) = bytes_eq word (codes "show")

-- `show` as the second word asks for a look, by the words behind the program's name, and all else for a run
abbrev pub AsksFor : Option (List ℕ) → List (List ℕ) → List (List ℕ) → HandsetWords → Type 0
AsksFor second words behind asked = MatchBool (is_show second) (AsksToShow behind asked) (AsksToRun words asked)

-- words that ask a handset for something
abbrev pub AskForSome : Option (List ℕ) → List (List ℕ) → List (List ℕ) → Type 0
AskForSome second words behind = MatchBool (is_show second) (AskForShow behind) (AskForRun words)
