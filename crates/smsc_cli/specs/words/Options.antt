-- What command lines may have.
use Rattle.std.specs.Prelude.{ℕ, List, [], ◌∷◌, Bool, Option, Some, None, bytes_eq, codes, false, true}
use Rattle.clap.specs.Words.{App, Rule, new_rule, with_rule}
use Rattle.clap.specs.declared.builder.action.ArgAction.TheVariants.{Append, Set, SetTrue}
use Rattle.smsc_cli.specs.declared.words.option.Offer.{Offer}
use Rattle.smsc_cli.specs.declared.words.option.Offer.TheVariants.{Required, Optional, Flag, Word, Words}

-- an option with a value, that must be given
abbrev pub required_option : List ℕ → Rule
required_option name = record (new_rule name) { long = Some name; action = Some Set; required = true }

-- an option with a value, that may be given
abbrev pub optional_option : List ℕ → Rule
optional_option name = record (new_rule name) { long = Some name; action = Some Set }

-- an option without a value
abbrev pub flag_option : List ℕ → Rule
flag_option name = record (new_rule name) { long = Some name; action = Some SetTrue }

-- a word that is an argument itself, and must be given
abbrev pub needed_word : List ℕ → Rule
needed_word name = record (new_rule name) { action = Some Set; required = true }

-- words that are arguments themselves, as many as there are
abbrev pub listed_words : List ℕ → Rule
listed_words name = record (new_rule name) { action = Some Append }

abbrev pub offer_rule : Offer → Rule
offer_rule (Required name) = required_option name.now
offer_rule (Optional name) = optional_option name.now
offer_rule (Flag name) = flag_option name.now
offer_rule (Word name) = needed_word name.now
offer_rule (Words name) = listed_words name.now

-- the command with these rules behind its own
abbrev pub with_rules : App → List Rule → App
with_rules app [] = app
with_rules app (rule ∷ rules) = with_rules (with_rule app rule) rules

-- the value of an option without one says that it was given
abbrev pub is_given : Option (List ℕ) → Bool
is_given None = false
is_given (Some word) = bytes_eq word (codes "true")
