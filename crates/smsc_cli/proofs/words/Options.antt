-- What an option is in clap's matches.
use Rattle.std.proofs.Common.{◌≡◌, ℕ, List, Option, Result, Ok, Err, IfErr, IsErrAnd, option_map, true, ap, ◌∙◌}
use Rattle.clap.proofs.WalkLemmas.{first_value-rows, raw_values-rows}
use Rattle.clap.specs.Words.{App, HasMatchesOf, all_of, first_of, first_value, found_of, is_simple, kind_of, matched_of, matches_of, raw_values, takes}
use Rattle.smsc_cli.specs.words.ServerWords.{listed}
use Rattle.clap.specs.declared.error.Error.{Error}
use Rattle.clap.specs.declared.error.kind.ErrorKind.TheVariants.{OutOfMemory}
use Rattle.clap.specs.declared.parser.matches.ArgMatches.{ArgMatches}

pub value_found : (command app : App) (words : List (List ℕ)) (m : ArgMatches) (name : List ℕ) {o : Option (List ℕ)} → is_simple command ≡ true → app ≡ command → HasMatchesOf app words m → o ≡ first_value (found_of m) name → o ≡ first_of name (matches_of command words)
value_found command app words m name simple is has e = e ∙ first_value-rows (found_of m) name ∙ ap (λ rows. first_of name rows) (has (ap is_simple is ∙ simple)).0
    ∙ ap (λ (a : App). first_of name (matches_of a words)) is

pub list_found : (command app : App) (words : List (List ℕ)) (m : ArgMatches) (name : List ℕ) {l : List (List ℕ)} → is_simple command ≡ true → app ≡ command → HasMatchesOf app words m → l ≡ listed (option_map raw_values (matched_of (found_of m) name)) → l ≡ listed (all_of name (matches_of command words))
list_found command app words m name simple is has e = e ∙ ap listed
    (raw_values-rows (found_of m) name ∙ ap (λ rows. all_of name rows) (has (ap is_simple is ∙ simple)).0 ∙ ap (λ (a : App). all_of name (matches_of a words)) is)

pub memory_alone : {T : Type 0} (command app : App) (words : List (List ℕ)) (error : Error) (r : Result T Error) → IsErrAnd r (λ e. e ≡ error) → app ≡ command
    → (takes app words ≡ true → kind_of error ≡ OutOfMemory) → IfErr r (λ e. takes command words ≡ true → kind_of e ≡ OutOfMemory)
memory_alone command app words error (Ok value) same is only = absurd same
memory_alone command app words error (Err e) same is only = λ taken. ap kind_of same ∙ only (ap (λ (a : App). takes a words) is ∙ taken)
