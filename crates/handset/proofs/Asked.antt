-- What words spell is fit for a handset that runs.
use Rattle.std.proofs.Common.{ℕ, List, Bool, true, false, Option}
use Rattle.std.specs.Prelude.{MatchBool}
use Rattle.smsc_cli.specs.words.HandsetWords.{AsksFor, AsksToRun, AsksToShow, is_show}
use Rattle.smsc_cli.specs.declared.words.handset.HandsetWords.{HandsetWords}
use Rattle.smsc_cli.specs.declared.words.handset.HandsetWords.TheVariants.{Run, Show}
use Rattle.handset.specs.Setups.{AreWords}

of_run : (words : List (List ℕ)) (asked : HandsetWords) → AsksToRun words asked → AreWords asked
of_run words (Run connect number centre slots store frames secret) h = (h.1.2.own.valid, h.2.2.own.valid, h.3.2.enough)
of_run words (Show store) h = absurd h

of_show : (words : List (List ℕ)) (asked : HandsetWords) → AsksToShow words asked → AreWords asked
of_show words (Run connect number centre slots store frames secret) h = absurd h
of_show words (Show store) h = tt

by_word : (shows : Bool) (words behind : List (List ℕ)) (asked : HandsetWords) → MatchBool shows (AsksToShow behind asked) (AsksToRun words asked) → AreWords asked
by_word true words behind asked h = of_show behind asked h
by_word false words behind asked h = of_run words asked h

pub are_words : (second : Option (List ℕ)) (words behind : List (List ℕ)) (asked : HandsetWords) → AsksFor second words behind asked → AreWords asked
are_words second words behind asked h = by_word (is_show second) words behind asked h
