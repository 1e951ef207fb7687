-- What a handset is to do wrong on purpose, by clap's matches of its words. The first word is the program's name.
use Rattle.std.specs.Prelude.{◌≡◌, ◌⊎◌, ℕ, List, Bool, Option, Some, None, codes, option_map, true}
use Rattle.std.specs.Str.Iter.{LacksByte}
use Rattle.clap.specs.Words.{takes}
use Rattle.smsc_cli.specs.words.Accounts.{IsCutAt}
use Rattle.smsc_cli.specs.words.HandsetWords.{run_command, run_value}
use Rattle.smsc_cli.specs.words.LookWords.{IsCountText, MayBe, Wants}
use Rattle.smsc_cli.specs.words.Numbers.{SpellsBetween, SpellsCount}
use Rattle.smsc_cli.specs.words.Options.{is_given}
use Rattle.smsc_cli.specs.declared.words.misbehaviour.Misbehaviour.{Misbehaviour}
use Rattle.smsc_cli.specs.declared.words.misbehaviour.MisbehaviourOptions.{MisbehaviourOptions}
use Rattle.smsc_cli.specs.declared.words.misbehaviour.Refusal.{Refusal}

-- the value of a cause has seven bits (3GPP TS 24.011 8.2.5.4)
abbrev pub SpellsCause : List ℕ → ℕ → Type 0
SpellsCause = SpellsBetween 0 127

abbrev pub SpellsPercent : List ℕ → ℕ → Type 0
SpellsPercent = SpellsBetween 0 100

-- a cause alone, or a cause and a count with a colon between them
abbrev pub SpellsCauseAndCount : List ℕ → ℕ → Option ℕ → Type 0
SpellsCauseAndCount text cause None = LacksByte 58 text × SpellsCause text cause
SpellsCauseAndCount text cause (Some count) =
    (before : List ℕ) × (behind : List ℕ) × IsCutAt 58 text before behind × SpellsCause before cause × SpellsCount behind count

abbrev pub SpellsRefusal : List ℕ → Refusal → Type 0
SpellsRefusal text refusal = SpellsCauseAndCount text refusal.cause refusal.count

abbrev pub IsCauseText : List ℕ → Type 0
IsCauseText text = (cause : ℕ) × SpellsCause text cause

abbrev pub IsPercentText : List ℕ → Type 0
IsPercentText text = (percent : ℕ) × SpellsPercent text percent

-- the text spells a refusal, whose count has 32 bits
abbrev pub IsRefusalText : List ℕ → Type 0
IsRefusalText text =
    (LacksByte 58 text × IsCauseText text)
    ⊎ ((before : List ℕ) × (behind : List ℕ) × IsCutAt 58 text before behind × IsCauseText before × IsCountText behind)

-- the values of the options spell what is to be done wrong
pub record SpelledMisbehaviour (given : List ℕ → Option (List ℕ)) (m : Misbehaviour) : Type 0 where
  pub refuse : Wants SpellsRefusal (given (codes "refuse")) m.refuses
  pub slow : Wants SpellsCount (given (codes "slow")) m.slow
  pub full_after : Wants SpellsCount (given (codes "full-after")) m.full_after
  pub silent : m.is_silent ≡ is_given (given (codes "silent"))
  pub drop : Wants SpellsPercent (given (codes "drop")) m.drops
  pub seed : Wants SpellsCount (given (codes "seed")) m.seed

-- so where they are these
pub record SpelledMisbehaviourOptions (o : MisbehaviourOptions) (m : Misbehaviour) : Type 0 where
  pub refuse : Wants SpellsRefusal (option_map (λ s. s.now) o.refuse) m.refuses
  pub slow : Wants SpellsCount (option_map (λ s. s.now) o.slow) m.slow
  pub full_after : Wants SpellsCount (option_map (λ s. s.now) o.full_after) m.full_after
  pub silent : m.is_silent ≡ is_given (option_map (λ s. s.now) o.silent)
  pub drop : Wants SpellsPercent (option_map (λ s. s.now) o.drop) m.drops
  pub seed : Wants SpellsCount (option_map (λ s. s.now) o.seed) m.seed

-- the values of these options spell some
abbrev pub SpellsMisbehaviour : Option (List ℕ) → Option (List ℕ) → Option (List ℕ) → Option (List ℕ) → Option (List ℕ) → Type 0
SpellsMisbehaviour given_refuse given_slow given_full_after given_drop given_seed =
    MayBe IsRefusalText given_refuse × MayBe IsCountText given_slow × MayBe IsCountText given_full_after
    × MayBe IsPercentText given_drop × MayBe IsCountText given_seed

-- clap takes the words, and they ask for some
pub record AskForMisbehaviour (words : List (List ℕ)) : Type 0 where
  pub taken : takes run_command words ≡ true
  pub spelled : SpellsMisbehaviour (run_value (codes "refuse") words) (run_value (codes "slow") words) (run_value (codes "full-after") words)
      (run_value (codes "drop") words) (run_value (codes "seed") words)

-- the options have the values that the words give them
pub record AreMisbehaviourOptions (given : List ℕ → Option (List ℕ)) (o : MisbehaviourOptions) : Type 0 where
  pub refuse : option_map (λ s. s.now) o.refuse ≡ given (codes "refuse")
  pub slow : option_map (λ s. s.now) o.slow ≡ given (codes "slow")
  pub full_after : option_map (λ s. s.now) o.full_after ≡ given (codes "full-after")
  pub silent : option_map (λ s. s.now) o.silent ≡ given (codes "silent")
  pub drop : option_map (λ s. s.now) o.drop ≡ given (codes "drop")
  pub seed : option_map (λ s. s.now) o.seed ≡ given (codes "seed")
