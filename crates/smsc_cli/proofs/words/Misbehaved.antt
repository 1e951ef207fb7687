-- The values of the options of a misbehaviour are those of the words.
use Rattle.std.proofs.Common.{◌≡◌, ℕ, List, Option, codes, option_map, ap, sym, subst, ◌∙◌}
use Rattle.smsc_cli.specs.declared.words.misbehaviour.Misbehaviour.{Misbehaviour}
use Rattle.smsc_cli.specs.declared.words.misbehaviour.MisbehaviourOptions.{MisbehaviourOptions}
use Rattle.smsc_cli.specs.words.LookWords.{IsCountText, MayBe, Wants}
use Rattle.smsc_cli.specs.words.MisbehaviourWords.{AreMisbehaviourOptions, IsPercentText, IsRefusalText, SpelledMisbehaviour, SpelledMisbehaviourOptions, SpellsMisbehaviour, SpellsPercent, SpellsRefusal}
use Rattle.smsc_cli.specs.words.Numbers.{SpellsCount}
use Rattle.smsc_cli.specs.words.Options.{is_given}

pub misbehaved : (given : List ℕ → Option (List ℕ)) (o : MisbehaviourOptions) (m : Misbehaviour) → AreMisbehaviourOptions given o
    → SpelledMisbehaviourOptions o m → SpelledMisbehaviour given m
misbehaved given o m a h = record {
  refuse = subst (λ v. Wants SpellsRefusal v m.refuses) a.refuse h.refuse;
  slow = subst (λ v. Wants SpellsCount v m.slow) a.slow h.slow;
  full_after = subst (λ v. Wants SpellsCount v m.full_after) a.full_after h.full_after;
  silent = h.silent ∙ ap is_given a.silent;
  drop = subst (λ v. Wants SpellsPercent v m.drops) a.drop h.drop;
  seed = subst (λ v. Wants SpellsCount v m.seed) a.seed h.seed;
}

pub given_to : (given : List ℕ → Option (List ℕ)) (o : MisbehaviourOptions) → AreMisbehaviourOptions given o
    → SpellsMisbehaviour (given (codes "refuse")) (given (codes "slow")) (given (codes "full-after")) (given (codes "drop")) (given (codes "seed"))
    → SpellsMisbehaviour (option_map (λ s. s.now) o.refuse) (option_map (λ s. s.now) o.slow) (option_map (λ s. s.now) o.full_after)
    (option_map (λ s. s.now) o.drop) (option_map (λ s. s.now) o.seed)
given_to given o a h = (
  subst (MayBe IsRefusalText) (sym a.refuse) h.0,
  subst (MayBe IsCountText) (sym a.slow) h.1,
  subst (MayBe IsCountText) (sym a.full_after) h.2,
  subst (MayBe IsPercentText) (sym a.drop) h.3,
  subst (MayBe IsCountText) (sym a.seed) h.4,
)
