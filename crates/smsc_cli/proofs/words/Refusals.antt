-- A refusal is cut at its first colon.
use Rattle.std.proofs.Common.{◌≡◌, ◌⊎◌, inl, inr, ℕ, List, sym, subst, ◌∙◌}
use Rattle.std.specs.Str.Iter.{LacksByte}
use Rattle.smsc_cli.proofs.words.Cuts.{no_cut, one_cut}
use Rattle.smsc_cli.specs.words.Accounts.{IsCutAt}
use Rattle.smsc_cli.specs.words.LookWords.{IsCountText}
use Rattle.smsc_cli.specs.words.MisbehaviourWords.{IsCauseText, IsRefusalText}

-- a text with a colon, of whose parts one spells nothing
module _ (text before behind : List ℕ) (cut : IsCutAt 58 text before behind) where
  pub parts_spell : IsRefusalText text → IsCauseText before × IsCountText behind
  parts_spell (inl h) = absurd (no_cut 58 text before behind h.0 cut.parts)
  parts_spell (inr h) =
      let same = one_cut 58 h.0 before h.1 behind h.2.first cut.first (sym h.2.parts ∙ cut.parts) in
      (subst IsCauseText same.0 h.3, subst IsCountText same.1 h.4)

-- one without
pub whole_spells : (text : List ℕ) → LacksByte 58 text → IsRefusalText text → IsCauseText text
whole_spells text lacks (inl h) = h.1
whole_spells text lacks (inr h) = absurd (no_cut 58 text h.0 h.1 lacks h.2.parts)
