-- A word that is neither of two spells nothing.
use Rattle.std.proofs.Common.{◌≡◌, ℕ, List, Some, true≢false, false, sym, ◌∙◌, codes}
use Rattle.std.specs.Prelude.{bytes_eq}
use Rattle.smsc_cli.specs.declared.words.detail.LogDetail.{LogDetail}
use Rattle.smsc_cli.specs.declared.words.detail.LogDetail.TheVariants.{Runs, Messages, Access}
use Rattle.smsc_cli.specs.words.LogWords.{SpellsLog}

pub neither : (word : List ℕ) → bytes_eq word (codes "messages") ≡ false → bytes_eq word (codes "access") ≡ false → (detail : LogDetail) →
    SpellsLog (Some word) detail → ⊥
neither word m a Runs h = h
neither word m a Messages h = absurd (true≢false (sym h ∙ m))
neither word m a Access h = absurd (true≢false (sym h ∙ a))
