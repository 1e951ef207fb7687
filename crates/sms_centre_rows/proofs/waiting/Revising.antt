-- Rows that keep a TPDU, in the middle of an event: what is committed, the oldest first, leads to the rows as they stand.
use Rattle.std.proofs.Common.{◌≡◌, ℕ, List, [], ◌∷◌, ◌++◌, refl, ap, ◌∙◌}
use Rattle.sms_centre_rows.specs.declared.waiting.progress.Progress.{Progress}
use Rattle.sms_centre_rows.specs.declared.waiting.revision.Revision.{Revision}
use Rattle.sms_centre_rows.specs.waiting.Revisions.{all_revised, oldest_first, revised, rows_after}

pub revised_push : {A : Type 0} (key : A → ℕ) (reaching : Progress → A → A) (cs : List (Revision A)) (c : Revision A) (rows : List A) → all_revised key reaching (cs ++ c ∷ []) rows ≡ revised key reaching c (all_revised key reaching cs rows)
revised_push key reaching [] c rows = refl
revised_push key reaching (d ∷ cs) c rows = revised_push key reaching cs c (revised key reaching d rows)

pub revisions_commit : {A : Type 0} (key : A → ℕ) (reaching : Progress → A → A) (cs : List (Revision A)) (base : List A) → all_revised key reaching (oldest_first cs) base ≡ rows_after key reaching cs base
revisions_commit key reaching [] base = refl
revisions_commit key reaching (c ∷ cs) base =
    revised_push key reaching (oldest_first cs) c base ∙ ap (λ rows. revised key reaching c rows) (revisions_commit key reaching cs base)
