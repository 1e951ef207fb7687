-- What a step, and a stop inside it, leaves.
use Rattle.std.proofs.Common.{◌≡◌, ◌⊎◌, inl, inr, Result, Ok, ap, ◌∙◌}
use Rattle.sms_handset_draft.specs.Draft.{Changes, Draft, no_changes, rows_after}
use Rattle.sms_handset_draft.specs.declared.rows.Rows.{Rows}
use Rattle.sms_handset.specs.declared.refusal.Refusal.{Refusal}
use Rattle.sms_handset.specs.machine.Stepping.{IsBeforeOrAfter}

pub is_before_or_after : (left rows : Rows) (changes : Changes) (wanted : Result Draft Refusal) (d : Draft) → wanted ≡ Ok d → changes ≡ d.changes → (left ≡ rows) ⊎ (left ≡ rows_after changes rows) → IsBeforeOrAfter left rows wanted
is_before_or_after left rows changes wanted d w same (inl e) = inl e
is_before_or_after left rows changes wanted d w same (inr e) = inr (d, (w, e ∙ ap (λ (c : Changes). rows_after c rows) same))

-- the changes that are committed are those of the draft
pub nothing_changed : (changes : Changes) (wanted : Result Draft Refusal) (found d : Draft) → wanted ≡ Ok found → changes ≡ found.changes → wanted ≡ Ok d → d.changes ≡ no_changes → changes ≡ no_changes
nothing_changed changes wanted found d is same e none =
    let one : found ≡ d = cc in
    same ∙ ap (λ (x : Draft). x.changes) one ∙ none
