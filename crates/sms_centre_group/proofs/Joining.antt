-- The changes of two events make of the rows what the one makes and then the other.
use Rattle.std.proofs.Common.{◌≡◌, ℕ, List, [], ◌∷◌, ◌++◌, ◌⊎◌, inl, inr, Result, Ok, Err, refl, sym, ap, subst, ◌∙◌}
use Rattle.sms_rows.proofs.table.Tables.{all_applied_append}
use Rattle.sms_centre_rows.specs.declared.waiting.progress.Progress.{Progress}
use Rattle.sms_centre_rows.specs.declared.waiting.revision.Revision.{Revision}
use Rattle.sms_centre_rows.specs.messages.Bars.{bar_key}
use Rattle.sms_centre_rows.specs.messages.Messages.{message_key, part_key, part_reaching, priority_key}
use Rattle.sms_centre_rows.specs.reports.Reports.{report_key, report_reaching}
use Rattle.sms_centre_rows.specs.waiting.Keys.{handset_key, reference_key}
use Rattle.sms_centre_rows.specs.waiting.Revisions.{all_revised, revised}
use Rattle.sms_rows.specs.keep.KeepState.{KeepState}
use Rattle.sms_rows.specs.keep.StoreOutcome.{EndsWith}
use Rattle.sms_centre_spec.specs.Draft.{no_changes, rows_after}
use Rattle.sms_centre_spec.specs.declared.rows.Changes.{Changes}
use Rattle.sms_centre_spec.specs.declared.rows.Rows.{Rows}
use Rattle.sms_centre_group.specs.Grouping.{FlushEnds, Spans}
use Rattle.sms_centre_group.specs.Joined.{joined}

revised_join : {A : Type 0} (key : A → ℕ) (reaching : Progress → A → A) (xs ys : List (Revision A)) (rows : List A)
    → all_revised key reaching (xs ++ ys) rows ≡ all_revised key reaching ys (all_revised key reaching xs rows)
revised_join key reaching [] ys rows = refl
revised_join key reaching (x ∷ xs) ys rows = revised_join key reaching xs ys (revised key reaching x rows)

pub after_joined : (first second : Changes) (rows : Rows) → rows_after (joined first second) rows ≡ rows_after second (rows_after first rows)
after_joined first second rows =
    let messages = all_applied_append message_key first.messages second.messages rows.messages in
    let parts = revised_join part_key part_reaching first.parts second.parts rows.parts in
    let references = all_applied_append reference_key first.references second.references rows.references in
    let handsets = all_applied_append handset_key first.handsets second.handsets rows.handsets in
    let reports = revised_join report_key report_reaching first.reports second.reports rows.reports in
    let priorities = all_applied_append priority_key first.priorities second.priorities rows.priorities in
    let bars = all_applied_append bar_key first.bars second.bars rows.bars in
    λ i. record {
      messages = messages i;
      parts = parts i;
      references = references i;
      handsets = handsets i;
      reports = reports i;
      priorities = priorities i;
      bars = bars i;
      setup = rows.setup;
    }

-- one event more
pub spans_more : (held changes now : Changes) (base rows : Rows) → now ≡ joined held changes → rows ≡ rows_after held base → rows_after changes rows ≡ rows_after now base
spans_more held changes now base rows is spans = ap (rows_after changes) spans ∙ sym (after_joined held changes base) ∙ ap (λ (c : Changes). rows_after c base) (sym is)

-- nothing was held
pub idle : (held : Changes) (base rows : Rows) → held ≡ no_changes → rows ≡ rows_after held base → rows ≡ base
idle held base rows none spans = spans ∙ ap (λ (c : Changes). rows_after c base) none

-- nothing is held any more
pub settled : (held : Changes) (rows : Rows) → held ≡ no_changes → rows ≡ rows_after held rows
settled held rows none = sym (ap (λ (c : Changes). rows_after c rows) none)

pub spans_idle : (state : KeepState Rows) (held : Changes) (base rows : Rows) → held ≡ no_changes → Spans state held base rows → Spans state held rows rows
spans_idle state held base rows none spans = (subst state.holds (sym (idle held base rows none spans.1)) spans.0, settled held rows none)

-- what was held is committed, or refused
pub flush_ends : {A E : Type 0} (state : KeepState Rows) (held now changes : Changes) (base rows : Rows) → now ≡ no_changes → changes ≡ held → rows ≡ rows_after held base
    → (r : Result A E) → EndsWith (λ done. Unit {0}) base (rows_after changes base) state r → FlushEnds state now base rows r
flush_ends state held now changes base rows none is spans (Ok done) ends =
    (subst state.holds (ap (λ (c : Changes). rows_after c base) is ∙ sym spans) ends.1, settled now rows none)
flush_ends state held now changes base rows none is spans (Err e) (inl kept) = inl (kept, settled now base none)
flush_ends state held now changes base rows none is spans (Err e) (inr closed) = inr closed

-- a stop in it leaves the rows from before or after
pub flush_stops : (held changes : Changes) (base rows left : Rows) → changes ≡ held → rows ≡ rows_after held base → (left ≡ base) ⊎ (left ≡ rows_after changes base) → (left ≡ base) ⊎ (left ≡ rows)
flush_stops held changes base rows left is spans (inl e) = inl e
flush_stops held changes base rows left is spans (inr e) = inr (e ∙ ap (λ (c : Changes). rows_after c base) is ∙ sym spans)
