use Rattle.std.proofs.Common.{◌∙◌, ◌≡◌, List, ℕ, sym, subst, OnOk}
use Rattle.std.specs.Prelude.{IfOk}
use Rattle.sms_rows.specs.declared.table.change.Change.{Change}
use Rattle.sms_centre_rows.specs.declared.messages.bar.BarRow.{BarRow}
use Rattle.sms_centre_spec.specs.forgetting.Forget.{bars_put, claims_by}
use Rattle.sms_centre_spec.proofs.forgetting.Removed.{forget_bars}
use Rattle.sms_centre.specs.Archiving.{AreArchived}
use Rattle.sms_centre.proofs.forgetting.forget.Goals as goal

pub returns-clause-plan : goal.returns-clause-plan
returns-clause-plan g c = λ core represents stands.
    c.forget_archived-bars.ensures.plan c.args.before c.args.from c.args.most core represents stands (c.as_slice.ensures.value ∙ c.in_ok-ids.ensures core represents stands)

pub returns-clause-bars : goal.returns-clause-bars
returns-clause-bars g c = λ core represents stands.
    subst (λ (l : List (Change BarRow)). IfOk c.forget_archived-bars.result (λ (b : List (Change BarRow)). b ≡ l)) (sym (forget_bars c.args.before c.args.from c.args.most core))
    (subst (λ (ids : List ℕ). IfOk c.forget_archived-bars.result (λ (b : List (Change BarRow)). b ≡ bars_put (claims_by ids core.rows.messages core.rows.parts) core.rows.bars))
    (c.as_slice.ensures.value ∙ c.in_ok-ids.ensures core represents stands)
    (c.forget_archived-bars.ensures.bars core stands))

pub returns-clause-archived : goal.returns-clause-archived
returns-clause-archived g c = λ core represents stands.
    subst (λ (ids : List ℕ). OnOk c.forget_archived-bars.result (AreArchived (g.A.Archive.keeps c.forget_archived-bars.new.archive) ids core.rows))
    (c.as_slice.ensures.value ∙ c.in_ok-ids.ensures core represents stands)
    (c.forget_archived-bars.ensures.archived core stands)
