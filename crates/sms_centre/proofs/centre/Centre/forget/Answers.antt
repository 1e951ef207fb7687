use Rattle.std.proofs.Common.{◌∙◌, ap, subst, inl}
use Rattle.std.proofs.lemmas.Result.{err_from_is_err_and}
use Rattle.sms_centre_spec.specs.Draft.{rows_after}
use Rattle.sms_centre_spec.specs.declared.rows.Changes.{Changes}
use Rattle.sms_centre_spec.specs.declared.rows.Rows.{Rows}
use Rattle.sms_centre.proofs.Archived.{rows_left}
use Rattle.sms_centre.proofs.centre.Centre.forget.Goals as goal

pub returns-in-Ok-clause-outcome : goal.returns-in-Ok-clause-outcome
returns-in-Ok-clause-outcome g c = λ core represents honest holds. (
  c.adopt-outputs.ensures.forgotten c.args.before c.args.from c.args.most core represents (c.in_ok-planned.ensures.outcome core represents),
  subst (λ (r : Rows). (g.K.RowStore.state c.commit.new.keep).holds r)
      (ap (λ (x : Changes). rows_after x core.rows) c.changes.ensures
      ∙ rows_left c.args.before c.args.from c.args.most core c.in_ok-planned.planned.plan (c.in_ok-planned.ensures.outcome core represents))
      (c.in-Ok.ensures.outcome core.rows honest holds).1,
)

pub returns-in-Err-clause-outcome : goal.returns-in-Err-clause-outcome
returns-in-Err-clause-outcome g c = λ core represents honest holds. c.in-Err.ensures.outcome core.rows honest holds

pub returns-in_err-planned-clause-outcome : goal.returns-in_err-planned-clause-outcome
returns-in_err-planned-clause-outcome g c = λ core represents honest holds.
    let p = err_from_is_err_and c.from_residual.result c.from_residual.ensures.1 in rw p.1 (inl holds)
