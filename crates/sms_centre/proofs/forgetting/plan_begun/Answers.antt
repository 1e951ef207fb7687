use Rattle.sms_centre_spec.specs.forgetting.Forget.{forget, going_now}
use Rattle.sms_centre.specs.Archiving.{AreArchived}
use Rattle.sms_centre.proofs.Archived.{on_ok_holds}
use Rattle.sms_centre.proofs.forgetting.plan_begun.Goals as goal

pub returns-in-Ok-clause-plan : goal.returns-in-Ok-clause-plan
returns-in-Ok-clause-plan g c = λ core represents stands.
    c.finished.ensures.plan (forget c.args.before c.args.from c.args.most core) (c.in-Ok.ensures.plan core represents stands) (c.in-Ok.ensures.bars core represents stands)

pub returns-in-Ok-clause-archived : goal.returns-in-Ok-clause-archived
returns-in-Ok-clause-archived g c = λ core represents stands.
    on_ok_holds c.finished.result (AreArchived (g.A.Archive.keeps c.forget.new.archive) (going_now c.args.before c.args.from c.args.most core) core.rows) (c.in-Ok.ensures.archived core represents stands)
