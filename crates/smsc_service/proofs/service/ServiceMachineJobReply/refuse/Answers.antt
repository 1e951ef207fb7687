use Rattle.smsc_service.specs.Asking.{asked_by}
use Rattle.smsc_service.proofs.Archived.{archived_still}
use Rattle.smsc_service.proofs.service.ServiceMachineJobReply.refuse.Goals as goal

pub returns-clause-gives : goal.returns-clause-gives
returns-clause-gives g c = λ honest r failed. (
  c.refused_with_group.ensures.outs r.serving failed.0,
  (
    c.refused_with_group.ensures.seats r.serving failed.0,
    archived_still (g.A.Archive.keeps c.args.self.now.errands.archive) (asked_by r.serving.seats c.args.stimulus.now) r.serving r.gone failed.1,
    failed.2,
  ),
)
