use Rattle.smsc_endpoint.specs.EsmeRuns.{started}
use Rattle.smsc_endpoint.proofs.EsmeRuns.{begins, progress_holds}
use Rattle.smsc_endpoint.proofs.laws.actions_become_jobs.Goals as goal

pub returns : goal.returns
returns c = λ accounts calls some. progress_holds accounts calls (started accounts) (begins accounts) some
