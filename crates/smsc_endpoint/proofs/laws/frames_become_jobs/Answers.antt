use Rattle.smsc_endpoint.specs.LinkRuns.{started}
use Rattle.smsc_endpoint.proofs.LinkRuns.{begins, run_holds}
use Rattle.smsc_endpoint.proofs.laws.frames_become_jobs.Goals as goal

pub returns : goal.returns
returns c = λ access calls progress run. run_holds access c.front_is_the_frame.ensures.found calls (started access) progress (begins access) run
