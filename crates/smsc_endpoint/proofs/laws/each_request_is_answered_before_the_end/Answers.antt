use Rattle.smsc_endpoint.specs.EsmeRuns.{started}
use Rattle.smsc_endpoint.proofs.EsmeRuns.{all_answered, begins, progress_holds}
use Rattle.smsc_endpoint.specs.EsmeRuns.{called_all}
use Rattle.smsc_endpoint.proofs.laws.each_request_is_answered_before_the_end.Goals as goal

pub returns : goal.returns
returns c = λ accounts calls some closed.
    all_answered accounts (called_all (started accounts) calls) (progress_holds accounts calls (started accounts) (begins accounts) some) closed
