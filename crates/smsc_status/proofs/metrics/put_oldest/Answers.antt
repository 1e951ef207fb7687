use Rattle.std.proofs.lemmas.Result.{on_ok_weaker}
use Rattle.std.specs.Prelude.{codes}
use Rattle.smsc_status.specs.Metrics.{metric, oldest_metric, oldest_sample}
use Rattle.smsc_status.proofs.Chains.{next}
use Rattle.smsc_status.proofs.metrics.put_oldest.Goals as goal

pub returns : goal.returns
unfolding oldest_metric
returns c =
    let oldest = c.args.oldest.now in
    on_ok_weaker c.put_oldest_sample.result
    (λ e. next c.args.out.now
    (metric (codes "smsc_oldest_pending_time_seconds") (codes "gauge") (codes "When the oldest message that is pending was submitted, since 1970."))
    (oldest_sample (codes "smsc_oldest_pending_time_seconds") oldest)
    c.in_ok-put_metric.ensures e)
    c.put_oldest_sample.ensures
