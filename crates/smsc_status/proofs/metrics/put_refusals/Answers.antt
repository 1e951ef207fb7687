use Rattle.std.proofs.lemmas.Result.{on_ok_weaker}
use Rattle.std.specs.Prelude.{codes, flat_map}
use Rattle.smsc_status.specs.Metrics.{binds_sample, deliveries_sample, metric, refusals_metrics, submits_sample}
use Rattle.smsc_status.proofs.Chains.{chain6}
use Rattle.smsc_status.proofs.metrics.put_refusals.Goals as goal

pub returns : goal.returns
unfolding refusals_metrics
returns c =
    let v = c.args.view.now in
    on_ok_weaker c.put_each-3.result
    (λ e. chain6 c.args.out.now
    (metric (codes "smsc_submits_refused_total") (codes "counter") (codes "Requests submit_sm of an account that were refused with this command_status."))
    (flat_map submits_sample v.refused_submits.now)
    (metric (codes "smsc_binds_refused_total") (codes "counter") (codes "Binds that were refused for this reason."))
    (flat_map binds_sample v.refused_binds.now)
    (metric (codes "smsc_deliver_attempts_failed_total") (codes "counter") (codes "What handsets refused with this RP cause of what was delivered to them."))
    (flat_map deliveries_sample v.refused_deliveries.now)
    c.in_ok-put_metric.ensures c.in_ok-put_each.ensures c.in_ok-put_metric-2.ensures c.in_ok-put_each-2.ensures
    c.in_ok-put_metric-3.ensures e)
    c.put_each-3.ensures
