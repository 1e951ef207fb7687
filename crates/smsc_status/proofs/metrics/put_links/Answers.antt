use Rattle.std.proofs.lemmas.Result.{on_ok_weaker}
use Rattle.std.specs.Prelude.{codes, length}
use Rattle.smsc_status.specs.declared.metrics.LinkMetric.TheVariants.{Waiting, Full, UnderWay}
use Rattle.smsc_status.specs.Metrics.{link_samples, links_metrics, metric, plain_sample}
use Rattle.smsc_status.proofs.Chains.{chain8}
use Rattle.smsc_status.proofs.metrics.put_links.Goals as goal

pub returns : goal.returns
unfolding links_metrics
returns c =
    let l = c.args.links.now in
    on_ok_weaker c.put_each_link-3.result
    (λ e. chain8 c.args.out.now
    (metric (codes "smsc_links") (codes "gauge") (codes "Handsets with a link.")) (plain_sample (codes "smsc_links") (length l))
    (metric (codes "smsc_link_waiting") (codes "gauge") (codes "Parts and status reports that wait for a handset."))
    (link_samples (codes "smsc_link_waiting") Waiting l)
    (metric (codes "smsc_link_full") (codes "gauge") (codes "Whether a handset said that it has no memory."))
    (link_samples (codes "smsc_link_full") Full l)
    (metric (codes "smsc_link_under_way") (codes "gauge") (codes "Whether something to a handset is under way."))
    (link_samples (codes "smsc_link_under_way") UnderWay l)
    c.in_ok-put_metric.ensures c.in_ok-put_plain.ensures c.in_ok-put_metric-2.ensures c.in_ok-put_each_link.ensures c.in_ok-put_metric-3.ensures
    c.in_ok-put_each_link-2.ensures c.in_ok-put_metric-4.ensures e)
    c.put_each_link-3.ensures
