use Rattle.std.proofs.lemmas.Result.{on_ok_weaker}
use Rattle.std.specs.Prelude.{codes}
use Rattle.smsc_status.specs.Metrics.{commits_metrics, first_buckets, metric, plain_sample, totals}
use Rattle.smsc_status.proofs.Chains.{chain5}
use Rattle.smsc_status.proofs.metrics.put_commits.Goals as goal

pub returns : goal.returns
unfolding commits_metrics
returns c =
    let f = c.args.commits.now in
    on_ok_weaker c.put_plain.result
    (λ e. chain5 c.args.out.now
    (metric (codes "smsc_commit_seconds") (codes "histogram") (codes "How long a commit took.")) (first_buckets f.counts 13) (totals f)
    (metric (codes "smsc_commits_refused_total") (codes "counter") (codes "Commits that the store refused."))
    (plain_sample (codes "smsc_commits_refused_total") f.refused)
    c.in_ok-put_metric.ensures c.in_ok-put_buckets.ensures c.in_ok-put_totals.ensures c.in_ok-put_metric-2.ensures e)
    c.put_plain.ensures
