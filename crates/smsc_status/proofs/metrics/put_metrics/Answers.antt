use Rattle.std.proofs.lemmas.Result.{on_ok_weaker}
use Rattle.smsc_status.specs.Metrics.{accounts_metrics, commits_metrics, counts_metric, groups_metrics, links_metrics, lost_metrics, messages_metric, metrics_text, oldest_metric, refusals_metrics, run_metrics, sessions_metrics, store_metrics}
use Rattle.smsc_status.proofs.Chains.{chain12}
use Rattle.smsc_status.proofs.metrics.put_metrics.Goals as goal

pub returns : goal.returns
unfolding metrics_text
returns c =
    let v = c.args.view.now in
    on_ok_weaker c.put_groups.result
    (λ e. chain12 c.args.out.now
    (run_metrics v) (lost_metrics v.lost_events v.lost_lines) (counts_metric v.counts) (messages_metric v.messages) (oldest_metric v.oldest) (sessions_metrics v.sessions.now)
    (links_metrics v.links.now) (accounts_metrics v.accounts.now) (refusals_metrics v) (store_metrics v.store) (commits_metrics v.commits)
    (groups_metrics v.groups)
    c.in_ok-put_run.ensures c.in_ok-put_lost.ensures c.in_ok-put_counts.ensures c.in_ok-put_stored.ensures c.in_ok-put_oldest.ensures c.in_ok-put_sessions.ensures
    c.in_ok-put_links.ensures c.in_ok-put_accounts.ensures c.in_ok-put_refusals.ensures c.in_ok-put_store.ensures c.in_ok-put_commits.ensures e)
    c.put_groups.ensures
