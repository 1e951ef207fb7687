use Rattle.std.proofs.lemmas.Result.{on_ok_weaker}
use Rattle.std.specs.Prelude.{codes}
use Rattle.smsc_status.specs.Metrics.{account_receipts, account_submits, accounts_metrics, metric}
use Rattle.smsc_status.proofs.Chains.{chain4}
use Rattle.smsc_status.proofs.metrics.put_accounts.Goals as goal

pub returns : goal.returns
unfolding accounts_metrics
returns c =
    let a = c.args.accounts.now in
    on_ok_weaker c.put_account_receipts.result
    (λ e. chain4 c.args.out.now
    (metric (codes "smsc_account_submits_total") (codes "counter") (codes "Requests submit_sm of an account since the run began."))
    (account_submits (codes "smsc_account_submits_total") a)
    (metric (codes "smsc_account_receipts_total") (codes "counter") (codes "Receipts that an account was sent since the run began."))
    (account_receipts (codes "smsc_account_receipts_total") a)
    c.in_ok-put_metric.ensures c.in_ok-put_account_submits.ensures c.in_ok-put_metric-2.ensures e)
    c.put_account_receipts.ensures
