use Rattle.std.proofs.lemmas.Result.{on_ok_weaker}
use Rattle.std.specs.Prelude.{codes, length}
use Rattle.smsc_status.specs.declared.metrics.SessionMetric.TheVariants.{Submits, Receipts, Window}
use Rattle.smsc_status.specs.Metrics.{metric, plain_sample, session_samples, sessions_metrics}
use Rattle.smsc_status.proofs.Chains.{chain8}
use Rattle.smsc_status.proofs.metrics.put_sessions.Goals as goal

pub returns : goal.returns
unfolding sessions_metrics
returns c =
    let s = c.args.sessions.now in
    on_ok_weaker c.put_each_session-3.result
    (λ e. chain8 c.args.out.now
    (metric (codes "smsc_sessions") (codes "gauge") (codes "Sessions that are bound.")) (plain_sample (codes "smsc_sessions") (length s))
    (metric (codes "smsc_session_submits_total") (codes "counter") (codes "Requests submit_sm of a session."))
    (session_samples (codes "smsc_session_submits_total") Submits s)
    (metric (codes "smsc_session_receipts_total") (codes "counter") (codes "Receipts that a session was sent."))
    (session_samples (codes "smsc_session_receipts_total") Receipts s)
    (metric (codes "smsc_session_window") (codes "gauge") (codes "Requests of a session that have no answer yet."))
    (session_samples (codes "smsc_session_window") Window s)
    c.in_ok-put_metric.ensures c.in_ok-put_plain.ensures c.in_ok-put_metric-2.ensures c.in_ok-put_each_session.ensures c.in_ok-put_metric-3.ensures
    c.in_ok-put_each_session-2.ensures c.in_ok-put_metric-4.ensures e)
    c.put_each_session-3.ensures
