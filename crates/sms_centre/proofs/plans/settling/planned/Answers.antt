use Rattle.std.proofs.Common.{◌∙◌, ap}
use Rattle.sms_centre_reports.specs.open_reports.OpenReportsDraft.{OpenReportsDraftOf as ReportsOf}
use Rattle.sms_centre_rows.specs.reports.Receipts.{Bindings}
use Rattle.sms_centre.proofs.plans.Settled.{planned_is}
use Rattle.sms_centre.proofs.plans.settling.planned.Goals as goal

pub returns-clause-plans : goal.returns-clause-plans
returns-clause-plans c = λ d w represents moment is placed references handsets frames reports bindings answer bars.
    let settled = c.args.settled in
    planned_is d w c.args.moment c.args.answer settled.rows.messages settled.plan.queues settled.plan.references settled.plan.handsets settled.plan.frames c.settle-known.result.reports c.from_vec-changed.result
    c.settle-seated.result.sessions.rows c.from_vec-deliveries.result settled.rows.reference_index c.args.bars represents moment answer is placed references handsets frames
    (c.settle-known.ensures.reports ∙ ap (λ (r : ReportsOf). r.current) reports) (c.from_vec-changed.ensures ∙ c.settle-known.ensures.changes ∙ ap (λ (r : ReportsOf). r.changes) reports)
    (c.settle-seated.ensures.sessions ∙ ap (λ (k : Bindings). k.sessions) bindings) (c.from_vec-deliveries.ensures ∙ c.settle-seated.ensures.deliveries ∙ ap (λ (k : Bindings). k.deliveries) bindings) bars
