use Rattle.std.proofs.Common.{ℕ, List, sym, ◌∙◌, ap, subst}
use Rattle.sms_centre_reports.specs.open_reports.OpenReportsDraft.{DraftRepresents}
use Rattle.sms_centre_rows.specs.reports.Receipts.{Bindings}
use Rattle.sms_centre_reports.specs.sessions.Answering.{bindings_bound, reports_bound}
use Rattle.sms_centre_reports.specs.sessions.Awaited.{AreAwaited}
use Rattle.sms_centre_spec.specs.Draft.{messages_in, reports_in}
use Rattle.sms_centre_draft.specs.CentreDraft.{Represents, CentreDraftOf}
use Rattle.sms_centre_events.proofs.Bound.{bound_represented}
use Rattle.sms_centre_events.proofs.binding.bind_to.Goals as goal

pub returns : goal.returns
returns c = λ d represents awaited.
    let w : CentreDraftOf = record { setup = c.draft.inside.setup.now; moment = c.draft.inside.moment; messages = c.draft.inside.messages; queues = c.draft.inside.queues; reports = c.draft.inside.reports; bindings = c.draft.inside.bindings; answer = c.draft.inside.answer } in
    let was : Represents d w = subst (λ (x : CentreDraftOf). Represents d x) (sym c.draft.view_is) represents in
    let a = c.args.session in
    let name = c.args.account.now.name in
    let r = c.args.receives in
    bound_represented a r c.args.account.now d w c.bind.new.self c.bind.new.reports was awaited
    (c.in_ok-bind.ensures.bindings ∙ ap (λ (n : List ℕ). bindings_bound a n r w.bindings) c.as_slice-name.ensures ∙ ap (λ (x : Bindings). bindings_bound a name r x) was.bindings)
    (subst (λ (x : Bindings). DraftRepresents (messages_in d.store) c.bind.new.reports (reports_bound a name r d.store.moment x.sessions (messages_in d.store) d.store.reports)) was.bindings
    (subst (λ (n : ℕ). DraftRepresents (messages_in d.store) c.bind.new.reports (reports_bound a name r n w.bindings.sessions (messages_in d.store) d.store.reports)) was.moment
    (subst (λ (n : List ℕ). DraftRepresents (messages_in d.store) c.bind.new.reports (reports_bound a n r w.moment w.bindings.sessions (messages_in d.store) d.store.reports)) c.as_slice-name.ensures
    (c.in_ok-bind.ensures.reports (messages_in d.store) d.store.reports was.reports
    (subst (λ (x : Bindings). AreAwaited (messages_in d.store) (reports_in d.store) x.sessions) (sym was.bindings) awaited)))))
