use Rattle.std.proofs.Common.{ℕ, sym, ◌∙◌, ap, subst}
use Rattle.sms_centre_reports.specs.open_reports.OpenReportsDraft.{DraftRepresents}
use Rattle.sms_centre_rows.specs.reports.Receipts.{Bindings}
use Rattle.sms_centre_reports.specs.sessions.Answering.{bindings_unbound, reports_unbound}
use Rattle.sms_centre_reports.specs.sessions.Awaited.{AreAwaited}
use Rattle.sms_centre_spec.specs.Draft.{messages_in, reports_in}
use Rattle.sms_centre_draft.specs.CentreDraft.{Represents, CentreDraftOf}
use Rattle.sms_centre_draft.proofs.ReceiptsEnded.{unbound_represented}
use Rattle.sms_centre_draft.proofs.centre_draft.CentreDraft.unbind.Goals as goal

pub returns : goal.returns
returns c = λ d represents awaited.
    let w : CentreDraftOf = record { setup = c.self.inside.setup.now; moment = c.self.inside.moment; messages = c.self.inside.messages; queues = c.self.inside.queues; reports = c.self.inside.reports; bindings = c.self.inside.bindings; answer = c.self.inside.answer } in
    let was : Represents d w = subst (λ (x : CentreDraftOf). Represents d x) (sym c.self.view_is) represents in
    let a = c.args.session in
    unbound_represented a d w c.unbind.new.self c.unbind.new.reports was awaited
    (c.in_ok-unbind.ensures.bindings ∙ ap (λ (x : Bindings). bindings_unbound a x) was.bindings)
    (subst (λ (x : Bindings). DraftRepresents (messages_in d.store) c.unbind.new.reports (reports_unbound a d.store.moment x.sessions d.store.reports)) was.bindings
    (subst (λ (n : ℕ). DraftRepresents (messages_in d.store) c.unbind.new.reports (reports_unbound a n w.bindings.sessions d.store.reports)) was.moment
    (c.in_ok-unbind.ensures.reports (messages_in d.store) d.store.reports was.reports
    (subst (λ (x : Bindings). AreAwaited (messages_in d.store) (reports_in d.store) x.sessions) (sym was.bindings) awaited))))
