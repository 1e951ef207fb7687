use Rattle.std.proofs.Common.{◌≡◌, true, false, sym, ◌∙◌, subst}
use Rattle.sms_rows.specs.table.Keys.{pair_key}
use Rattle.sms_rows.specs.table.Table.{without}
use Rattle.sms_centre_reports.specs.declared.open_reports.entry.ReportEntry.{ReportEntry}
use Rattle.sms_centre_rows.specs.waiting.Keys.{queued_key}
use Rattle.sms_centre_queue.specs.queues.Representing.{Waits}
use Rattle.sms_centre_spec.specs.Draft.{messages_in, with_report_at}
use Rattle.sms_centre_draft.specs.CentreDraft.{Represents, CentreDraftOf, all_waiting}
use Rattle.sms_centre_draft.proofs.MovesWaiting.{status_done_waits}
use Rattle.sms_centre_draft.proofs.RepresentedMoves.{report_far_represented}
use Rattle.sms_centre_draft.proofs.centre_draft.CentreDraft.status_done.Goals as goal

pub returns : goal.returns
returns c = λ d r represents there is status of done.
    let w : CentreDraftOf = record { setup = c.self.inside.setup.now; moment = c.self.inside.moment; messages = c.self.inside.messages; queues = c.self.inside.queues; reports = c.self.inside.reports; bindings = c.self.inside.bindings; answer = c.self.inside.answer } in
    let was : Represents d w = subst (λ (x : CentreDraftOf). Represents d x) (sym c.self.view_is) represents in
    let m = c.args.message.now in
    let q = c.args.progress.now in
    report_far_represented d w r q c.amend_status.new.self c.remove_report.new.queues was there (λ e. let bad : true ≡ false = sym done ∙ e in absurd cc)
    (c.in_ok-amend_status.ensures (messages_in d.store) d.store.reports r was.reports there is status)
    (c.in_ok-remove_report.ensures d.store.allocations d.links (all_waiting d.store) (all_waiting (with_report_at r q d.store)) was.queues
    (subst (λ (e : ReportEntry). Waits m.source.digits (without queued_key (pair_key e.id 0)) (all_waiting d.store) (all_waiting (with_report_at r q d.store))) (sym is)
    (status_done_waits d.store r q m was.consistent.held there of done)))
