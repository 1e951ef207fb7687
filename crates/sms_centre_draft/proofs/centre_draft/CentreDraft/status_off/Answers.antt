use Rattle.std.proofs.Common.{◌≡◌, Some, sym, subst}
use Rattle.sms_rows.specs.table.Keys.{pair_key}
use Rattle.sms_rows.specs.table.Table.{row_at}
use Rattle.sms_centre_reports.specs.declared.open_reports.entry.ReportEntry.{ReportEntry}
use Rattle.sms_centre_rows.specs.reports.Waiting.{report_queued}
use Rattle.sms_centre_rows.specs.waiting.Keys.{queued_key}
use Rattle.sms_centre_spec.specs.Draft.{messages_in, with_report_at}
use Rattle.sms_centre_draft.specs.CentreDraft.{Represents, CentreDraftOf, all_waiting}
use Rattle.sms_centre_draft.proofs.FoundOpen.{open_is_status, open_undone}
use Rattle.sms_centre_draft.proofs.MovesWaiting.{status_off_waits, status_waiting}
use Rattle.sms_centre_draft.proofs.RepresentedMoves.{report_far_represented}
use Rattle.sms_centre_draft.proofs.centre_draft.CentreDraft.status_off.Goals as goal

pub returns : goal.returns
returns c = λ d r represents there is open_now of off.
    let w : CentreDraftOf = record { setup = c.self.inside.setup.now; moment = c.self.inside.moment; messages = c.self.inside.messages; queues = c.self.inside.queues; reports = c.self.inside.reports; bindings = c.self.inside.bindings; answer = c.self.inside.answer } in
    let was : Represents d w = subst (λ (x : CentreDraftOf). Represents d x) (sym c.self.view_is) represents in
    let m = c.args.message.now in
    let q = c.args.progress.now in
    report_far_represented d w r q c.amend_status.new.self c.put_report_off.new.queues was there (λ e. open_undone r open_now)
    (c.in_ok-amend_status.ensures (messages_in d.store) d.store.reports r was.reports there is (open_is_status r open_now))
    (c.in_ok-put_report_off.ensures d.store.allocations d.links (all_waiting d.store) (all_waiting (with_report_at r q d.store)) (report_queued r) was.queues
    (subst (λ (e : ReportEntry). row_at queued_key (pair_key e.id 0) (all_waiting d.store m.source.digits) ≡ Some (report_queued r)) (sym is)
    (status_waiting d.store r m was.consistent.held there of open_now))
    (status_off_waits d.store r q m was.consistent.held there of (open_is_status r open_now) off))
