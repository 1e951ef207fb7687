use Rattle.std.proofs.Common.{List, ℕ, Some, false, sym, subst}
use Rattle.sms_centre_rows.specs.declared.reports.report.ReportKind.TheVariants.{Status}
use Rattle.sms_centre_rows.specs.reports.Reports.{report_made}
use Rattle.sms_centre_reports.specs.open_reports.OpenReportsDraft.{DraftRepresents}
use Rattle.sms_rows.specs.table.Table.{put}
use Rattle.sms_centre_rows.specs.waiting.Keys.{queued_key}
use Rattle.sms_centre_rows.specs.waiting.References.{give, handset_of}
use Rattle.sms_centre_queue.specs.queues.Representing.{DraftRepresents as QueuesRepresent, Waits}
use Rattle.sms_centre_spec.specs.Draft.{handsets_in, messages_in}
use Rattle.sms_centre_spec.specs.Ends.{status_given}
use Rattle.sms_centre_draft.specs.CentreDraft.{Represents, CentreDraftOf, all_waiting}
use Rattle.sms_centre_draft.proofs.RepresentedMoves.{status_made_waits, status_represented}
use Rattle.sms_centre_draft.proofs.centre_draft.CentreDraft.give_status.Goals as goal

pub returns : goal.returns
returns c = λ d n represents can is next.
    let w : CentreDraftOf = record { setup = c.self.inside.setup.now; moment = c.self.inside.moment; messages = c.self.inside.messages; queues = c.self.inside.queues; reports = c.self.inside.reports; bindings = c.self.inside.bindings; answer = c.self.inside.answer } in
    let was : Represents d w = subst (λ (x : CentreDraftOf). Represents d x) (sym c.self.view_is) represents in
    let m = c.args.message.now in
    let h = handset_of m.source.digits (handsets_in d.store) in
    let after = all_waiting (status_given c.args.state m h (Some c.args.reference) d.store) in
    status_represented d w m c.args.state n c.args.reference c.make_status.new.self c.give.new.self was can is next
    (subst (λ (o : List ℕ). DraftRepresents (messages_in d.store) c.make_status.new.self (report_made m.id (Status c.args.reference o) false w.moment d.store.reports))
    c.in_ok-tpdu.ensures
    (c.in_ok-make_status.ensures (messages_in d.store) d.store.reports was.reports can.none))
    (subst (λ (x : List ℕ). QueuesRepresent (give (handset_of x (handsets_in d.store)) c.args.reference w.moment d.store.allocations) d.links after c.give.new.self) c.requires
    (c.in_ok-give.ensures d.store.allocations d.links (all_waiting d.store) after was.queues
    (subst (λ (x : List ℕ). Waits x (put queued_key (record { id = m.id; number = 0; reference = c.args.reference; priority = 0; due = w.moment })) (all_waiting d.store) after) (sym c.requires)
    (status_made_waits c.args.state m c.args.reference d w was can))))
