use Rattle.std.proofs.Common.{ℕ, List, [], subst}
use Rattle.sms_centre_rows.specs.messages.OpenParts.{parts_waiting}
use Rattle.sms_centre_rows.specs.declared.messages.part.PartRow.{PartRow}
use Rattle.sms_centre_rows.specs.reports.Waiting.{with_reports}
use Rattle.sms_centre_rows.specs.declared.reports.report.ReportRow.{ReportRow}
use Rattle.sms_centre_queue.specs.queues.Representing.{DraftRepresents}
use Rattle.sms_centre_recovery.specs.starting.Starting.{links_of}
use Rattle.sms_centre_rows.specs.waiting.Links.{Links}
use Rattle.sms_centre.proofs.state.queues.fill.Goals as goal

pub returns : goal.returns
returns c = λ g begun.
    let t = c.args.tables.now in
    let links : Links = record { all = links_of c.args.are_up c.args.handsets.now; frames = []; read = [] } in
    let linked = c.in_ok-connect_all.ensures g (λ (n : List ℕ). []) begun in
    let ms = t.messages.rows in
    let qs = t.priorities.rows in
    let parts = subst (λ (ps : List PartRow). DraftRepresents g links (λ (n : List ℕ). parts_waiting n ms qs ps) c.put_parts.new.queues) c.as_slice-parts.ensures.rows
    (c.in_ok-put_parts.ensures g links linked) in
    subst (λ (rs : List ReportRow). DraftRepresents g links (λ (n : List ℕ). with_reports n ms rs (parts_waiting n ms qs t.parts.rows)) c.put_reports.new.queues) c.as_slice-reports.ensures.rows
    (c.in_ok-put_reports.ensures g links (λ (n : List ℕ). parts_waiting n ms qs t.parts.rows) parts)
