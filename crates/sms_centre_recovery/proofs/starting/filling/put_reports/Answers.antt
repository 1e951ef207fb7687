use Rattle.std.proofs.Common.{ℕ, List, ◌-◌, ◌≡◌, length, drop, sym, subst, arith}
use Rattle.std.proofs.lemmas.List.{drop_all}
use Rattle.sms_centre_rows.specs.declared.reports.report.ReportRow.{ReportRow}
use Rattle.sms_centre_rows.specs.reports.Waiting.{with_reports}
use Rattle.sms_centre_queue.specs.queues.Representing.{DraftRepresents}
use Rattle.sms_centre_recovery.proofs.starting.RowsSeen.{next_back}
use Rattle.sms_centre_recovery.proofs.starting.filling.put_reports.Goals as goal

pub loop-i-init : goal.loop-i-init
loop-i-init c = λ g links waiting represents.
    let reports = c.args.reports.now in
    let messages = c.args.tables.now.messages.rows in
    subst (λ (rs : List ReportRow). DraftRepresents g links (λ (number : List ℕ). with_reports number messages rs (waiting number)) c.args.queues.now)
    (sym (drop_all (length reports - 0) reports (omega arith))) represents

pub loop-i-preserved : goal.loop-i-preserved
loop-i-preserved c = λ g links waiting represents.
    let reports = c.args.reports.now in
    let messages = c.args.tables.now.messages.rows in
    let i = c.loop-i.i in
    subst (λ (rs : List ReportRow). DraftRepresents g links (λ (number : List ℕ). with_reports number messages rs (waiting number)) c.put_report.new.queues)
    (sym (next_back reports i c.index-reports-reports.result (omega arith) c.index-reports-reports.is))
    (c.in_ok-put_report.ensures g links (drop (length reports - i) reports) waiting (c.loop-i.invariant g links waiting represents))

pub returns : goal.returns
returns c = λ g links waiting represents.
    let reports = c.args.reports.now in
    let messages = c.args.tables.now.messages.rows in
    subst (λ (k : ℕ). DraftRepresents g links (λ (number : List ℕ). with_reports number messages (drop k reports) (waiting number)) c.loop-i.queues)
    (let none : length reports - c.loop-i.i ≡ 0 = omega arith in none) (c.loop-i.invariant g links waiting represents)
