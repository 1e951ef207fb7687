use Rattle.std.proofs.Common.{◌≡◌, false, true, arith}
use Rattle.std.proofs.lemmas.Bool.{false≢true}
use Rattle.sms_centre_reports.proofs.report_log.Indexing.{next_found}
use Rattle.sms_centre_reports.proofs.report_log.places.note_each.Goals as goal
use Rattle.sms_centre_reports.proofs.report_log.places.note_each.Goals.{then-is_once, else-is_once}

pub loop-report-preserved : goal.loop-report-preserved
loop-report-preserved c = λ none once.
    let i = c.loop-report.report-index in
    let both : (c.loop-report.is_once ≡ true) × (c.in_ok-is_new.is_new ≡ true) = elim c.if-is_once.branch [
      | then-is_once w ↦ let was = w.if-is_once.true in let is = w.is_once-is in let new : c.in_ok-is_new.is_new ≡ true = cc in (was, new)
      | else-is_once w ↦ let is = w.is_once-is in let bad : false ≡ true = cc in absurd (false≢true bad)
    ] in
    next_found i c.report-item.result c.args.reports.now c.loop-report.places c.put.new.self (omega (arith, c.loop-report-test.true)) c.report-item.is
    (c.in_ok-is_new.ensures.new both.1) c.in_ok-is_new.ensures.put (c.loop-report.invariant none both.0)
