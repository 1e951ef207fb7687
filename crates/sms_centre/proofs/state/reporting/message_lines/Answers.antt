use Rattle.std.proofs.Common.{List, ◌++◌, sym, ◌∙◌, ap, arith}
use Rattle.std.specs.Prelude.{slice_get}
use Rattle.std.proofs.lemmas.List.{take_all}
use Rattle.sms_centre_rows.specs.declared.messages.message.MessageRow.{MessageRow}
use Rattle.sms_centre_reports.specs.report_log.Reporting.{message_lines}
use Rattle.sms_centre_rows.specs.declared.report_lines.ReportedMessage.{ReportedMessage}
use Rattle.sms_centre.specs.state.MessageLines.{line_at}
use Rattle.sms_centre.proofs.state.Listed.{message_next}
use Rattle.sms_centre.proofs.state.reporting.message_lines.Goals as goal

pub loop-place-preserved : goal.loop-place-preserved
loop-place-preserved c = λ ms ps h.
    let i = c.loop-place.place in
    c.in_ok-push_message.ensures ms ps h
    ∙ ap (λ (ls : List ReportedMessage). ls ++ line_at (slice_get ms i)) (c.loop-place.invariant ms ps h)
    ∙ sym (message_next i ms)

pub returns : goal.returns
returns c = λ ms ps h.
    let count = c.len-place-end.ensures ms ps h in
    c.loop-place.invariant ms ps h ∙ ap (λ (k : List MessageRow). message_lines k) (take_all c.loop-place.place ms (omega (arith, count, c.loop-place-test.false)))
