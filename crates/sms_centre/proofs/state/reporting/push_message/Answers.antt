use Rattle.std.proofs.Common.{◌≡◌, List, [], ◌∷◌, ◌++◌, append-nil, Option, Some, None, Result, Ok, Err, OnOk, refl, sym, ◌∙◌, ap}
use Rattle.std.specs.Option.{option_map}
use Rattle.std.specs.Prelude.{slice_get}
use Rattle.sms_centre_messages.specs.declared.message_index.summary.MessageSummary.{MessageSummary}
use Rattle.sms_centre_messages.specs.message_index.Summaries.{summary_of}
use Rattle.sms_centre_rows.specs.declared.messages.message.MessageRow.{MessageRow}
use Rattle.sms_centre_reports.specs.report_log.Reporting.{message_line}
use Rattle.sms_centre_rows.specs.declared.report_lines.ReportedMessage.{ReportedMessage}
use Rattle.sms_centre.specs.state.MessageLines.{line_at}
use Rattle.sms_centre.proofs.state.reporting.push_message.Goals as goal

-- the line of what is summed up so
line_some : (o : Option MessageRow) (s : MessageSummary) (l : ReportedMessage) → Some s ≡ option_map summary_of o → ((m : MessageRow) → summary_of m ≡ s → l ≡ message_line m) → l ∷ [] ≡ line_at o
line_some None s l e f = absurd cc
line_some (Some m) s l e f = let same : summary_of m ≡ s = cc in ap (λ (x : ReportedMessage). x ∷ []) (f m same)

line_none : (o : Option MessageRow) → None ≡ option_map summary_of o → [] ≡ line_at o
line_none None e = refl
line_none (Some m) e = absurd cc

with_line : {X E : Type 0} (r : Result X E) (new old : List ReportedMessage) (l : ReportedMessage) (ls : List ReportedMessage) → l ∷ [] ≡ ls → OnOk r (new ≡ old ++ l ∷ []) → OnOk r (new ≡ old ++ ls)
with_line (Ok x) new old l ls e p = p ∙ ap (λ (k : List ReportedMessage). old ++ k) e
with_line (Err x) new old l ls e p = p

pub returns-in-Some : goal.returns-in-Some
returns-in-Some c = λ ms ps h.
    with_line c.push.result c.push.new.self c.args.lines.now c.message_line.result (line_at (slice_get ms c.args.place))
    (line_some (slice_get ms c.args.place) c.in-Some.summary c.message_line.result (sym c.in-Some.is ∙ c.summary.ensures ms ps h) c.message_line.ensures)
    c.push.ensures.ok

pub returns-in-None : goal.returns-in-None
returns-in-None c = λ ms ps h.
    sym (append-nil c.args.lines.now) ∙ ap (λ (k : List ReportedMessage). c.args.lines.now ++ k) (line_none (slice_get ms c.args.place) (sym c.in-None.is ∙ c.summary.ensures ms ps h))
