-- No session has more unanswered receipts than its window holds.
use Rattle.std.proofs.Common.{◌≡◌, ℕ, ◌<◌, ◌≤◌, List, [], ◌∷◌, ◌++◌, length, Option, Some, None, sym, subst, ⊎_elim, length-append, arith}
use Rattle.std.specs.Prelude.{nat_lt}
use Rattle.std.proofs.lemmas.Bool.{cond_both, ltb-true}
use Rattle.sms_base.specs.Among.{Among}
use Rattle.sms_rows.proofs.table.Tables.{among_put}
use Rattle.sms_centre_rows.specs.declared.messages.message.MessageRow.{MessageRow}
use Rattle.sms_centre_rows.specs.messages.Messages.{message_at}
use Rattle.sms_centre_rows.specs.declared.reports.report.ReportRow.{ReportRow}
use Rattle.sms_centre_rows.specs.reports.Receipts.{AreWindowed, Bindings, Session, send, send_all, send_in, send_to, session_for, session_key, waits, window}

in_windowed : (id : ℕ) (s : Session) (bindings : Bindings) → length s.unanswered < 10 → AreWindowed bindings → AreWindowed (send_in id s bindings)
in_windowed id s bindings few windowed = λ x m. ⊎_elim
    (λ (e : x ≡ record s { unanswered = s.unanswered ++ id ∷ [] }).
    let one : length (s.unanswered ++ id ∷ []) ≤ 10 = omega (arith, length-append s.unanswered (id ∷ []), few) in
    subst (λ (y : Session). length y.unanswered ≤ 10) (sym e) one)
    (λ (k : Among x bindings.sessions × ¬ (session_key x ≡ s.number)). windowed x k.0)
    (among_put session_key x (record s { unanswered = s.unanswered ++ id ∷ [] }) bindings.sessions m)

to_windowed : (id : ℕ) (o : Option Session) (bindings : Bindings) → AreWindowed bindings → AreWindowed (send_to id o bindings)
to_windowed id None bindings windowed = windowed
to_windowed id (Some s) bindings windowed =
    cond_both (nat_lt (length s.unanswered) window) (send_in id s bindings) bindings AreWindowed (λ t. in_windowed id s bindings (ltb-true (length s.unanswered) 10 t) windowed) (λ t. windowed)

pub all_windowed : (moment : ℕ) (ms : List MessageRow) (rs : List ReportRow) (bindings : Bindings) → AreWindowed bindings → AreWindowed (send_all moment ms rs bindings)
all_windowed moment ms [] bindings windowed = windowed
all_windowed moment ms (r ∷ rs) bindings windowed =
    all_windowed moment ms rs (send moment ms r bindings)
    (cond_both (waits moment r bindings.sessions) (send_to r.id (session_for (message_at r.id ms) bindings.sessions) bindings) bindings AreWindowed
    (λ t. to_windowed r.id (session_for (message_at r.id ms) bindings.sessions) bindings windowed) (λ t. windowed))
