-- The lines of receipts and status reports.
use Rattle.std.proofs.Common.{◌≡◌, ℕ, ◌<◌, List, [], ◌∷◌, ◌++◌, refl, sym, ◌∙◌, ap, subst, inl, inr, ⊎_elim, Option, Some, None, arith}
use Rattle.std.specs.Prelude.{◌⊎◌}
use Rattle.sms_base.proofs.Lists.{among_parts}
use Rattle.sms_base.specs.Among.{Among}
use Rattle.sms_base.specs.declared.final_state.FinalState.{FinalState}
use Rattle.sms_centre_rows.specs.messages.Messages.{message_at, message_key}
use Rattle.sms_centre_rows.specs.declared.messages.message.MessageRow.{MessageRow}
use Rattle.sms_centre_rows.specs.reports.Reports.{report_key}
use Rattle.sms_centre_rows.specs.reports.SoundReports.{AreOnce as AreOnceRows}
use Rattle.sms_centre_rows.specs.declared.reports.report.ReportRow.{ReportRow}
use Rattle.sms_centre_rows.specs.declared.report_lines.ReceiptRow.{ReceiptRow}
use Rattle.sms_rows.specs.table.Table.{Rises}
use Rattle.sms_rows.proofs.table.Tables.{found_key}
use Rattle.sms_centre_spec.proofs.SteadyTimes.{above_among}
use Rattle.sms_play.specs.Playing.{receipt_line, receipt_lines, receipt_of}
use Rattle.sms_world.specs.headline.Claims.{AreOnce}

-- whose it is
record IsOf (x : ReceiptRow) (o : Option MessageRow) : Type 0 where
  message : MessageRow
  found : o ≡ Some message
  id : message.id ≡ x.id
  state : message.state ≡ Some x.state

in_state : (x : ReceiptRow) (m : MessageRow) (s : Option FinalState) → m.state ≡ s → Among x (receipt_of m.id s) → IsOf x (Some m)
in_state x m None e i = absurd i
in_state x m (Some f) e i = ⊎_elim
    (λ (q : x ≡ _). record { message = m; found = refl; id = ap (λ (z : ReceiptRow). z.id) (sym q); state = e ∙ ap (λ (z : ReceiptRow). Some z.state) (sym q) })
    (λ none. absurd none) i

in_line : (x : ReceiptRow) (o : Option MessageRow) → Among x (receipt_line o) → IsOf x o
in_line x None i = absurd i
in_line x (Some m) i = in_state x m m.state refl i

-- the report that it is the line of
pub record IsFrom (x : ReceiptRow) (ms : List MessageRow) (rs : List ReportRow) : Type 0 where
  pub report : ReportRow
  pub among : Among report rs
  pub message : MessageRow
  pub found : message_at report.id ms ≡ Some message
  pub id : message.id ≡ x.id
  pub state : message.state ≡ Some x.state

pub from_report : (x : ReceiptRow) (ms : List MessageRow) (rs : List ReportRow) → Among x (receipt_lines ms rs) → IsFrom x ms rs
from_report x ms [] i = absurd i
from_report x ms (r ∷ rs) i = ⊎_elim
    (λ (j : Among x (receipt_line (message_at r.id ms))).
    let y = in_line x (message_at r.id ms) j in
    record { report = r; among = inl refl; message = y.message; found = y.found; id = y.id; state = y.state })
    (λ (j : Among x (receipt_lines ms rs)).
    let y = from_report x ms rs j in
    record { report = y.report; among = inr y.among; message = y.message; found = y.found; id = y.id; state = y.state })
    (among_parts x (receipt_line (message_at r.id ms)) (receipt_lines ms rs) i)

-- ---- no message has two

below_itself : (n : ℕ) → n < n → ⊥
below_itself n l = omega (arith, l)

module _ (ms : List MessageRow) (all : List ReportRow) (once : AreOnceRows all) where
  abbrev Within : List ReportRow → Type 0
  Within rs = (r : ReportRow) → Among r rs → Among r all

  apart : (r : ReportRow) (rs : List ReportRow) → Rises report_key (r ∷ rs) → Within (r ∷ rs) → (id : ℕ) → r.id ≡ id → (y : ReceiptRow) → Among y (receipt_lines ms rs) → ¬ (id ≡ y.id)
  apart r rs rises within id own y i e =
      let f = from_report y ms rs i in
      let same : r.id ≡ f.report.id = own ∙ e ∙ sym f.id ∙ found_key message_key f.report.id f.message ms f.found in
      let place : r.place ≡ f.report.place = once r f.report (within r (inl refl)) (within f.report (inr f.among)) same in
      below_itself f.report.place (subst (λ (k : ℕ). k < f.report.place) place (above_among report_key r.place f.report rs rises.0 f.among))

  with_state : (r : ReportRow) (rs : List ReportRow) (m : MessageRow) → Rises report_key (r ∷ rs) → Within (r ∷ rs) → r.id ≡ m.id → AreOnce (receipt_lines ms rs) → (s : Option FinalState)
      → AreOnce (receipt_of m.id s ++ receipt_lines ms rs)
  with_state r rs m rises within own rest None = rest
  with_state r rs m rises within own rest (Some f) = (apart r rs rises within m.id own, rest)

  with_message : (r : ReportRow) (rs : List ReportRow) → Rises report_key (r ∷ rs) → Within (r ∷ rs) → AreOnce (receipt_lines ms rs) → (o : Option MessageRow) → message_at r.id ms ≡ o
      → AreOnce (receipt_line o ++ receipt_lines ms rs)
  with_message r rs rises within rest None e = rest
  with_message r rs rises within rest (Some m) e = with_state r rs m rises within (sym (found_key message_key r.id m ms e)) rest m.state

  lines_once : (rs : List ReportRow) → Rises report_key rs → Within rs → AreOnce (receipt_lines ms rs)
  lines_once [] rises within = tt
  lines_once (r ∷ rs) rises within =
      with_message r rs rises within (lines_once rs rises.1 (λ x i. within x (inr i))) (message_at r.id ms) refl

pub receipts_once : (ms : List MessageRow) (rs : List ReportRow) → Rises report_key rs → AreOnceRows rs → AreOnce (receipt_lines ms rs)
receipts_once ms rs rises once = lines_once ms rs once rs rises (λ x i. i)
