use Rattle.std.proofs.Common.{◌≡◌, ◌+◌, ◌≤◌, ℕ, List, true, false, sym, ◌∙◌, ap, subst, arith}
use Rattle.std.proofs.lemmas.Bool.{false≢true}
use Rattle.sms_rows.specs.table.Table.{Rises, put, without}
use Rattle.sms_rows.proofs.table.Tables.{rises_put}
use Rattle.sms_centre_reports.specs.declared.report_log.log.LoggedReport.{LoggedReport}
use Rattle.sms_centre_reports.specs.report_log.ReportLog.{HasLogRoom, LogInMemory, made_key}
use Rattle.sms_centre_reports.proofs.report_log.Indexing.{put_found, put_over}
use Rattle.sms_centre_reports.proofs.report_log.Rooms.{room_put}
use Rattle.sms_centre_reports.proofs.report_log.log.ReportLog.put.Goals as goal
use Rattle.sms_centre_reports.proofs.report_log.log.ReportLog.put.Goals.{then-self, else-self}

pub put_ready-is_new-requires : goal.put_ready-is_new-requires
put_ready-is_new-requires c =
    let room : 1 ≤ c.self.inside.places.room = (subst (λ (l : LogInMemory). HasLogRoom 1 l) (sym c.self.view_is) (c.take_out.ensures.room 1 c.requires)).places in
    omega (arith, room)

pub put_ready-requires : goal.put_ready-requires
put_ready-requires c = (subst (λ (l : LogInMemory). HasLogRoom 1 l) (sym c.self.view_is) (c.take_out.ensures.room 1 c.requires)).reports

pub invariant_of-self : goal.invariant_of-self
invariant_of-self c =
    let old = c.args.self.now.reports.rows in
    let left : c.self.inside.reports.rows ≡ without made_key c.args.report.place old =
    ap (λ (l : LogInMemory). l.reports.rows) c.self.view_is ∙ c.take_out.ensures.reports ∙ ap (λ (n : ℕ). without made_key n old) c.of.ensures in (
      subst (λ (l : List LoggedReport). Rises made_key l) (sym c.put_ready.ensures.rows) (rises_put made_key c.args.report c.self.inside.reports.rows c.self.invariant.0),
      λ once.
          let both : (c.self.inside.is_once ≡ true) × (c.put_ready-is_new.result ≡ true) = elim c.if-self.branch [
            | then-self w ↦ let was = w.if-self.true in let is = w.self-is in let new : c.put_ready-is_new.result ≡ true = cc in (was, new)
            | else-self w ↦ let is = w.self-is in let bad : false ≡ true = cc in absurd (false≢true bad)
          ] in
          put_found c.args.report old c.self.inside.reports.rows c.put_ready.new.self.rows c.self.inside.places c.put_ready-is_new.new.self left c.put_ready.ensures.rows
          (c.put_ready-is_new.ensures.new both.1) c.put_ready-is_new.ensures.put (c.self.invariant.1 both.0),
    )

pub returns-clause-reports : goal.returns-clause-reports
returns-clause-reports c =
    let old = c.args.self.now.reports.rows in
    let left : c.self.inside.reports.rows ≡ without made_key c.args.report.place old =
    ap (λ (l : LogInMemory). l.reports.rows) c.self.view_is ∙ c.take_out.ensures.reports ∙ ap (λ (n : ℕ). without made_key n old) c.of.ensures in
    c.put_ready.ensures.rows ∙ ap (λ (l : List LoggedReport). put made_key c.args.report l) left ∙ put_over c.args.report old

pub returns-clause-room : goal.returns-clause-room
returns-clause-room c = λ extra room.
    let was = subst (λ (l : LogInMemory). HasLogRoom (extra + 1) l) (sym c.self.view_is) (c.take_out.ensures.room (extra + 1) room) in
    let had : extra + 1 ≤ c.self.inside.places.room = was.places in
    record {
      reports = room_put made_key c.args.report extra c.self.inside.reports c.put_ready.new.self c.put_ready.ensures.rows c.put_ready.ensures.capacity was.reports;
      places = omega (arith, had, c.put_ready-is_new.ensures.room);
    }
