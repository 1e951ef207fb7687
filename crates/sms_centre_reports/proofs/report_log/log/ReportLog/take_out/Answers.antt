use Rattle.std.proofs.Common.{◌≡◌, ◌≤◌, List, true, sym, ap, subst, arith}
use Rattle.sms_rows.specs.table.Table.{Rises, RowsInMemory}
use Rattle.sms_rows.proofs.table.Tables.{rises_without}
use Rattle.sms_centre_reports.specs.declared.report_log.log.LoggedReport.{LoggedReport}
use Rattle.sms_centre_reports.specs.report_log.Places.{AreFound}
use Rattle.sms_centre_reports.specs.report_log.ReportLog.{HasLogRoom, LogInMemory, made_key}
use Rattle.sms_centre_reports.proofs.report_log.Indexing.{found_left, found_out}
use Rattle.sms_centre_reports.proofs.report_log.Rooms.{room_out}
use Rattle.sms_centre_reports.proofs.report_log.log.ReportLog.take_out.Goals as goal

pub invariant_of-self : goal.invariant_of-self
invariant_of-self c =
    let rs = c.self.inside.reports.rows in
    subst (λ (l : List LoggedReport). Rises made_key l × (c.self.inside.is_once ≡ true → AreFound l c.take.new.self)) (sym (ap (λ (t : RowsInMemory LoggedReport). t.rows) c.remove.ensures.rows)) (
      rises_without made_key c.args.place rs c.self.invariant.0,
      λ once. found_out c.args.place c.in-Some.report rs c.self.inside.places c.take.new.self c.in-Some.ensures.row c.self.invariant.0 c.take.ensures.taken (c.self.invariant.1 once),
    )

pub invariant_of-self-in-None : goal.invariant_of-self-in-None
invariant_of-self-in-None c =
    let rs = c.self.inside.reports.rows in
    subst (λ (l : List LoggedReport). Rises made_key l × (c.self.inside.is_once ≡ true → AreFound l c.self.inside.places)) (sym (ap (λ (t : RowsInMemory LoggedReport). t.rows) c.remove.ensures.rows))
    (rises_without made_key c.args.place rs c.self.invariant.0, λ once. found_left c.args.place rs c.self.inside.places c.in-None.ensures.row c.self.invariant.0 (c.self.invariant.1 once))

pub returns-in-Some-clause-room : goal.returns-in-Some-clause-room
returns-in-Some-clause-room c = λ extra room.
    let was = subst (λ (l : LogInMemory). HasLogRoom extra l) (sym c.self.view_is) room in
    let had : extra ≤ c.self.inside.places.room = was.places in
    record {
      reports = room_out made_key c.args.place extra c.self.inside.reports c.remove.new.self c.remove.ensures.rows was.reports;
      places = omega (arith, had, c.take.ensures.room);
    }

pub returns-in-None-clause-room : goal.returns-in-None-clause-room
returns-in-None-clause-room c = λ extra room.
    let was = subst (λ (l : LogInMemory). HasLogRoom extra l) (sym c.self.view_is) room in
    record {
      reports = room_out made_key c.args.place extra c.self.inside.reports c.remove.new.self c.remove.ensures.rows was.reports;
      places = was.places;
    }
