-- Room for reports of the log.
use Rattle.std.proofs.Common.{◌≡◌, ℕ, ◌+◌, ◌≤◌, List, length, sym, ap, subst, arith}
use Rattle.sms_rows.specs.table.Table.{HasRoom, RowsInMemory, put, without}
use Rattle.sms_rows.proofs.table.Tables.{length_put, length_without}
use Rattle.sms_centre_reports.specs.report_log.ReportLog.{HasLogRoom, LogInMemory}

pub fewer_room : (few many : ℕ) (log : LogInMemory) → few ≤ many → HasLogRoom many log → HasLogRoom few log
fewer_room few many log l r =
    let reports : length log.reports.rows + many ≤ log.reports.capacity = r.reports in
    let places : many ≤ log.places.room = r.places in
    record { reports = omega (arith, l, reports); places = omega (arith, l, places) }

module _ {A : Type 0} (key : A → ℕ) where
  pub room_out : (n extra : ℕ) (old new : RowsInMemory A) → new ≡ record old { rows = without key n old.rows } → HasRoom extra old → HasRoom extra new
  room_out n extra old new e room =
      let had : length old.rows + extra ≤ old.capacity = room in
      let few : length (without key n old.rows) ≤ length old.rows = length_without key n old.rows in
      let left : length (without key n old.rows) + extra ≤ old.capacity = omega (arith, had, few) in
      subst (λ (t : RowsInMemory A). HasRoom extra t) (sym e) left

  pub room_put : (x : A) (extra : ℕ) (old new : RowsInMemory A) → new.rows ≡ put key x old.rows → old.capacity ≤ new.capacity → HasRoom (extra + 1) old → HasRoom extra new
  room_put x extra old new e grows room =
      let had : length old.rows + (extra + 1) ≤ old.capacity = room in
      let few : length (put key x old.rows) ≤ length old.rows + 1 = length_put key x old.rows in
      let count : length new.rows ≡ length (put key x old.rows) = ap (λ (l : List A). length l) e in
      let left : length new.rows + extra ≤ new.capacity = omega (arith, had, few, count, grows) in
      left
