use Rattle.std.proofs.Common.{◌≡◌, ◌≤◌, ◌+◌, ℕ, List, ap, arith, refl, subst, sym, ◌∙◌}
use Rattle.std.specs.List.{AllByRecursion}
use Rattle.sms_rows.specs.table.Table.{without}
use Rattle.smsc_service.proofs.Roomy.{from_next, none_from}
use Rattle.smsc_service.proofs.seat_table.clear.Goals as goal

pub loop-seat-preserved : goal.loop-seat-preserved
loop-seat-preserved g c = record {
  from = subst (λ (l : List g.row.T.Denot). AllByRecursion (λ (row : g.row.T.Denot). c.loop-seat.seat + 1 ≤ g.T.Row.key row) l)
      (sym (c.remove_row.ensures.rows ∙ ap (λ (k : ℕ). without g.T.Row.key k c.loop-seat.table.rows) c.of.ensures))
      (from_next g.T.Row.key c.loop-seat.seat (c.loop-seat.seat + 1) c.loop-seat.table.rows refl c.loop-seat.invariant.from);
  roomy = c.remove_row.ensures.roomy;
}

pub returns-clause-rows : goal.returns-clause-rows
returns-clause-rows g c =
    let all : c.loop-seat.seat ≡ 32 = omega (arith, c.loop-seat-test.false, c.loop-seat.auto.seat-end) in
    none_from g.T.Row.key c.loop-seat.table.rows
    (subst (λ (n : ℕ). AllByRecursion (λ (row : g.row.T.Denot). n ≤ g.T.Row.key row) c.loop-seat.table.rows) all c.loop-seat.invariant.from) c.loop-seat.invariant.roomy.0
