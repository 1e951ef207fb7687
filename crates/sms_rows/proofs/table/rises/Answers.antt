use Rattle.std.proofs.Common.{arith, ◌≡◌, ◌<◌, ◌+◌, ◌-◌, refl, ap, subst, get_or}
use Rattle.sms_rows.proofs.table.Places.{rises_from_adjacent, adjacent_rise}
use Rattle.sms_rows.proofs.table.rises.Goals as goal

pub returns-then-number : goal.returns-then-number
returns-then-number g c =
    let key = g.T.Row.key in
    let a = ap key c.index-rows-i.is in
    let b = ap key c.index-rows-i-in-loop-i.is in (
      (λ e. absurd cc),
      (λ h.
          let q : c.loop-i.i - 1 + 1 ≡ c.loop-i.i = omega (arith, c.loop-i.invariant.begun) in
          let up = subst (λ n. key (get_or c.args.rows.now (c.loop-i.i - 1) c.index-rows-i-in-loop-i.result) < key (get_or c.args.rows.now n c.index-rows-i.result)) q
          (adjacent_rise key (c.loop-i.i - 1) c.args.rows.now c.index-rows-i-in-loop-i.result c.index-rows-i.result h (omega arith)) in
          absurd (omega (arith, a, b, c.key.ensures, c.key-in-loop-i.ensures, c.number.ensures, c.number-in-loop-i.ensures, c.if-number.true, up))),
    )

pub returns : goal.returns
returns g c =
    ((λ e. rises_from_adjacent g.T.Row.key c.args.rows.now (λ k d l. c.loop-i.invariant.rising k d (omega arith))), (λ h. refl))
