use Rattle.std.proofs.Common.{◌≡◌, sym, ◌∙◌, arith}
use Rattle.std.proofs.lemmas.Bool.{lt-ltb, ltb-true}
use Rattle.sms_schedule.proofs.waiting.Parted.{below_last, last_below}
use Rattle.sms_schedule.proofs.waiting.ordered_rows.is_below.Goals as goal

pub returns-in-Some : goal.returns-in-Some
returns-in-Some g c =
    let key = g.T.Row.key in
    let row = c.in-Some.row.now in
    let here : c.number.result ≡ key row = c.number.ensures ∙ c.key.ensures in
    let end : c.number-in-Some.result ≡ c.args.key = c.number-in-Some.ensures in (
      (λ yes. last_below key c.args.key c.args.rows.now row c.requires (sym c.in-Some.ensures.value) (omega (arith, here, end, ltb-true c.number.result c.number-in-Some.result yes))),
      (λ below. lt-ltb c.number.result c.number-in-Some.result (omega (arith, here, end, below_last key c.args.key c.args.rows.now row (sym c.in-Some.ensures.value) below))),
    )
