use Rattle.std.proofs.Common.{◌++◌, get_or, arith}
use Rattle.std.specs.Prelude.{None}
use Rattle.std.proofs.lemmas.List.{get_or_default}
use Rattle.sms_centre_messages.specs.message_index.Expiring.{confirmed}
use Rattle.sms_centre_messages.proofs.message_index.PastOnes.{last_confirmed, next_confirmed}
use Rattle.sms_centre_messages.proofs.message_index.index.MessageIndex.confirm_each.Goals as goal

pub loop-number-preserved : goal.loop-number-preserved
loop-number-preserved c = λ ms ps h.
    let numbers = c.args.numbers.now in
    let i = c.loop-number.number-index in
    next_confirmed c.args.now ms c.loop-number.last numbers c.loop-number.ids.items c.confirm.new.ids.items (c.args.ids.now.items ++ confirmed c.args.now ms None numbers) i (get_or numbers i 0)
    (omega (arith, c.loop-number-test.true)) (get_or_default numbers i 0 (get_or numbers i 0) (omega (arith, c.loop-number-test.true))) (c.in_ok-confirm.ensures ms ps h) (c.loop-number.invariant ms ps h)

pub returns : goal.returns
returns c = λ ms ps h.
    let numbers = c.args.numbers.now in
    last_confirmed c.args.now ms c.loop-number.last numbers c.loop-number.ids.items (c.args.ids.now.items ++ confirmed c.args.now ms None numbers) c.loop-number.number-index (omega (arith, c.loop-number-test.false)) (c.loop-number.invariant ms ps h)
