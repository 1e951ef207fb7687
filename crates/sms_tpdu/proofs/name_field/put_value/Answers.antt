use Rattle.std.proofs.Common.{◌++◌, ◌%◌, refl}
use Rattle.sms_alphabet.specs.Packing.{digits_in}
use Rattle.sms_tpdu.proofs.NameValues.{puts_octet}
use Rattle.sms_tpdu.proofs.name_field.put_value.Goals as goal

pub loop-preserved : goal.loop-preserved
loop-preserved c = puts_octet c.loop.out c.push.new.self (c.args.out.now ++ digits_in 256 c.args.count c.args.value) c.args.count c.loop.counter c.loop.rest (c.loop.rest % 256) c.loop-test.true refl c.in_ok-push.ensures.ok c.loop.invariant
