use Rattle.std.proofs.Common.{refl, arith}
use Rattle.sms_concat.proofs.Dividing.{filling_more, filling_over, filling_end}
use Rattle.sms_concat.proofs.splitting.first_piece.Goals as goal

pub returns-then-room-next-clause-first : goal.returns-then-room-next-clause-first
returns-then-room-next-clause-first c =
    filling_over c.args.coding c.args.units.now c.split_at.result.1.now c.loop-end.end c.first_unit.result _ c.split_at.ensures.back c.first_unit.ensures.first c.first_unit.ensures.within.1 refl (omega arith) c.loop-end.invariant

pub loop-end-preserved : goal.loop-end-preserved
loop-end-preserved c =
    filling_more c.args.coding c.args.units.now c.split_at.result.1.now c.loop-end.end c.first_unit.result _ c.split_at.ensures.back c.first_unit.ensures.first c.first_unit.ensures.within.1 refl (omega arith) c.loop-end.invariant

pub returns-clause-first : goal.returns-clause-first
returns-clause-first c = filling_end c.args.coding c.args.units.now c.loop-end.end c.loop-end-test.false c.loop-end.invariant
