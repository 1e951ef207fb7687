use Rattle.std.proofs.Common.{◌+◌, ◌-◌, length, refl, ◌∙◌, arith}
use Rattle.sms_centre_messages.proofs.references.Adopted.{bars_stay, bars_then, leads_first, leads_last, leads_on, less_room, removal_at}
use Rattle.sms_centre_messages.proofs.references.reference_index.ReferenceIndex.apply_all.Goals as goal

pub loop-change-init : goal.loop-change-init
loop-change-init c = (
  less_room (length c.args.messages.now) c.args.parts (length c.args.messages.now - 0) c.args.parts c.args.self.now (omega arith) (omega arith) c.requires,
  (λ bs ms ps h rises moves. leads_first c.args.messages.now c.args.self.now bs ms ps h rises moves, (λ removals. refl, bars_stay c.args.self.now)),
)

pub apply-requires : goal.apply-requires
apply-requires c = less_room (length c.args.messages.now - c.loop-change.change-index) c.args.parts 1 0 c.loop-change.self (omega (arith, c.loop-change-test.true)) (omega arith) c.loop-change.invariant.0

pub loop-change-preserved : goal.loop-change-preserved
loop-change-preserved c =
    let count = length c.args.messages.now - (c.loop-change.change-index + 1) in (
      c.apply.ensures.room count c.args.parts
          (less_room (length c.args.messages.now - c.loop-change.change-index) c.args.parts (count + 1) c.args.parts c.loop-change.self (omega (arith, c.loop-change-test.true)) (omega arith) c.loop-change.invariant.0),
      (
        λ bs ms ps h rises moves. leads_on c.args.messages.now c.loop-change.change-index c.change-item.result c.loop-change.self c.apply.new.self bs ms ps (omega (arith, c.loop-change-test.true)) c.change-item.is
            (λ rows others. c.apply.ensures.holds bs rows others) (c.loop-change.invariant.1.0 bs ms ps h rises moves),
        (
          λ removals. c.apply.ensures.kept (removal_at c.args.messages.now c.loop-change.change-index c.change-item.result (omega (arith, c.loop-change-test.true)) c.change-item.is removals)
              ∙ c.loop-change.invariant.1.1.0 removals,
          bars_then c.args.self.now c.loop-change.self c.apply.new.self c.loop-change.invariant.1.1.1 c.apply.ensures.bars,
        ),
      ),
    )

pub returns-clause-holds : goal.returns-clause-holds
returns-clause-holds c = λ bs ms ps h rises moves.
    leads_last c.args.messages.now c.loop-change.change-index c.loop-change.self bs ms ps (omega (arith, c.loop-change-test.false)) (c.loop-change.invariant.1.0 bs ms ps h rises moves)

pub returns-clause-room : goal.returns-clause-room
returns-clause-room c = less_room (length c.args.messages.now - c.loop-change.change-index) c.args.parts 0 c.args.parts c.loop-change.self (omega arith) (omega arith) c.loop-change.invariant.0

pub returns-clause-kept : goal.returns-clause-kept
returns-clause-kept c = λ removals. c.loop-change.invariant.1.1.0 removals

pub returns-clause-bars : goal.returns-clause-bars
returns-clause-bars c = c.loop-change.invariant.1.1.1
