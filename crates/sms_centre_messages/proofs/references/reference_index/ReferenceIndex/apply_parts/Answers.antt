use Rattle.std.proofs.Common.{◌+◌, ◌-◌, length, refl, ◌∙◌, arith}
use Rattle.sms_centre_messages.proofs.references.Adopted.{bars_stay, bars_then, less_room, part_removal_at, parts_first, parts_last, parts_on}
use Rattle.sms_centre_messages.proofs.references.reference_index.ReferenceIndex.apply_parts.Goals as goal

pub loop-revision-init : goal.loop-revision-init
loop-revision-init c = (
  less_room 0 (length c.args.parts.now) 0 (length c.args.parts.now - 0) c.args.self.now (omega arith) (omega arith) c.requires,
  (λ bs base ms ps is h rises moves. parts_first c.args.messages.now c.args.parts.now c.args.self.now bs ms ps h rises moves, (λ removals. refl, bars_stay c.args.self.now)),
)

pub apply_part-requires : goal.apply_part-requires
apply_part-requires c = less_room 0 (length c.args.parts.now - c.loop-revision.revision-index) 0 1 c.loop-revision.self (omega arith) (omega (arith, c.loop-revision-test.true)) c.loop-revision.invariant.0

pub loop-revision-preserved : goal.loop-revision-preserved
loop-revision-preserved c =
    let count = length c.args.parts.now - (c.loop-revision.revision-index + 1) in (
      c.apply_part.ensures.room count
          (less_room 0 (length c.args.parts.now - c.loop-revision.revision-index) 0 (count + 1) c.loop-revision.self (omega arith) (omega (arith, c.loop-revision-test.true)) c.loop-revision.invariant.0),
      (
        λ bs base ms ps is h rises moves. parts_on c.args.messages.now c.args.parts.now c.loop-revision.revision-index c.revision-item.result c.loop-revision.self c.apply_part.new.self bs ms ps (omega (arith, c.loop-revision-test.true)) c.revision-item.is
            (λ others k r m. c.apply_part.ensures.holds bs base ms others is k r m) (c.loop-revision.invariant.1.0 bs base ms ps is h rises moves),
        (
          λ removals. c.apply_part.ensures.kept (part_removal_at c.args.parts.now c.loop-revision.revision-index c.revision-item.result (omega (arith, c.loop-revision-test.true)) c.revision-item.is removals)
              ∙ c.loop-revision.invariant.1.1.0 removals,
          bars_then c.args.self.now c.loop-revision.self c.apply_part.new.self c.loop-revision.invariant.1.1.1 c.apply_part.ensures.bars,
        ),
      ),
    )

pub returns-clause-moved : goal.returns-clause-moved
returns-clause-moved c = λ bs base ms ps is h rises moves.
    parts_last c.args.messages.now c.args.parts.now c.loop-revision.revision-index c.loop-revision.self bs ms ps (omega (arith, c.loop-revision-test.false)) (c.loop-revision.invariant.1.0 bs base ms ps is h rises moves)

pub returns-clause-kept : goal.returns-clause-kept
returns-clause-kept c = λ removals. c.loop-revision.invariant.1.1.0 removals

pub returns-clause-bars : goal.returns-clause-bars
returns-clause-bars c = c.loop-revision.invariant.1.1.1
