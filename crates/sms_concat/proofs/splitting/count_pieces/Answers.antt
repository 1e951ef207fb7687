use Rattle.std.proofs.Common.{sym, ◌∙◌}
use Rattle.sms_concat.proofs.Numbering.{counting_over, some_left}
use Rattle.sms_concat.proofs.splitting.count_pieces.Goals as goal

pub returns-then-count-eq-MOST_PARTS : goal.returns-then-count-eq-MOST_PARTS
returns-then-count-eq-MOST_PARTS c =
    counting_over c.args.coding c.args.units.now c.loop-rest.rest.now c.loop-rest.count (some_left c.loop-rest.rest.now (sym c.loop-rest-test.true ∙ c.is_empty.ensures)) c.if-count-eq-MOST_PARTS.true c.loop-rest.invariant
