use Rattle.std.proofs.Common.{sym, ◌∙◌}
use Rattle.sms_centre.proofs.Barred.{kept_on, on_ok_turned, put_on}
use Rattle.sms_centre.proofs.barring.keep.Goals as goal

pub returns-then-is_kept : goal.returns-then-is_kept
returns-then-is_kept c = λ core claims left stands put.
    kept_on core.rows.bars claims left c.args.claim.now c.args.bars.now (sym (c.is_kept.ensures core stands) ∙ c.if-is_kept.true) put

pub returns : goal.returns
returns c = λ core claims left stands put.
    on_ok_turned c.put.result (put_on core.rows.bars claims left c.args.claim.now c.args.bars.now c.put.new.self (sym (c.is_kept.ensures core stands) ∙ c.if-is_kept.false) put) c.put.ensures
