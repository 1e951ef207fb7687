use Rattle.std.proofs.Common.{◌∙◌, ap, arith, subst, sym, List, take}
use Rattle.sms_play.specs.Premises.{pairs_of}
use Rattle.sms_script.specs.declared.report.rows.AcceptedRow.{AcceptedRow}
use Rattle.sms_world_model.specs.World.{Accepted}
use Rattle.sms_play.specs.judging.Watching.{Watches}
use Rattle.sms_play.proofs.judging.Accepting.{rows_over}
use Rattle.sms_play.proofs.judging.Looking.{all_taken, taken_on}
use Rattle.sms_play.proofs.judging.premises.look_at_accepted.Goals as goal

pub loop-row-preserved : goal.loop-row-preserved
loop-row-preserved c = λ given down accepted w.
    let rows : List AcceptedRow = c.args.rows.now in
    let i = c.loop-row.row-index in
    let next = ap (λ (z : List AcceptedRow). pairs_of accepted z) (taken_on rows i c.row-item.result c.loop-row-test.true c.row-item.is) ∙ rows_over accepted (take i rows) _ in
    subst (λ (z : List Accepted). Watches given down z c.note_accepted.new.self) (sym next)
    (c.in_ok-note_accepted.ensures given down (pairs_of accepted (take i rows)) (c.loop-row.invariant given down accepted w))

pub returns : goal.returns
returns c = λ given down accepted w.
    subst (λ (z : List AcceptedRow). Watches given down (pairs_of accepted z) c.loop-row.watch) (all_taken c.args.rows.now c.loop-row.row-index (omega (arith, c.loop-row-test.false)))
    (c.loop-row.invariant given down accepted w)
