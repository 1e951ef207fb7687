use Rattle.sms_play.specs.Premises.{newest_first, part_allocation}
use Rattle.sms_play.proofs.judging.premises.look_at_row.Goals as goal

pub returns-clause-watch : goal.returns-clause-watch
returns-clause-watch g c = λ play given down accepted represents w.
    c.in_ok-note_given.ensures given (newest_first down (part_allocation play.centre.rows.parts c.args.row.now c.args.row.now.holder)) accepted
    (c.in_ok-may.ensures.watch play given down accepted represents w)
