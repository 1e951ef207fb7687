use Rattle.std.proofs.Common.{◌++◌, arith, take}
use Rattle.sms_play.specs.Premises.{newest_first, part_allocations}
use Rattle.sms_play.proofs.judging.Looking.{look_end, look_on, watch_end, watch_on}
use Rattle.sms_play.proofs.judging.premises.look_at_given.Goals as goal

pub loop-row-preserved : goal.loop-row-preserved
loop-row-preserved g c = λ play given down accepted represents w.
    let parts = play.centre.rows.parts in
    let rows = c.args.rows.now in
    let i = c.loop-row.row-index in
    let so_far = c.loop-row.invariant play given down accepted represents w in
    let done = newest_first down (part_allocations parts (take i rows)) in (
      look_on parts given down accepted rows i c.row-item.result c.loop-row-test.true c.row-item.is c.loop-row.fresh c.in_ok-may.may c.both-fresh.result c.both-fresh.ensures
          (c.in_ok-may.ensures.begins play (given ++ take i rows) done accepted represents so_far.1) so_far.0,
      watch_on parts given down accepted rows i c.row-item.result c.loop-row-test.true c.row-item.is c.look_at_row.new.watch (c.in_ok-may.ensures.watch play (given ++ take i rows) done accepted represents so_far.1),
    )

pub returns-clause-begins : goal.returns-clause-begins
returns-clause-begins g c = λ play given down accepted represents w.
    look_end play.centre.rows.parts given down accepted c.args.rows.now c.loop-row.row-index (omega (arith, c.loop-row-test.false)) c.loop-row.fresh (c.loop-row.invariant play given down accepted represents w).0

pub returns-clause-watch : goal.returns-clause-watch
returns-clause-watch g c = λ play given down accepted represents w.
    watch_end play.centre.rows.parts given down accepted c.args.rows.now c.loop-row.row-index (omega (arith, c.loop-row-test.false)) c.loop-row.watch (c.loop-row.invariant play given down accepted represents w).1
