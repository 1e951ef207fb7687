use Rattle.std.proofs.Common.{◌∙◌, ap}
use Rattle.sms_store_memory.specs.centre.RowsInKeep.{rows_in}
use Rattle.sms_centre_spec.specs.CentreEvent.{happened}
use Rattle.sms_centre_spec.specs.Draft.{core_of, rows_after}
use Rattle.sms_centre_spec.specs.declared.rows.Changes.{Changes}
use Rattle.sms_player.proofs.centre.Plans.{given_next, on_ok, played_next}
use Rattle.sms_player.proofs.centre.events.carry_out.Goals as goal
use Rattle.sms_centre.proofs.Archived.{on_ok_holds}

pub returns-in-Ok-clause-done : goal.returns-in-Ok-clause-done
returns-in-Ok-clause-done c = λ event core played is planned.
    let made = c.in-Ok.ensures.ok ∙ ap (λ (x : Changes). rows_after x (rows_in c.args.keep.now)) c.changes.ensures in
    on_ok_holds c.put_in.result _
    (played_next (happened event core) core c.args.planned.plan (c.what_is_adopted_is_what_happened.ensures event core) planned c.args.centre.now c.put_in.new.centre (rows_in c.args.keep.now) (rows_in c.commit.new.keep) played (c.put_in.ensures.centre_state event core played.centre is planned) made)

pub returns-in-Ok-clause-consistent : goal.returns-in-Ok-clause-consistent
returns-in-Ok-clause-consistent c = λ event core played is planned.
    let made = c.in-Ok.ensures.ok ∙ ap (λ (x : Changes). rows_after x (rows_in c.args.keep.now)) c.changes.ensures in (
      core_of (happened event core),
      played_next (happened event core) core c.args.planned.plan (c.what_is_adopted_is_what_happened.ensures event core) planned c.args.centre.now c.put_in.new.centre (rows_in c.args.keep.now) (rows_in c.commit.new.keep) played (c.put_in.ensures.centre_state event core played.centre is planned) made,
    )

pub returns-in-Ok-clause-given : goal.returns-in-Ok-clause-given
returns-in-Ok-clause-given c = λ event core played planned.
    let made = c.in-Ok.ensures.ok ∙ ap (λ (x : Changes). rows_after x (rows_in c.args.keep.now)) c.changes.ensures in
    on_ok c.put_in.result _ _
    (given_next (happened event core) core c.args.planned.plan (c.what_is_adopted_is_what_happened.ensures event core) planned (rows_in c.args.keep.now) (rows_in c.commit.new.keep) played.same_rows made c.args.given.now c.put_in.new.given) c.put_in.ensures.given

pub returns-in-Err-clause-consistent : goal.returns-in-Err-clause-consistent
returns-in-Err-clause-consistent c = λ event core played is planned. (core, record { centre = played.centre; same_rows = c.in-Err.ensures.err ∙ played.same_rows; accounts = played.accounts })
