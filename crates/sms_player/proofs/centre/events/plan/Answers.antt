use Rattle.std.proofs.Common.{◌≡◌}
use Rattle.sms_centre.specs.Stored.{StoresRows}
use Rattle.sms_store_memory.specs.centre.RowsInKeep.{rows_in}
use Rattle.sms_centre_spec.specs.octets.OctetsAt.{octets_at}
use Rattle.sms_centre_spec.specs.CentreEvent.{happened}
use Rattle.sms_centre_spec.specs.SoundRows.{IsSound}
use Rattle.sms_player.proofs.centre.Plans.{preserved_after}
use Rattle.sms_player.proofs.centre.events.plan.Goals as goal

pub returns-in-Ok-clause-plan : goal.returns-in-Ok-clause-plan
returns-in-Ok-clause-plan c = λ core played.
    let sound : IsSound core.rows = (c.a_state_meets_what_events_require.ensures.sound core c.args.centre.now played.centre).rows in
    let stores : StoresRows (octets_at core.rows) core.rows = record { parts = c.sound_rows_have_their_octets.ensures.parts core.rows sound; reports = c.sound_rows_have_their_octets.ensures.reports core.rows sound } in
    (c.in-Ok.ensures.outcome core core.rows played.centre stores tt played.same_rows).0

pub returns-in-Ok-clause-same : goal.returns-in-Ok-clause-same
returns-in-Ok-clause-same c = λ core played.
    let sound : IsSound core.rows = (c.a_state_meets_what_events_require.ensures.sound core c.args.centre.now played.centre).rows in
    let stores : StoresRows (octets_at core.rows) core.rows = record { parts = c.sound_rows_have_their_octets.ensures.parts core.rows sound; reports = c.sound_rows_have_their_octets.ensures.reports core.rows sound } in
    (c.in-Ok.ensures.outcome core core.rows played.centre stores tt played.same_rows).1.0

pub returns-in-Err-clause-same : goal.returns-in-Err-clause-same
returns-in-Err-clause-same c = λ core played.
    let sound : IsSound core.rows = (c.a_state_meets_what_events_require.ensures.sound core c.args.centre.now played.centre).rows in
    let stores : StoresRows (octets_at core.rows) core.rows = record { parts = c.sound_rows_have_their_octets.ensures.parts core.rows sound; reports = c.sound_rows_have_their_octets.ensures.reports core.rows sound } in
    preserved_after (happened c.args.event.now core) (happened c.args.event.now core).links.read (rows_in c.plan.new.bodies ≡ core.rows) _ _ c.in-Err.field-0 (c.in-Err.ensures.outcome core core.rows played.centre stores tt played.same_rows)
