use Rattle.std.proofs.Common.{subst}
use Rattle.sms_world_model.specs.World.{World, empty}
use Rattle.sms_world_model.specs.WorldStep.{end}
use Rattle.sms_world_model.specs.Agreement.{DeliveredAccepted, DeliveredReported, NoPartTwice, SentSubmitted, RoundsOnce}
use Rattle.sms_world_model.proofs.Runs.{sound_run, sound_empty}
use Rattle.sms_world_model.proofs.Faithful.{faithful_run, faithful_empty, delivered_accepted, no_part_twice}
use Rattle.sms_world_model.proofs.Upward.{up_run, up_empty}
use Rattle.sms_world_model.proofs.Ends.{end_reported, end_rounds}
use Rattle.sms_world_model.proofs.Scripts.{script_timely}
use Rattle.sms_world_model.proofs.script_delivers.Goals as goal

pub returns-clause-delivered : goal.returns-clause-delivered
returns-clause-delivered c events w plays =
    let x = script_timely empty w events plays in
    subst (λ (v : World). DeliveredAccepted v) x.1.1 (delivered_accepted (end empty x.0) (faithful_run empty x.0 sound_empty faithful_empty x.1.0 x.1.2))

pub returns-clause-once : goal.returns-clause-once
returns-clause-once c events w plays =
    let x = script_timely empty w events plays in
    subst (λ (v : World). NoPartTwice v) x.1.1
    (no_part_twice (end empty x.0) (sound_run empty x.0 sound_empty x.1.0) (faithful_run empty x.0 sound_empty faithful_empty x.1.0 x.1.2))

pub returns-clause-sent : goal.returns-clause-sent
returns-clause-sent c events w plays =
    let x = script_timely empty w events plays in
    subst (λ (v : World). SentSubmitted v) x.1.1 ((up_run empty x.0 up_empty x.1.0 x.1.2).done)

pub returns-clause-rounds_once : goal.returns-clause-rounds_once
returns-clause-rounds_once c events w plays =
    let x = script_timely empty w events plays in
    subst (λ (v : World). RoundsOnce v.joined) x.1.1 (end_rounds x.0 x.1.0 x.1.2)

pub returns-clause-reported : goal.returns-clause-reported
returns-clause-reported c events w plays =
    let x = script_timely empty w events plays in
    subst (λ (v : World). DeliveredReported v) x.1.1 (end_reported x.0 x.1.0 x.1.2)
