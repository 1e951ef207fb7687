use Rattle.std.proofs.Common.{subst}
use Rattle.sms_world_model.specs.World.{World, empty}
use Rattle.sms_world_model.specs.WorldStep.{end}
use Rattle.sms_world_model.specs.Agreement.{MessagesStay, FinalForGood, ReceiptsAgree, HeldDiffer, HoldersOnce, GivenOnce, FramesDiffer, JoinedEnded}
use Rattle.sms_world_model.proofs.Runs.{sound_run, sound_empty, held_differ, final_stays, messages_stay}
use Rattle.sms_world_model.proofs.Frames.{numbered_run, frames_differ}
use Rattle.sms_world_model.proofs.Places.{placed_run, placed_empty, joined_ended}
use Rattle.sms_world_model.proofs.Scripts.{script_steps}
use Rattle.sms_world_model.proofs.script_is_sound.Goals as goal

pub returns-clause-stays : goal.returns-clause-stays
returns-clause-stays c before later w v first plays =
    let x = script_steps w v later plays in
    subst (λ (y : World). MessagesStay w y) x.1.1 (messages_stay w x.0 x.1.0)

pub returns-clause-for_good : goal.returns-clause-for_good
returns-clause-for_good c before later w v first plays =
    let x = script_steps w v later plays in
    subst (λ (y : World). FinalForGood w y) x.1.1 (final_stays w x.0 x.1.0)

pub returns-clause-receipts : goal.returns-clause-receipts
returns-clause-receipts c events w plays =
    let x = script_steps empty w events plays in
    subst (λ (v : World). ReceiptsAgree v) x.1.1 ((sound_run empty x.0 sound_empty x.1.0).receipt)

pub returns-clause-held : goal.returns-clause-held
returns-clause-held c events w plays =
    let x = script_steps empty w events plays in
    subst (λ (v : World). HeldDiffer v) x.1.1 (held_differ (end empty x.0) (sound_run empty x.0 sound_empty x.1.0))

pub returns-clause-holders : goal.returns-clause-holders
returns-clause-holders c events w plays =
    let x = script_steps empty w events plays in
    subst (λ (v : World). HoldersOnce v) x.1.1 ((sound_run empty x.0 sound_empty x.1.0).single)

pub returns-clause-given : goal.returns-clause-given
returns-clause-given c events w plays =
    let x = script_steps empty w events plays in
    subst (λ (v : World). GivenOnce v.down) x.1.1 ((sound_run empty x.0 sound_empty x.1.0).given)

pub returns-clause-frames : goal.returns-clause-frames
returns-clause-frames c events w plays =
    let x = script_steps empty w events plays in
    subst (λ (v : World). FramesDiffer v) x.1.1 (frames_differ (end empty x.0) (numbered_run empty x.0 tt))

pub returns-clause-joined : goal.returns-clause-joined
returns-clause-joined c events w plays =
    let x = script_steps empty w events plays in
    subst (λ (v : World). JoinedEnded v) x.1.1 (joined_ended (end empty x.0) (placed_run empty x.0 placed_empty x.1.0))
