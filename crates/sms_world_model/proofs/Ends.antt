-- What holds at the end of a run from the empty world.
use Rattle.std.proofs.Common.{List}
use Rattle.sms_base.specs.declared.final_state.FinalState.TheVariants.{Delivered}
use Rattle.sms_world_model.specs.World.{empty}
use Rattle.sms_world_model.specs.WorldStep.{Item, Run, end}
use Rattle.sms_world_model.specs.Premises.{Timely, Fresh}
use Rattle.sms_world_model.specs.Agreement.{DeliveredReported, RoundsOnce, JoinedSubmitted, SplitsWhole, SplitsJoined}
use Rattle.sms_world_model.proofs.Runs.{sound_run, sound_empty}
use Rattle.sms_world_model.proofs.Faithful.{faithful_run, faithful_empty, delivered_accepted}
use Rattle.sms_world_model.proofs.Places.{placed_run, placed_empty, rounds_once}
use Rattle.sms_world_model.proofs.Joins.{joins_run, joins_empty, joined_submitted}
use Rattle.sms_world_model.proofs.Wholes.{whole_run, whole_empty, splits_whole}
use Rattle.sms_world_model.proofs.Contents.{splits_joined}

pub end_reported : (items : List Item) → Run empty items → Timely empty items → DeliveredReported (end empty items)
end_reported items run timely id i =
    let x = (sound_run empty items sound_empty run).receipt id Delivered i in
    let all = delivered_accepted (end empty items) (faithful_run empty items sound_empty faithful_empty run timely) in
    (x.1.0, (x.1.1, λ n part has. all id x.1.0 n part x.1.1 has))

pub end_rounds : (items : List Item) → Run empty items → Timely empty items → RoundsOnce (end empty items).joined
end_rounds items run timely = rounds_once (end empty items) (faithful_run empty items sound_empty faithful_empty run timely) (placed_run empty items placed_empty run)

pub end_joined : (items : List Item) → Run empty items → Timely empty items → Fresh empty items → JoinedSubmitted (end empty items)
end_joined items run timely fresh =
    joined_submitted (end empty items) (sound_run empty items sound_empty run) (placed_run empty items placed_empty run)
    (joins_run empty items sound_empty faithful_empty joins_empty run timely fresh)

pub end_splits : (items : List Item) → Run empty items → Timely empty items → Fresh empty items → SplitsWhole (end empty items)
end_splits items run timely fresh =
    splits_whole (end empty items) (sound_run empty items sound_empty run) (placed_run empty items placed_empty run)
    (joins_run empty items sound_empty faithful_empty joins_empty run timely fresh)
    (whole_run empty items sound_empty whole_empty run fresh)

pub end_contents : (items : List Item) → Run empty items → Timely empty items → Fresh empty items → SplitsJoined (end empty items)
end_contents items run timely fresh =
    splits_joined (end empty items) (sound_run empty items sound_empty run) (placed_run empty items placed_empty run) (end_splits items run timely fresh)
