-- What a handset in the middle of an event says of the world.
use Rattle.std.specs.Prelude.{◌≡◌, ℕ, List}
use Rattle.sms_handset_draft.specs.Draft.{Draft}
use Rattle.sms_world_model.specs.World.{World}
use Rattle.sms_world.specs.frames_pass_between_sides.FramesUp.{AreWhole, stacked}
use Rattle.sms_world.specs.handset_runs_are_steps.RefinesLink.{RefinesLinks}
use Rattle.sms_world.specs.handset_runs_are_steps.RefinesOutbox.{RefinesNotices, RefinesOut}
use Rattle.sms_world.specs.handset_runs_are_steps.RefinesInbox.{RefinesGroups, RefinesLast}
use Rattle.sms_world.specs.headline.SeenWorld.{accepted_at, joined_at}
use Rattle.sms_world.specs.handset_runs_are_steps.PutInOrder.{joined_by, taken_by}

-- A handset in the middle of an event that began with the world `before` shows the world `w`. Its frames are sent on top of those of
-- `before`. What its changes put is accepted and joined on top of what was. Its rows are looked up in `w` and back.
pub record Refines (handset : List ℕ) (before : World) (d : Draft) (w : World) : Type 0 where
  pub frames : w.bag ≡ stacked handset d.frames before.bag
  pub accepted : accepted_at handset w.accepted ≡ taken_by handset d.changes.last (accepted_at handset before.accepted)
  pub joined : joined_at handset w.joined ≡ joined_by d.changes.entries (joined_at handset before.joined)
  pub whole : AreWhole d.frames
  pub links : RefinesLinks handset w.bag d.links d.under_way d.answered
  pub last : RefinesLast handset d.rows.last w.accepted
  pub out : RefinesOut handset d.rows.counters.entry d.rows.outbox w.outbox w.up
  pub notices : RefinesNotices handset d.rows.counters.notice d.notices w.up
  pub groups : RefinesGroups handset d.rows.entries d.rows.marks w.accepted w.joined
