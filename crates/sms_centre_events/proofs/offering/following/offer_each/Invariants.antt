use Rattle.std.proofs.Common.{drop}
use Rattle.sms_rows.specs.keep.StoreOutcome.{IfHeld, WasHonest}
use Rattle.sms_centre_spec.specs.Draft.{Draft}
use Rattle.sms_centre_draft.specs.CentreDraft.{Represents}
use Rattle.sms_centre_events.specs.offering.Stored.{CanOffer}
use Rattle.sms_centre_events.proofs.offering.Walking.{IsLeft}
use Rattle.sms_centre_events.proofs.offering.following.offer_each.Given as goal

abbrev pub invariant-loop-stop : goal.invariant-loop-stop
invariant-loop-stop g l =
    WasHonest (g.B.RowStore.state l.initial.bodies) (g.B.RowStore.state l.bodies)
    × ((d : Draft) (rows : _) → Represents d l.initial.draft → CanOffer g.B.BodyKeep.body_of rows l.centre d.store
    → IfHeld rows (g.B.RowStore.state l.initial.bodies) (g.B.RowStore.state l.bodies)
    (IsLeft d l.stops (drop l.stop-index l.stops) ((g.B.RowStore.state l.bodies).holds rows) (g.B.RowStore.state l.initial.bodies).refusals (g.B.RowStore.state l.bodies).refusals l.draft))
