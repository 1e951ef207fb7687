use Rattle.std.proofs.Common.{◌-◌}
use Rattle.sms_centre_spec.specs.Draft.{Draft}
use Rattle.sms_centre_draft.specs.CentreDraft.{Represents}
use Rattle.sms_centre_events.proofs.Dropped.{IsLeft}
use Rattle.sms_centre_events.proofs.aging.drop_old.Given as goal

abbrev pub invariant-dropping : goal.invariant-dropping
invariant-dropping l = (d : Draft) → Represents d l.initial.draft → IsLeft d l.first l.draft

abbrev pub decreases-dropping : goal.decreases-dropping
decreases-dropping l = 0x1_0000_0000_0000_0000 - l.first
