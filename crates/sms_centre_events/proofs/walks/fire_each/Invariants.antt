use Rattle.std.proofs.Common.{drop}
use Rattle.sms_centre_spec.specs.Draft.{Draft}
use Rattle.sms_centre_draft.specs.walks.Stepping.{fire_on}
use Rattle.sms_centre_draft.specs.CentreDraft.{Represents}
use Rattle.sms_centre_events.proofs.Walked.{IsLeft}
use Rattle.sms_centre_events.proofs.walks.fire_each.Given as goal

abbrev pub invariant-loop-stop : goal.invariant-loop-stop
invariant-loop-stop l = (d : Draft) → Represents d l.initial.draft → IsLeft fire_on d l.stops (drop l.stop-index l.stops) l.draft
