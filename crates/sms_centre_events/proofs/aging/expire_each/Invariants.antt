use Rattle.std.proofs.Common.{drop}
use Rattle.sms_centre_spec.specs.Draft.{Draft}
use Rattle.sms_centre_draft.specs.CentreDraft.{Represents}
use Rattle.sms_centre_events.proofs.Numbered.{IsLeft}
use Rattle.sms_centre_events.proofs.aging.expire_each.Given as goal

abbrev pub invariant-loop-id : goal.invariant-loop-id
invariant-loop-id l = (d : Draft) → Represents d l.initial.draft → IsLeft d l.ids (drop l.id-index l.ids) l.draft
