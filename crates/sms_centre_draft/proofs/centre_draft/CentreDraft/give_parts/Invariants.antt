use Rattle.std.proofs.Common.{◌≡◌, ◌+◌, Some, drop}
use Rattle.sms_centre_spec.specs.Draft.{Draft, Store}
use Rattle.sms_centre_spec.specs.Submitting.{give_parts}
use Rattle.sms_centre_draft.specs.Submitting.{CanGive}
use Rattle.sms_centre_draft.specs.CentreDraft.{Represents}
use Rattle.sms_centre_draft.proofs.Entering.{PartsToGive}
use Rattle.sms_centre_draft.proofs.centre_draft.CentreDraft.give_parts.Given as goal

abbrev pub invariant-loop-body : goal.invariant-loop-body
invariant-loop-body l = record {
  count : l.number ≡ l.body-index;
  coming : (d : Draft) (s : Store) → Represents d l.initial.self → CanGive l.id l.submission 1 d.store → give_parts l.id l.submission 1 l.bodies d.store ≡ Some s
      → PartsToGive d l.id l.submission s (l.number + 1) (drop l.body-index l.bodies) l.self;
}
