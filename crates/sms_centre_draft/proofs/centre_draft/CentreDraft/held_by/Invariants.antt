use Rattle.std.proofs.Common.{◌≡◌, ◌+◌, ◌≤◌, drop}
use Rattle.sms_centre_spec.specs.Draft.{Draft, messages_in}
use Rattle.sms_centre_spec.specs.Shares.{held_by}
use Rattle.sms_centre_draft.specs.CentreDraft.{Represents}
use Rattle.sms_centre_draft.proofs.centre_draft.CentreDraft.held_by.Given as goal

abbrev pub invariant-loop-queued : goal.invariant-loop-queued
invariant-loop-queued l =
    (l.held ≤ l.queued-index)
    × ((d : Draft) → Represents d l.self → l.held + held_by l.account (messages_in d.store) (drop l.queued-index l.waiting) ≡ held_by l.account (messages_in d.store) l.waiting)
