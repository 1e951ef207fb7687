use Rattle.std.proofs.Common.{drop}
use Rattle.sms_base.specs.Among.{Among}
use Rattle.sms_centre_rows.specs.declared.waiting.queued_part.QueuedPart.{QueuedPart}
use Rattle.sms_centre_spec.specs.Draft.{Draft}
use Rattle.sms_centre_draft.specs.DueNow.{IsOpenQueued}
use Rattle.sms_centre_draft.specs.CentreDraft.{Represents}
use Rattle.sms_centre_draft.proofs.DueNow.{IsLeft}
use Rattle.sms_centre_draft.proofs.centre_draft.CentreDraft.all_due.Given as goal

abbrev pub invariant-loop-queued : goal.invariant-loop-queued
invariant-loop-queued l = (d : Draft) → Represents d l.initial.self → ((x : QueuedPart) → Among x l.all_queued → IsOpenQueued x d.store) → IsLeft d l.all_queued (drop l.queued-index l.all_queued) l.self
