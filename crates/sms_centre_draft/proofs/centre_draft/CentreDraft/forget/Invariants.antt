use Rattle.std.proofs.Common.{◌≡◌, ℕ}
use Rattle.sms_centre_spec.specs.Draft.{Core, draft_of, store_of}
use Rattle.sms_centre_spec.specs.SoundCore.{IsSoundCore}
use Rattle.sms_centre_spec.specs.forgetting.Forget.{going_now}
use Rattle.sms_centre_reports.specs.report_log.ReportLog.{Represents as LogRepresents}
use Rattle.sms_centre_draft.specs.CentreDraft.{Represents}
use Rattle.sms_centre_draft.proofs.MessagesGo.{Went}
use Rattle.sms_centre_draft.proofs.centre_draft.CentreDraft.forget.Given as goal

abbrev pub invariant-loop-id : goal.invariant-loop-id
invariant-loop-id l =
    (before from most : ℕ) (c : Core) → IsSoundCore c → Represents (draft_of c) l.initial.self → l.ids ≡ going_now before from most c → LogRepresents l.log c.rows.reports
    → Went (store_of c.rows c.moment) c.rows.messages (going_now before from most c) l.id-index l.initial.self l.self
