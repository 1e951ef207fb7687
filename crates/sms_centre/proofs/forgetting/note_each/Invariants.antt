use Rattle.std.proofs.Common.{◌≡◌, []}
use Rattle.sms_centre_rows.specs.messages.Messages.{message_key}
use Rattle.sms_rows.specs.table.Table.{rows_from}
use Rattle.sms_centre_spec.specs.Draft.{Core, draft_of}
use Rattle.sms_centre_spec.specs.forgetting.Forget.{may_go_now}
use Rattle.sms_centre_spec.specs.forgetting.Forgetting.{going}
use Rattle.sms_centre_draft.specs.CentreDraft.{Represents as DraftRepresents}
use Rattle.sms_centre.specs.state.CentreState.{Represents as StateRepresents}
use Rattle.sms_centre.proofs.forgetting.note_each.Given as goal

abbrev pub invariant-loop-behind : goal.invariant-loop-behind
invariant-loop-behind l =
    (c : Core) → DraftRepresents (draft_of c) l.draft → StateRepresents c l.state → l.initial.ids.items ≡ []
    → l.ids.items ≡ going (may_go_now l.before c) l.behind (rows_from message_key l.from c.rows.messages)
