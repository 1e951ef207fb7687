use Rattle.std.proofs.Common.{OnOk, sym, subst}
use Rattle.sms_centre_spec.specs.declared.verdict.Verdict.{Verdict}
use Rattle.sms_centre_spec.specs.Draft.{in_store}
use Rattle.sms_centre_spec.specs.Transfers.{part_ended}
use Rattle.sms_centre_spec.proofs.Steady.{message_own}
use Rattle.sms_centre_draft.specs.CentreDraft.{Represents}
use Rattle.sms_centre_transfers.proofs.endings.part_ended.Goals as goal

pub returns-in-Refused : goal.returns-in-Refused
returns-in-Refused c = λ d p represents there is of pending undone.
    subst (λ (v : Verdict). OnOk c.end.result (Represents (in_store (part_ended v p c.args.message.now d.store) d) c.end.new.self)) (sym c.in-Refused.is)
    (c.end.ensures d represents (message_own p.id c.args.message.now d.store of) pending)
