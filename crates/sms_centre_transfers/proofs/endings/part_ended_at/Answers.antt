use Rattle.std.proofs.Common.{OnOk, sym, subst}
use Rattle.sms_centre_spec.specs.declared.verdict.Verdict.{Verdict}
use Rattle.sms_centre_spec.specs.Draft.{Draft, in_store, on_links}
use Rattle.sms_centre_spec.specs.Transfers.{link_ended, part_ended}
use Rattle.sms_centre_draft.specs.CentreDraft.{Represents}
use Rattle.sms_centre_draft.proofs.FoundOpen.{part_ends}
use Rattle.sms_centre_transfers.proofs.endings.part_ended_at.Goals as goal

pub returns : goal.returns
returns c = λ d p represents waits.
    let m = c.args.message.now in
    let v = c.verdict_of-verdict.result in
    let next = c.in_ok-part_ended.ensures d p represents waits.own waits.entry_is waits.message waits.pending waits.undone in
    let done = c.link_ended.ensures (in_store (part_ended v p m d.store) d) next in
    subst (λ (e : Draft). OnOk c.link_ended.result (Represents e c.link_ended.new.draft)) (sym (part_ends d c.args.handset c.args.id c.args.number c.args.ending.now c.args.entry.now m p waits))
    (subst (λ (x : Verdict). OnOk c.link_ended.result (Represents (on_links (link_ended x c.args.handset d.links) (in_store (part_ended x p m d.store) d)) c.link_ended.new.draft)) c.verdict_of-verdict.ensures done)
