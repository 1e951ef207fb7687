use Rattle.std.proofs.Common.{OnOk, sym, subst}
use Rattle.sms_centre_spec.specs.declared.verdict.Verdict.{Verdict}
use Rattle.sms_centre_spec.specs.Draft.{Draft, in_store, on_links}
use Rattle.sms_centre_spec.specs.Transfers.{link_ended, report_ended}
use Rattle.sms_centre_draft.specs.CentreDraft.{Represents}
use Rattle.sms_centre_draft.proofs.FoundOpen.{status_ends}
use Rattle.sms_centre_transfers.proofs.endings.status_ended_at.Goals as goal

pub returns : goal.returns
returns c = λ d r represents tells.
    let m = c.args.message.now in
    let v = c.verdict_of-verdict.result in
    let next = c.in_ok-status_ended.ensures d r represents tells.own tells.entry_is tells.waits tells.message in
    let done = c.link_ended.ensures (in_store (report_ended v r d.store) d) next in
    subst (λ (e : Draft). OnOk c.link_ended.result (Represents e c.link_ended.new.draft)) (sym (status_ends d c.args.handset c.args.id c.args.ending.now c.args.entry.now m r tells))
    (subst (λ (x : Verdict). OnOk c.link_ended.result (Represents (on_links (link_ended x c.args.handset d.links) (in_store (report_ended x r d.store) d)) c.link_ended.new.draft)) c.verdict_of-verdict.ensures done)
