use Rattle.std.proofs.Common.{◌≡◌, sym, ◌∙◌, ap, subst}
use Rattle.sms_centre_rows.specs.declared.messages.parts.PartEntry.{PartEntry}
use Rattle.sms_centre_rows.specs.declared.waiting.progress.Progress.{Progress}
use Rattle.sms_centre_rows.specs.waiting.Trying.{finished}
use Rattle.sms_centre_spec.specs.Draft.{in_store, with_part_at}
use Rattle.sms_centre_spec.proofs.Steady.{message_own}
use Rattle.sms_centre_draft.specs.CentreDraft.{Represents}
use Rattle.sms_centre_transfers.proofs.endings.part_settled.Goals as goal

pub returns : goal.returns
returns c = λ d p represents there is of pending.
    let m = c.args.message.now in
    let same : c.finished.result ≡ finished p.progress = c.finished.ensures ∙ ap (λ (e : PartEntry). finished e.progress) (sym is) in
    let next = subst (λ (q : Progress). Represents (in_store (with_part_at p q d.store) d) c.part_done.new.self) same (c.in_ok-part_done.ensures d p represents there is of (ap (λ (q : Progress). q.is_done) same)) in
    c.complete.ensures (in_store (with_part_at p (finished p.progress) d.store) d) next (message_own p.id m d.store of) pending
