use Rattle.std.proofs.Common.{◌≡◌, ℕ, List, OnOk, sym, ◌∙◌, ap, subst}
use Rattle.sms_centre_messages.specs.message_index.MessageIndex.{past_ids}
use Rattle.sms_centre_draft.specs.walks.Expiring.{expire_numbers}
use Rattle.sms_centre_spec.specs.Draft.{Store, in_store, messages_in, parts_in}
use Rattle.sms_centre_draft.specs.CentreDraft.{Represents}
use Rattle.sms_centre_events.proofs.Numbered.{past_covers, past_order}
use Rattle.sms_centre_events.proofs.aging.expire.Goals as goal

pub returns : goal.returns
returns c = λ d represents holds.
    let ids = past_ids d.store.moment (messages_in d.store) in
    let are : c.in_ok-ids.ids.items ≡ past_ids d.store.moment (messages_in d.store) =
    c.in_ok-ids.ensures (messages_in d.store) (parts_in d.store) holds ∙ ap (λ (n : ℕ). past_ids n (messages_in d.store)) (c.now-now.ensures d represents) in
    let law = c.messages_expire_by_numbers.ensures d.store ids represents.consistent.message_keys (past_order d.store.moment (messages_in d.store) represents.consistent.message_keys) (past_covers d.store) in
    subst (λ (s : Store). OnOk c.expire_each.result (Represents (in_store s d) c.expire_each.new.draft))
    (sym (law ∙ ap (λ (ns : List ℕ). expire_numbers ns d.store) (sym (c.as_slice.ensures.value ∙ are)))) (c.expire_each.ensures d represents)
