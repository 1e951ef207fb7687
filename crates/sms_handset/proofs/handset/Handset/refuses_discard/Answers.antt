use Rattle.std.proofs.Common.{◌≡◌, ◌<◌, sym, ◌∙◌, ap, subst, true, not, is_some, List, Option, length, Bool}
use Rattle.sms_handset_rows.specs.declared.inbox.discarded_group.DiscardedGroup.{DiscardedGroup}
use Rattle.sms_handset_rows.specs.declared.inbox.open_group.OpenGroup.{OpenGroup}
use Rattle.sms_handset_draft.specs.Draft.{HandsetOf, draft_of}
use Rattle.sms_handset_rows.specs.inbox.OpenGroups.{open_at}
use Rattle.sms_handset_rows.specs.inbox.OpenIndex.{under}
use Rattle.sms_handset.proofs.Judging.{copied_some, discards_some}
use Rattle.sms_handset.proofs.handset.Handset.refuses_discard.Goals as goal

pub returns : goal.returns
returns c =
    let there : is_some c.at.result ≡ true = c.is_none.ensures ∙ ap (λ (b : Bool). not b) c.if-is_none.false in
    discards_some c.args.number (under c.self.inside.stored.groups c.args.number) (draft_of c.args.self.now.core)
    (sym (c.self.invariant.0.index c.args.number ∙ ap (λ (s : HandsetOf). open_at c.args.number s.core.rows.entries) c.self.view_is))
    (ap (λ (o : Option OpenGroup). is_some o) (sym c.at.ensures) ∙ copied_some c.at.result ∙ there)
    (subst (λ (ms : List DiscardedGroup). length ms < 64) (c.as_slice.ensures.rows ∙ ap (λ (s : HandsetOf). s.core.rows.marks) c.self.view_is) c.if-as_slice-ge64.false)
