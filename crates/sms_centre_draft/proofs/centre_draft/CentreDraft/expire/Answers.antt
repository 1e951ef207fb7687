use Rattle.std.proofs.Common.{ℕ, OnOk, sym, ◌∙◌, ap, subst}
use Rattle.std.specs.Prelude.{◌&&◌, nat_le}
use Rattle.std.proofs.lemmas.Bool.{and_parts, cond-false, cond-true}
use Rattle.sms_base.specs.declared.final_state.FinalState.TheVariants.{Expired}
use Rattle.sms_centre_rows.specs.messages.Messages.{is_pending}
use Rattle.sms_centre_spec.specs.Draft.{Store, in_store}
use Rattle.sms_centre_spec.specs.Ends.{end}
use Rattle.sms_centre_draft.specs.CentreDraft.{Represents}
use Rattle.sms_centre_draft.proofs.centre_draft.CentreDraft.expire.Goals as goal

pub returns-then-is_past : goal.returns-then-is_past
returns-then-is_past c = λ d represents there.
    let m = c.args.message.now in
    let is = ap (λ (n : ℕ). is_pending m && nat_le m.limit n) (sym (c.now-now.ensures d represents)) ∙ sym c.is_past.ensures ∙ c.if-is_past.true in
    subst (λ (s : Store). OnOk c.end.result (Represents (in_store s d) c.end.new.self)) (sym (cond-true (is_pending m && nat_le m.limit d.store.moment) (end Expired m d.store) d.store is))
    (c.end.ensures d represents there (and_parts (is_pending m) (nat_le m.limit d.store.moment) is).0)

pub returns : goal.returns
returns c = λ d represents there.
    let m = c.args.message.now in
    let is = ap (λ (n : ℕ). is_pending m && nat_le m.limit n) (sym (c.now-now.ensures d represents)) ∙ sym c.is_past.ensures ∙ c.if-is_past.false in
    subst (λ (s : Store). Represents (in_store s d) c.args.self.now) (sym (cond-false (is_pending m && nat_le m.limit d.store.moment) (end Expired m d.store) d.store is)) represents
