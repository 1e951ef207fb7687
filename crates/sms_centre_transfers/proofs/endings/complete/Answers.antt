use Rattle.std.proofs.Common.{OnOk, sym, ◌∙◌, subst}
use Rattle.std.proofs.lemmas.Bool.{cond-false, cond-true}
use Rattle.sms_base.specs.declared.final_state.FinalState.TheVariants.{Delivered}
use Rattle.sms_centre_rows.specs.messages.Messages.{all_done}
use Rattle.sms_centre_spec.specs.Draft.{Store, in_store, parts_in}
use Rattle.sms_centre_spec.specs.Ends.{end}
use Rattle.sms_centre_draft.specs.CentreDraft.{Represents}
use Rattle.sms_centre_transfers.proofs.endings.complete.Goals as goal

pub returns-then-all_done : goal.returns-then-all_done
returns-then-all_done c = λ d represents there pending.
    let m = c.args.message.now in
    let is = sym (c.all_done.ensures d represents) ∙ c.if-all_done.true in
    subst (λ (s : Store). OnOk c.end.result (Represents (in_store s d) c.end.new.self)) (sym (cond-true (all_done m.id (parts_in d.store)) (end Delivered m d.store) d.store is)) (c.end.ensures d represents there pending)

pub returns : goal.returns
returns c = λ d represents there pending.
    let m = c.args.message.now in
    let is = sym (c.all_done.ensures d represents) ∙ c.if-all_done.false in
    subst (λ (s : Store). Represents (in_store s d) c.args.draft.now) (sym (cond-false (all_done m.id (parts_in d.store)) (end Delivered m d.store) d.store is)) represents
