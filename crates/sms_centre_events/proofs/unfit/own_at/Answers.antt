use Rattle.std.proofs.Common.{List, ℕ, ap, sym, ◌∙◌}
use Rattle.sms_centre_rows.specs.messages.Messages.{message_at}
use Rattle.sms_centre_messages.specs.message_index.Summaries.{is_of}
use Rattle.sms_centre_spec.specs.Draft.{messages_in, parts_in}
use Rattle.sms_centre_events.proofs.Peeked.{of_account, of_other}
use Rattle.sms_centre_events.proofs.unfit.own_at.Goals as goal

pub returns-then-not-is_of : goal.returns-then-not-is_of
returns-then-not-is_of c = λ d represents.
    let o = message_at c.args.id (messages_in d.store) in
    sym (of_other c.args.account.now c.args.source.now o
    (ap (λ (name : List ℕ). is_of name o) (sym c.as_slice.ensures) ∙ (sym (c.is_of.ensures (messages_in d.store) (parts_in d.store) represents) ∙ c.if-not-is_of.true)))

pub returns-in-Some : goal.returns-in-Some
returns-in-Some c = λ d represents.
    let o = message_at c.args.id (messages_in d.store) in
    of_account c.args.account.now c.args.source.now o c.in-Some.found c.if_from.result
    (ap (λ (name : List ℕ). is_of name o) (sym c.as_slice.ensures) ∙ (sym (c.is_of.ensures (messages_in d.store) (parts_in d.store) represents) ∙ c.if-not-is_of.false))
    (c.in-Some.ensures (messages_in d.store) (parts_in d.store) represents) c.if_from.ensures
