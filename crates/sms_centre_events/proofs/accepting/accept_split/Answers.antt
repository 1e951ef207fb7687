use Rattle.std.proofs.Common.{Option, sym, ◌∙◌, subst}
use Rattle.std.specs.Prelude.{IfOk, false}
use Rattle.sms_centre_rows.specs.messages.SplitReferences.{next_split}
use Rattle.sms_centre_spec.specs.Draft.{Store, bars_in, messages_in, parts_in}
use Rattle.sms_centre_spec.specs.Shares.{unless_too_much}
use Rattle.sms_centre_draft.specs.Submitting.{Accepts}
use Rattle.sms_centre_events.proofs.Accepted.{none_split, some_split}
use Rattle.sms_centre_events.proofs.accepting.accept_split.Goals as goal

pub returns-in-Some : goal.returns-in-Some
returns-in-Some c = λ d represents holds fresh.
    let u = c.args.submission.now in
    let o = next_split u.source u.handset (bars_in d.store) (messages_in d.store) (parts_in d.store) in
    subst (λ (x : Option Store). IfOk c.accept_content.result (Accepts (unless_too_much c.args.submission.now x) d c.accept_content.new.draft))
    (sym (some_split c.args.id c.in-Some.reference u o d.store (sym (c.next_split-free.ensures (bars_in d.store) (messages_in d.store) (parts_in d.store) holds) ∙ c.in-Some.is)))
    (c.accept_content.ensures d represents fresh)

pub returns-in-None : goal.returns-in-None
returns-in-None c = λ d represents holds fresh.
    let u = c.args.submission.now in
    let o = next_split u.source u.handset (bars_in d.store) (messages_in d.store) (parts_in d.store) in
    subst (λ (x : Option Store). Accepts (unless_too_much c.args.submission.now x) d c.args.draft.now false)
    (sym (none_split c.args.id u o d.store (sym (c.next_split-free.ensures (bars_in d.store) (messages_in d.store) (parts_in d.store) holds) ∙ c.in-None.is))) represents
