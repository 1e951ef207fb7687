-- accept
use Rattle.std.proofs.Common.{ℕ, nat_le, Option, None, sym, ◌∙◌, subst}
use Rattle.std.specs.Prelude.{IfOk}
use Rattle.std.proofs.lemmas.Bool.{cond-false, cond-true}
use Rattle.sms_centre_spec.specs.Draft.{Store, rows_of}
use Rattle.sms_centre_spec.specs.MessageNumbers.{next_number}
use Rattle.sms_centre_spec.specs.Shares.{unless_too_much}
use Rattle.sms_centre_spec.specs.Submitting.{accept_as}
use Rattle.sms_centre_events.specs.Answering.{AcceptsAs}
use Rattle.sms_centre_events.proofs.Accepted.{next_new, no_number, numbered}
use Rattle.sms_centre_events.proofs.accepting.accept.Goals as goal

pub returns-in-Some : goal.returns-in-Some
returns-in-Some c = λ d represents knows.
    let u = c.args.submission.now in
    let n : ℕ = next_number (rows_of d.store) in
    let is = numbered n c.in-Some.id (nat_le n 9999999999) (sym c.in-Some.is ∙ c.next_number-next.ensures d represents knows.messages) in
    subst (λ (o : Option Store). IfOk c.accept_numbered.result (AcceptsAs n (unless_too_much u o) d c.accept_numbered.new.draft))
    (sym (cond-true (nat_le n 9999999999) (accept_as n u d.store) None is.0))
    (subst (λ (k : ℕ). IfOk c.accept_numbered.result (AcceptsAs k (unless_too_much u (accept_as k u d.store)) d c.accept_numbered.new.draft)) is.1
    (c.accept_numbered.ensures d represents knows.reference_index (next_new d c.args.draft.now c.in-Some.id represents is.1)))

pub returns-in-None : goal.returns-in-None
returns-in-None c = λ d represents knows.
    let u = c.args.submission.now in
    let n : ℕ = next_number (rows_of d.store) in
    let none = no_number n (nat_le n 9999999999) (sym c.in-None.is ∙ c.next_number-next.ensures d represents knows.messages) in
    subst (λ (o : Option Store). AcceptsAs n (unless_too_much u o) d c.args.draft.now None) (sym (cond-false (nat_le n 9999999999) (accept_as n u d.store) None none)) represents
