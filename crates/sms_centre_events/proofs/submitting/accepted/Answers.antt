-- accepted
use Rattle.std.proofs.Common.{ℕ, Option, subst}
use Rattle.sms_centre_spec.specs.Draft.{in_store, rows_of}
use Rattle.sms_centre_spec.specs.MessageNumbers.{next_number}
use Rattle.sms_centre_spec.specs.Shares.{unless_too_much}
use Rattle.sms_centre_spec.specs.Submitting.{accept}
use Rattle.sms_centre_events.specs.Answering.{AcceptsAs}
use Rattle.sms_centre_events.proofs.Entered.{not_submitted, submitted}
use Rattle.sms_centre_events.proofs.submitting.accepted.Goals as goal

pub returns-in-Some : goal.returns-in-Some
returns-in-Some c = λ d represents knows.
    let u = c.args.submission.now in
    let n = next_number (rows_of d.store) in
    let o = unless_too_much u (accept u d.store) in
    submitted d c.accept.new.draft n c.in-Some.id o c.answer.new.self
    (subst (λ (x : Option ℕ). AcceptsAs n o d c.accept.new.draft x) c.in-Some.is (c.in_ok-becomes.ensures d represents knows))
    (λ s k. c.answer.ensures (in_store s d) k)

pub returns-in-None : goal.returns-in-None
returns-in-None c = λ d represents knows.
    let u = c.args.submission.now in
    let n = next_number (rows_of d.store) in
    let o = unless_too_much u (accept u d.store) in
    not_submitted d c.accept.new.draft n o c.refuse.new.draft
    (subst (λ (x : Option ℕ). AcceptsAs n o d c.accept.new.draft x) c.in-None.is (c.in_ok-becomes.ensures d represents knows))
    (λ k. c.refuse.ensures d k)
