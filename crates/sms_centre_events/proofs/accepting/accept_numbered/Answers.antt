-- accept_numbered
use Rattle.std.proofs.Common.{Bool, subst}
use Rattle.sms_centre_spec.specs.Shares.{unless_too_much}
use Rattle.sms_centre_spec.specs.Submitting.{accept_as}
use Rattle.sms_centre_draft.specs.Submitting.{Accepts}
use Rattle.sms_centre_events.proofs.Entered.{not_numbered, numbered_as}
use Rattle.sms_centre_events.proofs.accepting.accept_numbered.Goals as goal

pub returns-then-not-is_accepted : goal.returns-then-not-is_accepted
returns-then-not-is_accepted c = λ d represents holds fresh.
    let o = unless_too_much c.args.submission.now (accept_as c.args.id c.args.submission.now d.store) in
    not_numbered d c.accept_as.new.draft c.args.id o
    (subst (λ (b : Bool). Accepts o d c.accept_as.new.draft b) c.if-not-is_accepted.true (c.in_ok-is_accepted.ensures d represents holds fresh))

pub returns : goal.returns
returns c = λ d represents holds fresh.
    let o = unless_too_much c.args.submission.now (accept_as c.args.id c.args.submission.now d.store) in
    numbered_as d c.accept_as.new.draft c.args.id o
    (subst (λ (b : Bool). Accepts o d c.accept_as.new.draft b) c.if-not-is_accepted.false (c.in_ok-is_accepted.ensures d represents holds fresh))
