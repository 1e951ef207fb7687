use Rattle.std.proofs.Common.{Option, subst}
use Rattle.std.specs.Prelude.{IfOk}
use Rattle.sms_centre_spec.specs.Draft.{Store}
use Rattle.sms_centre_spec.specs.Shares.{unless_too_much}
use Rattle.sms_centre_draft.specs.Submitting.{Accepts}
use Rattle.sms_centre_events.proofs.Accepted.{accepted_one, one_body}
use Rattle.sms_centre_events.proofs.accepting.accept_one.Goals as goal

pub accept_under-requires-clause-bodies : goal.accept_under-requires-clause-bodies
accept_under-requires-clause-bodies c = one_body c.args.submission.now c.args.part.now c.from_ref-parts.result.now c.requires.submission c.requires.one c.from_ref-parts.ensures.value

pub returns : goal.returns
returns c = λ d represents fresh.
    subst (λ (o : Option Store). IfOk c.accept_under.result (Accepts (unless_too_much c.args.submission.now o) d c.accept_under.new.self))
    (accepted_one c.args.id c.args.submission.now c.args.part.now c.from_ref-parts.result.now d.store c.requires.one c.from_ref-parts.ensures.value)
    (c.accept_under.ensures d represents fresh)
