use Rattle.std.proofs.Common.{List, subst, sym, ◌∙◌}
use Rattle.std.specs.Prelude.{IfOk}
use Rattle.sms_intake.specs.declared.submission.SinglePart.{SinglePart}
use Rattle.sms_centre_spec.specs.Shares.{unless_too_much}
use Rattle.sms_centre_spec.specs.Submitting.{accept_under}
use Rattle.sms_centre_draft.specs.Submitting.{Accepts}
use Rattle.sms_centre_events.proofs.Accepted.{content_bodies, few_bodies, same_bodies, text_units}
use Rattle.sms_centre_events.proofs.accepting.accept_content.Goals as goal

pub bodies_under-requires : goal.bodies_under-requires
bodies_under-requires c = text_units c.in_ok-text.text c.args.content.now c.in_ok-text.ensures c.requires.units

pub accept_under-requires-clause-bodies : goal.accept_under-requires-clause-bodies
accept_under-requires-clause-bodies c =
    content_bodies c.args.submission.now c.args.content.now c.args.reference c.in_ok-text.text c.as_slice.result.now c.requires.submission c.requires.whole c.in_ok-text.ensures
    (c.as_slice.ensures ∙ c.in_ok-bodies.ensures)

pub accept_under-requires-clause-few : goal.accept_under-requires-clause-few
accept_under-requires-clause-few c =
    few_bodies c.args.submission.now c.args.content.now c.args.reference c.in_ok-text.text c.as_slice.result.now c.requires.submission c.requires.whole c.in_ok-text.ensures
    (c.as_slice.ensures ∙ c.in_ok-bodies.ensures)

pub returns : goal.returns
returns c = λ d represents fresh.
    subst (λ (bodies : List SinglePart). IfOk c.accept_under.result (Accepts (unless_too_much c.args.submission.now (accept_under c.args.id c.args.split bodies c.args.submission.now d.store)) d c.accept_under.new.self))
    (sym (same_bodies c.args.submission.now c.args.content.now c.args.reference c.in_ok-text.text c.as_slice.result.now c.requires.whole c.in_ok-text.ensures (c.as_slice.ensures ∙ c.in_ok-bodies.ensures)))
    (c.accept_under.ensures d represents fresh)
