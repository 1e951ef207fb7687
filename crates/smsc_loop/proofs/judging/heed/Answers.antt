use Rattle.std.proofs.Common.{Bool, refl, sym, subst}
use Rattle.smpp_session.specs.declared.patience.WaitOutcome.TheVariants.{Waits, AsksLink, Silent, Stalled, Unanswered, Inactive}
use Rattle.smsc_loop.specs.Calls.{AskedLink}
use Rattle.smsc_loop.proofs.Duties.{heeds_as}
use Rattle.smsc_loop.proofs.Went.{match_refused, not_ok}
use Rattle.smsc_loop.proofs.judging.heed.Goals as goal

pub returns-in_err-ask_link-in-AsksLink : goal.returns-in_err-ask_link-in-AsksLink
returns-in_err-ask_link-in-AsksLink g c = heeds_as g.G.Endpoint.does g.G.Endpoint.owing c.args.verdict AsksLink _ _ _ _ _ _ c.from_residual.result c.in-AsksLink.is (
  subst (λ (b : Bool). g.G.Endpoint.does (AskedLink b) c.args.endpoint.now c.ask_link.new.self) (sym (not_ok _ c.from_residual.result c.from_residual.ensures.1)) c.in_err-ask_link-in-AsksLink.ensures.asked,
  match_refused _ _ _ c.from_residual.result c.from_residual.ensures.1 refl,
)

pub returns-in_ok-ask_link-in-AsksLink : goal.returns-in_ok-ask_link-in-AsksLink
returns-in_ok-ask_link-in-AsksLink g c =
    heeds_as g.G.Endpoint.does g.G.Endpoint.owing c.args.verdict AsksLink _ _ _ _ _ _ _ c.in-AsksLink.is (c.in_ok-ask_link-in-AsksLink.ensures.asked, (refl, c.ask.ensures))

pub returns-in-Waits : goal.returns-in-Waits
returns-in-Waits g c = heeds_as g.G.Endpoint.does g.G.Endpoint.owing c.args.verdict Waits _ _ _ _ _ _ _ c.in-Waits.is (refl, refl, refl)

pub returns-in-Silent : goal.returns-in-Silent
returns-in-Silent g c = heeds_as g.G.Endpoint.does g.G.Endpoint.owing c.args.verdict Silent _ _ _ _ _ _ _ c.in-Silent.is (refl, refl, refl)

pub returns-in-Stalled : goal.returns-in-Stalled
returns-in-Stalled g c = heeds_as g.G.Endpoint.does g.G.Endpoint.owing c.args.verdict Stalled _ _ _ _ _ _ _ c.in-Stalled.is (refl, refl, refl)

pub returns-in-Unanswered : goal.returns-in-Unanswered
returns-in-Unanswered g c = heeds_as g.G.Endpoint.does g.G.Endpoint.owing c.args.verdict Unanswered _ _ _ _ _ _ _ c.in-Unanswered.is (refl, refl, refl)

pub returns-in-Inactive : goal.returns-in-Inactive
returns-in-Inactive g c = heeds_as g.G.Endpoint.does g.G.Endpoint.owing c.args.verdict Inactive _ _ _ _ _ _ _ c.in-Inactive.is (refl, refl, refl)
