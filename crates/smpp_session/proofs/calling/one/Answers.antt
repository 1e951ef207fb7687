use Rattle.std.proofs.Common.{sym, ap, ◌∙◌}
use Rattle.smpp_session.specs.declared.calling.Call.{Call}
use Rattle.smpp_session.specs.Calls.{and_then, called}
use Rattle.smpp_session.proofs.Cuts.{deliver_called}
use Rattle.smpp_session.proofs.calling.one.Goals as goal

pub returns-in_ok-push-in-Ok : goal.returns-in_ok-push-in-Ok
returns-in_ok-push-in-Ok c =
    deliver_called c.args.session.now c.deliver.new.self c.args.actions.now c.push-in-Ok.new.self c.in-Deliver.message c.in-Ok.sent.octets c.in-Ok.sent.sequence_number c.in-Ok.ensures.nothing_against c.in-Ok.ensures.number c.in-Ok.ensures.octets c.in-Ok.ensures.ok c.in_ok-push-in-Ok.ensures.ok
    ∙ ap (λ (call : Call). and_then (c.args.session.now, c.args.actions.now) (called c.args.session.now call)) (sym c.in-Deliver.is)
