use Rattle.std.proofs.Common.{ℕ, List, ap, ◌∙◌}
use Rattle.smpp_pdu.specs.Writing.{written}
use Rattle.smpp_session.specs.declared.action.Action.TheVariants.{Send}
use Rattle.smpp_session.specs.SessionTable.{sent, given}
use Rattle.smpp_session.proofs.turn.SessionStep.send.Goals as goal

pub returns : goal.returns
unfolding sent
returns c =
    c.in_ok-give.ensures
    ∙ (ap (λ (o : List ℕ). given (Send o) c.args.self.now) c.in_ok-octets.ensures.ok
    ∙ ap (λ (n : ℕ). given (Send (written (record { command_status = n; sequence_number = c.args.number; body = c.args.body }))) c.args.self.now) c.number.ensures)
