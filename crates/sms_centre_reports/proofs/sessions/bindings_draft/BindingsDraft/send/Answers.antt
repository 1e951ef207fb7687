use Rattle.std.proofs.Common.{ℕ, sym, ◌∙◌, ap}
use Rattle.sms_centre_reports.proofs.sessions.AllSent.{rest, rest_all, rest_ends, rest_on}
use Rattle.sms_centre_reports.proofs.sessions.bindings_draft.BindingsDraft.send.Goals as goal

pub sending-init : goal.sending-init
sending-init c = λ ms t tells. rest_all c.args.now ms c.args.reports.now t tells c.args.self.now

pub returns-in_default : goal.returns-in_default
returns-in_default c = λ ms t tells.
    sym (rest_ends c.args.now ms c.args.reports.now t tells c.sending.first c.sending.self (sym c.in_default.is ∙ c.in_ok-next.ensures.next ms t tells)) ∙ c.sending.invariant ms t tells

pub sending-preserved : goal.sending-preserved
sending-preserved c = λ ms t tells.
    ap (λ (n : ℕ). rest c.args.now ms c.args.reports.now t tells n c.send_in.new.self) c.in_ok-first.ensures
    ∙ rest_on c.args.now ms c.args.reports.now t tells c.sending.first c.sending.self c.send_in.new.self c.in-Some.going c.in_ok-next.ensures.order
    (sym c.in-Some.is ∙ c.in_ok-next.ensures.next ms t tells) (λ s there. c.in_ok-send_in.ensures s there)
    ∙ c.sending.invariant ms t tells
