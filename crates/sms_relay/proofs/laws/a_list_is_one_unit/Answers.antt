use Rattle.std.proofs.Common.{sym, ◌∙◌}
use Rattle.sms_base.proofs.Steps.{ok_is}
use Rattle.sms_relay.specs.declared.fault.RelayFault.{RelayFault}
use Rattle.sms_relay.proofs.UnitLaws.{up_again, down_again}
use Rattle.sms_relay.proofs.laws.a_list_is_one_unit.Goals as goal

pub returns-clause-up : goal.returns-clause-up
returns-clause-up c = λ octets one other a b. ok_is {E = RelayFault} one other (sym (up_again octets one a) ∙ up_again octets other b)

pub returns-clause-down : goal.returns-clause-down
returns-clause-down c = λ octets one other a b. ok_is {E = RelayFault} one other (sym (down_again octets one a) ∙ down_again octets other b)
