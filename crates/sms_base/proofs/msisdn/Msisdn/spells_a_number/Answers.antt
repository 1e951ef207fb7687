use Rattle.sms_base.proofs.Msisdns.{own_is_address}
use Rattle.sms_base.proofs.msisdn.Msisdn.spells_a_number.Goals as goal

pub returns-clause-address : goal.returns-clause-address
returns-clause-address c = rw (← c.self.view_is) (own_is_address _ c.self.invariant.0)
