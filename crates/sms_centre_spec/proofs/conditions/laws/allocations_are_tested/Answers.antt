use Rattle.sms_centre_spec.proofs.conditions.AllocationsTested.{allocations_from, allocations_to}
use Rattle.sms_centre_spec.proofs.conditions.laws.allocations_are_tested.Goals as goal

pub returns : goal.returns
returns c hs rs a b = (λ pass. allocations_from hs rs a b pass, λ sound. allocations_to hs rs sound)
