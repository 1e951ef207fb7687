use Rattle.sms_centre_spec.proofs.conditions.WaitingTested.{waiting_from, waiting_to}
use Rattle.sms_centre_spec.proofs.conditions.laws.waiting_is_tested.Goals as goal

pub returns : goal.returns
returns c entries hs refs ms qs ps rs places allocations messages reports told = (
  λ pass. waiting_from entries hs refs ms qs ps rs (record { places = places; allocations = allocations; messages = messages; reports = reports; report_addresses = told }) pass,
  λ sound. waiting_to entries hs refs ms qs ps rs (record { places = places; allocations = allocations; messages = messages; reports = reports; report_addresses = told }) sound,
)
