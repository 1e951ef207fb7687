-- Why there was no answer.
use Rattle.std.specs.Prelude.{◌≡◌, ◌<◌, ◌⊎◌, ℕ}
use Rattle.sms_hub.specs.declared.hub_fault.HubFault.{HubFault}
use Rattle.sms_hub.specs.declared.hub_fault.HubFault.TheVariants.{NoThread, NoMemory, MachineFailed, TooManySessions}

-- no seat, or more than 32
abbrev pub IsTooMany : ℕ → Type 0
IsTooMany n = (n ≡ 0) ⊎ (32 < n)

-- a fact for each fault
abbrev pub MatchFault : HubFault → Type 0 → Type 0 → Type 0 → Type 0 → Type 0
MatchFault NoThread thread memory failed many = thread
MatchFault NoMemory thread memory failed many = memory
MatchFault MachineFailed thread memory failed many = failed
MatchFault TooManySessions thread memory failed many = many
