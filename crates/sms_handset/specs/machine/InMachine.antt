-- What a machine has.
use Rattle.sms_handset_draft.specs.Draft.{Core, HandsetOf}
use Rattle.sms_handset.specs.declared.machine.HandsetMachine.{HandsetMachine}

-- the keep of the handset's rows
abbrev pub keep_in : {K : Type 0} → HandsetMachine K → K
keep_in machine = machine.keep

-- the handset
abbrev pub handset_in : {K : Type 0} → HandsetMachine K → HandsetOf
handset_in machine = machine.handset

-- its state, as the handset's definition has it
abbrev pub core_in : {K : Type 0} → HandsetMachine K → Core
core_in machine = machine.handset.core
