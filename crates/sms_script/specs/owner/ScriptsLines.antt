-- An owner's act as a script has it, of the handset of that number.
use Rattle.std.specs.Prelude.{ℕ, List, Result, Ok, Err}
use Rattle.sms_script.specs.declared.event.Act.{Act}
use Rattle.sms_script.specs.declared.event.Act.TheVariants.{Write as ScriptWrite, Delete as ScriptDelete, Discard as ScriptDiscard}
use Rattle.sms_script.specs.declared.fault.LineFault.{LineFault}
use Rattle.sms_script.specs.declared.owner.act.OwnersAct.{OwnersAct}
use Rattle.sms_script.specs.declared.owner.act.OwnersAct.TheVariants.{Write, Delete, Discard}

abbrev pub in_script : List ℕ → OwnersAct → Act
in_script number (Write to report text) = ScriptWrite number to report text
in_script number (Delete entry) = ScriptDelete number entry
in_script number (Discard entry) = ScriptDiscard number entry

-- what is read, with the words behind it
abbrev pub read_in_script : List ℕ → Result (OwnersAct × List (List ℕ)) LineFault → Result (Act × List (List ℕ)) LineFault
read_in_script number (Ok read) = Ok (in_script number read.0, read.1)
read_in_script number (Err fault) = Err fault
