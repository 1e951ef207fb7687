-- The code of the fault in reports, and the part that it hands back.
use Rattle.std.specs.Prelude.{ℕ, List, codes}
use Rattle.sms_concat.specs.declared.content.Part.{Part}
use Rattle.sms_concat.specs.declared.joiner.add_error.AddError.{AddError}
use Rattle.sms_concat.specs.declared.joiner.add_error.AddError.TheVariants.{NoPlace}

abbrev pub add_code : AddError → List ℕ
add_code (NoPlace part) = codes "C3"

abbrev pub part_of_error : AddError → Part
part_of_error (NoPlace part) = part
