-- An entry of the table of codes of the characters below 256.
use Rattle.std.specs.Prelude.{ℕ, ◌-◌, ◌==◌, Option, Some, None, nat_lt, if◌then◌else◌}
use Rattle.sms_base.specs.declared.alphabet.Code.{Code}
use Rattle.sms_base.specs.declared.alphabet.Code.TheVariants.{Main, Extended}

-- a septet of the main table, 128 and a septet of the extension table, or 255 for none
abbrev pub latin_entry : ℕ → Option Code
latin_entry entry = if entry == 255 then None else (if nat_lt entry 128 then Some (Main entry) else Some (Extended (entry - 128)))
