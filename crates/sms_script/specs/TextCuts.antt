-- Text that is judged front by front.
use Rattle.std.specs.Prelude.{◌≡◌, ℕ, ◌<◌, ◌%◌, List, length, false, Option, Some, None}
use Rattle.std.specs.Str.{is_utf8}
use Rattle.sms_script.specs.Hexadecimal.{spelled}

-- What digits spell is text exactly where what the rest of them spells is; where there is no such rest, it is none.
abbrev pub ContinuesText : List ℕ → Option (List ℕ) → Type 0
ContinuesText digits None = is_utf8 (spelled digits) ≡ false
ContinuesText digits (Some rest) = (length rest % 2 ≡ 0) × (length rest < length digits) × (is_utf8 (spelled digits) ≡ is_utf8 (spelled rest))
