-- Fronts of an input that are enough to judge it: a line, its end and one octet behind it.
use Rattle.std.specs.Prelude.{◌≡◌, ℕ, ◌+◌, ◌≤◌, ◌⊎◌, List, ◌++◌, length}
use Rattle.sms_relay_run.specs.Lines.{longest_line}

abbrev pub IsFront : List ℕ → List ℕ → Type 0
IsFront input front = (front ≡ input) ⊎ ((rest : List ℕ) × (input ≡ front ++ rest) × (longest_line + 2 ≤ length front))
