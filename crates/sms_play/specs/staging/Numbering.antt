-- Frames by number.
use Rattle.std.specs.Prelude.{◌≡◌, ℕ, suc, List, [], ◌∷◌}
use Rattle.sms_script.specs.declared.report.rows.FrameRow.{FrameRow}

-- from that number on, each has the next
abbrev pub AreNumbered : ℕ → List FrameRow → Type 0
AreNumbered number [] = Unit {0}
AreNumbered number (f ∷ fs) = (f.number ≡ number) × AreNumbered (suc number) fs
