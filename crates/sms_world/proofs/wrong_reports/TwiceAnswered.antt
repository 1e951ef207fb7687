use Rattle.std.proofs.Common.{arith, ℕ, refl, inl, ◌<◌}
use Rattle.sms_world.specs.wrong_reports.Literals.{answer}
use Rattle.sms_world.specs.wrong_reports.Tried.{AscendLaw}

not_below : (n : ℕ) → n < n → ⊥
not_below n l = omega (arith, l)

pub refused : AscendLaw
refused r = not_below 1 (r.ascend.0 answer (inl refl))
