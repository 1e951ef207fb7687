-- The first of some references, around from 255 to 0, that passes.
use Rattle.std.proofs.Common.{◌≡◌, ℕ, zero, suc, ◌-◌, ◌<◌, Bool, true, false, Some, None, refl, arith}
use Rattle.sms_centre_rows.specs.waiting.References.{first_passing, following}

pub passing_there : (passes : ℕ → Bool) (turns n : ℕ) → 0 < turns → passes n ≡ true → first_passing passes turns n ≡ Some n
unfolding first_passing
passing_there passes zero n some e = absurd (omega arith)
passing_there passes (suc k) n some e = rw e refl

pub passing_later : (passes : ℕ → Bool) (turns n : ℕ) → 0 < turns → passes n ≡ false → first_passing passes turns n ≡ first_passing passes (turns - 1) (following n)
unfolding first_passing
passing_later passes zero n some e = absurd (omega arith)
passing_later passes (suc k) n some e =
    let left : suc k - 1 ≡ k = omega arith in
    rw left (rw e refl)

pub passing_none : (passes : ℕ → Bool) (turns n : ℕ) → turns ≡ 0 → first_passing passes turns n ≡ None
unfolding first_passing
passing_none passes zero n e = refl
passing_none passes (suc k) n e = absurd (omega arith)
