-- The own frames, one after another.
use Rattle.std.proofs.Common.{◌≡◌, ℕ, suc, ◌+◌, ◌++◌, [], ◌∷◌, List, if◌then◌else◌, ap, arith, refl}
use Rattle.sms_store_files.specs.Frames.{is_own, own_frame, own_frames}

pub none : (log : List ℕ) (from : ℕ) → own_frames log from 0 ≡ []
unfolding own_frames
none log from = refl

pub one_more : (log : List ℕ) (from n : ℕ)
    → own_frames log from (n + 1) ≡ own_frames log from n ++ (if is_own log (from + n) then own_frame log (from + n) ∷ [] else [])
unfolding own_frames
one_more log from n =
    let up : n + 1 ≡ suc n = omega arith in
    ap (own_frames log from) up
