-- The place of one handset is noted under its key, and all others stay.
use Rattle.std.proofs.Common.{◌≡◌, ℕ, List, Bool, nat_eq, Some, ◌∙◌, ap, cond}
use Rattle.std.specs.Map.{lookup}
use Rattle.sms_base.proofs.Bools.{swapped}

pub place_noted : (key k place : ℕ) (old new : List (ℕ × ℕ)) → ((q : ℕ) → lookup (nat_eq q) new ≡ cond (nat_eq key q) (Some place) (lookup (nat_eq q) old))
    → lookup (nat_eq k) new ≡ cond (nat_eq k key) (Some place) (lookup (nat_eq k) old)
place_noted key k place old new written = written k ∙ ap (λ (b : Bool). cond b (Some place) (lookup (nat_eq k) old)) (swapped key k)
