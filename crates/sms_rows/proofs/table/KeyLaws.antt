-- Keys of two parts are equal only where the parts are.
use Rattle.std.proofs.Common.{◌≡◌, ℕ, ◌<◌, arith}
use Rattle.sms_rows.specs.table.Keys.{pair_key}

pub pairs_apart : (a b m n : ℕ) → m < 256 → n < 256 → pair_key a m ≡ pair_key b n → (a ≡ b) × (m ≡ n)
pairs_apart a b m n l k e = (omega (arith, l, k, e), omega (arith, l, k, e))
