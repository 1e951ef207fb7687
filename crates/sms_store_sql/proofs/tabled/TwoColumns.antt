-- A key of two columns: a row is found by both.
use Rattle.std.specs.Prelude.{◌≡◌, ℕ, ◌<◌, ◌/◌, ◌%◌, ◌==◌, ◌&&◌, Bool, pos, true}
use Rattle.std.proofs.Common.{ap, ap₂, ◌∙◌}
use Rattle.sms_base.proofs.Bools.{and_true}
use Rattle.sqlite.specs.Collation.TheVariants.{Binary}
use Rattle.sqlite.specs.declared.types.Value.TheVariants.{Int}
use Rattle.sqlite_sql.specs.Ops.{binary, is_true}
use Rattle.sqlite_sql.specs.declared.ops.BinaryOp.TheVariants.{Compare}
use Rattle.sqlite_sql.specs.declared.ops.CompareOp.TheVariants.{Eq}
use Rattle.sms_rows.specs.table.Keys.{pair_key}
use Rattle.sms_store_sql.proofs.listing.Columns.{same_number, pair_found, pairs_agree}

-- a WHERE finds the one number equal to the other
abbrev pub is_equal : ℕ → ℕ → Bool
is_equal a b = is_true (binary (Compare Eq Binary) (Int (pos a)) (Int (pos b)))

pub two_found : (a b n : ℕ) → b < 256 → (is_equal a (n / 256) && (is_equal b (n % 256) && true)) ≡ (pair_key a b == n)
two_found a b n small =
    ap₂ (λ first next. first && (next && true)) (same_number a (n / 256)) (same_number b (n % 256)) ∙ ap (λ next. (a == n / 256) && next) (and_true _)
    ∙ pair_found a b n small

pub two_meet : (a b c d : ℕ) → b < 256 → d < 256 → (is_equal a c && (is_equal b d && true)) ≡ (pair_key a b == pair_key c d)
two_meet a b c d small few =
    ap₂ (λ first next. first && (next && true)) (same_number a c) (same_number b d) ∙ ap (λ next. (a == c) && next) (and_true _)
    ∙ pairs_agree a b c d small few
