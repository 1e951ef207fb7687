-- How long commits took.
use Rattle.std.specs.Prelude.{◌≡◌, ℕ, ◌+◌, ◌*◌, ◌-◌, ◌^◌, ◌<◌, ◌≤◌, min, List, get_or, sum, take}
use Rattle.smsc_status.specs.declared.commits.Quantile.{Quantile}
use Rattle.smsc_status.specs.declared.commits.Quantile.TheVariants.{Unknown, AtMost, Above}
use Rattle.smsc_status.specs.declared.commits.TheConstants.{LIMITS}

-- The place of a time is the first whose limit it does not pass, and behind all limits where it passes each.
pub record IsPlace (micros place : ℕ) : Type 0 where
  pub passed : (before : ℕ) → before < place → get_or LIMITS before 0 < micros
  pub kept : place < 13 → micros ≤ get_or LIMITS place 0
  pub there : place < 14

-- how many are counted; a count stops at its greatest number
abbrev pub counted : List ℕ → ℕ
counted counts = min (sum counts) (2 ^ 64 - 1)

-- So many of a hundred commits took no longer than the limit of the place.
abbrev pub Reaches : List ℕ → ℕ → ℕ → Type 0
Reaches counts of_hundred place = counted counts * of_hundred ≤ counted (take (place + 1) counts) * 100

-- The quantile is the least limit that so many of a hundred commits did not pass.
abbrev pub IsQuantile : List ℕ → ℕ → Quantile → Type 0
IsQuantile counts of_hundred Unknown = counted counts ≡ 0
IsQuantile counts of_hundred (AtMost limit) =
    (0 < counted counts) × ((place : ℕ) × (place < 13) × (limit ≡ get_or LIMITS place 0) × Reaches counts of_hundred place
    × ((before : ℕ) → before < place → Reaches counts of_hundred before → ⊥))
IsQuantile counts of_hundred (Above limit) =
    (0 < counted counts) × (limit ≡ get_or LIMITS 12 0) × ((place : ℕ) → place < 13 → Reaches counts of_hundred place → ⊥)
