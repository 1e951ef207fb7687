-- Counts that stop at their greatest number.
use Rattle.std.proofs.Common.{◌≡◌, ◌<◌, ◌≤◌, ◌+◌, ◌-◌, ◌*◌, ◌^◌, ℕ, List, get_or, length, take, ap, sym, ◌∙◌, arith}
use Rattle.std.specs.Prelude.{min, sum, sum_by}
use Rattle.std.proofs.lemmas.List.Sums.{sum_by_more}
use Rattle.smsc_status.specs.Commits.{counted}
use Rattle.smsc_status.specs.Series.{commits_in}
use Rattle.smsc_status.specs.declared.figures.Sample.{Sample}

stopped : (sum one greatest : ℕ) → min (min sum greatest + one) greatest ≡ min (sum + one) greatest
stopped sum one greatest = omega arith

pub one_more_counted : (counts : List ℕ) (place : ℕ) → place < length counts →
    min (counted (take place counts) + get_or counts place 0) (2 ^ 64 - 1) ≡ counted (take (place + 1) counts)
one_more_counted counts place h =
    stopped (sum (take place counts)) (get_or counts place 0) (2 ^ 64 - 1) ∙ ap (λ s. min s (2 ^ 64 - 1)) (sym (sum_by_more (λ x. x) counts place 0 h))

-- the same, of the commits of seconds
pub one_more_commit : (samples : List Sample) (place : ℕ) (d : Sample) → place < length samples →
    min (commits_in (take place samples) + (get_or samples place d).commits) (2 ^ 64 - 1) ≡ commits_in (take (place + 1) samples)
one_more_commit samples place d h =
    stopped (sum_by (λ (s : Sample). s.commits) (take place samples)) ((get_or samples place d).commits) (2 ^ 64 - 1)
    ∙ ap (λ s. min s (2 ^ 64 - 1)) (sym (sum_by_more (λ (s : Sample). s.commits) samples place d h))
