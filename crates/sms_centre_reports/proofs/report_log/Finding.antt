-- The last report of the log.
use Rattle.std.proofs.Common.{◌≡◌, ℕ, zero, suc, ◌+◌, ◌-◌, ◌<◌, List, [], ◌∷◌, length, false, Some, None, refl, ap, sym, arith}
use Rattle.std.specs.List.{slice_get}
use Rattle.std.specs.Prelude.{◌==◌}
use Rattle.sms_centre_reports.specs.declared.report_log.log.LoggedReport.{LoggedReport}
use Rattle.sms_centre_reports.specs.report_log.ReportLog.{is_of_last}

pub last_of : (id k : ℕ) (rs : List LoggedReport) (r : LoggedReport) → k + 1 ≡ length rs → slice_get rs k ≡ Some r → (r.id == id) ≡ is_of_last id rs
last_of id k [] r l at = absurd (omega (arith, l))
last_of id zero (x ∷ []) r l at = let is : x ≡ r = cc in ap (λ (y : LoggedReport). y.id == id) (sym is)
last_of id zero (x ∷ y ∷ rs) r l at = absurd (omega (arith, l))
last_of id (suc k) (x ∷ []) r l at = absurd cc
last_of id (suc k) (x ∷ y ∷ rs) r l at = last_of id k (y ∷ rs) r (omega (arith, l)) at

pub none_last : (id : ℕ) (rs : List LoggedReport) → slice_get rs (length rs - 1) ≡ None → false ≡ is_of_last id rs
none_last id [] at = refl
none_last id (r ∷ rs) at = absurd (some_there (r ∷ rs) (length (r ∷ rs) - 1) (omega arith) at)
  where
    some_there : (xs : List LoggedReport) (n : ℕ) → n < length xs → slice_get xs n ≡ None → ⊥
    some_there [] n l e = omega (arith, l)
    some_there (x ∷ xs) zero l e = let bad : Some x ≡ None = e in absurd cc
    some_there (x ∷ xs) (suc n) l e = some_there xs n (omega (arith, l)) e
