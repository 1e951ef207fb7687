-- Lanes that are drawn keep their order.
use Rattle.std.proofs.Common.{◌≡◌, ◌<◌, ◌≤◌, ◌+◌, ℕ, zero, suc, Bool, true, false, cond, eqb, List, refl, subst, arith, rules, eqb-true}
use Rattle.std.proofs.lemmas.Bool.{eqb-false}
use Rattle.sms_trace_files.specs.picture.Columns.{drawn_before, is_touched}
use Rattle.sms_trace_files.specs.declared.picture.rows.PictureRow.{PictureRow}

-- none less is drawn before the next lane
no_fewer : (rows : List PictureRow) (lane : ℕ) → drawn_before rows lane ≤ drawn_before rows (suc lane)
no_fewer rows lane = with_it (is_touched rows lane) where
  with_it : (b : Bool) → drawn_before rows lane ≤ cond b (drawn_before rows lane + 1) (drawn_before rows lane)
  with_it true = omega arith
  with_it false = omega arith

-- one more is drawn before it where the lane is drawn
one_more : (rows : List PictureRow) (lane : ℕ) → is_touched rows lane ≡ true → drawn_before rows lane < drawn_before rows (suc lane)
one_more rows lane touched = with_it (is_touched rows lane) touched where
  with_it : (b : Bool) → b ≡ true → drawn_before rows lane < cond b (drawn_before rows lane + 1) (drawn_before rows lane)
  with_it true e = omega arith
  with_it false e = search rules

pub more_before : (rows : List PictureRow) (lane other : ℕ) → lane < other → is_touched rows lane ≡ true → drawn_before rows lane < drawn_before rows other
more_before rows lane zero before touched = omega arith
more_before rows lane (suc other) before touched = of_case (λ (below : lane < other). more_before rows lane other below touched) (eqb lane other) refl where
  of_case : (lane < other → drawn_before rows lane < drawn_before rows other) → (b : Bool) → eqb lane other ≡ b → drawn_before rows lane < drawn_before rows (suc other)
  of_case earlier true same = subst (λ (o : ℕ). drawn_before rows lane < drawn_before rows (suc o)) (eqb-true lane other same) (one_more rows lane touched)
  of_case earlier false differ =
      let apart = eqb-false lane other differ in
      let below : drawn_before rows lane < drawn_before rows other = earlier (omega arith) in
      let kept = no_fewer rows other in
      omega arith
