-- The lines of what handsets accepted, one handset after another.
use Rattle.std.proofs.Common.{◌≡◌, ◌<◌, ◌≤◌, ◌++◌, ◌+◌, ◌∷◌, ◌∙◌, List, [], ap, append-nil, append_assoc, arith, drop, length, refl, suc, sym, zero, ℕ}
use Rattle.std.proofs.lemmas.List.{drop_all}
use Rattle.sms_play.specs.PlayState.{Party}
use Rattle.sms_play.specs.Playing.{accepted_lines}
use Rattle.sms_play.specs.judging.Premises.{accepted_at}
use Rattle.sms_script.specs.declared.report.rows.AcceptedRow.{AcceptedRow}

at_place : (place : ℕ) (ps : List Party) → place < length ps → accepted_at place ps ++ accepted_lines (drop (suc place) ps) ≡ accepted_lines (drop place ps)
at_place place [] few = absurd (omega (arith, few))
at_place zero (p ∷ ps) few = refl
at_place (suc place) (p ∷ ps) few = at_place place ps (omega (arith, few))

one_more : (n : ℕ) → suc n ≡ n + 1
one_more n = omega arith

-- with the lines of the handset at that place
pub lines_next : (place : ℕ) (ps : List Party) (before after : List AcceptedRow) → place < length ps → before ++ accepted_lines (drop place ps) ≡ accepted_lines ps → after ≡ before ++ accepted_at place ps
    → after ++ accepted_lines (drop (place + 1) ps) ≡ accepted_lines ps
lines_next place ps before after few so_far is =
    ap (λ (n : ℕ). after ++ accepted_lines (drop n ps)) (sym (one_more place)) ∙ ap (λ (lines : List AcceptedRow). lines ++ accepted_lines (drop (suc place) ps)) is
    ∙ append_assoc before (accepted_at place ps) (accepted_lines (drop (suc place) ps)) ∙ ap (λ (lines : List AcceptedRow). before ++ lines) (at_place place ps few) ∙ so_far

-- at the end these are all
pub lines_done : (place : ℕ) (ps : List Party) (lines : List AcceptedRow) → length ps ≤ place → lines ++ accepted_lines (drop place ps) ≡ accepted_lines ps → lines ≡ accepted_lines ps
lines_done place ps lines past so_far =
    sym (append-nil lines) ∙ ap (λ (left : List Party). lines ++ accepted_lines left) (sym (drop_all place ps past)) ∙ so_far
