-- Frames that are numbered from a number on stand at their places.
use Rattle.std.proofs.Common.{◌≡◌, ℕ, zero, suc, ◌+◌, ◌<◌, ◌≤◌, ◌==◌, ltb, List, [], ◌∷◌, length, get_or, Option, Some, None, slice_get, eq-eqb, refl, sym, ap, ◌∙◌, arith}
use Rattle.std.specs.Prelude.{IfSome, is_some}
use Rattle.std.specs.Option.{option_map}
use Rattle.std.proofs.lemmas.Bool.{cond-true, cond-false, ltb-false, ltb-true, ne_eqb}
use Rattle.sms_script.specs.declared.report.rows.FrameRow.{FrameRow}
use Rattle.sms_play.specs.PlayState.{frame_at}
use Rattle.sms_play.specs.staging.Numbering.{AreNumbered}

pub frame_from : (first k number : ℕ) (bag : List FrameRow) → AreNumbered first bag → number ≡ k + first → frame_at number bag ≡ slice_get bag k
frame_from first k number [] h e = refl
frame_from first zero number (f ∷ fs) h e = cond-true (f.number == number) (Some f) (frame_at number fs) (eq-eqb f.number number (omega (arith, h.0, e)))
frame_from first (suc k) number (f ∷ fs) h e =
    cond-false (f.number == number) (Some f) (frame_at number fs) (ne_eqb f.number number (λ (q : f.number ≡ number). omega (arith, q, h.0, e)))
    ∙ frame_from (suc first) k number fs h.1 (omega (arith, e))

pub none_at_zero : (first : ℕ) (bag : List FrameRow) → AreNumbered (suc first) bag → None ≡ frame_at 0 bag
none_at_zero first [] h = refl
none_at_zero first (f ∷ fs) h =
    none_at_zero (suc first) fs h.1
    ∙ sym (cond-false (f.number == 0) (Some f) (frame_at 0 fs) (ne_eqb f.number 0 (λ (q : f.number ≡ 0). omega (arith, q, h.0))))

-- ---- what stands at a place

at_place : (xs : List FrameRow) (k : ℕ) (x : FrameRow) → k < length xs → x ≡ get_or xs k x → slice_get xs k ≡ Some x
at_place [] k x low is = absurd (omega (arith, low))
at_place (y ∷ ys) zero x low is = ap (λ (z : FrameRow). Some z) (sym is)
at_place (y ∷ ys) (suc k) x low is = at_place ys k x (omega (arith, low)) is

past_end : (xs : List FrameRow) (k : ℕ) → length xs ≤ k → slice_get xs k ≡ None
past_end [] k far = refl
past_end (y ∷ ys) zero far = absurd (omega (arith, far))
past_end (y ∷ ys) (suc k) far = past_end ys k (omega (arith, far))

pub looked_up : {B : Type 0} (now : B → FrameRow) (o : Option B) (xs : List FrameRow) (k : ℕ) → is_some o ≡ ltb k (length xs) → IfSome o (λ (x : B). now x ≡ get_or xs k (now x)) → option_map now o ≡ slice_get xs k
looked_up now None xs k there is = sym (past_end xs k (ltb-false k (length xs) (sym there)))
looked_up now (Some x) xs k there is = sym (at_place xs k (now x) (ltb-true k (length xs) (sym there)) is)
