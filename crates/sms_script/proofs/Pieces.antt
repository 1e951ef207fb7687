-- Where a piece ends: the pieces of a text are its front and the pieces of what stands behind it.
use Rattle.std.proofs.Common.{◌≡◌, ℕ, zero, suc, ◌+◌, ◌<◌, ◌≤◌, Bool, true, false, cond, eqb, ltb, List, [], ◌∷◌, length, get_or, take, drop, Option, Some, None, Err, refl, ap, arith, add-one}
use Rattle.std.specs.List.{position, position_or_len}
use Rattle.std.proofs.lemmas.List.Quantifiers.{position-Some}
use Rattle.std.proofs.lemmas.Bool.{ltb-false}
use Rattle.sms_script.specs.ScriptReading.{done_in}
use Rattle.sms_script.specs.declared.fault.LineFault.TheVariants.{BadLine}
use Rattle.sms_script.specs.Lines.{onto, lines_of, words_of, front, behind, lines_left, words_behind}

abbrev is_mark : ℕ → ℕ → Bool
is_mark mark octet = eqb octet mark

ends_at : (mark : ℕ) (xs : List ℕ) (k : ℕ) → k < length xs → is_mark mark (get_or xs k 0) ≡ true → ((j : ℕ) → j < k → is_mark mark (get_or xs j 0) ≡ false) → (take k xs ≡ front mark xs) × (Some (drop (suc k) xs) ≡ behind mark xs)
ends_at mark [] k lt e before = absurd (omega arith)
ends_at mark (x ∷ xs) zero lt e before = (rw e refl, rw e refl)
ends_at mark (x ∷ xs) (suc k) lt e before =
    let here : is_mark mark x ≡ false = before 0 (omega arith) in
    let rest = ends_at mark xs k (omega arith) e (λ j l. before (suc j) (omega arith)) in
    (rw here (ap (λ (l : List ℕ). x ∷ l) rest.0), rw here rest.1)

pub mark_found : (mark : ℕ) (xs : List ℕ) (k : ℕ) → position (is_mark mark) xs ≡ Some k → (take k xs ≡ front mark xs) × (Some (drop (k + 1) xs) ≡ behind mark xs)
mark_found mark xs k e =
    let p = position-Some (is_mark mark) xs k 0 e in
    rw add-one (ends_at mark xs k p.0 p.1 p.2)

no_mark : (mark : ℕ) (xs : List ℕ) → length xs ≤ position_or_len (is_mark mark) xs → (xs ≡ front mark xs) × (None ≡ behind mark xs)
no_mark mark [] le = (refl, refl)
no_mark mark (x ∷ xs) le = more (is_mark mark x) refl le (no_mark mark xs) where
  more : (b : Bool) → is_mark mark x ≡ b → length (x ∷ xs) ≤ position_or_len (is_mark mark) (x ∷ xs) → (length xs ≤ position_or_len (is_mark mark) xs → (xs ≡ front mark xs) × (None ≡ behind mark xs)) → (x ∷ xs ≡ front mark (x ∷ xs)) × (None ≡ behind mark (x ∷ xs))
  more true here le again = let g = rw here at le in absurd (omega arith)
  more false here le again =
      let g = rw here at le in
      let rest = again (omega arith) in
      (rw here (ap (λ (l : List ℕ). x ∷ l) rest.0), rw here rest.1)

none_by : (mark : ℕ) (xs : List ℕ) (b : Bool) → ltb (position_or_len (is_mark mark) xs) (length xs) ≡ b → cond b (Some (position_or_len (is_mark mark) xs)) None ≡ None → length xs ≤ position_or_len (is_mark mark) xs
none_by mark xs true t e = absurd cc
none_by mark xs false t e = ltb-false _ _ t

pub no_mark_found : (mark : ℕ) (xs : List ℕ) → position (is_mark mark) xs ≡ None → (xs ≡ front mark xs) × (None ≡ behind mark xs)
no_mark_found mark xs e = no_mark mark xs (none_by mark xs (ltb (position_or_len (is_mark mark) xs) (length xs)) refl e)

-- ---- the pieces

-- the words of a line are what stands before its first space and the words behind that
pub words_are : (line : List ℕ) → words_of line ≡ front 32 line ∷ words_behind (behind 32 line)
unfolding words_of
words_are [] = refl
words_are (octet ∷ line) = by (eqb octet 32) (words_are line) where
  by : (b : Bool) → words_of line ≡ front 32 line ∷ words_behind (behind 32 line) →
      cond b ([] ∷ words_of line) (onto octet (words_of line)) ≡ (cond b [] (octet ∷ front 32 line)) ∷ words_behind (cond b (Some line) (behind 32 line))
  by true again = refl
  by false again = rw again refl

-- so are the lines of a text that is not empty
pub lines_are : (octet : ℕ) (text : List ℕ) → lines_of (octet ∷ text) ≡ front 10 (octet ∷ text) ∷ lines_left (behind 10 (octet ∷ text))
unfolding lines_of
lines_are octet [] = by (eqb octet 10) where
  by : (b : Bool) → cond b ([] ∷ lines_of []) (onto octet (lines_of [])) ≡ (cond b [] (octet ∷ [])) ∷ lines_left (cond b (Some []) None)
  by true = refl
  by false = refl
lines_are octet (next ∷ text) = by (eqb octet 10) (lines_are next text) where
  by : (b : Bool) → lines_of (next ∷ text) ≡ front 10 (next ∷ text) ∷ lines_left (behind 10 (next ∷ text)) →
      cond b ([] ∷ lines_of (next ∷ text)) (onto octet (lines_of (next ∷ text))) ≡ (cond b [] (octet ∷ front 10 (next ∷ text))) ∷ lines_left (cond b (Some (next ∷ text)) (behind 10 (next ∷ text)))
  by true again = refl
  by false again = rw again refl

pub words_cut : (line piece : List ℕ) (rest : Option (List ℕ)) → piece ≡ front 32 line → rest ≡ behind 32 line → words_of line ≡ piece ∷ words_behind rest
words_cut line piece rest p r = rw (p, r) (words_are line)

pub lines_cut : (text line : List ℕ) (rest : Option (List ℕ)) → ¬ (length text ≡ 0) → line ≡ front 10 text → rest ≡ behind 10 text → lines_of text ≡ line ∷ lines_left rest
lines_cut [] line rest some p r = absurd (some refl)
lines_cut (octet ∷ text) line rest some p r = rw (p, r) (lines_are octet text)

pub no_lines : (text : List ℕ) → length text ≡ 0 → lines_of text ≡ []
unfolding lines_of
no_lines [] e = refl
no_lines (octet ∷ text) e = absurd (omega arith)

pub some_left : (line : List ℕ) → Err BadLine ≡ done_in (words_of line)
some_left line = rw (words_are line) refl
