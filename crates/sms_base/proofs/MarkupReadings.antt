-- An escaped text is read as the text.
use Rattle.std.proofs.Common.{◌≡◌, ◌≢◌, ℕ, Bool, true, false, cond, eqb, List, [], ◌∷◌, ◌++◌, map, refl, sym, subst, arith, eqb-true}
use Rattle.std.specs.Prelude.{◌||◌, nat_lt, codes}
use Rattle.std.proofs.lemmas.Bool.{eqb-false}
use Rattle.sms_base.specs.Markup.{escaped, escaped_octet}
use Rattle.sms_base.specs.MarkupReading.{IsReference, ampersand, less, greater, quotation, IsRead, nothing, plain, reference, legible}

-- a reference before what is read
referred : (octet number : ℕ) (name written text : List ℕ) → octet ≡ number → legible number ≡ number → IsReference name number → IsRead written text →
    IsRead (38 ∷ (name ++ (59 ∷ written))) (legible octet ∷ text)
referred octet number name written text same shown is rest =
    subst (λ (o : ℕ). IsRead (38 ∷ (name ++ (59 ∷ written))) (legible o ∷ text)) (sym same)
    (subst (λ (o : ℕ). IsRead (38 ∷ (name ++ (59 ∷ written))) (o ∷ text)) (sym shown) (reference name number written text is rest))

-- an octet before what is read
step : (octet : ℕ) (written text : List ℕ) → IsRead written text → IsRead (escaped_octet octet ++ written) (legible octet ∷ text)
unfolding escaped_octet
step octet written text rest = first (eqb octet 38) refl where
  last : (b : Bool) → (nat_lt octet 32 || nat_lt 126 octet) ≡ b → octet ≢ 38 → octet ≢ 60 →
      IsRead (cond b (codes "?") (octet ∷ []) ++ written) (cond b 63 octet ∷ text)
  last true t a l = plain 63 written text (λ e. omega arith) (λ e. omega arith) rest
  last false t a l = plain octet written text a l rest

  fourth : (b : Bool) → eqb octet 34 ≡ b → octet ≢ 38 → octet ≢ 60 →
      IsRead (cond b (codes "&quot;") (cond (nat_lt octet 32 || nat_lt 126 octet) (codes "?") (octet ∷ [])) ++ written) (legible octet ∷ text)
  fourth true t a l = referred octet 34 (codes "quot") written text (eqb-true octet 34 t) refl quotation rest
  fourth false t a l = last (nat_lt octet 32 || nat_lt 126 octet) refl a l

  third : (b : Bool) → eqb octet 62 ≡ b → octet ≢ 38 → octet ≢ 60 →
      IsRead (cond b (codes "&gt;") (cond (eqb octet 34) (codes "&quot;") (cond (nat_lt octet 32 || nat_lt 126 octet) (codes "?") (octet ∷ []))) ++ written) (legible octet ∷ text)
  third true t a l = referred octet 62 (codes "gt") written text (eqb-true octet 62 t) refl greater rest
  third false t a l = fourth (eqb octet 34) refl a l

  second : (b : Bool) → eqb octet 60 ≡ b → octet ≢ 38 →
      IsRead (cond b (codes "&lt;") (cond (eqb octet 62) (codes "&gt;") (cond (eqb octet 34) (codes "&quot;") (cond (nat_lt octet 32 || nat_lt 126 octet) (codes "?") (octet ∷ [])))) ++ written) (legible octet ∷ text)
  second true t a = referred octet 60 (codes "lt") written text (eqb-true octet 60 t) refl less rest
  second false t a = third (eqb octet 62) refl a (eqb-false octet 60 t)

  first : (b : Bool) → eqb octet 38 ≡ b →
      IsRead (cond b (codes "&amp;") (cond (eqb octet 60) (codes "&lt;") (cond (eqb octet 62) (codes "&gt;") (cond (eqb octet 34) (codes "&quot;") (cond (nat_lt octet 32 || nat_lt 126 octet) (codes "?") (octet ∷ []))))) ++ written) (legible octet ∷ text)
  first true t = referred octet 38 (codes "amp") written text (eqb-true octet 38 t) refl ampersand rest
  first false t = second (eqb octet 60) refl (eqb-false octet 38 t)

pub read_again : (text : List ℕ) → IsRead (escaped text) (map legible text)
read_again [] = nothing
read_again (octet ∷ text) = step octet (escaped text) (map legible text) (read_again text)
