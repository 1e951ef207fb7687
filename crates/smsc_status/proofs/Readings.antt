-- A text between quotation marks is read as the text.
use Rattle.std.proofs.Common.{◌≡◌, ◌≢◌, ℕ, Bool, true, false, cond, eqb, List, [], ◌∷◌, ◌++◌, map, refl, sym, subst, arith, eqb-true}
use Rattle.std.specs.Prelude.{◌||◌, nat_lt, codes}
use Rattle.std.proofs.lemmas.Bool.{eqb-false}
use Rattle.sms_base.specs.MarkupReading.{legible}
use Rattle.smsc_status.specs.Quoting.{quoted, quoted_octet}
use Rattle.smsc_status.specs.Reading.{IsEscaped, mark, backslash, IsUnquoted, none, itself, preceded}

-- a mark with its backslash before what is read
marked : (octet number : ℕ) (written text : List ℕ) → octet ≡ number → legible number ≡ number → IsEscaped number → IsUnquoted written text →
    IsUnquoted (92 ∷ number ∷ written) (legible octet ∷ text)
marked octet number written text same shown is rest =
    subst (λ (o : ℕ). IsUnquoted (92 ∷ number ∷ written) (legible o ∷ text)) (sym same)
    (subst (λ (o : ℕ). IsUnquoted (92 ∷ number ∷ written) (o ∷ text)) (sym shown) (preceded number written text is rest))

quoted_step : (octet : ℕ) (written text : List ℕ) → IsUnquoted written text → IsUnquoted (quoted_octet octet ++ written) (legible octet ∷ text)
unfolding quoted_octet
quoted_step octet written text rest = first (eqb octet 34) refl where
  last : (b : Bool) → (nat_lt octet 32 || nat_lt 126 octet) ≡ b → octet ≢ 34 → octet ≢ 92 →
      IsUnquoted (cond b (codes "?") (octet ∷ []) ++ written) (cond b 63 octet ∷ text)
  last true t a l = itself 63 written text (λ e. omega arith) (λ e. omega arith) rest
  last false t a l = itself octet written text a l rest

  second : (b : Bool) → eqb octet 92 ≡ b → octet ≢ 34 →
      IsUnquoted (cond b (92 ∷ 92 ∷ []) (cond (nat_lt octet 32 || nat_lt 126 octet) (codes "?") (octet ∷ [])) ++ written) (legible octet ∷ text)
  second true t a = marked octet 92 written text (eqb-true octet 92 t) refl backslash rest
  second false t a = last (nat_lt octet 32 || nat_lt 126 octet) refl a (eqb-false octet 92 t)

  first : (b : Bool) → eqb octet 34 ≡ b →
      IsUnquoted (cond b (92 ∷ 34 ∷ []) (cond (eqb octet 92) (92 ∷ 92 ∷ []) (cond (nat_lt octet 32 || nat_lt 126 octet) (codes "?") (octet ∷ []))) ++ written) (legible octet ∷ text)
  first true t = marked octet 34 written text (eqb-true octet 34 t) refl mark rest
  first false t = second (eqb octet 92) refl (eqb-false octet 34 t)

pub unquoted_again : (text : List ℕ) → IsUnquoted (quoted text) (map legible text)
unquoted_again [] = none
unquoted_again (octet ∷ text) = quoted_step octet (quoted text) (map legible text) (unquoted_again text)
