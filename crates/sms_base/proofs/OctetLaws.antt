-- Laws of octets: of parts of a list, and of tests of two lists.
use Rattle.std.proofs.Common.{◌≡◌, ◌⊎◌, ℕ, suc, ◌<◌, List, [], ◌∷◌, ◌++◌, get_or, true, false, bytes_eq, subst, inl, inr, ⊎_elim, refl}
use Rattle.std.proofs.lemmas.Bool.{cases_Bool}
use Rattle.std.proofs.lemmas.Slice.Eq.{bytes_eq-Decides}
use Rattle.sms_base.specs.Reading.{AreOctets}

-- ---- numbers of a list that are octets

abbrev pub IsBytes : List ℕ → Type 0
IsBytes bytes = (i : ℕ) → get_or bytes i 0 < 256

pub bytes_rest : (o : ℕ) (xs ys : List ℕ) → ys ≡ o ∷ xs → IsBytes ys → IsBytes xs
bytes_rest o xs ys e h = let g : IsBytes (o ∷ xs) = subst IsBytes e h in λ i. g (suc i)

pub are_octets : (octets : List ℕ) → ((i : ℕ) → get_or octets i 0 < 256) → AreOctets octets
are_octets [] h = tt
are_octets (octet ∷ octets) h = (h 0, are_octets octets (λ i. h (suc i)))

pub octets_before : (xs ys : List ℕ) → AreOctets (xs ++ ys) → AreOctets xs
octets_before [] ys h = tt
octets_before (x ∷ xs) ys h = (h.0, octets_before xs ys h.1)

pub octets_behind : (xs ys : List ℕ) → AreOctets (xs ++ ys) → AreOctets ys
octets_behind [] ys h = h
octets_behind (x ∷ xs) ys h = octets_behind xs ys h.1

-- ---- two lists

pub same_octets : (a b : List ℕ) → bytes_eq a b ≡ true → a ≡ b
same_octets a b e = (bytes_eq-Decides a b).0 e

pub octets_themselves : (xs : List ℕ) → bytes_eq xs xs ≡ true
octets_themselves xs = (bytes_eq-Decides xs xs).1 refl

pub differ : (a b : List ℕ) → ¬ (a ≡ b) → bytes_eq a b ≡ false
differ a b ne = ⊎_elim
    (λ (t : bytes_eq a b ≡ true). absurd (ne ((bytes_eq-Decides a b).0 t)))
    (λ (t : bytes_eq a b ≡ false). t)
    (cases_Bool (bytes_eq a b))

pub cases_octets : (a b : List ℕ) → (a ≡ b) ⊎ (a ≡ b → ⊥)
cases_octets a b = ⊎_elim
    (λ (t : bytes_eq a b ≡ true). inl ((bytes_eq-Decides a b).0 t))
    (λ (t : bytes_eq a b ≡ false). inr (λ e. let y : bytes_eq a b ≡ true = (bytes_eq-Decides a b).1 e in absurd cc))
    (cases_Bool (bytes_eq a b))
