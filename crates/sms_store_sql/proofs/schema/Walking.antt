-- Columns, one after another.
use Rattle.std.proofs.Common.{◌≡◌, ℕ, ◌+◌, ◌<◌, List, [], ◌∷◌, ◌++◌, map, take, length, get_or, sym, ap₂, ◌∙◌, arith}
use Rattle.std.proofs.lemmas.List.{take_more, take_all, length-map, get_or-map}

module _ {A B : Type 0} (f : A → B) (xs : List B) (ys : List A) where
  pub more_alike : (i : ℕ) (x : B) (d : A) → i < length xs → i < length ys → x ≡ get_or xs i x → x ≡ f (get_or ys i d) → take i xs ≡ take i (map f ys) → take (i + 1) xs ≡ take (i + 1) (map f ys)
  more_alike i x d low under here same before =
      let in_map : i < length (map f ys) = omega (arith, under, length-map ys f) in
      let other : get_or (map f ys) i x ≡ x = get_or-map f ys i d x under ∙ sym same in
      take_more xs i x low ∙ ap₂ (λ front z. front ++ z ∷ []) before (sym here ∙ sym other) ∙ sym (take_more (map f ys) i x in_map)

  pub all_alike : (i : ℕ) → i ≡ length ys → length xs ≡ length ys → take i xs ≡ take i (map f ys) → xs ≡ map f ys
  all_alike i end same before = sym (take_all i xs (omega (arith, end, same))) ∙ before ∙ take_all i (map f ys) (omega (arith, end, length-map ys f))
