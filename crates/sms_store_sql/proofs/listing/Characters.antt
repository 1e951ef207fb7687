-- Texts, character by character.
use Rattle.std.proofs.Common.{◌≡◌, ℕ, ◌+◌, ◌<◌, ◌≤◌, List, [], ◌∷◌, ◌++◌, take, length, get_or, true, encode_utf8, encode_utf8_all, refl, sym, ap, ◌∙◌, arith, append-nil}
use lib.Utf8.{scalar}
use Rattle.std.specs.Str.{all_scalars}
use Rattle.std.proofs.lemmas.List.{take_more, take_all, length_push}
use Rattle.std.proofs.lemmas.Str.{encodes-append}
use Rattle.std.proofs.lemmas.Bool.{and_from, and_parts}

-- the characters so far
pub record Gathered (all so_far : List ℕ) (n : ℕ) : Type 0 where
  pub front : so_far ≡ take n all
  pub count : length so_far ≡ n
  pub few : n ≤ 20

pub gathered_none : (all : List ℕ) → Gathered all [] 0
gathered_none all = record { front = refl; count = refl; few = omega arith }

pub gathered_more : (all so_far : List ℕ) (n c : ℕ) → Gathered all so_far n → (n < length all) × (c ≡ get_or all n c) → n < 20 → Gathered all (so_far ++ c ∷ []) (n + 1)
gathered_more all so_far n c g h room = record {
  front = ap (λ (cs : List ℕ). cs ++ c ∷ []) g.front ∙ ap (λ (x : ℕ). take n all ++ x ∷ []) h.1 ∙ sym (take_more all n c h.0);
  count = omega (arith, g.count, length_push so_far c);
  few = omega arith;
}

pub gathered_all : (all so_far : List ℕ) (n : ℕ) → Gathered all so_far n → n ≡ length all → so_far ≡ all
gathered_all all so_far n g e = g.front ∙ take_all n all (omega arith)

-- the text of the characters so far
pub record Spelled (all text : List ℕ) (n : ℕ) : Type 0 where
  pub spells : text ≡ encode_utf8_all (take n all)
  pub are : all_scalars (take n all) ≡ true

scalars_push : (cs : List ℕ) (c : ℕ) → all_scalars cs ≡ true → all_scalars (c ∷ []) ≡ true → all_scalars (cs ++ c ∷ []) ≡ true
scalars_push [] c p q = q
scalars_push (d ∷ cs) c p q = let both = and_parts (scalar d) (all_scalars cs) p in and_from (scalar d) (all_scalars (cs ++ c ∷ [])) both.0 (scalars_push cs c both.1 q)

pub spelled_more : (all text : List ℕ) (n c : ℕ) → Spelled all text n → n < length all → c ≡ get_or all n c → all_scalars (c ∷ []) ≡ true → Spelled all (text ++ encode_utf8 c) (n + 1)
spelled_more all text n c s inside here scalar =
    let next : take (n + 1) all ≡ take n all ++ c ∷ [] = take_more all n c inside ∙ ap (λ (x : ℕ). take n all ++ x ∷ []) (sym here) in
    record {
      spells = rw (next, encodes-append (take n all) (c ∷ []), s.spells, append-nil (encode_utf8 c)) refl;
      are = rw next (scalars_push (take n all) c s.are scalar);
    }
