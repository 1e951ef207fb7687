-- Parts joined with one more part among them.
use Rattle.std.proofs.Common.{◌≡◌, ℕ, suc, ◌+◌, Bool, true, ◌&&◌, eqb, cond, List, [], ◌∷◌, ◌++◌, length, Some, None, refl, sym, ap, ◌∙◌, arith, append_assoc, Result, Ok, Err, ◌<◌, ◌≤◌, slice_index_or}
use Rattle.std.specs.Prelude.{OnErr}
use Rattle.sms_base.proofs.Bools.{and_assoc}
use Rattle.sms_alphabet.specs.declared.concat_key.ConcatReference.{ConcatReference}
use Rattle.sms_concat.specs.declared.content.Content.{Content}
use Rattle.sms_concat.specs.declared.content.Part.{Part}
use Rattle.sms_concat.specs.Joining.{key_or_alone, bears, bear_from, is_whole, units_of, content_joined}

bear_append : (r : ConcatReference) (t d n : ℕ) (xs : List Part) (p : Part) (ys : List Part)
    → (bear_from r t d n xs && (bears r t d (n + length xs) p && bear_from r t d (n + length xs + 1) ys)) ≡ bear_from r t d n (xs ++ p ∷ ys)
bear_append r t d n [] p ys =
    let e : n + 0 ≡ n = omega arith in
    ap (λ (k : ℕ). bears r t d k p && bear_from r t d (k + 1) ys) e
bear_append r t d n (x ∷ xs) p ys =
    let e : n + suc (length xs) ≡ n + 1 + length xs = omega arith in
    and_assoc (bears r t d n x) (bear_from r t d (n + 1) xs) (bears r t d (n + suc (length xs)) p && bear_from r t d (n + suc (length xs) + 1) ys)
    ∙ ap (λ (k : ℕ). bears r t d n x && (bear_from r t d (n + 1) xs && (bears r t d k p && bear_from r t d (k + 1) ys))) e
    ∙ ap (λ (b : Bool). bears r t d n x && b) (bear_append r t d (n + 1) xs p ys)

-- the three tests of the code
bear_around : (r : ConcatReference) (t d m : ℕ) (xs : List Part) (p : Part) (ys : List Part) → m ≡ length xs + 1
    → (bear_from r t d 1 xs && bears r t d m p && bear_from r t d (m + 1) ys) ≡ bear_from r t d 1 (xs ++ p ∷ ys)
bear_around r t d m xs p ys e =
    let f : m ≡ 1 + length xs = omega (arith, e) in
    ap (λ (k : ℕ). bear_from r t d 1 xs && bears r t d k p && bear_from r t d (k + 1) ys) f
    ∙ and_assoc (bear_from r t d 1 xs) (bears r t d (1 + length xs) p) (bear_from r t d (1 + length xs + 1) ys)
    ∙ bear_append r t d 1 xs p ys

pub around_told : (r : ConcatReference) (t d m : ℕ) (xs : List Part) (p : Part) (ys : List Part) (a b c w : Bool) → m ≡ length xs + 1
    → a ≡ bear_from r t d 1 xs → b ≡ bears r t d m p → c ≡ bear_from r t d (m + 1) ys → w ≡ (a && b && c) → w ≡ bear_from r t d 1 (xs ++ p ∷ ys)
around_told r t d m xs p ys a b c w e f g h is =
    is ∙ ap (λ (x : Bool). x && b && c) f ∙ ap (λ (x : Bool). bear_from r t d 1 xs && x && c) g
    ∙ ap (λ (x : Bool). bear_from r t d 1 xs && bears r t d m p && x) h ∙ bear_around r t d m xs p ys e

pub units_around : (xs : List Part) (p : Part) (ys : List Part) → (units_of xs ++ p.content.units) ++ units_of ys ≡ units_of (xs ++ p ∷ ys)
units_around [] p ys = refl
units_around (x ∷ xs) p ys =
    ap (λ (us : List ℕ). us ++ units_of ys) (append_assoc x.content.units (units_of xs) p.content.units)
    ∙ append_assoc x.content.units (units_of xs ++ p.content.units) (units_of ys)
    ∙ ap (λ (us : List ℕ). x.content.units ++ us) (units_around xs p ys)

-- the content, where the first of the parts is known
pub whole_from : (first : Part) (rest l : List Part) (b : Bool) → l ≡ first ∷ rest
    → b ≡ (eqb (key_or_alone first.key).total (length l) && bear_from (key_or_alone first.key).reference (key_or_alone first.key).total first.content.dcs 1 l)
    → b ≡ is_whole l
whole_from first rest l b e is =
    is
    ∙ ap (λ (m : List Part). eqb (key_or_alone first.key).total (length m) && bear_from (key_or_alone first.key).reference (key_or_alone first.key).total first.content.dcs 1 m) e
    ∙ sym (ap (λ (m : List Part). is_whole m) e)

pub joined_from : (first : Part) (rest l : List Part) (b : Bool) → l ≡ first ∷ rest
    → b ≡ (eqb (key_or_alone first.key).total (length l) && bear_from (key_or_alone first.key).reference (key_or_alone first.key).total first.content.dcs 1 l)
    → content_joined l ≡ cond b (Some (record { coding = first.content.coding; dcs = first.content.dcs; units = units_of l })) None
joined_from first rest l b e is =
    let whole = whole_from first rest l b e is in
    ap (λ (m : List Part). content_joined m) e
    ∙ ap (λ (c : Bool). cond c (Some (record { coding = first.content.coding; dcs = first.content.dcs; units = units_of (first ∷ rest) })) None) (sym (whole ∙ ap (λ (m : List Part). is_whole m) e))
    ∙ ap (λ (m : List Part). cond b (Some (record { coding = first.content.coding; dcs = first.content.dcs; units = units_of m })) None) (sym e)

-- ---- the first of the parts

pub on_err : {X E : Type 0} (P : Type 0) (r : Result X E) → P → OnErr r P
on_err P (Ok x) p = tt
on_err P (Err e) p = p

pub joins_then : (first : Part) (rest l : List Part) (b : Bool) → l ≡ first ∷ rest
    → b ≡ (eqb (key_or_alone first.key).total (length l) && bear_from (key_or_alone first.key).reference (key_or_alone first.key).total first.content.dcs 1 l)
    → b ≡ true → (content : Content) × (content_joined l ≡ Some content)
joins_then first rest l b e is t =
    let made : Content = record { coding = first.content.coding; dcs = first.content.dcs; units = units_of l } in
    (made, joined_from first rest l b e is ∙ ap (λ (c : Bool). cond c (Some made) None) t)

pub front_empty : (xs : List Part) (p : Part) (ys : List Part) → length xs < 1 → (rest : List Part) × (xs ++ p ∷ ys ≡ p ∷ rest)
front_empty [] p ys l = (ys, refl)
front_empty (x ∷ xs) p ys l = absurd (omega (arith, l))

pub front_some : (xs : List Part) (p : Part) (ys : List Part) (x : Part) → 1 ≤ length xs → x ≡ slice_index_or xs 0 x → (rest : List Part) × (xs ++ p ∷ ys ≡ x ∷ rest)
front_some [] p ys x l e = absurd (omega (arith, l))
front_some (y ∷ xs) p ys x l e = (xs ++ p ∷ ys, ap (λ (z : Part). z ∷ (xs ++ p ∷ ys)) (sym e))
