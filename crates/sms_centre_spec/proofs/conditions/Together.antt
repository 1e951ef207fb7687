-- Two and three tests that hold together.
use Rattle.std.proofs.Common.{◌≡◌, Bool, true, sym, ◌∙◌}
use Rattle.std.specs.Prelude.{◌&&◌}
use Rattle.std.proofs.lemmas.Bool.{and_from, and_parts}

pub record Both (a b : Bool) : Type 0 where
  pub one : a ≡ true
  pub other : b ≡ true

pub both_from : (x y out a b : Bool) → x ≡ a → y ≡ b → out ≡ x && y → out ≡ true → Both a b
both_from x y out a b p q o e = let r = and_parts x y (sym o ∙ e) in record { one = sym p ∙ r.0; other = sym q ∙ r.1 }

pub both_to : (x y out a b : Bool) → x ≡ a → y ≡ b → out ≡ x && y → a ≡ true → b ≡ true → out ≡ true
both_to x y out a b p q o e f = o ∙ and_from x y (p ∙ e) (q ∙ f)

pub record Three (a b c : Bool) : Type 0 where
  pub first : a ≡ true
  pub second : b ≡ true
  pub third : c ≡ true

pub three_from : (x y z inner out a b c : Bool) → x ≡ a → y ≡ b → z ≡ c → inner ≡ y && z → out ≡ x && inner → out ≡ true → Three a b c
three_from x y z inner out a b c p q r i o e =
    let s = and_parts x inner (sym o ∙ e) in
    let t = and_parts y z (sym i ∙ s.1) in
    record { first = sym p ∙ s.0; second = sym q ∙ t.0; third = sym r ∙ t.1 }

pub three_to : (x y z inner out a b c : Bool) → x ≡ a → y ≡ b → z ≡ c → inner ≡ y && z → out ≡ x && inner → a ≡ true → b ≡ true → c ≡ true → out ≡ true
three_to x y z inner out a b c p q r i o e f g = o ∙ and_from x inner (p ∙ e) (i ∙ and_from y z (q ∙ f) (r ∙ g))
