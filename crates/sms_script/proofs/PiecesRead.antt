-- A text that is read piece by piece.
use Rattle.std.proofs.Common.{◌≡◌, ◌<◌, ℕ, List, [], ◌++◌, length, take, Option, Some, None, true, inl, inr, sym, ap, ◌∙◌}
use Rattle.std.specs.Prelude.{IfSome}
use Rattle.std.specs.Io.KnownBytes.{Consumes, IsAtEnd}
use Rattle.std.proofs.KnownBytes.{Consumes-trans}
use Rattle.sms_script.specs.Limits.{IsEnoughOf, passes_limits}

pub read_none : (known : Option (List ℕ)) (front : List ℕ) → front ≡ [] → Consumes known known front
read_none None front e = tt
read_none (Some text) front e = sym (ap (λ (l : List ℕ). l ++ text) e)

pub read_more : (a b c : Option (List ℕ)) (front piece more : List ℕ) → more ≡ front ++ piece → Consumes a b front → Consumes b c piece → Consumes a c more
read_more None b c front piece more e p q = tt
read_more (Some x) None c front piece more e p q = absurd p
read_more (Some x) (Some y) None front piece more e p q = absurd q
read_more (Some x) (Some y) (Some z) front piece more e p q = let h = Consumes-trans (Some x) (Some y) (Some z) front piece p q in h ∙ ap (λ (l : List ℕ). l ++ z) (sym e)

-- a read that gave nothing is at the end: the front is the whole text
pub read_whole : (a b c : Option (List ℕ)) (front room : List ℕ) (count : ℕ) → Consumes a b front → Consumes b c (take count room) × (count ≡ 0 → 0 < length room → IsAtEnd c) → count ≡ 0 → 0 < length room
    → IfSome a (λ (text : List ℕ). IsEnoughOf text front)
read_whole None b c front room count p q none some = tt
read_whole (Some x) None c front room count p q none some = absurd p
read_whole (Some x) (Some y) None front room count p q none some = absurd q.0
read_whole (Some x) (Some y) (Some z) front room count p q none some =
    (y, p, inl (q.0 ∙ ap (λ (n : ℕ). take n room ++ z) none ∙ q.1 none some))

-- before the end it is enough where a line passes a limit
pub read_enough : (a b : Option (List ℕ)) (front : List ℕ) → Consumes a b front → passes_limits front ≡ true → IfSome a (λ (text : List ℕ). IsEnoughOf text front)
read_enough None b front p past = tt
read_enough (Some x) None front p past = absurd p
read_enough (Some x) (Some y) front p past = (y, p, inr past)
