-- Who holds a reference, decided and said.
use Rattle.sms_base.specs.declared.holder.Holder.{Holder}
use Rattle.sms_base.specs.declared.holder.Holder.TheVariants.{Entry, Memory, Part, Report}
use Rattle.sms_play.specs.Premises.{is_held_by, is_same_holder}
use Rattle.std.proofs.Common.{ap, refl, sym, ◌∙◌}
use Rattle.std.proofs.lemmas.Bool.{and_from, and_parts, eq-eqb, eqb-true}
use Rattle.std.specs.Prelude.{None, Option, Some, true, ◌==◌, ◌≡◌}

-- ---- holders

holder_same : (a b : Holder) → is_same_holder a b ≡ true → a ≡ b
holder_same (Part a m) (Part b n) e =
    let p = and_parts (a == b) (m == n) e in
    let x : a ≡ b = eqb-true a b p.0 in
    let y : m ≡ n = eqb-true m n p.1 in
    λ j. Part (x j) (y j)
holder_same (Report a) (Report b) e = ap Report (eqb-true a b e)
holder_same (Entry m) (Entry n) e = ap Entry (eqb-true m n e)
holder_same (Memory m) (Memory n) e = ap Memory (eqb-true m n e)
holder_same (Part a m) (Report b) e = absurd cc
holder_same (Part a m) (Entry b) e = absurd cc
holder_same (Part a m) (Memory b) e = absurd cc
holder_same (Report a) (Part b n) e = absurd cc
holder_same (Report a) (Entry b) e = absurd cc
holder_same (Report a) (Memory b) e = absurd cc
holder_same (Entry a) (Part b n) e = absurd cc
holder_same (Entry a) (Report b) e = absurd cc
holder_same (Entry a) (Memory b) e = absurd cc
holder_same (Memory a) (Part b n) e = absurd cc
holder_same (Memory a) (Report b) e = absurd cc
holder_same (Memory a) (Entry b) e = absurd cc

holder_one : (a : Holder) → is_same_holder a a ≡ true
holder_one (Part a m) = and_from (a == a) (m == m) (eq-eqb a a refl) (eq-eqb m m refl)
holder_one (Report a) = eq-eqb a a refl
holder_one (Entry m) = eq-eqb m m refl
holder_one (Memory m) = eq-eqb m m refl

pub held_is : (holder : Holder) (o : Option Holder) → is_held_by holder o ≡ true → o ≡ Some holder
held_is holder None e = absurd cc
held_is holder (Some x) e = ap (λ z. Some z) (sym (holder_same holder x e))

pub is_held : (holder : Holder) (o : Option Holder) → o ≡ Some holder → is_held_by holder o ≡ true
is_held holder o e = ap (λ z. is_held_by holder z) e ∙ holder_one holder
