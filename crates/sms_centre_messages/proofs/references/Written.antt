-- What stands under keys after one was written.
use Rattle.std.proofs.Common.{◌≡◌, ℕ, ◌+◌, ◌-◌, ◌<◌, ◌≤◌, nat_eq, cond, List, [], Bool, true, false, Option, Some, None, eq-eqb, refl, sym, ◌∙◌, ap, subst, ⊎_elim, arith}
use Rattle.std.specs.Map.{lookup}
use Rattle.std.specs.Option.{unwrap_or}
use Rattle.std.specs.Prelude.{◌&&◌, if◌then◌else◌}
use Rattle.std.specs.Str.{bytes_eq}
use Rattle.std.proofs.lemmas.Bool.{cases_Bool, and_from, and_parts, cond-true, cond-false}
use Rattle.std.proofs.lemmas.Bool.Decides.{nat_tests}
use Rattle.std.proofs.lemmas.Slice.Eq.{bytes_eq-Decides}
use Rattle.sms_centre_messages.specs.declared.references.message_ends.MessageEnds.{MessageEnds}
use Rattle.sms_centre_messages.specs.references.Counts.{AreSome, CountsOf, IsAdded, IsSet, IsTaken, counted, one_if}
use Rattle.sms_centre_messages.specs.references.Keys.{is_same, is_same_sender}

-- ---- keys

abbrev made : ℕ → ℕ → List ℕ → List ℕ → ℕ → MessageEnds
made kind plan source handset number = record {
  source = record { type_of_number = kind; plan = plan; digits = record { digits = source } };
  handset = handset;
  number = number;
}

same_number : (a b : ℕ) → nat_eq a b ≡ true → a ≡ b
same_number a b e = grind (arith, nat_tests)

pub same_key : (a b : MessageEnds) → is_same a b ≡ true → a ≡ b
same_key a b e =
    let parts = and_parts (is_same_sender a.source b.source) (bytes_eq a.handset b.handset && nat_eq a.number b.number) e in
    let sender = and_parts (nat_eq a.source.type_of_number b.source.type_of_number) (nat_eq a.source.plan b.source.plan && bytes_eq a.source.digits.digits b.source.digits.digits) parts.0 in
    let inner = and_parts (nat_eq a.source.plan b.source.plan) (bytes_eq a.source.digits.digits b.source.digits.digits) sender.1 in
    let outer = and_parts (bytes_eq a.handset b.handset) (nat_eq a.number b.number) parts.1 in
    let source : a.source.digits.digits ≡ b.source.digits.digits = (bytes_eq-Decides a.source.digits.digits b.source.digits.digits).0 inner.1 in
    let handset : a.handset ≡ b.handset = (bytes_eq-Decides a.handset b.handset).0 outer.0 in
    ap (λ (n : ℕ). made n a.source.plan a.source.digits.digits a.handset a.number) (same_number a.source.type_of_number b.source.type_of_number sender.0)
    ∙ ap (λ (n : ℕ). made b.source.type_of_number n a.source.digits.digits a.handset a.number) (same_number a.source.plan b.source.plan inner.0)
    ∙ ap (λ (l : List ℕ). made b.source.type_of_number b.source.plan l a.handset a.number) source
    ∙ ap (λ (l : List ℕ). made b.source.type_of_number b.source.plan b.source.digits.digits l a.number) handset
    ∙ ap (λ (n : ℕ). made b.source.type_of_number b.source.plan b.source.digits.digits b.handset n) (same_number a.number b.number outer.1)

-- ---- one is written

unwrapped : (b : Bool) (x y : Option ℕ) (n : ℕ) → unwrap_or x 0 ≡ n → unwrap_or (cond b x y) 0 ≡ (if b then n else unwrap_or y 0)
unwrapped true x y n e = e
unwrapped false x y n e = refl

pub set_to : (key : MessageEnds) (w : Option ℕ) (n : ℕ) (old new : CountsOf) → unwrap_or w 0 ≡ n
    → ((q : MessageEnds) → lookup (is_same q) new.entries ≡ cond (is_same key q) w (lookup (is_same q) old.entries)) → IsSet key n old new
set_to key w n old new e written = λ q.
    ap (λ (o : Option ℕ). unwrap_or o 0) (written q) ∙ unwrapped (is_same key q) w (lookup (is_same q) old.entries) n e

neither : (b : Bool) (x y : Option ℕ) → ¬ (x ≡ Some 0) → ¬ (y ≡ Some 0) → ¬ (cond b x y ≡ Some 0)
neither true x y no_x no_y e = no_x e
neither false x y no_x no_y e = no_y e

-- what is written is no 0
pub some_written : (key : MessageEnds) (w : Option ℕ) (old new : List (MessageEnds × ℕ)) → ¬ (w ≡ Some 0) → AreSome old
    → ((q : MessageEnds) → lookup (is_same q) new ≡ cond (is_same key q) w (lookup (is_same q) old)) → AreSome new
some_written key w old new no_zero some written =
    record { is_some = λ q e. neither (is_same key q) w (lookup (is_same q) old) no_zero (some.is_some q) (sym (written q) ∙ e) }

pub no_zero : (n : ℕ) → ¬ (n ≡ 0) → ¬ (Some n ≡ Some 0)
no_zero n is e = let zero : n ≡ 0 = cc in is zero

pub none_zero : (w : Option ℕ) → w ≡ None → ¬ (w ≡ Some 0)
none_zero w none e = let bad : None ≡ Some 0 = sym none ∙ e in absurd cc

-- nothing is there at first
pub some_of_none : AreSome []
some_of_none = record { is_some = λ q e. none_zero None refl e }

pub added_set : (key : MessageEnds) (more : ℕ) (old new : CountsOf) → more ≡ counted key old + 1 → IsSet key more old new → IsAdded key old new
added_set key more old new e set = λ q small. ⊎_elim
    (λ (t : is_same key q ≡ true).
    let there = set q ∙ cond-true (is_same key q) more (counted q old) t in
    let same : counted key old ≡ counted q old = ap (λ (k : MessageEnds). counted k old) (same_key key q t) in
    let one : one_if (is_same key q) ≡ 1 = ap one_if t in
    omega (arith, there, e, same, one))
    (λ (f : is_same key q ≡ false).
    let there = set q ∙ cond-false (is_same key q) more (counted q old) f in
    let none : one_if (is_same key q) ≡ 0 = ap one_if f in
    omega (arith, there, none))
    (cases_Bool (is_same key q))

pub added_full : (key : MessageEnds) (old : CountsOf) → 18446744073709551615 ≤ counted key old → IsAdded key old old
added_full key old full = λ q small. ⊎_elim
    (λ (t : is_same key q ≡ true).
    let same : counted key old ≡ counted q old = ap (λ (k : MessageEnds). counted k old) (same_key key q t) in
    absurd (omega (arith, small, full, same)))
    (λ (f : is_same key q ≡ false). let none : one_if (is_same key q) ≡ 0 = ap one_if f in omega (arith, none))
    (cases_Bool (is_same key q))

pub taken_set : (key : MessageEnds) (less : ℕ) (old new : CountsOf) → less ≡ counted key old - 1 → IsSet key less old new → IsTaken key old new
taken_set key less old new e set = λ q. ⊎_elim
    (λ (t : is_same key q ≡ true).
    let there = set q ∙ cond-true (is_same key q) less (counted q old) t in
    let same : counted key old ≡ counted q old = ap (λ (k : MessageEnds). counted k old) (same_key key q t) in
    let one : one_if (is_same key q) ≡ 1 = ap one_if t in
    there ∙ e ∙ omega (arith, same, one))
    (λ (f : is_same key q ≡ false).
    let there = set q ∙ cond-false (is_same key q) less (counted q old) f in
    let none : one_if (is_same key q) ≡ 0 = ap one_if f in
    there ∙ omega (arith, none))
    (cases_Bool (is_same key q))

-- what stands there isn't missing
pub not_missing : (key : MessageEnds) (k : CountsOf) → lookup (is_same key) k.entries ≡ None → 1 < counted key k → ⊥
not_missing key k none some =
    let zero : counted key k ≡ 0 = ap (λ (o : Option ℕ). unwrap_or o 0) none in
    omega (arith, zero, some)

pub same_here : (a b : MessageEnds) → a ≡ b → is_same a b ≡ true
same_here a b e = subst (λ (k : MessageEnds). is_same a k ≡ true) e
    (and_from (is_same_sender a.source a.source) (bytes_eq a.handset a.handset && nat_eq a.number a.number)
    (and_from (nat_eq a.source.type_of_number a.source.type_of_number) (nat_eq a.source.plan a.source.plan && bytes_eq a.source.digits.digits a.source.digits.digits)
    (eq-eqb a.source.type_of_number a.source.type_of_number refl)
    (and_from (nat_eq a.source.plan a.source.plan) (bytes_eq a.source.digits.digits a.source.digits.digits)
    (eq-eqb a.source.plan a.source.plan refl) ((bytes_eq-Decides a.source.digits.digits a.source.digits.digits).1 refl)))
    (and_from (bytes_eq a.handset a.handset) (nat_eq a.number a.number)
    ((bytes_eq-Decides a.handset a.handset).1 refl) (eq-eqb a.number a.number refl)))
