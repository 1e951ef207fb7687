-- A front that is enough is judged as the whole input.
use Rattle.std.proofs.Common.{◌≡◌, ◌⊎◌, ℕ, ◌+◌, ◌<◌, ◌≤◌, Bool, true, false, eqb, ltb, List, [], ◌∷◌, ◌++◌, length, Option, Some, None, Result, Ok, Err, refl, sym, ap, ◌∙◌, arith, inl, inr}
use Rattle.std.specs.Prelude.{IfSome, OnOk}
use Rattle.std.proofs.lemmas.Bool.{lt-ltb, ltb-true, ltb-false, ne_eqb}
use Rattle.std.proofs.lemmas.List.{length-append}
use Rattle.hex.specs.Hex.{decode_of}
use Rattle.hex.specs.declared.error.FromHexError.{FromHexError}
use Rattle.sms_relay_run.specs.Fronts.{IsFront}
use Rattle.sms_relay_run.specs.Lines.{first_line, behind_line, frame_in, line_octets, alone, longest_line}
use Rattle.sms_relay_run.proofs.Frames.{Cut, frame_is}
use Rattle.sms_relay_run.specs.Run.{IsOutput}
use Rattle.sms_base.specs.declared.address.Address.{Address}

-- the first line ends in the front
record Ends (front rest : List ℕ) : Type 0 where
  line : first_line (front ++ rest) ≡ first_line front
  behind : behind_line (front ++ rest) ≡ behind_line front ++ rest
  len : length front ≡ length (first_line front) + 1 + length (behind_line front)

-- or the front is a part of it
record Extends (front rest : List ℕ) : Type 0 where
  line : first_line front ≡ front
  long : length front ≤ length (first_line (front ++ rest))

parts : (front rest : List ℕ) → Ends front rest ⊎ Extends front rest
parts [] rest = inr (record { line = refl; long = omega arith })
parts (x ∷ xs) rest = more (eqb x 10) refl (parts xs rest) where
  more : (b : Bool) → eqb x 10 ≡ b → Ends xs rest ⊎ Extends xs rest → Ends (x ∷ xs) rest ⊎ Extends (x ∷ xs) rest
  more true e p = inl (record { line = rw e refl; behind = rw e refl; len = rw e (omega arith) })
  more false e (inl p) = inl (record { line = rw e (ap (λ (l : List ℕ). x ∷ l) p.line); behind = rw e p.behind; len = rw e (omega (arith, p.len)) })
  more false e (inr p) = inr (record { line = rw e (ap (λ (l : List ℕ). x ∷ l) p.line); long = rw e (omega (arith, p.long)) })

two : (octets behind : List ℕ) → 0 < length behind → alone octets behind ≡ Err 2
two octets [] lt = absurd (omega arith)
two octets (x ∷ xs) lt = refl

same_octets : (r : Result (List ℕ) FromHexError) (a b : List ℕ) → 0 < length a → 0 < length b → line_octets r a ≡ line_octets r b
same_octets (Ok octets) a b p q = two octets a p ∙ sym (two octets b q)
same_octets (Err e) a b p q = refl

whole_cut : (input : List ℕ) → 0 < length input → Cut input (first_line input) (behind_line input)
whole_cut input lt = record { some = ne_eqb _ _ (λ e. omega arith); line_is = refl; behind_is = refl }

long_line : (input : List ℕ) → longest_line < length (first_line input) → 0 < length input → frame_in input ≡ Err 1
long_line input long some = frame_is input (first_line input) (behind_line input) (whole_cut input some) ∙ rw (lt-ltb longest_line (length (first_line input)) long) refl

judged_ends : (front rest : List ℕ) (b : Bool) → ltb longest_line (length (first_line front)) ≡ b → Ends front rest → longest_line + 2 ≤ length front → frame_in (front ++ rest) ≡ frame_in front
judged_ends front rest true t p enough =
    let long : longest_line < length (first_line front) = ltb-true _ _ t in
    let long' : longest_line < length (first_line (front ++ rest)) = omega (arith, ap length p.line) in
    long_line (front ++ rest) long' (omega (arith, length-append front rest)) ∙ sym (long_line front long (omega arith))
judged_ends front rest false t p enough =
    let short : length (first_line front) ≤ longest_line = ltb-false _ _ t in
    let some : 0 < length (behind_line front) = omega (arith, p.len) in
    let more : 0 < length (behind_line front ++ rest) = omega (arith, length-append (behind_line front) rest) in
    let whole : frame_in (front ++ rest) ≡ line_octets (decode_of (first_line front)) (behind_line front ++ rest) =
    frame_is (front ++ rest) (first_line front) (behind_line front ++ rest) (record { some = ne_eqb _ _ (λ e. omega (arith, length-append front rest)); line_is = sym p.line; behind_is = sym p.behind })
    ∙ rw t refl in
    let alone : frame_in front ≡ line_octets (decode_of (first_line front)) (behind_line front) =
    frame_is front (first_line front) (behind_line front) (whole_cut front (omega arith)) ∙ rw t refl in
    whole ∙ same_octets (decode_of (first_line front)) (behind_line front ++ rest) (behind_line front) more some ∙ sym alone

judged : (front rest : List ℕ) → longest_line + 2 ≤ length front → frame_in (front ++ rest) ≡ frame_in front
judged front rest enough = elim (parts front rest) [
  | inl p ↦ judged_ends front rest (ltb longest_line (length (first_line front))) refl p enough
  | inr p ↦ long_line (front ++ rest) (omega (arith, p.long)) (omega (arith, length-append front rest)) ∙ sym (long_line front (omega (arith, ap length p.line)) (omega arith))
]

pub front_judges : (input front : List ℕ) → IsFront input front → frame_in input ≡ frame_in front
front_judges input front (inl e) = ap frame_in (sym e)
front_judges input front (inr (rest, e, enough)) = ap frame_in e ∙ judged front rest enough

pub if_some_of : (P Q : List ℕ → Type 0) (o : Option (List ℕ)) → IfSome o P → ((x : List ℕ) → P x → Q x) → IfSome o Q
if_some_of P Q (Some x) p f = f x p
if_some_of P Q None p f = tt

-- what is written for enough of an input is written for the input
pub written_for : (centre from : Address) (now : ℕ) (input front text : List ℕ) (write : List ℕ → Type 0) → IsFront input front → IsOutput centre from now front text → write text → (x : List ℕ) × IsOutput centre from now input x × write x
written_for centre from now input front text write p o done = (text, (o.0, front_judges input front p ∙ o.1, o.2), done)

pub on_ok : {P Q : Type 0} {E : Type 0} (r : Result (Unit {0}) E) → OnOk r P → (P → Q) → OnOk r Q
on_ok (Ok done) p f = f p
on_ok (Err e) p f = tt
