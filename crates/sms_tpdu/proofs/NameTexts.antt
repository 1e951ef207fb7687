-- The text of septets, septet by septet.
use Rattle.std.proofs.Common.{◌≡◌, ℕ, suc, ◌+◌, ◌-◌, ◌/◌, ◌%◌, ◌^◌, ◌<◌, ◌≤◌, Bool, true, false, eqb, List, [], ◌∷◌, ◌++◌, length, refl, sym, ap, subst, ◌∙◌, append_assoc, arith}
use Rattle.std.proofs.lemmas.Bool.{ne_eqb}
use Rattle.std.proofs.lemmas.List.{append-nil, length_push}
use Rattle.std.proofs.Math.Nat.{pow-succ', pow-zero, div-div-eq-div-mul}
use Rattle.sms_base.specs.Alphabet.{text_in, main_character, escaped_character}
use Rattle.sms_base.specs.declared.alphabet.TheConstants.{ESCAPE}
use Rattle.sms_alphabet.specs.Packing.{digits_in}

-- an ESC whose septet is still to come
abbrev pub pending : Bool → List ℕ
pending true = ESCAPE ∷ []
pending false = []

pub record Spells (text : List ℕ) (rest : ℕ) (is_escaped : Bool) (i count value : ℕ) : Type 0 where
  pub room : length text + length (pending is_escaped) ≤ i
  pub same : text ++ text_in (pending is_escaped ++ digits_in 128 (count - i) rest) ≡ text_in (digits_in 128 count value)
  pub above : rest / 128 ^ (count - i) ≡ value / 128 ^ count

pub spells_none : (count value : ℕ) → Spells [] value false 0 count value
spells_none count value =
    let k : count - 0 ≡ count = omega arith in
    record { room = omega arith; same = rw k refl; above = rw k refl }

one_less : (count i : ℕ) → i < count → count - i ≡ suc (count - (i + 1))
one_less count i lt = omega arith

above_more : (n v : ℕ) → v / 128 ^ suc n ≡ v / 128 / 128 ^ n
above_more n v = ap (λ (k : ℕ). v / k) (pow-succ' 128 n) ∙ sym (div-div-eq-div-mul v 128 (128 ^ n))

plain_reads : (s : ℕ) (rest : List ℕ) → eqb s ESCAPE ≡ false → text_in (s ∷ rest) ≡ main_character s ∷ text_in rest
plain_reads s [] e = rw e refl
plain_reads s (n ∷ rest) e = rw e refl

pub spells_plain : (text : List ℕ) (rest s : ℕ) (i count value : ℕ) → i < count → s ≡ rest % 128 → (s ≡ ESCAPE → ⊥) → Spells text rest false i count value → Spells (text ++ main_character s ∷ []) (rest / 128) false (i + 1) count value
spells_plain text rest s i count value lt is plain w =
    let k = one_less count i lt in
    let test : eqb s ESCAPE ≡ false = ne_eqb s ESCAPE plain in
    let tail = digits_in 128 (count - (i + 1)) (rest / 128) in
    let shape : digits_in 128 (count - i) rest ≡ s ∷ tail = ap (λ (n : ℕ). digits_in 128 n rest) k ∙ ap (λ (x : ℕ). x ∷ tail) (sym is) in
    let read : text_in (digits_in 128 (count - i) rest) ≡ main_character s ∷ text_in tail = ap text_in shape ∙ plain_reads s tail test in
    record {
      room = omega (arith, w.room, length_push text (main_character s));
      same = append_assoc text (main_character s ∷ []) (text_in tail) ∙ ap (λ (l : List ℕ). text ++ l) (sym read) ∙ w.same;
      above = sym (above_more (count - (i + 1)) rest) ∙ ap (λ (n : ℕ). rest / 128 ^ n) (sym k) ∙ w.above;
    }

pub spells_escape : (text : List ℕ) (rest s : ℕ) (i count value : ℕ) → i < count → s ≡ rest % 128 → s ≡ ESCAPE → Spells text rest false i count value → Spells text (rest / 128) true (i + 1) count value
spells_escape text rest s i count value lt is escape w =
    let k = one_less count i lt in
    let tail = digits_in 128 (count - (i + 1)) (rest / 128) in
    let shape : digits_in 128 (count - i) rest ≡ ESCAPE ∷ tail = ap (λ (n : ℕ). digits_in 128 n rest) k ∙ ap (λ (x : ℕ). x ∷ tail) (sym is ∙ escape) in
    record {
      room = omega (arith, w.room);
      same = ap (λ (l : List ℕ). text ++ text_in l) (sym shape) ∙ w.same;
      above = sym (above_more (count - (i + 1)) rest) ∙ ap (λ (n : ℕ). rest / 128 ^ n) (sym k) ∙ w.above;
    }

pub spells_escaped : (text : List ℕ) (rest s : ℕ) (i count value : ℕ) → i < count → s ≡ rest % 128 → Spells text rest true i count value → Spells (text ++ escaped_character s ∷ []) (rest / 128) false (i + 1) count value
spells_escaped text rest s i count value lt is w =
    let k = one_less count i lt in
    let tail = digits_in 128 (count - (i + 1)) (rest / 128) in
    let shape : digits_in 128 (count - i) rest ≡ s ∷ tail = ap (λ (n : ℕ). digits_in 128 n rest) k ∙ ap (λ (x : ℕ). x ∷ tail) (sym is) in
    let read : text_in (ESCAPE ∷ digits_in 128 (count - i) rest) ≡ escaped_character s ∷ text_in tail = ap (λ (l : List ℕ). text_in (ESCAPE ∷ l)) shape in
    record {
      room = omega (arith, w.room, length_push text (escaped_character s));
      same = append_assoc text (escaped_character s ∷ []) (text_in tail) ∙ ap (λ (l : List ℕ). text ++ l) (sym read) ∙ w.same;
      above = sym (above_more (count - (i + 1)) rest) ∙ ap (λ (n : ℕ). rest / 128 ^ n) (sym k) ∙ w.above;
    }

pub spelled_all : (text : List ℕ) (rest i count value : ℕ) → count ≤ i → Spells text rest false i count value → (text ≡ text_in (digits_in 128 count value)) × (rest ≡ value / 128 ^ count)
spelled_all text rest i count value le w =
    let k : count - i ≡ 0 = omega arith in
    let whole : text ++ text_in (digits_in 128 (count - i) rest) ≡ text = ap (λ (n : ℕ). text ++ text_in (digits_in 128 n rest)) k ∙ append-nil text in
    let one : rest / 128 ^ (count - i) ≡ rest = ap (λ (n : ℕ). rest / 128 ^ n) k ∙ ap (λ (n : ℕ). rest / n) (pow-zero 128) ∙ omega arith in
    (sym whole ∙ w.same, sym one ∙ w.above)

pub spelled_escape : (text : List ℕ) (rest i count value : ℕ) → count ≤ i → Spells text rest true i count value → (text ++ 32 ∷ [] ≡ text_in (digits_in 128 count value)) × (rest ≡ value / 128 ^ count)
spelled_escape text rest i count value le w =
    let k : count - i ≡ 0 = omega arith in
    let whole : text ++ text_in (ESCAPE ∷ digits_in 128 (count - i) rest) ≡ text ++ 32 ∷ [] = ap (λ (n : ℕ). text ++ text_in (ESCAPE ∷ digits_in 128 n rest)) k in
    let one : rest / 128 ^ (count - i) ≡ rest = ap (λ (n : ℕ). rest / 128 ^ n) k ∙ ap (λ (n : ℕ). rest / n) (pow-zero 128) ∙ omega arith in
    (sym whole ∙ w.same, sym one ∙ w.above)

-- ---- the turns of the loop, by its branches

pub turn_escaped : (text text' : List ℕ) (rest s c : ℕ) (b b' : Bool) (i count value : ℕ) → i < count → b ≡ true → s ≡ rest % 128 → c ≡ escaped_character s → text' ≡ text ++ c ∷ [] → b' ≡ false → Spells text rest b i count value → Spells text' (rest / 128) b' (i + 1) count value
turn_escaped text text' rest s c b b' i count value lt is_b is is_c is_text is_b' w =
    let before : Spells text rest true i count value = subst (λ (x : Bool). Spells text rest x i count value) is_b w in
    rw (is_text, is_b', is_c) (spells_escaped text rest s i count value lt is before)

pub turn_escape : (text text' : List ℕ) (rest s : ℕ) (b b' : Bool) (i count value : ℕ) → i < count → b ≡ false → s ≡ rest % 128 → s ≡ ESCAPE → text' ≡ text → b' ≡ true → Spells text rest b i count value → Spells text' (rest / 128) b' (i + 1) count value
turn_escape text text' rest s b b' i count value lt is_b is escape is_text is_b' w =
    let before : Spells text rest false i count value = subst (λ (x : Bool). Spells text rest x i count value) is_b w in
    rw (is_text, is_b') (spells_escape text rest s i count value lt is escape before)

pub turn_plain : (text text' : List ℕ) (rest s c : ℕ) (b b' : Bool) (i count value : ℕ) → i < count → b ≡ false → s ≡ rest % 128 → (s ≡ ESCAPE → ⊥) → c ≡ main_character s → text' ≡ text ++ c ∷ [] → b' ≡ b → Spells text rest b i count value → Spells text' (rest / 128) b' (i + 1) count value
turn_plain text text' rest s c b b' i count value lt is_b is plain is_c is_text is_b' w =
    let before : Spells text rest false i count value = subst (λ (x : Bool). Spells text rest x i count value) is_b w in
    rw (is_text, is_b', is_b, is_c) (spells_plain text rest s i count value lt is plain before)

pub end_plain : (text text' : List ℕ) (rest : ℕ) (b : Bool) (i count value : ℕ) → count ≤ i → b ≡ false → text' ≡ text → Spells text rest b i count value → text' ≡ text_in (digits_in 128 count value)
end_plain text text' rest b i count value le is_b is_text w =
    let before : Spells text rest false i count value = subst (λ (x : Bool). Spells text rest x i count value) is_b w in
    is_text ∙ (spelled_all text rest i count value le before).0

pub end_escape : (text text' : List ℕ) (rest : ℕ) (b : Bool) (i count value : ℕ) → count ≤ i → b ≡ true → text' ≡ text ++ 32 ∷ [] → Spells text rest b i count value → text' ≡ text_in (digits_in 128 count value)
end_escape text text' rest b i count value le is_b is_text w =
    let before : Spells text rest true i count value = subst (λ (x : Bool). Spells text rest x i count value) is_b w in
    is_text ∙ (spelled_escape text rest i count value le before).0

pub above_all : (text : List ℕ) (rest : ℕ) (b : Bool) (i count value : ℕ) → count ≤ i → Spells text rest b i count value → rest ≡ value / 128 ^ count
above_all text rest b i count value le w =
    let k : count - i ≡ 0 = omega arith in
    let one : rest / 128 ^ (count - i) ≡ rest = ap (λ (n : ℕ). rest / 128 ^ n) k ∙ ap (λ (n : ℕ). rest / n) (pow-zero 128) ∙ omega arith in
    sym one ∙ w.above
