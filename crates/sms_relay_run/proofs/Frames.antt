-- The octets of an input, fault by fault.
use Rattle.std.proofs.Common.{◌≡◌, ℕ, suc, ◌<◌, ◌≤◌, ◌/◌, ◌%◌, Bool, true, false, cond, eqb, ltb, List, [], ◌∷◌, length, take, Result, Ok, Err, refl, sym, ap, subst, ◌∙◌, arith}
use Rattle.std.proofs.lemmas.Bool.{lt-ltb, le-ltb, eqb-true, eq-eqb}
use Rattle.hex.specs.Hex.{decode_of, decode_pairs, decode_sized}
use Rattle.hex.specs.declared.error.FromHexError.{FromHexError}
use Rattle.hex.specs.declared.error.FromHexError.TheVariants.{OddLength, InvalidStringLength}
use Rattle.sms_relay_run.specs.Lines.{first_line, behind_line, frame_in, line_octets, alone, longest_line}
use Rattle.std.specs.Prelude.{MatchResult}
use Rattle.sms_relay_run.specs.LineReading.{ReadsLine}

-- an input that is not empty, cut behind its first line
pub record Cut (input line behind : List ℕ) : Type 0 where
  pub some : eqb (length input) 0 ≡ false
  pub line_is : line ≡ first_line input
  pub behind_is : behind ≡ behind_line input

pub frame_none : (input : List ℕ) → eqb (length input) 0 ≡ true → frame_in input ≡ Err 1
unfolding frame_in
frame_none [] e = refl
frame_none (x ∷ xs) e = absurd (let z : suc (length xs) ≡ 0 = eqb-true _ _ e in omega arith)

pub frame_is : (input line behind : List ℕ) → Cut input line behind → frame_in input ≡ cond (ltb longest_line (length line)) (Err 1) (line_octets (decode_of line) behind)
unfolding frame_in
frame_is [] line behind h = absurd (let z : true ≡ false = h.some in cc)
frame_is (x ∷ xs) line behind h = rw (h.line_is, h.behind_is) refl

pub frame_long : (input line behind : List ℕ) → Cut input line behind → 16384 < length line → frame_in input ≡ Err 1
frame_long input line behind h lt = frame_is input line behind h ∙ rw (lt-ltb 16384 (length line) lt) refl

frame_short : (input line behind : List ℕ) → Cut input line behind → length line ≤ 16384 → frame_in input ≡ line_octets (decode_of line) behind
frame_short input line behind h le = frame_is input line behind h ∙ rw (le-ltb 16384 (length line) le) refl

-- room for half as many octets is what a line needs
decoded : (line : List ℕ) (n : ℕ) → n ≡ length line / 2 → decode_sized line n ≡ decode_of line
decoded line n e = ap (λ (b : Bool). cond (eqb (length line % 2) 1) (Err OddLength) (cond b (decode_pairs 0 line) (Err InvalidStringLength))) (eq-eqb (length line / 2) n (sym e))

abbrev Decodes : List ℕ → Result (Unit {0}) FromHexError → Result (List ℕ) FromHexError → Type 0
Decodes out r answer = MatchResult answer (λ bytes. (r ≡ Ok tt) × (out ≡ bytes)) (λ e. r ≡ Err e)

pub some_octets : (line out : List ℕ) (n : ℕ) (r : Result (Unit {0}) FromHexError) → n ≡ length line / 2 → Decodes out r (decode_sized line n) → r ≡ Ok tt → decode_of line ≡ Ok out
some_octets line out n r e d ok = go (decode_of line) (subst (Decodes out r) (decoded line n e) d) where
  go : (answer : Result (List ℕ) FromHexError) → Decodes out r answer → answer ≡ Ok out
  go (Ok bytes) d = ap (λ (l : List ℕ). let a : Result (List ℕ) FromHexError = Ok l in a) (sym d.1)
  go (Err f) d = absurd (let z : Ok tt ≡ Err f = sym ok ∙ d in cc)

pub no_octets : (line out : List ℕ) (n : ℕ) (r : Result (Unit {0}) FromHexError) (f : FromHexError) → n ≡ length line / 2 → Decodes out r (decode_sized line n) → r ≡ Err f → decode_of line ≡ Err f
no_octets line out n r f e d err = go (decode_of line) (subst (Decodes out r) (decoded line n e) d) where
  go : (answer : Result (List ℕ) FromHexError) → Decodes out r answer → answer ≡ Err f
  go (Ok bytes) d = absurd (let z : Err f ≡ Ok tt = sym err ∙ d.0 in cc)
  go (Err g) d = let z : Err g ≡ Err f = sym d ∙ err in ap (λ (h : FromHexError). let a : Result (List ℕ) FromHexError = Err h in a) (let w : g ≡ f = cc in w)

second : (octets behind : List ℕ) → eqb (length behind) 0 ≡ false → alone octets behind ≡ Err 2
second octets [] some = absurd (let z : true ≡ false = some in cc)
second octets (x ∷ xs) some = refl

only : (octets behind : List ℕ) → eqb (length behind) 0 ≡ true → alone octets behind ≡ Ok octets
only octets [] none = refl
only octets (x ∷ xs) none = absurd (let z : suc (length xs) ≡ 0 = eqb-true _ _ none in omega arith)

pub frame_bad : (input line behind : List ℕ) (e : FromHexError) → Cut input line behind → length line ≤ 16384 → decode_of line ≡ Err e → frame_in input ≡ Err 1
frame_bad input line behind e h le bad = frame_short input line behind h le ∙ rw bad refl

pub frame_second : (input line behind octets : List ℕ) → Cut input line behind → length line ≤ 16384 → decode_of line ≡ Ok octets → eqb (length behind) 0 ≡ false → frame_in input ≡ Err 2
frame_second input line behind octets h le e more = frame_short input line behind h le ∙ rw e (second octets behind more)

pub frame_ok : (input line behind octets : List ℕ) → Cut input line behind → length line ≤ 16384 → decode_of line ≡ Ok octets → eqb (length behind) 0 ≡ true → frame_in input ≡ Ok octets
frame_ok input line behind octets h le e none = frame_short input line behind h le ∙ rw e (only octets behind none)

-- what reading answers where the input is so
pub reads_bad : (input room : List ℕ) (line : ℕ) → frame_in input ≡ Err line → ReadsLine (frame_in input) (Err line) room
reads_bad input room line e = subst (λ r. ReadsLine r (Err line) room) (sym e) refl

pub reads_good : (input room octets : List ℕ) (count : ℕ) → frame_in input ≡ Ok octets → count ≡ length octets → take (length octets) room ≡ octets → ReadsLine (frame_in input) (Ok count) room
reads_good input room octets count e n t = subst (λ r. ReadsLine r (Ok count) room) (sym e) (ap (λ (k : ℕ). let r : Result ℕ ℕ = Ok k in r) n, t)
