-- A C-octet string that is read octet by octet.
use Rattle.std.proofs.Common.{◌≡◌, ℕ, suc, ◌+◌, ◌-◌, ◌<◌, ◌≤◌, true, false, eqb, List, [], ◌∷◌, ◌++◌, length, get_or, take, drop, Result, Ok, Err, refl, sym, ap, ◌∙◌, append_assoc, arith}
use Rattle.std.proofs.lemmas.Bool.{eq-eqb, ne_eqb}
use Rattle.std.proofs.lemmas.List.{take_more, drop_more, length-drop, append-nil}
use Rattle.sms_base.specs.Reading.{◌>>=◌, octet_in}
use Rattle.smpp_pdu.specs.declared.fault.PduFault.{PduFault}
use Rattle.smpp_pdu.specs.declared.fault.PduFault.TheVariants.{NoTerminator, FieldTooLong}
use Rattle.smpp_pdu.specs.FieldReading.{text_in, c_string_in}

-- a text with more in front of it
abbrev pub behind : List ℕ → Result (List ℕ × List ℕ) PduFault → Result (List ℕ × List ℕ) PduFault
behind front (Ok more) = Ok (front ++ more.0, more.1)
behind front (Err fault) = Err fault

-- so many octets are no NUL, and the rest is read behind them
pub record Scanned (limit : ℕ) (octets : List ℕ) (len : ℕ) (rest : List ℕ) : Type 0 where
  pub within : len ≤ length octets
  pub left : rest ≡ drop len octets
  pub reads : text_in limit octets ≡ behind (take len octets) (text_in (limit - len) rest)

behind_none : (r : Result (List ℕ × List ℕ) PduFault) → behind [] r ≡ r
behind_none (Ok more) = refl
behind_none (Err fault) = refl

behind_more : (front : List ℕ) (o : ℕ) (r : Result (List ℕ × List ℕ) PduFault)
    → behind front (r >>= (λ more. Ok (o ∷ more.0, more.1))) ≡ behind (front ++ o ∷ []) r
behind_more front o (Ok more) = ap (λ (l : List ℕ). let r : Result (List ℕ × List ℕ) PduFault = Ok (l, more.1) in r) (sym (append_assoc front (o ∷ []) more.0))
behind_more front o (Err fault) = refl

pub scan_starts : (limit : ℕ) (octets rest : List ℕ) → rest ≡ octets → Scanned limit octets 0 rest
scan_starts limit octets rest e = let none : limit - 0 ≡ limit = omega arith in record {
  within = omega arith;
  left = e;
  reads = sym (ap (λ (n : ℕ). behind [] (text_in n rest)) none ∙ ap (λ (l : List ℕ). behind [] (text_in limit l)) e ∙ behind_none (text_in limit octets));
}

text_reads_further : (k o : ℕ) (rest : List ℕ) → eqb o 0 ≡ false → text_in (suc k) (o ∷ rest) ≡ (text_in k rest >>= (λ more. Ok (o ∷ more.0, more.1)))
unfolding text_in
text_reads_further k o rest e = rw e refl

text_ends : (k o : ℕ) (rest : List ℕ) → eqb o 0 ≡ true → text_in (suc k) (o ∷ rest) ≡ Ok ([], rest)
unfolding text_in
text_ends k o rest e = rw e refl

text_cut : (k : ℕ) → text_in (suc k) [] ≡ Err NoTerminator
unfolding text_in
text_cut k = refl

text_full : (rest : List ℕ) → text_in 0 rest ≡ Err FieldTooLong
unfolding text_in
text_full rest = refl

-- the octet that is next
next_is : (octets cur rest : List ℕ) (len o : ℕ) → cur ≡ drop len octets → cur ≡ o ∷ rest → (len < length octets) × (o ≡ get_or octets len 0) × (rest ≡ drop (len + 1) octets)
next_is octets cur rest len o left e =
    let some : len < length octets = omega (arith, ap length (sym left ∙ e), length-drop len octets) in
    let parts : o ∷ rest ≡ get_or octets len 0 ∷ drop (len + 1) octets = sym e ∙ left ∙ drop_more octets len 0 some in
    (some, cc, cc)

pub scan_reads_further : (limit len o : ℕ) (octets cur rest : List ℕ) → Scanned limit octets len cur → len < limit → cur ≡ o ∷ rest → (o ≡ 0 → ⊥) → Scanned limit octets (len + 1) rest
scan_reads_further limit len o octets cur rest s lt e ne =
    let n = next_is octets cur rest len o s.left e in
    let k : limit - len ≡ suc (limit - (len + 1)) = omega arith in
    let step : text_in (limit - len) cur ≡ (text_in (limit - (len + 1)) rest >>= (λ more. Ok (o ∷ more.0, more.1))) = rw (k, e) (text_reads_further (limit - (len + 1)) o rest (ne_eqb o 0 ne)) in
    let front : take (len + 1) octets ≡ take len octets ++ o ∷ [] = take_more octets len 0 n.0 ∙ ap (λ (x : ℕ). take len octets ++ x ∷ []) (sym n.1) in
    record {
      within = omega (arith, n.0);
      left = n.2;
      reads = s.reads ∙ ap (behind (take len octets)) step ∙ behind_more (take len octets) o (text_in (limit - (len + 1)) rest) ∙ ap (λ (l : List ℕ). behind l (text_in (limit - (len + 1)) rest)) (sym front);
    }

pub scan_ends : (limit len o : ℕ) (octets cur rest : List ℕ) → Scanned limit octets len cur → len < limit → cur ≡ o ∷ rest → o ≡ 0 → text_in limit octets ≡ Ok (take len octets, rest)
scan_ends limit len o octets cur rest s lt e z =
    let k : limit - len ≡ suc (limit - (len + 1)) = omega arith in
    let step : text_in (limit - len) cur ≡ Ok ([], rest) = rw (k, e) (text_ends (limit - (len + 1)) o rest (eq-eqb o 0 z)) in
    s.reads ∙ ap (behind (take len octets)) step ∙ ap (λ (l : List ℕ). let r : Result (List ℕ × List ℕ) PduFault = Ok (l, rest) in r) (append-nil (take len octets))

pub scan_cut : (limit len : ℕ) (octets cur : List ℕ) → Scanned limit octets len cur → len < limit → cur ≡ [] → text_in limit octets ≡ Err NoTerminator
scan_cut limit len octets cur s lt e =
    let k : limit - len ≡ suc (limit - (len + 1)) = omega arith in
    let step : text_in (limit - len) cur ≡ Err NoTerminator = rw (k, e) (text_cut (limit - (len + 1))) in
    s.reads ∙ ap (behind (take len octets)) step

pub scan_full : (limit len : ℕ) (octets cur : List ℕ) → Scanned limit octets len cur → limit ≤ len → text_in limit octets ≡ Err FieldTooLong
scan_full limit len octets cur s le =
    let k : limit - len ≡ 0 = omega arith in
    let step : text_in (limit - len) cur ≡ Err FieldTooLong = rw k (text_full cur) in
    s.reads ∙ ap (behind (take len octets)) step

-- a string of which an octet is there has begun
pub begun : (limit : ℕ) (octets old : List ℕ) → false ≡ eqb (length octets) 0 → octets ≡ old → c_string_in limit old ≡ text_in limit octets
unfolding c_string_in
begun limit [] old some e = absurd cc
begun limit (o ∷ rest) old some e = rw (← e) refl

pub octet_cut : (xs : List ℕ) (e : PduFault) → octet_in NoTerminator xs ≡ Err e → (xs ≡ []) × (e ≡ NoTerminator)
octet_cut [] e h = (refl, cc)
octet_cut (o ∷ xs) e h = absurd cc
