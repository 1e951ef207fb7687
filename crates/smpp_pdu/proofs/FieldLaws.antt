-- Each field that is read is in the grammar, and each that is in the grammar is read.
use Rattle.std.proofs.Common.{◌≡◌, ℕ, zero, suc, ◌+◌, ◌*◌, ◌/◌, ◌%◌, ◌<◌, Bool, true, false, cond, eqb, ltb, ◌||◌, List, [], ◌∷◌, ◌++◌, length, Result, Ok, refl, sym, ap, subst, ◌∙◌, arith, inl, inr, ◌⊎◌}
use Rattle.std.specs.List.{AllByRecursion}
use Rattle.std.proofs.lemmas.Bool.{ltb-true, eqb-true, eqb-false, lt-ltb, eq-eqb, ne_eqb, or_cases}
use Rattle.sms_base.specs.Reading.{◌>>=◌, only_if, octet_in, AreOctets}
use Rattle.sms_base.proofs.Steps.{bind_ok, passes, ok_is, octet_takes, run_takes, run_again}
use Rattle.sms_base.proofs.OctetLaws.{octets_behind}
use Rattle.smpp_pdu.specs.declared.fault.PduFault.{PduFault}
use Rattle.smpp_pdu.specs.declared.fault.PduFault.TheVariants.{Truncated, FieldTooLong, ShortMessageTooLong}
use Rattle.smpp_pdu.specs.Fields.{two, four, c_string, IsText, IsTimeText, counted}
use Rattle.smpp_pdu.specs.FieldReading.{two_in, four_in, text_in, c_string_in, time_in, short_message_in}

-- ---- octets

-- what a field took of octets
pub record Took (text xs rest : List ℕ) : Type 0 where
  pub parts : xs ≡ text ++ rest
  pub octets : AreOctets rest

pub took : (text xs rest : List ℕ) → AreOctets xs → xs ≡ text ++ rest → Took text xs rest
took text xs rest h e = record { parts = e; octets = octets_behind text rest (subst AreOctets e h) }

pub one_takes : (f : PduFault) (xs : List ℕ) (x : ℕ × List ℕ) → AreOctets xs → octet_in f xs ≡ Ok x → (x.0 < 256) × Took (x.0 ∷ []) xs x.1
one_takes f xs x h e =
    let p = octet_takes f xs x e in
    let all : AreOctets (x.0 ∷ x.1) = subst AreOctets p h in
    (all.0, record { parts = p; octets = all.1 })

-- ---- integers

pub two_takes : (f : PduFault) (xs : List ℕ) (x : ℕ × List ℕ) → AreOctets xs → two_in f xs ≡ Ok x → Took (two x.0) xs x.1
unfolding two_in
two_takes f xs x h e =
    let a = bind_ok (octet_in f xs) _ x e in
    let b = bind_ok (octet_in f a.0.1) _ x a.2 in
    let pa = one_takes f xs a.0 h a.1 in
    let pb = one_takes f a.0.1 b.0 pa.1.octets b.1 in
    let g = ok_is {E = PduFault} (256 * a.0.0 + b.0.0, b.0.1) x b.2 in
    let high : (256 * a.0.0 + b.0.0) / 256 ≡ a.0.0 = omega (arith, pb.0) in
    let low : (256 * a.0.0 + b.0.0) % 256 ≡ b.0.0 = omega (arith, pb.0) in
    let whole : xs ≡ two (256 * a.0.0 + b.0.0) ++ b.0.1 = rw (high, low) (pa.1.parts ∙ ap (λ (l : List ℕ). a.0.0 ∷ l) pb.1.parts) in
    subst (λ (y : ℕ × List ℕ). Took (two y.0) xs y.1) g (record { parts = whole; octets = pb.1.octets })

pub two_again : (f : PduFault) (n : ℕ) (rest : List ℕ) → two_in f (two n ++ rest) ≡ Ok (n, rest)
unfolding two_in
two_again f n rest = let same : 256 * (n / 256) + n % 256 ≡ n = omega arith in rw same refl

pub four_takes : (xs : List ℕ) (x : ℕ × List ℕ) → AreOctets xs → four_in xs ≡ Ok x → Took (four x.0) xs x.1
unfolding four_in
four_takes xs x h e =
    let a = bind_ok (two_in Truncated xs) _ x e in
    let b = bind_ok (two_in Truncated a.0.1) _ x a.2 in
    let pa = two_takes Truncated xs a.0 h a.1 in
    let pb = two_takes Truncated a.0.1 b.0 pa.octets b.1 in
    let g = ok_is {E = PduFault} (65536 * a.0.0 + b.0.0, b.0.1) x b.2 in
    let small : b.0.0 < 65536 = two_small b.0.0 b.0.1 (subst AreOctets pb.parts pa.octets) in
    let n : ℕ = 65536 * a.0.0 + b.0.0 in
    let high : n / 65536 ≡ a.0.0 = omega arith in
    let low : n % 65536 ≡ b.0.0 = omega arith in
    let last : n % 256 ≡ b.0.0 % 256 = omega arith in
    let whole : xs ≡ four n ++ b.0.1 = rw (high, low, last) (pa.parts ∙ ap (λ (l : List ℕ). a.0.0 / 256 ∷ a.0.0 % 256 ∷ l) pb.parts) in
    subst (λ (y : ℕ × List ℕ). Took (four y.0) xs y.1) g (record { parts = whole; octets = pb.octets })
  where
    two_small : (n : ℕ) (rest : List ℕ) → AreOctets (two n ++ rest) → n < 65536
    two_small n rest h = omega (arith, h.0)

pub four_again : (n : ℕ) (rest : List ℕ) → four_in (four n ++ rest) ≡ Ok (n, rest)
unfolding four_in two_in
four_again n rest =
    let same : 65536 * (256 * (n / 65536 / 256) + n / 65536 % 256) + (256 * (n % 65536 / 256) + n % 256) ≡ n = omega arith in
    rw same refl

-- ---- texts

if_ok : (b : Bool) (r s : Result (List ℕ × List ℕ) PduFault) (x : List ℕ × List ℕ) → cond b r s ≡ Ok x → ((b ≡ true) × (r ≡ Ok x)) ⊎ ((b ≡ false) × (s ≡ Ok x))
if_ok true r s x e = inl (refl, e)
if_ok false r s x e = inr (refl, e)

-- what a text took
pub record IsTextAnd (limit : ℕ) (xs : List ℕ) (x : List ℕ × List ℕ) : Type 0 where
  pub text : IsText limit x.0
  pub parts : xs ≡ c_string x.0 ++ x.1

pub text_takes : (limit : ℕ) (xs : List ℕ) (x : List ℕ × List ℕ) → text_in limit xs ≡ Ok x → IsTextAnd limit xs x
unfolding text_in
text_takes zero xs x e = absurd cc
text_takes (suc limit) [] x e = absurd cc
text_takes (suc limit) (o ∷ xs) x e =
    elim (if_ok (eqb o 0) (Ok ([], xs)) (text_in limit xs >>= (λ more. Ok (o ∷ more.0, more.1))) x e) [
      | inl p ↦
          let z : o ≡ 0 = eqb-true o 0 p.0 in
          let none : IsText (suc limit) [] = record { no_nul = tt; short = omega arith } in
          let whole : o ∷ xs ≡ c_string [] ++ xs = ap (λ (n : ℕ). n ∷ xs) z in
          subst (IsTextAnd (suc limit) (o ∷ xs)) (ok_is {E = PduFault} ([], xs) x p.1) (record { text = none; parts = whole })
      | inr p ↦
          let a = bind_ok (text_in limit xs) (λ (more : List ℕ × List ℕ). let r : Result (List ℕ × List ℕ) PduFault = Ok (o ∷ more.0, more.1) in r) x p.1 in
          let t = text_takes limit xs a.0 a.1 in
          let nz : 0 < o = let ne = eqb-false o 0 p.0 in omega arith in
          let made : IsText (suc limit) (o ∷ a.0.0) = record { no_nul = (nz, t.text.no_nul); short = omega (arith, t.text.short) } in
          subst (IsTextAnd (suc limit) (o ∷ xs)) (ok_is {E = PduFault} (o ∷ a.0.0, a.0.1) x a.2) (record { text = made; parts = ap (λ (l : List ℕ). o ∷ l) t.parts })
    ]

pub text_again : (limit : ℕ) (text rest : List ℕ) → AllByRecursion (λ o. 0 < o) text → length text < limit → text_in limit (c_string text ++ rest) ≡ Ok (text, rest)
unfolding text_in
text_again zero text rest h lt = absurd (omega arith)
text_again (suc limit) [] rest h lt = refl
text_again (suc limit) (o ∷ text) rest h lt =
    let nz : eqb o 0 ≡ false = ne_eqb o 0 (λ (z : o ≡ 0). omega (arith, h.0, z)) in
    let more = text_again limit text rest h.1 (omega arith) in
    rw (nz, more) refl

pub c_string_takes : (limit : ℕ) (xs : List ℕ) (x : List ℕ × List ℕ) → AreOctets xs → c_string_in limit xs ≡ Ok x → IsText limit x.0 × Took (c_string x.0) xs x.1
unfolding c_string_in
c_string_takes limit [] x h e = absurd cc
c_string_takes limit (o ∷ xs) x h e =
    let t = text_takes limit (o ∷ xs) x e in
    (t.text, took (c_string x.0) (o ∷ xs) x.1 h t.parts)

begins : (text rest : List ℕ) → (o : ℕ) × (more : List ℕ) × (c_string text ++ rest ≡ o ∷ more)
begins [] rest = (0, rest, refl)
begins (o ∷ text) rest = (o, c_string text ++ rest, refl)

begun_text : (limit : ℕ) (xs : List ℕ) (o : ℕ) (more : List ℕ) → xs ≡ o ∷ more → c_string_in limit xs ≡ text_in limit xs
unfolding c_string_in
begun_text limit xs o more e = rw e refl

pub c_string_again : (limit : ℕ) (text rest : List ℕ) → IsText limit text → c_string_in limit (c_string text ++ rest) ≡ Ok (text, rest)
c_string_again limit text rest h =
    let b = begins text rest in
    begun_text limit (c_string text ++ rest) b.0 b.1 b.2 ∙ text_again limit text rest h.no_nul h.short

either_true : (a b : Bool) → (a ≡ true) ⊎ (b ≡ true) → a || b ≡ true
either_true true b h = refl
either_true false b (inl e) = absurd cc
either_true false b (inr e) = e

pub time_takes : (xs : List ℕ) (x : List ℕ × List ℕ) → AreOctets xs → time_in xs ≡ Ok x → IsTimeText x.0 × Took (c_string x.0) xs x.1
unfolding time_in
time_takes xs x h e =
    let a = bind_ok (c_string_in 17 xs) _ x e in
    let b = bind_ok (only_if (eqb (length a.0.0) 0 || eqb (length a.0.0) 16) FieldTooLong) _ x a.2 in
    let p = c_string_takes 17 xs a.0 h a.1 in
    let known : (length a.0.0 ≡ 0) ⊎ (length a.0.0 ≡ 16) = elim (or_cases _ _ (passes _ FieldTooLong b.0 b.1)) [ inl t ↦ inl (eqb-true (length a.0.0) 0 t) | inr t ↦ inr (eqb-true (length a.0.0) 16 t) ] in
    subst (λ (y : List ℕ × List ℕ). IsTimeText y.0 × Took (c_string y.0) xs y.1) (ok_is {E = PduFault} (a.0.0, a.0.1) x b.2) (record { time = p.0; length_is = known }, p.1)

pub time_again : (text rest : List ℕ) → IsTimeText text → time_in (c_string text ++ rest) ≡ Ok (text, rest)
unfolding time_in
time_again text rest h =
    let known : (eqb (length text) 0 || eqb (length text) 16) ≡ true = either_true _ _ (elim h.length_is [ inl t ↦ inl (eq-eqb (length text) 0 t) | inr t ↦ inr (eq-eqb (length text) 16 t) ]) in
    rw (c_string_again 17 text rest h.time, known) refl

pub short_message_takes : (xs : List ℕ) (x : List ℕ × List ℕ) → AreOctets xs → short_message_in xs ≡ Ok x → (length x.0 < 255) × Took (counted x.0) xs x.1
unfolding short_message_in
short_message_takes xs x h e =
    let a = bind_ok (octet_in Truncated xs) _ x e in
    let b = bind_ok (only_if (ltb a.0.0 255) ShortMessageTooLong) _ x a.2 in
    let p = octet_takes Truncated xs a.0 a.1 in
    let r = run_takes Truncated a.0.0 a.0.1 x b.2 in
    let few : a.0.0 < 255 = ltb-true a.0.0 255 (passes _ ShortMessageTooLong b.0 b.1) in
    let whole : xs ≡ counted x.0 ++ x.1 = p ∙ ap (λ (n : ℕ). n ∷ a.0.1) (sym r.1) ∙ ap (λ (l : List ℕ). length x.0 ∷ l) r.0 in
    (omega (arith, r.1, few), took (counted x.0) xs x.1 h whole)

pub short_message_again : (text rest : List ℕ) → length text < 255 → short_message_in (counted text ++ rest) ≡ Ok (text, rest)
unfolding short_message_in
short_message_again text rest lt =
    let few : ltb (length text) 255 ≡ true = lt-ltb (length text) 255 lt in
    rw (few, run_again Truncated (length text) text rest refl) refl
