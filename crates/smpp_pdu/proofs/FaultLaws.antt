-- A fault other than missing octets is of octets that are there: it stays, whatever follows them.
use Rattle.std.proofs.Common.{◌≡◌, ℕ, zero, suc, ◌+◌, ◌-◌, ◌*◌, ◌<◌, ◌≤◌, Bool, true, false, ◌&&◌, cond, eqb, ltb, leb, List, [], ◌∷◌, ◌++◌, length, take, Option, Some, None, Result, Ok, Err, refl, sym, ap, subst, ◌∙◌, arith, inl, inr}
use Rattle.std.specs.Option.{ok_or}
use Rattle.std.proofs.lemmas.Bool.{ltb-true, ltb-false, le-ltb, eqb-true, eqb-false}
use Rattle.std.proofs.lemmas.List.{length-append, take-append-le}
use Rattle.sms_base.specs.Reading.{◌>>=◌, only_if, octet_in}
use Rattle.sms_base.proofs.Steps.{bind_err, err_is}
use Rattle.sms_base.proofs.FaultSteps.{longer}
use Rattle.smpp_pdu.specs.declared.fault.PduFault.{PduFault}
use Rattle.smpp_pdu.specs.declared.fault.PduFault.TheVariants.{Truncated, BadLength, UnknownCommand, NoTerminator, BadTlv, FieldTooLong, ShortMessageTooLong}
use Rattle.smpp_pdu.specs.declared.command.CommandId.{CommandId}
use Rattle.smpp_pdu.specs.declared.body.Body.{Body}
use Rattle.smpp_pdu.specs.declared.pdu.Pdu.{Pdu}
use Rattle.smpp_pdu.specs.Commands.{command_of}
use Rattle.smpp_pdu.specs.FieldReading.{two_in, four_in}
use Rattle.smpp_pdu.specs.PduGrammar.{IsPdu}
use Rattle.smpp_pdu.specs.PduReading.{body_at, cut_short, body_in, pdu_at}
use Rattle.smpp_pdu.proofs.Bodies.{IsWrong, body_stays, four_front, no_fault}
use Rattle.smpp_pdu.proofs.PduLaws.{pdu_again}

-- ---- whole PDUs

-- A fault other than missing octets stays.
abbrev KeepsFault : {Z : Type 0} → (List ℕ → Result Z PduFault) → Type 0
KeepsFault read = (xs ys : List ℕ) (f : PduFault) → read xs ≡ Err f → (f ≡ Truncated → ⊥) → read (xs ++ ys) ≡ Err f

-- the fault of a body that is cut is that of a wrong octet, or octets are missing
pub wrong_is : {A : Type 0} (r : Result A PduFault) (f : PduFault) → cut_short r ≡ f → (f ≡ Truncated → ⊥) → IsWrong f × (r ≡ Err f)
wrong_is (Ok x) f e other = absurd (other (sym e))
wrong_is {A} (Err FieldTooLong) f e other = subst (λ (g : PduFault). IsWrong g × ((let r : Result A PduFault = Err FieldTooLong in r) ≡ Err g)) e (tt, refl)
wrong_is {A} (Err ShortMessageTooLong) f e other = subst (λ (g : PduFault). IsWrong g × ((let r : Result A PduFault = Err ShortMessageTooLong in r) ≡ Err g)) e (tt, refl)
wrong_is (Err Truncated) f e other = absurd (other (sym e))
wrong_is (Err BadLength) f e other = absurd (other (sym e))
wrong_is (Err UnknownCommand) f e other = absurd (other (sym e))
wrong_is (Err NoTerminator) f e other = absurd (other (sym e))
wrong_is (Err BadTlv) f e other = absurd (other (sym e))

is_cut : (A : Type 0) (f : PduFault) → IsWrong f → (let r : Result A PduFault = Err f in cut_short r ≡ f)
is_cut A FieldTooLong w = refl
is_cut A ShortMessageTooLong w = refl
is_cut A Truncated w = absurd w
is_cut A BadLength w = absurd w
is_cut A UnknownCommand w = absurd w
is_cut A NoTerminator w = absurd w
is_cut A BadTlv w = absurd w

-- so many octets, where the first list has fewer
take_over : (n : ℕ) (xs ys : List ℕ) → length xs ≤ n → take n (xs ++ ys) ≡ xs ++ take (n - length xs) ys
take_over n [] ys le = let same : n - 0 ≡ n = omega arith in ap (λ (m : ℕ). take m ys) (sym same)
take_over zero (x ∷ xs) ys le = absurd (omega (arith, le))
take_over (suc n) (x ∷ xs) ys le =
    let same : suc n - suc (length xs) ≡ n - length xs = omega arith in
    ap (λ (l : List ℕ). x ∷ l) (take_over n xs ys (omega (arith, le)) ∙ ap (λ (m : ℕ). xs ++ take m ys) (sym same))

-- the body of a PDU, where it is told whether its octets are there and whether some are left over
abbrev read_body : Bool → Bool → Result Body PduFault → Result Body PduFault → Result Body PduFault
read_body short exact cut whole = cond short (Err (cut_short cut)) (whole >>= (λ body. only_if exact BadLength >>= (λ done. Ok body)))

body_keeps : (c : CommandId) (n : ℕ) → KeepsFault (body_in c n)
unfolding body_in
body_keeps c n xs ys f e other = by_short (ltb (length xs) n) refl e where
  goal : Type 0
  goal = read_body (ltb (length (xs ++ ys)) n) (eqb (length (xs ++ ys)) n) (body_at c (xs ++ ys)) (body_at c (take n (xs ++ ys))) ≡ Err f

  later : (b : Bool) → ltb (length (xs ++ ys)) n ≡ b → length xs < n → IsWrong f → body_at c xs ≡ Err f
      → read_body b (eqb (length (xs ++ ys)) n) (body_at c (xs ++ ys)) (body_at c (take n (xs ++ ys))) ≡ Err f
  later true t lt w q = let s = body_stays c xs ys f w q in ap (λ (m : Result Body PduFault). let r : Result Body PduFault = Err (cut_short m) in r) s ∙ ap (λ (g : PduFault). let r : Result Body PduFault = Err g in r) (is_cut Body f w)
  later false t lt w q =
      let le : length xs ≤ n = omega (arith, lt) in
      let s : body_at c (take n (xs ++ ys)) ≡ Err f = ap (body_at c) (take_over n xs ys le) ∙ body_stays c xs (take (n - length xs) ys) f w q in
      ap (λ (m : Result Body PduFault). m >>= (λ body. only_if (eqb (length (xs ++ ys)) n) BadLength >>= (λ done. Ok body))) s

  whole : ltb (length xs) n ≡ false → (body_at c (take n xs) >>= (λ body. only_if (eqb (length xs) n) BadLength >>= (λ done. Ok body))) ≡ Err f
      → (body_at c (take n (xs ++ ys)) >>= (λ body. only_if (eqb (length (xs ++ ys)) n) BadLength >>= (λ done. Ok body))) ≡ Err f
  whole t h =
      let le : n ≤ length xs = ltb-false (length xs) n t in
      let same : take n (xs ++ ys) ≡ take n xs = take-append-le n xs ys le in
      let at : body_at c (take n (xs ++ ys)) ≡ body_at c (take n xs) = ap (body_at c) same in
      elim (bind_err (body_at c (take n xs)) (λ body. only_if (eqb (length xs) n) BadLength >>= (λ done. Ok body)) f h) [
        | inl q ↦ ap (λ (m : Result Body PduFault). m >>= (λ body. only_if (eqb (length (xs ++ ys)) n) BadLength >>= (λ done. Ok body))) (at ∙ q)
        | inr q ↦
            ap (λ (m : Result Body PduFault). m >>= (λ body. only_if (eqb (length (xs ++ ys)) n) BadLength >>= (λ done. Ok body))) (at ∙ q.1)
            ∙ left_over q.0 (eqb (length xs) n) refl (eqb (length (xs ++ ys)) n) refl le q.2
      ] where
        left_over : (body : Body) (b : Bool) → eqb (length xs) n ≡ b → (d : Bool) → eqb (length (xs ++ ys)) n ≡ d → n ≤ length xs
            → (only_if b BadLength >>= (λ done. Ok body)) ≡ Err f → (only_if d BadLength >>= (λ done. Ok body)) ≡ Err f
        left_over body true p d q le k = absurd (no_fault {A = Body} body f k)
        left_over body false p false q le k = k
        left_over body false p true q le k =
            let more : length (xs ++ ys) ≡ n = eqb-true (length (xs ++ ys)) n q in
            absurd (eqb-false (length xs) n p (omega (arith, le, more, length-append xs ys)))

  by_short : (b : Bool) → ltb (length xs) n ≡ b → read_body b (eqb (length xs) n) (body_at c xs) (body_at c (take n xs)) ≡ Err f → goal
  by_short true t h =
      let q = wrong_is (body_at c xs) f (err_is {A = Body} (cut_short (body_at c xs)) f h) other in
      later (ltb (length (xs ++ ys)) n) refl (ltb-true (length xs) n t) q.0 q.1
  by_short false t h =
      let le : n ≤ length xs = ltb-false (length xs) n t in
      let long : ltb (length (xs ++ ys)) n ≡ false = le-ltb (length (xs ++ ys)) n (omega (arith, le, length-append xs ys)) in
      rw long (whole t h)

-- a field whose only fault is that octets are missing
abbrev IsShort : {X : Type 0} → (List ℕ → Result (X × List ℕ) PduFault) → Type 0
IsShort {X} read = (xs : List ℕ) (f : PduFault) → read xs ≡ Err f → f ≡ Truncated

short_octet : IsShort (octet_in Truncated)
short_octet [] f e = sym (err_is {A = ℕ × List ℕ} Truncated f e)
short_octet (o ∷ xs) f e = absurd cc

short_bind : {X Y : Type 0} (r : List ℕ → Result (X × List ℕ) PduFault) (k : X × List ℕ → Result (Y × List ℕ) PduFault) → IsShort r → ((x : X) → IsShort (λ rest. k (x, rest))) → IsShort (λ xs. r xs >>= k)
short_bind r k h hk xs f e = elim (bind_err (r xs) k f e) [ inl q ↦ h xs f q | inr q ↦ hk q.0.0 q.0.1 f q.2 ]

short_pure : {X : Type 0} (x : X) → IsShort {X = X} (λ xs. Ok (x, xs))
short_pure {X} x xs f e = absurd (no_fault {A = X × List ℕ} (x, xs) f e)

short_two : IsShort (two_in Truncated)
unfolding two_in
short_two = short_bind (octet_in Truncated) _ short_octet (λ high. short_bind (octet_in Truncated) _ short_octet (λ low. short_pure (256 * high + low)))

pub short_four : IsShort four_in
unfolding four_in
short_four = short_bind (two_in Truncated) _ short_two (λ high. short_bind (two_in Truncated) _ short_two (λ low. short_pure (65536 * high + low)))

-- a number of four octets and what stands behind it
keeps_four : {Z : Type 0} (k : ℕ × List ℕ → Result Z PduFault) → ((x : ℕ) → KeepsFault (λ rest. k (x, rest))) → KeepsFault (λ xs. four_in xs >>= k)
keeps_four k hk xs ys f e other = elim (bind_err (four_in xs) k f e) [
  | inl q ↦ absurd (other (short_four xs f q))
  | inr q ↦ ap (λ (m : Result (ℕ × List ℕ) PduFault). m >>= k) (longer four_in xs q.0.0 q.0.1 ys four_front q.1) ∙ hk q.0.0 q.0.1 ys f q.2 other
]

keeps_test : {Z : Type 0} (b : Bool) (bad : PduFault) (r : List ℕ → Result Z PduFault) → KeepsFault r → KeepsFault (λ xs. only_if b bad >>= (λ u. r xs))
keeps_test true bad r h = h
keeps_test false bad r h = λ xs ys f e other. e

keeps_known : {A Z : Type 0} (o : Option A) (k : A → List ℕ → Result Z PduFault) → ((x : A) → KeepsFault (k x)) → KeepsFault (λ xs. ok_or o UnknownCommand >>= (λ x. k x xs))
keeps_known (Some x) k h = h x
keeps_known None k h = λ xs ys f e other. e

keeps_map : {A Z : Type 0} (read : List ℕ → Result A PduFault) (k : A → Z) → KeepsFault read → KeepsFault (λ xs. read xs >>= (λ x. Ok (k x)))
keeps_map {A} {Z} read k h xs ys f e other = elim (bind_err (read xs) (λ x. Ok (k x)) f e) [
  | inl q ↦ ap (λ (m : Result A PduFault). m >>= (λ x. let r : Result Z PduFault = Ok (k x) in r)) (h xs ys f q other)
  | inr q ↦ absurd (no_fault {A = Z} (k q.0) f q.2)
]

pub fault_stays : (xs ys : List ℕ) (f : PduFault) → pdu_at xs ≡ Err f → (f ≡ Truncated → ⊥) → pdu_at (xs ++ ys) ≡ Err f
unfolding pdu_at
fault_stays =
    keeps_four _ (λ command_length.
    keeps_test (leb 16 command_length && leb command_length 65536) BadLength _ (
    keeps_four _ (λ command_id.
    keeps_known (command_of command_id) _ (λ command.
    keeps_four _ (λ command_status.
    keeps_four _ (λ sequence_number.
    keeps_map (body_in command (command_length - 16)) (λ body. record { command_status = command_status; sequence_number = sequence_number; body = body }) (body_keeps command (command_length - 16))))))))

no_pdu : (fault : PduFault) (pdu : Pdu) → (let r : Result Pdu PduFault = Err fault in let s : Result Pdu PduFault = Ok pdu in r ≡ s) → ⊥
no_pdu fault pdu e = absurd cc

pub begins_none : (xs ys : List ℕ) (pdu : Pdu) (f : PduFault) → pdu_at xs ≡ Err f → (f ≡ Truncated → ⊥) → IsPdu (xs ++ ys) pdu → ⊥
begins_none xs ys pdu f e other h = no_pdu f pdu (sym (fault_stays xs ys f e other) ∙ pdu_again (xs ++ ys) pdu h)
