-- A frame that is read is in the grammar, one that is in the grammar is read, and a front of one ends too early.
use Rattle.std.proofs.Common.{◌≡◌, ◌≢◌, ℕ, zero, ◌+◌, ◌*◌, ◌/◌, ◌%◌, ◌<◌, ◌≤◌, Bool, true, false, ◌&&◌, cond, eqb, ltb, List, [], ◌∷◌, ◌++◌, length, Result, Ok, Err, Option, Some, None, refl, sym, ap, subst, ◌∙◌, arith, inl, inr}
use Rattle.std.specs.Prelude.{IfOk}
use Rattle.std.specs.Option.{unwrap_or}
use Rattle.std.specs.List.{find}
use Rattle.std.proofs.lemmas.Bool.{ltb-true, ltb-false, eqb-true, lt-ltb, le-ltb, eq-eqb, and_parts}
use Rattle.std.proofs.lemmas.List.{append-nil}
use Rattle.std.proofs.lemmas.Option.{same_Some}
use Rattle.sms_base.specs.Reading.{◌>>=◌, only_if, octet_in, run_in, end_in}
use Rattle.sms_base.proofs.Steps.{bind_ok, passes, ok_is, octet_takes, run_takes, run_again, end_takes}
use Rattle.sms_base.proofs.Cuts.{CutsShort, CutsWhole, cuts_bind, cuts_test, cuts_octet, cuts_run, cuts_pure, whole_bind, whole_end}
use Rattle.sms_base.proofs.OctetLaws.{IsBytes, bytes_rest}
use Rattle.sms_control.specs.declared.cause.CpCause.{CpCause}
use Rattle.sms_control.specs.declared.cause.CpCause.TheVariants.{Other}
use Rattle.sms_control.specs.declared.fault.CpFault.{CpFault}
use Rattle.sms_control.specs.declared.fault.CpFault.TheVariants.{Truncated, Trailing, BadLength}
use Rattle.sms_control.specs.declared.message_type.MessageType.{MessageType}
use Rattle.sms_control.specs.declared.message_type.MessageType.TheVariants.{Data, Ack, Error}
use Rattle.sms_control.specs.declared.transaction.TransactionFlag.{TransactionFlag}
use Rattle.sms_control.specs.declared.transaction.TransactionFlag.TheVariants.{FromOriginator, ToOriginator}
use Rattle.sms_control.specs.declared.transaction.Transaction.{Transaction}
use Rattle.sms_control.specs.declared.message.Cp.{Cp}
use Rattle.sms_control.specs.declared.message.Cp.TheVariants.{DataUnit, AckUnit, ErrorUnit}
use Rattle.sms_control.specs.ControlGrammar.{flag_value, flag_of, head_octet, head_of, type_octet, types, type_of, cause_octet, named, cause_of, IsCpCause, spelled, IsCpValue, IsCp}
use Rattle.sms_control.specs.ControlReading.{known, head_in, type_in, unit_in, body_at, cp_at}

bytes_first : (o : ℕ) (xs ys : List ℕ) → ys ≡ o ∷ xs → IsBytes ys → o < 256
bytes_first o xs ys e h = let g : IsBytes (o ∷ xs) = subst IsBytes e h in g zero

-- ---- the first octet

knows : {A : Type 0} (o : Option A) (x : A) → known o ≡ Ok x → o ≡ Some x
knows {A} (Some y) x e = ap (λ (v : A). Some v) (ok_is {E = CpFault} y x e)
knows None x e = absurd cc

record Names (octet : ℕ) (transaction : Transaction) : Type 0 where
  same : octet ≡ head_octet transaction
  below : transaction.identifier < 7

named_low : (o : ℕ) → o < 128 → o % 16 ≡ 9 → o ≡ 9 + 16 * (o / 16 % 8) + 0
named_low o h e = omega arith

named_high : (o : ℕ) → o < 256 → 128 ≤ o → o % 16 ≡ 9 → o ≡ 9 + 16 * (o / 16 % 8) + 128
named_high o h k e = omega arith

flag_same : (o : ℕ) → o < 256 → o % 16 ≡ 9 → o ≡ 9 + 16 * (o / 16 % 8) + flag_value (flag_of o)
flag_same o h e = more (ltb o 128) refl where
  more : (b : Bool) → ltb o 128 ≡ b → o ≡ 9 + 16 * (o / 16 % 8) + flag_value (cond b FromOriginator ToOriginator)
  more true t = named_low o (ltb-true o 128 t) e
  more false t = named_high o h (ltb-false o 128 t) e

head_names : (o : ℕ) (t : Transaction) → o < 256 → head_of o ≡ Some t → Names o t
head_names o t h e = more (eqb (o % 16) 9 && ltb (o / 16 % 8) 7) refl e where
  more : (b : Bool) → eqb (o % 16) 9 && ltb (o / 16 % 8) 7 ≡ b → cond b (Some (record { flag = flag_of o; identifier = o / 16 % 8 })) None ≡ Some t → Names o t
  more true q g =
      let p = and_parts (eqb (o % 16) 9) (ltb (o / 16 % 8) 7) q in
      let nine : o % 16 ≡ 9 = eqb-true (o % 16) 9 p.0 in
      let small : o / 16 % 8 < 7 = ltb-true (o / 16 % 8) 7 p.1 in
      subst (λ (v : Transaction). Names o v) (same_Some (record { flag = flag_of o; identifier = o / 16 % 8 }) t g)
      (record { same = flag_same o h nine; below = small })
  more false q g = absurd cc

parts_low : (n : ℕ) → n < 7 → ((9 + 16 * n + 0) % 16 ≡ 9) × ((9 + 16 * n + 0) / 16 % 8 ≡ n) × (9 + 16 * n + 0 < 128)
parts_low n h = (omega arith, omega arith, omega arith)

parts_high : (n : ℕ) → n < 7 → ((9 + 16 * n + 128) % 16 ≡ 9) × ((9 + 16 * n + 128) / 16 % 8 ≡ n) × (128 ≤ 9 + 16 * n + 128)
parts_high n h = (omega arith, omega arith, omega arith)

head_at : (o n : ℕ) (f : TransactionFlag) → n < 7 → o % 16 ≡ 9 → o / 16 % 8 ≡ n → flag_of o ≡ f → head_of o ≡ Some (record { flag = f; identifier = n })
head_at o n f h nine num flag =
    let a : eqb (o % 16) 9 ≡ true = eq-eqb (o % 16) 9 nine in
    let b : ltb (o / 16 % 8) 7 ≡ true = lt-ltb (o / 16 % 8) 7 (omega arith) in
    rw (a, b, flag, num) refl

head_again : (f : TransactionFlag) (n : ℕ) → n < 7 → head_of (9 + 16 * n + flag_value f) ≡ Some (record { flag = f; identifier = n })
head_again FromOriginator n h =
    let p = parts_low n h in
    let t : ltb (9 + 16 * n + 0) 128 ≡ true = lt-ltb (9 + 16 * n + 0) 128 p.2 in
    head_at (9 + 16 * n + 0) n FromOriginator h p.0 p.1 (rw t refl)
head_again ToOriginator n h =
    let p = parts_high n h in
    let t : ltb (9 + 16 * n + 128) 128 ≡ false = le-ltb (9 + 16 * n + 128) 128 p.2 in
    head_at (9 + 16 * n + 128) n ToOriginator h p.0 p.1 (rw t refl)

record TakesHead (xs : List ℕ) (transaction : Transaction) (rest : List ℕ) : Type 0 where
  parts : xs ≡ head_octet transaction ∷ rest
  below : transaction.identifier < 7
  rest_fits : IsBytes rest

head_takes : (xs : List ℕ) (x : Transaction × List ℕ) → IsBytes xs → head_in xs ≡ Ok x → TakesHead xs x.0 x.1
unfolding head_in
head_takes xs x fits e =
    let a = bind_ok (octet_in Truncated xs) _ x e in
    let b = bind_ok (known (head_of a.0.0)) _ x a.2 in
    let p = octet_takes Truncated xs a.0 a.1 in
    let n = head_names a.0.0 b.0 (bytes_first a.0.0 a.0.1 xs p fits) (knows (head_of a.0.0) b.0 b.1) in
    let whole : xs ≡ head_octet b.0 ∷ a.0.1 = p ∙ ap (λ (o : ℕ). o ∷ a.0.1) n.same in
    subst (λ (y : Transaction × List ℕ). TakesHead xs y.0 y.1) (ok_is {E = CpFault} (b.0, a.0.1) x b.2)
    (record { parts = whole; below = n.below; rest_fits = bytes_rest a.0.0 a.0.1 xs p fits })

head_in_again : (t : Transaction) (rest : List ℕ) → t.identifier < 7 → head_in (head_octet t ∷ rest) ≡ Ok (t, rest)
unfolding head_in
head_in_again t rest h = let e : head_of (head_octet t) ≡ Some t = head_again t.flag t.identifier h in rw e refl

-- ---- the type

one_type : (b : Bool) (kind found : MessageType) (octet : ℕ) (rest : Option MessageType) → eqb (type_octet kind) octet ≡ b
    → (rest ≡ Some found → eqb (type_octet found) octet ≡ true) → cond b (Some kind) rest ≡ Some found → eqb (type_octet found) octet ≡ true
one_type true kind found octet rest is later e = subst (λ (m : MessageType). eqb (type_octet m) octet ≡ true) (same_Some kind found e) is
one_type false kind found octet rest is later e = later e

found_type : (octet : ℕ) (kinds : List MessageType) (found : MessageType) → find (λ kind. eqb (type_octet kind) octet) kinds ≡ Some found → eqb (type_octet found) octet ≡ true
found_type octet [] found e = absurd cc
found_type octet (kind ∷ kinds) found e =
    one_type (eqb (type_octet kind) octet) kind found octet (find (λ kind. eqb (type_octet kind) octet) kinds) refl (found_type octet kinds found) e

type_names : (octet : ℕ) (kind : MessageType) → type_of octet ≡ Some kind → octet ≡ type_octet kind
unfolding type_of
type_names octet kind e = let same = eqb-true (type_octet kind) octet (found_type octet types kind e) in cc

record TakesType (xs : List ℕ) (kind : MessageType) (rest : List ℕ) : Type 0 where
  parts : xs ≡ type_octet kind ∷ rest
  rest_fits : IsBytes rest

type_takes : (xs : List ℕ) (x : MessageType × List ℕ) → IsBytes xs → type_in xs ≡ Ok x → TakesType xs x.0 x.1
unfolding type_in
type_takes xs x fits e =
    let a = bind_ok (octet_in Truncated xs) _ x e in
    let b = bind_ok (known (type_of a.0.0)) _ x a.2 in
    let p = octet_takes Truncated xs a.0 a.1 in
    let whole : xs ≡ type_octet b.0 ∷ a.0.1 = p ∙ ap (λ (o : ℕ). o ∷ a.0.1) (type_names a.0.0 b.0 (knows (type_of a.0.0) b.0 b.1)) in
    subst (λ (y : MessageType × List ℕ). TakesType xs y.0 y.1) (ok_is {E = CpFault} (b.0, a.0.1) x b.2)
    (record { parts = whole; rest_fits = bytes_rest a.0.0 a.0.1 xs p fits })

type_again : (k : MessageType) (rest : List ℕ) → type_in (type_octet k ∷ rest) ≡ Ok (k, rest)
unfolding type_in type_of
type_again Data rest = refl
type_again Ack rest = refl
type_again Error rest = refl

-- ---- the cause

one_cause : (b : Bool) (cause : CpCause) (octet : ℕ) (rest : Option CpCause) → eqb (cause_octet cause) octet ≡ b
    → cause_octet (unwrap_or rest (Other octet)) ≡ octet → cause_octet (unwrap_or (cond b (Some cause) rest) (Other octet)) ≡ octet
one_cause true cause octet rest is later = eqb-true (cause_octet cause) octet is
one_cause false cause octet rest is later = later

found_cause : (octet : ℕ) (causes : List CpCause) → cause_octet (unwrap_or (find (λ cause. eqb (cause_octet cause) octet) causes) (Other octet)) ≡ octet
found_cause octet [] = refl
found_cause octet (cause ∷ causes) = one_cause (eqb (cause_octet cause) octet) cause octet (find (λ cause. eqb (cause_octet cause) octet) causes) refl (found_cause octet causes)

cause_again : (octet : ℕ) → cause_octet (cause_of octet) ≡ octet
unfolding cause_of
cause_again octet = found_cause octet named

stood_for : (octet : ℕ) (cause : CpCause) → cause_of octet ≡ cause → IsCpCause cause
stood_for octet (Other n) e =
    let same : n ≡ octet = sym (ap cause_octet e) ∙ cause_again octet in
    ap cause_of same ∙ e
stood_for octet cause e = tt

cause_is : (cause : CpCause) → IsCpCause cause → cause_of (cause_octet cause) ≡ cause
unfolding cause_of
cause_is (Other octet) h = h
cause_is _ h = refl

-- ---- the unit

record TakesUnit (xs text rest : List ℕ) : Type 0 where
  parts : xs ≡ length text ∷ (text ++ rest)
  some : 0 < length text
  fits : length text ≤ 248

unit_takes : (xs : List ℕ) (x : List ℕ × List ℕ) → unit_in xs ≡ Ok x → TakesUnit xs x.0 x.1
unfolding unit_in
unit_takes xs x e =
    let a = bind_ok (octet_in Truncated xs) _ x e in
    let b = bind_ok (only_if (ltb 0 a.0.0 && ltb a.0.0 249) BadLength) _ x a.2 in
    let t = and_parts (ltb 0 a.0.0) (ltb a.0.0 249) (passes _ BadLength b.0 b.1) in
    let low : 0 < a.0.0 = ltb-true 0 a.0.0 t.0 in
    let high : a.0.0 < 249 = ltb-true a.0.0 249 t.1 in
    let p = octet_takes Truncated xs a.0 a.1 in
    let r = run_takes Truncated a.0.0 a.0.1 x b.2 in
    let whole : xs ≡ length x.0 ∷ (x.0 ++ x.1) = p ∙ ap (λ (l : List ℕ). a.0.0 ∷ l) r.0 ∙ ap (λ (n : ℕ). n ∷ (x.0 ++ x.1)) (sym r.1) in
    record { parts = whole; some = omega (arith, r.1); fits = omega (arith, r.1) }

unit_again : (text rest : List ℕ) → 0 < length text → length text ≤ 248 → unit_in (length text ∷ (text ++ rest)) ≡ Ok (text, rest)
unfolding unit_in
unit_again text rest low high =
    let a : ltb 0 (length text) ≡ true = lt-ltb 0 (length text) low in
    let b : ltb (length text) 249 ≡ true = lt-ltb (length text) 249 (omega arith) in
    let r : run_in Truncated (length text) (text ++ rest) ≡ Ok (text, rest) = run_again Truncated (length text) text rest refl in
    rw (a, b, r) refl

-- ---- whole frames

body_takes : (t : Transaction) (k : MessageType) (xs : List ℕ) (cp : Cp) → t.identifier < 7 → body_at t k xs ≡ Ok cp → IsCp (head_octet t ∷ type_octet k ∷ xs) cp
body_takes t Data xs cp h e =
    let a = bind_ok (unit_in xs) _ cp e in
    let b = bind_ok (end_in Trailing a.0.1) _ cp a.2 in
    let u = unit_takes xs a.0 a.1 in
    let last = end_takes Trailing a.0.1 b.0 b.1 in
    let tail : xs ≡ length a.0.0 ∷ a.0.0 = u.parts ∙ ap (λ (l : List ℕ). length a.0.0 ∷ (a.0.0 ++ l)) last ∙ ap (λ (l : List ℕ). length a.0.0 ∷ l) (append-nil a.0.0) in
    let whole : head_octet t ∷ 1 ∷ xs ≡ head_octet t ∷ 1 ∷ length a.0.0 ∷ a.0.0 = ap (λ (l : List ℕ). head_octet t ∷ 1 ∷ l) tail in
    subst (λ (y : Cp). IsCp (head_octet t ∷ 1 ∷ xs) y) (ok_is {E = CpFault} (DataUnit t a.0.0) cp b.2) (record { value = (h, u.some, u.fits); spells = whole })
body_takes t Ack xs cp h e =
    let b = bind_ok (end_in Trailing xs) _ cp e in
    let last = end_takes Trailing xs b.0 b.1 in
    subst (λ (y : Cp). IsCp (head_octet t ∷ 4 ∷ xs) y) (ok_is {E = CpFault} (AckUnit t) cp b.2) (record { value = h; spells = ap (λ (l : List ℕ). head_octet t ∷ 4 ∷ l) last })
body_takes t Error xs cp h e =
    let a = bind_ok (octet_in Truncated xs) _ cp e in
    let b = bind_ok (end_in Trailing a.0.1) _ cp a.2 in
    let p = octet_takes Truncated xs a.0 a.1 in
    let last = end_takes Trailing a.0.1 b.0 b.1 in
    let tail : xs ≡ cause_octet (cause_of a.0.0) ∷ [] = p ∙ ap (λ (l : List ℕ). a.0.0 ∷ l) last ∙ ap (λ (n : ℕ). n ∷ []) (sym (cause_again a.0.0)) in
    subst (λ (y : Cp). IsCp (head_octet t ∷ 16 ∷ xs) y) (ok_is {E = CpFault} (ErrorUnit t (cause_of a.0.0)) cp b.2)
    (record { value = (h, stood_for a.0.0 (cause_of a.0.0) refl); spells = ap (λ (l : List ℕ). head_octet t ∷ 16 ∷ l) tail })

cp_takes : (xs : List ℕ) (cp : Cp) → IsBytes xs → cp_at xs ≡ Ok cp → IsCp xs cp
unfolding cp_at
cp_takes xs cp fits e =
    let a = bind_ok (head_in xs) _ cp e in
    let b = bind_ok (type_in a.0.1) _ cp a.2 in
    let h = head_takes xs a.0 fits a.1 in
    let k = type_takes a.0.1 b.0 h.rest_fits b.1 in
    let whole : xs ≡ head_octet a.0.0 ∷ type_octet b.0.0 ∷ b.0.1 = h.parts ∙ ap (λ (l : List ℕ). head_octet a.0.0 ∷ l) k.parts in
    subst (λ (l : List ℕ). IsCp l cp) (sym whole) (body_takes a.0.0 b.0.0 b.0.1 cp h.below b.2)

pub cp_found : (xs : List ℕ) (r : Result Cp CpFault) → IsBytes xs → r ≡ cp_at xs → IfOk r (λ cp. IsCp xs cp)
cp_found xs (Ok cp) fits e = cp_takes xs cp fits (sym e)
cp_found xs (Err f) fits e = tt

framed : (t : Transaction) (k : MessageType) (xs : List ℕ) → t.identifier < 7 → cp_at (head_octet t ∷ type_octet k ∷ xs) ≡ body_at t k xs
unfolding cp_at
framed t k xs h = rw (head_in_again t (type_octet k ∷ xs) h, type_again k xs) refl

pub spelled_again : (cp : Cp) → IsCpValue cp → cp_at (spelled cp) ≡ Ok cp
spelled_again (DataUnit t unit) h =
    let u : unit_in (length unit ∷ unit) ≡ Ok (unit, []) = ap (λ (l : List ℕ). unit_in (length unit ∷ l)) (sym (append-nil unit)) ∙ unit_again unit [] h.1 h.2 in
    framed t Data (length unit ∷ unit) h.0 ∙ rw u refl
spelled_again (AckUnit t) h = framed t Ack [] h
spelled_again (ErrorUnit t cause) h = framed t Error (cause_octet cause ∷ []) h.0 ∙ ap (λ (c : CpCause). let r : Result Cp CpFault = Ok (ErrorUnit t c) in r) (cause_is cause h.1)

pub cp_again : (xs : List ℕ) (cp : Cp) → IsCp xs cp → cp_at xs ≡ Ok cp
cp_again xs cp h = ap cp_at h.spells ∙ spelled_again cp h.value

-- ---- fronts

cuts_known : {A X : Type 0} (o : Option A) (r : A → List ℕ → Result (X × List ℕ) CpFault) → ((a : A) → CutsShort Truncated (r a)) → CutsShort Truncated (λ xs. known o >>= (λ a. r a xs))
cuts_known (Some a) r h xs ys z e = h a xs ys z e
cuts_known None r h xs ys z e = absurd cc

cuts_head : CutsShort Truncated head_in
unfolding head_in
cuts_head = cuts_bind Truncated (octet_in Truncated) _ (cuts_octet Truncated) (λ (o : ℕ). cuts_known (head_of o) (λ t xs. Ok (t, xs)) (λ t. cuts_pure Truncated t))

cuts_type : CutsShort Truncated type_in
unfolding type_in
cuts_type = cuts_bind Truncated (octet_in Truncated) _ (cuts_octet Truncated) (λ (o : ℕ). cuts_known (type_of o) (λ k xs. Ok (k, xs)) (λ k. cuts_pure Truncated k))

cuts_unit : CutsShort Truncated unit_in
unfolding unit_in
cuts_unit = cuts_bind Truncated (octet_in Truncated) _ (cuts_octet Truncated) (λ (n : ℕ). cuts_test Truncated (ltb 0 n && ltb n 249) BadLength (run_in Truncated n) (cuts_run Truncated n))

whole_body : (t : Transaction) (k : MessageType) → CutsWhole Truncated (body_at t k)
whole_body t Data = whole_bind Truncated unit_in _ cuts_unit (λ (unit : List ℕ). whole_end Truncated Trailing (DataUnit t unit))
whole_body t Ack = whole_end Truncated Trailing (AckUnit t)
whole_body t Error = whole_bind Truncated (octet_in Truncated) _ (cuts_octet Truncated) (λ (o : ℕ). whole_end Truncated Trailing (ErrorUnit t (cause_of o)))

pub whole_cp : CutsWhole Truncated cp_at
unfolding cp_at
whole_cp = whole_bind Truncated head_in _ cuts_head (λ (t : Transaction). whole_bind Truncated type_in _ cuts_type (λ (k : MessageType). whole_body t k))

pub front_cut : (front rest : List ℕ) (cp : Cp) → IsCp (front ++ rest) cp → rest ≢ [] → cp_at front ≡ Err Truncated
front_cut front rest cp h more = elim (whole_cp front rest cp (cp_again (front ++ rest) cp h)) [ inl e ↦ absurd (more e) | inr e ↦ e ]

pub one_form : (a b : List ℕ) (cp : Cp) → IsCp a cp → IsCp b cp → a ≡ b
one_form a b cp h k = h.spells ∙ sym k.spells

pub one_reading : (xs : List ℕ) (a b : Cp) → IsCp xs a → IsCp xs b → a ≡ b
one_reading xs a b h k = ok_is {E = CpFault} a b (sym (cp_again xs a h) ∙ cp_again xs b k)
