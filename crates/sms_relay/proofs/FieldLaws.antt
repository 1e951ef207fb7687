-- The fields of a unit: what is read stands at the front, what was written is read again, and a cut field ends too early.
use Rattle.std.proofs.Common.{◌≡◌, ℕ, zero, suc, ◌<◌, ◌≤◌, ◌⊎◌, inl, inr, Bool, true, false, not, ◌&&◌, ◌||◌, cond, eqb, ltb, List, [], ◌∷◌, ◌++◌, length, get_or, Ok, Option, Some, None, refl, sym, ap, subst, ◌∙◌, arith, lit<}
use Rattle.std.proofs.lemmas.Bool.{ltb-true, ltb-false, eqb-true, lt-ltb, le-ltb, and_parts, not-true}
use Rattle.std.proofs.lemmas.List.{append-nil}
use Rattle.sms_base.specs.Reading.{◌>>=◌, only_if, octet_in, run_in, AreOctets}
use Rattle.sms_base.proofs.Steps.{bind_ok, passes, ok_is, octet_takes, run_takes, run_again}
use Rattle.sms_base.proofs.Cuts.{Less, CutsShort, cuts_octet, cuts_run, cuts_pure, cuts_bind, cuts_test}
use Rattle.sms_base.proofs.OctetLaws.{IsBytes, bytes_rest}
use Rattle.sms_relay.specs.declared.cause.RpCause.{RpCause}
use Rattle.sms_relay.specs.declared.fault.RelayFault.{RelayFault}
use Rattle.sms_relay.specs.declared.fault.RelayFault.TheVariants.{Truncated, BadLength}
use Rattle.sms_relay.specs.declared.message_type.Direction.{Direction}
use Rattle.sms_relay.specs.declared.message_type.Direction.TheVariants.{Up, Down}
use Rattle.sms_relay.specs.Cause.{number_of, cause_of, IsRpCause}
use Rattle.sms_relay.specs.RelayGrammar.{IsCentre, IsTpdu, IsUserData, user_data, IsCauseField, addresses}
use Rattle.sms_relay.specs.RelayReading.{centre_in, nobody_in, addresses_in, tpdu_in, user_data_in, cause_in}
use Rattle.sms_relay.proofs.CauseLaws.{cause_of-number, cause_of-is, number_of-is}

-- ---- octets

pub IsBytes-back : (xs ys zs : List ℕ) → zs ≡ xs ++ ys → IsBytes zs → IsBytes ys
IsBytes-back [] ys zs e h = subst IsBytes e h
IsBytes-back (x ∷ xs) ys zs e h = IsBytes-back xs ys (xs ++ ys) refl (bytes_rest x (xs ++ ys) zs e h)

pub IsBytes-octets : (xs : List ℕ) → AreOctets xs → (i : ℕ) → get_or xs i 0 < 256
IsBytes-octets [] h i = lit< tt
IsBytes-octets (x ∷ xs) h zero = h.0
IsBytes-octets (x ∷ xs) h (suc i) = IsBytes-octets xs h.1 i

-- ---- a length and a TPDU

pub tpdu_parts : (xs : List ℕ) (x : List ℕ × List ℕ) → tpdu_in xs ≡ Ok x → xs ≡ length x.0 ∷ (x.0 ++ x.1)
unfolding tpdu_in
tpdu_parts xs x e =
    let a = bind_ok (octet_in Truncated xs) _ x e in
    let t = run_takes Truncated a.0.0 a.0.1 x a.2 in
    rw t.1 (octet_takes Truncated xs a.0 a.1 ∙ ap (λ (l : List ℕ). a.0.0 ∷ l) t.0)

pub tpdu_takes : (xs : List ℕ) (x : List ℕ × List ℕ) → IsBytes xs → tpdu_in xs ≡ Ok x → (xs ≡ length x.0 ∷ (x.0 ++ x.1)) × IsTpdu x.0
tpdu_takes xs x fits e =
    let p = tpdu_parts xs x e in
    let small : length x.0 < 256 = subst (λ (ys : List ℕ). get_or ys 0 0 < 256) p (fits 0) in
    (p, small)

pub tpdu_again : (unit rest : List ℕ) → tpdu_in (length unit ∷ (unit ++ rest)) ≡ Ok (unit, rest)
unfolding tpdu_in
tpdu_again unit rest = run_again Truncated (length unit) unit rest refl

pub tpdu_last : (unit : List ℕ) → tpdu_in (length unit ∷ unit) ≡ Ok (unit, [])
tpdu_last unit = ap (λ (l : List ℕ). tpdu_in (length unit ∷ l)) (sym (append-nil unit)) ∙ tpdu_again unit []

pub tpdu_cuts : CutsShort Truncated tpdu_in
unfolding tpdu_in
tpdu_cuts = cuts_bind Truncated (octet_in Truncated) (λ count. run_in Truncated count.0 count.1) (cuts_octet Truncated) (λ count. cuts_run Truncated count)

-- ---- the address of the centre

pub centre_takes : (xs : List ℕ) (x : List ℕ × List ℕ) → centre_in xs ≡ Ok x → (xs ≡ length x.0 ∷ (x.0 ++ x.1)) × IsCentre x.0
unfolding centre_in
centre_takes xs x e =
    let a = bind_ok (octet_in Truncated xs) _ x e in
    let n = a.0.0 in
    let b = bind_ok (only_if (not (ltb n 2) && ltb n 12) BadLength) _ x a.2 in
    let t = run_takes Truncated n a.0.1 x b.2 in
    let h = and_parts (not (ltb n 2)) (ltb n 12) (passes _ BadLength b.0 b.1) in
    let low : 2 ≤ n = ltb-false n 2 (not-true (ltb n 2) h.0) in
    let high : n < 12 = ltb-true n 12 h.1 in
    let whole : xs ≡ length x.0 ∷ (x.0 ++ x.1) = rw t.1 (octet_takes Truncated xs a.0 a.1 ∙ ap (λ (l : List ℕ). n ∷ l) t.0) in
    let is : length x.0 ≡ n = t.1 in
    (whole, (omega arith, omega arith))

pub centre_again : (centre rest : List ℕ) → IsCentre centre → centre_in (length centre ∷ (centre ++ rest)) ≡ Ok (centre, rest)
unfolding centre_in
centre_again centre rest h =
    let low : ltb (length centre) 2 ≡ false = le-ltb (length centre) 2 h.0 in
    let high : ltb (length centre) 12 ≡ true = lt-ltb (length centre) 12 (let top = h.1 in omega arith) in
    rw (low, high) (run_again Truncated (length centre) centre rest refl)

pub centre_cuts : CutsShort Truncated centre_in
unfolding centre_in
centre_cuts =
    cuts_bind Truncated (octet_in Truncated) (λ count. only_if (not (ltb count.0 2) && ltb count.0 12) BadLength >>= (λ u. run_in Truncated count.0 count.1)) (cuts_octet Truncated)
    (λ count. cuts_test Truncated (not (ltb count 2) && ltb count 12) BadLength (run_in Truncated count) (cuts_run Truncated count))

-- ---- the address of the other side

pub nobody_takes : (xs : List ℕ) (x : Unit {0} × List ℕ) → nobody_in xs ≡ Ok x → xs ≡ 0 ∷ x.1
unfolding nobody_in
nobody_takes xs x e =
    let a = bind_ok (octet_in Truncated xs) _ x e in
    let b = bind_ok (only_if (eqb a.0.0 0) BadLength) _ x a.2 in
    let none : a.0.0 ≡ 0 = eqb-true a.0.0 0 (passes _ BadLength b.0 b.1) in
    let same : xs ≡ 0 ∷ a.0.1 = octet_takes Truncated xs a.0 a.1 ∙ ap (λ (n : ℕ). n ∷ a.0.1) none in
    subst (λ (y : Unit {0} × List ℕ). xs ≡ 0 ∷ y.1) (ok_is {E = RelayFault} (tt, a.0.1) x b.2) same

pub nobody_again : (rest : List ℕ) → nobody_in (0 ∷ rest) ≡ Ok (tt, rest)
unfolding nobody_in
nobody_again rest = refl

pub nobody_cuts : CutsShort Truncated nobody_in
unfolding nobody_in
nobody_cuts =
    cuts_bind Truncated (octet_in Truncated) (λ count. only_if (eqb count.0 0) BadLength >>= (λ u. Ok (tt, count.1))) (cuts_octet Truncated)
    (λ count. cuts_test Truncated (eqb count 0) BadLength (λ rest. Ok (tt, rest)) (cuts_pure Truncated tt))

-- ---- the addresses

pub addresses_takes : (direction : Direction) (xs : List ℕ) (x : List ℕ × List ℕ) → addresses_in direction xs ≡ Ok x → (xs ≡ addresses direction x.0 x.1) × IsCentre x.0
unfolding addresses_in
addresses_takes Up xs x e =
    let a = bind_ok (nobody_in xs) _ x e in
    let c = centre_takes a.0.1 x a.2 in
    (nobody_takes xs a.0 a.1 ∙ ap (λ (l : List ℕ). 0 ∷ l) c.0, c.1)
addresses_takes Down xs x e =
    let a = bind_ok (centre_in xs) _ x e in
    let b = bind_ok (nobody_in a.0.1) _ x a.2 in
    let c = centre_takes xs a.0 a.1 in
    let whole : xs ≡ addresses Down a.0.0 b.0.1 = c.0 ∙ ap (λ (l : List ℕ). length a.0.0 ∷ (a.0.0 ++ l)) (nobody_takes a.0.1 b.0 b.1) in
    subst (λ (y : List ℕ × List ℕ). (xs ≡ addresses Down y.0 y.1) × IsCentre y.0) (ok_is {E = RelayFault} (a.0.0, b.0.1) x b.2) (whole, c.1)

-- the octets behind them
pub addresses_back : (direction : Direction) (centre rest xs : List ℕ) → xs ≡ addresses direction centre rest → IsBytes xs → IsBytes rest
addresses_back Up centre rest xs e fits = IsBytes-back (0 ∷ length centre ∷ centre) rest xs e fits
addresses_back Down centre rest xs e fits = bytes_rest 0 rest (0 ∷ rest) refl (IsBytes-back (length centre ∷ centre) (0 ∷ rest) xs e fits)

pub addresses_again : (direction : Direction) (centre rest : List ℕ) → IsCentre centre → addresses_in direction (addresses direction centre rest) ≡ Ok (centre, rest)
unfolding addresses_in
addresses_again Up centre rest h = rw (nobody_again (length centre ∷ (centre ++ rest)), centre_again centre rest h) refl
addresses_again Down centre rest h = rw (centre_again centre (0 ∷ rest) h, nobody_again rest) refl

pub addresses_cuts : (direction : Direction) → CutsShort Truncated (addresses_in direction)
unfolding addresses_in
addresses_cuts Up = cuts_bind Truncated nobody_in _ nobody_cuts (λ originator. centre_cuts)
addresses_cuts Down =
    cuts_bind Truncated centre_in _ centre_cuts (λ centre.
    cuts_bind Truncated nobody_in _ nobody_cuts (λ destination. cuts_pure Truncated centre))

-- ---- user data

named_parts : (b : Bool) (k : ℕ) (xs : List ℕ) (x : Option (List ℕ) × List ℕ) → eqb k 65 ≡ b → cond b (tpdu_in xs >>= (λ unit. Ok (Some unit.0, unit.1))) (Ok (None, k ∷ xs)) ≡ Ok x → k ∷ xs ≡ user_data x.0 ++ x.1
named_parts true k xs x is e =
    let a = bind_ok (tpdu_in xs) _ x e in
    let whole : k ∷ xs ≡ 65 ∷ length a.0.0 ∷ (a.0.0 ++ a.0.1) = ap (λ (n : ℕ). n ∷ xs) (eqb-true k 65 is) ∙ ap (λ (l : List ℕ). 65 ∷ l) (tpdu_parts xs a.0 a.1) in
    subst (λ (y : Option (List ℕ) × List ℕ). k ∷ xs ≡ user_data y.0 ++ y.1) (ok_is {E = RelayFault} (Some a.0.0, a.0.1) x a.2) whole
named_parts false k xs x is e = subst (λ (y : Option (List ℕ) × List ℕ). k ∷ xs ≡ user_data y.0 ++ y.1) (ok_is {E = RelayFault} (None, k ∷ xs) x e) refl

pub user_data_parts : (xs : List ℕ) (x : Option (List ℕ) × List ℕ) → user_data_in xs ≡ Ok x → xs ≡ user_data x.0 ++ x.1
unfolding user_data_in
user_data_parts [] x e = subst (λ (y : Option (List ℕ) × List ℕ). [] ≡ user_data y.0 ++ y.1) (ok_is {E = RelayFault} (None, []) x e) refl
user_data_parts (k ∷ xs) x e = named_parts (eqb k 65) k xs x refl e

fits_one : (unit : Option (List ℕ)) (xs rest : List ℕ) → IsBytes xs → xs ≡ user_data unit ++ rest → IsUserData unit
fits_one None xs rest fits e = tt
fits_one (Some unit) xs rest fits e = subst (λ (ys : List ℕ). get_or ys 1 0 < 256) e (fits 1)

pub user_data_takes : (xs : List ℕ) (x : Option (List ℕ) × List ℕ) → IsBytes xs → user_data_in xs ≡ Ok x → (xs ≡ user_data x.0 ++ x.1) × IsUserData x.0
user_data_takes xs x fits e = let p = user_data_parts xs x e in (p, fits_one x.0 xs x.1 fits p)

pub user_data_again : (unit : Option (List ℕ)) → user_data_in (user_data unit) ≡ Ok (unit, [])
unfolding user_data_in
user_data_again None = refl
user_data_again (Some unit) = rw (tpdu_last unit) refl

named_cut : (b : Bool) (k : ℕ) (xs ys : List ℕ) (z : Option (List ℕ) × List ℕ) → cond b (tpdu_in (xs ++ ys) >>= (λ unit. Ok (Some unit.0, unit.1))) (Ok (None, k ∷ (xs ++ ys))) ≡ Ok z
    → Less Truncated (cond b (tpdu_in xs >>= (λ unit. Ok (Some unit.0, unit.1))) (Ok (None, k ∷ xs))) ys z
named_cut true k xs ys z e = cuts_bind Truncated tpdu_in (λ unit. Ok (Some unit.0, unit.1)) tpdu_cuts (λ unit. cuts_pure Truncated (Some unit)) xs ys z e
named_cut false k xs ys z e = cuts_pure Truncated None (k ∷ xs) ys z e

-- a front of read user data reads the same, or ends too early, or is empty where the user data begins
pub user_data_cut : (xs ys : List ℕ) (z : Option (List ℕ) × List ℕ) → user_data_in (xs ++ ys) ≡ Ok z → Less Truncated (user_data_in xs) ys z ⊎ ((xs ≡ []) × (ys ≡ user_data z.0 ++ z.1))
unfolding user_data_in
user_data_cut [] ys z e = inr (refl, user_data_parts ys z e)
user_data_cut (k ∷ xs) ys z e = inl (named_cut (eqb k 65) k xs ys z e)

-- ---- the cause

pub record TakesCause (xs : List ℕ) (cause : RpCause) (rest : List ℕ) : Type 0 where
  pub field : List ℕ
  pub spelled : IsCauseField field cause
  pub is : IsRpCause cause
  pub parts : xs ≡ field ++ rest

one_or_two : (a b : Bool) → a || b ≡ true → (a ≡ true) ⊎ ((a ≡ false) × (b ≡ true))
one_or_two true b e = inl refl
one_or_two false b e = inr (refl, e)

behind : (b : Bool) (k n : ℕ) (xs : List ℕ) (x : RpCause × List ℕ) → n < 128 → (b ≡ true → k ≡ 1) → (b ≡ false → k ≡ 2)
    → cond b (Ok (cause_of n, xs)) (octet_in Truncated xs >>= (λ diagnostic. Ok (cause_of n, diagnostic.1))) ≡ Ok x → TakesCause (k ∷ n ∷ xs) x.0 x.1
behind true k n xs x fits one two e =
    let same = cause_of-number n in
    let text : 1 ∷ n ∷ [] ≡ 1 ∷ number_of (cause_of n) ∷ [] = ap (λ (m : ℕ). 1 ∷ m ∷ []) (sym same) in
    let whole : k ∷ n ∷ xs ≡ (1 ∷ n ∷ []) ++ xs = ap (λ (m : ℕ). m ∷ n ∷ xs) (one refl) in
    subst (λ (y : RpCause × List ℕ). TakesCause (k ∷ n ∷ xs) y.0 y.1) (ok_is {E = RelayFault} (cause_of n, xs) x e)
    (record { field = 1 ∷ n ∷ []; spelled = inl text; is = cause_of-is n fits; parts = whole })
behind false k n xs x fits one two e =
    let a = bind_ok (octet_in Truncated xs) _ x e in
    let d = a.0.0 in
    let same = cause_of-number n in
    let text : 2 ∷ n ∷ d ∷ [] ≡ 2 ∷ number_of (cause_of n) ∷ d ∷ [] = ap (λ (m : ℕ). 2 ∷ m ∷ d ∷ []) (sym same) in
    let whole : k ∷ n ∷ xs ≡ (2 ∷ n ∷ d ∷ []) ++ a.0.1 = ap (λ (m : ℕ). m ∷ n ∷ xs) (two refl) ∙ ap (λ (l : List ℕ). 2 ∷ n ∷ l) (octet_takes Truncated xs a.0 a.1) in
    subst (λ (y : RpCause × List ℕ). TakesCause (k ∷ n ∷ xs) y.0 y.1) (ok_is {E = RelayFault} (cause_of n, a.0.1) x a.2)
    (record { field = 2 ∷ n ∷ d ∷ []; spelled = inr (d, text); is = cause_of-is n fits; parts = whole })

two_left : (k : ℕ) → eqb k 1 || eqb k 2 ≡ true → eqb k 1 ≡ false → k ≡ 2
two_left k e one = elim (one_or_two (eqb k 1) (eqb k 2) e) [ inl h ↦ absurd cc | inr h ↦ eqb-true k 2 h.1 ]

pub cause_takes : (xs : List ℕ) (x : RpCause × List ℕ) → cause_in xs ≡ Ok x → TakesCause xs x.0 x.1
unfolding cause_in
cause_takes xs x e =
    let a = bind_ok (octet_in Truncated xs) _ x e in
    let k = a.0.0 in
    let b = bind_ok (only_if (eqb k 1 || eqb k 2) BadLength) _ x a.2 in
    let c = bind_ok (octet_in Truncated a.0.1) _ x b.2 in
    let n = c.0.0 in
    let d = bind_ok (only_if (ltb n 128) BadLength) _ x c.2 in
    let known = passes (eqb k 1 || eqb k 2) BadLength b.0 b.1 in
    let small : n < 128 = ltb-true n 128 (passes (ltb n 128) BadLength d.0 d.1) in
    let whole : xs ≡ k ∷ n ∷ c.0.1 = octet_takes Truncated xs a.0 a.1 ∙ ap (λ (l : List ℕ). k ∷ l) (octet_takes Truncated a.0.1 c.0 c.1) in
    let is = behind (eqb k 1) k n c.0.1 x small (λ t. eqb-true k 1 t) (λ t. two_left k known t) d.2 in
    subst (λ (l : List ℕ). TakesCause l x.0 x.1) (sym whole) is

pub cause_again : (field : List ℕ) (cause : RpCause) (rest : List ℕ) → IsCauseField field cause → IsRpCause cause → cause_in (field ++ rest) ≡ Ok (cause, rest)
unfolding cause_in
cause_again field cause rest spelled is =
    let known = number_of-is cause is in
    let small : ltb (number_of cause) 128 ≡ true = lt-ltb (number_of cause) 128 known.0 in
    elim spelled [
      | inl e ↦ rw (e, small, known.1) refl
      | inr e ↦ rw (e.1, small, known.1) refl
    ]

cuts_behind : (b : Bool) (cause : RpCause) → CutsShort Truncated (λ rest. cond b (Ok (cause, rest)) (octet_in Truncated rest >>= (λ diagnostic. Ok (cause, diagnostic.1))))
cuts_behind true cause = cuts_pure Truncated cause
cuts_behind false cause = cuts_bind Truncated (octet_in Truncated) (λ diagnostic. Ok (cause, diagnostic.1)) (cuts_octet Truncated) (λ diagnostic. cuts_pure Truncated cause)

pub cause_cuts : CutsShort Truncated cause_in
unfolding cause_in
cause_cuts =
    cuts_bind Truncated (octet_in Truncated) _ (cuts_octet Truncated)
    (λ k. cuts_test Truncated (eqb k 1 || eqb k 2) BadLength _
    (cuts_bind Truncated (octet_in Truncated) _ (cuts_octet Truncated)
    (λ n. cuts_test Truncated (ltb n 128) BadLength (λ rest. cond (eqb k 1) (Ok (cause_of n, rest)) (octet_in Truncated rest >>= (λ diagnostic. Ok (cause_of n, diagnostic.1)))) (cuts_behind (eqb k 1) (cause_of n)))))
