-- How many sessions an account has once somebody is bound at a seat, or nobody, and which accounts are full.
use Rattle.std.proofs.Common.{◌≡◌, ◌≢◌, ◌≤◌, ◌<◌, ◌+◌, ℕ, zero, suc, Bool, true, false, not, eqb, List, [], ◌∷◌, length, set, replicate, Option, Some, None, inl, inr, refl, sym, ap, subst, ◌∙◌, arith}
use Rattle.std.proofs.lemmas.Bool.{eqb-true, ltb-true}
use Rattle.std.proofs.lemmas.Bool.Decides.{eqb_tells}
use Rattle.std.proofs.lemmas.List.{length-set, length-replicate}
use Rattle.smpp_session.specs.Logins.{is_full}
use Rattle.smsc_server.specs.serving.SessionLimits.{AreWithin, count_of, full_where, has_room, is_of, limit_of, rises}
use Rattle.smsc_endpoint.proofs.Requests.{counted_in}

abbrev one_if : Bool → ℕ
one_if true = 1
one_if false = 0

with_at_most : (b : Bool) (n : ℕ) → n ≤ counted_in b n
with_at_most true n = omega arith
with_at_most false n = omega arith

with_is : (b : Bool) (n : ℕ) → counted_in b n ≡ n + one_if b
with_is true n = omega arith
with_is false n = omega arith

-- at the others there are as many
set_count : (account : ℕ) (seats : List (Option ℕ)) (seat : ℕ) (bound : Option ℕ) → count_of account (set seats seat bound) ≤ count_of account seats + one_if (is_of account bound)
set_count account [] seat bound = omega arith
set_count account (first ∷ seats) zero bound =
    let more = with_at_most (is_of account first) (count_of account seats) in
    let is = with_is (is_of account bound) (count_of account seats) in
    omega (arith, more, is)
set_count account (first ∷ seats) (suc seat) bound =
    let rest = set_count account seats seat bound in
    let before = with_is (is_of account first) (count_of account seats) in
    let after = with_is (is_of account first) (count_of account (set seats seat bound)) in
    omega (arith, rest, before, after)

-- nobody is bound there any more
pub none_within : (limits : List ℕ) (seats : List (Option ℕ)) (seat : ℕ) → AreWithin limits seats → AreWithin limits (set seats seat None)
none_within limits seats seat within account =
    let few = set_count account seats seat None in
    let was = within account in
    omega (arith, few, was)

differ : (a b : ℕ) → eqb a b ≡ false → a ≢ b
differ a b e = elim (eqb_tells a b) [ inl w ↦ absurd cc | inr w ↦ w.1 ]

-- one of an account that has room
pub one_within : (limits : List ℕ) (seats : List (Option ℕ)) (seat account : ℕ) → AreWithin limits seats → has_room account limits seats ≡ true → AreWithin limits (set seats seat (Some account))
one_within limits seats seat account within room other = by_test (eqb account other) refl where
  few : count_of other (set seats seat (Some account)) ≤ count_of other seats + one_if (eqb account other)
  few = set_count other seats seat (Some account)

  by_test : (b : Bool) → eqb account other ≡ b → count_of other (set seats seat (Some account)) ≤ limit_of other limits
  by_test true e =
      let one : one_if (eqb account other) ≡ 1 = ap one_if e in
      let less : count_of account seats < limit_of account limits = ltb-true _ _ room in
      let same : account ≡ other = eqb-true account other e in
      let here : count_of other seats < limit_of other limits = subst (λ (a : ℕ). count_of a seats < limit_of a limits) same less in
      omega (arith, few, one, here)
  by_test false e =
      let none : one_if (eqb account other) ≡ 0 = ap one_if e in
      let was = within other in
      omega (arith, few, none, was)

-- an account may have more
limit_rises : (limits : List ℕ) (place most account : ℕ) → rises place most limits ≡ true → limit_of account limits ≤ limit_of account (set limits place most)
limit_rises [] place most account e = omega arith
limit_rises (l ∷ ls) zero most zero e = let less : l < most = ltb-true l most e in omega (arith, less)
limit_rises (l ∷ ls) zero most (suc account) e = omega arith
limit_rises (l ∷ ls) (suc place) most zero e = omega arith
limit_rises (l ∷ ls) (suc place) most (suc account) e = limit_rises ls place most account e

pub raised_within : (limits : List ℕ) (seats : List (Option ℕ)) (place most : ℕ) → rises place most limits ≡ true → AreWithin limits seats → AreWithin (set limits place most) seats
raised_within limits seats place most e within account =
    let up = limit_rises limits place most account e in
    let was = within account in
    omega (arith, up, was)

-- nobody is bound at first
none_count : (account n : ℕ) → count_of account (replicate n None) ≡ 0
none_count account zero = refl
none_count account (suc n) = none_count account n

pub empty_within : (limits : List ℕ) (n : ℕ) → AreWithin limits (replicate n None)
empty_within limits n account = let none = none_count account n in omega (arith, none)

pub count_few : (account : ℕ) (seats : List (Option ℕ)) → count_of account seats ≤ length seats
count_few account [] = omega arith
count_few account (first ∷ seats) =
    let rest = count_few account seats in
    let is = with_is (is_of account first) (count_of account seats) in
    let few = one_few (is_of account first) in
    omega (arith, rest, is, few) where
      one_few : (b : Bool) → one_if b ≤ 1
      one_few true = omega arith
      one_few false = omega arith

-- ---- which accounts are full

put_full : (full : List Bool) (place : ℕ) → place < length full → is_full place (set full place true) ≡ true
put_full [] place h = absurd (omega (arith, h))
put_full (first ∷ full) zero h = refl
put_full (first ∷ full) (suc place) h = put_full full place (omega (arith, h))

put_other : (full : List Bool) (place other : ℕ) → (place ≡ other → ⊥) → is_full other (set full place true) ≡ is_full other full
put_other [] place other apart = refl
put_other (first ∷ full) zero zero apart = absurd (apart refl)
put_other (first ∷ full) zero (suc other) apart = refl
put_other (first ∷ full) (suc place) zero apart = refl
put_other (first ∷ full) (suc place) (suc other) apart = put_other full place other (λ e. apart (ap suc e))

none_is : (n account : ℕ) → is_full account (replicate n false) ≡ false
none_is zero account = refl
none_is (suc n) zero = refl
none_is (suc n) (suc account) = none_is n account

pub not_not : (b : Bool) → not (not b) ≡ b
not_not true = refl
not_not false = refl

-- of so many accounts it is told which are full, those that may have none more, and of the others none
pub record Tells (may : ℕ → Bool) (count : ℕ) (full : List Bool) : Type 0 where
  pub size : length full ≡ 32
  pub told : (account : ℕ) → account < count → is_full account full ≡ not (may account)
  pub rest : (account : ℕ) → count ≤ account → is_full account full ≡ false

pub tells_none : (may : ℕ → Bool) → Tells may 0 (replicate 32 false)
tells_none may = record { size = length-replicate 32 false; told = λ account h. absurd (omega (arith, h)); rest = λ account h. none_is 32 account }

module _ (may : ℕ → Bool) (count : ℕ) (full : List Bool) (t : Tells may count full) where
  tells_full : count < 32 → may count ≡ false → Tells may (count + 1) (set full count true)
  tells_full fits room = record {
    size = length-set full count true ∙ t.size;
    told = λ account h. by_test account h (eqb account count) refl;
    rest = λ account h. put_other full count account (λ e. omega (arith, h, e)) ∙ t.rest account (omega (arith, h));
  } where
    by_test : (account : ℕ) → account < count + 1 → (b : Bool) → eqb account count ≡ b → is_full account (set full count true) ≡ not (may account)
    by_test account h true e =
        let same : count ≡ account = sym (eqb-true account count e) in
        subst (λ (a : ℕ). is_full a (set full count true) ≡ not (may a)) same
        (put_full full count (let size = t.size in omega (arith, fits, size)) ∙ ap not (sym room))
    by_test account h false e =
        let apart : account ≢ count = differ account count e in
        put_other full count account (λ is. apart (sym is)) ∙ t.told account (omega (arith, h, apart))

  tells_room : may count ≡ true → Tells may (count + 1) full
  tells_room room = record {
    size = t.size;
    told = λ account h. by_test account h (eqb account count) refl;
    rest = λ account h. t.rest account (omega (arith, h));
  } where
    by_test : (account : ℕ) → account < count + 1 → (b : Bool) → eqb account count ≡ b → is_full account full ≡ not (may account)
    by_test account h true e =
        let same : count ≡ account = sym (eqb-true account count e) in
        subst (λ (a : ℕ). is_full a full ≡ not (may a)) same (t.rest count (omega arith) ∙ ap not (sym room))
    by_test account h false e = let apart : account ≢ count = differ account count e in t.told account (omega (arith, h, apart))

  pub tells_next : count < 32 → Tells may (count + 1) (full_where (may count) count full)
  tells_next fits = by_test (may count) refl where
    by_test : (b : Bool) → may count ≡ b → Tells may (count + 1) (full_where b count full)
    by_test true e = tells_room e
    by_test false e = tells_full fits e
