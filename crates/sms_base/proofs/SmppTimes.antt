-- A time of SMPP is read as the moment that it is of, and no other.
use Rattle.std.proofs.Common.{◌≡◌, subst, ℕ, ◌+◌, ◌-◌, ◌*◌, ◌/◌, ◌%◌, ◌<◌, ◌≤◌, Bool, true, false, ◌&&◌, cond, eqb, leb, Option, Some, None, List, [], ◌∷◌, length, get_or, drop, refl, sym, ap, ◌∙◌, arith, inl, inr, ℤ, pos, ◌-ℤ◌}
use Rattle.std.proofs.lemmas.Bool.{leb-true, le-leb, eqb-true, and_parts}
use Rattle.std.proofs.lemmas.List.{drop_more, length-drop}
use Rattle.std.proofs.lemmas.Option.{cond_some}
use Rattle.sms_base.specs.TimeStamp.{◌>>=◌, IsMoment, IsClock, zone_seconds, clock_in, moment_in}
use Rattle.sms_base.specs.SmppTime.{AreNumbers, time_text, sign_of, after_length, IsSmppTime, decimal_in, pair_at, numbers_in, local_in, time_at, smpp_time_in}
use Rattle.sms_base.specs.declared.smpp_time.SpelledTime.{SpelledTime}
use Rattle.sms_base.proofs.ClockTests.{shown_passes, checked_seconds, tests}
use Rattle.sms_base.proofs.Stamps.{bind_some, clock_in-is, moment_in-is, moment_in-pos}

-- ---- digits

decimal_is : (o d : ℕ) → decimal_in o ≡ Some d → (d < 10) × (o ≡ 48 + d)
decimal_is o d e =
    let s = cond_some (leb 48 o && leb o 57) (o - 48) d e in
    let t = and_parts (leb 48 o) (leb o 57) s.0 in
    let a = leb-true 48 o t.0 in
    let b = leb-true o 57 t.1 in
    (omega (arith, a, b, s.1), omega (arith, a, b, s.1))

decimal_known : (d : ℕ) → d < 10 → decimal_in (48 + d) ≡ Some d
decimal_known d lt =
    let a : leb 48 (48 + d) ≡ true = le-leb 48 (48 + d) (omega arith) in
    let b : leb (48 + d) 57 ≡ true = le-leb (48 + d) 57 (omega arith) in
    let c : 48 + d - 48 ≡ d = omega arith in
    rw (a, b) (ap Some c)

record IsPair (tens units n : ℕ) : Type 0 where
  small : n < 100
  tens_is : tens ≡ 48 + n / 10
  units_is : units ≡ 48 + n % 10

pair_is : (a b n : ℕ) → pair_at a b ≡ Some n → IsPair a b n
unfolding pair_at
pair_is a b n e =
    let h = bind_some (decimal_in a) _ n e in
    let l = bind_some (decimal_in b) _ n h.2 in
    let p = decimal_is a h.0 h.1 in
    let q = decimal_is b l.0 l.1 in
    let s : 10 * h.0 + l.0 ≡ n = cc (l.2) in
    record { small = omega (arith, p.0, q.0, s); tens_is = omega (arith, p.0, p.1, q.0, s); units_is = omega (arith, p.0, q.0, q.1, s) }

pair_known : (n : ℕ) → n < 100 → pair_at (48 + n / 10) (48 + n % 10) ≡ Some n
unfolding pair_at
pair_known n lt =
    let c : 10 * (n / 10) + n % 10 ≡ n = omega arith in
    rw (decimal_known (n / 10) (omega arith), decimal_known (n % 10) (omega arith)) (ap Some c)

-- ---- sixteen characters

pub sixteen : (xs : List ℕ) → length xs ≡ 16 → xs ≡ get_or xs 0 0 ∷ get_or xs 1 0 ∷ get_or xs 2 0 ∷ get_or xs 3 0 ∷ get_or xs 4 0 ∷ get_or xs 5 0 ∷ get_or xs 6 0 ∷ get_or xs 7 0 ∷ get_or xs 8 0 ∷ get_or xs 9 0 ∷ get_or xs 10 0 ∷ get_or xs 11 0 ∷ get_or xs 12 0 ∷ get_or xs 13 0 ∷ get_or xs 14 0 ∷ get_or xs 15 0 ∷ []
sixteen xs len =
    let e0 : drop 0 xs ≡ get_or xs 0 0 ∷ drop 1 xs = drop_more xs 0 0 (omega arith) in
    let e1 : drop 1 xs ≡ get_or xs 1 0 ∷ drop 2 xs = drop_more xs 1 0 (omega arith) in
    let e2 : drop 2 xs ≡ get_or xs 2 0 ∷ drop 3 xs = drop_more xs 2 0 (omega arith) in
    let e3 : drop 3 xs ≡ get_or xs 3 0 ∷ drop 4 xs = drop_more xs 3 0 (omega arith) in
    let e4 : drop 4 xs ≡ get_or xs 4 0 ∷ drop 5 xs = drop_more xs 4 0 (omega arith) in
    let e5 : drop 5 xs ≡ get_or xs 5 0 ∷ drop 6 xs = drop_more xs 5 0 (omega arith) in
    let e6 : drop 6 xs ≡ get_or xs 6 0 ∷ drop 7 xs = drop_more xs 6 0 (omega arith) in
    let e7 : drop 7 xs ≡ get_or xs 7 0 ∷ drop 8 xs = drop_more xs 7 0 (omega arith) in
    let e8 : drop 8 xs ≡ get_or xs 8 0 ∷ drop 9 xs = drop_more xs 8 0 (omega arith) in
    let e9 : drop 9 xs ≡ get_or xs 9 0 ∷ drop 10 xs = drop_more xs 9 0 (omega arith) in
    let e10 : drop 10 xs ≡ get_or xs 10 0 ∷ drop 11 xs = drop_more xs 10 0 (omega arith) in
    let e11 : drop 11 xs ≡ get_or xs 11 0 ∷ drop 12 xs = drop_more xs 11 0 (omega arith) in
    let e12 : drop 12 xs ≡ get_or xs 12 0 ∷ drop 13 xs = drop_more xs 12 0 (omega arith) in
    let e13 : drop 13 xs ≡ get_or xs 13 0 ∷ drop 14 xs = drop_more xs 13 0 (omega arith) in
    let e14 : drop 14 xs ≡ get_or xs 14 0 ∷ drop 15 xs = drop_more xs 14 0 (omega arith) in
    let e15 : drop 15 xs ≡ get_or xs 15 0 ∷ drop 16 xs = drop_more xs 15 0 (omega arith) in
    let none : drop 16 xs ≡ [] = nothing (drop 16 xs) (omega (arith, length-drop 16 xs)) in
    e0 ∙ ap (λ (l : List ℕ). get_or xs 0 0 ∷ l) (e1 ∙ ap (λ (l : List ℕ). get_or xs 1 0 ∷ l) (e2 ∙ ap (λ (l : List ℕ). get_or xs 2 0 ∷ l) (e3 ∙ ap (λ (l : List ℕ). get_or xs 3 0 ∷ l) (e4 ∙ ap (λ (l : List ℕ). get_or xs 4 0 ∷ l) (e5 ∙ ap (λ (l : List ℕ). get_or xs 5 0 ∷ l) (e6 ∙ ap (λ (l : List ℕ). get_or xs 6 0 ∷ l) (e7 ∙ ap (λ (l : List ℕ). get_or xs 7 0 ∷ l) (e8 ∙ ap (λ (l : List ℕ). get_or xs 8 0 ∷ l) (e9 ∙ ap (λ (l : List ℕ). get_or xs 9 0 ∷ l) (e10 ∙ ap (λ (l : List ℕ). get_or xs 10 0 ∷ l) (e11 ∙ ap (λ (l : List ℕ). get_or xs 11 0 ∷ l) (e12 ∙ ap (λ (l : List ℕ). get_or xs 12 0 ∷ l) (e13 ∙ ap (λ (l : List ℕ). get_or xs 13 0 ∷ l) (e14 ∙ ap (λ (l : List ℕ). get_or xs 14 0 ∷ l) (e15 ∙ ap (λ (l : List ℕ). get_or xs 15 0 ∷ l) (none))))))))))))))))
  where
    nothing : (ys : List ℕ) → length ys ≡ 0 → ys ≡ []
    nothing [] h = refl
    nothing (y ∷ ys) h = absurd (omega arith)

record Spells (xs : List ℕ) (n : SpelledTime) : Type 0 where
  tenth : ℕ
  numbers : AreNumbers n
  digit : tenth < 10
  spelled : xs ≡ time_text n tenth (get_or xs 15 0)

all_spelled : (xs : List ℕ) (t : ℕ) (n : SpelledTime) → length xs ≡ 16 → IsPair (get_or xs 0 0) (get_or xs 1 0) n.year → IsPair (get_or xs 2 0) (get_or xs 3 0) n.month → IsPair (get_or xs 4 0) (get_or xs 5 0) n.day → IsPair (get_or xs 6 0) (get_or xs 7 0) n.hour → IsPair (get_or xs 8 0) (get_or xs 9 0) n.minute → IsPair (get_or xs 10 0) (get_or xs 11 0) n.second → get_or xs 12 0 ≡ 48 + t → IsPair (get_or xs 13 0) (get_or xs 14 0) n.quarters → xs ≡ time_text n t (get_or xs 15 0)
all_spelled xs t n len p0 p1 p2 p3 p4 p5 d p6 =
    rw (← p0.tens_is, ← p0.units_is, ← p1.tens_is, ← p1.units_is, ← p2.tens_is, ← p2.units_is, ← p3.tens_is, ← p3.units_is, ← p4.tens_is, ← p4.units_is, ← p5.tens_is, ← p5.units_is, ← d, ← p6.tens_is, ← p6.units_is) (sixteen xs len)

numbers_are : (xs : List ℕ) (n : SpelledTime) → length xs ≡ 16 → numbers_in xs ≡ Some n → Spells xs n
unfolding numbers_in
numbers_are xs n len e =
    let s0 = bind_some (pair_at (get_or xs 0 0) (get_or xs 1 0)) _ n e in
    let s1 = bind_some (pair_at (get_or xs 2 0) (get_or xs 3 0)) _ n s0.2 in
    let s2 = bind_some (pair_at (get_or xs 4 0) (get_or xs 5 0)) _ n s1.2 in
    let s3 = bind_some (pair_at (get_or xs 6 0) (get_or xs 7 0)) _ n s2.2 in
    let s4 = bind_some (pair_at (get_or xs 8 0) (get_or xs 9 0)) _ n s3.2 in
    let s5 = bind_some (pair_at (get_or xs 10 0) (get_or xs 11 0)) _ n s4.2 in
    let s6 = bind_some (decimal_in (get_or xs 12 0)) _ n s5.2 in
    let s7 = bind_some (pair_at (get_or xs 13 0) (get_or xs 14 0)) _ n s6.2 in
    let p0 = pair_is (get_or xs 0 0) (get_or xs 1 0) s0.0 s0.1 in
    let p1 = pair_is (get_or xs 2 0) (get_or xs 3 0) s1.0 s1.1 in
    let p2 = pair_is (get_or xs 4 0) (get_or xs 5 0) s2.0 s2.1 in
    let p3 = pair_is (get_or xs 6 0) (get_or xs 7 0) s3.0 s3.1 in
    let p4 = pair_is (get_or xs 8 0) (get_or xs 9 0) s4.0 s4.1 in
    let p5 = pair_is (get_or xs 10 0) (get_or xs 11 0) s5.0 s5.1 in
    let d = decimal_is (get_or xs 12 0) s6.0 s6.1 in
    let p6 = pair_is (get_or xs 13 0) (get_or xs 14 0) s7.0 s7.1 in
    let made : SpelledTime = record { year = s0.0; month = s1.0; day = s2.0; hour = s3.0; minute = s4.0; second = s5.0; quarters = s7.0 } in
    let same : made ≡ n = some_is made n s7.2 in
    let are : AreNumbers made = record { year = p0.small; month = p1.small; day = p2.small; hour = p3.small; minute = p4.small; second = p5.small; quarters = p6.small } in
    subst (Spells xs) same (record { tenth = s6.0; numbers = are; digit = d.0; spelled = all_spelled xs s6.0 made len p0 p1 p2 p3 p4 p5 d.1 p6 })
  where
    some_is : (a b : SpelledTime) → Some a ≡ Some b → a ≡ b
    some_is a b h = cc

numbers_known : (n : SpelledTime) (t last : ℕ) → AreNumbers n → t < 10 → numbers_in (time_text n t last) ≡ Some n
unfolding numbers_in
numbers_known n t last h lt =
    rw (pair_known n.year h.year, pair_known n.month h.month, pair_known n.day h.day, pair_known n.hour h.hour, pair_known n.minute h.minute, pair_known n.second h.second, decimal_known t lt, pair_known n.quarters h.quarters) refl

-- ---- moments

local_is : (n : SpelledTime) (b : Bool) (m : ℕ) → local_in n b ≡ Some m → n.year < 100
    → (local : ℤ) × (n.quarters ≤ 48) × IsClock n.year n.month n.day n.hour n.minute n.second local × (pos m ≡ local -ℤ zone_seconds n.quarters b) × IsMoment m
unfolding local_in
local_is n b m e lt = by_test (leb n.quarters 48) refl e where
  by_test : (t : Bool) → leb n.quarters 48 ≡ t → cond t (clock_in n.year n.month n.day n.hour n.minute n.second >>= (λ local. moment_in (local -ℤ zone_seconds n.quarters b))) None ≡ Some m
      → (local : ℤ) × (n.quarters ≤ 48) × IsClock n.year n.month n.day n.hour n.minute n.second local × (pos m ≡ local -ℤ zone_seconds n.quarters b) × IsMoment m
  by_test true t h =
      let s = bind_some (clock_in n.year n.month n.day n.hour n.minute n.second) (λ (local : ℤ). moment_in (local -ℤ zone_seconds n.quarters b)) m h in
      let w = moment_in-is (s.0 -ℤ zone_seconds n.quarters b) m s.2 in
      (s.0, leb-true n.quarters 48 t, clock_in-is n.year n.month n.day n.hour n.minute n.second s.0 lt s.1, w.0, w.1)
  by_test false t h = absurd cc

clock_known : (year month day hour minute second : ℕ) (local : ℤ) → IsClock year month day hour minute second local → clock_in year month day hour minute second ≡ Some local
unfolding clock_in
clock_known year month day hour minute second local c =
    rw (tests year month day hour minute second (shown_passes year month day hour minute second local c)) (ap Some (sym (checked_seconds year month day hour minute second local c)))

local_known : (n : SpelledTime) (b : Bool) (m : ℕ) (local : ℤ) → n.quarters ≤ 48 → IsClock n.year n.month n.day n.hour n.minute n.second local → pos m ≡ local -ℤ zone_seconds n.quarters b → IsMoment m → local_in n b ≡ Some m
unfolding local_in
local_known n b m local le c instant fits =
    let t : leb n.quarters 48 ≡ true = le-leb n.quarters 48 le in
    rw (t, clock_known n.year n.month n.day n.hour n.minute n.second local c, ← instant) (moment_in-pos m fits)

by_last : (xs : List ℕ) (n : SpelledTime) (now m last : ℕ) (a b c : Bool) → Spells xs n → last ≡ get_or xs 15 0 → eqb last 43 ≡ a → eqb last 45 ≡ b → eqb last 82 ≡ c
    → cond a (local_in n false) (cond b (local_in n true) (cond c (Some (after_length n now)) None)) ≡ Some m → IsSmppTime xs now m
by_last xs n now m last true b c s is ea eb ec e =
    let l = local_is n false m e s.numbers.year in
    let sign : get_or xs 15 0 ≡ 43 = sym is ∙ eqb-true last 43 ea in
    inl (record { n = n; tenth = s.tenth; is_behind = false; local = l.0; numbers = s.numbers; digit = s.digit; zone = l.1; clock = l.2; spelled = s.spelled ∙ ap (time_text n s.tenth) sign; instant = l.3; in_range = l.4 })
by_last xs n now m last false true c s is ea eb ec e =
    let l = local_is n true m e s.numbers.year in
    let sign : get_or xs 15 0 ≡ 45 = sym is ∙ eqb-true last 45 eb in
    inl (record { n = n; tenth = s.tenth; is_behind = true; local = l.0; numbers = s.numbers; digit = s.digit; zone = l.1; clock = l.2; spelled = s.spelled ∙ ap (time_text n s.tenth) sign; instant = l.3; in_range = l.4 })
by_last xs n now m last false false true s is ea eb ec e =
    let sign : get_or xs 15 0 ≡ 82 = sym is ∙ eqb-true last 82 ec in
    let same : after_length n now ≡ m = cc in
    inr (record { n = n; tenth = s.tenth; numbers = s.numbers; digit = s.digit; spelled = s.spelled ∙ ap (time_text n s.tenth) sign; instant = sym same })
by_last xs n now m last false false false s is ea eb ec e = absurd cc

pub time_is : (xs : List ℕ) (now m : ℕ) → smpp_time_in xs now ≡ Some m → IsSmppTime xs now m
unfolding smpp_time_in time_at
time_is xs now m e = by_test (eqb (length xs) 16) refl e where
  by_test : (t : Bool) → eqb (length xs) 16 ≡ t → cond t (numbers_in xs >>= (λ n. time_at n (get_or xs 15 0) now)) None ≡ Some m → IsSmppTime xs now m
  by_test true t h =
      let s = bind_some (numbers_in xs) (λ (n : SpelledTime). time_at n (get_or xs 15 0) now) m h in
      let k = numbers_are xs s.0 (eqb-true (length xs) 16 t) s.1 in
      by_last xs s.0 now m (get_or xs 15 0) (eqb (get_or xs 15 0) 43) (eqb (get_or xs 15 0) 45) (eqb (get_or xs 15 0) 82) k refl refl refl refl s.2
  by_test false t h = absurd cc

pub time_known : (xs : List ℕ) (now m : ℕ) → IsSmppTime xs now m → smpp_time_in xs now ≡ Some m
unfolding smpp_time_in time_at
time_known xs now m (inl h) = by_sign h.is_behind h.spelled (local_known h.n h.is_behind m h.local h.zone h.clock h.instant h.in_range) where
  by_sign : (b : Bool) → xs ≡ time_text h.n h.tenth (sign_of b) → local_in h.n b ≡ Some m → cond (eqb (length xs) 16) (numbers_in xs >>= (λ n. time_at n (get_or xs 15 0) now)) None ≡ Some m
  by_sign true spelled e = rw (spelled, numbers_known h.n h.tenth 45 h.numbers h.digit) e
  by_sign false spelled e = rw (spelled, numbers_known h.n h.tenth 43 h.numbers h.digit) e
time_known xs now m (inr h) = rw (h.spelled, numbers_known h.n h.tenth 82 h.numbers h.digit) (ap Some (sym h.instant))

pub time_found : (r : Option ℕ) (xs : List ℕ) (now m : ℕ) → r ≡ smpp_time_in xs now → r ≡ Some m → IsSmppTime xs now m
time_found r xs now m e s = time_is xs now m (sym e ∙ s)

pub never : (r : Option ℕ) (xs : List ℕ) (now m : ℕ) → r ≡ smpp_time_in xs now → r ≡ None → IsSmppTime xs now m → ⊥
never r xs now m e none h = let s = time_known xs now m h in cc

pub read_alone : (r : Option ℕ) (xs : List ℕ) (now m k : ℕ) → r ≡ smpp_time_in xs now → r ≡ Some k → IsSmppTime xs now m → k ≡ m
read_alone r xs now m k e s h = let t = time_known xs now m h in cc
