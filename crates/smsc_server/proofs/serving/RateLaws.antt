-- In no second more requests are put than the rate says.
use Rattle.std.proofs.Common.{◌≡◌, ◌≢◌, ◌≤◌, ◌<◌, ◌+◌, ◌/◌, ℕ, suc, Bool, true, false, cond, eqb, List, [], ◌∷◌, refl, sym, subst, arith}
use Rattle.std.specs.Prelude.{◌&&◌, nat_lt}
use Rattle.std.proofs.lemmas.Bool.{eqb-true, eqb-false, ltb-true, ltb-false}
use Rattle.smsc_server.specs.declared.serving.rates.Rate.{Rate}
use Rattle.smsc_server.specs.serving.Rates.{AreInOrder, count_put, has_place, new_rate, one_more, one_where, second_of}

by_order : {P : Type 0} (a b : ℕ) → (a < b → P) → (a ≡ b → P) → (b < a → P) → P
by_order {P} a b less same more = first (nat_lt a b) refl where
  second : b ≤ a → (t : Bool) → nat_lt b a ≡ t → P
  second up true e = more (ltb-true b a e)
  second up false e = let down : a ≤ b = ltb-false b a e in same (omega (arith, up, down))

  first : (t : Bool) → nat_lt a b ≡ t → P
  first true e = less (ltb-true a b e)
  first false e = second (ltb-false a b e) (nat_lt b a) refl

-- How many of the requests to come may lie in a second: none in one before the last that was counted, in that one so many as are left, and in a later
-- one so many as may be.
pub record AreFew (s second put most n : ℕ) : Type 0 where
  pub before : s < second → n ≡ 0
  pub here : s ≡ second → n + put ≤ most
  pub behind : second < s → n ≤ most

-- ---- one more, in a second behind the last that was counted

module _ (s t second put most k : ℕ) (fair : put ≤ most) (later : second < t) (few : AreFew s t 1 most k) where
  in_it : t ≡ s → AreFew s second put most (1 + k)
  in_it same =
      let left : k + 1 ≤ most = few.here (sym same) in
      record {
        before = λ (l : s < second). absurd (omega (arith, l, later, same));
        here = λ (is : s ≡ second). absurd (omega (arith, is, later, same));
        behind = λ (l : second < s). omega (arith, left);
      }

  in_another : t ≢ s → AreFew s second put most (0 + k)
  in_another other = by_order s t
      (λ (l : s < t). let none : k ≡ 0 = few.before l in record { before = λ m. omega (arith, none); here = λ is. omega (arith, none, fair); behind = λ m. omega (arith, none) })
      (λ (is : s ≡ t). absurd (other (sym is)))
      (λ (l : t < s). let n : k ≤ most = few.behind l in record {
        before = λ (m : s < second). absurd (omega (arith, m, later, l));
        here = λ (is : s ≡ second). absurd (omega (arith, is, later, l));
        behind = λ (m : second < s). n_is n;
      }) where
        n_is : k ≤ most → 0 + k ≤ most
        n_is n = omega (arith, n)

  pub later_few : (b : Bool) → eqb t s ≡ b → AreFew s second put most (one_where b + k)
  later_few true e = in_it (eqb-true t s e)
  later_few false e = in_another (eqb-false t s e)

-- ---- one more in that second

module _ (s second put most k : ℕ) (fair : put ≤ most) (few : AreFew s second (suc put) most k) where
  in_same : second ≡ s → AreFew s second put most (1 + k)
  in_same same =
      let left : k + suc put ≤ most = few.here (sym same) in
      record {
        before = λ (l : s < second). absurd (omega (arith, l, same));
        here = λ (is : s ≡ second). omega (arith, left);
        behind = λ (l : second < s). absurd (omega (arith, l, same));
      }

  in_other : second ≢ s → AreFew s second put most (0 + k)
  in_other other = record {
    before = λ (l : s < second). let none : k ≡ 0 = few.before l in omega (arith, none);
    here = λ (is : s ≡ second). absurd (other (sym is));
    behind = λ (l : second < s). let n : k ≤ most = few.behind l in omega (arith, n);
  }

  pub same_few : (b : Bool) → eqb second s ≡ b → AreFew s second put most (one_where b + k)
  same_few true e = in_same (eqb-true second s e)
  same_few false e = in_other (eqb-false second s e)

-- ---- all requests to come

abbrev Few : ℕ → Rate → ℕ → Type 0
Few s rate n = AreFew s rate.second rate.put rate.most n

none_few : (s : ℕ) (rate : Rate) → rate.put ≤ rate.most → Few s rate 0
none_few s rate fair = record { before = λ l. refl; here = λ is. omega (arith, fair); behind = λ l. omega arith }

none_more : (s : ℕ) (rate : Rate) (n : ℕ) → Few s rate n → Few s rate (0 + n)
none_more s rate n few = record {
  before = λ (l : s < rate.second). let e : n ≡ 0 = few.before l in omega (arith, e);
  here = λ (is : s ≡ rate.second). let e : n + rate.put ≤ rate.most = few.here is in omega (arith, e);
  behind = λ (l : rate.second < s). let e : n ≤ rate.most = few.behind l in omega (arith, e);
}

-- a request at that moment before others, of which the same is known for each rate
module _ (s : ℕ) (rate : Rate) (now : ℕ) (nows : List ℕ) (fair : rate.put ≤ rate.most) (reached : rate.second ≤ second_of now)
    (others : (more : Rate) → more.put ≤ more.most → more.second ≤ second_of now → Few s more (count_put s more nows)) where
  by_second : (c : Bool) → nat_lt rate.second (second_of now) ≡ c → nat_lt (cond c 0 rate.put) rate.most ≡ true
      → Few s rate (one_where (eqb (second_of now) s) + count_put s (record { most = rate.most; second = cond c (second_of now) rate.second; put = suc (cond c 0 rate.put) }) nows)
  by_second true e room =
      let more : Rate = record { most = rate.most; second = second_of now; put = 1 } in
      let place : 0 < rate.most = ltb-true 0 rate.most room in
      later_few s (second_of now) rate.second rate.put rate.most (count_put s more nows) fair (ltb-true rate.second (second_of now) e)
      (others more (omega (arith, place)) (omega arith)) (eqb (second_of now) s) refl
  by_second false e room =
      let more : Rate = record { most = rate.most; second = rate.second; put = suc rate.put } in
      let place : rate.put < rate.most = ltb-true rate.put rate.most room in
      let up : second_of now ≤ rate.second = ltb-false rate.second (second_of now) e in
      let is : rate.second ≡ second_of now = omega (arith, up, reached) in
      subst (λ (t : ℕ). Few s rate (one_where (eqb t s) + count_put s more nows)) is
      (same_few s rate.second rate.put rate.most (count_put s more nows) fair (others more (omega (arith, place)) reached) (eqb rate.second s) refl)

  by_place : (b : Bool) → has_place now rate ≡ b
      → Few s rate (one_where (b && eqb (second_of now) s) + count_put s (cond b (one_more now rate) rate) nows)
  by_place true e = by_second (nat_lt rate.second (second_of now)) refl e
  by_place false e = none_more s rate (count_put s rate nows) (others rate fair reached)

  one_few : Few s rate (count_put s rate (now ∷ nows))
  one_few = by_place (has_place now rate) refl

all_few : (s : ℕ) (rate : Rate) (from : ℕ) (nows : List ℕ) → rate.put ≤ rate.most → rate.second ≤ second_of from → AreInOrder from nows → Few s rate (count_put s rate nows)
all_few s rate from [] fair seen in_order = none_few s rate fair
all_few s rate from (now ∷ nows) fair seen in_order =
    let earlier : from ≤ now = in_order.0 in
    one_few s rate now nows fair (omega (arith, seen, earlier)) (λ more put_few known. all_few s more now nows put_few known in_order.1)

-- of an account that has put nothing yet
pub rate_kept : (most second : ℕ) (nows : List ℕ) → AreInOrder 0 nows → count_put second (new_rate most) nows ≤ most
rate_kept most second nows in_order = by_order second 0
    (λ (l : second < 0). absurd (omega (arith, l)))
    (λ (is : second ≡ 0). let n : count_put second (new_rate most) nows + 0 ≤ most = few.here is in omega (arith, n))
    (λ (l : 0 < second). few.behind l) where
      few : Few second (new_rate most) (count_put second (new_rate most) nows)
      few = all_few second (new_rate most) 0 nows (omega arith) (omega arith) in_order
