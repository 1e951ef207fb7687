-- A written time stamp is a time stamp, and a moment has one.
use Rattle.std.proofs.Common.{◌≡◌, ℕ, ◌+◌, false, List, [], ◌∷◌, sym, ap, ◌∙◌, arith, ℤ, pos, ◌+ℤ◌, ◌-ℤ◌, ◌*ℤ◌}
use Rattle.jiff_core.specs.declared.civil.datetime.DateTime.{DateTime}
use Rattle.jiff_core.specs.DateTime.{civil_nanos, civil_seconds}
use Rattle.jiff_core.proofs.SignedLemmas.{signed_arith}
use Rattle.jiff_core.proofs.DateLemmas.{epoch_day_injective}
use Rattle.jiff_core.proofs.DateTimeLemmas.{civil_nanos-civil_seconds, civil_nanos_injective, time_nanos_injective}
use Rattle.sms_base.specs.TimeStamp.{IsClock, IsScts, IsWrittenScts, zone_seconds, swapped}

pub written_is_stamp : (octets : List ℕ) (moment : ℕ) → IsWrittenScts octets moment → IsScts octets moment
written_is_stamp octets moment h = (0, false, omega arith, h)

pos_is : (a b : ℕ) → pos a ≡ pos b → a ≡ b
pos_is a b e = cc

same_nanos : (a b : DateTime) → civil_seconds a ≡ civil_seconds b → a.time.subsec_nanosecond ≡ 0 → b.time.subsec_nanosecond ≡ 0 → civil_nanos a ≡ civil_nanos b
same_nanos a b e za zb = civil_nanos-civil_seconds a ∙ ap (λ (s : ℤ). s *ℤ pos 1_000_000_000 +ℤ pos a.time.subsec_nanosecond) e ∙ ap (λ (n : ℕ). civil_seconds b *ℤ pos 1_000_000_000 +ℤ pos n) (za ∙ sym zb) ∙ sym (civil_nanos-civil_seconds b)

-- the numbers of two clocks are the same
pub record SameNumbers (y m d h i s y' m' d' h' i' s' : ℕ) : Type 0 where
  pub year : y ≡ y'
  pub month : m ≡ m'
  pub day : d ≡ d'
  pub hour : h ≡ h'
  pub minute : i ≡ i'
  pub second : s ≡ s'

year_is : (a b : ℕ) → pos (2000 + a) ≡ pos (2000 + b) → a ≡ b
year_is a b e = let g : 2000 + a ≡ 2000 + b = pos_is (2000 + a) (2000 + b) e in omega arith

-- clocks that show one second show the same numbers
pub same_clock : (y m d h i s y' m' d' h' i' s' : ℕ) (a b : ℤ) → IsClock y m d h i s a → IsClock y' m' d' h' i' s' b → a ≡ b → SameNumbers y m d h i s y' m' d' h' i' s'
same_clock y m d h i s y' m' d' h' i' s' a b p q e =
    let nanos = same_nanos p.0 q.0 (sym p.3 ∙ e ∙ q.3) p.2.whole q.2.whole in
    let both = civil_nanos_injective p.0 q.0 nanos in
    let date = epoch_day_injective p.0.date q.0.date both.0 in
    let time = time_nanos_injective p.0.time q.0.time both.1 in
    record {
      year = year_is y y' (sym p.1.year_is ∙ date.0 ∙ q.1.year_is);
      month = sym p.1.month_is ∙ date.1 ∙ q.1.month_is;
      day = sym p.1.day_is ∙ date.2 ∙ q.1.day_is;
      hour = sym p.2.hour_is ∙ time.0 ∙ q.2.hour_is;
      minute = sym p.2.minute_is ∙ time.1 ∙ q.2.minute_is;
      second = sym p.2.second_is ∙ time.2 ∙ q.2.second_is;
    }

less_nothing : (a : ℤ) → a -ℤ zone_seconds 0 false ≡ a
less_nothing a = omega (arith, signed_arith)

pub one_written : (o p : List ℕ) (moment : ℕ) → IsWrittenScts o moment → IsWrittenScts p moment → o ≡ p
one_written o p moment h k =
    let e : h.6 ≡ k.6 = sym (less_nothing h.6) ∙ sym h.10 ∙ k.10 ∙ less_nothing k.6 in
    let s = same_clock h.0 h.1 h.2 h.3 h.4 h.5 k.0 k.1 k.2 k.3 k.4 k.5 h.6 k.6 h.7 k.7 e in
    let stamp = λ (y m d x i s : ℕ). swapped y ∷ swapped m ∷ swapped d ∷ swapped x ∷ swapped i ∷ swapped s ∷ (swapped 0 + 0) ∷ [] in
    h.9
    ∙ ap (λ (n : ℕ). stamp n h.1 h.2 h.3 h.4 h.5) s.year
    ∙ ap (λ (n : ℕ). stamp k.0 n h.2 h.3 h.4 h.5) s.month
    ∙ ap (λ (n : ℕ). stamp k.0 k.1 n h.3 h.4 h.5) s.day
    ∙ ap (λ (n : ℕ). stamp k.0 k.1 k.2 n h.4 h.5) s.hour
    ∙ ap (λ (n : ℕ). stamp k.0 k.1 k.2 k.3 n h.5) s.minute
    ∙ ap (λ (n : ℕ). stamp k.0 k.1 k.2 k.3 k.4 n) s.second
    ∙ sym k.9
