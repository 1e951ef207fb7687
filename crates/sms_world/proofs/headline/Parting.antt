-- Some events, and then the others.
use Rattle.std.proofs.Common.{◌≡◌, ℕ, suc, ◌+◌, arith, List, [], ◌∷◌, ◌++◌, length, refl, subst, Result, Ok, Err}
use Rattle.sms_base.specs.Reading.{◌>>=◌}
use Rattle.sms_script.specs.declared.event.WorldEvent.{WorldEvent}
use Rattle.sms_script.specs.declared.play_fault.PlayFault.{PlayFault}
use Rattle.sms_play.specs.PlayState.{PlayState}
use Rattle.sms_play.specs.PlayedEvent.{played}
use Rattle.sms_play.specs.Playing.{played_on}
use Rattle.sms_world.specs.scripts_are_runs.PlayRuns.{AllHandOctets, AreGood}
use Rattle.sms_world.specs.headline.Claims.{IfPlayed}
use Rattle.sms_play.proofs.answers.PlayAnswers.{ok_play}

-- the first lead to a course, and the others on from there
pub record Parts (n : ℕ) (some others : List WorldEvent) (c d : PlayState) : Type 0 where
  pub between : PlayState
  pub first : played_on n some c ≡ ok_play between
  pub first_octets : AllHandOctets n some c
  pub then : played_on (n + length some) others between ≡ ok_play d
  pub then_octets : AllHandOctets (n + length some) others between

none_more : (n : ℕ) → n ≡ n + 0
none_more n = omega arith

one_more : (n k : ℕ) → (n + 1) + k ≡ n + suc k
one_more n k = omega arith

-- behind one event
record Behind (n : ℕ) (k : ℕ) (first others : PlayState → Result PlayState PlayFault) (Octets Later : PlayState → Type 0) (r : Result PlayState PlayFault) (d : PlayState) : Type 0 where
  between : PlayState
  first_is : (r >>= λ (x : PlayState). first x) ≡ ok_play between
  octets : IfPlayed r Octets
  then_is : others between ≡ ok_play d
  later : Later between

abbrev Rest : ℕ → List WorldEvent → List WorldEvent → PlayState → Type 0
Rest n some others d = (x : PlayState) → AllHandOctets n (some ++ others) x → played_on n (some ++ others) x ≡ ok_play d → Parts n some others x d

behind : (n : ℕ) (some others : List WorldEvent) (r : Result PlayState PlayFault) (d : PlayState) → Rest (n + 1) some others d → IfPlayed r (λ x. AllHandOctets (n + 1) (some ++ others) x)
    → (r >>= λ (x : PlayState). played_on (n + 1) (some ++ others) x) ≡ ok_play d
    → Behind n (length some) (λ x. played_on (n + 1) some x) (λ x. played_on (n + suc (length some)) others x) (λ x. AllHandOctets (n + 1) some x) (λ x. AllHandOctets (n + suc (length some)) others x) r d
behind n some others (Err fault) d rest octets e = absurd cc
behind n some others (Ok x) d rest octets e =
    let p = rest x octets e in
    record {
      between = p.between;
      first_is = p.first;
      octets = p.first_octets;
      then_is = subst (λ (k : ℕ). played_on k others p.between ≡ ok_play d) (one_more n (length some)) p.then;
      later = subst (λ (k : ℕ). AllHandOctets k others p.between) (one_more n (length some)) p.then_octets;
    }

pub parted : (some others : List WorldEvent) (n : ℕ) (c d : PlayState) → AllHandOctets n (some ++ others) c → played_on n (some ++ others) c ≡ ok_play d → Parts n some others c d
parted [] others n c d octets e = record {
  between = c;
  first = refl;
  first_octets = tt;
  then = subst (λ (k : ℕ). played_on k others c ≡ ok_play d) (none_more n) e;
  then_octets = subst (λ (k : ℕ). AllHandOctets k others c) (none_more n) octets;
}
parted (x ∷ some) others n c d octets e =
    let b = behind n some others (played n x c) d (λ y o q. parted some others (n + 1) y d o q) octets.1 e in
    record { between = b.between; first = b.first_is; first_octets = (octets.0, b.octets); then = b.then_is; then_octets = b.later }

-- all of them are good where all are
pub others_good : (some others : List WorldEvent) → AreGood (some ++ others) → AreGood some × AreGood others
others_good [] others good = (tt, good)
others_good (e ∷ some) others good = let p = others_good some others good.1 in ((good.0, p.0), p.1)
