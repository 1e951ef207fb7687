-- Each verdict comes when a time has run out, and none before.
use Rattle.std.proofs.Common.{◌≡◌, ℕ, ◌-◌, ◌<◌, ◌≤◌, Bool, true, false, cond, Option, Some, None, refl, arith}
use Rattle.std.proofs.lemmas.Bool.{ltb-true, ltb-false}
use Rattle.std.proofs.lemmas.Option.{same_Some}
use Rattle.smpp_session.specs.declared.patience.Patience.{Patience}
use Rattle.smpp_session.specs.declared.patience.EndpointState.{EndpointState}
use Rattle.smpp_session.specs.declared.patience.WaitOutcome.{WaitOutcome}
use Rattle.smpp_session.specs.declared.patience.WaitOutcome.TheVariants.{Waits, AsksLink, Silent, Stalled, Unanswered, Inactive, Ordered}
use Rattle.smpp_session.specs.Patience.{is_within, is_within_some, unknown_limit, silence_of, known_verdict, verdict_of, HasRunOut}

-- what a test says of a time: that it has not run out, or that it has
abbrev Told : Bool → Type 0 → Type 0
Told true ran_out = ran_out → ⊥
Told false ran_out = ran_out

told : (limit : ℕ) (since : Option ℕ) (now : ℕ) → 0 < limit → Told (is_within_some limit since now) (HasRunOut limit since now)
told limit None now some = λ out. let e = out.1 in absurd cc
told limit (Some since) now some = by_test (is_within limit since now) refl where
  by_test : (t : Bool) → is_within limit since now ≡ t → Told t (HasRunOut limit (Some since) now)
  by_test true e = λ out. (let same = same_Some since out.0 out.1 in let less : now - since < limit = ltb-true (now - since) limit e in omega (arith, less, same, out.2))
  by_test false e = (let more : limit ≤ now - since = ltb-false (now - since) limit e in (since, refl, omega (arith, more, some)))

-- ---- what each verdict says

-- what has not run out, where an endpoint is waited for
pub record Lasts (p : Patience) (s : EndpointState) (now : ℕ) : Type 0 where
  pub stalled : HasRunOut 10000 p.stalled now → ⊥
  pub leaving : HasRunOut 5000 p.leaving now → ⊥
  pub unknown : s.is_known ≡ false → HasRunOut (unknown_limit s.others_wait) (Some p.unknown) now → ⊥
  pub owed : s.is_known ≡ true → HasRunOut 60000 s.owed now → ⊥
  pub asked : s.is_known ≡ true → s.is_bound ≡ true → HasRunOut 60000 p.asked now → ⊥
  pub heard : s.is_known ≡ true → s.is_bound ≡ true → p.asked ≡ None → HasRunOut 300000 (Some p.heard) now → ⊥

-- and what has, where it is not
abbrev pub Says : Patience → EndpointState → ℕ → WaitOutcome → Type 0
Says p s now Waits = Lasts p s now
Says p s now Stalled = HasRunOut 10000 p.stalled now
Says p s now Ordered = HasRunOut 5000 p.leaving now
Says p s now Silent = (s.is_known ≡ false) × HasRunOut (unknown_limit s.others_wait) (Some p.unknown) now
Says p s now Unanswered = HasRunOut 60000 s.owed now
Says p s now Inactive = HasRunOut 60000 p.asked now
Says p s now AsksLink = (s.is_bound ≡ true) × (p.asked ≡ None) × HasRunOut 300000 (Some p.heard) now

-- what the verdict of silence says
abbrev Hushed : Option ℕ → ℕ → ℕ → WaitOutcome → Type 0
Hushed asked heard now Waits = (HasRunOut 60000 asked now → ⊥) × (asked ≡ None → HasRunOut 300000 (Some heard) now → ⊥)
Hushed asked heard now Inactive = HasRunOut 60000 asked now
Hushed asked heard now AsksLink = (asked ≡ None) × HasRunOut 300000 (Some heard) now
Hushed asked heard now Stalled = ⊥
Hushed asked heard now Ordered = ⊥
Hushed asked heard now Silent = ⊥
Hushed asked heard now Unanswered = ⊥

hushed : (asked : Option ℕ) (heard now : ℕ) → Hushed asked heard now (silence_of asked heard now)
hushed None heard now = by_test (is_within 300000 heard now) (told 300000 (Some heard) now (omega arith)) where
  by_test : (t : Bool) → Told t (HasRunOut 300000 (Some heard) now) → Hushed None heard now (cond t Waits AsksLink)
  by_test true lasts = ((λ out. let e = out.1 in absurd cc), λ none. lasts)
  by_test false out = (refl, out)
hushed (Some asked) heard now = by_test (is_within 60000 asked now) (told 60000 (Some asked) now (omega arith)) where
  by_test : (t : Bool) → Told t (HasRunOut 60000 (Some asked) now) → Hushed (Some asked) heard now (cond t Waits Inactive)
  by_test true lasts = (lasts, λ none. absurd cc)
  by_test false out = out

some_limit : (others : Bool) → 0 < unknown_limit others
some_limit true = omega arith
some_limit false = omega arith

pub says : (p : Patience) (s : EndpointState) (now : ℕ) → Says p s now (verdict_of p s now)
says p s now = at_stalled (is_within_some 10000 p.stalled now) (told 10000 p.stalled now (omega arith)) where
  bound_by : (HasRunOut 10000 p.stalled now → ⊥) → (HasRunOut 5000 p.leaving now → ⊥) → s.is_known ≡ true → (HasRunOut 60000 s.owed now → ⊥) → s.is_bound ≡ true
      → (v : WaitOutcome) → Hushed p.asked p.heard now v → Says p s now v
  bound_by stalled leaving known owed bound Waits h = record {
    stalled = stalled;
    leaving = leaving;
    unknown = (λ e. absurd cc);
    owed = (λ e. owed);
    asked = (λ e f. h.0);
    heard = (λ e f. h.1);
  }
  bound_by stalled leaving known owed bound Inactive h = h
  bound_by stalled leaving known owed bound AsksLink h = (bound, h.0, h.1)
  bound_by stalled leaving known owed bound Stalled h = absurd h
  bound_by stalled leaving known owed bound Ordered h = absurd h
  bound_by stalled leaving known owed bound Silent h = absurd h
  bound_by stalled leaving known owed bound Unanswered h = absurd h

  at_bound : (HasRunOut 10000 p.stalled now → ⊥) → (HasRunOut 5000 p.leaving now → ⊥) → s.is_known ≡ true → (HasRunOut 60000 s.owed now → ⊥)
      → (m : Bool) → s.is_bound ≡ m → Says p s now (cond m (silence_of p.asked p.heard now) Waits)
  at_bound stalled leaving known owed true bound = bound_by stalled leaving known owed bound (silence_of p.asked p.heard now) (hushed p.asked p.heard now)
  at_bound stalled leaving known owed false free = record {
    stalled = stalled;
    leaving = leaving;
    unknown = (λ e. absurd cc);
    owed = (λ e. owed);
    asked = (λ e f. absurd cc);
    heard = (λ e f. absurd cc);
  }

  at_owed : (HasRunOut 10000 p.stalled now → ⊥) → (HasRunOut 5000 p.leaving now → ⊥) → s.is_known ≡ true
      → (t : Bool) → Told t (HasRunOut 60000 s.owed now) → Says p s now (cond t (cond s.is_bound (silence_of p.asked p.heard now) Waits) Unanswered)
  at_owed stalled leaving known true owed = at_bound stalled leaving known owed s.is_bound refl
  at_owed stalled leaving known false out = out

  at_unknown : (HasRunOut 10000 p.stalled now → ⊥) → (HasRunOut 5000 p.leaving now → ⊥) → s.is_known ≡ false
      → (t : Bool) → Told t (HasRunOut (unknown_limit s.others_wait) (Some p.unknown) now) → Says p s now (cond t Waits Silent)
  at_unknown stalled leaving unknown true lasts = record {
    stalled = stalled;
    leaving = leaving;
    unknown = (λ e. lasts);
    owed = (λ e. absurd cc);
    asked = (λ e. absurd cc);
    heard = (λ e. absurd cc);
  }
  at_unknown stalled leaving unknown false out = (unknown, out)

  at_known : (HasRunOut 10000 p.stalled now → ⊥) → (HasRunOut 5000 p.leaving now → ⊥) → (k : Bool) → s.is_known ≡ k
      → Says p s now (cond k (known_verdict p s now) (cond (is_within (unknown_limit s.others_wait) p.unknown now) Waits Silent))
  at_known stalled leaving true known = at_owed stalled leaving known (is_within_some 60000 s.owed now) (told 60000 s.owed now (omega arith))
  at_known stalled leaving false unknown = at_unknown stalled leaving unknown (is_within (unknown_limit s.others_wait) p.unknown now) (told (unknown_limit s.others_wait) (Some p.unknown) now (some_limit s.others_wait))

  at_leaving : (HasRunOut 10000 p.stalled now → ⊥) → (t : Bool) → Told t (HasRunOut 5000 p.leaving now)
      → Says p s now (cond t (cond s.is_known (known_verdict p s now) (cond (is_within (unknown_limit s.others_wait) p.unknown now) Waits Silent)) Ordered)
  at_leaving stalled true leaving = at_known stalled leaving s.is_known refl
  at_leaving stalled false out = out

  at_stalled : (t : Bool) → Told t (HasRunOut 10000 p.stalled now)
      → Says p s now (cond t (cond (is_within_some 5000 p.leaving now) (cond s.is_known (known_verdict p s now) (cond (is_within (unknown_limit s.others_wait) p.unknown now) Waits Silent)) Ordered) Stalled)
  at_stalled true stalled = at_leaving stalled (is_within_some 5000 p.leaving now) (told 5000 p.leaving now (omega arith))
  at_stalled false out = out

-- what has run out at the longer limit has at the shorter one
pub sooner : (others : Bool) (since now : ℕ) → HasRunOut 30000 (Some since) now → HasRunOut (unknown_limit others) (Some since) now
sooner true since now out = (out.0, out.1, let late = out.2 in omega (arith, late))
sooner false since now out = out
