-- Who looks on event by event has seen what the definition decides.
use Rattle.std.proofs.Common.{◌≡◌, ℕ, ◌+◌, ◌<◌, ◌≤◌, List, [], ◌∷◌, drop, get_or, length, Bool, true, false, refl, sym, ◌∙◌, ap, subst, Option, Some, None, Result, Ok, Err}
use Rattle.std.specs.Prelude.{OnOk, not, if◌then◌else◌}
use Rattle.sms_base.proofs.Lists.{drop_item}
use Rattle.sms_base.specs.Reading.{◌>>=◌}
use Rattle.sms_play.specs.judging.Premises.{or_first, reused, untimely}
use Rattle.sms_script.specs.declared.play_fault.PlayFault.{PlayFault}
use Rattle.sms_play.specs.PlayState.{PlayState}
use Rattle.sms_play.specs.PlayedEvent.{played}
use Rattle.sms_play.specs.Playing.{broken_on, or_later, played_on}
use Rattle.sms_play.specs.Premises.{broken_by, is_fresh_event, is_timely_event}
use Rattle.sms_player.specs.playing.Plays.{Represents}
use Rattle.sms_player.specs.playing.Looked.{FollowsAll, FollowsOne}
use Rattle.sms_player.specs.playing.Played.{PlayingOf}
use Rattle.sms_player.specs.playing.Playing.{or_no_memory}
use Rattle.sms_script.specs.declared.report.Broken.{Broken}
use Rattle.sms_script.specs.declared.report.Broken.TheVariants.{Reused, Timely}
use Rattle.sms_script.specs.declared.event.WorldEvent.{WorldEvent}
use Rattle.sms_play.proofs.answers.PlayAnswers.{ok_play}
use Rattle.sms_play.proofs.judging.Looking.{none_left}

abbrev decided : Option Broken → Result (Option Broken) PlayFault
decided b = Ok b

-- ---- one event

-- what an event breaks is what the frame breaks that it hands over, or else what it gives
looked : (number : ℕ) (timely fresh : Bool) → or_first (if not timely then Some (Timely number) else None) (if not fresh then Some (Reused number) else None)
    ≡ (if not timely then Some (Timely number) else (if not fresh then Some (Reused number) else None))
looked number true true = refl
looked number true false = refl
looked number false fresh = refl

broken_is : (number : ℕ) (e : WorldEvent) (c d : PlayState) → or_first (untimely number e c) (reused number c d) ≡ broken_by number e c d
broken_is number e c d = looked number (is_timely_event e c) (is_fresh_event c d)

first_joined : (a b c : Option Broken) → or_first (or_first a b) c ≡ or_first a (or_first b c)
first_joined None b c = refl
first_joined (Some x) b c = refl

-- it was played, and was looked at
pub looks_on : {X E : Type 0} (res : Result X E) (outputs : Result X PlayFault) (seen : Option Broken → PlayState → Type 0) (q : PlayingOf) (broken : Option Broken) (number : ℕ) (e : WorldEvent) (c d : PlayState)
    → outputs ≡ or_no_memory number res → played number e c ≡ ok_play d → Represents d q
    → OnOk res (seen (or_first (or_first broken (untimely number e c)) (reused number c d)) d) → OnOk outputs (FollowsOne seen q broken number e c)
looks_on {X} (Ok x) outputs seen q broken number e c d as_told leads shown now =
    subst (λ (r : Result X PlayFault). OnOk r (FollowsOne seen q broken number e c)) (sym as_told) (
      d,
      (
        broken_by number e c d,
        (
          leads,
          ap (λ (r : Result PlayState PlayFault). r >>= λ (x : PlayState). Ok (broken_by number e c x)) leads,
          shown,
          subst (λ (b : Option Broken). seen b d)
              (first_joined broken (untimely number e c) (reused number c d) ∙ ap (λ (b : Option Broken). or_first broken b) (broken_is number e c d)) now,
        ),
      ),
    )
looks_on {X} (Err y) outputs seen q broken number e c d as_told leads shown now =
    subst (λ (r : Result X PlayFault). OnOk r (FollowsOne seen q broken number e c)) (sym as_told) tt

-- ---- all of them

later_joined : (a b : Option Broken) (r : Result (Option Broken) PlayFault) → or_later a (or_later b r) ≡ or_later (or_first a b) r
later_joined None b r = refl
later_joined (Some x) None (Ok o) = refl
later_joined (Some x) None (Err fault) = refl
later_joined (Some x) (Some y) (Ok o) = refl
later_joined (Some x) (Some y) (Err fault) = refl

decides_next : (number : ℕ) (e : WorldEvent) (es : List WorldEvent) (c d : PlayState) → played number e c ≡ ok_play d
    → broken_on number (e ∷ es) c ≡ or_later (broken_by number e c d) (broken_on (number + 1) es d)
decides_next number e es c d q = ap (λ (r : Result PlayState PlayFault). r >>= λ (x : PlayState). or_later (broken_by number e c x) (broken_on (number + 1) es x)) q

decides_on : (b : Option Broken) (number : ℕ) (e : WorldEvent) (es : List WorldEvent) (c d : PlayState) (all : Result (Option Broken) PlayFault) → all ≡ or_later b (broken_on number (e ∷ es) c) → played number e c ≡ ok_play d
    → all ≡ or_later (or_first b (broken_by number e c d)) (broken_on (number + 1) es d)
decides_on b number e es c d all so_far q =
    so_far ∙ ap (λ (r : Result (Option Broken) PlayFault). or_later b r) (decides_next number e es c d q)
    ∙ later_joined b (broken_by number e c d) (broken_on (number + 1) es d)

decides_all : (b : Option Broken) (number : ℕ) (c : PlayState) (all : Result (Option Broken) PlayFault) → all ≡ or_later b (broken_on number [] c) → all ≡ decided b
decides_all None number c all e = e
decides_all (Some x) number c all e = e

leads_next : (number : ℕ) (e : WorldEvent) (es : List WorldEvent) (c d : PlayState) → played number e c ≡ ok_play d → played_on number (e ∷ es) c ≡ played_on (number + 1) es d
leads_next number e es c d q = ap (λ (r : Result PlayState PlayFault). r >>= λ (x : PlayState). played_on (number + 1) es x) q

same_play : (r : Result PlayState PlayFault) (c d : PlayState) (b later : Option Broken) (f : PlayState → Option Broken) → r ≡ ok_play d → (r >>= λ (x : PlayState). Ok (f x)) ≡ decided later → f d ≡ later
same_play r c d b later f leads outputs =
    ok_same (f d) later (ap (λ (z : Result PlayState PlayFault). z >>= λ (x : PlayState). Ok (f x)) (sym leads) ∙ outputs)
  where
    ok_same : (x y : Option Broken) → decided x ≡ decided y → x ≡ y
    ok_same x y e = cc

-- So many events were looked at: a course is shown from which those that are left lead where all lead and decide what all decide, and it
-- was seen with what was found.
pub record Looks (seen : Option Broken → PlayState → Type 0) (events : List WorldEvent) (c : PlayState) (broken : Option Broken) (place : ℕ) (p : PlayingOf) : Type 0 where
  pub now : PlayState
  pub found : Option Broken
  pub represents : Represents now p
  pub goes : played_on 1 events c ≡ played_on (place + 1) (drop place events) now
  pub decides : broken_on 1 events c ≡ or_later found (broken_on (place + 1) (drop place events) now)
  pub was_seen : seen (or_first broken found) now

first_none : (broken : Option Broken) → or_first broken None ≡ broken
first_none None = refl
first_none (Some x) = refl

pub none_looked : (seen : Option Broken → PlayState → Type 0) (events : List WorldEvent) (c : PlayState) (broken : Option Broken) (p : PlayingOf) → Represents c p → seen broken c → Looks seen events c broken 0 p
none_looked seen events c broken p shown was = record {
  now = c;
  found = None;
  represents = shown;
  goes = refl;
  decides = refl;
  was_seen = subst (λ (b : Option Broken). seen b c) (sym (first_none broken)) was;
}

module _ (before after : Option Broken → PlayState → Type 0) (events : List WorldEvent) (c : PlayState) (broken : Option Broken) (place : ℕ) (p : PlayingOf) (a : Looks before events c broken place p) where
  pub next_looked : (q : PlayingOf) (e : WorldEvent) → place < length events → e ≡ get_or events place e → FollowsOne after q (or_first broken a.found) (place + 1) e a.now → Looks after events c broken (place + 1) q
  next_looked q e low is (d, (later, (leads, outputs, shown, seen))) =
      let found : Option Broken = or_first a.found (broken_by (place + 1) e a.now d) in
      let rest = drop (place + 1) events in
      let split = drop_item events place e low is in
      let same = same_play (played (place + 1) e a.now) a.now d broken later (λ (x : PlayState). broken_by (place + 1) e a.now x) leads outputs in
      record {
        now = d;
        found = found;
        represents = shown;
        goes = a.goes ∙ ap (λ (es : List WorldEvent). played_on (place + 1) es a.now) split ∙ leads_next (place + 1) e rest a.now d leads;
        decides =
            decides_on a.found (place + 1) e rest a.now d (broken_on 1 events c)
            (a.decides ∙ ap (λ (es : List WorldEvent). or_later a.found (broken_on (place + 1) es a.now)) split) leads;
        was_seen = subst (λ (b : Option Broken). after b d)
            (first_joined broken a.found later ∙ ap (λ (b : Option Broken). or_first broken (or_first a.found b)) (sym same)) seen;
      }

pub all_looked : (seen : Option Broken → PlayState → Type 0) (events : List WorldEvent) (c : PlayState) (broken : Option Broken) (place : ℕ) (p : PlayingOf) → Looks seen events c broken place p → length events ≤ place → FollowsAll seen p broken events c
all_looked seen events c broken place p a l =
    let none = none_left events place l in (
      a.now,
      (
        a.found,
        (
          a.goes ∙ ap (λ (es : List WorldEvent). played_on (place + 1) es a.now) none,
          decides_all a.found (place + 1) a.now (broken_on 1 events c) (a.decides ∙ ap (λ (es : List WorldEvent). or_later a.found (broken_on (place + 1) es a.now)) none),
          a.represents,
          a.was_seen,
        ),
      ),
    )
