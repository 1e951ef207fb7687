-- Events of a script, one after another.
use Rattle.std.proofs.Common.{◌≡◌, ℕ, suc, ◌+◌, ◌<◌, ◌≤◌, List, [], ◌∷◌, length, drop, drop-cons, get_or, arith, refl, sym, ◌∙◌, ap, Result, Ok, Err}
use Rattle.sms_base.specs.Reading.{◌>>=◌}
use Rattle.sms_play.specs.PlayState.{PlayState}
use Rattle.sms_play.specs.PlayedEvent.{played}
use Rattle.sms_play.specs.Playing.{played_on}
use Rattle.sms_script.specs.declared.play_fault.PlayFault.{PlayFault}
use Rattle.sms_script.specs.declared.play_fault.PlayFault.TheVariants.{BadSetup, NoMemory, NoSuchAccount, NoSuchFrame, NoSuchSide}
use Rattle.sms_player.specs.playing.Plays.{Represents}
use Rattle.sms_player.specs.playing.Played.{PlayingOf}
use Rattle.sms_player.specs.playing.Playing.{LeadsTo, or_no_memory}
use Rattle.sms_player.proofs.playing.Fitting.{anyhow}
use Rattle.sms_player.proofs.playing.Outcomes.{or_none}
use Rattle.sms_script.specs.declared.event.WorldEvent.{WorldEvent}
use Rattle.sms_play.proofs.judging.Looking.{none_left}

-- ---- one event

-- it was played, and was looked at
pub looked_at : {X E : Type 0} (res : Result X E) (outputs : Result X PlayFault) (event : ℕ) (q : PlayingOf) (wanted : Result PlayState PlayFault) → outputs ≡ or_no_memory event res → (d : PlayState) × ((wanted ≡ Ok d) × Represents d q) → LeadsTo outputs q wanted
looked_at res outputs event q wanted e (d, (is, s)) = or_none res outputs event q d wanted e is (anyhow res (Represents d q) s)

-- ---- all of them

-- So many events were played: what the script in play shows is a course from which those that are left lead where all lead.
pub record Plays (events : List WorldEvent) (c : PlayState) (place : ℕ) (p : PlayingOf) : Type 0 where
  pub now : PlayState
  pub represents : Represents now p
  pub goes : played_on 1 events c ≡ played_on (place + 1) (drop place events) now

pub none_played : (events : List WorldEvent) (c : PlayState) (p : PlayingOf) → Represents c p → Plays events c 0 p
none_played events c p s = record { now = c; represents = s; goes = refl }

next_is : (events : List WorldEvent) (place : ℕ) (e : WorldEvent) (c : PlayState) → place < length events → e ≡ get_or events place e
    → played_on (place + 1) (drop place events) c ≡ (played (place + 1) e c >>= λ (d : PlayState). played_on ((place + 1) + 1) (drop (place + 1) events) d)
next_is events place e c low is =
    let q : suc place ≡ place + 1 = omega arith in
    let split : drop place events ≡ e ∷ drop (place + 1) events =
    drop-cons events place e low ∙ ap (λ (y : WorldEvent). y ∷ drop (suc place) events) (sym is) ∙ ap (λ (n : ℕ). e ∷ drop n events) q in
    ap (λ (es : List WorldEvent). played_on (place + 1) es c) split

module _ (events : List WorldEvent) (c : PlayState) (place : ℕ) (p : PlayingOf) (a : Plays events c place p) where
  pub next_played : (q : PlayingOf) (e : WorldEvent) → place < length events → e ≡ get_or events place e → (d : PlayState) × ((played (place + 1) e a.now ≡ Ok d) × Represents d q) → Plays events c (place + 1) q
  next_played q e low is (d, (leads, shown)) = record {
    now = d;
    represents = shown;
    goes =
        a.goes ∙ next_is events place e a.now low is
        ∙ ap (λ (w : Result PlayState PlayFault). w >>= λ (x : PlayState). played_on ((place + 1) + 1) (drop (place + 1) events) x) leads;
  }

  -- it has a fault, and so have all
  faulty : (e : WorldEvent) (fault : PlayFault) → place < length events → e ≡ get_or events place e → played (place + 1) e a.now ≡ Err fault → played_on 1 events c ≡ Err fault
  faulty e fault low is leads =
      a.goes ∙ next_is events place e a.now low is
      ∙ ap (λ (w : Result PlayState PlayFault). w >>= λ (x : PlayState). played_on ((place + 1) + 1) (drop (place + 1) events) x) leads

  pub stops_there : (q : PlayingOf) (e : WorldEvent) (fault : PlayFault) → place < length events → e ≡ get_or events place e → LeadsTo {X = Unit {0}} (Err fault) q (played (place + 1) e a.now) → LeadsTo {X = Unit {0}} (Err fault) q (played_on 1 events c)
  stops_there q e (NoMemory event) low is leads = tt
  stops_there q e (NoSuchFrame event) low is leads = faulty e (NoSuchFrame event) low is leads
  stops_there q e (NoSuchSide event) low is leads = faulty e (NoSuchSide event) low is leads
  stops_there q e (NoSuchAccount event) low is leads = faulty e (NoSuchAccount event) low is leads
  stops_there q e BadSetup low is leads = faulty e BadSetup low is leads

  pub all_played : length events ≤ place → (d : PlayState) × ((played_on 1 events c ≡ Ok d) × Represents d p)
  all_played l = (a.now, (a.goes ∙ ap (λ (es : List WorldEvent). played_on (place + 1) es a.now) (none_left events place l), a.represents))
