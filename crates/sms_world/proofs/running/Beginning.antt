-- How a script begins: it shows the course that begins with its head, and nothing was looked at.
use Rattle.std.proofs.Common.{◌≡◌, ℕ, ◌≤◌, List, [], ◌∷◌, length, refl, sym, subst}
use Rattle.sms_centre.specs.state.CentreState.{Represents as StateRepresents, CentreStateOf}
use Rattle.sms_centre_spec.specs.CentreEvent.{started}
use Rattle.sms_centre_spec.specs.SoundRows.{first_rows}
use Rattle.sms_centre_spec.specs.declared.rows.Rows.{Rows}
use Rattle.sms_centre_spec.specs.declared.setup.Setup.{Setup as CentreSetup}
use Rattle.sms_play.specs.judging.Premises.{IsNewPlay, NoneAccepted}
use Rattle.sms_play.specs.PlayState.{Party, numbers_of}
use Rattle.sms_play.specs.PlayedEvent.{sessions_from}
use Rattle.sms_play.specs.Setups.{beginning, centre_setup, parties_of}
use Rattle.sms_player.specs.centre.PlayedCentre.{Represents as PlayedRepresents}
use Rattle.sms_player.specs.playing.Plays.{Represents as PlayRepresents}
use Rattle.sms_player.specs.playing.Played.{PlayingOf}
use Rattle.sms_world.specs.running.Begun.{IsBegun}
use Rattle.sms_script.specs.declared.setup.HandsetSetup.{HandsetSetup}
use Rattle.sms_script.specs.declared.setup.Setup.{Setup}

-- the script as it begins shows the course that begins with its head
pub begun : (s : Setup) (centre : CentreStateOf) (rows : Rows) (handsets : List (List ℕ)) (parties : List Party) (p : PlayingOf) → IsBegun s centre rows handsets parties
    → p ≡ record { centre = record { centre = centre; rows = rows; handsets = handsets }; parties = parties; answers = []; given = []; bag = [] } → PlayRepresents (beginning s) p
begun s centre rows handsets parties p b e = subst (λ (x : PlayingOf). PlayRepresents (beginning s) x) (sym e) (record {
  centre = b.starts;
  handsets = b.linked;
  parties = b.made;
  answers = refl;
  given = refl;
  bag = refl;
  numbered = tt;
  from = λ f i up. absurd i;
})

-- a centre that starts on its first rows
pub begins : (s : Setup) (setup : CentreSetup) (centre : CentreStateOf) (rows : Rows) (handsets : List (List ℕ)) (parties : List Party) → setup ≡ centre_setup s → handsets ≡ numbers_of (parties_of s s.handsets) → parties ≡ parties_of s s.handsets
    → StateRepresents (started (first_rows setup) handsets (sessions_from 0 setup.accounts)) centre → rows ≡ first_rows setup → length setup.accounts ≤ 32 → IsBegun s centre rows handsets parties
begins s setup centre rows handsets parties is numbers same centre_state kept few = record {
  starts = subst (λ (hs : List (List ℕ)). PlayedRepresents (started (first_rows (centre_setup s)) hs (sessions_from 0 (centre_setup s).accounts)) centre rows) numbers
      (subst (λ (x : CentreSetup). PlayedRepresents (started (first_rows x) handsets (sessions_from 0 x.accounts)) centre rows) is (record { centre = centre_state; same_rows = kept; accounts = few }));
  linked = numbers;
  made = same;
}

-- ---- who looks on

none_accepted : (s : Setup) (hs : List HandsetSetup) → NoneAccepted (parties_of s hs)
none_accepted s [] = tt
none_accepted s (h ∷ hs) = (refl, none_accepted s hs)

-- nothing was given or accepted yet
pub is_new : (s : Setup) → IsNewPlay (beginning s)
is_new s = record { given = refl; parties = none_accepted s s.handsets }
