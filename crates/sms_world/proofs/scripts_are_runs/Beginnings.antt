-- A new script's course sees the empty world.
use Rattle.std.proofs.Common.{◌≡◌, ℕ, arith, List, [], ◌∷◌, length, true, refl, sym, subst, ⊎_elim}
use Rattle.std.specs.Prelude.{◌&&◌, nat_le, nat_lt, not}
use Rattle.std.specs.Str.{bytes_eq}
use Rattle.std.proofs.lemmas.Bool.{and_parts, leb-true, ltb-true, or_left, or_right}
use Rattle.std.proofs.lemmas.Slice.Eq.{bytes_eq-Decides}
use Rattle.sms_base.specs.Among.{Among}
use Rattle.sms_centre_rows.specs.waiting.SoundAllocations.{IsNumber}
use Rattle.sms_script.specs.declared.setup.HandsetSetup.{HandsetSetup}
use Rattle.sms_script.specs.declared.setup.Setup.{Setup}
use Rattle.sms_centre_spec.specs.SoundCore.{AreDifferent}
use Rattle.sms_centre_spec.specs.SoundRows.{IsSetup as IsCentreSetup, first_rows as first_centre_rows}
use Rattle.sms_centre_spec.specs.declared.setup.Setup.{Setup as CentreSetup}
use Rattle.sms_centre_rows.specs.reports.Receipts.{Session}
use Rattle.sms_world.specs.centre_runs_are_steps.Run.{CanRestart}
use Rattle.sms_world.proofs.centre_runs_are_steps.Runs.{first_run_is_steps}
use Rattle.sms_handset_draft.specs.FirstRows.{first_rows}
use Rattle.sms_handset.specs.SoundRows.{IsSetup}
use Rattle.sms_handset.proofs.SoundBeginnings.{first_sound}
use Rattle.sms_play.specs.PlayState.{Party, numbers_of}
use Rattle.sms_play.specs.PlayedEvent.{sessions_from}
use Rattle.sms_play.specs.Setups.{accounts_of, are_accounts, are_handsets, centre_setup, handset_setup, has_handset, is_handset, is_moment, is_number, parties_of}
use Rattle.sms_world_model.specs.World.{empty}
use Rattle.sms_world.proofs.handset_runs_are_steps.Restarts.{start_seen}
use Rattle.sms_world.specs.scripts_are_runs.PlayRuns.{BeginningLaw}
use Rattle.sms_world.specs.scripts_are_runs.PlayRefinement.{OwnAllocations, PartyRefines}
use Rattle.sms_world.proofs.scripts_are_runs.CentreMeets.{can_come}
use Rattle.sms_world.proofs.handset_runs_are_steps.Runs.{recovered_sound}
use Rattle.sms_player.specs.heads.Heads.{party_of}
use Rattle.sms_player.proofs.heads.Beginnings.{not_both, moment_is, number_is, accounts_are}

-- ---- handsets

module _ (s : Setup) (centre : IsNumber s.centre) where
  party_refines : (h : HandsetSetup) → is_handset h ≡ true → PartyRefines (party_of s h) empty
  party_refines h e =
      let a = and_parts (is_number h.number) (nat_lt 0 h.slots && nat_le h.slots 255) e in
      let b = and_parts (nat_lt 0 h.slots) (nat_le h.slots 255) a.1 in
      let number : IsNumber h.number = number_is h.number a.0 in
      let is : IsSetup (handset_setup s h) = record { slots = ltb-true 0 h.slots b.0; slots_fit = leb-true h.slots 255 b.1; number = number; centre = centre } in
      record {
        number = number;
        sound = recovered_sound (first_rows (handset_setup s h)) (first_sound (handset_setup s h) is);
        refines = start_seen h.number (first_rows (handset_setup s h)).counters (handset_setup s h);
        accepted = refl;
        joined = refl;
      }

  parties_see : (hs : List HandsetSetup) → are_handsets hs ≡ true → (p : Party) → Among p (parties_of s hs) → PartyRefines p empty
  parties_see [] e p i = absurd i
  parties_see (h ∷ hs) e p i =
      let a = and_parts (is_handset h && not (has_handset h.number hs)) (are_handsets hs) e in
      let b = and_parts (is_handset h) (not (has_handset h.number hs)) a.0 in
      ⊎_elim (λ (q : p ≡ party_of s h). subst (λ (z : Party). PartyRefines z empty) (sym q) (party_refines h b.0)) (λ (j : Among p (parties_of s hs)). parties_see hs a.1 p j) i

  number_had : (n : List ℕ) (hs : List HandsetSetup) → Among n (numbers_of (parties_of s hs)) → has_handset n hs ≡ true
  number_had n [] i = absurd i
  number_had n (h ∷ hs) i = ⊎_elim
      (λ (q : n ≡ h.number). or_left (bytes_eq h.number n) (has_handset n hs) ((bytes_eq-Decides h.number n).1 (sym q)))
      (λ (j : Among n (numbers_of (parties_of s hs))). or_right (bytes_eq h.number n) (has_handset n hs) (number_had n hs j))
      i

  numbers_apart : (hs : List HandsetSetup) → are_handsets hs ≡ true → AreDifferent (numbers_of (parties_of s hs))
  numbers_apart [] e = tt
  numbers_apart (h ∷ hs) e =
      let a = and_parts (is_handset h && not (has_handset h.number hs)) (are_handsets hs) e in
      let b = and_parts (is_handset h) (not (has_handset h.number hs)) a.0 in
      ((λ i. not_both (has_handset h.number hs) (number_had h.number hs i) b.1), numbers_apart hs a.1)

-- none of them gave anything
none_given : (s : Setup) (hs : List HandsetSetup) → (p : Party) → Among p (parties_of s hs) → OwnAllocations p [] []
none_given s [] p i = absurd i
none_given s (h ∷ hs) p i = ⊎_elim
    (λ (q : p ≡ party_of s h). subst (λ (z : Party). OwnAllocations z [] []) (sym q) (record { entries = λ o j u. absurd j; notices = λ n l. let no : ⊥ = omega (arith, l) in absurd no }))
    (λ (j : Among p (parties_of s hs)). none_given s hs p j)
    i

-- ---- the course

pub begins : BeginningLaw
begins s e =
    let a = and_parts (is_moment s.start && is_number s.centre) ((nat_le (length s.accounts) 32 && are_accounts s.accounts) && ((nat_lt 0 (length s.handsets) && nat_le (length s.handsets) 16) && are_handsets s.handsets)) e in
    let b = and_parts (is_moment s.start) (is_number s.centre) a.0 in
    let c = and_parts (nat_le (length s.accounts) 32 && are_accounts s.accounts) ((nat_lt 0 (length s.handsets) && nat_le (length s.handsets) 16) && are_handsets s.handsets) a.1 in
    let accounts = and_parts (nat_le (length s.accounts) 32) (are_accounts s.accounts) c.0 in
    let handsets = and_parts (nat_lt 0 (length s.handsets) && nat_le (length s.handsets) 16) (are_handsets s.handsets) c.1 in
    let centre : IsNumber s.centre = number_is s.centre b.1 in
    let setup : CentreSetup = centre_setup s in
    let is : IsCentreSetup setup = record { centre = centre; start = moment_is s.start b.0; accounts = accounts_are s.accounts accounts.1 } in
    let ps : List Party = parties_of s s.handsets in
    let apart : AreDifferent (numbers_of ps) = numbers_apart s centre s.handsets handsets.1 in
    let sessions : List Session = sessions_from 0 (accounts_of s.accounts) in
    let all : (p : Party) → Among p ps → PartyRefines p empty = parties_see s centre s.handsets handsets.1 in
    let can : CanRestart (first_centre_rows setup) (numbers_of ps) sessions = can_come (first_centre_rows setup) ps (λ p i. (all p i).number) apart (accounts_of s.accounts) in
    let x = first_run_is_steps [] setup (numbers_of ps) sessions is can in
    record {
      sound = x.0;
      offered = x.1;
      centre = x.2;
      parties = all;
      apart = apart;
      bag = refl;
      sent = λ f i. absurd i;
      reached = ([], (tt, refl));
      down = record { each = λ g i is. absurd i; only = λ x i. absurd i; differ = tt; last = λ h r. refl; parts = refl };
      up = λ h. record { each = λ g i side own. absurd i; only = λ x i own. absurd i; last = λ r. refl };
      own = none_given s s.handsets;
    }
