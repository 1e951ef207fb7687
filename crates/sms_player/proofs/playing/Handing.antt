-- How a frame that is handed over goes on, by what the bag has of it and by the place of its handset.
use Rattle.std.proofs.Common.{◌≡◌, ℕ, arith, List, [], ◌∷◌, Bool, true, false, refl, sym, ◌∙◌, subst, ap, inl, inr, ⊎_elim, Option, Some, None, Result, Ok, Err}
use Rattle.std.specs.Prelude.{◌==◌, OnOk}
use Rattle.std.specs.Str.{bytes_eq}
use Rattle.std.proofs.lemmas.Bool.{cases_Bool, cond-false, cond-true}
use Rattle.std.proofs.lemmas.Slice.Eq.{bytes_eq-Decides}
use Rattle.std.proofs.lemmas.Option.{none-some, same_Some}
use Rattle.sms_base.specs.Among.{Among}
use Rattle.sms_base.specs.Reading.{AreOctets}
use Rattle.sms_base.specs.declared.holder.Holder.{Holder}
use Rattle.sms_centre_spec.specs.SoundCore.{IsEvent}
use Rattle.sms_centre_spec.specs.declared.event.CentreEvent.TheVariants.{Frame as CentreFrame}
use Rattle.sms_play.specs.growth.Growth.{IsCentreEvent}
use Rattle.sms_handset.specs.declared.event.HandsetEvent.TheVariants.{Frame as HandsetFrame}
use Rattle.sms_play.specs.PlayState.{PlayState, Party, frame_at, numbers_of, party_at}
use Rattle.sms_play.specs.Meeting.{AtCentre, AtHandset, by_handset, handed_over, tag_in}
use Rattle.sms_script.specs.declared.play_fault.PlayFault.{PlayFault}
use Rattle.sms_script.specs.declared.play_fault.PlayFault.TheVariants.{NoSuchSide}
use Rattle.sms_player.specs.playing.Plays.{Represents}
use Rattle.sms_player.specs.playing.Places.{IsFirstAt, place_from}
use Rattle.sms_player.specs.playing.Played.{PlayingOf}
use Rattle.sms_player.specs.playing.Playing.{Hands, IsFrame, LeadsTo, carried_out, met_as, or_no_memory}
use Rattle.sms_player.specs.declared.playing.acts.Handed.{Handed}
use Rattle.sms_player.proofs.playing.Fitting.{anyhow, handsets_fit}
use Rattle.sms_player.proofs.playing.Outcomes.{or_none}
use Rattle.sms_player.proofs.playing.Placed.{IsThere, none_there, there}
use Rattle.sms_script.specs.declared.report.rows.Direction.{Direction}
use Rattle.sms_script.specs.declared.report.rows.Direction.TheVariants.{Down, Up}
use Rattle.sms_script.specs.declared.report.rows.FrameRow.{FrameRow}
use Rattle.sms_script.specs.declared.event.Act.TheVariants.{Deliver}
use Rattle.sms_script.specs.declared.event.StopPoint.{StopPoint}
use Rattle.sms_centre_rows.specs.waiting.SoundAllocations.{IsNumber}

-- ---- what the bag has of it

none_same : (x : Party) → Some x ≡ None → ⊥
none_same x e = absurd cc

-- what is found by its number is among the frames
pub among_at : (number : ℕ) (bag : List FrameRow) (f : FrameRow) → frame_at number bag ≡ Some f → Among f bag
among_at number [] f e = absurd (none-some f e)
among_at number (b ∷ bag) f e = ⊎_elim
    (λ (t : b.number == number ≡ true). inl (sym (same_Some b f (sym (cond-true (b.number == number) (Some b) (frame_at number bag) t) ∙ e))))
    (λ (t : b.number == number ≡ false). inr (among_at number bag f (sym (cond-false (b.number == number) (Some b) (frame_at number bag) t) ∙ e)))
    (cases_Bool (b.number == number))

pub handed_is : (o : Option FrameRow) (h : Handed) → Hands (Some h) o → (f : FrameRow) × ((o ≡ Some f) × IsFrame h f)
handed_is None h is = absurd is
handed_is (Some f) h is = (f, (refl, is))

pub none_handed : (o : Option FrameRow) → Hands None o → o ≡ None
none_handed None is = refl
none_handed (Some f) is = absurd is

-- ---- its handset

among_found : (number : List ℕ) (ps : List Party) → Among number (numbers_of ps) → party_at number ps ≡ None → ⊥
among_found number [] i e = absurd i
among_found number (p ∷ ps) i e = ⊎_elim
    (λ (t : bytes_eq p.number number ≡ true). none_same p (sym (cond-true (bytes_eq p.number number) (Some p) (party_at number ps) t) ∙ e))
    (λ (t : bytes_eq p.number number ≡ false). ⊎_elim
    (λ (q : number ≡ p.number). true_false (bytes_eq p.number number) ((bytes_eq-Decides p.number number).1 (sym q)) t)
    (λ (j : Among number (numbers_of ps)). among_found number ps j (sym (cond-false (bytes_eq p.number number) (Some p) (party_at number ps) t) ∙ e))
    i)
    (cases_Bool (bytes_eq p.number number))
  where
    true_false : (b : Bool) → b ≡ true → b ≡ false → ⊥
    true_false b t f = absurd cc

-- the handset of that number, at that place
pub record IsAt (place : ℕ) (number : List ℕ) (ps : List Party) : Type 0 where
  pub party : Party
  pub first : IsFirstAt place party ps
  pub number_is : party.number ≡ number
  pub found : party_at number ps ≡ Some party

module _ (stop : Option StopPoint) (event number : ℕ) (c : PlayState) (p : PlayingOf) (s : Represents c p) (h : Handed) (f : FrameRow) (i : Among f c.bag) (is : IsFrame h f) where
  -- its place among the handsets of the course
  place_is : place_from 0 f.handset c.parties ≡ place_from 0 h.handset p.parties
  place_is = sym (ap (λ (ps : List Party). place_from 0 f.handset ps) s.parties) ∙ sym (ap (λ (n : List ℕ). place_from 0 n p.parties) is.handset)

  without : (d : Direction) → f.direction ≡ d → party_at f.handset c.parties ≡ None → carried_out stop event (Deliver number) (handed_over event d f c) c ≡ Err (NoSuchSide event)
  without Up e none = absurd (among_found f.handset c.parties (s.from f i e) none)
  without Down e none = ap (λ (o : Option Party). carried_out stop event (Deliver number) (by_handset (HandsetFrame f.octets (tag_in f.carried)) event o) c) none

  -- frames up have a handset of the course: so there is none only for one down
  pub no_handset : place_from 0 h.handset p.parties ≡ None → carried_out stop event (Deliver number) (handed_over event f.direction f c) c ≡ Err (NoSuchSide event)
  no_handset none = without f.direction refl (none_there 0 f.handset c.parties (place_is ∙ none))

  pub at_place : (place : ℕ) → place_from 0 h.handset p.parties ≡ Some place → IsAt place f.handset c.parties
  at_place place found =
      let r : IsThere 0 place f.handset c.parties = there 0 place f.handset c.parties (place_is ∙ found) in
      let at : r.behind ≡ place = omega (arith, r.place_is) in
      record { party = r.party; first = subst (λ (n : ℕ). IsFirstAt n r.party c.parties) at r.first; number_is = r.number; found = r.found }

  up_is : (n : List ℕ) → n ≡ f.handset → h.direction ≡ Up → carried_out stop event (Deliver number) (handed_over event f.direction f c) c ≡ Ok (met_as stop event (Deliver number) (AtCentre (CentreFrame n h.octets h.tag)) c)
  up_is n named up =
      ap (λ (d : Direction). carried_out stop event (Deliver number) (handed_over event d f c) c) (sym is.direction ∙ up)
      ∙ ap (λ (m : List ℕ). carried_out stop event (Deliver number) (Ok (AtCentre (CentreFrame m f.octets (tag_in f.carried)))) c) (sym named)
      ∙ ap (λ (o : List ℕ). carried_out stop event (Deliver number) (Ok (AtCentre (CentreFrame n o (tag_in f.carried)))) c) (sym is.octets)
      ∙ ap (λ (t : Option Holder). carried_out stop event (Deliver number) (Ok (AtCentre (CentreFrame n h.octets t))) c) (sym is.tag)

  down_is : (party : Party) → party_at f.handset c.parties ≡ Some party → h.direction ≡ Down → carried_out stop event (Deliver number) (handed_over event f.direction f c) c ≡ Ok (met_as stop event (Deliver number) (AtHandset party (HandsetFrame h.octets h.tag)) c)
  down_is party found down =
      ap (λ (d : Direction). carried_out stop event (Deliver number) (handed_over event d f c) c) (sym is.direction ∙ down)
      ∙ ap (λ (o : Option Party). carried_out stop event (Deliver number) (by_handset (HandsetFrame f.octets (tag_in f.carried)) event o) c) found
      ∙ ap (λ (o : List ℕ). carried_out stop event (Deliver number) (Ok (AtHandset party (HandsetFrame o (tag_in f.carried)))) c) (sym is.octets)
      ∙ ap (λ (t : Option Holder). carried_out stop event (Deliver number) (Ok (AtHandset party (HandsetFrame h.octets t))) c) (sym is.tag)

  pub goes_up : {X E : Type 0} (res : Result X E) (outputs : Result X PlayFault) (q : PlayingOf) (party : Party) → party.number ≡ f.handset → h.direction ≡ Up → outputs ≡ or_no_memory event res
      → OnOk res (Represents (met_as stop event (Deliver number) (AtCentre (CentreFrame party.number h.octets h.tag)) c) q) → LeadsTo outputs q (carried_out stop event (Deliver number) (handed_over event f.direction f c) c)
  goes_up res outputs q party named up e shown =
      or_none res outputs event q (met_as stop event (Deliver number) (AtCentre (CentreFrame party.number h.octets h.tag)) c) (carried_out stop event (Deliver number) (handed_over event f.direction f c) c) e (up_is party.number named up) shown

  pub goes_down : {X E : Type 0} (res : Result X E) (outputs : Result X PlayFault) (q : PlayingOf) (party : Party) → party_at f.handset c.parties ≡ Some party → h.direction ≡ Down → outputs ≡ or_no_memory event res
      → OnOk res (Represents (met_as stop event (Deliver number) (AtHandset party (HandsetFrame h.octets h.tag)) c) q) → LeadsTo outputs q (carried_out stop event (Deliver number) (handed_over event f.direction f c) c)
  goes_down res outputs q party found down e shown =
      or_none res outputs event q (met_as stop event (Deliver number) (AtHandset party (HandsetFrame h.octets h.tag)) c) (carried_out stop event (Deliver number) (handed_over event f.direction f c) c) e (down_is party found down) shown

  -- what the centre is told of it is an event
  pub fits_up : {X : Type 0} (outputs : Result X PlayFault) (party : Party) → party.number ≡ f.handset → h.direction ≡ Up → IsEvent (CentreFrame party.number h.octets h.tag) → OnOk outputs (IsCentreEvent (handed_over event f.direction f c))
  fits_up outputs party named up fit =
      anyhow outputs (IsCentreEvent (handed_over event f.direction f c))
      (subst (λ (d : Direction). IsCentreEvent (handed_over event d f c)) (sym up ∙ is.direction)
      (subst (λ (n : List ℕ). IsNumber n) named fit.0, subst (λ (o : List ℕ). AreOctets o) is.octets fit.1))

  pub fits_down : {X : Type 0} (outputs : Result X PlayFault) → h.direction ≡ Down → OnOk outputs (IsCentreEvent (handed_over event f.direction f c))
  fits_down outputs down =
      anyhow outputs (IsCentreEvent (handed_over event f.direction f c))
      (subst (λ (d : Direction). IsCentreEvent (handed_over event d f c)) (sym down ∙ is.direction)
      (handsets_fit event (HandsetFrame f.octets (tag_in f.carried)) (party_at f.handset c.parties)))
