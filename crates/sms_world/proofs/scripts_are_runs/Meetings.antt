-- Whom an act of a script meets, and that the world allows it.
use Rattle.std.proofs.Common.{◌≡◌, ℕ, List, [], refl, sym, subst, inl, inr, Option, Some, None, Ok}
use Rattle.std.specs.Str.{chars}
use Rattle.sms_base.specs.Among.{Among}
use Rattle.sms_base.specs.declared.carried.Carried.{Carried}
use Rattle.sms_script.specs.declared.report.rows.Direction.{Direction}
use Rattle.sms_script.specs.declared.report.rows.Direction.TheVariants.{Up, Down}
use Rattle.sms_script.specs.declared.report.rows.FrameRow.{FrameRow}
use Rattle.sms_script.specs.declared.event.Act.{Act}
use Rattle.sms_script.specs.declared.event.Act.TheVariants.{Submit, Query, Cancel, Write, Delete, Discard, Deliver, Tick}
use Rattle.sms_script.specs.declared.event.EventSide.{EventSide}
use Rattle.sms_script.specs.declared.event.EventSide.TheVariants.{Centre, Handset}
use Rattle.sms_centre_spec.specs.CentreEvent.{tag_of as centre_tag}
use Rattle.sms_centre_spec.specs.SoundCore.{IsEvent}
use Rattle.sms_centre_spec.specs.declared.event.CentreEvent.{CentreEvent}
use Rattle.sms_centre_spec.specs.declared.event.CentreEvent.TheVariants.{Submit as CentreSubmit, Query as CentreQuery, Cancel as CentreCancel, Frame as CentreFrame, Tick as CentreTick}
use Rattle.sms_handset.specs.HandsetEvent.{tag_of as handset_tag}
use Rattle.sms_handset.specs.Planning.{OfFrame}
use Rattle.sms_handset.specs.declared.event.HandsetEvent.{HandsetEvent}
use Rattle.sms_handset.specs.declared.event.HandsetEvent.TheVariants.{Frame as HandsetFrame, Tick as HandsetTick, Write as HandsetWrite, Delete as HandsetDelete, Discard as HandsetDiscard}
use Rattle.sms_play.specs.PlayState.{PlayState, Party, frame_at, party_at}
use Rattle.sms_play.specs.Meeting.{AtCentre, AtHandset, Meeting, account_from, by_account, by_handset, delivered, handed_over, meeting_of, tag_in}
use Rattle.sms_script.specs.Requests.{cancel_of, query_of, submit_of}
use Rattle.sms_world_model.specs.ScriptRun.{IsPlayed}
use Rattle.sms_world_model.specs.World.{Sent, World}
use Rattle.sms_world_model.specs.WorldStep.{Step}
use Rattle.sms_world.proofs.frames_pass_between_sides.Passing.{goes_down, goes_up}
use Rattle.sms_world.specs.frames_pass_between_sides.Between.{frame_up}
use Rattle.sms_world.specs.frames_pass_between_sides.FramesDown.{IsHanded}
use Rattle.sms_world.specs.frames_pass_between_sides.FramesUp.{IsWhole}
use Rattle.sms_world.specs.headline.SeenFrames.{sent_as, sent_down}
use Rattle.sms_world.specs.centre_runs_are_steps.Handing.{IsHandedUp}
use Rattle.sms_world.specs.centre_runs_are_steps.Run.{IsScripted}
use Rattle.sms_world.specs.centre_runs_are_steps.RunEvents.{AreOfEvent, MayArrive, moment_at}
use Rattle.sms_world.specs.centres_refine_the_world.FramesOut.{IsWholeDown}
use Rattle.sms_world.specs.handset_runs_are_steps.PlanLaws.{event_seen}
use Rattle.sms_world.specs.scripts_are_runs.PlayRefinement.{PlayRefines, IsWholeBy}
use Rattle.sms_world.specs.headline.SeenWorld.{sent_by, sent_row}
use Rattle.sms_world.specs.scripts_are_runs.Happening.{ActHandsOctets, IsGoodAct, IsGoodTick, IsOctetsAt, IsOctetsUp}
use Rattle.sms_world.specs.headline.OneRun.{act_moment, event_of}
use Rattle.sms_world.proofs.scripts_are_runs.Bags.{frame_found, row_seen}
use Rattle.sms_world.proofs.scripts_are_runs.Parties.{party_found}
use Rattle.sms_play.proofs.growth.Growing.{some_meeting}

-- the frame that is handed over, by its number; other acts hand over none
abbrev pub number_of : Act → ℕ
number_of (Submit s) = 0
number_of (Query name id) = 0
number_of (Cancel name id) = 0
number_of (Write handset to report text) = 0
number_of (Delete handset entry) = 0
number_of (Discard handset entry) = 0
number_of (Deliver number) = number
number_of (Tick side now) = 0

-- what the centre meets may come, and is the act's event
pub record MeetsCentre (act : Act) (c : PlayState) (w : World) (e : CentreEvent) : Type 0 where
  pub is : IsEvent e
  pub may : MayArrive (number_of act) e w
  pub scripted : IsScripted e
  pub plays : (steps : List Step) → AreOfEvent (number_of act) e w steps → IsPlayed w (event_of act) steps
  pub moment : moment_at e c.centre ≡ act_moment act c.centre.moment

pub record MeetsHandset (act : Act) (c : PlayState) (w : World) (p : Party) (e : HandsetEvent) : Type 0 where
  pub there : Among p c.parties
  pub handed : OfFrame e (λ octets tag. IsHanded p.number (number_of act) octets (handset_tag tag) w)
  pub plays : event_seen (number_of act) e ≡ event_of act

abbrev pub Meets : Act → PlayState → World → Meeting → Type 0
Meets act c w (AtCentre e) = MeetsCentre act c w e
Meets act c w (AtHandset p e) = MeetsHandset act c w p e

-- ---- accounts and handsets that are there

by_account_is : (n : ℕ) (request : ℕ → CentreEvent) (o : Option ℕ) (m : Meeting) → by_account n request o ≡ Ok m → (place : ℕ) × (m ≡ AtCentre (request place))
by_account_is n request None m e = absurd cc
by_account_is n request (Some place) m e = (place, sym (some_meeting (AtCentre (request place)) m e))

by_handset_is : (n : ℕ) (x : HandsetEvent) (o : Option Party) (m : Meeting) → by_handset x n o ≡ Ok m → (p : Party) × ((o ≡ Some p) × (m ≡ AtHandset p x))
by_handset_is n x None m e = absurd cc
by_handset_is n x (Some p) m e = (p, (refl, sym (some_meeting (AtHandset p x) m e)))

module _ (c : PlayState) (w : World) (s : PlayRefines c w) (n : ℕ) where
  meets_account : (act : Act) (request : ℕ → CentreEvent) (o : Option ℕ) (m : Meeting) → ((place : ℕ) → MeetsCentre act c w (request place)) → by_account n request o ≡ Ok m → Meets act c w m
  meets_account act request o m all e =
      let x = by_account_is n request o m e in subst (λ (z : Meeting). Meets act c w z) (sym x.1) (all x.0)

  meets_handset : (act : Act) (h : List ℕ) (x : HandsetEvent) (m : Meeting) → ((p : Party) → p.number ≡ h → OfFrame x (λ octets tag. IsHanded p.number (number_of act) octets (handset_tag tag) w))
      → event_seen (number_of act) x ≡ event_of act → by_handset x n (party_at h c.parties) ≡ Ok m → Meets act c w m
  meets_handset act h x m handed plays e =
      let y = by_handset_is n x (party_at h c.parties) m e in
      let found = party_found h c.parties y.0 y.1.0 in
      subst (λ (z : Meeting). Meets act c w z) (sym y.1.1) (record { there = found.0; handed = handed y.0 found.1; plays = plays })

  -- ---- frames

  module _ (number : ℕ) (f : FrameRow) (own : f.number ≡ number) where
    handed_to_centre : (o : Option Carried) → IsWhole f.octets o → Among (sent_as f.handset f.number f.octets o) w.bag → IsHandedUp f.handset number f.octets (centre_tag (tag_in o)) w
    handed_to_centre None whole sent = inl whole
    handed_to_centre (Some x) whole sent = inr (frame_up f.handset f.number f.octets x, (sent, own, refl, refl, goes_up f.handset f.number f.octets x whole))

    handed_to_handset : (o : Option Carried) → IsWholeDown f.octets o → Among (sent_down f.handset f.number f.octets o) w.bag → IsHanded f.handset number f.octets (handset_tag (tag_in o)) w
    handed_to_handset None whole sent = inl whole
    handed_to_handset (Some x) whole sent = subst (λ (k : ℕ). IsHanded f.handset k f.octets x.tag w) own (goes_down f.handset f.number f.octets x w whole sent)

    meets_row : Among f c.bag → (d : Direction) → f.direction ≡ d → IsOctetsUp d f → (m : Meeting) → handed_over n d f c ≡ Ok m → Meets (Deliver number) c w m
    meets_row among Up e octets m q =
        let k = s.sent f among in
        let whole : IsWhole f.octets f.carried = subst (λ (z : Direction). IsWholeBy z f.octets f.carried) e k.whole in
        let there : Among (sent_row f) w.bag = subst (λ (bag : List Sent). Among (sent_row f) bag) (sym s.bag) (row_seen [] c.bag f among) in
        let sent : Among (sent_as f.handset f.number f.octets f.carried) w.bag = subst (λ (z : Direction). Among (sent_by z f.number f.handset f.octets f.carried) w.bag) e there in
        let x : AtCentre (CentreFrame f.handset f.octets (tag_in f.carried)) ≡ m = some_meeting (AtCentre (CentreFrame f.handset f.octets (tag_in f.carried))) m q in
        subst (λ (z : Meeting). Meets (Deliver number) c w z) x (record {
          is = (k.handset e, octets);
          may = handed_to_centre f.carried whole sent;
          scripted = tt;
          plays = λ steps a. a;
          moment = refl;
        })
    meets_row among Down e octets m q =
        let k = s.sent f among in
        let whole : IsWholeDown f.octets f.carried = subst (λ (z : Direction). IsWholeBy z f.octets f.carried) e k.whole in
        let there : Among (sent_row f) w.bag = subst (λ (bag : List Sent). Among (sent_row f) bag) (sym s.bag) (row_seen [] c.bag f among) in
        let sent : Among (sent_down f.handset f.number f.octets f.carried) w.bag = subst (λ (z : Direction). Among (sent_by z f.number f.handset f.octets f.carried) w.bag) e there in
        meets_handset (Deliver number) f.handset (HandsetFrame f.octets (tag_in f.carried)) m
        (λ p same. subst (λ (h : List ℕ). IsHanded h number f.octets (handset_tag (tag_in f.carried)) w) (sym same) (handed_to_handset f.carried whole sent)) refl q

  meets_frame : (number : ℕ) (o : Option FrameRow) → frame_at number c.bag ≡ o → IsOctetsAt o → (m : Meeting) → delivered n o c ≡ Ok m → Meets (Deliver number) c w m
  meets_frame number None e octets m q = absurd cc
  meets_frame number (Some f) e octets m q =
      let found = frame_found number c.bag f e in meets_row number f found.1 found.0 f.direction refl octets m q

  -- ---- timers

  meets_tick : (side : EventSide) (now : ℕ) → IsGoodTick side now → (m : Meeting) → meeting_of n (Tick side now) c ≡ Ok m → Meets (Tick side now) c w m
  meets_tick Centre now good m q =
      let x : AtCentre (CentreTick now) ≡ m = some_meeting (AtCentre (CentreTick now)) m q in
      subst (λ (z : Meeting). Meets (Tick Centre now) c w z) x (record { is = good; may = tt; scripted = tt; plays = λ steps a. a; moment = refl })
  meets_tick (Handset h) now good m q = meets_handset (Tick (Handset h) now) h (HandsetTick now) m (λ p same. tt) refl q

  -- ---- every act

  pub meets : (act : Act) → IsGoodAct act → ActHandsOctets act c → (m : Meeting) → meeting_of n act c ≡ Ok m → Meets act c w m
  meets (Submit x) good octets m q =
      meets_account (Submit x) (λ place. CentreSubmit place (submit_of x)) (account_from 0 x.name c.centre.rows.setup.accounts) m
      (λ place. record { is = tt; may = tt; scripted = tt; plays = λ steps a. a; moment = refl }) q
  meets (Query name id) good octets m q =
      meets_account (Query name id) (λ place. CentreQuery place (query_of id)) (account_from 0 name c.centre.rows.setup.accounts) m
      (λ place. record { is = tt; may = tt; scripted = tt; plays = λ steps a. a; moment = refl }) q
  meets (Cancel name id) good octets m q =
      meets_account (Cancel name id) (λ place. CentreCancel place (cancel_of id)) (account_from 0 name c.centre.rows.setup.accounts) m
      (λ place. record { is = tt; may = tt; scripted = tt; plays = λ steps a. a; moment = refl }) q
  meets (Write h to report text) good octets m q = meets_handset (Write h to report text) h (HandsetWrite (chars text) to report) m (λ p same. tt) refl q
  meets (Delete h entry) good octets m q = meets_handset (Delete h entry) h (HandsetDelete entry) m (λ p same. tt) refl q
  meets (Discard h entry) good octets m q = meets_handset (Discard h entry) h (HandsetDiscard entry) m (λ p same. tt) refl q
  meets (Deliver number) good octets m q = meets_frame number (frame_at number c.bag) refl octets m q
  meets (Tick side now) good octets m q = meets_tick side now good m q
