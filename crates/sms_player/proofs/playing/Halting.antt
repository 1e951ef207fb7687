-- An act that is done, or stopped: what each leads to, by what its parts lead to.
use Rattle.std.proofs.Common.{◌≡◌, ℕ, List, Bool, true, refl, sym, subst, ap, Option, Some, None, Result, Ok, Err}
use Rattle.std.specs.Prelude.{OnOk, if◌then◌else◌}
use Rattle.sms_centre_spec.specs.declared.event.CentreEvent.{CentreEvent}
use Rattle.sms_handset.specs.FaultCodes.{refusal_code}
use Rattle.sms_handset.specs.declared.event.HandsetEvent.{HandsetEvent}
use Rattle.sms_handset.specs.declared.event.HandsetEvent.TheVariants.{Frame, Tick, Write, Delete, Discard}
use Rattle.sms_handset.specs.declared.refusal.Refusal.{Refusal}
use Rattle.sms_handset_draft.specs.Draft.{Draft as HandsetDraft}
use Rattle.sms_play.specs.CentreSide.{centre_meets}
use Rattle.sms_play.specs.PlayState.{PlayState, Party, answer, party_at}
use Rattle.sms_play.specs.HandsetSide.{done, handset_meets, happened, is_owners, party_after, with_answer, whole}
use Rattle.sms_play.specs.Meeting.{AtCentre, AtHandset, is_answered}
use Rattle.sms_play.specs.PlayedEvent.{centre_restarted, handset_stored, handset_restarted, stored, party_restarted, restarted}
use Rattle.sms_player_handset.specs.declared.played.HandsetOutcome.{HandsetOutcome}
use Rattle.sms_player_handset.specs.declared.played.HandsetOutcome.TheVariants.{Done, Refused}
use Rattle.sms_player.specs.playing.Plays.{Represents}
use Rattle.sms_player.specs.playing.Places.{IsFirstAt}
use Rattle.sms_player.specs.playing.Played.{PlayingOf}
use Rattle.sms_player.specs.playing.Playing.{MeetsAs, met_as}
use Rattle.sms_player.proofs.playing.Placed.{first_after, first_found}
use Rattle.sms_script.specs.declared.report.answers.Answered.TheVariants.{Done as AnsweredDone, Refused as AnsweredRefused, Stopped as AnsweredStopped}
use Rattle.sms_script.specs.declared.event.Act.{Act}
use Rattle.sms_script.specs.declared.event.StopPoint.{StopPoint}
use Rattle.sms_script.specs.declared.event.StopPoint.TheVariants.{After, Before}

-- ---- the centre

module _ {X E : Type 0} (res : Result X E) (event : ℕ) (act : Act) (e : CentreEvent) (c : PlayState) (q : PlayingOf) where
  pub centre_done : (stop : Option StopPoint) → stop ≡ None → OnOk res (Represents (centre_meets event e c) q) → OnOk res (Represents (met_as stop event act (AtCentre e) c) q)
  centre_done stop is s = subst (λ (x : Option StopPoint). OnOk res (Represents (met_as x event act (AtCentre e) c) q)) (sym is) s

  pub centre_stopped : (stop : Option StopPoint) (how : StopPoint) (answered : Bool) → stop ≡ Some how → is_answered act ≡ answered
      → OnOk res (Represents (if answered then answer event AnsweredStopped (centre_restarted (stored how (AtCentre e) c)) else centre_restarted (stored how (AtCentre e) c)) q)
      → OnOk res (Represents (met_as stop event act (AtCentre e) c) q)
  centre_stopped stop how answered is same s =
      let d : PlayState = centre_restarted (stored how (AtCentre e) c) in
      subst (λ (x : Option StopPoint). OnOk res (Represents (met_as x event act (AtCentre e) c) q)) (sym is)
      (subst (λ (b : Bool). OnOk res (Represents (if b then answer event AnsweredStopped d else d) q)) (sym same) s)

-- ---- handsets

module _ {X E : Type 0} (res : Result X E) (event : ℕ) (act : Act) (e : HandsetEvent) (party : Party) (c : PlayState) (q : PlayingOf) where
  pub handset_done : (stop : Option StopPoint) → stop ≡ None → OnOk res (Represents (handset_meets event party e c) q) → OnOk res (Represents (met_as stop event act (AtHandset party e) c) q)
  handset_done stop is s = subst (λ (x : Option StopPoint). OnOk res (Represents (met_as x event act (AtHandset party e) c) q)) (sym is) s

  pub handset_stopped : (stop : Option StopPoint) (how : StopPoint) (answered : Bool) → stop ≡ Some how → is_answered act ≡ answered
      → OnOk res (Represents (if answered then answer event AnsweredStopped (restarted (AtHandset party e) (stored how (AtHandset party e) c)) else restarted (AtHandset party e) (stored how (AtHandset party e) c)) q)
      → OnOk res (Represents (met_as stop event act (AtHandset party e) c) q)
  handset_stopped stop how answered is same s =
      let d : PlayState = restarted (AtHandset party e) (stored how (AtHandset party e) c) in
      subst (λ (x : Option StopPoint). OnOk res (Represents (met_as x event act (AtHandset party e) c) q)) (sym is)
      (subst (λ (b : Bool). OnOk res (Represents (if b then answer event AnsweredStopped d else d) q)) (sym same) s)

-- its rows are as they were, and it starts again
pub stopped_before : {X E : Type 0} (res : Result X E) (e : HandsetEvent) (party : Party) (c : PlayState) (q : PlayingOf) (place : ℕ) (how : StopPoint) → how ≡ Before → IsFirstAt place party c.parties
    → OnOk res (Represents (party_restarted party c) q) → OnOk res (Represents (restarted (AtHandset party e) (stored how (AtHandset party e) c)) q)
stopped_before res e party c q place how is first s =
    subst (λ (h : StopPoint). OnOk res (Represents (restarted (AtHandset party e) (stored h (AtHandset party e) c)) q)) (sym is)
    (subst (λ (o : Option Party). OnOk res (Represents (handset_restarted o c) q)) (sym (first_found place party c.parties first)) s)

-- what its rows keep of the event
record Keeps (place : ℕ) (party : Party) (c : PlayState) (p : PlayingOf) (wanted : Result HandsetDraft Refusal) : Type 0 where
  now : Party
  first : IsFirstAt place now (handset_stored party wanted c).parties
  number : now.number ≡ party.number
  represents : Represents (handset_stored party wanted c) p

keeps : (met : HandsetOutcome) (place : ℕ) (party : Party) (c : PlayState) (p : PlayingOf) (wanted : Result HandsetDraft Refusal) → IsFirstAt place party c.parties → MeetsAs met party c p wanted → Keeps place party c p wanted
keeps (Done frames) place party c p wanted first (d, (is, same, s)) = subst (λ (w : Result HandsetDraft Refusal). Keeps place party c p w) (sym is) (record {
  now = party_after party d;
  first = first_after place party (party_after party d) c.parties first refl;
  number = refl;
  represents = s;
})
keeps (Refused refusal) place party c p wanted first (is, s) = subst (λ (w : Result HandsetDraft Refusal). Keeps place party c p w) (sym is) (record {
  now = party;
  first = first;
  number = refl;
  represents = s;
})

-- its rows keep the event, and it starts again
pub stopped_after : {X E : Type 0} (res : Result X E) (met : HandsetOutcome) (e : HandsetEvent) (party : Party) (c : PlayState) (p q : PlayingOf) (place : ℕ) (how : StopPoint) → how ≡ After → IsFirstAt place party c.parties
    → MeetsAs met party c p (happened e party.core)
    → ((d : PlayState) (now : Party) → Represents d p → IsFirstAt place now d.parties → OnOk res (Represents (party_restarted now d) q))
    → OnOk res (Represents (restarted (AtHandset party e) (stored how (AtHandset party e) c)) q)
stopped_after res met e party c p q place how is first m go =
    let k : Keeps place party c p (happened e party.core) = keeps met place party c p (happened e party.core) first m in
    let d : PlayState = handset_stored party (happened e party.core) c in
    subst (λ (h : StopPoint). OnOk res (Represents (restarted (AtHandset party e) (stored h (AtHandset party e) c)) q)) (sym is)
    (subst (λ (n : List ℕ). OnOk res (Represents (handset_restarted (party_at n d.parties) d) q)) k.number
    (subst (λ (o : Option Party). OnOk res (Represents (handset_restarted o d) q)) (sym (first_found place k.now d.parties k.first)) (go d k.now k.represents k.first)))

-- ---- a handset meets an event

-- it did what was wanted, and its frames are out
pub met_done : {X E : Type 0} (res : Result X E) (event : ℕ) (e : HandsetEvent) (party : Party) (c : PlayState) (q : PlayingOf) (d : HandsetDraft) (owners : Bool) → happened e party.core ≡ Ok d → owners ≡ is_owners e
    → OnOk res (Represents (if owners then answer event AnsweredDone (done party d c) else done party d c) q) → OnOk res (Represents (handset_meets event party e c) q)
met_done res event e party c q d owners is same s =
    subst (λ (w : Result HandsetDraft Refusal). OnOk res (Represents (if is_owners e then with_answer event w (whole party w c) else whole party w c) q)) (sym is)
    (subst (λ (b : Bool). OnOk res (Represents (if b then answer event AnsweredDone (done party d c) else done party d c) q)) same s)

-- only an act of its owner is refused
refused_is_owners : (e : HandsetEvent) (party : Party) (refusal : Refusal) → happened e party.core ≡ Err refusal → is_owners e ≡ true
refused_is_owners (Frame octets tag) party refusal is = absurd cc
refused_is_owners (Tick now) party refusal is = absurd cc
refused_is_owners (Write text to report) party refusal is = refl
refused_is_owners (Delete entry) party refusal is = refl
refused_is_owners (Discard entry) party refusal is = refl

pub met_refused : {X E : Type 0} (res : Result X E) (event : ℕ) (e : HandsetEvent) (party : Party) (c : PlayState) (q : PlayingOf) (refusal : Refusal) → happened e party.core ≡ Err refusal
    → OnOk res (Represents (answer event (AnsweredRefused (refusal_code refusal)) c) q) → OnOk res (Represents (handset_meets event party e c) q)
met_refused res event e party c q refusal is s =
    subst (λ (b : Bool). OnOk res (Represents (if b then with_answer event (happened e party.core) (whole party (happened e party.core) c) else whole party (happened e party.core) c) q)) (sym (refused_is_owners e party refusal is))
    (subst (λ (w : Result HandsetDraft Refusal). OnOk res (Represents (with_answer event w (whole party w c)) q)) (sym is) s)

-- an entry that none can be is refused, or its act is stopped, which leaves the rows as they were
pub none_stopped : {X E : Type 0} (res : Result X E) (event : ℕ) (act : Act) (e : HandsetEvent) (party : Party) (c : PlayState) (q : PlayingOf) (place : ℕ) (stop : Option StopPoint) (how : StopPoint) (refusal : Refusal) → stop ≡ Some how → is_answered act ≡ true
    → IsFirstAt place party c.parties → happened e party.core ≡ Err refusal → OnOk res (Represents (answer event AnsweredStopped (party_restarted party c)) q) → OnOk res (Represents (met_as stop event act (AtHandset party e) c) q)
none_stopped res event act e party c q place stop how refusal is same first refused s =
    handset_stopped res event act e party c q stop how true is same
    (subst (λ (d : PlayState). OnOk res (Represents (answer event AnsweredStopped (restarted (AtHandset party e) d)) q)) (sym (as_it_was how))
    (subst (λ (o : Option Party). OnOk res (Represents (answer event AnsweredStopped (handset_restarted o c)) q)) (sym (first_found place party c.parties first)) s))
  where
    as_it_was : (h : StopPoint) → stored h (AtHandset party e) c ≡ c
    as_it_was Before = refl
    as_it_was After = ap (λ (w : Result HandsetDraft Refusal). handset_stored party w c) refused
