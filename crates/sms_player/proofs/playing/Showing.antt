-- What a script in play shows after a move: the course after the definition's move.
use Rattle.std.proofs.Common.{◌≡◌, ℕ, List, [], ◌∷◌, ◌++◌, refl, sym, ◌∙◌, subst, ap, Result, Ok, Err, slice_set}
use Rattle.std.specs.Prelude.{IfOk, OnOk}
use Rattle.sms_base.specs.Among.{Among}
use Rattle.sms_centre_spec.specs.CentreEvent.{recovered}
use Rattle.sms_centre_spec.specs.Draft.{Draft, core_of}
use Rattle.sms_play.specs.CentreSide.{all_sent, committed, done, given_by}
use Rattle.sms_handset.specs.declared.refusal.Refusal.{Refusal}
use Rattle.sms_handset_draft.specs.Draft.{Draft as HandsetDraft, recovered as handset_recovered}
use Rattle.sms_link.specs.declared.outgoing.Outgoing.{Outgoing}
use Rattle.sms_play.specs.PlayState.{PlayState, Party, answer, numbers_of, with_party}
use Rattle.sms_play.specs.HandsetSide.{all_sent as all_sent_up, committed as handset_committed, done as handset_done, given_by as handset_given, party_after}
use Rattle.sms_play.specs.PlayedEvent.{centre_restarted, party_restarted, sessions_from}
use Rattle.sms_player_handset.specs.Meeting.{Meets}
use Rattle.sms_player_handset.specs.declared.played.HandsetOutcome.{HandsetOutcome}
use Rattle.sms_player_handset.specs.declared.played.HandsetOutcome.TheVariants.{Done, Refused}
use Rattle.sms_player.specs.playing.Plays.{AreFrom, Represents as PlayRepresents}
use Rattle.sms_player.specs.playing.Places.{IsFirstAt}
use Rattle.sms_player.specs.playing.Playing.{MeetsAs}
use Rattle.sms_player.specs.playing.Played.{PlayingOf}
use Rattle.sms_player.specs.centre.PlayedCentre.{Represents as PlayedRepresents, PlayedOf}
use Rattle.sms_player.proofs.playing.Bags.{from_down, from_up, numbered_down, numbered_up}
use Rattle.sms_player.proofs.playing.Placed.{first_among, numbers_preserved, set_is_with, set_same}
use Rattle.sms_script.specs.declared.report.answers.Answer.{Answer}
use Rattle.sms_script.specs.declared.report.answers.Answered.{Answered}
use Rattle.sms_script.specs.declared.report.rows.FrameRow.{FrameRow}
use Rattle.sms_script.specs.declared.report.rows.GivenRow.{GivenRow}
use Rattle.sms_centre_rows.specs.declared.waiting.handset_link.Sent.{Sent}

module _ (c : PlayState) (p : PlayingOf) (s : PlayRepresents c p) where
  pub centre_committed : (d : Draft) (centre : PlayedOf) (given : List GivenRow) → PlayedRepresents (core_of d) centre.centre centre.rows → centre.handsets ≡ p.centre.handsets → given ≡ p.given ++ given_by d → PlayRepresents (committed d c) (record p { centre = centre; given = given })
  centre_committed d centre given played same outputs = record {
    centre = played;
    handsets = same ∙ s.handsets;
    parties = s.parties;
    answers = s.answers;
    given = outputs ∙ ap (λ (g : List GivenRow). g ++ given_by d) s.given;
    bag = s.bag;
    numbered = s.numbered;
    from = s.from;
  }

  pub answered_behind : (event : ℕ) (answered : Answered) → PlayRepresents (answer event answered c) (record p { answers = p.answers ++ record { event = event; answered = answered } ∷ [] })
  answered_behind event answered = record {
    centre = s.centre;
    handsets = s.handsets;
    parties = s.parties;
    answers = ap (λ (outputs : List Answer). outputs ++ record { event = event; answered = answered } ∷ []) s.answers;
    given = s.given;
    bag = s.bag;
    numbered = s.numbered;
    from = s.from;
  }

  pub centre_begun_again : (centre : PlayedOf) → PlayedRepresents (recovered c.centre.rows p.centre.handsets (sessions_from 0 c.centre.rows.setup.accounts)) centre.centre centre.rows → centre.handsets ≡ p.centre.handsets → PlayRepresents (centre_restarted c) (record p { centre = centre })
  centre_begun_again centre played same = record {
    centre = subst (λ (hs : List (List ℕ)). PlayedRepresents (recovered c.centre.rows hs (sessions_from 0 c.centre.rows.setup.accounts)) centre.centre centre.rows) s.handsets played;
    handsets = same ∙ s.handsets;
    parties = s.parties;
    answers = s.answers;
    given = s.given;
    bag = s.bag;
    numbered = s.numbered;
    from = s.from;
  }

pub frames_sent : (c : PlayState) (p : PlayingOf) (d : Draft) → PlayRepresents (committed d c) p → (frames : List Sent) (bag : List FrameRow) → frames ≡ d.links.frames → bag ≡ all_sent frames p.bag → PlayRepresents (done d c) (record p { bag = bag })
frames_sent c p d s frames bag same made = record {
  centre = s.centre;
  handsets = s.handsets;
  parties = s.parties;
  answers = s.answers;
  given = s.given;
  bag = made ∙ ap (λ (b : List FrameRow). all_sent frames b) s.bag ∙ ap (λ (fs : List Sent). all_sent fs c.bag) same;
  numbered = numbered_down d.links.frames c.bag s.numbered;
  from = from_down (numbers_of c.parties) d.links.frames c.bag s.from;
}

-- ---- handsets

module _ (c : PlayState) (p : PlayingOf) (s : PlayRepresents c p) (place : ℕ) (party : Party) (first : IsFirstAt place party c.parties) where
  parties_become : (q now : Party) → now ≡ q → q.number ≡ party.number → slice_set p.parties place now ≡ with_party q c.parties
  parties_become q now same e =
      ap (λ (ps : List Party). slice_set ps place now) s.parties
      ∙ ap (λ (x : Party). slice_set c.parties place x) same
      ∙ set_is_with place party q c.parties first e

  pub party_begun_again : (now : Party) → now ≡ record party { core = handset_recovered party.core.rows } → PlayRepresents (party_restarted party c) (record p { parties = slice_set p.parties place now })
  party_begun_again now same =
      let q : Party = record party { core = handset_recovered party.core.rows } in
      record {
        centre = s.centre;
        handsets = s.handsets ∙ sym (numbers_preserved q c.parties);
        parties = parties_become q now same refl;
        answers = s.answers;
        given = s.given;
        bag = s.bag;
        numbered = s.numbered;
        from = subst (λ (ns : List (List ℕ)). AreFrom ns c.bag) (sym (numbers_preserved q c.parties)) s.from;
      }

  pub party_again_as : {X E : Type 0} (res : Result X E) (now : Party) → OnOk res (now ≡ record party { core = handset_recovered party.core.rows }) → OnOk res (PlayRepresents (party_restarted party c) (record p { parties = slice_set p.parties place now }))
  party_again_as (Ok x) now same = party_begun_again now same
  party_again_as (Err e) now same = tt

  pub party_committed : (d : HandsetDraft) (now : Party) (given : List GivenRow) → now ≡ party_after party d → given ≡ p.given ++ handset_given party d → PlayRepresents (handset_committed party d c) (record p { parties = slice_set p.parties place now; given = given })
  party_committed d now given same outputs =
      let q : Party = party_after party d in
      record {
        centre = s.centre;
        handsets = s.handsets ∙ sym (numbers_preserved q c.parties);
        parties = parties_become q now same refl;
        answers = s.answers;
        given = outputs ∙ ap (λ (g : List GivenRow). g ++ handset_given party d) s.given;
        bag = s.bag;
        numbered = s.numbered;
        from = subst (λ (ns : List (List ℕ)). AreFrom ns c.bag) (sym (numbers_preserved q c.parties)) s.from;
      }

  same_as_before : (now : Party) (given : List GivenRow) → now ≡ party → given ≡ p.given → PlayRepresents c (record p { parties = slice_set p.parties place now; given = given })
  same_as_before now given same outputs = record {
    centre = s.centre;
    handsets = s.handsets;
    parties = ap (λ (ps : List Party). slice_set ps place now) s.parties ∙ ap (λ (x : Party). slice_set c.parties place x) same ∙ set_same place party c.parties first;
    answers = s.answers;
    given = outputs ∙ s.given;
    bag = s.bag;
    numbered = s.numbered;
    from = s.from;
  }

  pub meets_as : {E : Type 0} (res : Result HandsetOutcome E) (now : Party) (given : List GivenRow) (wanted : Result HandsetDraft Refusal) → Meets res party now p.given given wanted
      → IfOk res (λ met. MeetsAs met party c (record p { parties = slice_set p.parties place now; given = given }) wanted)
  meets_as (Ok (Done frames)) now given wanted (d, (is, same, new, outputs)) = (d, (is, same, party_committed d now given new outputs))
  meets_as (Ok (Refused refusal)) now given wanted (is, new, outputs) = (is, same_as_before now given new outputs)
  meets_as (Err error) now given wanted m = tt

-- its frames are out
pub frames_up : (c : PlayState) (place : ℕ) (party : Party) → IsFirstAt place party c.parties → (d : HandsetDraft) (p : PlayingOf) → PlayRepresents (handset_committed party d c) p → (frames : List Outgoing) (bag : List FrameRow) → frames ≡ d.frames → bag ≡ all_sent_up party.number frames p.bag
    → PlayRepresents (handset_done party d c) (record p { bag = bag })
frames_up c place party first d p t frames bag same made = record {
  centre = t.centre;
  handsets = t.handsets;
  parties = t.parties;
  answers = t.answers;
  given = t.given;
  bag = made ∙ ap (λ (b : List FrameRow). all_sent_up party.number frames b) t.bag ∙ ap (λ (fs : List Outgoing). all_sent_up party.number fs c.bag) same;
  numbered = numbered_up party.number d.frames c.bag t.numbered;
  from = from_up (numbers_of (handset_committed party d c).parties) party.number
      (subst (λ (ns : List (List ℕ)). Among party.number ns) (sym (numbers_preserved (party_after party d) c.parties)) (first_among place party c.parties first))
      d.frames c.bag t.from;
}

-- its frames are out, by the number that it is known by
pub frames_out : (c : PlayState) (place : ℕ) (party : Party) → IsFirstAt place party c.parties → (d : HandsetDraft) (p q : PlayingOf) → PlayRepresents (handset_committed party d c) p → (number : List ℕ) (frames : List Outgoing) → number ≡ party.number → frames ≡ d.frames → q ≡ record p { bag = all_sent_up number frames p.bag }
    → PlayRepresents (handset_done party d c) q
frames_out c place party first d p q t number frames is same e =
    subst (λ (x : PlayingOf). PlayRepresents (handset_done party d c) x) (sym e)
    (frames_up c place party first d p t frames (all_sent_up number frames p.bag) same (ap (λ (n : List ℕ). all_sent_up n frames p.bag) is))
