-- Frames of the links' own: CP-ACK and CP-ERROR are control, and so is what is sent again.
use Rattle.std.proofs.Common.{◌≡◌, ℕ, ◌+◌, List, [], ◌∷◌, ◌++◌, refl, sym, ◌∙◌, ap, subst, inr, Option, Some, None, length}
use Rattle.std.proofs.lemmas.List.{append-nil, append_assoc}
use Rattle.sms_base.specs.declared.carried.Carried.{Carried}
use Rattle.sms_control.specs.ControlReading.{cp_at}
use Rattle.sms_control.specs.LinkStep.{Step}
use Rattle.sms_control.specs.declared.link_state.LinkState.{LinkState}
use Rattle.sms_control.specs.declared.out.Up.{Up}
use Rattle.sms_control.specs.declared.transaction.TransactionFlag.{TransactionFlag}
use Rattle.sms_link.specs.LinkTurn.{carried_by, carried_in, from_links, heard, of_links, still_under_way}
use Rattle.sms_link.specs.declared.outgoing.Outgoing.{Outgoing}
use Rattle.sms_centre_rows.specs.waiting.Links.{to_handset, turn_link, with_link}
use Rattle.sms_centre_rows.specs.declared.waiting.handset_link.HandsetLink.{HandsetLink}
use Rattle.sms_centre_rows.specs.declared.waiting.handset_link.Sent.{Sent as SentRow}
use Rattle.sms_centre_spec.specs.Draft.{Draft, on_links}
use Rattle.sms_world.specs.headline.SeenFrames.{frame_down, sent_down}
use Rattle.sms_world.specs.frames_pass_between_sides.FramesUp.{IsBare}
use Rattle.sms_world_model.specs.World.{Bare, Sent, World}
use Rattle.sms_world_model.specs.WorldStep.{Again, Control}
use Rattle.sms_world.specs.centres_refine_the_world.CentreRefinement.{CentreRefines}
use Rattle.sms_world.specs.centres_refine_the_world.FramesOut.{IsWholeDown}
use Rattle.sms_world.specs.centres_refine_the_world.RefinesLinks.{RefinesLink, WasSentDown}
use Rattle.sms_world.proofs.centres_refine_the_world.Firing.{again_carries}
use Rattle.sms_world.proofs.centres_refine_the_world.Offers.{links_with, stacked_both, whole_both}
use Rattle.sms_world.proofs.centres_refine_the_world.Staying.{link_still}
use Rattle.sms_world.specs.centre_runs_are_steps.Stages.{AnswersInEvent, Begins}
use Rattle.sms_world.proofs.centre_runs_are_steps.Stepping.{still}
use Rattle.sms_world.proofs.handset_runs_are_steps.Hearing.{bare_carries}

-- what the near end of a link does of its own accord
abbrev pub hears : HandsetLink → Step → Draft → Draft
hears link step d = on_links (turn_link link (heard step link.near_end) d.links) d

-- the link whose near end is so now, with what is under way
abbrev pub with_links : LinkState → Option Carried → HandsetLink → HandsetLink
with_links l u link = record link { near_end = record link.near_end { links = l; under_way = u } }

-- ---- a link changes, a frame goes out

abbrev pub changing : HandsetLink → Draft → Draft
changing link d = record d { links = record d.links { all = with_link link d.links.all } }

abbrev pub sending : SentRow → Draft → Draft
sending x d = record d { links = record d.links { frames = d.links.frames ++ x ∷ [] } }

pub changes_link : (b : World) (link : HandsetLink) (d : Draft) (w : World) → RefinesLink w.bag link → CentreRefines b d w → CentreRefines b (changing link d) w
changes_link b link d w k s = record { frames = s.frames; whole = s.whole; links = links_with w.bag link d.links.all k s.links; rows = s.rows }

pub sends_frame : (b : World) (h : List ℕ) (x : Outgoing) (d : Draft) (w : World) → IsWholeDown x.octets x.carried → CentreRefines b d w
    → CentreRefines b (sending (record { handset = h; frame = x }) d) (record w { bag = sent_down h (length w.bag + 1) x.octets x.carried ∷ w.bag })
sends_frame b h x d w whole s =
    let f : SentRow = record { handset = h; frame = x } in
    let v : World = record w { bag = sent_down h (length w.bag + 1) x.octets x.carried ∷ w.bag } in
    record {
      frames = ap (λ (bag : List Sent). sent_down h (length bag + 1) x.octets x.carried ∷ bag) s.frames ∙ sym (stacked_both d.links.frames (f ∷ []) b.bag);
      whole = whole_both d.links.frames (f ∷ []) s.whole (whole, tt);
      links = λ y i. link_still w.bag v.bag (λ z j. inr j) y (s.links y i);
      rows = record { table = s.rows.table; reports = s.rows.reports; holders = s.rows.holders; seconds = s.rows.seconds };
    }

-- ---- what the links answer

module _ (b : World) (link : HandsetLink) (d : Draft) (w : World) (s : CentreRefines b d w) (l : LinkState) (up : Option Up) (k : RefinesLink w.bag (with_links l (still_under_way up link.near_end.under_way) link)) where
  -- nothing is sent
  pub hears_nothing : CentreRefines b (hears link (record { state = l; out = record { frames = []; up = up } }) d) w
  hears_nothing =
      let e : Draft = changing (with_links l (still_under_way up link.near_end.under_way) link) d in
      subst (λ (z : List SentRow). CentreRefines b (record e { links = record e.links { frames = z } }) w) (sym (append-nil d.links.frames))
      (changes_link b (with_links l (still_under_way up link.near_end.under_way) link) d w k s)

  -- CP-ACK or CP-ERROR
  module _ (frame : List ℕ) (bare : IsBare (cp_at frame)) where
    abbrev with_bare : World
    with_bare = record w { bag = Bare (length w.bag + 1) link.handset ∷ w.bag }

    bare_sent : CentreRefines b (sending (record { handset = link.handset; frame = of_links frame None }) (changing (with_links l (still_under_way up link.near_end.under_way) link) d)) with_bare
    bare_sent =
        sends_frame b link.handset (of_links frame None) (changing (with_links l (still_under_way up link.near_end.under_way) link) d) w bare
        (changes_link b (with_links l (still_under_way up link.near_end.under_way) link) d w k s)

    carries : carried_in (cp_at frame) link.near_end.under_way link.near_end.answered ≡ None
    carries = bare_carries frame link.near_end.under_way link.near_end.answered (cp_at frame) refl bare

    pub hears_bare : CentreRefines b (hears link (record { state = l; out = record { frames = frame ∷ []; up = up } }) d) with_bare
    hears_bare =
        let e : Draft = changing (with_links l (still_under_way up link.near_end.under_way) link) d in
        subst (λ (z : Option Carried). CentreRefines b (sending (record { handset = link.handset; frame = of_links frame z }) e) with_bare) (sym carries) bare_sent

    -- and what was sent before
    module _ (again : List ℕ) (flag : TransactionFlag) (c : Carried) (sent : WasSentDown link.handset w.bag flag again c) (is : carried_by flag link.near_end.under_way link.near_end.answered ≡ Some c) where
      abbrev with_both : World
      with_both =
          record w {
            bag = sent_down link.handset (length (Bare (length w.bag + 1) link.handset ∷ w.bag) + 1) again (Some c) ∷ (Bare (length w.bag + 1) link.handset ∷ w.bag);
          }

      pub hears_both : CentreRefines b (hears link (record { state = l; out = record { frames = frame ∷ again ∷ []; up = up } }) d) with_both
      hears_both =
          let e : Draft = changing (with_links l (still_under_way up link.near_end.under_way) link) d in
          let h : List ℕ = link.handset in
          let f : SentRow = record { handset = h; frame = of_links frame None } in
          let g : SentRow = record { handset = h; frame = of_links again (Some c) } in
          let two : CentreRefines b (sending g (sending f e)) with_both = sends_frame b h (of_links again (Some c)) (sending f e) with_bare sent.0 bare_sent in
          let fs : (d.links.frames ++ f ∷ []) ++ g ∷ [] ≡ d.links.frames ++ to_handset h (from_links link.near_end.under_way link.near_end.answered (frame ∷ again ∷ [])) =
          append_assoc d.links.frames (f ∷ []) (g ∷ [])
          ∙ ap (λ (z : Option Carried). d.links.frames ++ record { handset = h; frame = of_links frame z } ∷ g ∷ []) (sym carries)
          ∙ ap (λ (z : Option Carried). d.links.frames ++ record { handset = h; frame = of_links frame (carried_in (cp_at frame) link.near_end.under_way link.near_end.answered) } ∷ record { handset = h; frame = of_links again z } ∷ [])
          (sym (again_carries h w.bag flag again c link.near_end.under_way link.near_end.answered sent ∙ is)) in
          subst (λ (z : List SentRow). CentreRefines b (record e { links = record e.links { frames = z } }) with_both) fs two

-- ---- as the beginning of the event

-- nothing, CP-ACK or CP-ERROR alone, or CP-ACK and what was sent before
module _ (number m : ℕ) (link : HandsetLink) (d : Draft) (w : World) (s : CentreRefines w d w) (l : LinkState) (up : Option Up) (k : RefinesLink w.bag (with_links l (still_under_way up link.near_end.under_way) link)) where
  pub bare_begins : (e : Draft) (frame : List ℕ) → IsBare (cp_at frame) → AnswersInEvent number m w e (record w { bag = Bare (length w.bag + 1) link.handset ∷ w.bag }) → Begins number m e w
  bare_begins e frame bare a = (Control link.handset ∷ [], ((tt, tt), (tt, tt), (tt, tt), a))

  pub bare_alone : (frame : List ℕ) → IsBare (cp_at frame) → Begins number m (hears link (record { state = l; out = record { frames = frame ∷ []; up = up } }) d) w
  bare_alone frame bare =
      let e : Draft = hears link (record { state = l; out = record { frames = frame ∷ []; up = up } }) d in
      let v : World = record w { bag = Bare (length w.bag + 1) link.handset ∷ w.bag } in
      bare_begins e frame bare (still number m w (λ x. CentreRefines w e x) v (hears_bare w link d w s l up k frame bare))

  pub bare_and_again : (frame again : List ℕ) (flag : TransactionFlag) (c : Carried) → IsBare (cp_at frame) → WasSentDown link.handset w.bag flag again c → carried_by flag link.near_end.under_way link.near_end.answered ≡ Some c
      → Begins number m (hears link (record { state = l; out = record { frames = frame ∷ again ∷ []; up = up } }) d) w
  bare_and_again frame again flag c bare sent is =
      let e : Draft = hears link (record { state = l; out = record { frames = frame ∷ again ∷ []; up = up } }) d in
      let v : World = record w { bag = sent_down link.handset (length (Bare (length w.bag + 1) link.handset ∷ w.bag) + 1) again (Some c) ∷ (Bare (length w.bag + 1) link.handset ∷ w.bag) } in (
        Control link.handset ∷ Again (frame_down link.handset sent.2.0 again c) ∷ [],
        (
          (tt, (tt, tt)),
          (tt, (tt, tt)),
          (tt, (inr sent.2.1, tt)),
          still number m w (λ x. CentreRefines w e x) v (hears_both w link d w s l up k frame bare again flag c sent is),
        ),
      )
