-- A frame comes to the centre: what the links do with it, and then what goes up.
use Rattle.std.proofs.Common.{◌≡◌, ℕ, ◌+◌, ◌<◌, List, [], ◌∷◌, cond, true, refl, sym, ◌∙◌, ap, subst, inr, ⊎_elim, Option, Some, None, Result, Ok, Err, length, is_some}
use Rattle.std.specs.Prelude.{◌&&◌, ◌==◌}
use Rattle.std.specs.Option.{option_map}
use Rattle.std.proofs.lemmas.Bool.{cond_both, eqb-true}
use Rattle.sms_base.specs.Among.{Among}
use Rattle.sms_base.specs.declared.carried.Carried.{Carried as Carries}
use Rattle.sms_base.specs.declared.carried.Kind.{Kind}
use Rattle.sms_base.specs.declared.carried.Kind.TheVariants.{Data, Ack, Error}
use Rattle.sms_base.specs.declared.holder.Holder.{Holder}
use Rattle.sms_control.specs.ControlReading.{cp_at}
use Rattle.sms_control.specs.LinkStep.{Step, quiet, sends, passes_up, acknowledgement, rejection, answer_frames, answer_of, answer_taken, opening_taken, ack_taken, error_taken, take_step, frames_of, is_same, has_begun, has_opened, opening_of}
use Rattle.sms_control.specs.declared.fault.CpFault.{CpFault}
use Rattle.sms_control.specs.declared.link_state.Answer.{Answer}
use Rattle.sms_control.specs.declared.link_state.Begun.{Begun}
use Rattle.sms_control.specs.declared.link_state.LinkState.{LinkState}
use Rattle.sms_control.specs.declared.link_state.Opened.{Opened}
use Rattle.sms_control.specs.declared.message.Cp.{Cp}
use Rattle.sms_control.specs.declared.message.Cp.TheVariants.{DataUnit as CpData, AckUnit as CpAck, ErrorUnit as CpError}
use Rattle.sms_control.specs.declared.out.Up.TheVariants.{Unit as UnitUp, Failed}
use Rattle.sms_control.specs.declared.transaction.Transaction.{Transaction}
use Rattle.sms_control.specs.declared.transaction.TransactionFlag.{TransactionFlag}
use Rattle.sms_control.specs.declared.transaction.TransactionFlag.TheVariants.{FromOriginator, ToOriginator}
use Rattle.sms_link.specs.Ending.{ended_by, unit_at}
use Rattle.sms_link.specs.LinkTurn.{heard, unit_ended}
use Rattle.sms_link.specs.declared.ending.Ending.{Ending}
use Rattle.sms_link.specs.declared.ending.Ending.TheVariants.{Acknowledged, Lost as LostEnd, Refused as RefusedWith, Wrong}
use Rattle.sms_link.specs.declared.ending.Side.{Side}
use Rattle.sms_link.specs.declared.ending.Side.TheVariants.{Centre as CentreSide}
use Rattle.sms_link.specs.declared.ending.Upward.TheVariants.{Ended}
use Rattle.sms_relay.specs.RelayReading.{up_at}
use Rattle.sms_relay.specs.declared.cause.RpCause.{RpCause}
use Rattle.sms_relay.specs.declared.fault.RelayFault.{RelayFault}
use Rattle.sms_relay.specs.declared.frame.Rp.{Rp}
use Rattle.sms_relay.specs.declared.frame.Rp.TheVariants.{DataUnit, AckUnit, ErrorUnit, Smma}
use Rattle.sms_centre_rows.specs.waiting.Links.{link_of}
use Rattle.sms_centre_rows.specs.declared.waiting.handset_link.HandsetLink.{HandsetLink}
use Rattle.sms_centre_spec.proofs.SoundStores.{SoundStore}
use Rattle.sms_centre_spec.specs.CentreEvent.{frame_heard, went_up}
use Rattle.sms_centre_spec.specs.Draft.{Draft, rows_of}
use Rattle.sms_centre_spec.specs.Receiving.{unit_received}
use Rattle.sms_centre_spec.specs.SoundCore.{IsLink, IsSentFor, IsUnderWay}
use Rattle.sms_centre_spec.specs.Submitted.{UnitGives, UpGives}
use Rattle.sms_centre_spec.specs.Transfers.{conclude}
use Rattle.sms_world.proofs.frames_pass_between_sides.Linking.{Awaits, data_is, taken_is}
use Rattle.sms_world.specs.frames_pass_between_sides.Between.{IsCarriedUp, IsUnitUp}
use Rattle.sms_world.specs.frames_pass_between_sides.FramesUp.{IsBare}
use Rattle.sms_world_model.specs.World.{World, Line as LineOf, Frame, Sent, Carried, Bare, Down}
use Rattle.sms_world.specs.centres_refine_the_world.CentreRefinement.{CentreRefines}
use Rattle.sms_world.specs.centres_refine_the_world.RefinesLinks.{IsNumbered, RefinesAnswerDown, RefinesBegunDown, RefinesLink, RefinesOpenedDown}
use Rattle.sms_world.proofs.centres_refine_the_world.LinksChange.{lost_law}
use Rattle.sms_world.specs.centre_runs_are_steps.Handing.{IsHandedUp}
use Rattle.sms_world.specs.centre_runs_are_steps.Stages.{AnswersInEvent, Begins}
use Rattle.sms_world.proofs.centre_runs_are_steps.Concluding.{acknowledged, refused}
use Rattle.sms_world.proofs.centre_runs_are_steps.Hearing.{bare_alone, bare_and_again, bare_begins, hears, hears_bare, hears_nothing, with_links}
use Rattle.sms_world.proofs.centre_runs_are_steps.Stepping.{WasHanded, begins_still, still}
use Rattle.sms_world.proofs.centre_runs_are_steps.UnitsArrive.{data_law, memory_law}
use Rattle.sms_world.proofs.handset_runs_are_steps.Offering.{data_sent as data_up}
use Rattle.sms_world.proofs.handset_runs_are_steps.FrameArrives.{bare_rejection, bare_ack}
use Rattle.sms_centre_rows.proofs.waiting.LinksRepresented.{link_put}

-- what the link did of its own accord, and what went up
abbrev pub frame_reported : Holder → HandsetLink → Step → Draft → Draft
frame_reported tag link step d = frame_heard link tag (heard step link.near_end) d

-- an answer from a handset
abbrev ack_up : List ℕ → ℕ → ℕ → List ℕ → Holder → Frame
ack_up h number r tpdu tag = record { number = number; handset = h; line = Down; kind = Ack; reference = r; tpdu = tpdu; tag = tag }

abbrev error_up : List ℕ → ℕ → ℕ → List ℕ → Holder → Frame
error_up h number r tpdu tag = record { number = number; handset = h; line = Down; kind = Error; reference = r; tpdu = tpdu; tag = tag }

-- what is under way in a transaction that is answered has an octet for its number
under_way_numbered : (h : List ℕ) (bag : List Sent) (i : ℕ) (u : Option Carries) (o : Option Begun) → RefinesBegunDown h bag u o → has_begun i o ≡ true → (c : Carries) → u ≡ Some c → IsNumbered c.tag
under_way_numbered h bag i u None k e c is = absurd cc
under_way_numbered h bag i u (Some x) k e c is =
    let both : Some k.0 ≡ Some c = sym k.1.0 ∙ is in
    let same : k.0 ≡ c = cc in
    subst (λ (y : Carries). IsNumbered y.tag) same k.1.2

module _ (number : ℕ) (tag : Holder) (d : Draft) (w : World) (sound : SoundStore d.store) (s : CentreRefines w d w) (link : HandsetLink) (k : RefinesLink w.bag link) (is : IsLink (rows_of d.store) link) where
  abbrev m : ℕ
  m = d.store.moment

  -- with CP-ACK
  abbrev acked : World
  acked = record w { bag = Bare (length w.bag + 1) link.handset ∷ w.bag }

  same_links : RefinesLink w.bag (with_links link.near_end.links link.near_end.under_way link)
  same_links = record { next = k.next; opened = k.opened; begun = k.begun }

  -- ---- nothing goes up

  -- a repeated opening: CP-ACK, and the answer again where there is one
  again_law : (frame : List ℕ) (a : Option Answer) → IsBare (cp_at frame) → RefinesAnswerDown link.handset w.bag link.near_end.answered a → Begins number m (hears link (sends (frame ∷ frames_of a) link.near_end.links) d) w
  again_law frame None bare j = bare_alone number m link d w s link.near_end.links None same_links frame bare
  again_law frame (Some a) bare j = bare_and_again number m link d w s link.near_end.links None same_links frame a.frame ToOriginator j.0 bare (j.1.1.0, j.1.1.1, j.1.1.2) j.1.0

  repeat_law : (frame : List ℕ) (o : Option Opened) → IsBare (cp_at frame) → RefinesOpenedDown link.handset w.bag link.near_end.answered o → Begins number m (hears link (sends (frame ∷ answer_frames o) link.near_end.links) d) w
  repeat_law frame None bare j = again_law frame None bare tt
  repeat_law frame (Some o) bare j = again_law frame o.answer bare j.1

  -- the links change, and nothing is sent
  quiet_law : (l : LinkState) → RefinesLink w.bag (with_links l link.near_end.under_way link) → Begins number m (frame_reported tag link (quiet l) d) w
  quiet_law l j = begins_still number m (hears link (quiet l) d) w (hears_nothing w link d w s l None j)

  -- ---- data of a handset

  abbrev ReportsStep : Step → Type 0
  ReportsStep z = UpGives d.store.setup.accounts link.handset d.store.moment (heard z link.near_end).out.up → Begins number d.store.moment (frame_reported tag link z d) w

  module _ (frame : List ℕ) (t : Transaction) (unit : List ℕ) (low : t.identifier < 7) where
    module _ (r : ℕ) (tpdu : List ℕ) (told : IsUnitUp Data r tpdu (up_at unit)) (sent : Among (Carried (data_up link.handset number r tpdu tag)) w.bag) where
      abbrev opening : Opened
      opening = record { identifier = t.identifier; opening = frame; answer = None }

      abbrev opened_links : LinkState
      opened_links = record link.near_end.links { opened = Some (record { identifier = t.identifier; opening = frame; answer = None }) }

      abbrev opening_step : Step
      opening_step = passes_up (acknowledgement t ∷ []) (UnitUp FromOriginator unit) (record link.near_end.links { opened = Some (record { identifier = t.identifier; opening = frame; answer = None }) })

      new_link_refines : RefinesLink w.bag (with_links opened_links link.near_end.under_way link)
      new_link_refines = record { next = k.next; opened = (low, tt); begun = k.begun }

      heard_refines : CentreRefines w (hears link opening_step d) acked
      heard_refines = hears_bare w link d w s opened_links (Some (UnitUp FromOriginator unit)) new_link_refines (acknowledgement t) (bare_ack t low)

      link_now : link_of link.handset (hears link opening_step d).links.all ≡ with_links opened_links link.near_end.under_way link
      link_now = link_put (with_links opened_links link.near_end.under_way link) d.links.all

      awaits : Awaits (link_of link.handset (hears link opening_step d).links.all).near_end.links opening
      awaits = (ap (λ (x : HandsetLink). x.near_end.links.opened) link_now, refl)

      was : WasHanded number w (data_up link.handset number r tpdu tag)
      was = (sent, refl)

      unit_law : UnitGives d.store.setup.accounts link.handset m (up_at unit) → AnswersInEvent number m w (unit_received link.handset tag unit (up_at unit) (hears link opening_step d)) acked
      unit_law gives =
          let e : Draft = hears link opening_step d in
          ⊎_elim
          (λ (x : (centre : List ℕ) × (up_at unit ≡ Ok (DataUnit r centre tpdu))).
          subst (λ (y : Result Rp RelayFault). AnswersInEvent number m w (unit_received link.handset tag unit y e) acked) (sym x.1)
          (data_law link.handset r tag tpdu number w e acked sound heard_refines opening awaits was (inr sent) (subst (λ (y : Result Rp RelayFault). UnitGives d.store.setup.accounts link.handset m y) x.1 gives)))
          (λ (x : (up_at unit ≡ Ok (Smma r)) × (tpdu ≡ [])).
          subst (λ (y : Result Rp RelayFault). AnswersInEvent number m w (unit_received link.handset tag unit y e) acked) (sym x.0)
          (memory_law link.handset r tag tpdu number w e acked sound heard_refines opening awaits was (inr sent) x.1))
          told

      new_law : ReportsStep opening_step
      new_law gives =
          bare_begins number m link d w s opened_links (Some (UnitUp FromOriginator unit)) new_link_refines (frame_reported tag link opening_step d) (acknowledgement t) (bare_ack t low) (unit_law gives)

      pub opening_law : ReportsStep (opening_taken frame unit t link.near_end.links)
      opening_law =
          let ack = acknowledgement t in
          cond_both (is_same frame (opening_of link.near_end.links.opened)) (sends (ack ∷ answer_frames link.near_end.links.opened) link.near_end.links)
          (cond (is_same frame link.near_end.links.last_opening) (sends (ack ∷ []) link.near_end.links) opening_step) ReportsStep
          (λ e gives. repeat_law ack link.near_end.links.opened (bare_ack t low) k.opened)
          (λ e. cond_both (is_same frame link.near_end.links.last_opening) (sends (ack ∷ []) link.near_end.links) opening_step ReportsStep
          (λ f gives. bare_alone number m link d w s link.near_end.links None same_links ack (bare_ack t low))
          (λ f. new_law))

    -- ---- an answer of a handset

    abbrev closed_links : LinkState
    closed_links = record link.near_end.links { begun = None; last_answer = Some frame }

    abbrev answer_step : Step
    answer_step = passes_up (acknowledgement t ∷ []) (UnitUp ToOriginator unit) (record link.near_end.links { begun = None; last_answer = Some frame })

    closed_link_refines : RefinesLink w.bag (with_links closed_links None link)
    closed_link_refines = record { next = k.next; opened = k.opened; begun = tt }

    closed_refines_now : CentreRefines w (hears link answer_step d) acked
    closed_refines_now = hears_bare w link d w s closed_links (Some (UnitUp ToOriginator unit)) closed_link_refines (acknowledgement t) (bare_ack t low)

    module _ (rp : Result Rp RelayFault) (told : up_at unit ≡ rp)
        (law : (c : Carries) → IsSentFor link.handset c.reference c.tag (rows_of d.store) → IsNumbered c.tag → AnswersInEvent number m w (conclude link.handset c (ended_by c.reference rp) (hears link answer_step d)) acked) where
      -- the transfer that was under way, if there was one, has ended
      up_law : (side : Side) (c : Option Carries) → side ≡ CentreSide → IsUnderWay link.handset c (rows_of d.store) → ((x : Carries) → c ≡ Some x → IsNumbered x.tag)
          → AnswersInEvent number m w (went_up link.handset tag (option_map (unit_ended side unit) c) (hears link answer_step d)) acked
      up_law side None at under small = still number m w (λ v. CentreRefines w (hears link answer_step d) v) acked closed_refines_now
      up_law side (Some c) at under small =
          let e : Draft = hears link answer_step d in
          subst (λ (x : Side). AnswersInEvent number m w (conclude link.handset c (ended_by c.reference (unit_at x unit)) e) acked) (sym at)
          (subst (λ (y : Result Rp RelayFault). AnswersInEvent number m w (conclude link.handset c (ended_by c.reference y) e) acked) (sym told) (law c under.1 (small c refl)))

      pub answer_law : Begins number m (frame_reported tag link (answer_taken frame unit t link.near_end.links) d) w
      answer_law =
          let ack = acknowledgement t in
          cond_both (has_begun t.identifier link.near_end.links.begun) answer_step
          (cond (is_same frame link.near_end.links.last_answer) (sends (ack ∷ []) link.near_end.links) (sends (rejection t ∷ []) link.near_end.links))
          (λ (z : Step). Begins number m (frame_reported tag link z d) w)
          (λ q. bare_begins number m link d w s closed_links (Some (UnitUp ToOriginator unit)) closed_link_refines (frame_reported tag link answer_step d) ack (bare_ack t low)
          (up_law link.near_end.side link.near_end.under_way is.side is.under_way (λ x e. under_way_numbered link.handset w.bag t.identifier link.near_end.under_way link.near_end.links.begun k.begun q x e)))
          (λ q. cond_both (is_same frame link.near_end.links.last_answer) (sends (ack ∷ []) link.near_end.links) (sends (rejection t ∷ []) link.near_end.links) (λ (z : Step). Begins number m (frame_reported tag link z d) w)
          (λ f. bare_alone number m link d w s link.near_end.links None same_links ack (bare_ack t low))
          (λ f. bare_alone number m link d w s link.near_end.links None same_links (rejection t) (bare_rejection t low)))

    -- a wrong reference puts off
    wrong_law : (c : Carries) → AnswersInEvent number m w (conclude link.handset c Wrong (hears link answer_step d)) acked
    wrong_law c = still number m w (λ v. CentreRefines w (conclude link.handset c Wrong (hears link answer_step d)) v) acked (lost_law w link.handset (Some c) (hears link answer_step d) acked sound closed_refines_now)

    ack_law : (r : ℕ) (tpdu : List ℕ) (report : Option (List ℕ)) → Among (Carried (ack_up link.handset number r tpdu tag)) w.bag
        → (c : Carries) → IsSentFor link.handset c.reference c.tag (rows_of d.store) → IsNumbered c.tag
        → AnswersInEvent number m w (conclude link.handset c (ended_by c.reference (Ok (AckUnit r report))) (hears link answer_step d)) acked
    ack_law r tpdu report sent c for_it small =
        let u : Frame = ack_up link.handset number r tpdu tag in
        let e : Draft = hears link answer_step d in
        cond_both (r == c.reference) Acknowledged Wrong (λ (x : Ending). AnswersInEvent number m w (conclude link.handset c x e) acked)
        (λ q. acknowledged e acked sound w closed_refines_now number u (sent, refl) c
        (subst (λ (n : ℕ). IsSentFor link.handset n c.tag (rows_of d.store)) (sym (eqb-true r c.reference q)) for_it) small (inr sent, refl, refl))
        (λ q. wrong_law c)

    error_law : (r : ℕ) (tpdu : List ℕ) (cause : RpCause) (report : Option (List ℕ)) → Among (Carried (error_up link.handset number r tpdu tag)) w.bag
        → (c : Carries) → IsSentFor link.handset c.reference c.tag (rows_of d.store) → IsNumbered c.tag
        → AnswersInEvent number m w (conclude link.handset c (ended_by c.reference (Ok (ErrorUnit r cause report))) (hears link answer_step d)) acked
    error_law r tpdu cause report sent c for_it small =
        let u : Frame = error_up link.handset number r tpdu tag in
        let e : Draft = hears link answer_step d in
        cond_both (r == c.reference) (RefusedWith cause report) Wrong (λ (x : Ending). AnswersInEvent number m w (conclude link.handset c x e) acked)
        (λ q. refused e acked sound w closed_refines_now number u (sent, refl) c
        (subst (λ (n : ℕ). IsSentFor link.handset n c.tag (rows_of d.store)) (sym (eqb-true r c.reference q)) for_it) small cause report (inr sent, refl, refl))
        (λ q. wrong_law c)

  -- ---- CP-ACK and CP-ERROR

  unrepeated : (u : Option Carries) (o : Option Begun) → RefinesBegunDown link.handset w.bag u o → RefinesBegunDown link.handset w.bag u (option_map (λ (x : Begun). record x { repetition = None }) o)
  unrepeated u None j = tt
  unrepeated u (Some x) j = j

  ack_frame_law : (flag : TransactionFlag) (i : ℕ) → Begins number m (frame_reported tag link (ack_taken flag i link.near_end.links) d) w
  ack_frame_law ToOriginator i =
      let l : LinkState = record link.near_end.links { begun = option_map (λ (x : Begun). record x { repetition = None }) link.near_end.links.begun } in
      cond_both (has_begun i link.near_end.links.begun) (quiet l) (quiet link.near_end.links) (λ (z : Step). Begins number m (frame_reported tag link z d) w)
      (λ e. quiet_law l (record { next = k.next; opened = k.opened; begun = unrepeated link.near_end.under_way link.near_end.links.begun k.begun }))
      (λ e. quiet_law link.near_end.links same_links)
  ack_frame_law FromOriginator i =
      let l : LinkState = record link.near_end.links { opened = None; last_opening = opening_of link.near_end.links.opened } in
      cond_both (has_opened i link.near_end.links.opened && is_some (answer_of link.near_end.links.opened)) (quiet l) (quiet link.near_end.links) (λ (z : Step). Begins number m (frame_reported tag link z d) w)
      (λ e. quiet_law l (record { next = k.next; opened = tt; begun = k.begun }))
      (λ e. quiet_law link.near_end.links same_links)

  -- the transfer that was under way, if there was one, is lost
  lost_up : (e : Draft) (c : Option Carries) → SoundStore e.store → CentreRefines w e w → CentreRefines w (went_up link.handset tag (option_map (λ (transfer : Carries). Ended transfer LostEnd) c) e) w
  lost_up e None sure j = j
  lost_up e (Some c) sure j = lost_law w link.handset (Some c) e w sure j

  error_frame_law : (flag : TransactionFlag) (i : ℕ) → Begins number m (frame_reported tag link (error_taken flag i link.near_end.links) d) w
  error_frame_law ToOriginator i =
      let l : LinkState = record link.near_end.links { begun = None } in
      let e : Draft = hears link (passes_up [] Failed l) d in
      let j : RefinesLink w.bag (with_links l None link) = record { next = k.next; opened = k.opened; begun = tt } in
      cond_both (has_begun i link.near_end.links.begun) (passes_up [] Failed l) (quiet link.near_end.links) (λ (z : Step). Begins number m (frame_reported tag link z d) w)
      (λ q. begins_still number m (frame_reported tag link (passes_up [] Failed l) d) w (lost_up e link.near_end.under_way sound (hears_nothing w link d w s l (Some Failed) j)))
      (λ q. quiet_law link.near_end.links same_links)
  error_frame_law FromOriginator i =
      let l : LinkState = record link.near_end.links { opened = None } in
      cond_both (has_opened i link.near_end.links.opened) (quiet l) (quiet link.near_end.links) (λ (z : Step). Begins number m (frame_reported tag link z d) w)
      (λ e. quiet_law l (record { next = k.next; opened = tt; begun = k.begun }))
      (λ e. quiet_law link.near_end.links same_links)

  -- ---- any frame

  bare_law : (frame : List ℕ) (c : Result Cp CpFault) → cp_at frame ≡ c → IsBare c → Begins number m (frame_reported tag link (take_step frame link.near_end.links) d) w
  bare_law frame (Ok (CpData t unit)) e i = absurd i
  bare_law frame (Ok (CpAck t)) e i =
      subst (λ (z : Step). Begins number m (frame_reported tag link z d) w) (sym (taken_is frame link.near_end.links (Ok (CpAck t)) e)) (ack_frame_law t.flag t.identifier)
  bare_law frame (Ok (CpError t cause)) e i =
      subst (λ (z : Step). Begins number m (frame_reported tag link z d) w) (sym (taken_is frame link.near_end.links (Ok (CpError t cause)) e)) (error_frame_law t.flag t.identifier)
  bare_law frame (Err fault) e i = absurd i

  -- a frame of the world, by its kind
  kind_law : (frame : List ℕ) (kind : Kind) (r : ℕ) (tpdu : List ℕ) (way : LineOf)
      → IsCarriedUp (record { number = number; handset = link.handset; line = way; kind = kind; reference = r; tpdu = tpdu; tag = tag }) frame
      → Among (Carried (record { number = number; handset = link.handset; line = way; kind = kind; reference = r; tpdu = tpdu; tag = tag })) w.bag → ReportsStep (take_step frame link.near_end.links)
  kind_law frame Data r tpdu way c sent =
      subst ReportsStep (sym (data_is frame link.near_end.links c.transaction c.unit FromOriginator c.frame c.flag))
      (opening_law frame c.transaction c.unit c.frame.value.0 r tpdu c.unit_is
      (subst (λ (z : LineOf). Among (Carried (record { number = number; handset = link.handset; line = z; kind = Data; reference = r; tpdu = tpdu; tag = tag })) w.bag) c.line sent))
  kind_law frame Ack r tpdu way c sent =
      let there : Among (Carried (ack_up link.handset number r tpdu tag)) w.bag =
      subst (λ (z : LineOf). Among (Carried (record { number = number; handset = link.handset; line = z; kind = Ack; reference = r; tpdu = tpdu; tag = tag })) w.bag) c.line sent in
      subst ReportsStep (sym (data_is frame link.near_end.links c.transaction c.unit ToOriginator c.frame c.flag))
      (λ gives. answer_law frame c.transaction c.unit c.frame.value.0 (Ok (AckUnit r c.unit_is.0)) c.unit_is.1 (ack_law frame c.transaction c.unit c.frame.value.0 r tpdu c.unit_is.0 there))
  kind_law frame Error r tpdu way c sent =
      let there : Among (Carried (error_up link.handset number r tpdu tag)) w.bag =
      subst (λ (z : LineOf). Among (Carried (record { number = number; handset = link.handset; line = z; kind = Error; reference = r; tpdu = tpdu; tag = tag })) w.bag) c.line sent in
      subst ReportsStep (sym (data_is frame link.near_end.links c.transaction c.unit ToOriginator c.frame c.flag))
      (λ gives. answer_law frame c.transaction c.unit c.frame.value.0 (Ok (ErrorUnit r c.unit_is.0 c.unit_is.1)) c.unit_is.2
      (error_law frame c.transaction c.unit c.frame.value.0 r tpdu c.unit_is.0 c.unit_is.1 there))

  frame_law : (frame : List ℕ) (u : Frame) → Among (Carried u) w.bag → u.number ≡ number → u.handset ≡ link.handset → u.tag ≡ tag → IsCarriedUp u frame → ReportsStep (take_step frame link.near_end.links)
  frame_law frame u sent a e g c =
      let q : u ≡ record { number = number; handset = link.handset; line = u.line; kind = u.kind; reference = u.reference; tpdu = u.tpdu; tag = tag } =
      λ i. record { number = a i; handset = e i; line = u.line; kind = u.kind; reference = u.reference; tpdu = u.tpdu; tag = g i } in
      kind_law frame u.kind u.reference u.tpdu u.line (subst (λ (z : Frame). IsCarriedUp z frame) q c) (subst (λ (z : Frame). Among (Carried z) w.bag) q sent)

  pub handed_law : (frame : List ℕ) → IsHandedUp link.handset number frame tag w → ReportsStep (take_step frame link.near_end.links)
  handed_law frame x = ⊎_elim
      (λ (i : IsBare (cp_at frame)). λ gives. bare_law frame (cp_at frame) refl i)
      (λ (y : (u : Frame) × (Among (Carried u) w.bag × (u.number ≡ number) × (u.handset ≡ link.handset) × (u.tag ≡ tag) × IsCarriedUp u frame)). frame_law frame y.0 y.1.0 y.1.1 y.1.2 y.1.3 y.1.4)
      x
