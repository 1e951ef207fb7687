-- A unit of a handset came: a SUBMIT becomes a message or is refused, and with memory at hand all that waits is due.
use Rattle.std.proofs.Common.{◌≡◌, ℕ, ◌<◌, List, [], refl, sym, ap, subst, ⊎_elim, Option, Some, None, Result, Ok, Err}
use Rattle.std.specs.Prelude.{nat_le, not, if◌then◌else◌}
use Rattle.std.proofs.lemmas.Bool.{cond_both}
use Rattle.sms_base.proofs.Steps.{bind_ok, ok_is}
use Rattle.sms_base.specs.Among.{Among}
use Rattle.sms_base.specs.HandsetNumber.{names_handset}
use Rattle.sms_base.specs.Reading.{only_if}
use Rattle.sms_base.specs.declared.carried.Kind.TheVariants.{Ack, Data, Error}
use Rattle.sms_base.specs.declared.holder.Holder.{Holder}
use Rattle.sms_control.specs.declared.link_state.Opened.{Opened}
use Rattle.sms_intake.specs.HandsetIntake.{from_read, from_submit, is_of_account, is_past, submission_of}
use Rattle.sms_intake.specs.PartBodies.{bodies_under}
use Rattle.sms_intake.specs.Refusals.{cause_of, unread}
use Rattle.sms_intake.specs.SubmitReports.{accepting_report, refusing_report}
use Rattle.sms_intake.specs.declared.refusal.SubmitRefusal.{SubmitRefusal}
use Rattle.sms_intake.specs.declared.refusal.SubmitRefusal.TheVariants.{Congested, Duplicate, NoHandset, OfAccount, PastLimit, ReferenceTaken, WrongType}
use Rattle.sms_intake.specs.declared.submission.SinglePart.{SinglePart}
use Rattle.sms_intake.specs.declared.submission.Submission.{Submission as SubmissionRow}
use Rattle.sms_intake.specs.declared.submission.CentreAccount.{CentreAccount}
use Rattle.sms_centre_rows.specs.declared.messages.message.MessageRow.{MessageRow}
use Rattle.sms_relay.specs.RelayGrammar.{ack_down, error_down}
use Rattle.sms_tpdu.specs.TpduReading.{up_at as tpdu_up_at}
use Rattle.sms_tpdu.specs.declared.carrier.Carrier.TheVariants.{InData}
use Rattle.sms_tpdu.specs.declared.fault.TpduFault.{TpduFault}
use Rattle.sms_tpdu.specs.declared.submit.Submit.{Submit as SubmitOf}
use Rattle.sms_tpdu.specs.declared.up.Up.{Up as UpTpdu}
use Rattle.sms_tpdu.specs.declared.up.Up.TheVariants.{DeliverReport, Submit as SubmitTpdu}
use Rattle.sms_centre_rows.specs.waiting.Links.{emptied, link_of}
use Rattle.sms_centre_rows.specs.declared.waiting.handset_link.HandsetLink.{HandsetLink}
use Rattle.sms_centre_spec.proofs.NextNumbers.{below_next_number}
use Rattle.sms_centre_spec.proofs.SoundStores.{SoundStore}
use Rattle.sms_centre_spec.specs.Draft.{Draft, Store, in_store, messages_in, rows_of}
use Rattle.sms_centre_spec.specs.MessageNumbers.{next_number}
use Rattle.sms_centre_spec.specs.Receiving.{confirm, data_received, has_memory, is_duplicate, memory_available, refuse, reply, submit_accepted, submit_received}
use Rattle.sms_centre_spec.specs.Consistent.{IsSubmission}
use Rattle.sms_centre_spec.specs.Submitting.{accept, accept_under, is_reference_taken}
use Rattle.sms_world.proofs.frames_pass_between_sides.Linking.{Awaits}
use Rattle.sms_world_model.specs.Submission.{Submission}
use Rattle.sms_world_model.specs.World.{Carried as Carried_frame, Frame, Up, World}
use Rattle.sms_world_model.specs.WorldStep.{Asks, IsSent, Memory_free, Receive, Reject, submitted}
use Rattle.sms_world.specs.centres_refine_the_world.CentreRefinement.{CentreRefines}
use Rattle.sms_world.specs.centres_refine_the_world.RefinesLinks.{RefinesLink}
use Rattle.sms_world.proofs.centres_refine_the_world.Entering.{SubmitsAs, entered_as, under_submits}
use Rattle.sms_world.proofs.centres_refine_the_world.LinksChange.{due_now_both}
use Rattle.sms_world.proofs.centres_refine_the_world.Offers.{link_refines, links_with}
use Rattle.sms_world.proofs.centres_refine_the_world.Playing.{store_is_reached}
use Rattle.sms_world.specs.centre_runs_are_steps.Stages.{AnswersInEvent}
use Rattle.sms_world.proofs.centre_runs_are_steps.Replying.{confirming, plain_ack, refusing, replies}
use Rattle.sms_world.proofs.centre_runs_are_steps.Stepping.{WasHanded, reads_then}
use Rattle.sms_world.proofs.handset_runs_are_steps.Offering.{data_sent}

-- what is made of a SUBMIT that passes all checks
made_of : (accounts : List CentreAccount) (from : List ℕ) (now : ℕ) (x : SubmitOf) (u : SubmissionRow) → from_submit accounts from now x ≡ Ok u → submission_of from now x ≡ u
unfolding from_submit
made_of accounts from now x u e =
    let a = bind_ok (only_if (names_handset x.destination_address) NoHandset) _ u e in
    let c = bind_ok (only_if (not (is_of_account x.destination_address.digits accounts)) OfAccount) _ u a.2 in
    let b = bind_ok (only_if (not (is_past now x.validity_period)) PastLimit) _ u c.2 in
    ok_is {E = SubmitRefusal} (submission_of from now x) u b.2

module _ (h : List ℕ) (r : ℕ) (tag : Holder) (tpdu : List ℕ) (number : ℕ) (b : World) (d : Draft) (w : World) (sound : SoundStore d.store) (s : CentreRefines b d w)
    (o : Opened) (awaits : Awaits (link_of h d.links.all).near_end.links o) (was : WasHanded number b (data_sent h number r tpdu tag)) (sent : Among (Carried_frame (data_sent h number r tpdu tag)) w.bag) where
  abbrev m : ℕ
  m = d.store.moment

  abbrev accounts : List CentreAccount
  accounts = d.store.setup.accounts

  abbrev u : Frame
  u = data_sent h number r tpdu tag

  came : IsSent w u Up Data
  came = (sent, refl, refl)

  -- ---- it is refused

  refuses : (refusal : SubmitRefusal) → AnswersInEvent number m b (refuse h r tag refusal d) w
  refuses refusal =
      reads_then number m b (λ v. CentreRefines b (refuse h r tag refusal d) v) w u (Reject u) [] was refl tt tt (came, tt)
      (replies Error r tag (error_down r (cause_of refusal) (Some (refusing_report refusal m))) (refusing r refusal m) b d w s h o awaits)

  -- ---- it is taken

  takes : (v : Submission) (e : Option Store) → Asks u v → SubmitsAs v w m e → AnswersInEvent number m b (submit_accepted h r tag e d) w
  takes v None asks k = refuses Congested
  takes v (Some e) asks (tickets, (can, refines)) =
      let x : World = submitted w m v tickets in
      let f : Draft = in_store e d in
      let y : CentreRefines b f x = store_is_reached b e d w x s refines refl in
      reads_then number m b (λ z. CentreRefines b (confirm h r tag f) z) w u (Receive u v tickets) [] was refl tt tt ((came, asks, can), tt)
      (replies Ack r tag (ack_down r (Some (accepting_report e.moment))) (confirming r e.moment) b f x y h o awaits)

  module _ (x : SubmitOf) (read : tpdu_up_at InData tpdu ≡ Ok (SubmitTpdu x)) where
    abbrev made : SubmissionRow
    made = submission_of h d.store.moment x

    abbrev id : ℕ
    id = next_number (rows_of d.store)

    abbrev bodies : List SinglePart
    bodies = bodies_under 0 made.text

    abbrev whole : Submission
    whole = entered_as id made x.user_data_header_indicator bodies

    asked : Asks u whole
    asked = record {
      submit = x;
      reads = read;
      source = refl;
      handset = refl;
      protocol_identifier = refl;
      data_coding_scheme = refl;
      reply_path = refl;
      header_indicator = refl;
      parts = refl;
    }

    module _ (fit : IsSubmission made) where
      under : SubmitsAs whole w m (accept_under id None bodies made d.store)
      under =
          let new : (y : MessageRow) → Among y (messages_in d.store) → y.id < id = λ y among. below_next_number (rows_of d.store) y sound.consistent.message_keys among in
          under_submits id None made x.user_data_header_indicator bodies fit d.store w sound s.rows new (fit.some 0) (fit.few 0)
          (λ y i. (fit.bodies 0 y i, ⊎_elim (λ e. ap (λ (z : SinglePart). z.header_indicator) e) (λ (j : ⊥). absurd j) i))

      taken : SubmitsAs whole w m (accept made d.store)
      taken =
          cond_both (nat_le id 9999999999) (accept_under id None bodies made d.store) None (λ (e : Option Store). SubmitsAs whole w m e)
          (λ t. under) (λ t. tt)

      made_is_reached : AnswersInEvent number m b (submit_received h r tag (Ok made) d) w
      made_is_reached =
          cond_both (is_duplicate made d.store) (refuse h r tag Duplicate d)
          (if is_reference_taken made d.store then refuse h r tag ReferenceTaken d else submit_accepted h r tag (accept made d.store) d) (λ (e : Draft). AnswersInEvent number m b e w)
          (λ t. refuses Duplicate)
          (λ t. cond_both (is_reference_taken made d.store) (refuse h r tag ReferenceTaken d) (submit_accepted h r tag (accept made d.store) d) (λ (e : Draft). AnswersInEvent number m b e w)
          (λ q. refuses ReferenceTaken)
          (λ q. takes whole (accept made d.store) asked taken))

    submit_is_reached : (y : Result SubmissionRow SubmitRefusal) → from_submit accounts h m x ≡ y → ((z : SubmissionRow) → y ≡ Ok z → IsSubmission z) → AnswersInEvent number m b (submit_received h r tag y d) w
    submit_is_reached (Err refusal) e gives = refuses refusal
    submit_is_reached (Ok z) e gives =
        let same : made ≡ z = made_of accounts h m x z e in
        subst (λ (y : SubmissionRow). AnswersInEvent number m b (submit_received h r tag (Ok y) d) w) same (made_is_reached (subst (λ (y : SubmissionRow). IsSubmission y) (sym same) (gives z refl)))

  read_is_reached : (y : Result UpTpdu TpduFault) → tpdu_up_at InData tpdu ≡ y → ((z : SubmissionRow) → from_read accounts h m y ≡ Ok z → IsSubmission z) → AnswersInEvent number m b (submit_received h r tag (from_read accounts h m y) d) w
  read_is_reached (Ok (SubmitTpdu x)) e gives = submit_is_reached x e (from_submit accounts h m x) refl gives
  read_is_reached (Ok (DeliverReport x)) e gives = refuses WrongType
  read_is_reached (Err fault) e gives = refuses (unread fault)

  pub data_law : ((z : SubmissionRow) → from_read accounts h m (tpdu_up_at InData tpdu) ≡ Ok z → IsSubmission z) → AnswersInEvent number m b (data_received h r tag tpdu d) w
  data_law gives = read_is_reached (tpdu_up_at InData tpdu) refl gives

  -- ---- RP-SMMA

  pub memory_law : tpdu ≡ [] → AnswersInEvent number m b (memory_available h r tag d) w
  memory_law none =
      let e : Draft = reply h Ack r tag (ack_down r None) d in
      let y = replies Ack r tag (ack_down r None) (plain_ack r) b d w s h o awaits in
      reads_then number m b (λ v. CentreRefines b (has_memory h e) v) w u (Memory_free u) [] was refl tt tt ((came, none), tt) (free e _ y sound)
    where
      free : (e : Draft) (v : World) → CentreRefines b e v → SoundStore e.store → CentreRefines b (has_memory h e) v
      free e v y k =
          let link : HandsetLink = link_of h e.links.all in
          let l : RefinesLink v.bag link = link_refines v.bag h e.links.all y.links in
          record {
            frames = y.frames;
            whole = y.whole;
            links = links_with v.bag (emptied link) e.links.all (record { next = l.next; opened = l.opened; begun = l.begun }) y.links;
            rows = (due_now_both v h e.store (k, y.rows)).1;
          }
