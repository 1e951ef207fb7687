-- A transfer to a handset has ended by the frame that was handed over: what it was for is done, can't be delivered, or waits on.
use Rattle.std.proofs.Common.{◌≡◌, ℕ, ◌<◌, List, true, false, refl, sym, ◌∙◌, ap, subst, Option, Some, None}
use Rattle.std.specs.Prelude.{◌==◌, not, if◌then◌else◌}
use Rattle.std.proofs.lemmas.Bool.{and_parts, cond_both, not-true}
use Rattle.sms_base.specs.declared.carried.Carried.{Carried}
use Rattle.sms_base.specs.declared.carried.Kind.TheVariants.{Ack, Error}
use Rattle.sms_base.specs.declared.final_state.FinalState.{FinalState}
use Rattle.sms_base.specs.declared.final_state.FinalState.TheVariants.{Undeliverable}
use Rattle.sms_base.specs.declared.holder.Holder.{Holder}
use Rattle.sms_base.specs.declared.holder.Holder.TheVariants.{Part, Report, Entry, Memory}
use Rattle.sms_link.specs.declared.ending.Ending.TheVariants.{Acknowledged, Refused as RefusedWith}
use Rattle.sms_centre_rows.specs.messages.Messages.{ended, is_pending, message_at, message_key, part_at}
use Rattle.sms_centre_rows.specs.messages.OpenParts.{is_open_part}
use Rattle.sms_centre_rows.specs.declared.messages.message.MessageRow.{MessageRow}
use Rattle.sms_centre_rows.specs.declared.messages.part.PartRow.{PartRow}
use Rattle.sms_relay.specs.Cause.{number_of}
use Rattle.sms_relay.specs.declared.cause.RpCause.{RpCause}
use Rattle.sms_centre_rows.specs.reports.Reports.{is_open_status, report_of}
use Rattle.sms_centre_rows.specs.declared.reports.report.ReportRow.{ReportRow}
use Rattle.sms_rows.proofs.table.Tables.{found_key}
use Rattle.sms_tpdu.specs.MoreMessages.{compared}
use Rattle.sms_centre_rows.specs.waiting.Links.{filled, link_of}
use Rattle.sms_centre_rows.specs.declared.waiting.handset_link.HandsetLink.{HandsetLink}
use Rattle.sms_centre_spec.proofs.SoundStores.{SoundStore}
use Rattle.sms_centre_spec.proofs.Steady.{message_own, report_own}
use Rattle.sms_centre_spec.specs.Draft.{Draft, Store, messages_in, parts_in, reports_in, rows_of, with_message}
use Rattle.sms_centre_spec.specs.Ends.{end as end_message}
use Rattle.sms_centre_spec.specs.SoundCore.{IsSentFor}
use Rattle.sms_centre_spec.specs.Transfers.{cause_verdict, conclude, ended_with, holder_ended, is_open, is_open_part_at, is_open_status_at, is_temporary, part_ended_at, part_ended_of, report_closed, report_ended_at}
use Rattle.sms_centre_spec.specs.declared.verdict.Verdict.{Verdict}
use Rattle.sms_centre_spec.specs.declared.verdict.Verdict.TheVariants.{Settled, HandsetFull, Again, Refused, Late}
use Rattle.sms_world_model.specs.World.{Down, Final, Frame, Allocation, IsUnanswered, IsRecorded, State, World, changed}
use Rattle.sms_world_model.specs.WorldStep.{Close, Fail, HasReference, IsSent}
use Rattle.sms_world.specs.centres_refine_the_world.CentreRefinement.{CentreRefines, StoreRefines}
use Rattle.sms_world.specs.centres_refine_the_world.RefinesGiven.{given_part}
use Rattle.sms_world.specs.centres_refine_the_world.RefinesLinks.{IsNumbered, RefinesLink}
use Rattle.sms_world.specs.headline.SeenWorld.{IsStateOf, PartSeen, part_seen, parts_by}
use Rattle.sms_world.proofs.centres_refine_the_world.Aging.{closed_refines, open_in_world}
use Rattle.sms_world.proofs.centres_refine_the_world.ByOctets.{by_octet_is}
use Rattle.sms_world.proofs.centres_refine_the_world.Ending.{can_end, end_is_reached, ended_refines}
use Rattle.sms_world.proofs.centres_refine_the_world.LinksChange.{again_both, late_both}
use Rattle.sms_world.proofs.centres_refine_the_world.QueuedParts.{none_of}
use Rattle.sms_world.proofs.centres_refine_the_world.Offers.{link_refines, links_with}
use Rattle.sms_world.specs.centre_runs_are_steps.Stages.{AnswersInEvent, Settles}
use Rattle.sms_world.proofs.centre_runs_are_steps.DoneParts.{part_id}
use Rattle.sms_world.proofs.centre_runs_are_steps.Settling.{part_settles}
use Rattle.sms_world.proofs.centre_runs_are_steps.Stepping.{WasHanded, follows_one, reads_then, settles_store, still}

-- ---- a handset without memory: nothing is noted of what it was for

full_of : (p : PartRow) (o : Option MessageRow) (s : Store) (w : World) → StoreRefines s w → StoreRefines (part_ended_of HandsetFull p o s) w
full_of p None s w k = k
full_of p (Some m) s w k = k

full_part : (o : Option PartRow) (s : Store) (w : World) → StoreRefines s w → StoreRefines (part_ended_at HandsetFull o s) w
full_part None s w k = k
full_part (Some p) s w k = full_of p (message_at p.id (messages_in s)) s w k

full_report : (o : Option ReportRow) (s : Store) (w : World) → StoreRefines s w → StoreRefines (report_ended_at HandsetFull o s) w
full_report None s w k = k
full_report (Some r) s w k = k

full_refines : (h : Holder) (s : Store) (w : World) → StoreRefines s w → StoreRefines (holder_ended HandsetFull h s) w
full_refines (Part id number) s w k = full_part (part_at id number (parts_in s)) s w k
full_refines (Report id) s w k = full_report (report_of id (reports_in s)) s w k
full_refines (Entry n) s w k = k
full_refines (Memory n) s w k = k

-- ---- what is answered for good

module _ (s : Store) (w : World) (sound : SoundStore s) (refines : StoreRefines s w) (handed : ℕ) (b : World) (u : Frame) (was : WasHanded handed b u) where
  module _ (id number : ℕ) (p : PartRow) (m : MessageRow) (at : part_at id number (parts_in s) ≡ Some p) (small : number < 256) (of : message_at id (messages_in s) ≡ Some m)
      (waits : is_open_part_at (part_at id number (parts_in s)) s ≡ true) where
    same : m.id ≡ id
    same = found_key message_key id m (messages_in s) of

    in_rows : message_at m.id (messages_in s) ≡ Some m
    in_rows = message_own id m s of

    of_part : message_at p.id (messages_in s) ≡ Some m
    of_part = ap (λ (k : ℕ). message_at k (messages_in s)) (part_id s sound id number p at small) ∙ of

    place : part_at m.id number (parts_in s) ≡ Some p
    place = ap (λ (k : ℕ). part_at k number (parts_in s)) same ∙ at

    open_one : is_open_part p (Some m) ≡ true
    open_one = ap (λ (o : Option MessageRow). is_open_part p o) (sym of_part) ∙ ap (λ (o : Option PartRow). is_open_part_at o s) (sym at) ∙ waits

    pending : is_pending m ≡ true
    pending = (and_parts (not p.progress.is_done) (is_pending m) open_one).1

    undone : p.progress.is_done ≡ false
    undone = not-true p.progress.is_done (and_parts (not p.progress.is_done) (is_pending m) open_one).0

    -- the row and its message are those
    found : (v : Verdict) → Settles handed s.moment b (part_ended_of v p (Some m) s) w → Settles handed s.moment b (part_ended_at v (part_at id number (parts_in s)) s) w
    found v k =
        subst (λ (o : Option PartRow). Settles handed s.moment b (part_ended_at v o s) w) (sym at)
        (subst (λ (o : Option MessageRow). Settles handed s.moment b (part_ended_of v p o s) w) (sym of_part) k)

    settled_part : IsSent w u Down Ack → m.handset ≡ u.handset → p.reference ≡ u.reference → Settles handed s.moment b (part_ended_at Settled (part_at id number (parts_in s)) s) w
    settled_part sent to under = found Settled (part_settles s w sound refines number p m place small in_rows pending undone handed b u was sent to under)

    refused_part : IsSent w u Down Error → m.handset ≡ u.handset → p.reference ≡ u.reference → Settles handed s.moment b (part_ended_at Refused (part_at id number (parts_in s)) s) w
    refused_part sent to under =
        let v : PartSeen = record { reference = p.reference; tpdu = compared p.tpdu; is_done = p.progress.is_done } in
        let seen : parts_by (parts_in s) m.id number ≡ Some v = by_octet_is number (part_seen (part_at m.id number (parts_in s))) small ∙ ap part_seen place in
        let h = refines.holders.part m.id number m v in_rows seen in
        let g : Allocation = given_part m number v h.0 in
        let x = refines.table.there m.id m in_rows in
        let y : IsStateOf None (parts_by (parts_in s) m.id) x.1 = subst (λ (z : Option FinalState). IsStateOf z (parts_by (parts_in s) m.id) x.1) (none_of m.state pending) x.2.2 in
        let unanswered : IsUnanswered w.table w.reports (Part m.id number) =
        (x.0, y.0, (subst (λ (z : State). IsRecorded w.table m.id x.0 z) y.1.0 x.2.0, λ a. (let bad : true ≡ false = sym ((y.1.1 number v seen).1 a) ∙ undone in absurd cc))) in
        let has : HasReference w u g m.id number = ((h.1, unanswered), refl, to, under) in
        let z : World = record w { table = changed m.id (λ e. Final Undeliverable) w.table } in
        let now : StoreRefines (with_message (ended Undeliverable s.moment m) s) z = ended_refines Undeliverable m s w in_rows (λ e. Final Undeliverable) (λ a c k. refl) refines in
        let told = end_is_reached Undeliverable m s z (can_end Undeliverable m s sound in_rows pending refl) now in
        found Refused
        (reads_then handed s.moment b (λ q. StoreRefines (end_message Undeliverable m s) q × (q.bag ≡ w.bag)) w u (Fail u g m.id number) told.0 was refl tt told.1.0 ((sent, has), told.1.1) (told.1.2, told.1.3))

  closed_report : (id : ℕ) (r : ReportRow) → report_of id (reports_in s) ≡ Some r → is_open_status_at (report_of id (reports_in s)) ≡ true → Settles handed s.moment b (report_closed r s) w
  closed_report id r at waits =
      let open_one : is_open_status r ≡ true = ap is_open_status_at (sym at) ∙ waits in
      let there : report_of r.id (reports_in s) ≡ Some r = report_own id r s at in
      let keys = sound.consistent.held.report_keys in
      follows_one handed s.moment b (λ v. StoreRefines (report_closed r s) v × (v.bag ≡ w.bag)) w (Close r.id) (tt, tt) (tt, tt) (open_in_world r s w keys there refines open_one) (closed_refines r s w keys there refines, refl)

  acknowledged_holder : (h : Holder) → IsSent w u Down Ack → IsSentFor u.handset u.reference h (rows_of s) → IsNumbered h → is_open h s ≡ true → Settles handed s.moment b (holder_ended Settled h s) w
  acknowledged_holder (Part id number) sent (p, (m, (at, under, of, to, own))) small waits = settled_part id number p m at small of waits sent to under
  acknowledged_holder (Report id) sent (r, (m, (tpdu, (at, kind, of, to)))) small waits =
      subst (λ (o : Option ReportRow). Settles handed s.moment b (report_ended_at Settled o s) w) (sym at) (closed_report id r at waits)
  acknowledged_holder (Entry n) sent is small waits = absurd is
  acknowledged_holder (Memory n) sent is small waits = absurd is

  refused_holder : (h : Holder) → IsSent w u Down Error → IsSentFor u.handset u.reference h (rows_of s) → IsNumbered h → is_open h s ≡ true → Settles handed s.moment b (holder_ended Refused h s) w
  refused_holder (Part id number) sent (p, (m, (at, under, of, to, own))) small waits = refused_part id number p m at small of waits sent to under
  refused_holder (Report id) sent (r, (m, (tpdu, (at, kind, of, to)))) small waits =
      subst (λ (o : Option ReportRow). Settles handed s.moment b (report_ended_at Refused o s) w) (sym at) (closed_report id r at waits)
  refused_holder (Entry n) sent is small waits = absurd is
  refused_holder (Memory n) sent is small waits = absurd is

-- ---- the transfer has ended

module _ (d : Draft) (w : World) (sound : SoundStore d.store) (b : World) (s : CentreRefines b d w) (handed : ℕ) (u : Frame) (was : WasHanded handed b u) (t : Carried) where
  -- what was answered already
  too_late : AnswersInEvent handed d.store.moment b (ended_with Late u.handset t.tag d) w
  too_late =
      still handed d.store.moment b (λ v. CentreRefines b (ended_with Late u.handset t.tag d) v) w
      (record { frames = s.frames; whole = s.whole; links = s.links; rows = (late_both w t.tag d.store (sound, s.rows)).1 })

  module _ (for_it : IsSentFor u.handset u.reference t.tag (rows_of d.store)) (small : IsNumbered t.tag) where
    pub acknowledged : IsSent w u Down Ack → AnswersInEvent handed d.store.moment b (conclude u.handset t Acknowledged d) w
    acknowledged sent =
        cond_both (is_open t.tag d.store) Settled Late (λ (v : Verdict). AnswersInEvent handed d.store.moment b (ended_with v u.handset t.tag d) w)
        (λ waits. settles_store handed d.store.moment b (holder_ended Settled t.tag d.store) d w s (acknowledged_holder d.store w sound s.rows handed b u was t.tag sent for_it small waits))
        (λ e. too_late)

    pub refused : (cause : RpCause) (tpdu : Option (List ℕ)) → IsSent w u Down Error → AnswersInEvent handed d.store.moment b (conclude u.handset t (RefusedWith cause tpdu) d) w
    refused cause tpdu sent =
        let code : ℕ = number_of cause in
        let m : ℕ = d.store.moment in
        let link : HandsetLink = link_of u.handset d.links.all in
        let l : RefinesLink w.bag link = link_refines w.bag u.handset d.links.all s.links in
        let P : Verdict → Type 0 = λ v. AnswersInEvent handed d.store.moment b (ended_with v u.handset t.tag d) w in
        cond_both (is_open t.tag d.store) (cause_verdict code) Late P
        (λ waits. cond_both (code == 22) HandsetFull (if is_temporary code then Again else Refused) P
        (λ e. still handed m b (λ v. CentreRefines b (ended_with HandsetFull u.handset t.tag d) v) w (record {
          frames = s.frames;
          whole = s.whole;
          links = links_with w.bag (filled link) d.links.all (record { next = l.next; opened = l.opened; begun = l.begun }) s.links;
          rows = full_refines t.tag d.store w s.rows;
        }))
        (λ e. cond_both (is_temporary code) Again Refused P
        (λ f. still handed m b (λ v. CentreRefines b (ended_with Again u.handset t.tag d) v) w
        (record { frames = s.frames; whole = s.whole; links = s.links; rows = (again_both w t.tag d.store (sound, s.rows)).1 }))
        (λ f. settles_store handed m b (holder_ended Refused t.tag d.store) d w s (refused_holder d.store w sound s.rows handed b u was t.tag sent for_it small waits))))
        (λ e. too_late)
