-- RP-DATA that comes is one step that reads it.
use Rattle.std.proofs.Common.{◌≡◌, ℕ, List, refl, sym, ◌∙◌, ap, subst, Option, Some, None, Result, Ok, Err}
use Rattle.std.proofs.lemmas.Bool.{cond_both}
use Rattle.sms_base.specs.Among.{Among}
use Rattle.sms_rows.specs.table.Table.{row_at, put}
use Rattle.sms_rows.proofs.table.Tables.{among_found}
use Rattle.sms_base.specs.declared.holder.Holder.{Holder}
use Rattle.sms_alphabet.specs.declared.concat_key.ConcatKey.{ConcatKey}
use Rattle.sms_relay.specs.declared.cause.RpCause.TheVariants.{InvalidMandatoryInformation}
use Rattle.sms_tpdu.specs.declared.carrier.Carrier.TheVariants.{InData}
use Rattle.sms_tpdu.specs.declared.deliver.Deliver.{Deliver as DeliverOf}
use Rattle.sms_tpdu.specs.declared.down.Down.{Down}
use Rattle.sms_tpdu.specs.declared.down.Down.TheVariants.{Deliver, StatusReport, SubmitReport}
use Rattle.sms_tpdu.specs.declared.fault.TpduFault.{TpduFault}
use Rattle.sms_tpdu.specs.TpduReading.{down_at}
use Rattle.sms_handset_rows.specs.declared.inbox.entry.Group.{Group}
use Rattle.sms_handset_rows.specs.declared.inbox.discarded_group.DiscardedGroup.{DiscardedGroup}
use Rattle.sms_handset_rows.specs.declared.outbox.out_entry.OutEntry.{OutEntry as OutRow}
use Rattle.sms_handset_draft.specs.Draft.{Draft, put_out}
use Rattle.sms_handset_rows.specs.inbox.Groups.{group_of, key_of, mark_of}
use Rattle.sms_handset_rows.specs.inbox.Keys.{last_key}
use Rattle.sms_handset_rows.specs.outbox.Keys.{out_key}
use Rattle.sms_handset_draft.specs.Receiving.{accept, acknowledge, data_received, deliver_received, note, part_received, tpdu_received}
use Rattle.sms_handset_rows.specs.inbox.Doubles.{is_double}
use Rattle.sms_handset_rows.specs.outbox.Reports.{reported}
use Rattle.sms_handset_rows.specs.inbox.SoundInbox.{IsPartOf}
use Rattle.sms_handset.proofs.SoundDrafts.{SoundAt}
use Rattle.sms_handset.proofs.DueRows.{reported_among}
use Rattle.sms_handset_rows.proofs.inbox.SoundMarks.{mark_found}
use Rattle.sms_tpdu.specs.MoreMessages.{compared}
use Rattle.sms_world_model.specs.Place.{place_in, place_of, place_read}
use Rattle.sms_world_model.specs.World.{World, IsLast}
use Rattle.sms_world.specs.frames_pass_between_sides.FramesDown.{frame_of}
use Rattle.sms_world.specs.handset_runs_are_steps.RefinesInbox.{key_seen}
use Rattle.sms_world.specs.handset_runs_are_steps.Refinement.{Refines}
use Rattle.sms_world.specs.handset_runs_are_steps.Stages.{ReadsOne}
use Rattle.sms_world.proofs.handset_runs_are_steps.Discarded.{discarded_law}
use Rattle.sms_world.proofs.handset_runs_are_steps.Grouping.{pair, groups_preserved, unkeyed}
use Rattle.sms_world.proofs.handset_runs_are_steps.OutboxRows.{out_noted}
use Rattle.sms_world.proofs.handset_runs_are_steps.Placing.{placed}
use Rattle.sms_world.proofs.handset_runs_are_steps.PartsArrive.{arrived_as, member_law, single_law}
use Rattle.sms_world.proofs.handset_runs_are_steps.Taking.{AwaitsAnswer, doubles, last_is, last_isn't, refuses, taken, takes}

-- ---- the entry that a status report is about

module _ (m : ℕ) (h : List ℕ) (number r : ℕ) (tag : Holder) (octets : List ℕ) (b : World) (d : Draft) (w : World)
    (c : AwaitsAnswer h number r tag octets d w) (new : ¬ IsLast (pair h r octets) w.accepted) (sound : SoundAt d) (s : Refines h b d w) where
  part_law : (g : Group) (n : ℕ) (o : Option DiscardedGroup) → place_in (compared octets) ≡ Some (record { key = key_seen g; number = n }) → IsPartOf g n octets → mark_of g d.rows.marks ≡ o
      → ReadsOne m (frame_of h number r octets tag) h b (part_received r tag octets g n o d) w
  part_law g n None seg part q = member_law m h number r tag octets b d w c new sound s g n seg part q
  part_law g n (Some k) seg part q =
      let e : g ≡ k.group = sym (mark_found g d.rows.marks k q).1 in
      subst (λ (z : Group). ReadsOne m (frame_of h number r octets tag) h b (part_received r tag octets z n (Some k) d) w) (sym e)
      (discarded_law m h number r tag octets b d w c new sound s n k (seg ∙ ap (λ (z : Group). Some (record { key = key_seen z; number = n })) e) (ap (λ (z : Group). mark_of z d.rows.marks) (sym e) ∙ q))

  deliver_law : (p : DeliverOf) (o : Option ConcatKey) → down_at InData octets ≡ Ok (Deliver p) → key_of p ≡ o → place_in (compared octets) ≡ place_of p.originating_address o → ReadsOne m (frame_of h number r octets tag) h b (deliver_received r tag octets p o d) w
  deliver_law p None e q seg = single_law m h number r tag octets b d w c new sound s (unkeyed h r octets w.accepted seg)
  deliver_law p (Some key) e q seg =
      let g : Group = group_of p.originating_address key in
      part_law g key.number (mark_of g d.rows.marks) seg (p, key, (e, q, refl, refl)) refl

  -- a status report is noted at its entry
  noted_law : (status : ℕ) (o : Option OutRow) → ((x : OutRow) → o ≡ Some x → Among x d.rows.outbox) → place_in (compared octets) ≡ None → ReadsOne m (frame_of h number r octets tag) h b (accept r tag octets (note status o d)) w
  noted_law status None a seg =
      takes m h number r tag octets b d w c new
      (taken h r octets b d w d.rows.entries d.rows.marks d.rows.outbox d.rows.counters d.changes w.joined refl refl s.joined s.out
      (groups_preserved h r octets d.rows.entries d.rows.entries d.rows.marks w.accepted w.joined s.groups (unkeyed h r octets w.accepted seg) (λ k. refl)) s)
  noted_law status (Some o) a seg =
      let x : OutRow = record o { status = Some status } in
      takes m h number r tag octets b (put_out x d) w (arrived_as h number r tag octets d (put_out x d) w refl c) new
      (taken h r octets b d w d.rows.entries d.rows.marks (put out_key x d.rows.outbox) d.rows.counters (put_out x d).changes w.joined refl refl s.joined
      (out_noted h d.rows.counters.entry d.rows.outbox w.outbox w.up o x (among_found out_key o d.rows.outbox sound.outbox.order (a o refl)) refl refl refl s.out)
      (groups_preserved h r octets d.rows.entries d.rows.entries d.rows.marks w.accepted w.joined s.groups (unkeyed h r octets w.accepted seg) (λ k. refl)) s)

  tpdu_law : (t : Result Down TpduFault) → down_at InData octets ≡ t → ReadsOne m (frame_of h number r octets tag) h b (tpdu_received r tag octets t d) w
  tpdu_law (Ok (Deliver p)) e = deliver_law p (key_of p) e refl (placed octets ∙ ap (λ (z : Result Down TpduFault). place_read z) e)
  tpdu_law (Ok (StatusReport p)) e =
      noted_law p.status (reported p d.rows.outbox) (λ x q. reported_among p d.rows.outbox x q) (placed octets ∙ ap (λ (z : Result Down TpduFault). place_read z) e)
  tpdu_law (Ok (SubmitReport p)) e = refuses m h number r 255 InvalidMandatoryInformation tag octets b d w tt c new s
  tpdu_law (Err fault) e = refuses m h number r 255 InvalidMandatoryInformation tag octets b d w tt c new s

-- data that come: a double is answered, the rest is taken or refused
pub data_law : (m : ℕ) (h : List ℕ) (number r : ℕ) (tag : Holder) (octets : List ℕ) (b : World) (d : Draft) (w : World)
    → AwaitsAnswer h number r tag octets d w → SoundAt d → Refines h b d w → ReadsOne m (frame_of h number r octets tag) h b (data_received r tag octets d) w
data_law m h number r tag octets b d w c sound s =
    cond_both (is_double octets (row_at last_key r d.rows.last)) (acknowledge r tag d) (tpdu_received r tag octets (down_at InData octets) d)
    (λ (z : Draft). ReadsOne m (frame_of h number r octets tag) h b z w)
    (λ old. doubles m h number r tag octets b d w c ((s.last r (compared octets)).0 (last_is octets (row_at last_key r d.rows.last) old)) s)
    (λ other. tpdu_law m h number r tag octets b d w c (λ i. last_isn't octets (row_at last_key r d.rows.last) other ((s.last r (compared octets)).1 i)) sound s (down_at InData octets) refl)
