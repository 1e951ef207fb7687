-- A transaction of the handset's own ends: by an answer, which is the step that reads it, or without one.
use Rattle.std.proofs.Common.{◌≡◌, ◌⊎◌, ℕ, List, [], ◌∷◌, true, cond, refl, sym, ◌∙◌, ap, subst, inl, inr, ⊎_elim, Option, Some, None, Ok}
use Rattle.std.specs.Prelude.{◌==◌, ◌||◌, nat_le}
use Rattle.std.proofs.lemmas.Bool.{cond_both, eqb-true}
use Rattle.sms_base.specs.Among.{Among}
use Rattle.sms_rows.specs.table.Table.{put, row_at, without}
use Rattle.sms_rows.proofs.table.Tables.{among_put, among_without, found_among, found_key}
use Rattle.sms_base.specs.declared.holder.Holder.{Holder}
use Rattle.sms_base.specs.declared.holder.Holder.TheVariants.{Part as PartHolder, Report, Entry as EntryHolder, Memory}
use Rattle.sms_control.specs.Timers.{later}
use Rattle.sms_relay.specs.declared.cause.RpCause.{RpCause}
use Rattle.sms_relay.specs.declared.frame.Rp.TheVariants.{AckUnit, ErrorUnit}
use Rattle.sms_handset_rows.specs.declared.outbox.answers.TransferEnd.{TransferEnd}
use Rattle.sms_handset_rows.specs.declared.outbox.answers.TransferEnd.TheVariants.{Acknowledged as Is_acknowledged, Temporary, Duplicate, Refused as Is_refused, Lost}
use Rattle.sms_handset_rows.specs.declared.outbox.notice.Notice.{Notice}
use Rattle.sms_handset_rows.specs.declared.outbox.out_entry.EntryState.{EntryState as State_of}
use Rattle.sms_handset_rows.specs.declared.outbox.out_entry.EntryState.TheVariants.{Queued, Sending, Sent as Is_sent, Failed, Unsure}
use Rattle.sms_handset_rows.specs.declared.outbox.out_entry.OutEntry.{OutEntry as OutRow}
use Rattle.sms_base.specs.declared.carried.Carried.{Carried as Carries}
use Rattle.sms_base.specs.declared.carried.Kind.TheVariants.{Ack, Error}
use Rattle.sms_handset_rows.specs.outbox.Answers.{verdict_of, error_verdict, is_temporary, is_duplicate}
use Rattle.sms_handset_draft.specs.Draft.{Draft, put_out}
use Rattle.sms_handset_rows.specs.outbox.Keys.{notice_key, out_key}
use Rattle.sms_handset_rows.specs.outbox.Settling.{lost, most_tries, retry_delay, settled}
use Rattle.sms_link.specs.Timers.{tram}
use Rattle.sms_link.specs.Ending.{ended_by}
use Rattle.sms_link.specs.declared.ending.Ending.{Ending}
use Rattle.sms_link.specs.declared.ending.Ending.TheVariants.{Acknowledged as AcknowledgedEnd, Refused as RefusedEnd, Wrong as WrongEnd, Lost as LostEnd}
use Rattle.sms_handset_draft.specs.MemoryAvailable.{notice_concluded, notice_ended, notice_failed, put_notice, remove_notice}
use Rattle.sms_handset_draft.specs.Outbox.{entry_concluded, holder_concluded, transfer_ended}
use Rattle.sms_handset.specs.SoundCore.{IsSentFor, IsUnderWay}
use Rattle.sms_world_model.specs.World.{World, Up, Frame, Carried, Allocation, EntryState, Queued as To_queued, Sent_up, Failed as To_failed, Unsure as To_unsure, IsUnfinished}
use Rattle.sms_world_model.specs.WorldStep.{Lapse, Acknowledged, Refused, replaced}
use Rattle.sms_world.specs.handset_runs_are_steps.RefinesOutbox.{RefinesNotices}
use Rattle.sms_world.specs.headline.SeenWorld.{entry_seen, state_of}
use Rattle.sms_world.specs.handset_runs_are_steps.Refinement.{Refines}
use Rattle.sms_world.specs.handset_runs_are_steps.Stages.{AllMine, Moves, ReadsOne}
use Rattle.sms_world.proofs.handset_runs_are_steps.Moving.{stays}
use Rattle.sms_world.proofs.handset_runs_are_steps.OutboxRows.{out_changed}

-- it is the step that reads the frame, or nothing reads it
abbrev pub Ends : ℕ → Frame → List ℕ → World → Draft → World → Type 0
Ends m u h b new w = ReadsOne m u h b new w ⊎ Moves (AllMine h) m h b new w

-- the row moves to another state
pub turned : (h : List ℕ) (b : World) (d : Draft) (w : World) (o x : OutRow) (st : EntryState) → row_at out_key o.number d.rows.outbox ≡ Some o
    → x.number ≡ o.number → x.reference ≡ o.reference → entry_seen h x ≡ record (entry_seen h o) { state = st }
    → Refines h b d w → Refines h b (put_out x d) (record w { outbox = replaced (entry_seen h o) st w.outbox })
turned h b d w o x st at number reference seen s = record {
  frames = s.frames;
  whole = s.whole;
  links = s.links;
  last = s.last;
  accepted = s.accepted;
  joined = s.joined;
  out = out_changed h d.rows.counters.entry d.rows.outbox w.outbox w.up o x at number reference st seen s.out;
  notices = s.notices;
  groups = s.groups;
}

-- whether the centre took it is not known
pub lost_law : (m : ℕ) (h : List ℕ) (b : World) (d : Draft) (w : World) (o : OutRow) → row_at out_key o.number d.rows.outbox ≡ Some o → o.state ≡ Sending → Refines h b d w
    → Moves (AllMine h) m h b (put_out (lost o) d) w
lost_law m h b d w o at going s =
    cond_both (o.is_long || nat_le most_tries o.tries) (record o { state = Unsure }) (record o { state = Queued; rejects_duplicates = true; due = None })
    (λ (z : OutRow). Moves (AllMine h) m h b (put_out z d) w)
    (λ t. (
      Lapse (entry_seen h o) To_unsure ∷ [],
      ((tt, refl, tt), ((s.out.there o.number o at, ap state_of going, inr refl), tt), turned h b d w o (record o { state = Unsure }) To_unsure at refl refl refl s),
    ))
    (λ t. (
      Lapse (entry_seen h o) To_queued ∷ [],
      (
        (tt, refl, tt),
        ((s.out.there o.number o at, ap state_of going, inl refl), tt),
        turned h b d w o (record o { state = Queued; rejects_duplicates = true; due = None }) To_queued at refl refl refl s,
      ),
    ))

unfinished_sending : (p : State_of) → p ≡ Sending → IsUnfinished (state_of p)
unfinished_sending p q = subst (λ (z : State_of). IsUnfinished (state_of z)) (sym q) tt

-- an answer on the handset's own line
abbrev pub ack_of : List ℕ → ℕ → ℕ → List ℕ → Holder → Frame
ack_of h number r octets tag = record { number = number; handset = h; line = Up; kind = Ack; reference = r; tpdu = octets; tag = tag }

abbrev pub error_of : List ℕ → ℕ → ℕ → List ℕ → Holder → Frame
error_of h number r octets tag = record { number = number; handset = h; line = Up; kind = Error; reference = r; tpdu = octets; tag = tag }

module _ (m : ℕ) (h : List ℕ) (number r : ℕ) (tag : Holder) (octets : List ℕ) (b : World) (d : Draft) (w : World) (s : Refines h b d w) (o : OutRow) (at : row_at out_key o.number d.rows.outbox ≡ Some o) (going : o.state ≡ Sending) (reference : ℕ) (same : o.reference ≡ reference) where
  ack_settles : Among (Carried (ack_of h number r octets tag)) w.bag → (tpdu : Option (List ℕ)) → Ends m (ack_of h number r octets tag) h b (put_out (settled d.moment (verdict_of (ended_by reference (Ok (AckUnit r tpdu)))) o) d) w
  ack_settles sent tpdu =
      cond_both (r == reference) AcknowledgedEnd WrongEnd (λ (v : Ending). Ends m (ack_of h number r octets tag) h b (put_out (settled d.moment (verdict_of v) o) d) w)
      (λ e.
      let y = s.out.given o.number o at in
      inl (
        Acknowledged (ack_of h number r octets tag) (record { handset = h; reference = o.reference; holder = EntryHolder o.number; moment = y.0; tpdu = [] }) (entry_seen h o),
        [],
        (
          refl,
          refl,
          tt,
          (((sent, refl, refl), ((y.1, s.out.there o.number o at, refl, refl, unfinished_sending o.state going), refl, same ∙ sym (eqb-true r reference e))), tt),
          turned h b d w o (record o { state = Is_sent }) Sent_up at refl refl refl s,
        ),
      ))
      (λ e. inr (lost_law m h b d w o at going s))

  refused_law : (x : OutRow) (st : EntryState) → Among (Carried (error_of h number r octets tag)) w.bag → r ≡ o.reference → ((st ≡ To_queued) ⊎ (st ≡ To_failed) ⊎ (st ≡ To_unsure))
      → x.number ≡ o.number → x.reference ≡ o.reference → entry_seen h x ≡ record (entry_seen h o) { state = st } → Ends m (error_of h number r octets tag) h b (put_out x d) w
  refused_law x st sent e one n1 n2 seen =
      let y = s.out.given o.number o at in
      inl (
        Refused (error_of h number r octets tag) (record { handset = h; reference = o.reference; holder = EntryHolder o.number; moment = y.0; tpdu = [] }) (entry_seen h o) st,
        [],
        (
          refl,
          refl,
          tt,
          (((sent, refl, refl), ((y.1, s.out.there o.number o at, refl, refl, unfinished_sending o.state going), refl, sym e), one), tt),
          turned h b d w o x st at n1 n2 seen s,
        ),
      )

  verdict_law : (v : TransferEnd) → ¬ (v ≡ Is_acknowledged) → Among (Carried (error_of h number r octets tag)) w.bag → r ≡ o.reference → Ends m (error_of h number r octets tag) h b (put_out (settled d.moment v o) d) w
  verdict_law Is_acknowledged no_ack sent e = absurd (no_ack refl)
  verdict_law Temporary no_ack sent e =
      cond_both (nat_le most_tries o.tries) (record o { state = Failed }) (record o { state = Queued; due = Some (later d.moment retry_delay) }) (λ (z : OutRow). Ends m (error_of h number r octets tag) h b (put_out z d) w)
      (λ t. refused_law (record o { state = Failed }) To_failed sent e (inr (inl refl)) refl refl refl)
      (λ t. refused_law (record o { state = Queued; due = Some (later d.moment retry_delay) }) To_queued sent e (inl refl) refl refl refl)
  verdict_law Duplicate no_ack sent e = refused_law (record o { state = Unsure }) To_unsure sent e (inr (inr refl)) refl refl refl
  verdict_law Is_refused no_ack sent e = refused_law (record o { state = Failed }) To_failed sent e (inr (inl refl)) refl refl refl
  verdict_law Lost no_ack sent e = inr (lost_law m h b d w o at going s)

  not_acked : (cause : RpCause) (tpdu : Option (List ℕ)) → ¬ (error_verdict cause tpdu ≡ Is_acknowledged)
  not_acked cause tpdu =
      cond_both (is_temporary cause) Temporary (cond (is_duplicate tpdu) Duplicate Is_refused) (λ (v : TransferEnd). ¬ (v ≡ Is_acknowledged))
      (λ t q. absurd cc)
      (λ t. cond_both (is_duplicate tpdu) Duplicate Is_refused (λ (v : TransferEnd). ¬ (v ≡ Is_acknowledged)) (λ f q. absurd cc) (λ f q. absurd cc))

  error_settles : Among (Carried (error_of h number r octets tag)) w.bag → (cause : RpCause) (tpdu : Option (List ℕ))
      → Ends m (error_of h number r octets tag) h b (put_out (settled d.moment (verdict_of (ended_by reference (Ok (ErrorUnit r cause tpdu)))) o) d) w
  error_settles sent cause tpdu =
      cond_both (r == reference) (RefusedEnd cause tpdu) WrongEnd (λ (v : Ending). Ends m (error_of h number r octets tag) h b (put_out (settled d.moment (verdict_of v) o) d) w)
      (λ e. verdict_law (error_verdict cause tpdu) (not_acked cause tpdu) sent (eqb-true r reference e ∙ sym same))
      (λ e. inr (lost_law m h b d w o at going s))

-- ---- an RP-SMMA

notices_seen : (h : List ℕ) (b : World) (d : Draft) (w : World) (ns : List Notice) → RefinesNotices h d.rows.counters.notice ns w.up → Refines h b d w → Refines h b (record d { notices = ns }) w
notices_seen h b d w ns k s = record { frames = s.frames; whole = s.whole; links = s.links; last = s.last; accepted = s.accepted; joined = s.joined; out = s.out; notices = k; groups = s.groups }

pub no_notices : (h : List ℕ) (next : ℕ) (ns : List Notice) (up : List Allocation) → RefinesNotices h next ns up → RefinesNotices h next [] up
no_notices h next ns up s = record { given = λ n i. absurd i; used = s.used }

-- one is put that was given its reference
pub notice_put : (h : List ℕ) (next : ℕ) (n : Notice) (moment : ℕ) (ns : List Notice) (up : List Allocation)
    → Among (record { handset = h; reference = n.reference; holder = Memory n.number; moment = moment; tpdu = [] }) up → RefinesNotices h next ns up → RefinesNotices h next (put notice_key n ns) up
notice_put h next n moment ns up g s = record {
  given = λ y i. ⊎_elim
      (λ (e : y ≡ n). (moment, subst (λ (v : Notice). Among (record { handset = h; reference = v.reference; holder = Memory v.number; moment = moment; tpdu = [] }) up) (sym e) g))
      (λ (z : Among y ns × ¬ (y.number ≡ n.number)). s.given y z.0)
      (among_put notice_key y n ns i);
  used = s.used;
}

notice_gone : (h : List ℕ) (next k : ℕ) (ns : List Notice) (up : List Allocation) → RefinesNotices h next ns up → RefinesNotices h next (without notice_key k ns) up
notice_gone h next k ns up s = record { given = λ y i. s.given y (among_without notice_key y k ns i).0; used = s.used }

module _ (h : List ℕ) (b : World) (d : Draft) (w : World) (n : Notice) (i : Among n d.notices) (s : Refines h b d w) where
  ended_unseen : Refines h b (remove_notice n.number d) w
  ended_unseen = notices_seen h b d w (without notice_key n.number d.notices) (notice_gone h d.rows.counters.notice n.number d.notices w.up s.notices) s

  failed_unseen : Refines h b (notice_failed n d) w
  failed_unseen =
      let later_on : Notice = record n { is_second = true; due = Some (later d.moment tram) } in
      let g = s.notices.given n i in
      cond_both n.is_second (remove_notice n.number d) (put_notice later_on d) (λ (z : Draft). Refines h b z w)
      (λ t. ended_unseen)
      (λ t. notices_seen h b d w (put notice_key later_on d.notices) (notice_put h d.rows.counters.notice later_on g.0 d.notices w.up g.1 s.notices) s)

  ending_unseen : (ending : Ending) → Refines h b (notice_ended ending n d) w
  ending_unseen AcknowledgedEnd = ended_unseen
  ending_unseen (RefusedEnd cause tpdu) = failed_unseen
  ending_unseen WrongEnd = failed_unseen
  ending_unseen LostEnd = failed_unseen

notice_unseen : (h : List ℕ) (b : World) (d : Draft) (w : World) (ending : Ending) (k : ℕ) (n : Option Notice) → row_at notice_key k d.notices ≡ n → Refines h b d w
    → Refines h b (notice_concluded ending n d) w
notice_unseen h b d w ending k None e s = s
notice_unseen h b d w ending k (Some n) e s = ending_unseen h b d w n (found_among notice_key k n d.notices e) s ending

-- ---- what the transfer was for

-- what holds of each way that the entry's row may go holds of the end of the transfer
module _ (P : Draft → Type 0) (h : List ℕ) (b : World) (d : Draft) (w : World) (s : Refines h b d w) (ending : Ending) (stay : (e : Draft) → Refines h b e w → P e) (reference : ℕ)
    (row : (o : OutRow) → row_at out_key o.number d.rows.outbox ≡ Some o → o.state ≡ Sending → o.reference ≡ reference → P (put_out (settled d.moment (verdict_of ending) o) d)) where
  pub holder_law : (tag : Holder) → IsSentFor reference tag d.rows.outbox → P (holder_concluded ending tag d)
  holder_law (PartHolder id n) x = stay d s
  holder_law (Report id) x = stay d s
  holder_law (EntryHolder n) x =
      let key : x.0.number ≡ n = found_key out_key n x.0 d.rows.outbox x.1.0 in
      subst (λ (z : Option OutRow). P (entry_concluded ending z d)) (sym x.1.0)
      (row x.0 (ap (λ (z : ℕ). row_at out_key z d.rows.outbox) key ∙ x.1.0) x.1.1.0 x.1.1.1)
  holder_law (Memory n) x = stay (notice_concluded ending (row_at notice_key n d.notices) d) (notice_unseen h b d w ending n (row_at notice_key n d.notices) refl s)

-- ---- the laws

-- an acknowledgement ends the transfer that was under way, if there was one
pub ack_law : (m : ℕ) (h : List ℕ) (number r : ℕ) (tag : Holder) (octets : List ℕ) (tpdu : Option (List ℕ)) (b : World) (d : Draft) (w : World) → Among (Carried (ack_of h number r octets tag)) w.bag
    → (c : Carries) → IsUnderWay (Some c) d.rows.outbox → Refines h b d w → Ends m (ack_of h number r octets tag) h b (transfer_ended c (ended_by c.reference (Ok (AckUnit r tpdu))) d) w
ack_law m h number r tag octets tpdu b d w sent c is s =
    holder_law (λ (z : Draft). Ends m (ack_of h number r octets tag) h b z w) h b d w s (ended_by c.reference (Ok (AckUnit r tpdu))) (λ e k. inr (stays m h b e w k)) c.reference
    (λ o at going same. ack_settles m h number r tag octets b d w s o at going c.reference same sent tpdu) c.tag is

pub error_law : (m : ℕ) (h : List ℕ) (number r : ℕ) (tag : Holder) (octets : List ℕ) (cause : RpCause) (tpdu : Option (List ℕ)) (b : World) (d : Draft) (w : World) → Among (Carried (error_of h number r octets tag)) w.bag
    → (c : Carries) → IsUnderWay (Some c) d.rows.outbox → Refines h b d w → Ends m (error_of h number r octets tag) h b (transfer_ended c (ended_by c.reference (Ok (ErrorUnit r cause tpdu))) d) w
error_law m h number r tag octets cause tpdu b d w sent c is s =
    holder_law (λ (z : Draft). Ends m (error_of h number r octets tag) h b z w) h b d w s (ended_by c.reference (Ok (ErrorUnit r cause tpdu))) (λ e k. inr (stays m h b e w k)) c.reference
    (λ o at going same. error_settles m h number r tag octets b d w s o at going c.reference same sent cause tpdu) c.tag is

-- the transfer failed: its entry lapses
pub failed_law : (m : ℕ) (h : List ℕ) (b : World) (d : Draft) (w : World) (c : Carries) → IsUnderWay (Some c) d.rows.outbox → Refines h b d w → Moves (AllMine h) m h b (transfer_ended c LostEnd d) w
failed_law m h b d w c is s =
    holder_law (λ (z : Draft). Moves (AllMine h) m h b z w) h b d w s LostEnd (λ f k. stays m h b f w k) c.reference (λ o at going same. lost_law m h b d w o at going s) c.tag is
