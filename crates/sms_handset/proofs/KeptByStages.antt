-- What each move of a handset's draft keeps, each stage of an event keeps, and so each event. A move may assume what its stage makes it with.
use Rattle.std.proofs.Common.{◌≡◌, ℕ, List, [], ◌∷◌, ◌++◌, length, Bool, true, false, cond, refl, inl, inr, Option, Some, None, Result, Ok, Err}
use Rattle.std.specs.Prelude.{◌||◌, ◌==◌, nat_le, nat_lt}
use Rattle.std.proofs.lemmas.Bool.{cond_both}
use Rattle.sms_base.specs.Address.{address_of}
use Rattle.sms_base.specs.Among.{Among}
use Rattle.sms_base.specs.declared.address.Address.{Address}
use Rattle.sms_base.specs.declared.address_error.AddressError.{AddressError}
use Rattle.sms_base.specs.declared.holder.Holder.{Holder}
use Rattle.sms_base.specs.declared.holder.Holder.TheVariants.{Part as PartHolder, Report, Entry as EntryHolder, Memory}
use Rattle.sms_rows.specs.table.Table.{row_at}
use Rattle.sms_rows.proofs.table.Tables.{found_among}
use Rattle.sms_alphabet.specs.declared.concat_key.ConcatKey.{ConcatKey}
use Rattle.sms_concat.specs.Splitting.{split_of}
use Rattle.sms_concat.specs.TextContent.{content_of_text}
use Rattle.sms_concat.specs.declared.content.Content.{Content}
use Rattle.sms_concat.specs.declared.content.Part.{Part as PartOf}
use Rattle.sms_concat.specs.declared.split_error.SplitError.{SplitError}
use Rattle.sms_control.specs.LinkStep.{is_busy}
use Rattle.sms_control.specs.Timers.{later}
use Rattle.sms_relay.specs.Rejecting.{fault_cause, reference_octet}
use Rattle.sms_relay.specs.RelayReading.{down_at as unit_at}
use Rattle.sms_relay.specs.declared.cause.RpCause.TheVariants.{InvalidMandatoryInformation, MemoryCapacityExceeded}
use Rattle.sms_relay.specs.declared.fault.RelayFault.{RelayFault}
use Rattle.sms_relay.specs.declared.frame.Rp.{Rp}
use Rattle.sms_relay.specs.declared.frame.Rp.TheVariants.{AckUnit, DataUnit, ErrorUnit, Smma}
use Rattle.sms_link.specs.LinkTurn.{Turn}
use Rattle.sms_link.specs.Timers.{tram}
use Rattle.sms_link.specs.declared.ending.Ending.{Ending}
use Rattle.sms_link.specs.declared.ending.Ending.TheVariants.{Acknowledged as AcknowledgedEnd, Lost as LostEnd, Refused as RefusedEnd, Wrong as WrongEnd}
use Rattle.sms_link.specs.declared.ending.Upward.{Upward}
use Rattle.sms_link.specs.declared.ending.Upward.TheVariants.{Ended, Opened}
use Rattle.sms_tpdu.specs.TpduReading.{down_at}
use Rattle.sms_tpdu.specs.declared.carrier.Carrier.TheVariants.{InData}
use Rattle.sms_tpdu.specs.declared.deliver.Deliver.{Deliver as DeliverOf}
use Rattle.sms_tpdu.specs.declared.down.Down.{Down}
use Rattle.sms_tpdu.specs.declared.down.Down.TheVariants.{Deliver, StatusReport, SubmitReport}
use Rattle.sms_tpdu.specs.declared.fault.TpduFault.{TpduFault}
use Rattle.sms_tpdu.specs.declared.status_report.StatusReport.{StatusReport as StatusReportOf}
use Rattle.sms_handset_rows.specs.inbox.Doubles.{is_double}
use Rattle.sms_handset_rows.specs.inbox.Groups.{all_numbers, alone, first_number, group_of, is_among, is_open_part, joined_content, joined_entry, key_of, mark_of, members, part_entry, part_numbers, single_entry}
use Rattle.sms_handset_rows.specs.inbox.Keys.{entry_key, last_key}
use Rattle.sms_handset_rows.specs.declared.inbox.discarded_group.DiscardedGroup.{DiscardedGroup}
use Rattle.sms_handset_rows.specs.declared.inbox.entry.Entry.{Entry}
use Rattle.sms_handset_rows.specs.declared.inbox.entry.Group.{Group}
use Rattle.sms_handset_rows.specs.declared.inbox.entry.Message.{Message}
use Rattle.sms_handset_rows.specs.declared.inbox.entry.Message.TheVariants.{Joined, Part, Single}
use Rattle.sms_handset_rows.specs.declared.inbox.last_accepted.LastAccepted.{LastAccepted}
use Rattle.sms_handset_rows.specs.outbox.Answers.{verdict_of}
use Rattle.sms_handset_rows.specs.outbox.Keys.{notice_key, out_key}
use Rattle.sms_handset_rows.specs.outbox.Offers.{first_due, first_fired}
use Rattle.sms_handset_rows.specs.outbox.References.{held_references, is_unfinished, next_free}
use Rattle.sms_handset_rows.specs.outbox.Reports.{reported}
use Rattle.sms_handset_rows.specs.outbox.Settling.{is_sending, lost, most_tries, put_back, retry_delay, settled}
use Rattle.sms_handset_rows.specs.declared.outbox.answers.TransferEnd.{TransferEnd}
use Rattle.sms_handset_rows.specs.declared.outbox.answers.TransferEnd.TheVariants.{Acknowledged, Duplicate, Lost, Refused, Temporary}
use Rattle.sms_handset_rows.specs.declared.outbox.notice.Notice.{Notice}
use Rattle.sms_handset_rows.specs.declared.outbox.out_entry.EntryState.TheVariants.{Failed, Queued, Unsure}
use Rattle.sms_handset_rows.specs.declared.outbox.out_entry.OutEntry.{OutEntry}
use Rattle.sms_handset_draft.specs.Draft.{Draft, put_counters, put_entry, put_last, put_mark, put_out, remove_entry, remove_mark, remove_out, with_turn}
use Rattle.sms_handset_draft.specs.FramesAndTicks.{frame_heard, timed_out, timers_fired, went_up}
use Rattle.sms_handset_draft.specs.MemoryAvailable.{first_notice, flag, freed, has_room, notice_concluded, notice_ended, notice_failed, put_notice, remove_notice, send_notice, want_notice}
use Rattle.sms_handset_draft.specs.Outbox.{entry_concluded, follow, holder_concluded, is_notice_next, lapse, lapse_rows, offer, offer_after, offer_entry, offer_message, offer_wanted}
use Rattle.sms_handset_draft.specs.Receiving.{accept, acknowledge, data_received, deliver_received, member_received, new_part_received, no_room, note, part_received, refuse, reject, single_received, tpdu_received, unit_received}
use Rattle.sms_handset_draft.specs.Storing.{completed, count_entry, drop_all, ended, free_all, marked, store_part, store_single}
use Rattle.sms_handset.specs.HandsetEvent.{acted}
use Rattle.sms_handset.specs.OwnersActs.{count_split, delete, delete_in, delete_out, discard, discard_at, discard_group, discard_in, discard_members, fits_outbox, write, write_part, write_parts, write_split, write_to, written}
use Rattle.sms_handset.specs.declared.refusal.Refusal.{Refusal}
use Rattle.sms_handset.specs.declared.refusal.Refusal.TheVariants.{NoEntry, OutboxFull, StillOpen, TooManyDiscarded}
use Rattle.sms_handset.proofs.DueRows.{IsDue, first_due_is, fired_among, reported_among}

-- ---- rows

-- the entry, but for how it stands
abbrev pub IsSameEntry : OutEntry → OutEntry → Type 0
IsSameEntry o x = (x.number ≡ o.number) × (x.reference ≡ o.reference) × (x.tpdu ≡ o.tpdu)

pub lost_same : (o : OutEntry) → IsSameEntry o (lost o)
lost_same o =
    cond_both (o.is_long || nat_le most_tries o.tries) (record o { state = Unsure }) (record o { state = Queued; rejects_duplicates = true; due = None }) (λ (z : OutEntry). IsSameEntry o z)
    (λ t. (refl, refl, refl)) (λ t. (refl, refl, refl))

put_back_same : (moment : ℕ) (o : OutEntry) → IsSameEntry o (put_back moment o)
put_back_same moment o =
    cond_both (nat_le most_tries o.tries) (record o { state = Failed }) (record o { state = Queued; due = Some (later moment retry_delay) }) (λ (z : OutEntry). IsSameEntry o z)
    (λ t. (refl, refl, refl)) (λ t. (refl, refl, refl))

pub settled_same : (moment : ℕ) (v : TransferEnd) (o : OutEntry) → IsSameEntry o (settled moment v o)
settled_same moment Acknowledged o = (refl, refl, refl)
settled_same moment Temporary o = put_back_same moment o
settled_same moment Duplicate o = (refl, refl, refl)
settled_same moment Refused o = (refl, refl, refl)
settled_same moment Lost o = lost_same o

-- ---- what a stage makes its moves with

-- nothing is known of a reference, of a unit, of a transfer that ended, of an entry
abbrev pub AnyReference : ℕ → Type 0
AnyReference reference = Unit {0}

abbrev pub AnyUnit : List ℕ → Result Rp RelayFault → Type 0
AnyUnit unit r = Unit {0}

abbrev pub AnyTransfer : ℕ → Holder → Draft → Type 0
AnyTransfer reference tag d = Unit {0}

abbrev pub AnyEntry : OutEntry → Type 0
AnyEntry o = Unit {0}

-- what is known of what the link passes up
abbrev pub IsKnownUp : (List ℕ → Result Rp RelayFault → Type 0) → (ℕ → Holder → Draft → Type 0) → Option Upward → Draft → Type 0
IsKnownUp U S None d = Unit {0}
IsKnownUp U S (Some (Opened unit)) d = U unit (unit_at unit)
IsKnownUp U S (Some (Ended transfer ending)) d = S transfer.reference transfer.tag d

pub any_up : (up : Option Upward) (d : Draft) → IsKnownUp AnyUnit AnyTransfer up d
any_up None d = tt
any_up (Some (Opened unit)) d = tt
any_up (Some (Ended transfer ending)) d = tt

abbrev pub IfDone : (Draft → Type 0) → Result Draft Refusal → Type 0
IfDone P (Ok d) = P d
IfDone P (Err refusal) = Unit {0}

-- The fact P is kept where a transfer ends. S is known of it: its reference, and what it was for.
pub record KeptByEnds (P : Draft → Type 0) (S : ℕ → Holder → Draft → Type 0) : Type 0 where
  pub entry_settled : (v : Ending) (reference n : ℕ) (o : OutEntry) (d : Draft) → S reference (EntryHolder n) d → row_at out_key n d.rows.outbox ≡ Some o → P d → P (put_out (settled d.moment (verdict_of v) o) d)
  pub notice_put : (n : Notice) (is_second : Bool) (due : Option ℕ) (d : Draft) → Among n d.notices → P d → P (put_notice (record n { is_second = is_second; due = due }) d)
  pub notice_removed : (n : ℕ) (d : Draft) → P d → P (remove_notice n d)

-- It is kept by each move. An answer goes under a reference that has A, to a unit of which U is known.
pub record KeptByMoves (P : Draft → Type 0) (A : ℕ → Type 0) (U : List ℕ → Result Rp RelayFault → Type 0) (S : ℕ → Holder → Draft → Type 0) : Type 0 where
  -- a transfer ends
  pub ends : KeptByEnds P S
  -- the inbox
  pub entry_put : (e : Entry) (d : Draft) → P d → P (put_entry e d)
  pub entry_removed : (n : ℕ) (d : Draft) → P d → P (remove_entry n d)
  pub last_put : (l : LastAccepted) (d : Draft) → A l.reference → P d → P (put_last l d)
  pub mark_put : (m : DiscardedGroup) (d : Draft) → P d → P (put_mark m d)
  pub mark_removed : (n : ℕ) (d : Draft) → P d → P (remove_mark n d)
  pub entry_counted : (d : Draft) → P d → P (count_entry d)
  pub memory_flagged : (is_full : Bool) (d : Draft) → P d → P (put_counters (record d.rows.counters { is_memory_full = is_full }) d)
  -- answers
  pub data_answered : (unit : List ℕ) (reference : ℕ) (centre tpdu : List ℕ) → U unit (Ok (DataUnit reference centre tpdu)) → A reference
  pub fault_answered : (unit : List ℕ) (fault : RelayFault) → U unit (Err fault) → A (reference_octet unit)
  pub acknowledged : (reference : ℕ) (tag : Holder) (d : Draft) → A reference → P d → P (acknowledge reference tag d)
  pub full : (reference : ℕ) (tag : Holder) (d : Draft) → A reference → P d → P (refuse reference tag MemoryCapacityExceeded 211 d)
  pub unreadable : (reference : ℕ) (tag : Holder) (d : Draft) → A reference → P d → P (refuse reference tag InvalidMandatoryInformation 255 d)
  pub rejected : (reference : ℕ) (tag : Holder) (fault : RelayFault) (d : Draft) → A reference → P d → P (reject reference tag (fault_cause fault) d)
  -- a STATUS-REPORT
  pub status_noted : (o : OutEntry) (status : ℕ) (d : Draft) → Among o d.rows.outbox → P d → P (put_out (record o { status = Some status }) d)
  -- RP-SMMA
  pub notice_wanted : (d : Draft) → P d → P (want_notice d)

-- ---- a transfer ends

module _ (P : Draft → Type 0) (S : ℕ → Holder → Draft → Type 0) (k : KeptByEnds P S) where
  notice_fails : (n : Notice) (d : Draft) → Among n d.notices → P d → P (notice_failed n d)
  notice_fails n d i h =
      cond_both n.is_second (remove_notice n.number d) (put_notice (record n { is_second = true; due = Some (later d.moment tram) }) d) (λ (z : Draft). P z)
      (λ t. k.notice_removed n.number d h) (λ t. k.notice_put n true (Some (later d.moment tram)) d i h)

  notice_ends : (v : Ending) (n : Notice) (d : Draft) → Among n d.notices → P d → P (notice_ended v n d)
  notice_ends AcknowledgedEnd n d i h = k.notice_removed n.number d h
  notice_ends (RefusedEnd cause tpdu) n d i h = notice_fails n d i h
  notice_ends WrongEnd n d i h = notice_fails n d i h
  notice_ends LostEnd n d i h = notice_fails n d i h

  notice_concludes : (v : Ending) (n : ℕ) (o : Option Notice) (d : Draft) → row_at notice_key n d.notices ≡ o → P d → P (notice_concluded v o d)
  notice_concludes v n None d e h = h
  notice_concludes v n (Some x) d e h = notice_ends v x d (found_among notice_key n x d.notices e) h

  entry_concludes : (v : Ending) (r n : ℕ) (o : Option OutEntry) (d : Draft) → S r (EntryHolder n) d → row_at out_key n d.rows.outbox ≡ o → P d → P (entry_concluded v o d)
  entry_concludes v r n None d s e h = h
  entry_concludes v r n (Some o) d s e h = k.entry_settled v r n o d s e h

  pub holder_keeps : (v : Ending) (r : ℕ) (x : Holder) (d : Draft) → S r x d → P d → P (holder_concluded v x d)
  holder_keeps v r (PartHolder id number) d s h = h
  holder_keeps v r (Report id) d s h = h
  holder_keeps v r (EntryHolder n) d s h = entry_concludes v r n (row_at out_key n d.rows.outbox) d s refl h
  holder_keeps v r (Memory n) d s h = notice_concludes v n (row_at notice_key n d.notices) d refl h

  times_out : (up : Option Upward) (d : Draft) → IsKnownUp AnyUnit S up d → P d → P (timed_out up d)
  times_out None d s h = h
  times_out (Some (Opened unit)) d s h = h
  times_out (Some (Ended transfer ending)) d s h = holder_keeps ending transfer.reference transfer.tag d s h

  pub timers_keep : (turn : Turn) (d : Draft) → IsKnownUp AnyUnit S turn.out.up (with_turn turn d) → P (with_turn turn d) → P (timers_fired turn d)
  timers_keep turn d s h = times_out turn.out.up (with_turn turn d) s h

-- ---- each move

module _ (P : Draft → Type 0) (A : ℕ → Type 0) (U : List ℕ → Result Rp RelayFault → Type 0) (S : ℕ → Holder → Draft → Type 0) (k : KeptByMoves P A U S) where
  -- ---- groups

  drops : (es : List Entry) (d : Draft) → P d → P (drop_all es d)
  drops [] d h = h
  drops (e ∷ es) d h = drops es (remove_entry e.number d) (k.entry_removed e.number d h)

  frees : (es : List Entry) (d : Draft) → P d → P (free_all es d)
  frees [] d h = h
  frees (e ∷ es) d h = frees es (put_entry (alone e) d) (k.entry_put (alone e) d h)

  ends_group : (g : Group) (es : List Entry) (c : Option Content) (d : Draft) → P d → P (ended g es c d)
  ends_group g es None d h = frees es d h
  ends_group g es (Some c) d h = k.entry_put (joined_entry g es c) (drop_all es d) (drops es d h)

  pub complete_keeps : (g : Group) (es : List Entry) (d : Draft) → P d → P (completed g es d)
  complete_keeps g es d h =
      cond_both (all_numbers g.total (part_numbers es)) (ended g es (joined_content g es) d) d (λ (z : Draft). P z) (λ t. ends_group g es (joined_content g es) d h) (λ t. h)

  stores_single : (tpdu : List ℕ) (d : Draft) → P d → P (store_single tpdu d)
  stores_single tpdu d h = k.entry_put (single_entry d.rows.counters.entry tpdu) (count_entry d) (k.entry_counted d h)

  stores_part : (g : Group) (n : ℕ) (tpdu : List ℕ) (es : List Entry) (d : Draft) → P d → P (store_part g n tpdu es d)
  stores_part g n tpdu es d h =
      let e : Entry = part_entry d.rows.counters.entry g n tpdu in
      complete_keeps g (es ++ e ∷ []) (put_entry e (count_entry d)) (k.entry_put e (count_entry d) (k.entry_counted d h))

  pub mark_keeps : (n : ℕ) (m : DiscardedGroup) (d : Draft) → P d → P (marked n m d)
  mark_keeps n m d h =
      cond_both (all_numbers m.group.total (m.seen ++ n ∷ [])) (remove_mark m.number d) (put_mark (record m { seen = m.seen ++ n ∷ [] }) d) (λ (z : Draft). P z)
      (λ t. k.mark_removed m.number d h) (λ t. k.mark_put (record m { seen = m.seen ++ n ∷ [] }) d h)

  -- ---- a message or a part arrives

  module _ (r : ℕ) (tag : Holder) (tpdu : List ℕ) (a : A r) where
    accepts : (d : Draft) → P d → P (accept r tag tpdu d)
    accepts d h = k.acknowledged r tag (put_last (record { reference = r; tpdu = tpdu }) d) a (k.last_put (record { reference = r; tpdu = tpdu }) d a h)

    refuses : (d : Draft) → P d → P (no_room r tag d)
    refuses d h = k.full r tag (flag d) a (k.memory_flagged true d h)

    single : (d : Draft) → P d → P (single_received r tag tpdu d)
    single d h =
        cond_both (has_room d) (accept r tag tpdu (store_single tpdu d)) (no_room r tag d) (λ (z : Draft). P z) (λ t. accepts (store_single tpdu d) (stores_single tpdu d h)) (λ t. refuses d h)

    new_part : (g : Group) (n : ℕ) (es : List Entry) (d : Draft) → P d → P (new_part_received r tag tpdu g n es d)
    new_part g n es d h =
        cond_both (has_room d) (accept r tag tpdu (store_part g n tpdu es d)) (no_room r tag d) (λ (z : Draft). P z)
        (λ t. accepts (store_part g n tpdu es d) (stores_part g n tpdu es d h)) (λ t. refuses d h)

    member : (g : Group) (n : ℕ) (es : List Entry) (d : Draft) → P d → P (member_received r tag tpdu g n es d)
    member g n es d h =
        cond_both (is_among n (part_numbers es)) (single_received r tag tpdu d) (new_part_received r tag tpdu g n es d) (λ (z : Draft). P z) (λ t. single d h) (λ t. new_part g n es d h)

    part : (g : Group) (n : ℕ) (m : Option DiscardedGroup) (d : Draft) → P d → P (part_received r tag tpdu g n m d)
    part g n None d h = member g n (members g d.rows.entries) d h
    part g n (Some m) d h =
        cond_both (is_among n m.seen) (single_received r tag tpdu d) (accept r tag tpdu (marked n m d)) (λ (z : Draft). P z) (λ t. single d h) (λ t. accepts (marked n m d) (mark_keeps n m d h))

    deliver : (m : DeliverOf) (c : Option ConcatKey) (d : Draft) → P d → P (deliver_received r tag tpdu m c d)
    deliver m None d h = single d h
    deliver m (Some c) d h = part (group_of m.originating_address c) c.number (mark_of (group_of m.originating_address c) d.rows.marks) d h

    notes : (s : StatusReportOf) (o : Option OutEntry) (d : Draft) → reported s d.rows.outbox ≡ o → P d → P (note s.status o d)
    notes s None d e h = h
    notes s (Some o) d e h = k.status_noted o s.status d (reported_among s d.rows.outbox o e) h

    tpdu_arrives : (t : Result Down TpduFault) (d : Draft) → P d → P (tpdu_received r tag tpdu t d)
    tpdu_arrives (Ok (Deliver m)) d h = deliver m (key_of m) d h
    tpdu_arrives (Ok (StatusReport s)) d h = accepts (note s.status (reported s d.rows.outbox) d) (notes s (reported s d.rows.outbox) d refl h)
    tpdu_arrives (Ok (SubmitReport s)) d h = k.unreadable r tag d a h
    tpdu_arrives (Err fault) d h = k.unreadable r tag d a h

    data_arrives : (d : Draft) → P d → P (data_received r tag tpdu d)
    data_arrives d h =
        cond_both (is_double tpdu (row_at last_key r d.rows.last)) (acknowledge r tag d) (tpdu_received r tag tpdu (down_at InData tpdu) d) (λ (z : Draft). P z)
        (λ t. k.acknowledged r tag d a h) (λ t. tpdu_arrives (down_at InData tpdu) d h)

  unit_arrives : (tag : Holder) (unit : List ℕ) (u : Result Rp RelayFault) (d : Draft) → U unit u → P d → P (unit_received tag unit u d)
  unit_arrives tag unit (Ok (DataUnit r centre tpdu)) d a h = data_arrives r tag tpdu (k.data_answered unit r centre tpdu a) d h
  unit_arrives tag unit (Ok (AckUnit r tpdu)) d a h = h
  unit_arrives tag unit (Ok (ErrorUnit r cause tpdu)) d a h = h
  unit_arrives tag unit (Ok (Smma r)) d a h = h
  unit_arrives tag unit (Err fault) d a h = k.rejected (reference_octet unit) tag fault d (k.fault_answered unit fault a) h

  -- ---- a frame

  goes_up : (tag : Holder) (up : Option Upward) (d : Draft) → IsKnownUp U S up d → P d → P (went_up tag up d)
  goes_up tag None d s h = h
  goes_up tag (Some (Opened unit)) d s h = unit_arrives tag unit (unit_at unit) d s h
  goes_up tag (Some (Ended transfer ending)) d s h = holder_keeps P S k.ends ending transfer.reference transfer.tag d s h

  pub frame_keeps : (tag : Holder) (turn : Turn) (d : Draft) → IsKnownUp U S turn.out.up (with_turn turn d) → P (with_turn turn d) → P (frame_heard tag turn d)
  frame_keeps tag turn d s h = goes_up tag turn.out.up (with_turn turn d) s h

  -- ---- what is deleted and discarded

  frees_slot : (d : Draft) → P d → P (freed d)
  frees_slot d h =
      cond_both d.rows.counters.is_memory_full (want_notice (put_counters (record d.rows.counters { is_memory_full = false }) d)) d (λ (z : Draft). P z)
      (λ t. k.notice_wanted (put_counters (record d.rows.counters { is_memory_full = false }) d) (k.memory_flagged false d h)) (λ t. h)

  deletes_out : (n : ℕ) (o : Option OutEntry) (d : Draft) → P (remove_out n d) → IfDone P (delete_out n o d)
  deletes_out n None d gone = tt
  deletes_out n (Some o) d gone = cond_both (is_unfinished o.state) (Err StillOpen) (Ok (remove_out n d)) (λ (z : Result Draft Refusal). IfDone P z) (λ t. tt) (λ t. gone)

  deletes_in : (n : ℕ) (e : Option Entry) (d : Draft) → P (remove_out n d) → P d → IfDone P (delete_in n e d)
  deletes_in n None d gone h = deletes_out n (row_at out_key n d.rows.outbox) d gone
  deletes_in n (Some e) d gone h =
      cond_both (is_open_part e.message) (Err StillOpen) (Ok (freed (remove_entry n d))) (λ (z : Result Draft Refusal). IfDone P z)
      (λ t. tt) (λ t. frees_slot (remove_entry n d) (k.entry_removed n d h))

  pub delete_keeps : (n : ℕ) (d : Draft) → P (remove_out n d) → P d → IfDone P (delete n d)
  delete_keeps n d gone h = deletes_in n (row_at entry_key n d.rows.entries) d gone h

  discards_members : (n : ℕ) (g : Group) (es : List Entry) (d : Draft) → P d → IfDone P (discard_members n g es d)
  discards_members n g es d h =
      let m : DiscardedGroup = record { number = n; group = g; seen = part_numbers es } in
      cond_both (first_number es == n) (cond (nat_lt (length d.rows.marks) 64) (Ok (discard_group n g es d)) (Err TooManyDiscarded)) (Err NoEntry) (λ (z : Result Draft Refusal). IfDone P z)
      (λ t. cond_both (nat_lt (length d.rows.marks) 64) (Ok (discard_group n g es d)) (Err TooManyDiscarded) (λ (z : Result Draft Refusal). IfDone P z)
      (λ u. frees_slot (put_mark m (drop_all es d)) (k.mark_put m (drop_all es d) (drops es d h))) (λ u. tt))
      (λ t. tt)

  discards_in : (n : ℕ) (m : Message) (d : Draft) → P d → IfDone P (discard_in n m d)
  discards_in n (Single tpdu) d h = tt
  discards_in n (Part g number tpdu) d h = discards_members n g (members g d.rows.entries) d h
  discards_in n (Joined source content) d h = tt

  discards_at : (n : ℕ) (e : Option Entry) (d : Draft) → P d → IfDone P (discard_at n e d)
  discards_at n None d h = tt
  discards_at n (Some e) d h = discards_in n e.message d h

  pub discard_keeps : (n : ℕ) (d : Draft) → P d → IfDone P (discard n d)
  discard_keeps n d h = discards_at n (row_at entry_key n d.rows.entries) d h

-- ---- after a restart

-- what is known of entries one by one
module _ (P : Draft → Type 0) (E : OutEntry → Type 0) (again : (o : OutEntry) → E o → E (lost o)) (puts : (o : OutEntry) (d : Draft) → E o → P d → P (put_out o d)) where
  pub lapses_each : (os : List OutEntry) (d : Draft) → ((o : OutEntry) → Among o os → E o) → P d → P (lapse_rows os d)
  lapses_each [] d each h = h
  lapses_each (o ∷ os) d each h =
      lapses_each os (cond (is_sending o.state) (put_out (lost o) d) d) (λ x i. each x (inr i))
      (cond_both (is_sending o.state) (put_out (lost o) d) d (λ (z : Draft). P z) (λ t. puts (lost o) d (again o (each o (inl refl))) h) (λ t. h))

pub lapse_keeps : (P : Draft → Type 0) → ((d : Draft) → P d → P (lapse_rows d.rows.outbox (record d { is_recovered = false }))) → (d : Draft) → P d → P (lapse d)
lapse_keeps P lapsed d h = cond_both d.is_recovered (lapse_rows d.rows.outbox (record d { is_recovered = false })) d (λ (z : Draft). P z) (λ t. lapsed d h) (λ t. h)

-- ---- what follows every event

-- What begins a transaction leads from the one fact to the other, and so does nothing.
pub record KeptByOffers (P Q : Draft → Type 0) : Type 0 where
  pub nothing : (d : Draft) → P d → Q d
  pub entry : (o : OutEntry) (d : Draft) → IsDue d.rows.outbox o → is_busy d.links ≡ false → P d → Q (offer_entry (Some o) d)
  pub notice_again : (n : Notice) (d : Draft) → Among n d.notices → is_busy d.links ≡ false → P d → Q (send_notice n d)
  pub notice_first : (d : Draft) → is_notice_next d ≡ true → is_busy d.links ≡ false → P d → Q (first_notice d.rows.counters.notice (next_free d.rows.counters.reference (held_references d.notices d.rows.outbox)) d)

module _ (P Q : Draft → Type 0) (k : KeptByOffers P Q) where
  offers_entry : (o : Option OutEntry) (d : Draft) → first_due d.moment d.rows.outbox ≡ o → is_busy d.links ≡ false → P d → Q (offer_entry o d)
  offers_entry None d e idle h = k.nothing d h
  offers_entry (Some o) d e idle h = k.entry o d (first_due_is d.moment d.rows.outbox o e) idle h

  offers_wanted : (d : Draft) → is_busy d.links ≡ false → P d → Q (offer_wanted d)
  offers_wanted d idle h =
      let r : ℕ = next_free d.rows.counters.reference (held_references d.notices d.rows.outbox) in
      cond_both (is_notice_next d) (first_notice d.rows.counters.notice r d) (offer_message d) (λ (z : Draft). Q z)
      (λ t. k.notice_first d t idle h) (λ t. offers_entry (first_due d.moment d.rows.outbox) d refl idle h)

  offers_after : (n : Option Notice) (d : Draft) → first_fired d.moment d.notices ≡ n → is_busy d.links ≡ false → P d → Q (offer_after n d)
  offers_after None d e idle h = offers_wanted d idle h
  offers_after (Some n) d e idle h = k.notice_again n d (fired_among d.moment d.notices n e) idle h

  pub offer_keeps : (d : Draft) → P d → Q (offer d)
  offer_keeps d h =
      cond_both (is_busy d.links) d (offer_after (first_fired d.moment d.notices) d) (λ (z : Draft). Q z)
      (λ t. k.nothing d h) (λ idle. offers_after (first_fired d.moment d.notices) d refl idle h)

pub acted_keeps : (P Q : Draft → Type 0) → ((d : Draft) → P d → Q (follow d)) → (r : Result Draft Refusal) → IfDone P r → IfDone Q (acted r)
acted_keeps P Q follows (Ok d) h = follows d h
acted_keeps P Q follows (Err refusal) h = tt

-- ---- a text is written

-- W is known of its parts, where the outbox has room for them
abbrev pub IsKnownFirst : (Address → Bool → Bool → List PartOf → Draft → Type 0) → Address → Bool → List PartOf → Draft → Type 0
IsKnownFirst W to report ps d = fits_outbox (length ps) d ≡ true → W to report (nat_lt 1 (length ps)) ps (count_split (nat_lt 1 (length ps)) d)

-- W is known of the parts that are still to be written, and P when all are.
pub record KeptByWriting (P : Draft → Type 0) (W : Address → Bool → Bool → List PartOf → Draft → Type 0) : Type 0 where
  pub one : (to : Address) (report is_long : Bool) (p : PartOf) (ps : List PartOf) (d : Draft) → W to report is_long (p ∷ ps) d → W to report is_long ps (write_part to report is_long p d)
  pub all : (to : Address) (report is_long : Bool) (d : Draft) → W to report is_long [] d → P d

module _ (P : Draft → Type 0) (W : Address → Bool → Bool → List PartOf → Draft → Type 0) (k : KeptByWriting P W) where
  writes_parts : (to : Address) (report is_long : Bool) (ps : List PartOf) (d : Draft) → W to report is_long ps d → P (write_parts to report is_long ps d)
  writes_parts to report is_long [] d w = k.all to report is_long d w
  writes_parts to report is_long (p ∷ ps) d w = writes_parts to report is_long ps (write_part to report is_long p d) (k.one to report is_long p ps d w)

  writes_to : (report : Bool) (ps : List PartOf) (to : Result Address AddressError) (d : Draft) → ((a : Address) → to ≡ Ok a → IsKnownFirst W a report ps d) → IfDone P (write_to report ps to d)
  writes_to report ps (Err fault) d begins = tt
  writes_to report ps (Ok a) d begins =
      cond_both (fits_outbox (length ps) d) (Ok (written a report ps d)) (Err OutboxFull) (λ (z : Result Draft Refusal). IfDone P z)
      (λ t. writes_parts a report (nat_lt 1 (length ps)) ps (count_split (nat_lt 1 (length ps)) d) (begins a refl t)) (λ t. tt)

  writes_split : (to : List ℕ) (report : Bool) (ps : Result (List PartOf) SplitError) (d : Draft)
      → ((parts : List PartOf) (a : Address) → ps ≡ Ok parts → address_of 1 1 to ≡ Ok a → IsKnownFirst W a report parts d) → IfDone P (write_split to report ps d)
  writes_split to report (Err fault) d begins = tt
  writes_split to report (Ok ps) d begins = writes_to report ps (address_of 1 1 to) d (λ a e. begins ps a refl e)

  pub write_keeps : (text to : List ℕ) (report : Bool) (d : Draft)
      → ((ps : List PartOf) (a : Address) → split_of (content_of_text text) d.rows.counters.concat_reference ≡ Ok ps → address_of 1 1 to ≡ Ok a → IsKnownFirst W a report ps d) → IfDone P (write text to report d)
  write_keeps text to report d begins = writes_split to report (split_of (content_of_text text) d.rows.counters.concat_reference) d begins
