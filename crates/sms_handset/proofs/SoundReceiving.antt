-- What comes from the centre leaves a sound handset sound.
use Rattle.std.proofs.Common.{◌≡◌, List, [], ◌∷◌, refl, Option, Some, None, ap, ◌+◌, ℕ, ◌≤◌, arith, true, ◌<◌, false, ◌++◌, length, inl, Ok, inr, Result, Err}
use Rattle.std.proofs.lemmas.Bool.{cond_both}
use Rattle.sms_base.specs.declared.holder.Holder.{Holder}
use Rattle.sms_base.specs.declared.carried.Kind.{Kind}
use Rattle.sms_base.specs.declared.carried.Kind.TheVariants.{Ack, Error}
use Rattle.sms_base.specs.Among.{Among}
use Rattle.sms_base.specs.declared.carried.Carried.{Carried}
use Rattle.sms_base.specs.declared.holder.Holder.TheVariants.{Part as PartHolder, Report, Entry as EntryHolder, Memory}
use Rattle.sms_rows.specs.table.Table.{put, row_at}
use Rattle.sms_rows.proofs.table.Tables.{length_put}
use Rattle.sms_concat.specs.declared.content.Content.{Content}
use Rattle.sms_alphabet.specs.declared.concat_key.ConcatKey.{ConcatKey}
use Rattle.sms_control.specs.LinkStep.{awaits_reply, reply_step}
use Rattle.sms_relay.specs.RelayGrammar.{ack_up, error_up}
use Rattle.sms_relay.specs.declared.cause.RpCause.{RpCause}
use Rattle.sms_relay.specs.declared.cause.RpCause.TheVariants.{MemoryCapacityExceeded, InvalidMandatoryInformation}
use Rattle.sms_relay.specs.declared.fault.RelayFault.{RelayFault}
use Rattle.sms_relay.specs.declared.frame.Rp.{Rp}
use Rattle.sms_relay.specs.declared.frame.Rp.TheVariants.{DataUnit, AckUnit, ErrorUnit, Smma}
use Rattle.sms_link.specs.LinkTurn.{Turn, answering, of_kind, still}
use Rattle.sms_tpdu.specs.declared.carrier.Carrier.TheVariants.{InData}
use Rattle.sms_tpdu.specs.declared.deliver.Deliver.{Deliver as DeliverOf}
use Rattle.sms_tpdu.specs.declared.down.Down.TheVariants.{Deliver, StatusReport, SubmitReport}
use Rattle.sms_tpdu.specs.TpduReading.{down_at}
use Rattle.sms_tpdu.specs.declared.down.Down.{Down}
use Rattle.sms_tpdu.specs.declared.fault.TpduFault.{TpduFault}
use Rattle.sms_handset_rows.specs.declared.inbox.entry.Entry.{Entry}
use Rattle.sms_handset_rows.proofs.inbox.GroupMembers.{all_without}
use Rattle.sms_handset_rows.specs.inbox.Groups.{alone, joined_entry, single_entry, is_among, mark_of, members, part_numbers, all_numbers, joined_content, part_entry, group_of, key_of}
use Rattle.sms_handset_rows.proofs.inbox.SoundGroups.{all_freed, ended_entries, arrives, closed_free, part_closes, part_opens}
use Rattle.sms_handset_rows.specs.declared.inbox.entry.Group.{Group}
use Rattle.sms_handset_rows.specs.inbox.Keys.{entry_key, last_key}
use Rattle.sms_handset_rows.specs.inbox.SoundInbox.{IsDelivered, IsPartOf, IsLast}
use Rattle.sms_handset_rows.proofs.inbox.SoundEntries.{put_free, single_put, inbox_marks}
use Rattle.sms_handset_rows.proofs.inbox.SoundRoom.{closed_few}
use Rattle.sms_handset_rows.specs.declared.inbox.discarded_group.DiscardedGroup.{DiscardedGroup}
use Rattle.sms_handset_rows.proofs.inbox.SoundMarks.{gone_none, mark_found, mark_gone, mark_more, more_none, seen_too}
use Rattle.sms_handset_rows.specs.inbox.Doubles.{is_double}
use Rattle.sms_handset_rows.specs.declared.outbox.out_entry.OutEntry.{OutEntry}
use Rattle.sms_handset_rows.specs.outbox.Reports.{reported}
use Rattle.sms_handset_rows.specs.outbox.Keys.{out_key}
use Rattle.sms_handset_rows.proofs.outbox.SoundOutbox.{replaced}
use Rattle.sms_handset_draft.specs.Draft.{Draft, remove_entry, put_entry, put_mark, remove_mark, link_of, reply, with_turn, put_last}
use Rattle.sms_handset.proofs.SoundDrafts.{Sound, SoundAt, sound_as, entries_move, marks_move, counters_move, last_moves, outbox_moves}
use Rattle.sms_handset_draft.specs.Storing.{drop_all, free_all, ended, store_single, keep, store_part, marked}
use Rattle.sms_handset_draft.specs.declared.rows.Rows.{Rows}
use Rattle.sms_handset_draft.specs.declared.counters.Counters.{Counters}
use Rattle.sms_handset_draft.specs.MemoryAvailable.{has_room, flag}
use Rattle.sms_handset.proofs.RoomLeft.{room_left}
use Rattle.sms_handset_draft.specs.Receiving.{acknowledge, refuse, no_room, accept, single_received, new_part_received, member_received, part_received, deliver_received, note, tpdu_received, data_received, unit_received}
use Rattle.sms_relay.specs.Rejecting.{fault_cause, reference_octet}
use Rattle.sms_handset.proofs.Accepting.{IsCounted, header_counts}
use Rattle.sms_handset.specs.SoundCore.{IsSendingEntry, IsSentFor, IsUnderWay}
use Rattle.sms_handset.proofs.SoundSending.{sending_same}
use Rattle.sms_handset.proofs.DueRows.{reported_among}

-- ---- drafts that differ in their entries alone

pub record OnlyEntries (d z : Draft) (es : List Entry) : Type 0 where
  pub rows : z.rows ≡ record d.rows { entries = es }
  pub under_way : z.under_way ≡ d.under_way
  pub recovered : z.is_recovered ≡ d.is_recovered
  pub notices : z.notices ≡ d.notices

pub sound_only : (d z : Draft) (es : List Entry) → OnlyEntries d z es → Sound (record d.rows { entries = es }) d.under_way d.is_recovered d.notices → SoundAt z
sound_only d z es o s = sound_as d z (record d.rows { entries = es }) o.rows o.under_way o.recovered o.notices s

pub dropped_only : (xs : List Entry) (d : Draft) → OnlyEntries d (drop_all xs d) (all_without xs d.rows.entries)
dropped_only [] d = record { rows = refl; under_way = refl; recovered = refl; notices = refl }
dropped_only (x ∷ xs) d =
    let o = dropped_only xs (remove_entry x.number d) in
    record { rows = o.rows; under_way = o.under_way; recovered = o.recovered; notices = o.notices }

freed_only : (xs : List Entry) (d : Draft) → OnlyEntries d (free_all xs d) (all_freed xs d.rows.entries)
freed_only [] d = record { rows = refl; under_way = refl; recovered = refl; notices = refl }
freed_only (x ∷ xs) d =
    let o = freed_only xs (put_entry (alone x) d) in
    record { rows = o.rows; under_way = o.under_way; recovered = o.recovered; notices = o.notices }

ended_only : (g : Group) (xs : List Entry) (c : Option Content) (d : Draft) → OnlyEntries d (ended g xs c d) (ended_entries g xs c d.rows.entries)
ended_only g xs None d = freed_only xs d
ended_only g xs (Some content) d =
    let e = joined_entry g xs content in
    let o = dropped_only xs d in
    record { rows = ap (λ (r : Rows). record r { entries = put entry_key e r.entries }) o.rows; under_way = o.under_way; recovered = o.recovered; notices = o.notices }

-- ---- storing

counted : Draft → Counters
counted d = record d.rows.counters { entry = d.rows.counters.entry + 1 }

pub single_sound : (tpdu : List ℕ) (d : Draft) → has_room d ≡ true → IsDelivered tpdu → SoundAt d → SoundAt (store_single tpdu d)
unfolding counted
single_sound tpdu d t i s =
    let k = d.rows.counters.entry in
    let x : Entry = single_entry k tpdu in
    entries_move d.rows d.under_way d.is_recovered d.notices (counted d) (put entry_key x d.rows.entries) (let l : k ≤ k + 1 = omega arith in l)
    (let p = length_put entry_key x d.rows.entries in let r = room_left d t s in omega arith)
    (single_put k x d.rows.entries d.rows.marks refl s.counted (λ g. refl) (refl, i) s.inbox) (put_free k x d.rows.entries refl) s

-- a part of a group that is not discarded, whose number it lacks
pub record Fresh (g : Group) (n : ℕ) (tpdu : List ℕ) (d : Draft) : Type 0 where
  pub part : IsPartOf g n tpdu
  pub low : 0 < n
  pub high : n ≤ g.total
  pub new : is_among n (part_numbers (members g d.rows.entries)) ≡ false
  pub not_discarded : mark_of g d.rows.marks ≡ None

pub part_sound : (g : Group) (n : ℕ) (tpdu : List ℕ) (d : Draft) → has_room d ≡ true → Fresh g n tpdu d → SoundAt d → SoundAt (store_part g n tpdu (members g d.rows.entries) d)
unfolding counted
part_sound g n tpdu d room f s =
    let k = d.rows.counters.entry in
    let e : Entry = part_entry k g n tpdu in
    let es = d.rows.entries in
    let fs = put entry_key e es in
    let all = members g es ++ e ∷ [] in
    let z : Draft = keep e d in
    let c = joined_content g all in
    let a = arrives k g n tpdu es d.rows.marks s.counted f.part s.inbox in
    let free = put_free k e es refl in
    let more : k ≤ k + 1 = omega arith in
    let total : 0 < g.total = (let l = f.low in let h = f.high in omega arith) in
    let few : length fs ≤ 255 = (let p = length_put entry_key e es in let r = room_left d room s in omega arith) in
    cond_both (all_numbers g.total (part_numbers all)) (ended g all c z) z (λ (y : Draft). SoundAt y)
    (λ t.
    sound_only z (ended g all c z) (ended_entries g all c fs) (ended_only g all c z)
    (entries_move d.rows d.under_way d.is_recovered d.notices (counted d) (ended_entries g all c fs) more
    (let p = closed_few (k + 1) g e c es fs a in omega arith)
    (part_closes k g e c es fs d.rows.marks s.inbox a total) (closed_free k g e c es fs a free) s))
    (λ t.
    entries_move d.rows d.under_way d.is_recovered d.notices (counted d) fs more few
    (part_opens k g e es fs d.rows.marks s.inbox a f.new f.not_discarded t) free s)

-- a number of a discarded group
pub marked_sound : (n : ℕ) (m : DiscardedGroup) (g : Group) (d : Draft) → mark_of g d.rows.marks ≡ Some m → is_among n m.seen ≡ false → SoundAt d → SoundAt (marked n m d)
marked_sound n m g d q new s =
    let ms = d.rows.marks in
    let k = d.rows.counters.entry in
    let es = d.rows.entries in
    let a = (mark_found g ms m q).0 in
    cond_both (all_numbers m.group.total (m.seen ++ n ∷ [])) (remove_mark m.number d) (put_mark (seen_too n m) d) (λ (y : Draft). SoundAt y)
    (λ t.
    marks_move d.rows d.under_way d.is_recovered d.notices _ (inbox_marks k es ms _ (λ h e. gone_none m.number ms h e) s.inbox) (mark_gone k m.number es ms s.marks) s)
    (λ t.
    marks_move d.rows d.under_way d.is_recovered d.notices _ (inbox_marks k es ms _ (λ h e. more_none n m ms a h e) s.inbox) (mark_more k n m es ms a new t s.marks) s)

-- ---- answers

pub reply_sound : (kind : Kind) (r : ℕ) (tag : Holder) (unit : List ℕ) (d : Draft) → SoundAt d → SoundAt (reply kind r tag unit d)
reply_sound kind r tag unit d s =
    let l = link_of d in
    cond_both (awaits_reply d.links) (answering (of_kind kind r tag) (reply_step d.moment unit d.links) l) (still l) (λ (t : Turn). SoundAt (with_turn t d)) (λ e. s) (λ e. s)

pub acknowledge_sound : (r : ℕ) (tag : Holder) (d : Draft) → SoundAt d → SoundAt (acknowledge r tag d)
acknowledge_sound r tag d s = reply_sound Ack r tag (ack_up r (Some (0 ∷ 0 ∷ []))) d s

pub refuse_sound : (r : ℕ) (tag : Holder) (cause : RpCause) (failure : ℕ) (d : Draft) → SoundAt d → SoundAt (refuse r tag cause failure d)
refuse_sound r tag cause failure d s = reply_sound Error r tag (error_up r cause (Some (0 ∷ failure ∷ 0 ∷ []))) d s

pub no_room_sound : (r : ℕ) (tag : Holder) (d : Draft) → SoundAt d → SoundAt (no_room r tag d)
no_room_sound r tag d s =
    refuse_sound r tag MemoryCapacityExceeded 211 (flag d)
    (counters_move d.rows d.under_way d.is_recovered d.notices (record d.rows.counters { is_memory_full = true }) (let l : d.rows.counters.entry ≤ d.rows.counters.entry = omega arith in l) s)

pub accept_sound : (r : ℕ) (tag : Holder) (tpdu : List ℕ) (d : Draft) → IsLast (record { reference = r; tpdu = tpdu }) → SoundAt d → SoundAt (accept r tag tpdu d)
accept_sound r tag tpdu d i s =
    acknowledge_sound r tag (put_last (record { reference = r; tpdu = tpdu }) d) (last_moves d.rows d.under_way d.is_recovered d.notices (record { reference = r; tpdu = tpdu }) i s)

-- ---- DELIVER

pub single_received_sound : (r : ℕ) (tag : Holder) (tpdu : List ℕ) (d : Draft) → IsDelivered tpdu → SoundAt d → SoundAt (single_received r tag tpdu d)
single_received_sound r tag tpdu d i s =
    cond_both (has_room d) (accept r tag tpdu (store_single tpdu d)) (no_room r tag d) (λ (y : Draft). SoundAt y)
    (λ t. accept_sound r tag tpdu (store_single tpdu d) (inl i) (single_sound tpdu d t i s)) (λ t. no_room_sound r tag d s)

pub new_part_sound : (r : ℕ) (tag : Holder) (tpdu : List ℕ) (g : Group) (n : ℕ) (d : Draft) → IsDelivered tpdu → Fresh g n tpdu d → SoundAt d → SoundAt (new_part_received r tag tpdu g n (members g d.rows.entries) d)
new_part_sound r tag tpdu g n d i f s =
    let es = members g d.rows.entries in
    cond_both (has_room d) (accept r tag tpdu (store_part g n tpdu es d)) (no_room r tag d) (λ (y : Draft). SoundAt y)
    (λ t. accept_sound r tag tpdu (store_part g n tpdu es d) (inl i) (part_sound g n tpdu d t f s)) (λ t. no_room_sound r tag d s)

pub member_sound : (r : ℕ) (tag : Holder) (tpdu : List ℕ) (g : Group) (n : ℕ) (d : Draft) → IsDelivered tpdu → IsPartOf g n tpdu → 0 < n → n ≤ g.total → mark_of g d.rows.marks ≡ None
    → SoundAt d → SoundAt (member_received r tag tpdu g n (members g d.rows.entries) d)
member_sound r tag tpdu g n d i p low high kept s =
    let es = members g d.rows.entries in
    cond_both (is_among n (part_numbers es)) (single_received r tag tpdu d) (new_part_received r tag tpdu g n es d) (λ (y : Draft). SoundAt y)
    (λ t. single_received_sound r tag tpdu d i s)
    (λ t. new_part_sound r tag tpdu g n d i (record { part = p; low = low; high = high; new = t; not_discarded = kept }) s)

pub part_received_sound : (r : ℕ) (tag : Holder) (tpdu : List ℕ) (g : Group) (n : ℕ) (o : Option DiscardedGroup) (d : Draft) → IsDelivered tpdu → IsPartOf g n tpdu → 0 < n → n ≤ g.total → mark_of g d.rows.marks ≡ o
    → SoundAt d → SoundAt (part_received r tag tpdu g n o d)
part_received_sound r tag tpdu g n None d i p low high q s = member_sound r tag tpdu g n d i p low high q s
part_received_sound r tag tpdu g n (Some m) d i p low high q s =
    cond_both (is_among n m.seen) (single_received r tag tpdu d) (accept r tag tpdu (marked n m d)) (λ (y : Draft). SoundAt y)
    (λ t. single_received_sound r tag tpdu d i s)
    (λ t. accept_sound r tag tpdu (marked n m d) (inl i) (marked_sound n m g d q t s))

pub deliver_sound : (r : ℕ) (tag : Holder) (tpdu : List ℕ) (m : DeliverOf) (o : Option ConcatKey) (d : Draft) → down_at InData tpdu ≡ Ok (Deliver m) → key_of m ≡ o → IsCounted o
    → SoundAt d → SoundAt (deliver_received r tag tpdu m o d)
deliver_sound r tag tpdu m None d e q c s = single_received_sound r tag tpdu d (m, e) s
deliver_sound r tag tpdu m (Some key) d e q c s =
    let g : Group = group_of m.originating_address key in
    part_received_sound r tag tpdu g key.number (mark_of g d.rows.marks) d (m, e) (m, key, (e, q, refl, refl)) c.0 c.1 refl s

-- ---- STATUS-REPORT

pub same_under_way : (w : Option Carried) (os fs : List OutEntry) → ((r n : ℕ) → IsSendingEntry r n os → IsSendingEntry r n fs) → IsUnderWay w os → IsUnderWay w fs
same_under_way None os fs f u = tt
same_under_way (Some c) os fs f u = same_holder c.reference c.tag os fs f u
  where
    same_holder : (r : ℕ) (h : Holder) (os fs : List OutEntry) → ((r n : ℕ) → IsSendingEntry r n os → IsSendingEntry r n fs) → IsSentFor r h os → IsSentFor r h fs
    same_holder r (PartHolder i n) os fs f u = tt
    same_holder r (Report i) os fs f u = tt
    same_holder r (EntryHolder n) os fs f u = f r n u
    same_holder r (Memory n) os fs f u = tt

pub note_sound : (status : ℕ) (o : Option OutEntry) (d : Draft) → ((x : OutEntry) → o ≡ Some x → Among x d.rows.outbox) → SoundAt d → SoundAt (note status o d)
note_sound status None d a s = s
note_sound status (Some o) d a s =
    let os = d.rows.outbox in
    let w : OutEntry = record o { status = Some status } in
    let i = a o refl in
    outbox_moves d.rows d.under_way d.under_way d.is_recovered d.is_recovered d.notices (put out_key w os)
    (replaced d.rows.counters.entry d.rows.entries os o w i (record { number = refl; message_reference = refl; reference = refl; unfinished = λ u. u }) (s.outbox.each o i) s.outbox)
    s.recovered (same_under_way d.under_way os (put out_key w os) (λ r n h. sending_same r n o w os s.outbox.order i refl refl refl h) s.under_way) s

-- ---- RP-DATA

pub tpdu_sound : (r : ℕ) (tag : Holder) (tpdu : List ℕ) (t : Result Down TpduFault) (d : Draft) → down_at InData tpdu ≡ t → SoundAt d → SoundAt (tpdu_received r tag tpdu t d)
tpdu_sound r tag tpdu (Ok (Deliver m)) d q s = deliver_sound r tag tpdu m (key_of m) d q refl (header_counts m.user_data_header_indicator m.user_data.octets) s
tpdu_sound r tag tpdu (Ok (StatusReport p)) d q s =
    accept_sound r tag tpdu (note p.status (reported p d.rows.outbox) d) (inr (p, q)) (note_sound p.status (reported p d.rows.outbox) d (λ x e. reported_among p d.rows.outbox x e) s)
tpdu_sound r tag tpdu (Ok (SubmitReport p)) d q s = refuse_sound r tag InvalidMandatoryInformation 255 d s
tpdu_sound r tag tpdu (Err f) d q s = refuse_sound r tag InvalidMandatoryInformation 255 d s

pub data_sound : (r : ℕ) (tag : Holder) (tpdu : List ℕ) (d : Draft) → SoundAt d → SoundAt (data_received r tag tpdu d)
data_sound r tag tpdu d s =
    cond_both (is_double tpdu (row_at last_key r d.rows.last)) (acknowledge r tag d) (tpdu_received r tag tpdu (down_at InData tpdu) d) (λ (y : Draft). SoundAt y)
    (λ t. acknowledge_sound r tag d s) (λ t. tpdu_sound r tag tpdu (down_at InData tpdu) d refl s)

pub unit_sound : (tag : Holder) (unit : List ℕ) (u : Result Rp RelayFault) (d : Draft) → SoundAt d → SoundAt (unit_received tag unit u d)
unit_sound tag unit (Ok (DataUnit r c tpdu)) d s = data_sound r tag tpdu d s
unit_sound tag unit (Ok (AckUnit r tpdu)) d s = s
unit_sound tag unit (Ok (ErrorUnit r c tpdu)) d s = s
unit_sound tag unit (Ok (Smma r)) d s = s
unit_sound tag unit (Err f) d s = reply_sound Error (reference_octet unit) tag (error_up (reference_octet unit) (fault_cause f) None) d s
