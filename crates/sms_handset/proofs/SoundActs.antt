-- What the owner does leaves a sound handset sound.
use Rattle.std.proofs.Common.{Result, Ok, Err, ℕ, ◌≤◌, List, length, sym, subst, ◌≡◌, ◌+◌, arith, [], ◌∷◌, false, ◌<◌, ◌%◌, Bool, refl, true, cond, Option, Some, None, ap, ◌∙◌}
use Rattle.std.specs.Prelude.{◌==◌, nat_le, nat_lt}
use Rattle.std.proofs.lemmas.Bool.{or_parts, cond_both, leb-true, ltb-true}
use Rattle.std.specs.List.{AllByRecursion}
use Rattle.sms_base.specs.Among.{Among}
use Rattle.sms_base.specs.Address.{IsAddress}
use Rattle.sms_base.specs.declared.address.Address.{Address}
use Rattle.sms_base.proofs.Addresses.{address_found}
use Rattle.sms_rows.specs.table.Table.{put, row_at, without}
use Rattle.sms_rows.proofs.table.Tables.{found_among, found_key, length_put, length_without}
use Rattle.sms_concat.specs.declared.content.Part.{Part as PartOf}
use Rattle.sms_handset_rows.specs.inbox.Groups.{is_among, is_open_part, members, part_numbers, first_number, is_part_of}
use Rattle.sms_handset_rows.specs.inbox.SoundInbox.{IsGiven}
use Rattle.sms_handset_rows.proofs.inbox.SoundEntries.{is_apart, new_apart, removed, without_free}
use Rattle.sms_handset_rows.specs.declared.inbox.entry.Entry.{Entry}
use Rattle.sms_handset_rows.specs.inbox.Keys.{entry_key, mark_key}
use Rattle.sms_handset_rows.specs.declared.inbox.entry.Group.{Group}
use Rattle.sms_handset_rows.specs.declared.inbox.discarded_group.DiscardedGroup.{DiscardedGroup}
use Rattle.sms_handset_rows.proofs.inbox.GroupMembers.{all_without, among_members, one_group}
use Rattle.sms_handset_rows.proofs.inbox.SoundGroups.{group_leaves, left_free, number_free}
use Rattle.sms_handset_rows.proofs.inbox.SoundMarks.{IsMark, mark_new, new_none}
use Rattle.sms_handset_rows.proofs.inbox.SoundRoom.{length_left, tested}
use Rattle.sms_handset_rows.specs.declared.inbox.entry.Message.{Message}
use Rattle.sms_handset_rows.specs.declared.inbox.entry.Message.TheVariants.{Single, Part, Joined}
use Rattle.sms_handset_rows.specs.declared.outbox.out_entry.OutEntry.{OutEntry}
use Rattle.sms_handset_rows.specs.outbox.References.{held_message_references, held_by_entries, held_references, next_free, is_unfinished}
use Rattle.sms_handset_rows.proofs.outbox.SoundOutbox.{held_few, held_messages, held_entries, IsSoundOut, added, deleted_out}
use Rattle.sms_handset_rows.specs.declared.outbox.notice.Notice.{Notice}
use Rattle.sms_handset_rows.specs.outbox.Keys.{out_key}
use Rattle.sms_handset_rows.specs.outbox.Submits.{written_entry}
use Rattle.sms_handset_rows.proofs.outbox.SoundReferences.{next_is_free}
use Rattle.sms_handset_rows.proofs.outbox.SoundWriting.{IsWritable, written_is_submitted, split_is_writable}
use Rattle.sms_handset.specs.declared.refusal.Refusal.{Refusal}
use Rattle.sms_handset_draft.specs.Draft.{Draft, put_counters, remove_out, remove_entry, put_mark}
use Rattle.sms_handset.proofs.SoundDrafts.{SoundAt, counters_move, outbox_moves, entries_move, group_moves, sound_as}
use Rattle.sms_handset.specs.SoundCore.{IsSendingEntry}
use Rattle.sms_handset.proofs.SoundSending.{sending_put, sending_stays}
use Rattle.sms_handset_draft.specs.declared.counters.Counters.{Counters}
use Rattle.sms_handset.specs.OwnersActs.{write_part, count_split, write, delete_out, delete_in, delete, discard_group, discard_members, discard_in, discard_at, discard}
use Rattle.sms_handset.proofs.SoundReceiving.{same_under_way, dropped_only}
use Rattle.sms_handset.specs.declared.refusal.Refusal.TheVariants.{StillOpen, NoEntry, TooManyDiscarded}
use Rattle.sms_handset_draft.specs.MemoryAvailable.{freed, want_notice}
use Rattle.sms_handset_draft.specs.declared.rows.Rows.{Rows}
use Rattle.sms_handset_draft.specs.Storing.{drop_all}
use Rattle.sms_handset.proofs.KeptByStages.{IfDone, KeptByWriting, write_keeps}

abbrev pub SoundIfDone : Result Draft Refusal → Type 0
SoundIfDone r = IfDone SoundAt r

-- ---- writing

few_messages : (os : List OutEntry) → length (held_message_references os) ≤ length os
few_messages os = subst (λ (l : List ℕ). length l ≤ length os) (sym (held_messages os)) (held_few (λ (o : OutEntry). o.message_reference) os)

few_entries : (os : List OutEntry) → length (held_by_entries os) ≤ length os
few_entries os = subst (λ (l : List ℕ). length l ≤ length os) (sym (held_entries os)) (held_few (λ (o : OutEntry). o.reference) os)

notices_hold : (ns : List Notice) (os : List OutEntry) → length (held_references ns os) ≡ length ns + length (held_by_entries os)
notices_hold [] os = omega arith
notices_hold (n ∷ ns) os = omega (arith, notices_hold ns os)

pub few_references : (ns : List Notice) (os : List OutEntry) → length (held_references ns os) ≤ length os + length ns
few_references ns os = omega (arith, few_entries os, notices_hold ns os)

pub not_by_entries : (ns : List Notice) (os : List OutEntry) (r : ℕ) → is_among r (held_references ns os) ≡ false → is_among r (held_by_entries os) ≡ false
not_by_entries [] os r e = e
not_by_entries (n ∷ ns) os r e = not_by_entries ns os r (or_parts (n.reference == r) (is_among r (held_references ns os)) e).1

-- a new number is no entry's that is under way
sending_below : (k r n : ℕ) (w : OutEntry) (os : List OutEntry) → w.number ≡ k → ((o : OutEntry) → Among o os → o.number < k) → IsSendingEntry r n os → IsSendingEntry r n (put out_key w os)
sending_below k r n w os e b h =
    let l = b h.0 (found_among out_key n h.0 os h.1.0) in
    let q : h.0.number ≡ n = found_key out_key n h.0 os h.1.0 in
    sending_put r n w os (λ f. absurd (omega arith)) h

pub write_part_sound : (to : Address) (report is_long : Bool) (p : PartOf) (d : Draft) → IsAddress to → IsWritable p → length d.rows.outbox < 20 → SoundAt d → SoundAt (write_part to report is_long p d)
write_part_sound to report is_long p d a i room s =
    let k = d.rows.counters.entry in
    let es = d.rows.entries in
    let os = d.rows.outbox in
    let m = next_free d.rows.counters.message_reference (held_message_references os) in
    let r = next_free d.rows.counters.reference (held_references d.notices os) in
    let c : Counters = record d.rows.counters { entry = k + 1; message_reference = (m + 1) % 256; reference = (r + 1) % 256 } in
    let w : OutEntry = written_entry k m r to report is_long p in
    let more : k ≤ k + 1 = omega arith in
    let s1 = counters_move d.rows d.under_way d.is_recovered d.notices c more s in
    let few1 = few_messages os in
    let few2 = few_references d.notices os in
    let few3 = s.few_notices in
    let free : is_among m (held_message_references os) ≡ false = next_is_free d.rows.counters.message_reference (held_message_references os) (omega arith) in
    let free_too : is_among r (held_by_entries os) ≡ false = not_by_entries d.notices os r (next_is_free d.rows.counters.reference (held_references d.notices os) (omega arith)) in
    let given : IsGiven (k + 1) k = (s.counted, omega arith) in
    let out : IsSoundOut (k + 1) es w =
    (given, is_apart k es (new_apart k es d.rows.marks s.inbox), written_is_submitted k m r to report is_long p a i.0 i.1, (let l : 0 < 3 = omega arith in l)) in
    outbox_moves (record d.rows { counters = c }) d.under_way d.under_way d.is_recovered d.is_recovered d.notices (put out_key w os)
    (added (k + 1) es os w out free free_too room s1.outbox) s.recovered
    (same_under_way d.under_way os (put out_key w os) (λ r n h. sending_below k r n w os refl (λ o b. (s.outbox.each o b).0.1) h) s.under_way) s1

pub count_split_sound : (is_long : Bool) (d : Draft) → SoundAt d → SoundAt (count_split is_long d)
count_split_sound false d s = s
count_split_sound true d s =
    counters_move d.rows d.under_way d.is_recovered d.notices (record d.rows.counters { concat_reference = (d.rows.counters.concat_reference + 1) % 65536 })
    (let l : d.rows.counters.entry ≤ d.rows.counters.entry = omega arith in l) s

pub count_split_outbox : (is_long : Bool) (d : Draft) → (count_split is_long d).rows.outbox ≡ d.rows.outbox
count_split_outbox false d = refl
count_split_outbox true d = refl

-- the parts that are still to be written
record CanWrite (to : Address) (report is_long : Bool) (ps : List PartOf) (d : Draft) : Type 0 where
  address : IsAddress to
  each : AllByRecursion (λ (p : PartOf). IsWritable p) ps
  room : length d.rows.outbox + length ps ≤ 20
  sound : SoundAt d

one_written : (to : Address) (report is_long : Bool) (p : PartOf) (ps : List PartOf) (d : Draft) → CanWrite to report is_long (p ∷ ps) d → CanWrite to report is_long ps (write_part to report is_long p d)
one_written to report is_long p ps d w =
    let e : Draft = write_part to report is_long p d in
    let m = next_free d.rows.counters.message_reference (held_message_references d.rows.outbox) in
    let r = next_free d.rows.counters.reference (held_references d.notices d.rows.outbox) in
    let l : length e.rows.outbox ≤ length d.rows.outbox + 1 = length_put out_key (written_entry d.rows.counters.entry m r to report is_long p) d.rows.outbox in
    let room : length d.rows.outbox + length (p ∷ ps) ≤ 20 = w.room in
    let few : length d.rows.outbox < 20 = omega arith in
    let fits : length e.rows.outbox + length ps ≤ 20 = omega arith in
    record { address = w.address; each = w.each.1; room = fits; sound = write_part_sound to report is_long p d w.address w.each.0 few w.sound }

writes_kept : KeptByWriting SoundAt CanWrite
writes_kept = record { one = one_written; all = λ to report is_long d w. w.sound }

pub write_sound : (text to : List ℕ) (report : Bool) (d : Draft) → SoundAt d → SoundIfDone (write text to report d)
write_sound text to report d s =
    write_keeps SoundAt CanWrite writes_kept text to report d (λ ps a split_is to_is t.
    let is_long = nat_lt 1 (length ps) in
    let fits = leb-true (length d.rows.outbox + length ps) 20 (tested (nat_le (length d.rows.outbox + length ps) 20) (nat_le (d.rows.counters.entry + length ps) 4294967295) t) in
    record {
      address = (address_found 1 1 to a to_is).valid;
      each = split_is_writable text d.rows.counters.concat_reference ps split_is;
      room = subst (λ (os : List OutEntry). length os + length ps ≤ 20) (sym (count_split_outbox is_long d)) fits;
      sound = count_split_sound is_long d s;
    })

-- ---- deleting

pub freed_sound : (d : Draft) → SoundAt d → SoundAt (freed d)
freed_sound d s =
    cond_both d.rows.counters.is_memory_full (want_notice (put_counters (record d.rows.counters { is_memory_full = false }) d)) d (λ (z : Draft). SoundAt z)
    (λ t. counters_move d.rows d.under_way d.is_recovered d.notices (record d.rows.counters { is_memory_full = false }) (let l : d.rows.counters.entry ≤ d.rows.counters.entry = omega arith in l) s)
    (λ t. s)

pub delete_out_sound : (n : ℕ) (o : Option OutEntry) (d : Draft) → row_at out_key n d.rows.outbox ≡ o → SoundAt d → SoundIfDone (delete_out n o d)
delete_out_sound n None d q s = tt
delete_out_sound n (Some o) d q s =
    let os = d.rows.outbox in
    cond_both (is_unfinished o.state) (Err StillOpen) (Ok (remove_out n d)) (λ (z : Result Draft Refusal). SoundIfDone z) (λ t. tt)
    (λ t.
    outbox_moves d.rows d.under_way d.under_way d.is_recovered d.is_recovered d.notices (without out_key n os) (deleted_out d.rows.counters.entry n d.rows.entries os s.outbox) s.recovered
    (same_under_way d.under_way os (without out_key n os) (λ r m h. sending_stays r m n o os q t h) s.under_way) s)

pub delete_in_sound : (n : ℕ) (x : Option Entry) (d : Draft) → row_at entry_key n d.rows.entries ≡ x → SoundAt d → SoundIfDone (delete_in n x d)
delete_in_sound n None d q s = delete_out_sound n (row_at out_key n d.rows.outbox) d refl s
delete_in_sound n (Some x) d q s =
    let k = d.rows.counters.entry in
    let es = d.rows.entries in
    cond_both (is_open_part x.message) (Err StillOpen) (Ok (freed (remove_entry n d))) (λ (z : Result Draft Refusal). SoundIfDone z) (λ t. tt)
    (λ t. freed_sound (remove_entry n d)
    (entries_move d.rows d.under_way d.is_recovered d.notices d.rows.counters (without entry_key n es) (let l : k ≤ k = omega arith in l)
    (let p = length_without entry_key n es in let f = s.few_stored in omega arith) (removed k n x es d.rows.marks q t s.inbox) (without_free k n es) s))

pub delete_sound : (n : ℕ) (d : Draft) → SoundAt d → SoundIfDone (delete n d)
delete_sound n d s = delete_in_sound n (row_at entry_key n d.rows.entries) d refl s

-- ---- discarding

pub discard_group_sound : (n : ℕ) (g : Group) (x : Entry) (d : Draft) → Among x (members g d.rows.entries) → Among x d.rows.entries → x.number ≡ n → length d.rows.marks < 64
    → SoundAt d → SoundAt (discard_group n g (members g d.rows.entries) d)
discard_group_sound n g x d a b e few s =
    let k = d.rows.counters.entry in
    let es = d.rows.entries in
    let ms = d.rows.marks in
    let xs = members g es in
    let fs = all_without xs es in
    let w : DiscardedGroup = record { number = n; group = g; seen = part_numbers xs } in
    let o = dropped_only xs d in
    let open_group = s.inbox.groups g x a in
    let given : IsGiven k n = subst (λ (m : ℕ). IsGiven k m) e (s.inbox.each x b).0 in
    let kept : IsMark k fs w = (given, subst (λ (m : ℕ). row_at entry_key m fs ≡ None) e (is_apart x.number fs (number_free x xs es a)), open_group.once, open_group.open_yet) in
    freed_sound (put_mark w (drop_all xs d))
    (sound_as d (put_mark w (drop_all xs d)) (record d.rows { entries = fs; marks = put mark_key w ms })
    (ap (λ (r : Rows). record r { marks = put mark_key w r.marks }) o.rows) o.under_way o.recovered o.notices
    (group_moves d.rows d.under_way d.is_recovered d.notices fs (put mark_key w ms) (let p = length_left xs es in let f = s.few_stored in omega arith) (group_leaves k g es ms (put mark_key w ms) (λ h ne f. new_none w ms h ne f) s.inbox) (left_free k xs es)
    (λ z. mark_new k w fs ms kept open_group.not_discarded few z) s))

pub discard_members_sound : (n : ℕ) (g : Group) (x : Entry) (d : Draft) → Among x (members g d.rows.entries) → Among x d.rows.entries → x.number ≡ n
    → SoundAt d → SoundIfDone (discard_members n g (members g d.rows.entries) d)
discard_members_sound n g x d a b e s =
    let xs = members g d.rows.entries in
    cond_both (first_number xs == n) (cond (nat_lt (length d.rows.marks) 64) (Ok (discard_group n g xs d)) (Err TooManyDiscarded)) (Err NoEntry) (λ (z : Result Draft Refusal). SoundIfDone z)
    (λ t. cond_both (nat_lt (length d.rows.marks) 64) (Ok (discard_group n g xs d)) (Err TooManyDiscarded) (λ (z : Result Draft Refusal). SoundIfDone z)
    (λ u. discard_group_sound n g x d a b e (ltb-true (length d.rows.marks) 64 u) s) (λ u. tt))
    (λ t. tt)

pub discard_in_sound : (n : ℕ) (x : Entry) (m : Message) (d : Draft) → x.message ≡ m → row_at entry_key n d.rows.entries ≡ Some x → SoundAt d → SoundIfDone (discard_in n m d)
discard_in_sound n x (Single tpdu) d q r s = tt
discard_in_sound n x (Part g k tpdu) d q r s =
    let b = found_among entry_key n x d.rows.entries r in
    discard_members_sound n g x d (among_members g x d.rows.entries b (ap (λ (m : Message). is_part_of g m) q ∙ one_group g)) b (found_key entry_key n x d.rows.entries r) s
discard_in_sound n x (Joined source content) d q r s = tt

pub discard_at_sound : (n : ℕ) (o : Option Entry) (d : Draft) → row_at entry_key n d.rows.entries ≡ o → SoundAt d → SoundIfDone (discard_at n o d)
discard_at_sound n None d r s = tt
discard_at_sound n (Some x) d r s = discard_in_sound n x x.message d refl r s

pub discard_sound : (n : ℕ) (d : Draft) → SoundAt d → SoundIfDone (discard n d)
discard_sound n d s = discard_at_sound n (row_at entry_key n d.rows.entries) d refl s
