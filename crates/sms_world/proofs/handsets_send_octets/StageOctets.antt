-- The stages of an event keep octets, and send octets.
use Rattle.std.proofs.Common.{◌≡◌, ℕ, zero, suc, ◌+◌, ◌*◌, ◌/◌, ◌%◌, ◌<◌, ◌≤◌, arith, List, [], ◌∷◌, length, length-append, Bool, true, false, refl, sym, subst, ⊎_elim, Option, Some, None, Result}
use Rattle.std.specs.Prelude.{nat_lt, min, ◌-◌}
use Rattle.std.specs.List.{AllByRecursion}
use Rattle.std.specs.Str.{all_scalars}
use Rattle.std.proofs.lemmas.Bool.{cond_both}
use Rattle.sms_base.specs.Address.{IsAddress}
use Rattle.sms_base.specs.Among.{Among}
use Rattle.sms_base.specs.Reading.{AreOctets}
use Rattle.sms_base.specs.declared.address.Address.{Address}
use Rattle.sms_base.specs.declared.carried.Kind.{Kind}
use Rattle.sms_base.specs.declared.carried.Kind.TheVariants.{Ack, Error}
use Rattle.sms_base.specs.declared.holder.Holder.{Holder}
use Rattle.sms_base.specs.declared.holder.Holder.TheVariants.{Entry as EntryHolder, Memory}
use Rattle.sms_base.proofs.Addresses.{address_found}
use Rattle.sms_rows.proofs.table.Tables.{among_put, among_without, found_among}
use Rattle.sms_concat.specs.declared.content.Part.{Part as PartOf}
use Rattle.sms_control.specs.LinkStep.{is_busy}
use Rattle.sms_relay.specs.Cause.{number_of}
use Rattle.sms_relay.specs.RelayGrammar.{ack_up, data_up, error_up, smma_up}
use Rattle.sms_relay.specs.declared.cause.RpCause.{RpCause}
use Rattle.sms_relay.specs.declared.cause.RpCause.TheVariants.{InvalidMandatoryInformation, MemoryCapacityExceeded}
use Rattle.sms_relay.specs.declared.fault.RelayFault.{RelayFault}
use Rattle.sms_relay.specs.declared.fault.RelayFault.TheVariants.{BadLength, Trailing, Truncated, Unknown}
use Rattle.sms_link.specs.LinkTurn.{Turn}
use Rattle.sms_link.specs.declared.ending.Upward.{Upward}
use Rattle.sms_link.specs.declared.ending.Upward.TheVariants.{Ended, Opened}
use Rattle.sms_tpdu.specs.AddressGrammar.{relay_address}
use Rattle.sms_tpdu.proofs.FaultSteps.{joined_fits}
use Rattle.sms_tpdu.proofs.NameValues.{value_short}
use Rattle.sms_handset_rows.specs.inbox.Groups.{is_among}
use Rattle.sms_handset_rows.specs.outbox.Answers.{verdict_of}
use Rattle.sms_handset_rows.specs.outbox.Keys.{notice_key, out_key}
use Rattle.sms_handset_rows.specs.outbox.Offers.{rejecting_duplicates, submit_of}
use Rattle.sms_handset_rows.specs.outbox.References.{free_from, held_message_references, held_references, next_free}
use Rattle.sms_handset_rows.specs.outbox.Settling.{lost, settled}
use Rattle.sms_handset_rows.specs.outbox.Submits.{written_entry}
use Rattle.sms_handset_rows.specs.declared.outbox.notice.Notice.{Notice}
use Rattle.sms_handset_rows.specs.declared.outbox.out_entry.EntryState.TheVariants.{Sending}
use Rattle.sms_handset_rows.specs.declared.outbox.out_entry.OutEntry.{OutEntry}
use Rattle.sms_handset_rows.proofs.outbox.SoundWriting.{IsWritable, split_is_writable, written_fits}
use Rattle.sms_handset_draft.specs.Draft.{Draft, begin, link_of, put_counters, put_out, remove_out, reply, with_turn}
use Rattle.sms_handset_draft.specs.MemoryAvailable.{first_notice, put_notice, remove_notice, send_notice}
use Rattle.sms_handset_draft.specs.Outbox.{follow, lapse, offer_entry, lapse_rows}
use Rattle.sms_handset_draft.specs.Receiving.{acknowledge, refuse, reject}
use Rattle.sms_relay.specs.Rejecting.{fault_cause}
use Rattle.sms_handset.specs.OwnersActs.{count_split, delete, discard, write, write_part}
use Rattle.sms_handset.specs.declared.refusal.Refusal.{Refusal}
use Rattle.sms_world.specs.handsets_send_octets.Arriving.{IsAnsweredInOctet}
use Rattle.sms_world.specs.handsets_send_octets.Keeping.{EntryInOctets, KeepsOctets, SentInOctets}
use Rattle.sms_world.proofs.handsets_send_octets.LinkOctets.{TurnFits, UnitFits, UpwardFits, begun_fits, both_sent, replied_fits}
use Rattle.sms_world.proofs.handsets_send_octets.WrittenOctets.{PartInOctets, relay_fits, submit_fits, text_fits}
use Rattle.sms_handset.proofs.KeptByStages.{AnyTransfer, IfDone, IsKnownUp, IsSameEntry, KeptByEnds, KeptByMoves, KeptByOffers, KeptByWriting, any_up, delete_keeps, discard_keeps, frame_keeps, lapse_keeps, lapses_each, lost_same, offer_keeps, settled_same, timers_keep, write_keeps}
use Rattle.sms_handset.proofs.DueRows.{IsDue}
use Rattle.sms_handset_draft.specs.FramesAndTicks.{frame_heard, timers_fired}

-- a draft that keeps octets, and whose frames are octets
abbrev pub OctetsAt : Draft → Type 0
OctetsAt d =
    KeepsOctets d.rows.setup.centre d.rows.counters.reference d.rows.counters.message_reference d.rows.counters.concat_reference d.rows.outbox d.links d.notices
    × SentInOctets d.frames

abbrev pub IfDoneOctets : Result Draft Refusal → Type 0
IfDoneOctets r = IfDone OctetsAt r

abbrev IsOctet : ℕ → Type 0
IsOctet reference = reference < 256

-- ---- moves

out_put : (o : OutEntry) (d : Draft) → EntryInOctets o → OctetsAt d → OctetsAt (put_out o d)
out_put o d e s = (
  record {
    centre = s.0.centre;
    reference = s.0.reference;
    message_reference = s.0.message_reference;
    concat_reference = s.0.concat_reference;
    outbox = λ x i.
        ⊎_elim (λ (q : x ≡ o). subst (λ (z : OutEntry). EntryInOctets z) (sym q) e) (λ (j : Among x d.rows.outbox × ¬ (out_key x ≡ out_key o)). s.0.outbox x j.0)
        (among_put out_key x o d.rows.outbox i);
    link = s.0.link;
    notices = s.0.notices;
  },
  s.1,
)

out_removed : (n : ℕ) (d : Draft) → OctetsAt d → OctetsAt (remove_out n d)
out_removed n d s = (
  record {
    centre = s.0.centre;
    reference = s.0.reference;
    message_reference = s.0.message_reference;
    concat_reference = s.0.concat_reference;
    outbox = λ x i. s.0.outbox x (among_without out_key x n d.rows.outbox i).0;
    link = s.0.link;
    notices = s.0.notices;
  },
  s.1,
)

notice_put : (n : Notice) (d : Draft) → n.reference < 256 → OctetsAt d → OctetsAt (put_notice n d)
notice_put n d e s = (
  record {
    centre = s.0.centre;
    reference = s.0.reference;
    message_reference = s.0.message_reference;
    concat_reference = s.0.concat_reference;
    outbox = s.0.outbox;
    link = s.0.link;
    notices = λ x i.
        ⊎_elim (λ (q : x ≡ n). subst (λ (z : Notice). z.reference < 256) (sym q) e) (λ (j : Among x d.notices × ¬ (notice_key x ≡ notice_key n)). s.0.notices x j.0)
        (among_put notice_key x n d.notices i);
  },
  s.1,
)

notice_removed : (n : ℕ) (d : Draft) → OctetsAt d → OctetsAt (remove_notice n d)
notice_removed n d s = (
  record {
    centre = s.0.centre;
    reference = s.0.reference;
    message_reference = s.0.message_reference;
    concat_reference = s.0.concat_reference;
    outbox = s.0.outbox;
    link = s.0.link;
    notices = λ x i. s.0.notices x (among_without notice_key x n d.notices i).0;
  },
  s.1,
)

pub turn_fits : (t : Turn) (d : Draft) → TurnFits t → OctetsAt d → OctetsAt (with_turn t d)
turn_fits t d f s = (
  record {
    centre = s.0.centre;
    reference = s.0.reference;
    message_reference = s.0.message_reference;
    concat_reference = s.0.concat_reference;
    outbox = s.0.outbox;
    link = f.link;
    notices = s.0.notices;
  },
  both_sent d.frames t.out.frames s.1 f.frames,
)

replies : (kind : Kind) (reference : ℕ) (tag : Holder) (unit : List ℕ) (d : Draft) → UnitFits unit → OctetsAt d → OctetsAt (reply kind reference tag unit d)
replies kind reference tag unit d u s = turn_fits _ d (replied_fits d.moment kind reference tag unit (link_of d) u s.0.link) s

begins : (reference : ℕ) (tag : Holder) (unit : List ℕ) (d : Draft) → UnitFits unit → OctetsAt d → OctetsAt (begin reference tag unit d)
begins reference tag unit d u s = turn_fits _ d (begun_fits d.moment reference tag unit (link_of d) u s.0.link) s

-- ---- answers

acknowledges : (reference : ℕ) (tag : Holder) (d : Draft) → reference < 256 → OctetsAt d → OctetsAt (acknowledge reference tag d)
acknowledges reference tag d r s =
    let a : 2 < 256 = omega arith in
    let b : 65 < 256 = omega arith in
    let z : 0 < 256 = omega arith in
    let l : 6 < 256 = omega arith in
    replies Ack reference tag (ack_up reference (Some (0 ∷ 0 ∷ []))) d (record { octets = (a, (r, (b, (a, (z, (z, tt)))))); short = l }) s

refuses : (reference : ℕ) (tag : Holder) (cause : RpCause) (failure : ℕ) (d : Draft) → reference < 256 → number_of cause < 256 → failure < 256 → OctetsAt d → OctetsAt (refuse reference tag cause failure d)
refuses reference tag cause failure d r c f s =
    let four : 4 < 256 = omega arith in
    let one : 1 < 256 = omega arith in
    let b : 65 < 256 = omega arith in
    let three : 3 < 256 = omega arith in
    let z : 0 < 256 = omega arith in
    let l : 9 < 256 = omega arith in
    replies Error reference tag (error_up reference cause (Some (0 ∷ failure ∷ 0 ∷ []))) d (record { octets = (four, (r, (one, (c, (b, (three, (z, (f, (z, tt))))))))); short = l }) s

rejects : (reference : ℕ) (tag : Holder) (cause : RpCause) (d : Draft) → reference < 256 → number_of cause < 256 → OctetsAt d → OctetsAt (reject reference tag cause d)
rejects reference tag cause d r c s =
    let l : 4 < 256 = omega arith in
    let one : 1 < 256 = omega arith in
    replies Error reference tag (error_up reference cause None) d (record { octets = (l, (r, (one, (c, tt)))); short = l }) s

full : (reference : ℕ) (tag : Holder) (d : Draft) → reference < 256 → OctetsAt d → OctetsAt (refuse reference tag MemoryCapacityExceeded 211 d)
full reference tag d r s =
    let c : 22 < 256 = omega arith in
    let f : 211 < 256 = omega arith in
    refuses reference tag MemoryCapacityExceeded 211 d r c f s

unreadable : (reference : ℕ) (tag : Holder) (d : Draft) → reference < 256 → OctetsAt d → OctetsAt (refuse reference tag InvalidMandatoryInformation 255 d)
unreadable reference tag d r s =
    let c : 96 < 256 = omega arith in
    let f : 255 < 256 = omega arith in
    refuses reference tag InvalidMandatoryInformation 255 d r c f s

cause_small : (f : RelayFault) → number_of (fault_cause f) < 256
cause_small Truncated = omega arith
cause_small Trailing = omega arith
cause_small Unknown = omega arith
cause_small BadLength = omega arith

-- ---- entries

same_fits : (o x : OutEntry) → IsSameEntry o x → EntryInOctets o → EntryInOctets x
same_fits o x is e = record {
  tpdu = subst (λ (xs : List ℕ). AreOctets xs) (sym is.2) e.tpdu;
  short = subst (λ (xs : List ℕ). length xs ≤ 200) (sym is.2) e.short;
  reference = subst (λ (n : ℕ). n < 256) (sym is.1) e.reference;
}

lost_fits : (o : OutEntry) → EntryInOctets o → EntryInOctets (lost o)
lost_fits o e = same_fits o (lost o) (lost_same o) e

-- ---- the moves of a frame, of a tick, and of what is deleted or discarded

ends_kept : KeptByEnds OctetsAt AnyTransfer
ends_kept = record {
  entry_settled = λ v reference n o d t e s.
      let x : OutEntry = settled d.moment (verdict_of v) o in
      out_put x d (same_fits o x (settled_same d.moment (verdict_of v) o) (s.0.outbox o (found_among out_key n o d.rows.outbox e))) s;
  notice_put = λ n is_second due d i s. notice_put (record n { is_second = is_second; due = due }) d (s.0.notices n i) s;
  notice_removed = notice_removed;
}

octets_kept : KeptByMoves OctetsAt IsOctet IsAnsweredInOctet AnyTransfer
octets_kept = record {
  ends = ends_kept;
  entry_put = λ e d s. s;
  entry_removed = λ n d s. s;
  last_put = λ l d a s. s;
  mark_put = λ m d s. s;
  mark_removed = λ n d s. s;
  entry_counted = λ d s. s;
  memory_flagged = λ b d s. s;
  data_answered = λ unit reference centre tpdu a. a;
  fault_answered = λ unit fault a. a;
  acknowledged = acknowledges;
  full = full;
  unreadable = unreadable;
  rejected = λ reference tag fault d r s. rejects reference tag (fault_cause fault) d r (cause_small fault) s;
  status_noted = λ o status d i s. out_put (record o { status = Some status }) d (same_fits o (record o { status = Some status }) (refl, refl, refl) (s.0.outbox o i)) s;
  notice_wanted = λ d s. s;
}

up_known : (up : Option Upward) (d : Draft) → UpwardFits up → IsKnownUp IsAnsweredInOctet AnyTransfer up d
up_known None d u = tt
up_known (Some (Opened unit)) d u = u
up_known (Some (Ended transfer ending)) d u = tt

pub heard : (tag : Holder) (turn : Turn) (d : Draft) → UpwardFits turn.out.up → OctetsAt (with_turn turn d) → OctetsAt (frame_heard tag turn d)
heard tag turn d u s = frame_keeps OctetsAt IsOctet IsAnsweredInOctet AnyTransfer octets_kept tag turn d (up_known turn.out.up (with_turn turn d) u) s

pub fires : (turn : Turn) (d : Draft) → OctetsAt (with_turn turn d) → OctetsAt (timers_fired turn d)
fires turn d s = timers_keep OctetsAt AnyTransfer ends_kept turn d (any_up turn.out.up (with_turn turn d)) s

pub deletes : (n : ℕ) (d : Draft) → OctetsAt d → IfDoneOctets (delete n d)
deletes n d s = delete_keeps OctetsAt IsOctet IsAnsweredInOctet AnyTransfer octets_kept n d (out_removed n d s) s

pub discards : (n : ℕ) (d : Draft) → OctetsAt d → IfDoneOctets (discard n d)
discards n d s = discard_keeps OctetsAt IsOctet IsAnsweredInOctet AnyTransfer octets_kept n d s

-- ---- what follows

duplicates_fit : (xs : List ℕ) → AreOctets xs → length xs ≤ 200 → AreOctets (rejecting_duplicates xs) × (length (rejecting_duplicates xs) ≤ 200)
duplicates_fit [] h l = (tt, l)
duplicates_fit (x ∷ xs) h l = ((let k : x < 256 = h.0 in let j : x / 8 * 8 + 4 + x % 4 < 256 = omega (arith, k) in j, h.1), l)

abbrev ShortOctets : List ℕ → Type 0
ShortOctets xs = AreOctets xs × (length xs ≤ 200)

submit_octets_fit : (o : OutEntry) → EntryInOctets o → ShortOctets (submit_of o)
submit_octets_fit o e =
    cond_both o.rejects_duplicates (rejecting_duplicates o.tpdu) o.tpdu (λ (xs : List ℕ). ShortOctets xs) (λ t. duplicates_fit o.tpdu e.tpdu e.short) (λ t. (e.tpdu, e.short))

-- a unit with a TPDU
data_unit_fits : (reference : ℕ) (centre : Address) (tpdu : List ℕ) → reference < 256 → IsAddress centre → ShortOctets tpdu → UnitFits (data_up reference (relay_address centre) tpdu)
data_unit_fits reference centre tpdu r a t =
    let z : 0 < 256 = omega arith in
    let short : length (relay_address centre) ≤ 11 = let p = value_short centre a in omega (arith, p) in
    let few : length (relay_address centre) < 256 = omega (arith, short) in
    let size : length tpdu < 256 = let p = t.1 in omega (arith, p) in
    let long = length-append (relay_address centre) (length tpdu ∷ tpdu) in
    let all : length (data_up reference (relay_address centre) tpdu) < 256 = let p = t.1 in omega (arith, p, short, long) in
    record { octets = (z, (r, (z, (few, joined_fits (relay_address centre) (length tpdu ∷ tpdu) (relay_fits centre a) (size, t.0))))); short = all }

offers_entry : (o : OutEntry) (d : Draft) → IsDue d.rows.outbox o → is_busy d.links ≡ false → OctetsAt d → OctetsAt (offer_entry (Some o) d)
offers_entry o d due idle s =
    let x : OutEntry = record o { state = Sending; tries = min (o.tries + 1) 255; due = None } in
    let e : EntryInOctets o = s.0.outbox o due.among in
    begins o.reference (EntryHolder o.number) (data_up o.reference (relay_address d.rows.setup.centre) (submit_of o)) (put_out x d)
    (data_unit_fits o.reference d.rows.setup.centre (submit_of o) e.reference s.0.centre (submit_octets_fit o e)) (out_put x d (same_fits o x (refl, refl, refl) e) s)

sends_notice : (n : Notice) (d : Draft) → n.reference < 256 → OctetsAt d → OctetsAt (send_notice n d)
sends_notice n d r s =
    let six : 6 < 256 = omega arith in
    let two : 2 < 256 = omega arith in
    begins n.reference (Memory n.number) (smma_up n.reference) (put_notice (record n { due = None }) d) (record { octets = (six, (r, tt)); short = two })
    (notice_put (record n { due = None }) d r s)

-- a reference that is free is one of 256
free_small : (turns reference : ℕ) (held : List ℕ) → reference < 256 → free_from turns reference held < 256
unfolding free_from
free_small zero reference held r = r
free_small (suc turns) reference held r =
    cond_both (is_among reference held) (free_from turns ((reference + 1) % 256) held) reference (λ (n : ℕ). n < 256)
    (λ t. free_small turns ((reference + 1) % 256) held (let l : (reference + 1) % 256 < 256 = omega arith in l)) (λ t. r)

-- the references that are given next
counts : (reference message_reference concat_reference : ℕ) (d : Draft) → reference < 256 → message_reference < 256 → concat_reference < 65536 → OctetsAt d
    → KeepsOctets d.rows.setup.centre reference message_reference concat_reference d.rows.outbox d.links d.notices × SentInOctets d.frames
counts reference message_reference concat_reference d r m c s = (
  record { centre = s.0.centre; reference = r; message_reference = m; concat_reference = c; outbox = s.0.outbox; link = s.0.link; notices = s.0.notices },
  s.1,
)

sends_first : (number reference : ℕ) (d : Draft) → reference < 256 → OctetsAt d → OctetsAt (first_notice number reference d)
sends_first number reference d r s =
    let next : (reference + 1) % 256 < 256 = omega arith in
    sends_notice (record { number = number; reference = reference; is_second = false; due = None })
    (put_counters (record d.rows.counters { notice = number + 1; reference = (reference + 1) % 256 }) (record d { notices_wanted = d.notices_wanted - 1 })) r
    (counts ((reference + 1) % 256) d.rows.counters.message_reference d.rows.counters.concat_reference d next s.0.message_reference s.0.concat_reference s)

offers_kept : KeptByOffers OctetsAt OctetsAt
offers_kept = record {
  nothing = λ d s. s;
  entry = offers_entry;
  notice_again = λ n d i idle s. sends_notice n d (s.0.notices n i) s;
  notice_first = λ d next idle s.
      let r : ℕ = next_free d.rows.counters.reference (held_references d.notices d.rows.outbox) in
      sends_first d.rows.counters.notice r d (free_small 256 d.rows.counters.reference (held_references d.notices d.rows.outbox) s.0.reference) s;
}

lapsed : (d : Draft) → OctetsAt d → OctetsAt (lapse_rows d.rows.outbox (record d { is_recovered = false }))
lapsed d s = lapses_each OctetsAt EntryInOctets lost_fits out_put d.rows.outbox (record d { is_recovered = false }) s.0.outbox s

pub follows : (d : Draft) → OctetsAt d → OctetsAt (follow d)
follows d s = offer_keeps OctetsAt OctetsAt offers_kept (lapse d) (lapse_keeps OctetsAt lapsed d s)

-- ---- writing

abbrev PartFits : PartOf → Type 0
PartFits p = IsWritable p × PartInOctets p

writes_part : (to : Address) (report is_long : Bool) (p : PartOf) (d : Draft) → IsAddress to → PartFits p → OctetsAt d → OctetsAt (write_part to report is_long p d)
writes_part to report is_long p d a f s =
    let m = next_free d.rows.counters.message_reference (held_message_references d.rows.outbox) in
    let r = next_free d.rows.counters.reference (held_references d.notices d.rows.outbox) in
    let small_m : m < 256 = free_small 256 d.rows.counters.message_reference (held_message_references d.rows.outbox) s.0.message_reference in
    let small_r : r < 256 = free_small 256 d.rows.counters.reference (held_references d.notices d.rows.outbox) s.0.reference in
    let next_m : (m + 1) % 256 < 256 = omega arith in
    let next_r : (r + 1) % 256 < 256 = omega arith in
    let w : OutEntry = written_entry d.rows.counters.entry m r to report is_long p in
    out_put w (put_counters (record d.rows.counters { entry = d.rows.counters.entry + 1; message_reference = (m + 1) % 256; reference = (r + 1) % 256 }) d)
    (record { tpdu = submit_fits m to report p small_m a f.0.1 f.1; short = written_fits m to report p a f.0.0 f.0.1; reference = small_r })
    (counts ((r + 1) % 256) ((m + 1) % 256) d.rows.counters.concat_reference d next_r next_m s.0.concat_reference s)

-- the parts that are still to be written are octets
abbrev PartsFit : Address → Bool → Bool → List PartOf → Draft → Type 0
PartsFit to report is_long ps d = IsAddress to × AllByRecursion (λ (p : PartOf). PartFits p) ps × OctetsAt d

parts_kept : KeptByWriting OctetsAt PartsFit
parts_kept = record {
  one = λ to report is_long p ps d w. (w.0, w.1.1, writes_part to report is_long p d w.0 w.1.0 w.2);
  all = λ to report is_long d w. w.2;
}

counts_split : (is_long : Bool) (d : Draft) → OctetsAt d → OctetsAt (count_split is_long d)
counts_split false d s = s
counts_split true d s =
    let next : (d.rows.counters.concat_reference + 1) % 65536 < 65536 = omega arith in
    counts d.rows.counters.reference d.rows.counters.message_reference ((d.rows.counters.concat_reference + 1) % 65536) d s.0.reference s.0.message_reference next s

both_all : (ps : List PartOf) → AllByRecursion (λ (p : PartOf). IsWritable p) ps → AllByRecursion (λ (p : PartOf). PartInOctets p) ps → AllByRecursion (λ (p : PartOf). PartFits p) ps
both_all [] a b = tt
both_all (p ∷ ps) a b = ((a.0, b.0), both_all ps a.1 b.1)

pub writes : (text to : List ℕ) (report : Bool) (d : Draft) → all_scalars text ≡ true → OctetsAt d → IfDoneOctets (write text to report d)
writes text to report d t s =
    let reference : ℕ = d.rows.counters.concat_reference in
    write_keeps OctetsAt PartsFit parts_kept text to report d
    (λ ps a e to_is room. (
      (address_found 1 1 to a to_is).valid,
      both_all ps (split_is_writable text reference ps e) (text_fits text reference ps e t s.0.concat_reference),
      counts_split (nat_lt 1 (length ps)) d s,
    ))
