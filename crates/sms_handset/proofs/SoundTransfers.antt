-- How transfers end, lapse and begin leaves a sound handset sound.
use Rattle.std.proofs.Common.{ℕ, List, ◌≡◌, Bool, true, Option, refl, subst, ap, ◌-◌, false, cond, None, Some, sym, ◌∙◌, arith, ◌∷◌, inl, inr, [], ◌+◌, ◌<◌, ◌≤◌, length, ◌%◌}
use Rattle.std.specs.Prelude.{◌||◌, nat_le, min, ◌&&◌, nat_lt}
use Rattle.std.proofs.lemmas.Bool.{cond_both, leb-false, and_parts, cond-false, ltb-true}
use Rattle.sms_base.specs.Among.{Among}
use Rattle.sms_base.specs.declared.holder.Holder.{Holder}
use Rattle.sms_base.specs.declared.holder.Holder.TheVariants.{Entry as EntryHolder, Memory}
use Rattle.sms_base.specs.declared.carried.Carried.{Carried}
use Rattle.sms_base.specs.declared.carried.Kind.TheVariants.{Data}
use Rattle.sms_rows.specs.table.Table.{put, row_at, Rises}
use Rattle.sms_rows.proofs.table.Tables.{length_without, found_among, put_among, row_at_put, length_put}
use Rattle.sms_control.specs.Timers.{later}
use Rattle.sms_control.specs.LinkStep.{begin_step, is_busy}
use Rattle.sms_relay.specs.RelayGrammar.{data_up, smma_up}
use Rattle.sms_link.specs.declared.ending.Ending.{Ending}
use Rattle.sms_link.specs.LinkTurn.{Turn, of_kind, started, still}
use Rattle.sms_tpdu.specs.AddressGrammar.{relay_address}
use Rattle.sms_handset_rows.specs.declared.inbox.entry.Entry.{Entry}
use Rattle.sms_handset_rows.proofs.inbox.SoundMarks.{length_replaced, above_at}
use Rattle.sms_handset_rows.specs.declared.outbox.out_entry.OutEntry.{OutEntry}
use Rattle.sms_handset_rows.proofs.outbox.SoundOutbox.{IsSoundOut, Replaces, replaced}
use Rattle.sms_handset_rows.specs.declared.outbox.out_entry.EntryState.{EntryState}
use Rattle.sms_handset_rows.specs.outbox.References.{is_unfinished, held_references, next_free}
use Rattle.sms_handset_rows.specs.outbox.SoundOutbox.{AreTries, WasSent}
use Rattle.sms_handset_rows.specs.declared.outbox.out_entry.EntryState.TheVariants.{Sending, Queued, Unsure, Sent, Failed}
use Rattle.sms_handset_rows.specs.outbox.Settling.{lost, most_tries, retry_delay, settled, is_sending}
use Rattle.sms_handset_rows.specs.declared.outbox.answers.TransferEnd.{TransferEnd}
use Rattle.sms_handset_rows.specs.declared.outbox.answers.TransferEnd.TheVariants.{Acknowledged, Temporary, Duplicate, Refused, Lost}
use Rattle.sms_handset_rows.specs.outbox.Keys.{out_key, notice_key}
use Rattle.sms_handset_rows.specs.outbox.Answers.{verdict_of}
use Rattle.sms_handset_rows.specs.declared.outbox.notice.Notice.{Notice}
use Rattle.sms_handset_rows.specs.outbox.Offers.{submit_of}
use Rattle.sms_handset_draft.specs.Draft.{Draft, put_out, begin, link_of, with_turn}
use Rattle.sms_handset.proofs.SoundDrafts.{SoundAt, none_under_way, outbox_moves, notices_move, Sound, counters_move}
use Rattle.sms_handset_draft.specs.Outbox.{transfer_ended, lapse_rows, lapse, offer_entry, follow}
use Rattle.sms_handset_draft.specs.MemoryAvailable.{put_notice, remove_notice, most_notices, send_notice, first_notice}
use Rattle.sms_handset.specs.SoundCore.{IsSentFor, IsUnderWay}
use Rattle.sms_handset_draft.specs.declared.counters.Counters.{Counters}
use Rattle.sms_handset.proofs.DueRows.{IsDue}
use Rattle.sms_handset.proofs.KeptByStages.{KeptByEnds, KeptByOffers, holder_keeps, offer_keeps}

-- ---- an entry that is Sending becomes another

pub record Turns (k : ℕ) (es : List Entry) (o w : OutEntry) : Type 0 where
  pub replaces : Replaces o w
  pub sound : IsSoundOut k es w

turns : (k : ℕ) (es : List Entry) (o : OutEntry) (s : EntryState) (r : Bool) (due : Option ℕ) → is_unfinished o.state ≡ true → AreTries s o.tries → IsSoundOut k es o
    → Turns k es o (record o { state = s; rejects_duplicates = r; due = due })
turns k es o s r due u t i = record {
  replaces = record { number = refl; message_reference = refl; reference = refl; unfinished = λ v. u };
  sound = (i.0, i.1, i.2, t);
}

-- an entry that is Sending was sent
was_sent : (o : OutEntry) → o.state ≡ Sending → AreTries o.state o.tries → WasSent o.tries
was_sent o e t = subst (λ (s : EntryState). AreTries s o.tries) e t

sending_unfinished : (o : OutEntry) → o.state ≡ Sending → is_unfinished o.state ≡ true
sending_unfinished o e = ap (λ (s : EntryState). is_unfinished s) e

lost_turns : (k : ℕ) (es : List Entry) (o : OutEntry) → o.state ≡ Sending → IsSoundOut k es o → Turns k es o (lost o)
lost_turns k es o e i =
    let sent = was_sent o e i.3 in
    let u = sending_unfinished o e in
    by_long o.is_long k es o sent u i
  where
    ended : (k : ℕ) (es : List Entry) (o : OutEntry) → WasSent o.tries → is_unfinished o.state ≡ true → IsSoundOut k es o → Turns k es o (record o { state = Unsure })
    ended k es o sent u i = turns k es o Unsure o.rejects_duplicates o.due u sent i

    again : (k : ℕ) (es : List Entry) (o : OutEntry) → nat_le most_tries o.tries ≡ false → is_unfinished o.state ≡ true → IsSoundOut k es o
        → Turns k es o (record o { state = Queued; rejects_duplicates = true; due = None })
    again k es o t u i = turns k es o Queued true None u (leb-false most_tries o.tries t) i

    by_tries : (k : ℕ) (es : List Entry) (o : OutEntry) → WasSent o.tries → is_unfinished o.state ≡ true → IsSoundOut k es o
        → Turns k es o (cond (nat_le most_tries o.tries) (record o { state = Unsure }) (record o { state = Queued; rejects_duplicates = true; due = None }))
    by_tries k es o sent u i =
        cond_both (nat_le most_tries o.tries) (record o { state = Unsure }) (record o { state = Queued; rejects_duplicates = true; due = None }) (λ (w : OutEntry). Turns k es o w)
        (λ t. ended k es o sent u i) (λ t. again k es o t u i)

    by_long : (long : Bool) (k : ℕ) (es : List Entry) (o : OutEntry) → WasSent o.tries → is_unfinished o.state ≡ true → IsSoundOut k es o
        → Turns k es o (cond (long || nat_le most_tries o.tries) (record o { state = Unsure }) (record o { state = Queued; rejects_duplicates = true; due = None }))
    by_long true k es o sent u i = ended k es o sent u i
    by_long false k es o sent u i = by_tries k es o sent u i

settled_turns : (k : ℕ) (es : List Entry) (moment : ℕ) (v : TransferEnd) (o : OutEntry) → o.state ≡ Sending → IsSoundOut k es o → Turns k es o (settled moment v o)
settled_turns k es moment Acknowledged o e i = turns k es o Sent o.rejects_duplicates o.due (sending_unfinished o e) (was_sent o e i.3) i
settled_turns k es moment Temporary o e i =
    cond_both (nat_le most_tries o.tries) (record o { state = Failed }) (record o { state = Queued; due = Some (later moment retry_delay) }) (λ (w : OutEntry). Turns k es o w)
    (λ t. turns k es o Failed o.rejects_duplicates o.due (sending_unfinished o e) (was_sent o e i.3) i)
    (λ t. turns k es o Queued o.rejects_duplicates (Some (later moment retry_delay)) (sending_unfinished o e) (leb-false most_tries o.tries t) i)
settled_turns k es moment Duplicate o e i = turns k es o Unsure o.rejects_duplicates o.due (sending_unfinished o e) (was_sent o e i.3) i
settled_turns k es moment Refused o e i = turns k es o Failed o.rejects_duplicates o.due (sending_unfinished o e) (was_sent o e i.3) i
settled_turns k es moment Lost o e i = lost_turns k es o e i

-- it does so where nothing is under way
turned_sound : (o w : OutEntry) (d : Draft) → Among o d.rows.outbox → Turns d.rows.counters.entry d.rows.entries o w → d.under_way ≡ None → SoundAt d → SoundAt (put_out w d)
turned_sound o w d a t e s =
    outbox_moves d.rows d.under_way d.under_way d.is_recovered d.is_recovered d.notices (put out_key w d.rows.outbox)
    (replaced d.rows.counters.entry d.rows.entries d.rows.outbox o w a t.replaces t.sound s.outbox) s.recovered
    (none_under_way d.under_way (put out_key w d.rows.outbox) e) s

-- ---- a transfer ends

-- an RP-SMMA takes the place of itself, or leaves
same_notice : (n : Notice) (w : Notice) (d : Draft) → Among n d.notices → n.number ≡ w.number → SoundAt d → SoundAt (put_notice w d)
same_notice n w d a e s =
    notices_move d.rows d.under_way d.is_recovered d.notices (put notice_key w d.notices)
    (let l = length_replaced notice_key w n d.notices a e in let f = s.few_notices in omega arith) s

gone_notice : (number : ℕ) (d : Draft) → SoundAt d → SoundAt (remove_notice number d)
gone_notice number d s =
    notices_move d.rows d.under_way d.is_recovered d.notices _ (let l = length_without notice_key number d.notices in let f = s.few_notices in omega arith) s

-- a sound handset under which nothing is under way
abbrev SoundOver : Draft → Type 0
SoundOver d = SoundAt d × (d.under_way ≡ None)

-- what is known of a transfer that ended: an entry that it was for is Sending
abbrev WasFor : ℕ → Holder → Draft → Type 0
WasFor reference tag d = IsSentFor reference tag d.rows.outbox

entry_settles : (v : Ending) (reference n : ℕ) (o : OutEntry) (d : Draft) → WasFor reference (EntryHolder n) d → row_at out_key n d.rows.outbox ≡ Some o → SoundOver d
    → SoundOver (put_out (settled d.moment (verdict_of v) o) d)
entry_settles v reference n o d w e s =
    let both : Some w.0 ≡ Some o = sym w.1.0 ∙ e in
    let same : w.0 ≡ o = cc in
    let sending : o.state ≡ Sending = ap (λ (z : OutEntry). z.state) (sym same) ∙ w.1.1.0 in
    let i : Among o d.rows.outbox = found_among out_key n o d.rows.outbox e in (
      turned_sound o (settled d.moment (verdict_of v) o) d i
          (settled_turns d.rows.counters.entry d.rows.entries d.moment (verdict_of v) o sending (s.0.outbox.each o i)) s.1 s.0,
      s.1,
    )

ends_kept : KeptByEnds SoundOver WasFor
ends_kept = record {
  entry_settled = entry_settles;
  notice_put = λ n is_second due d i s. (same_notice n (record n { is_second = is_second; due = due }) d i refl s.0, s.1);
  notice_removed = λ n d s. (gone_notice n d s.0, s.1);
}

-- the transfer that was under way
pub transfer_sound : (c : Carried) (v : Ending) (d : Draft) → IsUnderWay (Some c) d.rows.outbox → d.under_way ≡ None → SoundAt d → SoundAt (transfer_ended c v d)
transfer_sound c v d w e s = (holder_keeps SoundOver WasFor ends_kept v c.reference c.tag d w (s, e)).0

-- ---- after a restart

-- nothing is under way, and these entries stand in the outbox
record Lapses (os : List OutEntry) (z : Draft) : Type 0 where
  sound : SoundAt z
  none : z.under_way ≡ None
  recovered : z.is_recovered ≡ false
  stand : (x : OutEntry) → Among x os → Among x z.rows.outbox

pub is_sending_state : (s : EntryState) → is_sending s ≡ true → s ≡ Sending
is_sending_state Queued e = absurd cc
is_sending_state Sending e = refl
is_sending_state Sent e = absurd cc
is_sending_state Failed e = absurd cc
is_sending_state Unsure e = absurd cc

one_lapses : (o : OutEntry) (os : List OutEntry) (z : Draft) → Rises out_key (o ∷ os) → Lapses (o ∷ os) z → Lapses os (cond (is_sending o.state) (put_out (lost o) z) z)
one_lapses o os z r l =
    let a = l.stand o (inl refl) in
    cond_both (is_sending o.state) (put_out (lost o) z) z (λ (y : Draft). Lapses os y)
    (λ t.
    let turn = lost_turns z.rows.counters.entry z.rows.entries o (is_sending_state o.state t) (l.sound.outbox.each o a) in
    let n : (lost o).number ≡ o.number = turn.replaces.number in
    record {
      sound = turned_sound o (lost o) z a turn l.none l.sound;
      none = l.none;
      recovered = l.recovered;
      stand = λ x m.
          let above = above_at out_key o.number os r.0 x m in
          put_among out_key x (lost o) z.rows.outbox (inr (l.stand x (inr m), (λ e. absurd (omega (arith, n, e, above)))));
    })
    (λ t. record { sound = l.sound; none = l.none; recovered = l.recovered; stand = λ x m. l.stand x (inr m) })

all_lapse : (os : List OutEntry) (z : Draft) → Rises out_key os → Lapses os z → Lapses [] (lapse_rows os z)
all_lapse [] z r l = l
all_lapse (o ∷ os) z r l = all_lapse os (cond (is_sending o.state) (put_out (lost o) z) z) r.1 (one_lapses o os z r l)

-- rows that are Sending stand from no earlier start
pub record Settles (z : Draft) : Type 0 where
  pub sound : SoundAt z
  pub recovered : z.is_recovered ≡ false

pub lapse_settles : (d : Draft) → SoundAt d → Settles (lapse d)
lapse_settles d s =
    cond_both d.is_recovered (lapse_rows d.rows.outbox (record d { is_recovered = false })) d (λ (z : Draft). Settles z)
    (λ t.
    let none : d.under_way ≡ None = s.recovered t in
    let l = all_lapse d.rows.outbox (record d { is_recovered = false }) s.outbox.order
    (record {
      sound = outbox_moves d.rows d.under_way d.under_way d.is_recovered false d.notices d.rows.outbox s.outbox (λ q. absurd cc) s.under_way s;
      none = none;
      recovered = refl;
      stand = λ x m. m;
    }) in
    record { sound = l.sound; recovered = l.recovered })
    (λ t. record { sound = s; recovered = t })

-- ---- what is sent

-- the entry as it is sent
sent_now : OutEntry → OutEntry
sent_now o = record o { state = Sending; tries = min (o.tries + 1) 255; due = None }

-- where no transaction is under way, one begins
begins : (r : ℕ) (tag : Holder) (unit : List ℕ) (d : Draft) (P : Draft → Type 0) → is_busy d.links ≡ false
    → P (with_turn (started (of_kind Data r tag) (begin_step d.moment unit d.links) (link_of d)) d) → P (begin r tag unit d)
begins r tag unit d P e h =
    subst (λ (t : Turn). P (with_turn t d)) (sym (cond-false (is_busy d.links) (still (link_of d)) (started (of_kind Data r tag) (begin_step d.moment unit d.links) (link_of d)) e)) h

offers_entry : (o : OutEntry) (d : Draft) → IsDue d.rows.outbox o → is_busy d.links ≡ false → d.is_recovered ≡ false → SoundAt d → SoundAt (offer_entry (Some o) d)
unfolding sent_now
offers_entry o d i free n s =
    let os = d.rows.outbox in
    let w : OutEntry = sent_now o in
    let was = s.outbox.each o i.among in
    let left : o.tries < 3 = subst (λ (z : EntryState). AreTries z o.tries) i.queued was.3 in
    let tries : WasSent w.tries = ((let p : 0 < min (o.tries + 1) 255 = omega arith in p), (let p : min (o.tries + 1) 255 ≤ 3 = omega arith in p)) in
    begins o.reference (EntryHolder o.number) (data_up o.reference (relay_address d.rows.setup.centre) (submit_of o)) (put_out w d) (λ (z : Draft). SoundAt z) free
    (outbox_moves d.rows d.under_way _ d.is_recovered d.is_recovered d.notices (put out_key w os)
    (replaced d.rows.counters.entry d.rows.entries os o w i.among
    (record { number = refl; message_reference = refl; reference = refl; unfinished = λ v. ap (λ (z : EntryState). is_unfinished z) i.queued })
    (was.0, was.1, was.2, tries) s.outbox)
    (λ t. absurd cc) (w, (row_at_put out_key w os, (refl, refl))) s)

-- an RP-SMMA is under way
noticed : (d : Draft) (w : Option Carried) → IsUnderWay w d.rows.outbox → d.is_recovered ≡ false → SoundAt d → Sound d.rows w d.is_recovered d.notices
noticed d w u n s = outbox_moves d.rows d.under_way w d.is_recovered d.is_recovered d.notices d.rows.outbox s.outbox (λ t. absurd cc) u s

-- it is sent, as few as may be sent
send_notice_sound : (n : Notice) (d : Draft) → length (put notice_key (record n { due = None }) d.notices) ≤ most_notices → is_busy d.links ≡ false → d.is_recovered ≡ false → SoundAt d → SoundAt (send_notice n d)
send_notice_sound n d few free f s =
    let e : Draft = put_notice (record n { due = None }) d in
    begins n.reference (Memory n.number) (smma_up n.reference) e (λ (z : Draft). SoundAt z) free
    (noticed e _ tt f (notices_move d.rows d.under_way d.is_recovered d.notices e.notices few s))

first_notice_sound : (n r : ℕ) (d : Draft) → length d.notices < most_notices → is_busy d.links ≡ false → d.is_recovered ≡ false → SoundAt d → SoundAt (first_notice n r d)
first_notice_sound n r d few free f s =
    let c : Counters = record d.rows.counters { notice = n + 1; reference = (r + 1) % 256 } in
    let e : Draft = record d { rows = record d.rows { counters = c }; changes = record d.changes { counters = Some c }; notices_wanted = d.notices_wanted - 1 } in
    let w : Notice = record { number = n; reference = r; is_second = false; due = None } in
    send_notice_sound w e (let l = length_put notice_key w d.notices in omega arith) free f
    (counters_move d.rows d.under_way d.is_recovered d.notices c (let l : d.rows.counters.entry ≤ d.rows.counters.entry = omega arith in l) s)

-- rows that are Sending stand from no earlier start
abbrev SoundNow : Draft → Type 0
SoundNow d = SoundAt d × (d.is_recovered ≡ false)

offers_kept : KeptByOffers SoundNow SoundAt
offers_kept = record {
  nothing = λ d s. s.0;
  entry = λ o d due idle s. offers_entry o d due idle s.1 s.0;
  notice_again = λ n d i idle s.
      let w : Notice = record n { due = None } in
      let l = length_replaced notice_key w n d.notices i refl in
      send_notice_sound n d (let k = s.0.few_notices in omega arith) idle s.1 s.0;
  notice_first = λ d next idle s.
      let r = next_free d.rows.counters.reference (held_references d.notices d.rows.outbox) in
      let both = and_parts (nat_lt 0 d.notices_wanted) (nat_lt d.rows.counters.notice 4294967295 && nat_lt (length d.notices) most_notices) next in
      let few = and_parts (nat_lt d.rows.counters.notice 4294967295) (nat_lt (length d.notices) most_notices) both.1 in
      first_notice_sound d.rows.counters.notice r d (ltb-true (length d.notices) most_notices few.1) idle s.1 s.0;
}

pub follow_sound : (d : Draft) → SoundAt d → SoundAt (follow d)
follow_sound d s = let l = lapse_settles d s in offer_keeps SoundNow SoundAt offers_kept (lapse d) (l.sound, l.recovered)
