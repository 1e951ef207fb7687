-- What is accepted is stored.
use Rattle.std.proofs.Common.{List, [], ◌∷◌, ◌++◌, refl, inl, inr, ◌≡◌, ◌⊎◌, ⊎_elim, Option, Some, None, ℕ, zero, suc, ◌<◌, ◌≤◌, arith, sym, ◌∙◌, ap, subst, false, eq-eqb, Ok, Result, cond, Err, Bool, true}
use Rattle.std.specs.Prelude.{◌+◌, ◌==◌, ◌&&◌, nat_lt, nat_le, ◌*◌, length}
use Rattle.std.proofs.Math.Nat.{eq-or-lt_of_le}
use Rattle.std.proofs.lemmas.Bool.{cond-false, cond-true, or_parts, cond_both, and_parts, leb-true, ltb-true}
use Rattle.sms_base.specs.Among.{Among}
use Rattle.sms_base.specs.declared.holder.Holder.{Holder}
use Rattle.sms_base.specs.declared.address.Address.{Address}
use Rattle.sms_rows.proofs.table.Tables.{put_among}
use Rattle.sms_rows.specs.declared.table.change.Change.TheVariants.{Put}
use Rattle.sms_rows.specs.declared.table.change.Change.{Change}
use Rattle.sms_rows.specs.table.Table.{row_at}
use Rattle.sms_concat.specs.declared.content.Part.{Part as PartOf}
use Rattle.sms_concat.specs.declared.content.Content.{Content}
use Rattle.sms_concat.specs.Joining.{content_joined}
use Rattle.sms_alphabet.specs.declared.concat_key.ConcatKey.{ConcatKey}
use Rattle.sms_alphabet.specs.declared.concat_key.ConcatReference.{ConcatReference}
use Rattle.sms_alphabet.specs.Concatenation.{counted, eight_bit_key, sixteen_bit_key, element_key, later, key_of as key_of_elements, key_found, header_key}
use Rattle.sms_alphabet.specs.declared.concat_key.ConcatReference.TheVariants.{EightBit, SixteenBit}
use Rattle.sms_alphabet.specs.declared.element.Element.{Element}
use Rattle.sms_alphabet.specs.declared.header_error.HeaderError.{HeaderError}
use Rattle.sms_alphabet.specs.HeaderGrammar.{header_at}
use Rattle.sms_relay.specs.declared.fault.RelayFault.{RelayFault}
use Rattle.sms_relay.specs.declared.frame.Rp.{Rp}
use Rattle.sms_relay.specs.declared.frame.Rp.TheVariants.{DataUnit, AckUnit, ErrorUnit, Smma}
use Rattle.sms_relay.specs.RelayReading.{down_at as unit_at}
use Rattle.sms_link.specs.declared.ending.Upward.{Upward}
use Rattle.sms_link.specs.declared.ending.Upward.TheVariants.{Opened, Ended}
use Rattle.sms_link.specs.LinkTurn.{Turn, taken, fired}
use Rattle.sms_tpdu.specs.declared.deliver.Deliver.{Deliver as DeliverOf}
use Rattle.sms_tpdu.specs.declared.carrier.Carrier.TheVariants.{InData}
use Rattle.sms_tpdu.specs.declared.down.Down.TheVariants.{Deliver, StatusReport, SubmitReport}
use Rattle.sms_tpdu.specs.TpduReading.{down_at}
use Rattle.sms_tpdu.specs.declared.down.Down.{Down}
use Rattle.sms_tpdu.specs.declared.fault.TpduFault.{TpduFault}
use Rattle.sms_handset_rows.specs.inbox.Groups.{with_part, entry_part, part_with, parts_to, is_among, part_number, part_numbers, joined_parts, alone, joined_content, joined_entry, part_entry, all_numbers, single_entry, group_of, key_of, mark_of, members}
use Rattle.sms_handset_rows.specs.declared.inbox.entry.Entry.{Entry}
use Rattle.sms_handset_rows.specs.inbox.Keys.{entry_key, last_key}
use Rattle.sms_handset_rows.specs.declared.inbox.entry.Group.{Group}
use Rattle.sms_handset_rows.specs.declared.inbox.discarded_group.DiscardedGroup.{DiscardedGroup}
use Rattle.sms_handset_rows.specs.declared.inbox.last_accepted.LastAccepted.{LastAccepted}
use Rattle.sms_handset_rows.specs.inbox.Doubles.{is_double}
use Rattle.sms_handset_rows.specs.declared.outbox.out_entry.OutEntry.{OutEntry}
use Rattle.sms_handset_rows.specs.outbox.Reports.{reported}
use Rattle.sms_handset.specs.Accepted.{Contains, IsPut, StoresAccepted, IsOfDiscarded}
use Rattle.sms_handset_draft.specs.Draft.{Draft, put_entry, put_out, Core, draft_of, link_of, with_turn}
use Rattle.sms_handset_draft.specs.Storing.{free_all, drop_all, ended, count_entry, keep, store_part, store_single, completed, marked}
use Rattle.sms_handset_draft.specs.Receiving.{accept, no_room, single_received, new_part_received, member_received, part_received, deliver_received, note, tpdu_received, acknowledge, data_received, unit_received}
use Rattle.sms_handset_draft.specs.MemoryAvailable.{has_room}
use Rattle.sms_handset_draft.specs.Outbox.{lapse_rows, lapse, follow, transfer_ended}
use Rattle.sms_handset_draft.specs.FramesAndTicks.{went_up, frame_heard, at_moment, timers_fired}
use Rattle.sms_handset.specs.HandsetEvent.{frame_received, ticked, acted, wrote, deleted, discarded}
use Rattle.sms_handset.specs.declared.refusal.Refusal.{Refusal}
use Rattle.sms_handset.specs.OwnersActs.{count_split, write, delete, discard}
use Rattle.sms_handset.proofs.KeptByStages.{AnyEntry, AnyTransfer, IfDone, KeptByEnds, KeptByMoves, KeptByOffers, KeptByWriting, acted_keeps, any_up, complete_keeps, delete_keeps, discard_keeps, holder_keeps, lapse_keeps, lapses_each, mark_keeps, offer_keeps, timers_keep, write_keeps}

-- ---- lists

among_end : {X : Type 0} (x : X) (xs : List X) → Among x (xs ++ x ∷ [])
among_end x [] = inl refl
among_end x (y ∷ ys) = inr (among_end x ys)

among_front : {X : Type 0} (x y : X) (xs : List X) → Among x xs → Among x (xs ++ y ∷ [])
among_front x y [] m = absurd m
among_front x y (z ∷ zs) m = ⊎_elim (λ (e : x ≡ z). inl e) (λ (r : Among x zs). inr (among_front x y zs r)) m

-- ---- the parts of a full group

extended : (a : Option (List PartOf)) (b : Option PartOf) (ps : List PartOf) → with_part a b ≡ Some ps → (qs : List PartOf) × (p : PartOf) × ((a ≡ Some qs) × (b ≡ Some p) × (ps ≡ qs ++ p ∷ []))
extended None b ps e = absurd cc
extended (Some qs) None ps e = absurd cc
extended (Some qs) (Some p) ps e = (qs, p, (refl, refl, let q : ps ≡ qs ++ p ∷ [] = cc in q))

part_there : (total k : ℕ) (es : List Entry) (ps : List PartOf) (e : Entry) → 0 < k → k ≤ total → parts_to total es ≡ Some ps → part_with k es ≡ Some e → (p : PartOf) × ((entry_part (Some e) ≡ Some p) × Among p ps)
part_there zero k es ps e a b h w = absurd (omega arith)
part_there (suc t) k es ps e a b h w =
    let x = extended (parts_to t es) (entry_part (part_with (suc t) es)) ps h in
    ⊎_elim
    (λ (q : k ≡ suc t). (
      x.1,
      (
        ap (λ (o : Option Entry). entry_part o) (sym w) ∙ ap (λ (n : ℕ). entry_part (part_with n es)) q ∙ x.2.1,
        subst (λ (l : List PartOf). Among x.1 l) (sym x.2.2) (among_end x.1 x.0),
      ),
    ))
    (λ (q : k < suc t).
    let r = part_there t k es x.0 e a (let s : k ≤ t = omega arith in s) x.2.0 w in
    (r.0, (r.1.0, subst (λ (l : List PartOf). Among r.0 l) (sym x.2.2) (among_front r.0 x.1 x.0 r.1.1))))
    (eq-or-lt_of_le b)

-- a new part is found under its number
new_part : (n : ℕ) (es : List Entry) (e : Entry) → is_among n (part_numbers es) ≡ false → part_number e.message ≡ n → part_with n (es ++ e ∷ []) ≡ Some e
new_part n [] e h w = cond-true (part_number e.message == n) (Some e) None (eq-eqb (part_number e.message) n w)
new_part n (x ∷ xs) e h w =
    let r = or_parts (part_number x.message == n) (is_among n (part_numbers xs)) h in
    cond-false (part_number x.message == n) (Some x) (part_with n (xs ++ e ∷ [])) r.0 ∙ new_part n xs e r.1 w

joined_from : (o : Option (List PartOf)) (content : Content) → joined_parts o ≡ Some content → (ps : List PartOf) × ((o ≡ Some ps) × (content_joined ps ≡ Some content))
joined_from None content e = absurd cc
joined_from (Some ps) content e = (ps, (refl, e))

-- ---- an entry that was put and stands

abbrev Stored : Draft → List ℕ → DeliverOf → Type 0
Stored d tpdu m = (e : Entry) × (IsPut d.changes d.rows e × Contains tpdu m e.message)

put_holds : (e : Entry) (d : Draft) → IsPut (put_entry e d).changes (put_entry e d).rows e
put_holds e d = (among_end (Put e) d.changes.entries, put_among entry_key e e d.rows.entries (inl refl))

freed_last : (es : List Entry) (e : Entry) (d : Draft) → IsPut (free_all (es ++ e ∷ []) d).changes (free_all (es ++ e ∷ []) d).rows (alone e)
freed_last [] e d = put_holds (alone e) d
freed_last (x ∷ xs) e d = freed_last xs e (put_entry (alone x) d)

ended_stores : (g : Group) (n k : ℕ) (tpdu : List ℕ) (m : DeliverOf) (es : List Entry) (o : Option Content) (d : Draft)
    → 0 < n → n ≤ g.total → g.source ≡ m.originating_address → is_among n (part_numbers es) ≡ false
    → joined_content g (es ++ part_entry k g n tpdu ∷ []) ≡ o → Stored (ended g (es ++ part_entry k g n tpdu ∷ []) o d) tpdu m
ended_stores g n k tpdu m es None d low high from new j = (alone (part_entry k g n tpdu), (freed_last es (part_entry k g n tpdu) d, refl))
ended_stores g n k tpdu m es (Some content) d low high from new j =
    let e : Entry = part_entry k g n tpdu in
    let all : List Entry = es ++ e ∷ [] in
    let x = joined_from (parts_to g.total all) content j in
    let p = part_there g.total n all x.0 e low high x.1.0 (new_part n es e new refl) in (
      joined_entry g all content,
      (
        put_holds (joined_entry g all content) (drop_all all d),
        (from, (x.0, p.0, (x.1.1, p.1.0, p.1.1))),
      ),
    )

part_stores : (g : Group) (n : ℕ) (tpdu : List ℕ) (m : DeliverOf) (es : List Entry) (d : Draft)
    → 0 < n → n ≤ g.total → g.source ≡ m.originating_address → is_among n (part_numbers es) ≡ false → Stored (store_part g n tpdu es d) tpdu m
part_stores g n tpdu m es d low high from new =
    let k = d.rows.counters.entry in
    let e : Entry = part_entry k g n tpdu in
    let all : List Entry = es ++ e ∷ [] in
    cond_both (all_numbers g.total (part_numbers all)) (ended g all (joined_content g all) (keep e d)) (keep e d) (λ (z : Draft). Stored z tpdu m)
    (λ t. ended_stores g n k tpdu m es (joined_content g all) (keep e d) low high from new refl)
    (λ t. (e, (put_holds e (count_entry d), (refl, from))))

single_stores : (tpdu : List ℕ) (m : DeliverOf) (d : Draft) → Stored (store_single tpdu d) tpdu m
single_stores tpdu m d = (single_entry d.rows.counters.entry tpdu, (put_holds (single_entry d.rows.counters.entry tpdu) (count_entry d), refl))

-- ---- what accepts nothing

abbrev NoneAccepted : Draft → Type 0
NoneAccepted d = d.changes.last ≡ []

ends_accept_none : KeptByEnds NoneAccepted AnyTransfer
ends_accept_none = record {
  entry_settled = λ v reference n o d s e h. h;
  notice_put = λ n is_second due d i h. h;
  notice_removed = λ n d h. h;
}

-- as long as no unit is answered
abbrev NoReference : ℕ → Type 0
NoReference reference = ⊥

abbrev NoUnit : List ℕ → Result Rp RelayFault → Type 0
NoUnit unit r = ⊥

none_kept : KeptByMoves NoneAccepted NoReference NoUnit AnyTransfer
none_kept = record {
  ends = ends_accept_none;
  entry_put = λ e d h. h;
  entry_removed = λ n d h. h;
  last_put = λ l d no h. absurd no;
  mark_put = λ m d h. h;
  mark_removed = λ n d h. h;
  entry_counted = λ d h. h;
  memory_flagged = λ is_full d h. h;
  data_answered = λ unit reference centre tpdu no. no;
  fault_answered = λ unit fault no. no;
  acknowledged = λ reference tag d no h. absurd no;
  full = λ reference tag d no h. absurd no;
  unreadable = λ reference tag d no h. absurd no;
  rejected = λ reference tag fault d no h. absurd no;
  status_noted = λ o status d i h. h;
  notice_wanted = λ d h. h;
}

-- ---- what is accepted

abbrev Law : List DiscardedGroup → Draft → Type 0
Law marks d = StoresAccepted marks d.changes d.rows

none_accepted : (marks : List DiscardedGroup) (d : Draft) → d.changes.last ≡ [] → Law marks d
none_accepted marks d e l a m f = absurd (subst (λ (cs : List (Change LastAccepted)). Among (Put l) cs) e a)

-- the one that is put
only_put : (x l : LastAccepted) (cs : List (Change LastAccepted)) → cs ≡ [] → Among (Put l) (cs ++ Put x ∷ []) → l ≡ x
only_put x l cs e a =
    let b : Among (Put l) (Put x ∷ []) = subst (λ (ds : List (Change LastAccepted)). Among (Put l) (ds ++ Put x ∷ [])) e a in
    ⊎_elim (λ (q : Put l ≡ Put x). let r : l ≡ x = cc in r) (λ (q : ⊥). absurd q) b

accept_stores : (marks : List DiscardedGroup) (r : ℕ) (tag : Holder) (tpdu : List ℕ) (d : Draft) → d.changes.last ≡ []
    → ((m : DeliverOf) → down_at InData tpdu ≡ Ok (Deliver m) → IsOfDiscarded marks m ⊎ Stored d tpdu m) → Law marks (accept r tag tpdu d)
accept_stores marks r tag tpdu d e h l a m f =
    let x : LastAccepted = record { reference = r; tpdu = tpdu } in
    let q : l ≡ x = only_put x l d.changes.last e a in
    let t : l.tpdu ≡ tpdu = ap (λ (z : LastAccepted). z.tpdu) q in
    subst (λ (octets : List ℕ). IsOfDiscarded marks m ⊎ Stored d octets m) (sym t)
    (h m (subst (λ (octets : List ℕ). down_at InData octets ≡ Ok (Deliver m)) t f))

-- what is read of the TPDU is this DELIVER
abbrev Reads : List ℕ → DeliverOf → Type 0
Reads tpdu m = down_at InData tpdu ≡ Ok (Deliver m)

same_deliver : (tpdu : List ℕ) (m n : DeliverOf) → Reads tpdu m → Reads tpdu n → m ≡ n
same_deliver tpdu m n a b =
    let x : Result Down TpduFault = Ok (Deliver m) in
    let y : Result Down TpduFault = Ok (Deliver n) in
    let e : x ≡ y = sym a ∙ b in cc

single_law : (marks : List DiscardedGroup) (r : ℕ) (tag : Holder) (tpdu : List ℕ) (d : Draft) → d.changes.last ≡ [] → Law marks (single_received r tag tpdu d)
single_law marks r tag tpdu d e =
    cond_both (has_room d) (accept r tag tpdu (store_single tpdu d)) (no_room r tag d) (λ (z : Draft). Law marks z)
    (λ t. accept_stores marks r tag tpdu (store_single tpdu d) e (λ m f. inr (single_stores tpdu m d)))
    (λ t. none_accepted marks (no_room r tag d) e)

-- the changes of what was accepted last are not touched by storing
completed_last : (g : Group) (es : List Entry) (d : Draft) → d.changes.last ≡ [] → (completed g es d).changes.last ≡ []
completed_last g es d e = complete_keeps NoneAccepted NoReference NoUnit AnyTransfer none_kept g es d e

new_part_law : (marks : List DiscardedGroup) (r : ℕ) (tag : Holder) (tpdu : List ℕ) (m : DeliverOf) (g : Group) (n : ℕ) (es : List Entry) (d : Draft) → d.changes.last ≡ []
    → Reads tpdu m → 0 < n → n ≤ g.total → g.source ≡ m.originating_address → is_among n (part_numbers es) ≡ false → Law marks (new_part_received r tag tpdu g n es d)
new_part_law marks r tag tpdu m g n es d e reads low high from new =
    cond_both (has_room d) (accept r tag tpdu (store_part g n tpdu es d)) (no_room r tag d) (λ (z : Draft). Law marks z)
    (λ t. accept_stores marks r tag tpdu (store_part g n tpdu es d) (completed_last g (es ++ part_entry d.rows.counters.entry g n tpdu ∷ []) (keep (part_entry d.rows.counters.entry g n tpdu) d) e)
    (λ o f. inr (part_stores g n tpdu o es d low high (from ∙ ap (λ (z : DeliverOf). z.originating_address) (same_deliver tpdu m o reads f)) new)))
    (λ t. none_accepted marks (no_room r tag d) e)

member_law : (marks : List DiscardedGroup) (r : ℕ) (tag : Holder) (tpdu : List ℕ) (m : DeliverOf) (g : Group) (n : ℕ) (es : List Entry) (d : Draft) → d.changes.last ≡ []
    → Reads tpdu m → 0 < n → n ≤ g.total → g.source ≡ m.originating_address → Law marks (member_received r tag tpdu g n es d)
member_law marks r tag tpdu m g n es d e reads low high from =
    cond_both (is_among n (part_numbers es)) (single_received r tag tpdu d) (new_part_received r tag tpdu g n es d) (λ (z : Draft). Law marks z)
    (λ t. single_law marks r tag tpdu d e) (λ t. new_part_law marks r tag tpdu m g n es d e reads low high from t)

marked_last : (n : ℕ) (k : DiscardedGroup) (d : Draft) → d.changes.last ≡ [] → (marked n k d).changes.last ≡ []
marked_last n k d e = mark_keeps NoneAccepted NoReference NoUnit AnyTransfer none_kept n k d e

part_law : (marks : List DiscardedGroup) (r : ℕ) (tag : Holder) (tpdu : List ℕ) (m : DeliverOf) (key : ConcatKey) (o : Option DiscardedGroup) (d : Draft) → d.changes.last ≡ []
    → Reads tpdu m → key_of m ≡ Some key → mark_of (group_of m.originating_address key) marks ≡ o → 0 < key.number → key.number ≤ key.total
    → Law marks (part_received r tag tpdu (group_of m.originating_address key) key.number o d)
part_law marks r tag tpdu m key None d e reads k marked low high =
    member_law marks r tag tpdu m (group_of m.originating_address key) key.number (members (group_of m.originating_address key) d.rows.entries) d e reads low high refl
part_law marks r tag tpdu m key (Some mark) d e reads k found low high =
    cond_both (is_among key.number mark.seen) (single_received r tag tpdu d) (accept r tag tpdu (marked key.number mark d)) (λ (z : Draft). Law marks z)
    (λ t. single_law marks r tag tpdu d e)
    (λ t. accept_stores marks r tag tpdu (marked key.number mark d) (marked_last key.number mark d e)
    (λ n f. inl (subst (λ (z : DeliverOf). IsOfDiscarded marks z) (same_deliver tpdu m n reads f) (key, mark, (k, found)))))

-- a key is of a number from 1 to its total
abbrev pub IsCounted : Option ConcatKey → Type 0
IsCounted None = Unit {0}
IsCounted (Some key) = (0 < key.number) × (key.number ≤ key.total)

counted_counts : (reference : ConcatReference) (total number : ℕ) → IsCounted (counted reference total number)
counted_counts reference total number =
    let there : Option ConcatKey = Some (record { reference = reference; total = total; number = number }) in
    cond_both (nat_lt 0 number && nat_le number total) there None (λ (z : Option ConcatKey). IsCounted z)
    (λ t. let p = and_parts (nat_lt 0 number) (nat_le number total) t in (ltb-true 0 number p.0, leb-true number total p.1)) (λ t. tt)

eight_counts : (octets : List ℕ) → IsCounted (eight_bit_key octets)
eight_counts [] = tt
eight_counts (a ∷ []) = tt
eight_counts (a ∷ b ∷ []) = tt
eight_counts (a ∷ b ∷ c ∷ []) = counted_counts (EightBit a) b c
eight_counts (a ∷ b ∷ c ∷ d ∷ rest) = tt

sixteen_counts : (octets : List ℕ) → IsCounted (sixteen_bit_key octets)
sixteen_counts [] = tt
sixteen_counts (a ∷ []) = tt
sixteen_counts (a ∷ b ∷ []) = tt
sixteen_counts (a ∷ b ∷ c ∷ []) = tt
sixteen_counts (a ∷ b ∷ c ∷ d ∷ []) = counted_counts (SixteenBit (256 * a + b)) c d
sixteen_counts (a ∷ b ∷ c ∷ d ∷ e ∷ rest) = tt

element_counts : (e : Element) → IsCounted (element_key e)
element_counts e =
    cond_both (e.identifier == 0) (eight_bit_key e.octets) (cond (e.identifier == 8) (sixteen_bit_key e.octets) None) (λ (z : Option ConcatKey). IsCounted z)
    (λ t. eight_counts e.octets)
    (λ t. cond_both (e.identifier == 8) (sixteen_bit_key e.octets) None (λ (z : Option ConcatKey). IsCounted z) (λ u. sixteen_counts e.octets) (λ u. tt))

later_counts : (a b : Option ConcatKey) → IsCounted a → IsCounted b → IsCounted (later a b)
later_counts a None p q = p
later_counts a (Some k) p q = q

elements_count : (es : List Element) → IsCounted (key_of_elements es)
unfolding key_of_elements
elements_count [] = tt
elements_count (e ∷ es) = later_counts (element_key e) (key_of_elements es) (element_counts e) (elements_count es)

found_counts : (r : Result (List Element) HeaderError) → IsCounted (key_found r)
found_counts (Ok es) = elements_count es
found_counts (Err f) = tt

pub header_counts : (indicator : Bool) (octets : List ℕ) → IsCounted (header_key indicator octets)
header_counts false octets = tt
header_counts true octets = found_counts (header_at octets)

deliver_law : (marks : List DiscardedGroup) (r : ℕ) (tag : Holder) (tpdu : List ℕ) (m : DeliverOf) (o : Option ConcatKey) (d : Draft) → d.changes.last ≡ [] → d.rows.marks ≡ marks
    → Reads tpdu m → key_of m ≡ o → IsCounted o → Law marks (deliver_received r tag tpdu m o d)
deliver_law marks r tag tpdu m None d e same reads k c = single_law marks r tag tpdu d e
deliver_law marks r tag tpdu m (Some key) d e same reads k c =
    let g : Group = group_of m.originating_address key in
    part_law marks r tag tpdu m key (mark_of g d.rows.marks) d e reads k (ap (λ (ms : List DiscardedGroup). mark_of g ms) (sym same)) c.0 c.1

tpdu_law : (marks : List DiscardedGroup) (r : ℕ) (tag : Holder) (tpdu : List ℕ) (t : Result Down TpduFault) (d : Draft) → d.changes.last ≡ [] → d.rows.marks ≡ marks
    → down_at InData tpdu ≡ t → Law marks (tpdu_received r tag tpdu t d)
tpdu_law marks r tag tpdu (Ok (Deliver m)) d e same q =
    deliver_law marks r tag tpdu m (key_of m) d e same q refl (header_counts m.user_data_header_indicator m.user_data.octets)
tpdu_law marks r tag tpdu (Ok (StatusReport s)) d e same q =
    accept_stores marks r tag tpdu (note s.status (reported s d.rows.outbox) d) (noted_last s.status (reported s d.rows.outbox) d e)
    (λ m f.
    let x : Result Down TpduFault = Ok (StatusReport s) in
    let y : Result Down TpduFault = Ok (Deliver m) in
    let z : x ≡ y = sym q ∙ f in absurd cc)
  where
    noted_last : (status : ℕ) (o : Option OutEntry) (d : Draft) → d.changes.last ≡ [] → (note status o d).changes.last ≡ []
    noted_last status None d e = e
    noted_last status (Some o) d e = e
tpdu_law marks r tag tpdu (Ok (SubmitReport s)) d e same q = none_accepted marks (tpdu_received r tag tpdu (Ok (SubmitReport s)) d) e
tpdu_law marks r tag tpdu (Err f) d e same q = none_accepted marks (tpdu_received r tag tpdu (Err f) d) e

data_law : (marks : List DiscardedGroup) (r : ℕ) (tag : Holder) (tpdu : List ℕ) (d : Draft) → d.changes.last ≡ [] → d.rows.marks ≡ marks → Law marks (data_received r tag tpdu d)
data_law marks r tag tpdu d e same =
    cond_both (is_double tpdu (row_at last_key r d.rows.last)) (acknowledge r tag d) (tpdu_received r tag tpdu (down_at InData tpdu) d) (λ (z : Draft). Law marks z)
    (λ t. none_accepted marks (acknowledge r tag d) e) (λ t. tpdu_law marks r tag tpdu (down_at InData tpdu) d e same refl)

unit_law : (marks : List DiscardedGroup) (tag : Holder) (unit : List ℕ) (u : Result Rp RelayFault) (d : Draft) → d.changes.last ≡ [] → d.rows.marks ≡ marks → Law marks (unit_received tag unit u d)
unit_law marks tag unit (Ok (DataUnit r c tpdu)) d e same = data_law marks r tag tpdu d e same
unit_law marks tag unit (Ok (AckUnit r tpdu)) d e same = none_accepted marks d e
unit_law marks tag unit (Ok (ErrorUnit r c tpdu)) d e same = none_accepted marks d e
unit_law marks tag unit (Ok (Smma r)) d e same = none_accepted marks d e
unit_law marks tag unit (Err f) d e same = none_accepted marks (unit_received tag unit (Err f) d) e

-- ---- what follows touches none of these

pub record Untouched (d z : Draft) : Type 0 where
  pub entries : z.rows.entries ≡ d.rows.entries
  pub changed : z.changes.entries ≡ d.changes.entries
  pub last : z.changes.last ≡ d.changes.last
  pub number : z.rows.counters.entry ≡ d.rows.counters.entry

pub kept : (d : Draft) → Untouched d d
kept d = record { entries = refl; changed = refl; last = refl; number = refl }

preserved_law : (marks : List DiscardedGroup) (d z : Draft) → Untouched d z → Law marks d → Law marks z
preserved_law marks d z k h l a m f =
    ⊎_elim (λ (x : IsOfDiscarded marks m). inl x)
    (λ (x : Stored d l.tpdu m). inr (x.0, ((subst (λ (cs : List (Change Entry)). Among (Put x.0) cs) (sym k.changed) x.1.0.0, subst (λ (es : List Entry). Among x.0 es) (sym k.entries) x.1.0.1), x.1.1)))
    (h l (subst (λ (cs : List (Change LastAccepted)). Among (Put l) cs) k.last a) m f)

-- an entry of the outbox, a link and RP-SMMA are none of these
out_untouched : (d : Draft) (o : OutEntry) (z : Draft) → AnyEntry o → Untouched d z → Untouched d (put_out o z)
out_untouched d o z known k = record { entries = k.entries; changed = k.changed; last = k.last; number = k.number }

pub ends_untouched : (d : Draft) → KeptByEnds (Untouched d) AnyTransfer
ends_untouched d = record {
  entry_settled = λ v reference n o z s e k. record { entries = k.entries; changed = k.changed; last = k.last; number = k.number };
  notice_put = λ n is_second due z i k. record { entries = k.entries; changed = k.changed; last = k.last; number = k.number };
  notice_removed = λ n z k. record { entries = k.entries; changed = k.changed; last = k.last; number = k.number };
}

lapsed_untouched : (d z : Draft) → Untouched d z → Untouched d (lapse_rows z.rows.outbox (record z { is_recovered = false }))
lapsed_untouched d z k =
    lapses_each (Untouched d) AnyEntry (λ o known. tt) (out_untouched d) z.rows.outbox (record z { is_recovered = false }) (λ o i. tt)
    (record { entries = k.entries; changed = k.changed; last = k.last; number = k.number })

offers_untouched : (d : Draft) → KeptByOffers (Untouched d) (Untouched d)
offers_untouched d = record {
  nothing = λ z k. k;
  entry = λ o z due idle k. record { entries = k.entries; changed = k.changed; last = k.last; number = k.number };
  notice_again = λ n z i idle k. record { entries = k.entries; changed = k.changed; last = k.last; number = k.number };
  notice_first = λ z next idle k. record { entries = k.entries; changed = k.changed; last = k.last; number = k.number };
}

pub follow_preserved : (d : Draft) → Untouched d (follow d)
follow_preserved d = offer_keeps (Untouched d) (Untouched d) (offers_untouched d) (lapse d) (lapse_keeps (Untouched d) (lapsed_untouched d) d (kept d))

-- ---- a frame

up_law : (marks : List DiscardedGroup) (tag : Holder) (up : Option Upward) (d : Draft) → d.changes.last ≡ [] → d.rows.marks ≡ marks → Law marks (went_up tag up d)
up_law marks tag None d e same = none_accepted marks d e
up_law marks tag (Some (Opened unit)) d e same = unit_law marks tag unit (unit_at unit) d e same
up_law marks tag (Some (Ended transfer ending)) d e same = none_accepted marks (transfer_ended transfer ending d) (holder_keeps NoneAccepted AnyTransfer ends_accept_none ending transfer.reference transfer.tag d tt e)

pub frame_stores : (octets : List ℕ) (tag : Holder) (c : Core) → StoresAccepted c.rows.marks (frame_received octets tag c).changes (frame_received octets tag c).rows
frame_stores octets tag c =
    let turn : Turn = taken octets (link_of (draft_of c)) in
    let d : Draft = frame_heard tag turn (draft_of c) in
    preserved_law c.rows.marks d (follow d) (follow_preserved d) (up_law c.rows.marks tag turn.out.up (with_turn turn (draft_of c)) refl refl)

-- ---- other events accept nothing

pub tick_stores : (now : ℕ) (c : Core) → StoresAccepted c.rows.marks (ticked now c).changes (ticked now c).rows
tick_stores now c =
    let o : Draft = at_moment now (draft_of c) in
    let turn : Turn = fired o.moment (link_of o) in
    let d : Draft = timers_fired turn o in
    preserved_law c.rows.marks d (follow d) (follow_preserved d) (none_accepted c.rows.marks d (timers_keep NoneAccepted AnyTransfer ends_accept_none turn o (any_up turn.out.up (with_turn turn o)) refl))

abbrev pub LawIfDone : List DiscardedGroup → Result Draft Refusal → Type 0
LawIfDone marks r = IfDone (Law marks) r

acted_law : (marks : List DiscardedGroup) (r : Result Draft Refusal) → IfDone NoneAccepted r → LawIfDone marks (acted r)
acted_law marks r h = acted_keeps NoneAccepted (Law marks) (λ d e. preserved_law marks d (follow d) (follow_preserved d) (none_accepted marks d e)) r h

abbrev NoneWritten : Address → Bool → Bool → List PartOf → Draft → Type 0
NoneWritten to report is_long ps d = NoneAccepted d

writes_accept_none : KeptByWriting NoneAccepted NoneWritten
writes_accept_none = record { one = λ to report is_long p ps d h. h; all = λ to report is_long d h. h }

count_split_none : (is_long : Bool) (d : Draft) → NoneAccepted d → NoneAccepted (count_split is_long d)
count_split_none false d h = h
count_split_none true d h = h

pub write_stores : (text to : List ℕ) (report : Bool) (c : Core) → LawIfDone c.rows.marks (wrote text to report c)
write_stores text to report c =
    acted_law c.rows.marks (write text to report (draft_of c))
    (write_keeps NoneAccepted NoneWritten writes_accept_none text to report (draft_of c) (λ ps a split_is to_is room. count_split_none (nat_lt 1 (length ps)) (draft_of c) refl))

pub delete_stores : (n : ℕ) (c : Core) → LawIfDone c.rows.marks (deleted n c)
delete_stores n c = acted_law c.rows.marks (delete n (draft_of c)) (delete_keeps NoneAccepted NoReference NoUnit AnyTransfer none_kept n (draft_of c) refl refl)

pub discard_stores : (n : ℕ) (c : Core) → LawIfDone c.rows.marks (discarded n c)
discard_stores n c = acted_law c.rows.marks (discard n (draft_of c)) (discard_keeps NoneAccepted NoReference NoUnit AnyTransfer none_kept n (draft_of c) refl)
