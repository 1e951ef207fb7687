-- Through all stages the open groups change as is told, and each entry has a number that was given.
use Rattle.std.proofs.Common.{ℕ, ◌<◌, List, ◌≤◌, arith, [], ◌∷◌, ◌≡◌, sym, subst, ⊎_elim, ◌+◌, ◌++◌, refl, ◌∙◌, ap, false, inl, inr, Option, Some, None, append-nil, Bool, true, cond, le_of_eq, Result, Ok, Err, true≢false, eqb-true}
use Rattle.std.specs.List.{AllByRecursion}
use Rattle.std.specs.Prelude.{◌==◌, nat_lt, length}
use Rattle.std.proofs.lemmas.Bool.{cond_both, cond-false, cond-true}
use Rattle.sms_base.specs.Among.{Among}
use Rattle.sms_base.specs.declared.holder.Holder.{Holder}
use Rattle.sms_base.specs.declared.address.Address.{Address}
use Rattle.sms_rows.specs.table.Table.{without, insert, put, Rises, row_at}
use Rattle.sms_rows.proofs.table.Tables.{insert_behind, without_behind, rises_without, rises_put, found_among, found_key}
use Rattle.sms_concat.specs.declared.content.Content.{Content}
use Rattle.sms_alphabet.specs.declared.concat_key.ConcatKey.{ConcatKey}
use Rattle.sms_concat.specs.declared.content.Part.{Part as PartOf}
use Rattle.sms_relay.specs.declared.fault.RelayFault.{RelayFault}
use Rattle.sms_relay.specs.declared.frame.Rp.{Rp}
use Rattle.sms_relay.specs.declared.frame.Rp.TheVariants.{DataUnit, AckUnit, ErrorUnit, Smma}
use Rattle.sms_relay.specs.RelayReading.{down_at as unit_at}
use Rattle.sms_link.specs.declared.ending.Upward.TheVariants.{Opened, Ended}
use Rattle.sms_link.specs.declared.ending.Upward.{Upward}
use Rattle.sms_link.specs.LinkTurn.{Turn, taken, fired}
use Rattle.sms_tpdu.specs.declared.deliver.Deliver.{Deliver as DeliverOf}
use Rattle.sms_tpdu.specs.declared.down.Down.{Down}
use Rattle.sms_tpdu.specs.declared.down.Down.TheVariants.{Deliver, StatusReport, SubmitReport}
use Rattle.sms_tpdu.specs.declared.fault.TpduFault.{TpduFault}
use Rattle.sms_tpdu.specs.declared.carrier.Carrier.TheVariants.{InData}
use Rattle.sms_tpdu.specs.TpduReading.{down_at}
use Rattle.sms_handset_rows.specs.declared.inbox.entry.Entry.{Entry}
use Rattle.sms_handset_rows.specs.inbox.Keys.{entry_key, last_key}
use Rattle.sms_handset_rows.specs.inbox.SoundInbox.{AreEntries}
use Rattle.sms_handset_rows.proofs.inbox.GroupMembers.{all_without, members_put, all_without_self, others_stay, members_all_without, apart_groups, without_apart, members_append, one_group, other_group, members_among, members_without, same_entry, among_members}
use Rattle.sms_handset_rows.specs.declared.inbox.entry.Group.{Group}
use Rattle.sms_handset_rows.specs.inbox.Groups.{alone, members, is_part_of, first_number, joined_entry, single_entry, all_numbers, is_same_group, joined_content, part_entry, part_numbers, is_among, group_of, mark_of, key_of, is_open_part}
use Rattle.sms_handset_rows.specs.declared.inbox.open_group.Regrouping.TheVariants.{Unchanged, Closed}
use Rattle.sms_handset_rows.proofs.inbox.Indexing.{all_stay, one_grows, one_closes}
use Rattle.sms_handset_rows.proofs.inbox.SoundEntries.{no_part}
use Rattle.sms_handset_rows.specs.declared.inbox.open_group.Regrouping.{Regrouping}
use Rattle.sms_handset_rows.specs.inbox.OpenGroups.{one_more, open_at}
use Rattle.sms_handset_rows.specs.declared.inbox.discarded_group.DiscardedGroup.{DiscardedGroup}
use Rattle.sms_handset_rows.specs.inbox.Doubles.{is_double}
use Rattle.sms_handset_rows.specs.declared.inbox.entry.Message.{Message}
use Rattle.sms_handset_rows.specs.declared.inbox.entry.Message.TheVariants.{Single, Part, Joined}
use Rattle.sms_handset_rows.specs.declared.outbox.out_entry.OutEntry.{OutEntry}
use Rattle.sms_handset_rows.specs.outbox.Reports.{reported}
use Rattle.sms_handset_rows.specs.outbox.Keys.{out_key}
use Rattle.sms_handset_rows.specs.outbox.References.{is_unfinished}
use Rattle.sms_handset_draft.specs.declared.rows.Rows.{Rows}
use Rattle.sms_handset_draft.specs.Regrouping.{Numbered, Regroups, IsRegrouped}
use Rattle.sms_handset.specs.SoundRows.{IsSound}
use Rattle.sms_handset_draft.specs.Draft.{Draft, remove_entry, put_entry, put_mark, remove_mark, Core, draft_of, link_of, with_turn, remove_out, put_counters}
use Rattle.sms_handset_draft.specs.Storing.{drop_all, free_all, ended, keep, store_single, store_part, marked}
use Rattle.sms_handset_draft.specs.GroupChanges.{stored_groups, new_part_groups, member_groups, part_groups, deliver_groups, tpdu_groups, data_groups, unit_groups, up_groups, frame_groups}
use Rattle.sms_handset.proofs.Accepting.{Untouched, ends_untouched, follow_preserved, kept}
use Rattle.sms_handset_draft.specs.Outbox.{follow, holder_concluded}
use Rattle.sms_handset_draft.specs.MemoryAvailable.{has_room, freed, want_notice}
use Rattle.sms_handset_draft.specs.Receiving.{accept, no_room, single_received, new_part_received, member_received, part_received, deliver_received, note, tpdu_received, acknowledge, data_received, unit_received}
use Rattle.sms_handset_draft.specs.FramesAndTicks.{went_up, frame_heard, at_moment, timers_fired}
use Rattle.sms_handset.specs.HandsetEvent.{frame_received, ticked, acted, wrote, deleted, discarded}
use Rattle.sms_handset.specs.declared.refusal.Refusal.{Refusal}
use Rattle.sms_handset.specs.OwnersActs.{write_part, count_split, delete_out, delete_in, discard_group, discard_members, discard_in, discard_at, write, delete, discard}
use Rattle.sms_handset.specs.declared.refusal.Refusal.TheVariants.{StillOpen, NoEntry, TooManyDiscarded}
use Rattle.sms_handset.specs.Planning.{IsRevised, IsRevisedIfDone}
use Rattle.sms_handset.proofs.Resting.{write_rests, delete_rests, discard_rests}
use Rattle.sms_handset.proofs.KeptByStages.{AnyTransfer, IfDone, KeptByWriting, acted_keeps, any_up, holder_keeps, timers_keep, write_keeps}

-- ---- numbers that were given

abbrev Below : ℕ → List Entry → Type 0
Below k es = AllByRecursion (λ (e : Entry). e.number < k) es

below_more : (k m : ℕ) (es : List Entry) → k ≤ m → Below k es → Below m es
below_more k m [] l h = tt
below_more k m (x ∷ xs) l h = (omega (arith, h.0), below_more k m xs l h.1)

below_without : (k n : ℕ) (es : List Entry) → Below k es → Below k (without entry_key n es)
below_without k n [] h = tt
below_without k n (x ∷ xs) h =
    cond_both (x.number == n) (without entry_key n xs) (x ∷ without entry_key n xs) (λ (l : List Entry). Below k l)
    (λ t. below_without k n xs h.1) (λ t. (h.0, below_without k n xs h.1))

below_insert : (k : ℕ) (x : Entry) (es : List Entry) → x.number < k → Below k es → Below k (insert entry_key x es)
below_insert k x [] l h = (l, tt)
below_insert k x (y ∷ ys) l h =
    cond_both (nat_lt x.number y.number) (x ∷ y ∷ ys) (y ∷ insert entry_key x ys) (λ (z : List Entry). Below k z)
    (λ t. (l, h)) (λ t. (h.0, below_insert k x ys l h.1))

below_put : (k : ℕ) (x : Entry) (es : List Entry) → x.number < k → Below k es → Below k (put entry_key x es)
below_put k x es l h = below_insert k x (without entry_key x.number es) l (below_without k x.number es h)

below_among : (k : ℕ) (x : Entry) (es : List Entry) → Below k es → Among x es → x.number < k
below_among k x [] h m = elim m [ ]
below_among k x (y ∷ ys) h m = ⊎_elim
    (λ (e : x ≡ y). subst (λ (z : Entry). z.number < k) (sym e) h.0)
    (λ (r : Among x ys). below_among k x ys h.1 r)
    m

-- a row under a number that was not given stands last
put_last : (x : Entry) (es : List Entry) → Below x.number es → put entry_key x es ≡ es ++ x ∷ []
put_last x es h = ap (λ (l : List Entry). insert entry_key x l) (no_number x.number es h) ∙ last x es h
  where
    no_number : (k : ℕ) (es : List Entry) → Below k es → without entry_key k es ≡ es
    no_number k [] h = refl
    no_number k (y ∷ ys) h = without_behind entry_key k y ys (λ e. absurd (omega (arith, e, h.0))) ∙ ap (λ (l : List Entry). y ∷ l) (no_number k ys h.1)

    last : (x : Entry) (es : List Entry) → Below x.number es → insert entry_key x es ≡ es ++ x ∷ []
    last x [] h = refl
    last x (y ∷ ys) h = insert_behind entry_key x y ys (let l : y.number ≤ x.number = omega (arith, h.0) in l) ∙ ap (λ (l : List Entry). y ∷ l) (last x ys h.1)

given_below : (k : ℕ) (es : List Entry) → AreEntries k es → Below k es
given_below k [] h = tt
given_below k (x ∷ xs) h = (h.0.0.1, given_below k xs h.1)

pub sound_numbers : (rows : Rows) → IsSound rows → Numbered rows
sound_numbers rows h = given_below rows.counters.entry rows.entries h.entries

-- ---- entries that leave, or become entries of their own

dropped_entries : (xs : List Entry) (d : Draft) → (drop_all xs d).rows.entries ≡ all_without xs d.rows.entries
dropped_entries [] d = refl
dropped_entries (x ∷ xs) d = dropped_entries xs (remove_entry x.number d)

freed_members : (g : Group) (xs : List Entry) (d : Draft) → members g (free_all xs d).rows.entries ≡ all_without xs (members g d.rows.entries)
freed_members g [] d = refl
freed_members g (x ∷ xs) d =
    freed_members g xs (put_entry (alone x) d) ∙ ap (λ (l : List Entry). all_without xs l) (members_put g (alone x) d.rows.entries refl)

-- what stands of the entries and of the numbers given
pub record EntriesHold (k : ℕ) (d : Draft) : Type 0 where
  pub order : Rises entry_key d.rows.entries
  pub counter : d.rows.counters.entry ≡ k
  pub below : Below k d.rows.entries

removed_holds : (k n : ℕ) (d : Draft) → EntriesHold k d → EntriesHold k (remove_entry n d)
removed_holds k n d s = record {
  order = rises_without entry_key n d.rows.entries s.order;
  counter = s.counter;
  below = below_without k n d.rows.entries s.below;
}

put_holds : (k : ℕ) (x : Entry) (d : Draft) → x.number < k → EntriesHold k d → EntriesHold k (put_entry x d)
put_holds k x d l s = record {
  order = rises_put entry_key x d.rows.entries s.order;
  counter = s.counter;
  below = below_put k x d.rows.entries l s.below;
}

dropped_hold : (k : ℕ) (xs : List Entry) (d : Draft) → EntriesHold k d → EntriesHold k (drop_all xs d)
dropped_hold k [] d s = s
dropped_hold k (x ∷ xs) d s = dropped_hold k xs (remove_entry x.number d) (removed_holds k x.number d s)

freed_hold : (k : ℕ) (xs : List Entry) (d : Draft) → Below k xs → EntriesHold k d → EntriesHold k (free_all xs d)
freed_hold k [] d b s = s
freed_hold k (x ∷ xs) d b s = freed_hold k xs (put_entry (alone x) d) b.1 (put_holds k (alone x) d b.0 s)

-- the members of a group are below what its entries are
members_below : (k : ℕ) (g : Group) (es : List Entry) → Below k es → Below k (members g es)
members_below k g [] h = tt
members_below k g (x ∷ xs) h =
    cond_both (is_part_of g x.message) (x ∷ members g xs) (members g xs) (λ (l : List Entry). Below k l)
    (λ t. (h.0, members_below k g xs h.1)) (λ t. members_below k g xs h.1)

first_below : (k : ℕ) (x : Entry) (xs : List Entry) → Below k (x ∷ xs) → first_number (x ∷ xs) < k
first_below k x xs h = h.0

-- ---- a group ends

-- the members are gone, and those of other groups stand
record Ends (k : ℕ) (g : Group) (es : List Entry) (z : Draft) : Type 0 where
  hold : EntriesHold k z
  own : members g z.rows.entries ≡ []
  others : (h : Group) → ¬ (g ≡ h) → members h z.rows.entries ≡ members h es

gone : (k : ℕ) (g : Group) (d z : Draft) → EntriesHold k d → EntriesHold k z
    → ((h : Group) → members h z.rows.entries ≡ all_without (members g d.rows.entries) (members h d.rows.entries)) → Ends k g d.rows.entries z
gone k g d z s t m = record {
  hold = t;
  own = m g ∙ all_without_self (members g d.rows.entries);
  others = λ h ne. m h ∙ others_stay g h d.rows.entries s.order ne;
}

dropped_end : (k : ℕ) (g : Group) (d : Draft) → EntriesHold k d → Ends k g d.rows.entries (drop_all (members g d.rows.entries) d)
dropped_end k g d s =
    let xs = members g d.rows.entries in
    gone k g d (drop_all xs d) s (dropped_hold k xs d s)
    (λ h. ap (λ (l : List Entry). members h l) (dropped_entries xs d) ∙ members_all_without h xs d.rows.entries)

freed_end : (k : ℕ) (g : Group) (d : Draft) → EntriesHold k d → Ends k g d.rows.entries (free_all (members g d.rows.entries) d)
freed_end k g d s =
    let xs = members g d.rows.entries in
    gone k g d (free_all xs d) s (freed_hold k xs d (members_below k g d.rows.entries s.below) s) (λ h. freed_members h xs d)

-- one more entry that is no part comes under the number of the first
first_put : (k : ℕ) (g : Group) (x y : Entry) (ys es : List Entry) (z : Draft) → Rises entry_key es → members g es ≡ y ∷ ys → x.number ≡ y.number → x.number < k
    → ((h : Group) → is_part_of h x.message ≡ false) → Ends k g es z → Ends k g es (put_entry x z)
first_put k g x y ys es z r l q b f e = record {
  hold = put_holds k x z b e.hold;
  own = members_put g x z.rows.entries (f g) ∙ ap (λ (m : List Entry). without entry_key x.number m) e.own;
  others = λ h ne.
      members_put h x z.rows.entries (f h) ∙ ap (λ (m : List Entry). without entry_key x.number m) (e.others h ne)
      ∙ without_apart x.number (members h es) (apart_all h ne (members h es) (λ v m. m));
}
  where
    apart_all : (h : Group) → ¬ (g ≡ h) → (vs : List Entry) → ((v : Entry) → Among v vs → Among v (members h es)) → AllByRecursion (λ (v : Entry). ¬ (v.number ≡ x.number)) vs
    apart_all h ne [] a = tt
    apart_all h ne (v ∷ vs) a = (
      (λ e. apart_groups g h es y v r ne (subst (λ (m : List Entry). Among y m) (sym l) (inl refl)) (a v (inl refl)) (e ∙ q)),
      apart_all h ne vs (λ w m. a w (inr m)),
    )

ended_ends : (k : ℕ) (g : Group) (y : Entry) (ys : List Entry) (c : Option Content) (d : Draft) → EntriesHold k d → members g d.rows.entries ≡ y ∷ ys
    → Ends k g d.rows.entries (ended g (members g d.rows.entries) c d)
ended_ends k g y ys None d s l = freed_end k g d s
ended_ends k g y ys (Some c) d s l =
    let xs = members g d.rows.entries in
    let q : first_number xs ≡ y.number = ap (λ (m : List Entry). first_number m) l in
    let b : y.number < k = (subst (λ (m : List Entry). Below k m) l (members_below k g d.rows.entries s.below)).0 in
    first_put k g (joined_entry g xs c) y ys d.rows.entries (drop_all xs d) s.order l q (omega (arith, q, b)) (λ h. refl) (dropped_end k g d s)

-- ---- an entry comes under the next number

preserved_holds : (x : Entry) (d : Draft) → Rises entry_key d.rows.entries → Numbered d.rows → x.number ≡ d.rows.counters.entry → EntriesHold (d.rows.counters.entry + 1) (keep x d)
preserved_holds x d order numbered e =
    let k = d.rows.counters.entry in record {
      order = rises_put entry_key x d.rows.entries order;
      counter = refl;
      below = below_put (k + 1) x d.rows.entries (omega (arith, e)) (below_more k (k + 1) d.rows.entries (omega arith) numbered);
    }

preserved_members : (g : Group) (x : Entry) (d : Draft) → Numbered d.rows → x.number ≡ d.rows.counters.entry
    → members g (keep x d).rows.entries ≡ members g d.rows.entries ++ members g (x ∷ [])
preserved_members g x d numbered e =
    ap (λ (l : List Entry). members g l) (put_last x d.rows.entries (subst (λ (k : ℕ). Below k d.rows.entries) (sym e) numbered))
    ∙ members_append g d.rows.entries (x ∷ [])

other_members : (h : Group) (x : Entry) (d : Draft) → Numbered d.rows → x.number ≡ d.rows.counters.entry → is_part_of h x.message ≡ false
    → members h (keep x d).rows.entries ≡ members h d.rows.entries
other_members h x d numbered e f =
    preserved_members h x d numbered e
    ∙ ap (λ (l : List Entry). members h d.rows.entries ++ l) (cond-false (is_part_of h x.message) (x ∷ []) [] f)
    ∙ append-nil (members h d.rows.entries)

single_regroups : (tpdu : List ℕ) (d : Draft) → Regroups Unchanged d.rows (store_single tpdu d).rows
single_regroups tpdu d order numbered =
    let x : Entry = single_entry d.rows.counters.entry tpdu in
    let s = preserved_holds x d order numbered refl in
    (all_stay d.rows.entries (keep x d).rows.entries order s.order (λ g. other_members g x d numbered refl refl), s.below)

-- ---- a part comes

both_cond : (b : Bool) (P : Regrouping → Draft → Type 0) (r q : Regrouping) (x y : Draft) → (b ≡ true → P r x) → (b ≡ false → P q y) → P (cond b r q) (cond b x y)
both_cond true P r q x y f g = f refl
both_cond false P r q x y f g = g refl

-- the first of the parts with one more
record HasFirst (ms : List Entry) (e : Entry) : Type 0 where
  x : Entry
  xs : List Entry
  all_is : ms ++ e ∷ [] ≡ x ∷ xs
  stays : (y : Entry) (ys : List Entry) → ms ≡ y ∷ ys → y.number ≡ x.number

has_first : (ms : List Entry) (e : Entry) → HasFirst ms e
has_first [] e = record { x = e; xs = []; all_is = refl; stays = λ y ys q. absurd cc }
has_first (m ∷ ms) e = record { x = m; xs = ms ++ e ∷ []; all_is = refl; stays = λ y ys q. let same : m ≡ y = cc in ap (λ (z : Entry). z.number) (sym same) }

part_opens : (g : Group) (e : Entry) (d : Draft) → Rises entry_key d.rows.entries → Numbered d.rows → EntriesHold (d.rows.counters.entry + 1) (keep e d)
    → members g (keep e d).rows.entries ≡ members g d.rows.entries ++ e ∷ [] → ((h : Group) → ¬ (g ≡ h) → members h (keep e d).rows.entries ≡ members h d.rows.entries)
    → IsRegrouped (one_more g (members g d.rows.entries) e) d.rows (keep e d).rows
part_opens g e d order numbered s own others = (one_grows g e (members g d.rows.entries) d.rows.entries (keep e d).rows.entries order s.order others refl own, s.below)

part_closes : (g : Group) (e : Entry) (c : Option Content) (d : Draft) → Rises entry_key d.rows.entries → Numbered d.rows → EntriesHold (d.rows.counters.entry + 1) (keep e d)
    → members g (keep e d).rows.entries ≡ members g d.rows.entries ++ e ∷ [] → ((h : Group) → ¬ (g ≡ h) → members h (keep e d).rows.entries ≡ members h d.rows.entries)
    → IsRegrouped (Closed (first_number (members g d.rows.entries ++ e ∷ []))) d.rows (ended g (members g d.rows.entries ++ e ∷ []) c (keep e d)).rows
part_closes g e c d order numbered s own others =
    let k = d.rows.counters.entry + 1 in
    let z = keep e d in
    let all = members g d.rows.entries ++ e ∷ [] in
    let f = has_first (members g d.rows.entries) e in
    let first : first_number all ≡ f.x.number = ap (λ (l : List Entry). first_number l) f.all_is in
    let ends : Ends k g z.rows.entries (ended g all c z) =
    subst (λ (l : List Entry). Ends k g z.rows.entries (ended g l c z)) own (ended_ends k g f.x f.xs c z s (own ∙ f.all_is)) in (
      one_closes g (first_number all) d.rows.entries (ended g all c z).rows.entries order ends.hold.order
          (λ h ne. ends.others h ne ∙ others h ne) ends.own (λ y ys q. f.stays y ys q ∙ sym first)
          (λ h y ne a q. apart_groups g h z.rows.entries f.x y s.order ne
          (subst (λ (l : List Entry). Among f.x l) (sym (own ∙ f.all_is)) (inl refl))
          (subst (λ (l : List Entry). Among y l) (sym (others h ne)) a) (q ∙ first)),
      subst (λ (n : ℕ). Below n (ended g all c z).rows.entries) (sym ends.hold.counter) ends.hold.below,
    )

pub part_regroups : (g : Group) (n : ℕ) (tpdu : List ℕ) (d : Draft) → Regroups (stored_groups g n tpdu (members g d.rows.entries) d) d.rows (store_part g n tpdu (members g d.rows.entries) d).rows
part_regroups g n tpdu d order numbered =
    let e : Entry = part_entry d.rows.counters.entry g n tpdu in
    let all = members g d.rows.entries ++ e ∷ [] in
    let s = preserved_holds e d order numbered refl in
    let own : members g (keep e d).rows.entries ≡ all =
    preserved_members g e d numbered refl ∙ ap (λ (l : List Entry). members g d.rows.entries ++ l) (cond-true (is_same_group g g) (e ∷ []) [] (one_group g)) in
    let others : (h : Group) → ¬ (g ≡ h) → members h (keep e d).rows.entries ≡ members h d.rows.entries =
    λ h ne. other_members h e d numbered refl (other_group g h ne) in
    both_cond (all_numbers g.total (part_numbers all)) (λ (r : Regrouping) (z : Draft). IsRegrouped r d.rows z.rows)
    (Closed (first_number all)) (one_more g (members g d.rows.entries) e) (ended g all (joined_content g all) (keep e d)) (keep e d)
    (λ t. part_closes g e (joined_content g all) d order numbered s own others)
    (λ t. part_opens g e d order numbered s own others)

-- ---- what leaves the entries alone

pub nothing : (rows : Rows) → Regroups Unchanged rows rows
nothing rows order numbered = ((λ n. refl), numbered)

pub goes_on : (r : Regrouping) (base : Rows) (d z : Draft) → z.rows.entries ≡ d.rows.entries → d.rows.counters.entry ≤ z.rows.counters.entry
    → Regroups r base d.rows → Regroups r base z.rows
goes_on r base d z e l h order numbered =
    let is = h order numbered in (
      (λ n. ap (λ (es : List Entry). open_at n es) e ∙ is.0 n),
      below_more d.rows.counters.entry z.rows.counters.entry z.rows.entries l (subst (λ (es : List Entry). Below d.rows.counters.entry es) (sym e) is.1),
    )

preserved_goes_on : (r : Regrouping) (base : Rows) (d z : Draft) → Untouched d z → Regroups r base d.rows → Regroups r base z.rows
preserved_goes_on r base d z k h = goes_on r base d z k.entries (le_of_eq (sym k.number)) h

pub follow_regroups : (r : Regrouping) (base : Rows) (d : Draft) → Regroups r base d.rows → Regroups r base (follow d).rows
follow_regroups r base d h = preserved_goes_on r base d (follow d) (follow_preserved d) h

-- ---- a frame

single_received_regroups : (r : ℕ) (tag : Holder) (tpdu : List ℕ) (d : Draft) → Regroups Unchanged d.rows (single_received r tag tpdu d).rows
single_received_regroups r tag tpdu d =
    cond_both (has_room d) (accept r tag tpdu (store_single tpdu d)) (no_room r tag d) (λ (z : Draft). Regroups Unchanged d.rows z.rows)
    (λ t. single_regroups tpdu d) (λ t. nothing d.rows)

new_part_regroups : (r : ℕ) (tag : Holder) (tpdu : List ℕ) (g : Group) (n : ℕ) (d : Draft)
    → Regroups (new_part_groups tpdu g n (members g d.rows.entries) d) d.rows (new_part_received r tag tpdu g n (members g d.rows.entries) d).rows
new_part_regroups r tag tpdu g n d =
    let es = members g d.rows.entries in
    both_cond (has_room d) (λ (q : Regrouping) (z : Draft). Regroups q d.rows z.rows) (stored_groups g n tpdu es d) Unchanged
    (accept r tag tpdu (store_part g n tpdu es d)) (no_room r tag d) (λ t. part_regroups g n tpdu d) (λ t. nothing d.rows)

member_regroups : (r : ℕ) (tag : Holder) (tpdu : List ℕ) (g : Group) (n : ℕ) (d : Draft)
    → Regroups (member_groups tpdu g n (members g d.rows.entries) d) d.rows (member_received r tag tpdu g n (members g d.rows.entries) d).rows
member_regroups r tag tpdu g n d =
    let es = members g d.rows.entries in
    both_cond (is_among n (part_numbers es)) (λ (q : Regrouping) (z : Draft). Regroups q d.rows z.rows) Unchanged (new_part_groups tpdu g n es d)
    (single_received r tag tpdu d) (new_part_received r tag tpdu g n es d) (λ t. single_received_regroups r tag tpdu d) (λ t. new_part_regroups r tag tpdu g n d)

marked_regroups : (n : ℕ) (m : DiscardedGroup) (d : Draft) → Regroups Unchanged d.rows (marked n m d).rows
marked_regroups n m d =
    cond_both (all_numbers m.group.total (m.seen ++ n ∷ [])) (remove_mark m.number d) (put_mark (record m { seen = m.seen ++ n ∷ [] }) d) (λ (z : Draft). Regroups Unchanged d.rows z.rows)
    (λ t. nothing d.rows) (λ t. nothing d.rows)

part_received_regroups : (r : ℕ) (tag : Holder) (tpdu : List ℕ) (g : Group) (n : ℕ) (m : Option DiscardedGroup) (d : Draft) → Regroups (part_groups tpdu g n m d) d.rows (part_received r tag tpdu g n m d).rows
part_received_regroups r tag tpdu g n None d = member_regroups r tag tpdu g n d
part_received_regroups r tag tpdu g n (Some m) d =
    cond_both (is_among n m.seen) (single_received r tag tpdu d) (accept r tag tpdu (marked n m d)) (λ (z : Draft). Regroups Unchanged d.rows z.rows)
    (λ t. single_received_regroups r tag tpdu d) (λ t. marked_regroups n m d)

deliver_regroups : (r : ℕ) (tag : Holder) (tpdu : List ℕ) (m : DeliverOf) (k : Option ConcatKey) (d : Draft) → Regroups (deliver_groups tpdu m k d) d.rows (deliver_received r tag tpdu m k d).rows
deliver_regroups r tag tpdu m None d = single_received_regroups r tag tpdu d
deliver_regroups r tag tpdu m (Some k) d =
    let g : Group = group_of m.originating_address k in
    part_received_regroups r tag tpdu g k.number (mark_of g d.rows.marks) d

noted_regroups : (status : ℕ) (o : Option OutEntry) (d : Draft) → Regroups Unchanged d.rows (note status o d).rows
noted_regroups status None d = nothing d.rows
noted_regroups status (Some o) d = nothing d.rows

tpdu_regroups : (r : ℕ) (tag : Holder) (tpdu : List ℕ) (t : Result Down TpduFault) (d : Draft) → Regroups (tpdu_groups tpdu t d) d.rows (tpdu_received r tag tpdu t d).rows
tpdu_regroups r tag tpdu (Ok (Deliver m)) d = deliver_regroups r tag tpdu m (key_of m) d
tpdu_regroups r tag tpdu (Ok (StatusReport s)) d = noted_regroups s.status (reported s d.rows.outbox) d
tpdu_regroups r tag tpdu (Ok (SubmitReport s)) d = nothing d.rows
tpdu_regroups r tag tpdu (Err f) d = nothing d.rows

data_regroups : (r : ℕ) (tag : Holder) (tpdu : List ℕ) (d : Draft) → Regroups (data_groups r tpdu d) d.rows (data_received r tag tpdu d).rows
data_regroups r tag tpdu d =
    both_cond (is_double tpdu (row_at last_key r d.rows.last)) (λ (q : Regrouping) (z : Draft). Regroups q d.rows z.rows) Unchanged (tpdu_groups tpdu (down_at InData tpdu) d)
    (acknowledge r tag d) (tpdu_received r tag tpdu (down_at InData tpdu) d) (λ t. nothing d.rows) (λ t. tpdu_regroups r tag tpdu (down_at InData tpdu) d)

unit_regroups : (tag : Holder) (unit : List ℕ) (u : Result Rp RelayFault) (d : Draft) → Regroups (unit_groups u d) d.rows (unit_received tag unit u d).rows
unit_regroups tag unit (Ok (DataUnit r c tpdu)) d = data_regroups r tag tpdu d
unit_regroups tag unit (Ok (AckUnit r tpdu)) d = nothing d.rows
unit_regroups tag unit (Ok (ErrorUnit r c tpdu)) d = nothing d.rows
unit_regroups tag unit (Ok (Smma r)) d = nothing d.rows
unit_regroups tag unit (Err f) d = nothing d.rows

-- ---- what goes up

went_up_regroups : (tag : Holder) (up : Option Upward) (d : Draft) → Regroups (up_groups up d) d.rows (went_up tag up d).rows
went_up_regroups tag None d = nothing d.rows
went_up_regroups tag (Some (Opened unit)) d = unit_regroups tag unit (unit_at unit) d
went_up_regroups tag (Some (Ended transfer ending)) d =
    preserved_goes_on Unchanged d.rows d (holder_concluded ending transfer.tag d)
    (holder_keeps (Untouched d) AnyTransfer (ends_untouched d) ending transfer.reference transfer.tag d tt (kept d)) (nothing d.rows)

-- ---- frames and ticks

pub frame_regroups : (octets : List ℕ) (tag : Holder) (c : Core)
    → Regroups (frame_groups (taken octets (link_of (draft_of c))) (draft_of c)) c.rows (frame_received octets tag c).rows
frame_regroups octets tag c =
    let turn : Turn = taken octets (link_of (draft_of c)) in
    let d : Draft = with_turn turn (draft_of c) in
    follow_regroups (up_groups turn.out.up d) c.rows (frame_heard tag turn (draft_of c)) (went_up_regroups tag turn.out.up d)

pub tick_regroups : (now : ℕ) (c : Core) → Regroups Unchanged c.rows (ticked now c).rows
tick_regroups now c =
    let d : Draft = at_moment now (draft_of c) in
    let turn : Turn = fired d.moment (link_of d) in
    let e : Draft = with_turn turn d in
    follow_regroups Unchanged c.rows (timers_fired turn d)
    (preserved_goes_on Unchanged c.rows e (timers_fired turn d) (timers_keep (Untouched e) AnyTransfer (ends_untouched e) turn d (any_up turn.out.up e) (kept e)) (nothing c.rows))

-- ---- acts of the owner

abbrev RegroupsTo : Regrouping → Rows → Draft → Type 0
RegroupsTo r base d = Regroups r base d.rows

abbrev pub RegroupsIfDone : Regrouping → Rows → Result Draft Refusal → Type 0
RegroupsIfDone r base w = IfDone (RegroupsTo r base) w

acted_regroups : (r : Regrouping) (base : Rows) (w : Result Draft Refusal) → RegroupsIfDone r base w → RegroupsIfDone r base (acted w)
acted_regroups r base w h = acted_keeps (RegroupsTo r base) (RegroupsTo r base) (follow_regroups r base) w h

abbrev RegroupsWritten : Rows → Address → Bool → Bool → List PartOf → Draft → Type 0
RegroupsWritten base to report is_long ps d = Regroups Unchanged base d.rows

writes_regroup : (base : Rows) → KeptByWriting (RegroupsTo Unchanged base) (RegroupsWritten base)
writes_regroup base = record {
  one = λ to report is_long p ps d h. goes_on Unchanged base d (write_part to report is_long p d) refl (let l : d.rows.counters.entry ≤ d.rows.counters.entry + 1 = omega arith in l) h;
  all = λ to report is_long d h. h;
}

count_split_regroups : (is_long : Bool) (d : Draft) → Regroups Unchanged d.rows (count_split is_long d).rows
count_split_regroups false d = nothing d.rows
count_split_regroups true d = nothing d.rows

delete_out_regroups : (n : ℕ) (o : Option OutEntry) (d : Draft) → RegroupsIfDone Unchanged d.rows (delete_out n o d)
delete_out_regroups n None d = tt
delete_out_regroups n (Some o) d =
    cond_both (is_unfinished o.state) (Err StillOpen) (Ok (remove_out n d)) (λ (z : Result Draft Refusal). RegroupsIfDone Unchanged d.rows z) (λ t. tt) (λ t. nothing d.rows)

freed_regroups : (r : Regrouping) (base : Rows) (d : Draft) → Regroups r base d.rows → Regroups r base (freed d).rows
freed_regroups r base d h =
    cond_both d.rows.counters.is_memory_full (want_notice (put_counters (record d.rows.counters { is_memory_full = false }) d)) d (λ (z : Draft). Regroups r base z.rows) (λ t. h) (λ t. h)

-- an entry that is no part leaves
removed_regroups : (n : ℕ) (x : Entry) (d : Draft) → row_at entry_key n d.rows.entries ≡ Some x → is_open_part x.message ≡ false → Regroups Unchanged d.rows (remove_entry n d).rows
removed_regroups n x d q f order numbered =
    let es = d.rows.entries in
    let apart : (g : Group) → (vs : List Entry) → ((v : Entry) → Among v vs → Among v (members g es)) → AllByRecursion (λ (v : Entry). ¬ (v.number ≡ n)) vs = λ g. apart_all g in (
      all_stay es (without entry_key n es) order (rises_without entry_key n es order)
          (λ g. members_without g n es ∙ without_apart n (members g es) (apart g (members g es) (λ v m. m))),
      below_without d.rows.counters.entry n es numbered,
    )
  where
    apart_all : (g : Group) (vs : List Entry) → ((v : Entry) → Among v vs → Among v (members g d.rows.entries)) → AllByRecursion (λ (v : Entry). ¬ (v.number ≡ n)) vs
    apart_all g [] a = tt
    apart_all g (v ∷ vs) a = (
      (λ e.
          let m = members_among g v d.rows.entries (a v (inl refl)) in
          let same : v ≡ x = same_entry d.rows.entries v x order m.0 (found_among entry_key n x d.rows.entries q) (e ∙ sym (found_key entry_key n x d.rows.entries q)) in
          true≢false (sym m.1 ∙ ap (λ (z : Entry). is_part_of g z.message) same ∙ no_part g x.message f)),
      apart_all g vs (λ w m. a w (inr m)),
    )

delete_in_regroups : (n : ℕ) (o : Option Entry) (d : Draft) → row_at entry_key n d.rows.entries ≡ o → RegroupsIfDone Unchanged d.rows (delete_in n o d)
delete_in_regroups n None d q = delete_out_regroups n (row_at out_key n d.rows.outbox) d
delete_in_regroups n (Some x) d q =
    cond_both (is_open_part x.message) (Err StillOpen) (Ok (freed (remove_entry n d))) (λ (z : Result Draft Refusal). RegroupsIfDone Unchanged d.rows z)
    (λ t. tt) (λ t. freed_regroups Unchanged d.rows (remove_entry n d) (removed_regroups n x d q t))

-- an open group leaves
discard_group_regroups : (n : ℕ) (g : Group) (x : Entry) (d : Draft) → Among x (members g d.rows.entries) → x.number ≡ n → first_number (members g d.rows.entries) ≡ n
    → Regroups (Closed n) d.rows (discard_group n g (members g d.rows.entries) d).rows
discard_group_regroups n g x d a q f =
    freed_regroups (Closed n) d.rows (put_mark (record { number = n; group = g; seen = part_numbers (members g d.rows.entries) }) (drop_all (members g d.rows.entries) d)) closed
  where
    closed : Regroups (Closed n) d.rows (drop_all (members g d.rows.entries) d).rows
    closed order numbered =
        let es = d.rows.entries in
        let z = drop_all (members g es) d in
        let e = dropped_end d.rows.counters.entry g d (record { order = order; counter = refl; below = numbered }) in (
          one_closes g n es z.rows.entries order e.hold.order e.others e.own
              (λ y ys l. ap (λ (m : List Entry). first_number m) (sym l) ∙ f)
              (λ h y ne b r. apart_groups g h es x y order ne a b (r ∙ sym q)),
          subst (λ (k : ℕ). Below k z.rows.entries) (sym e.hold.counter) e.hold.below,
        )

discard_members_regroups : (n : ℕ) (g : Group) (x : Entry) (d : Draft) → Among x (members g d.rows.entries) → x.number ≡ n
    → RegroupsIfDone (Closed n) d.rows (discard_members n g (members g d.rows.entries) d)
discard_members_regroups n g x d a q =
    let es = members g d.rows.entries in
    cond_both (first_number es == n) (cond (nat_lt (length d.rows.marks) 64) (Ok (discard_group n g es d)) (Err TooManyDiscarded)) (Err NoEntry) (λ (z : Result Draft Refusal). RegroupsIfDone (Closed n) d.rows z)
    (λ t. cond_both (nat_lt (length d.rows.marks) 64) (Ok (discard_group n g es d)) (Err TooManyDiscarded) (λ (z : Result Draft Refusal). RegroupsIfDone (Closed n) d.rows z)
    (λ u. discard_group_regroups n g x d a q (eqb-true (first_number es) n t)) (λ u. tt))
    (λ t. tt)

discard_in_regroups : (n : ℕ) (x : Entry) (m : Message) (d : Draft) → x.message ≡ m → row_at entry_key n d.rows.entries ≡ Some x → RegroupsIfDone (Closed n) d.rows (discard_in n m d)
discard_in_regroups n x (Single tpdu) d e q = tt
discard_in_regroups n x (Part g k tpdu) d e q =
    discard_members_regroups n g x d
    (among_members g x d.rows.entries (found_among entry_key n x d.rows.entries q) (ap (λ (m : Message). is_part_of g m) e ∙ one_group g))
    (found_key entry_key n x d.rows.entries q)
discard_in_regroups n x (Joined source content) d e q = tt

discard_at_regroups : (n : ℕ) (o : Option Entry) (d : Draft) → row_at entry_key n d.rows.entries ≡ o → RegroupsIfDone (Closed n) d.rows (discard_at n o d)
discard_at_regroups n None d q = tt
discard_at_regroups n (Some x) d q = discard_in_regroups n x x.message d refl q

write_regroups : (text to : List ℕ) (report : Bool) (c : Core) → RegroupsIfDone Unchanged c.rows (wrote text to report c)
write_regroups text to report c =
    acted_regroups Unchanged c.rows (write text to report (draft_of c))
    (write_keeps (RegroupsTo Unchanged c.rows) (RegroupsWritten c.rows) (writes_regroup c.rows) text to report (draft_of c)
    (λ ps a split_is to_is room. count_split_regroups (nat_lt 1 (length ps)) (draft_of c)))

delete_regroups : (n : ℕ) (c : Core) → RegroupsIfDone Unchanged c.rows (deleted n c)
delete_regroups n c = acted_regroups Unchanged c.rows (delete n (draft_of c)) (delete_in_regroups n (row_at entry_key n c.rows.entries) (draft_of c) refl)

discard_regroups : (n : ℕ) (c : Core) → RegroupsIfDone (Closed n) c.rows (discarded n c)
discard_regroups n c = acted_regroups (Closed n) c.rows (discard n (draft_of c)) (discard_at_regroups n (row_at entry_key n c.rows.entries) (draft_of c) refl)

-- ---- an act that was done on a draft of the handset, and what follows

-- the draft regroups as is told, and rests on the rows and its changes
abbrev pub Leads : Regrouping → Rows → Draft → Type 0
Leads r base d = Regroups r base d.rows × IsRevised base d

leads : (r : Regrouping) (base : Rows) (w : Result Draft Refusal) (d : Draft) → w ≡ Ok d → RegroupsIfDone r base w → IsRevisedIfDone base w → Leads r base d
leads r base w d e h rests = (
  subst (λ (x : Result Draft Refusal). RegroupsIfDone r base x) e h,
  subst (λ (x : Result Draft Refusal). IsRevisedIfDone base x) e rests,
)

pub write_then : (text to : List ℕ) (report : Bool) (c : Core) (o e : Draft) → o ≡ draft_of c → acted (write text to report o) ≡ Ok e → Leads Unchanged c.rows e
write_then text to report c o e p q =
    leads Unchanged c.rows (wrote text to report c) e (ap (λ (z : Draft). acted (write text to report z)) (sym p) ∙ q)
    (write_regroups text to report c) (write_rests text to report c)

pub delete_then : (n : ℕ) (c : Core) (o e : Draft) → o ≡ draft_of c → acted (delete n o) ≡ Ok e → Leads Unchanged c.rows e
delete_then n c o e p q =
    leads Unchanged c.rows (deleted n c) e (ap (λ (z : Draft). acted (delete n z)) (sym p) ∙ q) (delete_regroups n c) (delete_rests n c)

pub discard_then : (n : ℕ) (c : Core) (o e : Draft) → o ≡ draft_of c → acted (discard n o) ≡ Ok e → Leads (Closed n) c.rows e
discard_then n c o e p q =
    leads (Closed n) c.rows (discarded n c) e (ap (λ (z : Draft). acted (discard n z)) (sym p) ∙ q) (discard_regroups n c) (discard_rests n c)
