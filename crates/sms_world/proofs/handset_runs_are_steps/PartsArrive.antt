-- A DELIVER comes: alone, as a part that opens, continues or completes a group, or as one of a discarded group.
use Rattle.std.proofs.Common.{◌≡◌, ℕ, suc, ◌+◌, ◌≤◌, ◌<◌, arith, List, [], ◌∷◌, ◌++◌, true, false, refl, sym, ◌∙◌, ap, subst, inl, inr, ⊎_elim, Option, Some, None, length}
use Rattle.std.proofs.lemmas.Bool.{cond_both}
use Rattle.sms_base.specs.Among.{Among}
use Rattle.sms_rows.specs.declared.table.change.Change.TheVariants.{Put}
use Rattle.sms_rows.specs.table.Table.{put}
use Rattle.sms_base.specs.declared.holder.Holder.{Holder}
use Rattle.sms_concat.specs.declared.content.Content.{Content}
use Rattle.sms_relay.specs.declared.cause.RpCause.TheVariants.{MemoryCapacityExceeded}
use Rattle.sms_handset_draft.specs.declared.counters.Counters.{Counters}
use Rattle.sms_handset_rows.specs.declared.inbox.entry.Entry.{Entry}
use Rattle.sms_handset_rows.specs.declared.inbox.entry.Group.{Group}
use Rattle.sms_handset_rows.specs.declared.inbox.discarded_group.DiscardedGroup.{DiscardedGroup}
use Rattle.sms_handset_draft.specs.Draft.{Draft}
use Rattle.sms_handset_rows.specs.inbox.Groups.{all_numbers, is_among, joined_content, mark_of, members, part_entry, part_numbers, single_entry, first_number}
use Rattle.sms_handset_draft.specs.Storing.{ended, keep, store_part, store_single}
use Rattle.sms_handset_rows.specs.inbox.Keys.{entry_key}
use Rattle.sms_handset_draft.specs.MemoryAvailable.{flag, has_room}
use Rattle.sms_handset_draft.specs.Receiving.{accept, member_received, new_part_received, no_room, single_received}
use Rattle.sms_handset_rows.specs.inbox.SoundInbox.{IsPartOf}
use Rattle.sms_handset.proofs.SoundDrafts.{SoundAt}
use Rattle.sms_handset_rows.proofs.inbox.SoundGroups.{Arrived, arrives, ended_entries, first_of, others_ended, own_ended}
use Rattle.sms_world_model.specs.Place.{Key, place_in}
use Rattle.sms_tpdu.specs.MoreMessages.{compared}
use Rattle.sms_world_model.specs.World.{World, Accepted, Joined, IsLast}
use Rattle.sms_world_model.specs.Groups.{Groups, groups_of, IsEndedAt, numbers, is_among as is_in, all_numbers as all_in}
use Rattle.sms_world_model.specs.WorldStep.{HasNotJoined}
use Rattle.sms_world.specs.frames_pass_between_sides.FramesDown.{frame_of}
use Rattle.sms_world.specs.headline.SeenWorld.{JoinedText, joined_at}
use Rattle.sms_world.specs.handset_runs_are_steps.PutInOrder.{joined_by}
use Rattle.sms_world.specs.handset_runs_are_steps.RefinesInbox.{Matches, RefinesGroups, groups_at, key_seen}
use Rattle.sms_world.specs.handset_runs_are_steps.Refinement.{Refines}
use Rattle.sms_world.specs.handset_runs_are_steps.Stages.{ReadsOne}
use Rattle.sms_world.proofs.handset_runs_are_steps.Putting.{joined_here, joined_push}
use Rattle.sms_world.proofs.handset_runs_are_steps.Ending.{with_entries, ended_as, single_members}
use Rattle.sms_world.proofs.handset_runs_are_steps.Placing.{text_seen}
use Rattle.sms_world.proofs.handset_runs_are_steps.Grouping.{Segment, pair, by_group, closed, entered, groups_preserved, here, joins_alike, matches_more, matches_none, numbers_alike, parts_more, passing, places_more, texts_more}
use Rattle.sms_world.proofs.handset_runs_are_steps.Taking.{AwaitsAnswer, refuses, taken, takes, takes_and_joins, used_more}

pub arrived_as : (h : List ℕ) (number r : ℕ) (tag : Holder) (octets : List ℕ) (d e : Draft) (w : World) → e.links ≡ d.links → AwaitsAnswer h number r tag octets d w → AwaitsAnswer h number r tag octets e w
arrived_as h number r tag octets d e w q c = record { sent = c.sent; opening = c.opening; awaits = (ap (λ z. z.opened) q ∙ c.awaits.0, c.awaits.1) }

module _ (m : ℕ) (h : List ℕ) (number r : ℕ) (tag : Holder) (octets : List ℕ) (b : World) (d : Draft) (w : World)
    (c : AwaitsAnswer h number r tag octets d w) (new : ¬ IsLast (pair h r octets) w.accepted) (sound : SoundAt d) (s : Refines h b d w) where
  -- no slot is free: the memory flag is set
  pub full_law : ReadsOne m (frame_of h number r octets tag) h b (no_room r tag d) w
  full_law =
      refuses m h number r 211 MemoryCapacityExceeded tag octets b (flag d) w tt (arrived_as h number r tag octets d (flag d) w refl c) new
      (record { frames = s.frames; whole = s.whole; links = s.links; last = s.last; accepted = s.accepted; joined = s.joined; out = s.out; notices = s.notices; groups = s.groups })

  abbrev counted : Counters
  counted = record d.rows.counters { entry = d.rows.counters.entry + 1 }

  more : d.rows.counters.entry ≤ d.rows.counters.entry + 1
  more = omega arith

  -- an entry of its own
  pub single_law : ((k : Group) → groups_at h k (pair h r octets ∷ w.accepted) ≡ groups_at h k w.accepted) → ReadsOne m (frame_of h number r octets tag) h b (single_received r tag octets d) w
  single_law same =
      let x : Entry = single_entry d.rows.counters.entry octets in
      cond_both (has_room d) (accept r tag octets (store_single octets d)) (no_room r tag d) (λ (e : Draft). ReadsOne m (frame_of h number r octets tag) h b e w)
      (λ t. takes m h number r tag octets b (store_single octets d) w (arrived_as h number r tag octets d (store_single octets d) w refl c) new
      (taken h r octets b d w (put entry_key x d.rows.entries) d.rows.marks d.rows.outbox (record d.rows.counters { entry = d.rows.counters.entry + 1 })
      (store_single octets d).changes w.joined refl refl (s.joined ∙ sym (joined_push d.changes.entries (Put x) (joined_at h b.joined)))
      (used_more h d.rows.counters.entry (d.rows.counters.entry + 1) d.rows.outbox w.outbox w.up more s.out)
      (groups_preserved h r octets d.rows.entries (put entry_key x d.rows.entries) d.rows.marks w.accepted w.joined s.groups same
      (single_members d.rows.counters.entry x d.rows.entries d.rows.marks sound.inbox refl (λ g. refl)))
      s))
      (λ t. full_law)

  module _ (g : Group) (n : ℕ) (is_seg : place_in (compared octets) ≡ Some (record { key = key_seen g; number = n })) (part : IsPartOf g n octets) (unmarked : mark_of g d.rows.marks ≡ None) where
    abbrev seg : Segment
    seg = record { group = g; number = n }

    abbrev present : List Accepted
    present = (groups_at h g w.accepted).present

    open_before : Matches (members g d.rows.entries) None (groups_at h g w.accepted)
    open_before = subst (λ (z : Option DiscardedGroup). Matches (members g d.rows.entries) z (groups_at h g w.accepted)) unmarked (s.groups.keys g)

    -- the number stands in its group
    standing_law : is_among n (part_numbers (members g d.rows.entries)) ≡ true → ReadsOne m (frame_of h number r octets tag) h b (single_received r tag octets d) w
    standing_law t = single_law (passing h r octets (record { group = g; number = n }) is_seg w.accepted (sym (open_before.parts n) ∙ t))

    module _ (lacks : is_among n (part_numbers (members g d.rows.entries)) ≡ false) where
      abbrev e : Entry
      e = part_entry d.rows.counters.entry g n octets

      abbrev fs : List Entry
      fs = put entry_key (part_entry d.rows.counters.entry g n octets) d.rows.entries

      abbrev all : List Entry
      all = members g d.rows.entries ++ part_entry d.rows.counters.entry g n octets ∷ []

      arrived : Arrived (d.rows.counters.entry + 1) g (part_entry d.rows.counters.entry g n octets) d.rows.entries (put entry_key (part_entry d.rows.counters.entry g n octets) d.rows.entries)
      arrived = arrives d.rows.counters.entry g n octets d.rows.entries d.rows.marks sound.counted part sound.inbox

      lacks_there : is_in n (numbers (groups_at h g w.accepted).present) ≡ false
      lacks_there = sym (open_before.parts n) ∙ lacks

      full_alike : all_numbers g.total (part_numbers (members g d.rows.entries ++ part_entry d.rows.counters.entry g n octets ∷ [])) ≡ all_in g.total (numbers (pair h r octets ∷ (groups_at h g w.accepted).present))
      full_alike =
          numbers_alike g.total (part_numbers (members g d.rows.entries ++ part_entry d.rows.counters.entry g n octets ∷ [])) (numbers (pair h r octets ∷ (groups_at h g w.accepted).present))
          (parts_more (pair h r octets) (record { group = g; number = n }) is_seg g.total (groups_at h g w.accepted) (members g d.rows.entries) (part_entry d.rows.counters.entry g n octets) refl (text_seen octets) open_before lacks)

      -- the group is open still
      open_groups : all_numbers g.total (part_numbers (members g d.rows.entries ++ part_entry d.rows.counters.entry g n octets ∷ [])) ≡ false
          → RefinesGroups h (put entry_key (part_entry d.rows.counters.entry g n octets) d.rows.entries) d.rows.marks (pair h r octets ∷ w.accepted) w.joined
      open_groups f =
          let x : Entry = part_entry d.rows.counters.entry g n octets in
          let now : Groups = record { present = pair h r octets ∷ (groups_at h g w.accepted).present; ended = (groups_at h g w.accepted).ended } in
          record {
            keys = by_group h r octets (record { group = g; number = n }) is_seg w.accepted d.rows.entries (put entry_key x d.rows.entries) d.rows.marks d.rows.marks s.groups.keys
                (subst (λ (z : Groups). Matches (members g (put entry_key x d.rows.entries)) (mark_of g d.rows.marks) z)
                (sym (here h r octets (record { group = g; number = n }) is_seg w.accepted ∙ entered (pair h r octets) (record { group = g; number = n }) is_seg g.total (groups_at h g w.accepted) lacks_there (sym full_alike ∙ f)))
                (subst (λ (z : Option DiscardedGroup). Matches (members g (put entry_key x d.rows.entries)) z now) (sym unmarked)
                (subst (λ (z : List Entry). Matches z None now) (sym arrived.own)
                (matches_more (pair h r octets) (record { group = g; number = n }) is_seg g.total (groups_at h g w.accepted) (members g d.rows.entries) x refl (text_seen octets) open_before lacks))))
                arrived.others (λ k ne. refl);
            places = places_more h r octets w.accepted w.joined s.groups.places;
          }

      part_open : all_numbers g.total (part_numbers (members g d.rows.entries ++ part_entry d.rows.counters.entry g n octets ∷ [])) ≡ false
          → ReadsOne m (frame_of h number r octets tag) h b (accept r tag octets (keep (part_entry d.rows.counters.entry g n octets) d)) w
      part_open f =
          let x : Entry = part_entry d.rows.counters.entry g n octets in
          takes m h number r tag octets b (keep x d) w (arrived_as h number r tag octets d (keep x d) w refl c) new
          (taken h r octets b d w (put entry_key x d.rows.entries) d.rows.marks d.rows.outbox (record d.rows.counters { entry = d.rows.counters.entry + 1 })
          (keep x d).changes w.joined refl refl (s.joined ∙ sym (joined_push d.changes.entries (Put x) (joined_at h b.joined))) (used_more h d.rows.counters.entry (d.rows.counters.entry + 1) d.rows.outbox w.outbox w.up more s.out) (open_groups f) s)

      module _ (full : all_numbers g.total (part_numbers (members g d.rows.entries ++ part_entry d.rows.counters.entry g n octets ∷ [])) ≡ true) where
        ends : groups_at h g (pair h r octets ∷ w.accepted) ≡ record { present = []; ended = (pair h r octets ∷ (groups_at h g w.accepted).present) ∷ (groups_at h g w.accepted).ended }
        ends = here h r octets (record { group = g; number = n }) is_seg w.accepted
            ∙ closed (pair h r octets) (record { group = g; number = n }) is_seg g.total (groups_at h g w.accepted) lacks_there (sym full_alike ∙ full)

        -- the members of each group, with nothing left of this one
        ended_keys : (o : Option Content) (k : Group)
            → Matches (members k (ended_entries g all o fs)) (mark_of k d.rows.marks) (groups_at h k (pair h r octets ∷ w.accepted))
        ended_keys o =
            let f0 = first_of (members g d.rows.entries) (part_entry d.rows.counters.entry g n octets) in
            let among : Among f0.0 (members g fs) = subst (λ (l : List Entry). Among f0.0 l) (sym arrived.own) f0.1.0 in
            let first : first_number (members g fs) ≡ f0.0.number = ap (λ (l : List Entry). first_number l) arrived.own ∙ f0.1.1 in
            let none : members g (ended_entries g all o fs) ≡ [] = ap (λ (l : List Entry). members g (ended_entries g l o fs)) (sym arrived.own) ∙ own_ended g o fs in
            by_group h r octets (record { group = g; number = n }) is_seg w.accepted d.rows.entries (ended_entries g all o fs) d.rows.marks d.rows.marks s.groups.keys
            (subst (λ (z : Groups). Matches (members g (ended_entries g all o fs)) (mark_of g d.rows.marks) z) (sym ends)
            (subst (λ (z : Option DiscardedGroup). Matches (members g (ended_entries g all o fs)) z (record { present = []; ended = (pair h r octets ∷ (groups_at h g w.accepted).present) ∷ (groups_at h g w.accepted).ended })) (sym unmarked)
            (subst (λ (z : List Entry). Matches z None (record { present = []; ended = (pair h r octets ∷ (groups_at h g w.accepted).present) ∷ (groups_at h g w.accepted).ended })) (sym none)
            (matches_none (pair h r octets) (record { group = g; number = n }) is_seg g.total (groups_at h g w.accepted)))))
            (λ k ne.
            ap (λ (l : List Entry). members k (ended_entries g l o fs)) (sym arrived.own) ∙ others_ended g k o fs f0.0 arrived.order ne among first ∙ arrived.others k ne)
            (λ k ne. refl)

        -- what is joined
        abbrev join_of : Content → Joined
        join_of content = record {
          handset = h;
          key = key_seen g;
          place = length (groups_at h g w.accepted).ended;
          group = pair h r octets ∷ (groups_at h g w.accepted).present;
          content = content;
        }

        not_joined : (content : Content) (js : List Joined) → ((j : Joined) → Among j js → j.handset ≡ h → j.place < length (groups_of h j.key w.accepted).ended) → HasNotJoined js h (key_seen g) (length (groups_at h g w.accepted).ended)
        not_joined content [] f = tt
        not_joined content (j ∷ js) f = (
          (λ (a, k, p). let x : j.place < length (groups_of h j.key w.accepted).ended = f j (inl refl) a in
              let y : length (groups_of h j.key w.accepted).ended ≡ length (groups_at h g w.accepted).ended = ap (λ (z : Key). length (groups_of h z w.accepted).ended) k in
              absurd (omega arith)),
          not_joined content js (λ i a. f i (inr a)),
        )

        joined_groups : (content : Content) → RefinesGroups h (ended_entries g all (Some content) fs) d.rows.marks (pair h r octets ∷ w.accepted) (join_of content ∷ w.joined)
        joined_groups content = record {
          keys = ended_keys (Some content);
          places = λ j i a. ⊎_elim
              (λ (q : j ≡ join_of content).
              let x1 : length (groups_of h j.key (pair h r octets ∷ w.accepted)).ended ≡ suc (length (groups_at h g w.accepted).ended) =
              ap (λ (z : Joined). length (groups_of h z.key (pair h r octets ∷ w.accepted)).ended) q ∙ ap (λ (z : Groups). length z.ended) ends in
              let x2 : j.place ≡ length (groups_at h g w.accepted).ended = ap (λ (z : Joined). z.place) q in
              omega arith)
              (λ (q : Among j w.joined). places_more h r octets w.accepted w.joined s.groups.places j q a) i;
        }

        preserved_groups : RefinesGroups h (ended_entries g all None fs) d.rows.marks (pair h r octets ∷ w.accepted) w.joined
        preserved_groups = record { keys = ended_keys None; places = places_more h r octets w.accepted w.joined s.groups.places }

        -- storing the part joins nothing
        preserved_texts : joined_at h w.joined ≡ joined_by (keep e d).changes.entries (joined_at h b.joined)
        preserved_texts = s.joined ∙ sym (joined_push d.changes.entries (Put e) (joined_at h b.joined))

        -- the draft that the end of the group leads to
        ended_law : (o : Option Content) → joined_content g all ≡ o → ReadsOne m (frame_of h number r octets tag) h b (accept r tag octets (ended g all o (keep e d))) w
        ended_law None q =
            let y = ended_as g all None (keep e d) fs (keep e d).changes.entries in
            subst (λ (z : Draft). ReadsOne m (frame_of h number r octets tag) h b (accept r tag octets z) w) (sym y.1.0)
            (takes m h number r tag octets b (with_entries (keep e d) (ended_entries g all None fs) y.0) w
            (arrived_as h number r tag octets d (with_entries (keep e d) (ended_entries g all None fs) y.0) w refl c) new
            (taken h r octets b d w (ended_entries g all None fs) d.rows.marks d.rows.outbox (record d.rows.counters { entry = d.rows.counters.entry + 1 })
            (with_entries (keep e d) (ended_entries g all None fs) y.0).changes w.joined refl refl (preserved_texts ∙ sym (y.1.1 (joined_at h b.joined)))
            (used_more h d.rows.counters.entry (d.rows.counters.entry + 1) d.rows.outbox w.outbox w.up more s.out) preserved_groups s))
        ended_law (Some content) q =
            let y = ended_as g all (Some content) (keep e d) fs (keep e d).changes.entries in
            subst (λ (z : Draft). ReadsOne m (frame_of h number r octets tag) h b (accept r tag octets z) w) (sym y.1.0)
            (takes_and_joins m h number r tag octets b (with_entries (keep e d) (ended_entries g all (Some content) fs) y.0) w (join_of content) refl
            (arrived_as h number r tag octets d (with_entries (keep e d) (ended_entries g all (Some content) fs) y.0) w refl c) new
            (subst (λ (z : Groups). IsEndedAt (join_of content).place (join_of content).group z.ended) (sym ends) (inl (refl, refl)))
            (not_joined content w.joined s.groups.places)
            (sym (joins_alike g all (pair h r octets ∷ (groups_at h g w.accepted).present)
            (texts_more (pair h r octets) (record { group = g; number = n }) is_seg g.total (groups_at h g w.accepted) (members g d.rows.entries) e refl (text_seen octets) open_before lacks)) ∙ q)
            (taken h r octets b d w (ended_entries g all (Some content) fs) d.rows.marks d.rows.outbox (record d.rows.counters { entry = d.rows.counters.entry + 1 })
            (with_entries (keep e d) (ended_entries g all (Some content) fs) y.0).changes (join_of content ∷ w.joined) refl refl
            (joined_here h (join_of content) w.joined refl ∙ ap (λ (z : List JoinedText). record { source = g.source; content = content } ∷ z) preserved_texts ∙ sym (y.1.1 (joined_at h b.joined)))
            (used_more h d.rows.counters.entry (d.rows.counters.entry + 1) d.rows.outbox w.outbox w.up more s.out) (joined_groups content) s))

      -- a new part of the group
      new_law : ReadsOne m (frame_of h number r octets tag) h b (new_part_received r tag octets g n (members g d.rows.entries) d) w
      new_law =
          cond_both (has_room d) (accept r tag octets (store_part g n octets (members g d.rows.entries) d)) (no_room r tag d) (λ (z : Draft). ReadsOne m (frame_of h number r octets tag) h b z w)
          (λ t. cond_both (all_numbers g.total (part_numbers all)) (ended g all (joined_content g all) (keep e d)) (keep e d) (λ (z : Draft). ReadsOne m (frame_of h number r octets tag) h b (accept r tag octets z) w)
          (λ f. ended_law f (joined_content g all) refl) (λ f. part_open f))
          (λ t. full_law)

    pub member_law : ReadsOne m (frame_of h number r octets tag) h b (member_received r tag octets g n (members g d.rows.entries) d) w
    member_law =
        cond_both (is_among n (part_numbers (members g d.rows.entries))) (single_received r tag octets d) (new_part_received r tag octets g n (members g d.rows.entries) d)
        (λ (z : Draft). ReadsOne m (frame_of h number r octets tag) h b z w) standing_law new_law
