-- A part of a group that the owner discarded: its number is noted, and the group is forgotten with its last one.
use Rattle.std.proofs.Common.{◌≡◌, ℕ, List, [], ◌∷◌, ◌++◌, true, false, refl, sym, ◌∙◌, ap, subst, inl, inr, ⊎_elim, Option, Some, None}
use Rattle.std.proofs.lemmas.Bool.{cond_both}
use Rattle.std.proofs.lemmas.Option.{same_Some}
use Rattle.sms_base.specs.Among.{Among}
use Rattle.sms_rows.specs.table.Table.{Rises, row_at, put, without}
use Rattle.sms_rows.proofs.table.Tables.{among_found, among_put, among_without, put_among, without_among}
use Rattle.sms_rows.specs.declared.table.change.Change.{Change}
use Rattle.sms_base.specs.declared.holder.Holder.{Holder}
use Rattle.sms_handset_rows.specs.declared.inbox.entry.Entry.{Entry}
use Rattle.sms_handset_rows.specs.declared.inbox.entry.Group.{Group}
use Rattle.sms_handset_rows.specs.declared.inbox.discarded_group.DiscardedGroup.{DiscardedGroup}
use Rattle.sms_handset_draft.specs.Draft.{Changes, Draft, put_mark, remove_mark}
use Rattle.sms_handset_rows.specs.inbox.Groups.{all_numbers, is_among, mark_of, members}
use Rattle.sms_handset_draft.specs.Storing.{marked}
use Rattle.sms_handset_rows.specs.inbox.Keys.{mark_key}
use Rattle.sms_handset_draft.specs.Receiving.{accept, single_received, part_received}
use Rattle.sms_handset.proofs.SoundDrafts.{SoundAt}
use Rattle.sms_handset_rows.proofs.inbox.SoundMarks.{Discarded, mark_found, mark_gone, mark_more, mark_none, no_mark}
use Rattle.sms_tpdu.specs.MoreMessages.{compared}
use Rattle.sms_world_model.specs.Place.{place_in}
use Rattle.sms_world_model.specs.World.{World, IsLast}
use Rattle.sms_world_model.specs.Groups.{Groups, numbers, is_among as is_in, all_numbers as all_in}
use Rattle.sms_world.specs.frames_pass_between_sides.FramesDown.{frame_of}
use Rattle.sms_world.specs.headline.SeenWorld.{joined_at}
use Rattle.sms_world.specs.handset_runs_are_steps.PutInOrder.{joined_by}
use Rattle.sms_world.specs.handset_runs_are_steps.RefinesInbox.{Matches, RefinesGroups, groups_at, key_seen}
use Rattle.sms_world.specs.handset_runs_are_steps.Refinement.{Refines}
use Rattle.sms_world.specs.handset_runs_are_steps.Stages.{ReadsOne}
use Rattle.sms_world.proofs.handset_runs_are_steps.Ending.{no_members}
use Rattle.sms_world.proofs.handset_runs_are_steps.Grouping.{pair, by_group, closed, entered, here, matches_mark, matches_none, numbers_alike, numbers_more, passing, places_more}
use Rattle.sms_world.proofs.handset_runs_are_steps.PartsArrive.{arrived_as, single_law}
use Rattle.sms_world.proofs.handset_runs_are_steps.Taking.{AwaitsAnswer, taken, takes}

-- ---- the mark of a group is the one of the group among the marks

same_mark : (ms : List DiscardedGroup) (x y : DiscardedGroup) → Rises mark_key ms → Among x ms → Among y ms → x.number ≡ y.number → x ≡ y
same_mark ms x y r i j e =
    same_Some x y (sym (among_found mark_key x ms r i) ∙ ap (λ (z : ℕ). row_at mark_key z ms) e ∙ among_found mark_key y ms r j)

pub mark_is : (k : ℕ) (es : List Entry) (ms : List DiscardedGroup) (x : DiscardedGroup) → Discarded k es ms → Among x ms → mark_of x.group ms ≡ Some x
mark_is k es ms x d i = at (mark_of x.group ms) refl
  where
    at : (o : Option DiscardedGroup) → mark_of x.group ms ≡ o → mark_of x.group ms ≡ Some x
    at None q = absurd (no_mark x.group ms x q i refl)
    at (Some y) q =
        let f = mark_found x.group ms y q in
        q ∙ ap (λ (z : DiscardedGroup). Some z) (same_mark ms y x d.order f.0 i (d.one y x f.0 i f.1))

-- the marks of other groups
pub others_marked : (k : ℕ) (es : List Entry) (ms ns : List DiscardedGroup) (g q : Group) → Discarded k es ms → Discarded k es ns → ¬ (g ≡ q)
    → ((x : DiscardedGroup) → Among x ns → ¬ (x.group ≡ g) → Among x ms) → ((x : DiscardedGroup) → Among x ms → ¬ (x.group ≡ g) → Among x ns) → mark_of q ns ≡ mark_of q ms
others_marked k es ms ns g q d f ne back there = at (mark_of q ms) refl
  where
    at : (o : Option DiscardedGroup) → mark_of q ms ≡ o → mark_of q ns ≡ mark_of q ms
    at None e = mark_none q ns (λ x i s. no_mark q ms x e (back x i (λ t. ne (sym t ∙ s))) s) ∙ sym e
    at (Some x) e =
        let a = mark_found q ms x e in
        subst (λ (z : Group). mark_of z ns ≡ Some x) a.1 (mark_is k es ns x f (there x a.0 (λ t. ne (sym t ∙ a.1)))) ∙ sym e

module _ (m : ℕ) (h : List ℕ) (number r : ℕ) (tag : Holder) (octets : List ℕ) (b : World) (d : Draft) (w : World)
    (c : AwaitsAnswer h number r tag octets d w) (new : ¬ IsLast (pair h r octets) w.accepted) (sound : SoundAt d) (s : Refines h b d w)
    (n : ℕ) (k : DiscardedGroup) (is_seg : place_in (compared octets) ≡ Some (record { key = key_seen k.group; number = n })) (there : mark_of k.group d.rows.marks ≡ Some k) where
  before : Matches (members k.group d.rows.entries) (Some k) (groups_at h k.group w.accepted)
  before = subst (λ (z : Option DiscardedGroup). Matches (members k.group d.rows.entries) z (groups_at h k.group w.accepted)) there (s.groups.keys k.group)

  -- the number was seen
  seen_law : is_among n k.seen ≡ true → ReadsOne m (frame_of h number r octets tag) h b (single_received r tag octets d) w
  seen_law t =
      single_law m h number r tag octets b d w c new sound s
      (passing h r octets (record { group = k.group; number = n }) is_seg w.accepted (sym (before.parts n) ∙ t))

  module _ (lacks : is_among n k.seen ≡ false) where
    among : Among k d.rows.marks
    among = (mark_found k.group d.rows.marks k there).0

    lacks_there : is_in n (numbers (groups_at h k.group w.accepted).present) ≡ false
    lacks_there = sym (before.parts n) ∙ lacks

    alike : all_numbers k.group.total (k.seen ++ n ∷ []) ≡ all_in k.group.total (numbers (pair h r octets ∷ (groups_at h k.group w.accepted).present))
    alike =
        numbers_alike k.group.total (k.seen ++ n ∷ []) (numbers (pair h r octets ∷ (groups_at h k.group w.accepted).present))
        (numbers_more (pair h r octets) (record { group = k.group; number = n }) is_seg k.group.total (groups_at h k.group w.accepted) k.seen before.parts)

    with_marks : (changes : Changes) (ns : List DiscardedGroup) → changes.last ≡ d.changes.last → changes.entries ≡ d.changes.entries → RefinesGroups h d.rows.entries ns (pair h r octets ∷ w.accepted) w.joined
        → ReadsOne m (frame_of h number r octets tag) h b (accept r tag octets (record d { rows = record d.rows { marks = ns }; changes = changes })) w
    with_marks changes ns same alike_entries g =
        takes m h number r tag octets b (record d { rows = record d.rows { marks = ns }; changes = changes }) w
        (arrived_as h number r tag octets d (record d { rows = record d.rows { marks = ns }; changes = changes }) w refl c) new
        (taken h r octets b d w d.rows.entries ns d.rows.outbox d.rows.counters changes w.joined refl same (s.joined ∙ ap (λ (z : List (Change Entry)). joined_by z (joined_at h b.joined)) (sym alike_entries)) s.out g s)

    gone : all_numbers k.group.total (k.seen ++ n ∷ []) ≡ true → RefinesGroups h d.rows.entries (without mark_key k.number d.rows.marks) (pair h r octets ∷ w.accepted) w.joined
    gone full =
        let ms = d.rows.marks in
        let ns = without mark_key k.number d.rows.marks in
        let after : Discarded d.rows.counters.entry d.rows.entries ns = mark_gone d.rows.counters.entry k.number d.rows.entries ms sound.marks in
        let none : mark_of k.group ns ≡ None = mark_none k.group ns (λ x i q.
        let a = among_without mark_key x k.number ms i in a.1 (sound.marks.one x k a.0 among q)) in
        let empty : members k.group d.rows.entries ≡ [] = no_members d.rows.counters.entry k.group d.rows.entries ms k sound.inbox there in
        record {
          keys = by_group h r octets (record { group = k.group; number = n }) is_seg w.accepted d.rows.entries d.rows.entries ms ns s.groups.keys
              (subst (λ (z : Groups). Matches (members k.group d.rows.entries) (mark_of k.group ns) z)
              (sym (here h r octets (record { group = k.group; number = n }) is_seg w.accepted ∙ closed (pair h r octets) (record { group = k.group; number = n }) is_seg k.group.total (groups_at h k.group w.accepted) lacks_there (sym alike ∙ full)))
              (subst (λ (z : Option DiscardedGroup). Matches (members k.group d.rows.entries) z (record { present = []; ended = (pair h r octets ∷ (groups_at h k.group w.accepted).present) ∷ (groups_at h k.group w.accepted).ended })) (sym none)
              (subst (λ (z : List Entry). Matches z None (record { present = []; ended = (pair h r octets ∷ (groups_at h k.group w.accepted).present) ∷ (groups_at h k.group w.accepted).ended })) (sym empty)
              (matches_none (pair h r octets) (record { group = k.group; number = n }) is_seg k.group.total (groups_at h k.group w.accepted)))))
              (λ q ne. refl)
              (λ q ne. others_marked d.rows.counters.entry d.rows.entries ms ns k.group q sound.marks after ne
              (λ x i t. (among_without mark_key x k.number ms i).0)
              (λ x i t. without_among mark_key x k.number ms i (λ f. t (ap (λ (z : DiscardedGroup). z.group) (same_mark ms x k sound.marks.order i among f)))));
          places = places_more h r octets w.accepted w.joined s.groups.places;
        }

    seen_too : all_numbers k.group.total (k.seen ++ n ∷ []) ≡ false → RefinesGroups h d.rows.entries (put mark_key (record k { seen = k.seen ++ n ∷ [] }) d.rows.marks) (pair h r octets ∷ w.accepted) w.joined
    seen_too left =
        let ms = d.rows.marks in
        let x : DiscardedGroup = record k { seen = k.seen ++ n ∷ [] } in
        let ns = put mark_key x d.rows.marks in
        let after : Discarded d.rows.counters.entry d.rows.entries ns = mark_more d.rows.counters.entry n k d.rows.entries ms among lacks left sound.marks in
        let is : mark_of k.group ns ≡ Some x = mark_is d.rows.counters.entry d.rows.entries ns x after (put_among mark_key x x ms (inl refl)) in
        record {
          keys = by_group h r octets (record { group = k.group; number = n }) is_seg w.accepted d.rows.entries d.rows.entries ms ns s.groups.keys
              (subst (λ (z : Groups). Matches (members k.group d.rows.entries) (mark_of k.group ns) z)
              (sym (here h r octets (record { group = k.group; number = n }) is_seg w.accepted ∙ entered (pair h r octets) (record { group = k.group; number = n }) is_seg k.group.total (groups_at h k.group w.accepted) lacks_there (sym alike ∙ left)))
              (subst (λ (z : Option DiscardedGroup). Matches (members k.group d.rows.entries) z (record { present = pair h r octets ∷ (groups_at h k.group w.accepted).present; ended = (groups_at h k.group w.accepted).ended })) (sym is)
              (matches_mark (pair h r octets) (record { group = k.group; number = n }) is_seg k.group.total (groups_at h k.group w.accepted) (members k.group d.rows.entries) k before)))
              (λ q ne. refl)
              (λ q ne. others_marked d.rows.counters.entry d.rows.entries ms ns k.group q sound.marks after ne
              (λ y i t. ⊎_elim (λ (e : y ≡ x). absurd (t (ap (λ (z : DiscardedGroup). z.group) e))) (λ (e : Among y ms × ¬ (y.number ≡ k.number)). e.0) (among_put mark_key y x ms i))
              (λ y i t. put_among mark_key y x ms (inr (i, λ f. t (ap (λ (z : DiscardedGroup). z.group) (same_mark ms y k sound.marks.order i among f))))));
          places = places_more h r octets w.accepted w.joined s.groups.places;
        }

    noted_law : ReadsOne m (frame_of h number r octets tag) h b (accept r tag octets (marked n k d)) w
    noted_law =
        cond_both (all_numbers k.group.total (k.seen ++ n ∷ [])) (remove_mark k.number d) (put_mark (record k { seen = k.seen ++ n ∷ [] }) d) (λ (z : Draft). ReadsOne m (frame_of h number r octets tag) h b (accept r tag octets z) w)
        (λ t. with_marks (remove_mark k.number d).changes (without mark_key k.number d.rows.marks) refl refl (gone t))
        (λ t. with_marks (put_mark (record k { seen = k.seen ++ n ∷ [] }) d).changes (put mark_key (record k { seen = k.seen ++ n ∷ [] }) d.rows.marks) refl refl (seen_too t))

  pub discarded_law : ReadsOne m (frame_of h number r octets tag) h b (part_received r tag octets k.group n (Some k) d) w
  discarded_law =
      cond_both (is_among n k.seen) (single_received r tag octets d) (accept r tag octets (marked n k d)) (λ (z : Draft). ReadsOne m (frame_of h number r octets tag) h b z w) seen_law noted_law
