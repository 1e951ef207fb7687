-- What is left of a full group among the entries.
use Rattle.std.proofs.Common.{◌≡◌, ℕ, List, [], ◌∷◌, ◌++◌, false, refl, sym, ◌∙◌, ap, subst, inl, Option, Some, None}
use Rattle.sms_base.specs.Among.{Among}
use Rattle.sms_rows.specs.declared.table.change.Change.{Change}
use Rattle.sms_rows.specs.declared.table.change.Change.TheVariants.{Put, Remove}
use Rattle.sms_rows.specs.table.Table.{put, without}
use Rattle.sms_concat.specs.declared.content.Content.{Content}
use Rattle.sms_handset_rows.specs.declared.inbox.entry.Entry.{Entry}
use Rattle.sms_handset_rows.specs.declared.inbox.entry.Group.{Group}
use Rattle.sms_handset_rows.specs.declared.inbox.discarded_group.DiscardedGroup.{DiscardedGroup}
use Rattle.sms_handset_draft.specs.Draft.{Draft}
use Rattle.sms_handset_rows.specs.inbox.Groups.{alone, is_part_of, joined_entry, mark_of, members}
use Rattle.sms_handset_draft.specs.Storing.{drop_all, ended, free_all}
use Rattle.sms_handset_rows.specs.inbox.Keys.{entry_key}
use Rattle.sms_handset_rows.proofs.inbox.GroupMembers.{all_without, members_among, members_put, without_apart}
use Rattle.sms_handset_rows.proofs.inbox.SoundEntries.{Inbox, all_from, new_apart}
use Rattle.sms_handset_rows.proofs.inbox.SoundGroups.{all_freed, ended_entries}
use Rattle.sms_world.specs.headline.SeenWorld.{JoinedText}
use Rattle.sms_world.specs.handset_runs_are_steps.PutInOrder.{joined_by}
use Rattle.sms_world.proofs.handset_runs_are_steps.Putting.{joined_push}

-- the draft with other entries
abbrev pub with_entries : Draft → List Entry → List (Change Entry) → Draft
with_entries d es cs = record d { rows = record d.rows { entries = es }; changes = record d.changes { entries = cs } }

-- ---- moves of entries change entries alone

dropped_as : (xs : List Entry) (d : Draft) (es : List Entry) (cs : List (Change Entry))
    → (y : List (Change Entry)) × ((drop_all xs (with_entries d es cs) ≡ with_entries d (all_without xs es) y) × ((js : List JoinedText) → joined_by y js ≡ joined_by cs js))
dropped_as [] d es cs = (cs, (refl, λ js. refl))
dropped_as (x ∷ xs) d es cs =
    let o = dropped_as xs d (without entry_key x.number es) (cs ++ Remove x.number ∷ []) in
    (o.0, (o.1.0, λ js. o.1.1 js ∙ joined_push cs (Remove x.number) js))

freed_as : (xs : List Entry) (d : Draft) (es : List Entry) (cs : List (Change Entry))
    → (y : List (Change Entry)) × ((free_all xs (with_entries d es cs) ≡ with_entries d (all_freed xs es) y) × ((js : List JoinedText) → joined_by y js ≡ joined_by cs js))
freed_as [] d es cs = (cs, (refl, λ js. refl))
freed_as (x ∷ xs) d es cs =
    let o = freed_as xs d (put entry_key (alone x) es) (cs ++ Put (alone x) ∷ []) in
    (o.0, (o.1.0, λ js. o.1.1 js ∙ joined_push cs (Put (alone x)) js))

-- what the end of a group joins, on top of what was
abbrev pub ended_text : Group → Option Content → List JoinedText → List JoinedText
ended_text g None js = js
ended_text g (Some content) js = record { source = g.source; content = content } ∷ js

pub ended_as : (g : Group) (xs : List Entry) (c : Option Content) (d : Draft) (es : List Entry) (cs : List (Change Entry))
    → (y : List (Change Entry))
    × ((ended g xs c (with_entries d es cs) ≡ with_entries d (ended_entries g xs c es) y) × ((js : List JoinedText) → joined_by y js ≡ ended_text g c (joined_by cs js)))
ended_as g xs None d es cs = freed_as xs d es cs
ended_as g xs (Some content) d es cs =
    let e : Entry = joined_entry g xs content in
    let o = dropped_as xs d es cs in
    let same = ap (λ (z : Draft). record z { rows = record z.rows { entries = put entry_key e z.rows.entries }; changes = record z.changes { entries = z.changes.entries ++ Put e ∷ [] } }) o.1.0 in
    (o.0 ++ Put e ∷ [], (same, λ js. joined_push o.0 (Put e) js ∙ ap (λ (z : List JoinedText). record { source = g.source; content = content } ∷ z) (o.1.1 js)))

pub discarded_as : (xs : List Entry) (d : Draft)
    → (y : List (Change Entry)) × ((drop_all xs d ≡ with_entries d (all_without xs d.rows.entries) y) × ((js : List JoinedText) → joined_by y js ≡ joined_by d.changes.entries js))
discarded_as xs d = dropped_as xs d d.rows.entries d.changes.entries

-- ---- the members of groups (as in SoundGroups, where these are private)

-- an entry of its own under the next number changes no group
pub single_members : (k : ℕ) (x : Entry) (es : List Entry) (ms : List DiscardedGroup) → Inbox k es ms → x.number ≡ k → ((g : Group) → is_part_of g x.message ≡ false)
    → (g : Group) → members g (put entry_key x es) ≡ members g es
single_members k x es ms i q parted g =
    members_put g x es (parted g)
    ∙ without_apart x.number (members g es) (all_from (λ (e : Entry). ¬ (e.number ≡ x.number)) (members g es) (λ e a f. new_apart k es ms i e (members_among g e es a).0 (f ∙ q)))

-- a discarded group has no members
pub no_members : (k : ℕ) (g : Group) (es : List Entry) (ms : List DiscardedGroup) (m : DiscardedGroup) → Inbox k es ms → mark_of g ms ≡ Some m → members g es ≡ []
no_members k g es ms m i e = at (members g es) refl
  where
    at : (l : List Entry) → members g es ≡ l → members g es ≡ []
    at [] q = q
    at (x ∷ xs) q =
        let kept = (i.groups g x (subst (λ (z : List Entry). Among x z) (sym q) (inl refl))).not_discarded in
        let bad : Some m ≡ None = sym e ∙ kept in absurd cc
