-- The test tells exactly whether rows are sound.
use Rattle.std.proofs.Common.{◌≡◌, true, sym, ◌∙◌, true≢false, ◌≤◌, length, ◌<◌, Bool, false}
use Rattle.std.specs.Prelude.{◌&&◌, nat_le, nat_lt, ◌↔◌}
use Rattle.std.proofs.lemmas.Bool.{and_from, and_parts}
use Rattle.std.specs.List.{AllByRecursion}
use Rattle.sms_handset_rows.proofs.inbox.InboxDecided.{IsTestOf, both, at_most, less, entries_decide, groups_decide, last_decides, differ_decides, marks_decide}
use Rattle.sms_handset_rows.specs.declared.inbox.entry.Entry.{Entry}
use Rattle.sms_handset_rows.specs.inbox.SoundInbox.{AreEntries, AreOpenGroups, IsLast, AreMarks, Differ}
use Rattle.sms_handset_rows.specs.inbox.InboxTest.{is_of_open_group, each_passes, is_entry, is_last, are_marks, differ}
use Rattle.sms_handset_rows.specs.declared.inbox.last_accepted.LastAccepted.{LastAccepted}
use Rattle.sms_handset_rows.specs.outbox.References.{held_by_entries, held_message_references}
use Rattle.sms_handset_rows.specs.outbox.SoundOutbox.{AreOutEntries}
use Rattle.sms_handset_rows.proofs.outbox.OutboxDecided.{outbox_decides}
use Rattle.sms_handset_rows.specs.declared.outbox.out_entry.OutEntry.{OutEntry}
use Rattle.sms_handset_rows.specs.outbox.OutboxTest.{is_out_entry}
use Rattle.sms_handset_draft.specs.declared.rows.Rows.{Rows}
use Rattle.sms_handset.specs.SoundRows.{IsSound, IsSetup}
use Rattle.sms_handset.specs.SoundnessTest.{KeysRise, are_few, inbox_passes, outbox_passes}

-- ---- all rows

pub rise_of : (r : Rows) → IsSound r → KeysRise r
rise_of r s = record { entries = s.entry_keys; last = s.last_keys; outbox = s.out_keys; marks = s.mark_keys }

few_decides : (r : Rows) → IsTestOf (are_few r) ((length r.entries ≤ 255) × ((length r.outbox ≤ 20) × (length r.marks ≤ 64)))
few_decides r =
    both (nat_le (length r.entries) 255) (nat_le (length r.outbox) 20 && nat_le (length r.marks) 64) (length r.entries ≤ 255) ((length r.outbox ≤ 20) × (length r.marks ≤ 64))
    (at_most (length r.entries) 255)
    (both (nat_le (length r.outbox) 20) (nat_le (length r.marks) 64) (length r.outbox ≤ 20) (length r.marks ≤ 64) (at_most (length r.outbox) 20) (at_most (length r.marks) 64))

pub few_of : (r : Rows) → IsSound r → are_few r ≡ true
few_of r s = (few_decides r).1 (s.few_stored, (s.few_entries, s.few_marks))

abbrev IsInbox : Rows → Type 0
IsInbox r = (0 < r.counters.entry) × (AreEntries r.counters.entry r.entries × (AreOpenGroups r.entries r.marks × AllByRecursion IsLast r.last))

inbox_decides : (r : Rows) → IsTestOf (inbox_passes r) (IsInbox r)
inbox_decides r =
    let k = r.counters.entry in
    let a = each_passes (λ (e : Entry). is_entry k e) r.entries in
    let b = each_passes (λ (e : Entry). is_of_open_group r.entries r.marks e.number e.message) r.entries in
    let c = each_passes (λ (l : LastAccepted). is_last l) r.last in
    both (nat_lt 0 k) (a && (b && c)) (0 < k) (AreEntries k r.entries × (AreOpenGroups r.entries r.marks × AllByRecursion IsLast r.last)) (less 0 k)
    (both a (b && c) (AreEntries k r.entries) (AreOpenGroups r.entries r.marks × AllByRecursion IsLast r.last) (entries_decide k r.entries)
    (both b c (AreOpenGroups r.entries r.marks) (AllByRecursion IsLast r.last) (groups_decide r.entries r.marks) (last_decides r.last)))

abbrev IsOutbox : Rows → Type 0
IsOutbox r =
    AreOutEntries r.counters.entry r.entries r.outbox
    × (Differ (held_message_references r.outbox) × (Differ (held_by_entries r.outbox) × AreMarks r.counters.entry r.entries r.marks))

outbox_decide : (r : Rows) → IsTestOf (outbox_passes r) (IsOutbox r)
outbox_decide r =
    let k = r.counters.entry in
    let a = each_passes (λ (o : OutEntry). is_out_entry k r.entries o) r.outbox in
    let b = differ (held_message_references r.outbox) in
    let c = differ (held_by_entries r.outbox) in
    let d = are_marks k r.entries r.marks in
    both a (b && (c && d)) (AreOutEntries k r.entries r.outbox) (Differ (held_message_references r.outbox) × (Differ (held_by_entries r.outbox) × AreMarks k r.entries r.marks))
    (outbox_decides k r.entries r.outbox)
    (both b (c && d) (Differ (held_message_references r.outbox)) (Differ (held_by_entries r.outbox) × AreMarks k r.entries r.marks) (differ_decides (held_message_references r.outbox))
    (both c d (Differ (held_by_entries r.outbox)) (AreMarks k r.entries r.marks) (differ_decides (held_by_entries r.outbox)) (marks_decide k r.entries r.marks)))

pub inbox_of : (r : Rows) → IsSound r → inbox_passes r ≡ true
inbox_of r s = (inbox_decides r).1 (s.counted, (s.entries, (s.groups, s.last)))

pub outbox_of : (r : Rows) → IsSound r → outbox_passes r ≡ true
outbox_of r s = (outbox_decide r).1 (s.outbox, (s.message_references, (s.references, s.marks)))

pub sound_is : (r : Rows) → IsSetup r.setup → KeysRise r → are_few r ≡ true → inbox_passes r ≡ true → outbox_passes r ≡ true → IsSound r
sound_is r setup rise few inbox outbox =
    let f = (few_decides r).0 few in
    let i = (inbox_decides r).0 inbox in
    let o = (outbox_decide r).0 outbox in
    record {
      setup = setup;
      entry_keys = rise.entries;
      last_keys = rise.last;
      out_keys = rise.outbox;
      mark_keys = rise.marks;
      counted = i.0;
      few_stored = f.0;
      entries = i.1.0;
      groups = i.1.1.0;
      last = i.1.1.1;
      outbox = o.0;
      few_entries = f.1.0;
      message_references = o.1.0;
      references = o.1.1.0;
      marks = o.1.1.1;
      few_marks = f.1.1;
    }

-- what the test answers

pub told : (r : Rows) (b rise inbox outbox : Bool) → IsSetup r.setup → are_few r ≡ true → ((rise ≡ true) ↔ KeysRise r) → inbox ≡ inbox_passes r → outbox ≡ outbox_passes r
    → b ≡ (rise && (inbox && outbox)) → (b ≡ true) ↔ IsSound r
told r b rise inbox outbox setup few keys i o e = (
  (λ t.
      let p = and_parts rise (inbox && outbox) (sym e ∙ t) in
      let q = and_parts inbox outbox p.1 in
      sound_is r setup (keys.0 p.0) few (sym i ∙ q.0) (sym o ∙ q.1)),
  (λ s. e ∙ and_from rise (inbox && outbox) (keys.1 (rise_of r s)) (and_from inbox outbox (i ∙ inbox_of r s) (o ∙ outbox_of r s))),
)

pub too_many_rows : (r : Rows) → are_few r ≡ false → (false ≡ true) ↔ IsSound r
too_many_rows r e = ((λ t. absurd cc), (λ s. let f = few_of r s in absurd (true≢false (sym f ∙ e))))
