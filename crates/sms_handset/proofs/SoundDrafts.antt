-- A sound handset in the middle of an event, and the moves that keep it so.
use Rattle.std.proofs.Common.{◌≡◌, ◌<◌, ◌≤◌, List, length, Bool, true, Option, None, sym, subst, Some, arith, ⊎_elim}
use Rattle.sms_base.specs.Among.{Among}
use Rattle.sms_base.specs.declared.carried.Carried.{Carried}
use Rattle.sms_rows.specs.table.Table.{Rises, put}
use Rattle.sms_rows.proofs.table.Tables.{among_put, rises_put}
use Rattle.sms_handset_rows.specs.declared.inbox.last_accepted.LastAccepted.{LastAccepted}
use Rattle.sms_handset_rows.specs.inbox.Keys.{last_key}
use Rattle.sms_handset_rows.specs.inbox.SoundInbox.{IsLast}
use Rattle.sms_handset_rows.proofs.inbox.SoundEntries.{Inbox, all_at, inbox_from, all_from, entries_are, groups_are, StaysFree, inbox_more}
use Rattle.sms_handset_rows.proofs.inbox.SoundMarks.{Discarded, discarded_from, marks_are, discarded_entries}
use Rattle.sms_handset_rows.specs.declared.inbox.entry.Entry.{Entry}
use Rattle.sms_handset_rows.specs.declared.inbox.discarded_group.DiscardedGroup.{DiscardedGroup}
use Rattle.sms_handset_rows.specs.declared.outbox.notice.Notice.{Notice}
use Rattle.sms_handset_rows.proofs.outbox.SoundOutbox.{Outbox, outbox_from, message_references_differ, out_entries_are, references_differ, outbox_entries}
use Rattle.sms_handset_rows.specs.declared.outbox.out_entry.OutEntry.{OutEntry}
use Rattle.sms_handset_draft.specs.declared.rows.Rows.{Rows}
use Rattle.sms_handset_draft.specs.MemoryAvailable.{most_notices}
use Rattle.sms_handset.specs.SoundCore.{IsUnderWay, IsSoundCore}
use Rattle.sms_handset.specs.SoundRows.{IsSetup, IsSound}
use Rattle.sms_handset_draft.specs.Draft.{Draft, Core, core_of}
use Rattle.sms_handset_draft.specs.declared.counters.Counters.{Counters}

pub record Sound (r : Rows) (w : Option Carried) (b : Bool) (n : List Notice) : Type 0 where
  pub setup : IsSetup r.setup
  pub counted : 0 < r.counters.entry
  pub few_stored : length r.entries ≤ 255
  pub inbox : Inbox r.counters.entry r.entries r.marks
  pub last_keys : Rises last_key r.last
  pub last : (l : LastAccepted) → Among l r.last → IsLast l
  pub outbox : Outbox r.counters.entry r.entries r.outbox
  pub marks : Discarded r.counters.entry r.entries r.marks
  pub recovered : b ≡ true → w ≡ None
  pub under_way : IsUnderWay w r.outbox
  pub few_notices : length n ≤ most_notices

abbrev pub SoundAt : Draft → Type 0
SoundAt d = Sound d.rows d.under_way d.is_recovered d.notices

pub sound_as : (d z : Draft) (r : Rows) → z.rows ≡ r → z.under_way ≡ d.under_way → z.is_recovered ≡ d.is_recovered → z.notices ≡ d.notices
    → Sound r d.under_way d.is_recovered d.notices → SoundAt z
sound_as d z r e f g h s =
    subst (λ (q : Rows). Sound q z.under_way z.is_recovered z.notices) (sym e)
    (subst (λ (w : Option Carried). Sound r w z.is_recovered z.notices) (sym f)
    (subst (λ (b : Bool). Sound r d.under_way b z.notices) (sym g)
    (subst (λ (n : List Notice). Sound r d.under_way d.is_recovered n) (sym h) s)))

-- ---- it is what is said of a handset between events

pub sound_from : (c : Core) → IsSoundCore c → Sound c.rows c.under_way c.is_recovered c.notices
sound_from c s =
    let r = s.rows in
    let k = c.rows.counters.entry in record {
      setup = r.setup;
      counted = r.counted;
      few_stored = r.few_stored;
      inbox = inbox_from k c.rows.entries c.rows.marks r.entry_keys r.entries r.groups;
      last_keys = r.last_keys;
      last = all_at (λ (l : LastAccepted). IsLast l) c.rows.last r.last;
      outbox = outbox_from k c.rows.entries c.rows.outbox r.out_keys r.outbox r.few_entries r.message_references r.references;
      marks = discarded_from k c.rows.entries c.rows.marks r.mark_keys r.marks r.few_marks;
      recovered = s.recovered;
      under_way = s.under_way;
      few_notices = s.few_notices;
    }

rows_are_sound : (r : Rows) (w : Option Carried) (b : Bool) (n : List Notice) → Sound r w b n → IsSound r
rows_are_sound r w b n s = record {
  setup = s.setup;
  entry_keys = s.inbox.order;
  last_keys = s.last_keys;
  out_keys = s.outbox.order;
  mark_keys = s.marks.order;
  counted = s.counted;
  few_stored = s.few_stored;
  entries = entries_are r.counters.entry r.entries r.marks s.inbox;
  groups = groups_are r.counters.entry r.entries r.marks s.inbox;
  last = all_from (λ (l : LastAccepted). IsLast l) r.last s.last;
  outbox = out_entries_are r.counters.entry r.entries r.outbox s.outbox;
  few_entries = s.outbox.few;
  message_references = message_references_differ r.counters.entry r.entries r.outbox s.outbox;
  references = references_differ r.counters.entry r.entries r.outbox s.outbox;
  marks = marks_are r.counters.entry r.entries r.marks s.marks;
  few_marks = s.marks.few;
}

pub sound_core : (d : Draft) → SoundAt d → IsSoundCore (core_of d)
sound_core d s = record { rows = rows_are_sound d.rows d.under_way d.is_recovered d.notices s; recovered = s.recovered; under_way = s.under_way; few_notices = s.few_notices }

pub none_under_way : (w : Option Carried) (os : List OutEntry) → w ≡ None → IsUnderWay w os
none_under_way None os e = tt
none_under_way (Some c) os e = absurd cc

-- ---- moves

-- entries of the inbox come and leave, and numbers are given
pub entries_move : (r : Rows) (w : Option Carried) (b : Bool) (n : List Notice) (c : Counters) (es : List Entry) → r.counters.entry ≤ c.entry → length es ≤ 255 → Inbox c.entry es r.marks → StaysFree r.counters.entry r.entries es
    → Sound r w b n → Sound (record r { entries = es; counters = c }) w b n
entries_move r w b n c es l few i f s = record {
  setup = s.setup;
  counted = (let p = s.counted in omega arith);
  few_stored = few;
  inbox = i;
  last_keys = s.last_keys;
  last = s.last;
  outbox = outbox_entries r.counters.entry c.entry r.entries es r.outbox l f s.outbox;
  marks = discarded_entries r.counters.entry c.entry r.entries es r.marks l f s.marks;
  recovered = s.recovered;
  under_way = s.under_way;
  few_notices = s.few_notices;
}

pub counters_move : (r : Rows) (w : Option Carried) (b : Bool) (n : List Notice) (c : Counters) → r.counters.entry ≤ c.entry → Sound r w b n → Sound (record r { counters = c }) w b n
counters_move r w b n c l s =
    entries_move r w b n c r.entries l s.few_stored (inbox_more r.counters.entry c.entry r.entries r.marks l s.inbox) (λ k h f. f) s

pub last_moves : (r : Rows) (w : Option Carried) (b : Bool) (n : List Notice) (x : LastAccepted) → IsLast x → Sound r w b n → Sound (record r { last = put last_key x r.last }) w b n
last_moves r w b n x i s = record {
  setup = s.setup;
  counted = s.counted;
  few_stored = s.few_stored;
  inbox = s.inbox;
  last_keys = rises_put last_key x r.last s.last_keys;
  last = λ l a. ⊎_elim (λ (e : l ≡ x). subst (λ (z : LastAccepted). IsLast z) (sym e) i) (λ (q : Among l r.last × ¬ (l.reference ≡ x.reference)). s.last l q.0) (among_put last_key l x r.last a);
  outbox = s.outbox;
  marks = s.marks;
  recovered = s.recovered;
  under_way = s.under_way;
  few_notices = s.few_notices;
}

pub outbox_moves : (r : Rows) (w v : Option Carried) (b a : Bool) (n : List Notice) (os : List OutEntry) → Outbox r.counters.entry r.entries os → (a ≡ true → v ≡ None) → IsUnderWay v os
    → Sound r w b n → Sound (record r { outbox = os }) v a n
outbox_moves r w v b a n os o q u s = record {
  setup = s.setup;
  counted = s.counted;
  few_stored = s.few_stored;
  inbox = s.inbox;
  last_keys = s.last_keys;
  last = s.last;
  outbox = o;
  marks = s.marks;
  recovered = q;
  under_way = u;
  few_notices = s.few_notices;
}

pub marks_move : (r : Rows) (w : Option Carried) (b : Bool) (n : List Notice) (ms : List DiscardedGroup) → Inbox r.counters.entry r.entries ms → Discarded r.counters.entry r.entries ms → Sound r w b n → Sound (record r { marks = ms }) w b n
marks_move r w b n ms i d s = record {
  setup = s.setup;
  counted = s.counted;
  few_stored = s.few_stored;
  inbox = i;
  last_keys = s.last_keys;
  last = s.last;
  outbox = s.outbox;
  marks = d;
  recovered = s.recovered;
  under_way = s.under_way;
  few_notices = s.few_notices;
}

-- a group leaves the inbox and is discarded
pub group_moves : (r : Rows) (w : Option Carried) (b : Bool) (n : List Notice) (es : List Entry) (ms : List DiscardedGroup) → length es ≤ 255 → Inbox r.counters.entry es ms → StaysFree r.counters.entry r.entries es → (Discarded r.counters.entry es r.marks → Discarded r.counters.entry es ms)
    → Sound r w b n → Sound (record r { entries = es; marks = ms }) w b n
group_moves r w b n es ms few i f d s = record {
  setup = s.setup;
  counted = s.counted;
  few_stored = few;
  inbox = i;
  last_keys = s.last_keys;
  last = s.last;
  outbox = outbox_entries r.counters.entry r.counters.entry r.entries es r.outbox (omega arith) f s.outbox;
  marks = d (discarded_entries r.counters.entry r.counters.entry r.entries es r.marks (omega arith) f s.marks);
  recovered = s.recovered;
  under_way = s.under_way;
  few_notices = s.few_notices;
}

-- RP-SMMA come and end
pub notices_move : (r : Rows) (w : Option Carried) (b : Bool) (n m : List Notice) → length m ≤ most_notices → Sound r w b n → Sound r w b m
notices_move r w b n m l s = record {
  setup = s.setup;
  counted = s.counted;
  few_stored = s.few_stored;
  inbox = s.inbox;
  last_keys = s.last_keys;
  last = s.last;
  outbox = s.outbox;
  marks = s.marks;
  recovered = s.recovered;
  under_way = s.under_way;
  few_notices = l;
}
