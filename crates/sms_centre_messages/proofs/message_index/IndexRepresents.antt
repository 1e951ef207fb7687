-- What is held stays held, whatever comes or goes.
use Rattle.std.proofs.Common.{◌≡◌, ◌⊎◌, ℕ, zero, suc, ◌+◌, ◌≤◌, List, [], ◌∷◌, length, Option, Some, None, true, false, true≢false, refl, sym, ◌∙◌, ap, subst, ⊎_elim, arith}
use Rattle.std.specs.List.{slice_get}
use Rattle.std.specs.Prelude.{not, ◌-◌, is_none, is_some}
use Rattle.std.proofs.lemmas.Option.{slice_get-get_or, slice_get_within}
use Rattle.sms_base.specs.Among.{Among}
use Rattle.sms_base.specs.declared.final_state.FinalState.{FinalState}
use Rattle.sms_rows.specs.expiry.Deadlines.{DeadlinesOf, first_of}
use Rattle.sms_rows.specs.declared.expiry.deadline.Deadline.{Deadline}
use Rattle.sms_rows.specs.declared.table.change.Change.TheVariants.{Put, Remove}
use Rattle.sms_rows.specs.table.Table.{RowsInMemory, all_applied, put, row_at, without}
use Rattle.sms_rows.proofs.table.Tables.{among_found, among_put, among_without, length_applied, rises_put, rises_without}
use Rattle.sms_centre_rows.specs.declared.messages.message.MessageRow.{MessageRow}
use Rattle.sms_centre_rows.specs.declared.messages.part.PartRow.{PartRow}
use Rattle.sms_centre_rows.specs.declared.messages.parts.PartEntry.{PartEntry}
use Rattle.sms_centre_rows.specs.messages.Messages.{id_after, is_pending, message_at, message_key, next_id}
use Rattle.sms_centre_rows.specs.messages.PartEntries.{entry_key}
use Rattle.sms_centre_messages.specs.declared.message_index.message_entry.MessageEntry.{MessageEntry}
use Rattle.sms_centre_messages.specs.message_index.Entries.{AreEntries, FoundAs, IsEntry, NamesStay, NamesOf, UsesNames, message_entry_key}
use Rattle.sms_centre_messages.specs.message_index.MessageIndex.{Applies, FitsTheMessages, HasRoomFor, Represents, IsStaleFirst, MessageIndexOf, Matches, Notes, PutsIn, MessageIndexReserveOf, TakesInMessages, deadline_of, is_ended, past_entry_id, past_id}
use Rattle.sms_centre_messages.proofs.message_index.Entries.{found_as, preserved_entries, put_entries, same_key, without_entries}

-- a message comes: its deadline was noted, its names are kept, and its entry stands there
pub holds_put : (row : MessageRow) (e : MessageEntry) (names : NamesOf) (messages : RowsInMemory MessageEntry) (old noted : MessageIndexOf) → Notes row old noted → NamesStay noted.names names → IsEntry names e row
    → messages.rows ≡ put message_entry_key e noted.messages.rows → (ms : List MessageRow) (ps : List PartRow) → Represents old ms ps
    → Represents (record { names = names; messages = messages; parts = noted.parts; deadlines = noted.deadlines }) (put message_key row ms) ps
holds_put row e names messages old noted notes keeps is there ms ps h = record {
  messages = subst (λ (es : List MessageEntry). AreEntries names es (put message_key row ms)) (sym there)
      (put_entries names e row noted.messages.rows ms is
      (preserved_entries noted.names names keeps noted.messages.rows ms
      (subst (λ (t : RowsInMemory MessageEntry). AreEntries noted.names t.rows ms) (sym notes.messages) (subst (λ (n : NamesOf). AreEntries n old.messages.rows ms) (sym notes.names) h.messages))));
  parts = ap (λ (t : RowsInMemory PartEntry). t.rows) notes.parts ∙ h.parts;
  deadlines = λ m a p. ⊎_elim
      (λ (q : m ≡ row). subst (λ (r : MessageRow). Among (deadline_of r) noted.deadlines.items) (sym q) (notes.own (ap (λ (r : MessageRow). is_pending r) (sym q) ∙ p)))
      (λ (k : Among m ms × ¬ (message_key m ≡ message_key row)). notes.others (deadline_of m) (h.deadlines m k.0 p))
      (among_put message_key m row ms a);
  message_keys = rises_put message_key row ms h.message_keys;
  part_keys = h.part_keys;
}

-- and in memory that was there
pub puts_in : (row : MessageRow) (e : MessageEntry) (names : NamesOf) (messages : RowsInMemory MessageEntry) (old noted : MessageIndexOf) → Notes row old noted → NamesStay noted.names names → UsesNames noted.names names → IsEntry names e row
    → messages.rows ≡ put message_entry_key e noted.messages.rows → noted.messages.capacity ≤ messages.capacity
    → PutsIn row old (record { names = names; messages = messages; parts = noted.parts; deadlines = noted.deadlines })
puts_in row e names messages old noted notes keeps uses is there grows = record {
  holds = holds_put row e names messages old noted notes keeps is there;
  room = λ n room.
      let l : length (put message_entry_key e noted.messages.rows) ≤ length noted.messages.rows + 1 = length_applied message_entry_key (Put e) noted.messages.rows in
      let rows : length messages.rows ≡ length (put message_entry_key e noted.messages.rows) = ap (λ (es : List MessageEntry). length es) there in
      let r = room.messages in
      let a : length noted.messages.rows ≡ length old.messages.rows = ap (λ (t : RowsInMemory MessageEntry). length t.rows) notes.messages in
      let b : noted.messages.capacity ≡ old.messages.capacity = ap (λ (t : RowsInMemory MessageEntry). t.capacity) notes.messages in
      let numbers : noted.names.numbers.room ≡ old.names.numbers.room = ap (λ (t : NamesOf). t.numbers.room) notes.names in
      let accounts : noted.names.accounts.room ≡ old.names.accounts.room = ap (λ (t : NamesOf). t.accounts.room) notes.names in
      record {
        messages = omega (arith, l, rows, grows, r, a, b);
        numbers = omega (arith, numbers, uses.numbers, room.numbers);
        accounts = omega (arith, accounts, uses.accounts, room.accounts);
        deadlines = omega (arith, notes.few, notes.room, room.deadlines);
      };
}

-- a message goes
pub takes_out : (key : ℕ) (old : MessageIndexOf) → Applies (Remove key) old (record old { messages = record old.messages { rows = without message_entry_key key old.messages.rows } })
takes_out key old = record {
  holds = λ ms ps h. record {
    messages = without_entries old.names key old.messages.rows ms h.messages;
    parts = h.parts;
    deadlines = λ m a p. h.deadlines m (among_without message_key m key ms a).0 p;
    message_keys = rises_without message_key key ms h.message_keys;
    part_keys = h.part_keys;
  };
  room = λ n room.
      let l = length_applied message_entry_key (Remove key) old.messages.rows in
      let r = room.messages in
      record {
        messages = omega (arith, l, r);
        numbers = let s = room.numbers in omega (arith, s);
        accounts = let s = room.accounts in omega (arith, s);
        deadlines = let s = room.deadlines in omega (arith, s);
      };
}

-- a deadline comes
pub noted : (row : MessageRow) (old : MessageIndexOf) (after : DeadlinesOf) → Among (deadline_of row) after.items → ((other : Deadline) → Among other old.deadlines.items → Among other after.items) → length after.items ≡ length old.deadlines.items + 1 → old.deadlines.capacity ≤ after.capacity
    → Notes row old (record { names = old.names; messages = old.messages; parts = old.parts; deadlines = after })
noted row old after own others len capacity = record {
  own = λ p. own;
  others = others;
  few = omega (arith, len);
  room = capacity;
  names = refl;
  messages = refl;
  parts = refl;
}

-- the deadline that stood first goes, whose message isn't pending
pub holds_stale : (k : MessageIndexOf) (after : DeadlinesOf) (ms : List MessageRow) (ps : List PartRow) → Represents k ms ps → IsStaleFirst ms k
    → ((other : Deadline) → Among other k.deadlines.items → (Some other ≡ first_of k.deadlines.items) ⊎ Among other after.items)
    → Represents (record { names = k.names; messages = k.messages; parts = k.parts; deadlines = after }) ms ps
holds_stale k after ms ps h stale goes = record {
  messages = h.messages;
  parts = h.parts;
  deadlines = λ m a p. ⊎_elim
      (λ (q : Some (deadline_of m) ≡ first_of k.deadlines.items).
      let found : message_at m.id ms ≡ Some m = among_found message_key m ms h.message_keys a in
      let no : not (is_pending m) ≡ true = ap (λ (o : Option MessageRow). is_ended o) (sym found) ∙ stale (deadline_of m) (sym q) in
      let yes : not (is_pending m) ≡ false = ap not p in
      absurd (true≢false (sym no ∙ yes)))
      (λ (r : Among (deadline_of m) after.items). r)
      (goes (deadline_of m) (h.deadlines m a p));
  message_keys = h.message_keys;
  part_keys = h.part_keys;
}

-- ---- the number of the next message

last_next : (names : NamesOf) (id k : ℕ) (es : List MessageEntry) (ms : List MessageRow) (e : MessageEntry) → AreEntries names es ms → k + 1 ≡ length es → slice_get es k ≡ Some e → id_after id ms ≡ e.id + 1
last_next names id k [] ms e are l at = absurd (omega (arith, l))
last_next names id k (x ∷ es) [] e are l at = elim are [ ]
last_next names id zero (x ∷ []) (m ∷ []) e are l at =
    let is : x ≡ e = cc in
    ap (λ (n : ℕ). n + 1) (sym (same_key names x m are.0) ∙ ap (λ (y : MessageEntry). y.id) is)
last_next names id zero (x ∷ []) (m ∷ n ∷ ms) e are l at = elim are.1 [ ]
last_next names id zero (x ∷ y ∷ es) (m ∷ ms) e are l at = absurd (omega (arith, l))
last_next names id (suc k) (x ∷ es) (m ∷ ms) e are l at = last_next names (m.id + 1) k es ms e are.1 (omega (arith, l)) at

pub next_some : (k : MessageIndexOf) (ms : List MessageRow) (ps : List PartRow) (e : MessageEntry) → Represents k ms ps → slice_get k.messages.rows (length k.messages.rows - 1) ≡ Some e → e.id + 1 ≡ next_id ms
next_some k ms ps e h at =
    let l = slice_get_within k.messages.rows (length k.messages.rows - 1) e at in
    sym (last_next k.names 1 (length k.messages.rows - 1) k.messages.rows ms e h.messages (omega (arith, l)) at)

pub next_none : (k : MessageIndexOf) (ms : List MessageRow) (ps : List PartRow) → Represents k ms ps → slice_get k.messages.rows (length k.messages.rows - 1) ≡ None → 1 ≡ next_id ms
next_none k ms ps h none = by k.messages.rows ms h.messages none where
  by : (es : List MessageEntry) (rs : List MessageRow) → AreEntries k.names es rs → slice_get es (length es - 1) ≡ None → 1 ≡ next_id rs
  by [] [] are e = refl
  by [] (r ∷ rs) are e = elim are [ ]
  by (x ∷ es) rs are e = let g = slice_get-get_or (x ∷ es) (length (x ∷ es) - 1) x (omega arith) in absurd cc

-- ---- a message that is found

pub found_row : (k : MessageIndexOf) (ms : List MessageRow) (ps : List PartRow) (n : ℕ) (e : MessageEntry) → Represents k ms ps → row_at message_entry_key n k.messages.rows ≡ Some e → (m : MessageRow) × ((message_at n ms ≡ Some m) × IsEntry k.names e m)
found_row k ms ps n e h at = by (message_at n ms) refl (subst (λ (o : Option MessageEntry). FoundAs k.names o (message_at n ms)) at (found_as k.names n k.messages.rows ms h.messages)) where
  by : (o : Option MessageRow) → message_at n ms ≡ o → FoundAs k.names (Some e) o → (m : MessageRow) × ((message_at n ms ≡ Some m) × IsEntry k.names e m)
  by None q f = elim f [ ]
  by (Some m) q f = (m, (q, f))

pub found_none : (k : MessageIndexOf) (ms : List MessageRow) (ps : List PartRow) (n : ℕ) → Represents k ms ps → row_at message_entry_key n k.messages.rows ≡ None → message_at n ms ≡ None
found_none k ms ps n h at = by (message_at n ms) refl (subst (λ (o : Option MessageEntry). FoundAs k.names o (message_at n ms)) at (found_as k.names n k.messages.rows ms h.messages)) where
  by : (o : Option MessageRow) → message_at n ms ≡ o → FoundAs k.names None o → message_at n ms ≡ None
  by None q f = q
  by (Some m) q f = elim f [ ]

-- ---- messages one by one

pub as_many : (names : NamesOf) (es : List MessageEntry) (ms : List MessageRow) → AreEntries names es ms → length es ≡ length ms
as_many names [] [] are = refl
as_many names [] (m ∷ ms) are = elim are [ ]
as_many names (e ∷ es) [] are = elim are [ ]
as_many names (e ∷ es) (m ∷ ms) are = let l = as_many names es ms are.1 in omega (arith, l)

at_place : (names : NamesOf) (place : ℕ) (es : List MessageEntry) (ms : List MessageRow) → AreEntries names es ms → FoundAs names (slice_get es place) (slice_get ms place)
at_place names place [] [] are = tt
at_place names place [] (m ∷ ms) are = elim are [ ]
at_place names place (e ∷ es) [] are = elim are [ ]
at_place names zero (e ∷ es) (m ∷ ms) are = are.0
at_place names (suc place) (e ∷ es) (m ∷ ms) are = at_place names place es ms are.1

pub placed_row : (names : NamesOf) (place : ℕ) (es : List MessageEntry) (ms : List MessageRow) (e : MessageEntry) → AreEntries names es ms → slice_get es place ≡ Some e → (m : MessageRow) × ((slice_get ms place ≡ Some m) × IsEntry names e m)
placed_row names place es ms e are at = by (slice_get ms place) refl (subst (λ (o : Option MessageEntry). FoundAs names o (slice_get ms place)) at (at_place names place es ms are)) where
  by : (o : Option MessageRow) → slice_get ms place ≡ o → FoundAs names (Some e) o → (m : MessageRow) × ((slice_get ms place ≡ Some m) × IsEntry names e m)
  by None q f = elim f [ ]
  by (Some m) q f = (m, (q, f))

pub no_row : (names : NamesOf) (place : ℕ) (es : List MessageEntry) (ms : List MessageRow) → AreEntries names es ms → slice_get es place ≡ None → slice_get ms place ≡ None
no_row names place es ms are at = by (slice_get ms place) refl (subst (λ (o : Option MessageEntry). FoundAs names o (slice_get ms place)) at (at_place names place es ms are)) where
  by : (o : Option MessageRow) → slice_get ms place ≡ o → FoundAs names None o → slice_get ms place ≡ None
  by None q f = q
  by (Some m) q f = elim f [ ]

-- ---- which are past

pub past_some : (k : MessageIndexOf) (ms : List MessageRow) (ps : List PartRow) (n now : ℕ) (e : MessageEntry) → Represents k ms ps → row_at message_entry_key n k.messages.rows ≡ Some e → past_id now (message_at n ms) ≡ past_entry_id now e
past_some k ms ps n now e h at =
    let f = found_row k ms ps n e h at in
    ap (λ (o : Option MessageRow). past_id now o) (f.1.0 ∙ ap (λ (r : MessageRow). Some r) f.1.1.row)

pub ended_some : (k : MessageIndexOf) (ms : List MessageRow) (ps : List PartRow) (n : ℕ) (e : MessageEntry) → Represents k ms ps → row_at message_entry_key n k.messages.rows ≡ Some e → is_ended (message_at n ms) ≡ not (is_none e.state)
ended_some k ms ps n e h at =
    let f = found_row k ms ps n e h at in
    ap (λ (o : Option MessageRow). is_ended o) (f.1.0 ∙ ap (λ (r : MessageRow). Some r) f.1.1.row)

-- ---- an event is put in

pub holds_nothing : (k : MessageIndexOf) → k.messages.rows ≡ [] → k.parts.rows ≡ [] → Represents k [] []
holds_nothing k no_messages no_parts = record {
  messages = subst (λ (es : List MessageEntry). AreEntries k.names es []) (sym no_messages) tt;
  parts = no_parts;
  deadlines = λ m a p. elim a [ ];
  message_keys = tt;
  part_keys = tt;
}

pub room_taken : (s : MessageIndexReserveOf) (n : ℕ) (old new : MessageIndexOf) → FitsTheMessages s n old → TakesInMessages s old new → HasRoomFor n new
room_taken s n old new fits takes =
    let rows : length new.messages.rows ≡ length old.messages.rows = ap (λ (es : List MessageEntry). length es) takes.messages in
    record {
      messages = omega (arith, rows, fits.messages, takes.messages_room);
      numbers = omega (arith, fits.numbers, takes.numbers_room);
      accounts = omega (arith, fits.accounts, takes.accounts_room);
      deadlines = omega (arith, fits.deadlines, takes.deadlines_len, takes.deadlines_room);
    }

pub holds_taken : (s : MessageIndexReserveOf) (old new : MessageIndexOf) (ms : List MessageRow) (ps others : List PartRow) → TakesInMessages s old new → Represents old ms ps → Matches s ps others → Represents new ms others
holds_taken s old new ms ps others takes h matches = record {
  messages = subst (λ (es : List MessageEntry). AreEntries new.names es ms) (sym takes.messages)
      (preserved_entries old.names new.names (record { numbers = takes.numbers; accounts = takes.accounts }) old.messages.rows ms h.messages);
  parts = takes.parts ∙ ap (λ (es : List PartEntry). all_applied entry_key s.parts.changes es) h.parts ∙ matches.0;
  deadlines = λ m a p. takes.deadlines (deadline_of m) (h.deadlines m a p);
  message_keys = h.message_keys;
  part_keys = matches.1;
}

pub told : (o : Option FinalState) → not (is_none o) ≡ is_some o
told None = refl
told (Some x) = refl
