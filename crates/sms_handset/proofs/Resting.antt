-- After each event the draft's rows are the first ones with its changes.
use Rattle.std.proofs.Common.{◌≡◌, List, sym, ◌∙◌, ap, ℕ, Result, Ok, Err, Bool, refl}
use Rattle.sms_base.specs.declared.holder.Holder.{Holder}
use Rattle.sms_rows.proofs.table.Tables.{all_applied_push}
use Rattle.sms_rows.specs.table.Table.{put, without}
use Rattle.sms_rows.specs.declared.table.change.Change.TheVariants.{Put, Remove}
use Rattle.sms_handset_rows.specs.declared.inbox.entry.Entry.{Entry}
use Rattle.sms_handset_rows.specs.inbox.Keys.{entry_key, last_key, mark_key}
use Rattle.sms_handset_rows.specs.declared.inbox.last_accepted.LastAccepted.{LastAccepted}
use Rattle.sms_handset_rows.specs.declared.inbox.discarded_group.DiscardedGroup.{DiscardedGroup}
use Rattle.sms_handset_rows.specs.declared.outbox.out_entry.OutEntry.{OutEntry}
use Rattle.sms_handset_rows.specs.outbox.Keys.{out_key}
use Rattle.sms_handset_draft.specs.declared.rows.Rows.{Rows}
use Rattle.sms_handset_draft.specs.Draft.{Changes, Draft, rows_after, put_entry, remove_entry, put_last, put_out, remove_out, put_mark, remove_mark, put_counters, Core}
use Rattle.sms_handset.specs.Planning.{IsRevised, IsRevisedIfDone}
use Rattle.sms_handset_draft.specs.declared.counters.Counters.{Counters}
use Rattle.sms_handset.specs.declared.refusal.Refusal.{Refusal}
use Rattle.sms_handset.specs.HandsetEvent.{frame_received, ticked, wrote, deleted, discarded}
use Rattle.sms_handset.proofs.KeptByRows.{HoldsIfDone, KeptByRowMoves, frame_keeps, tick_keeps, write_keeps, delete_keeps, discard_keeps}

-- ---- moves

put_entry_rests : (base : Rows) (e : Entry) (d : Draft) → IsRevised base d → IsRevised base (put_entry e d)
put_entry_rests base e d h =
    ap (λ (r : Rows). record r { entries = put entry_key e r.entries }) h
    ∙ ap (λ (es : List Entry). record (rows_after d.changes base) { entries = es }) (sym (all_applied_push entry_key d.changes.entries (Put e) base.entries))

remove_entry_rests : (base : Rows) (n : ℕ) (d : Draft) → IsRevised base d → IsRevised base (remove_entry n d)
remove_entry_rests base n d h =
    ap (λ (r : Rows). record r { entries = without entry_key n r.entries }) h
    ∙ ap (λ (es : List Entry). record (rows_after d.changes base) { entries = es }) (sym (all_applied_push entry_key d.changes.entries (Remove n) base.entries))

put_last_rests : (base : Rows) (l : LastAccepted) (d : Draft) → IsRevised base d → IsRevised base (put_last l d)
put_last_rests base l d h =
    ap (λ (r : Rows). record r { last = put last_key l r.last }) h
    ∙ ap (λ (ls : List LastAccepted). record (rows_after d.changes base) { last = ls }) (sym (all_applied_push last_key d.changes.last (Put l) base.last))

put_out_rests : (base : Rows) (o : OutEntry) (d : Draft) → IsRevised base d → IsRevised base (put_out o d)
put_out_rests base o d h =
    ap (λ (r : Rows). record r { outbox = put out_key o r.outbox }) h
    ∙ ap (λ (os : List OutEntry). record (rows_after d.changes base) { outbox = os }) (sym (all_applied_push out_key d.changes.outbox (Put o) base.outbox))

remove_out_rests : (base : Rows) (n : ℕ) (d : Draft) → IsRevised base d → IsRevised base (remove_out n d)
remove_out_rests base n d h =
    ap (λ (r : Rows). record r { outbox = without out_key n r.outbox }) h
    ∙ ap (λ (os : List OutEntry). record (rows_after d.changes base) { outbox = os }) (sym (all_applied_push out_key d.changes.outbox (Remove n) base.outbox))

put_mark_rests : (base : Rows) (m : DiscardedGroup) (d : Draft) → IsRevised base d → IsRevised base (put_mark m d)
put_mark_rests base m d h =
    ap (λ (r : Rows). record r { marks = put mark_key m r.marks }) h
    ∙ ap (λ (ms : List DiscardedGroup). record (rows_after d.changes base) { marks = ms }) (sym (all_applied_push mark_key d.changes.marks (Put m) base.marks))

remove_mark_rests : (base : Rows) (n : ℕ) (d : Draft) → IsRevised base d → IsRevised base (remove_mark n d)
remove_mark_rests base n d h =
    ap (λ (r : Rows). record r { marks = without mark_key n r.marks }) h
    ∙ ap (λ (ms : List DiscardedGroup). record (rows_after d.changes base) { marks = ms }) (sym (all_applied_push mark_key d.changes.marks (Remove n) base.marks))

put_counters_rests : (base : Rows) (c : Counters) (d : Draft) → IsRevised base d → IsRevised base (put_counters c d)
put_counters_rests base c d h = ap (λ (r : Rows). record r { counters = c }) h

-- ---- events

-- the rows are the first ones with the changes
abbrev revised : Rows → Rows → Changes → ℕ → Type 0
revised base rows changes moment = rows ≡ rows_after changes base

moves_revise : (base : Rows) → KeptByRowMoves (revised base)
moves_revise base = record {
  entry_put = put_entry_rests base;
  entry_removed = remove_entry_rests base;
  last_put = put_last_rests base;
  out_put = put_out_rests base;
  out_removed = remove_out_rests base;
  mark_put = put_mark_rests base;
  mark_removed = remove_mark_rests base;
  counters_put = put_counters_rests base;
}

pub frame_rests : (octets : List ℕ) (tag : Holder) (c : Core) → IsRevised c.rows (frame_received octets tag c)
frame_rests octets tag c = frame_keeps (revised c.rows) (moves_revise c.rows) octets tag c refl

pub tick_rests : (now : ℕ) (c : Core) → IsRevised c.rows (ticked now c)
tick_rests now c = tick_keeps (revised c.rows) (moves_revise c.rows) now c refl

-- an event that may be refused
if_done : (base : Rows) (r : Result Draft Refusal) → HoldsIfDone (revised base) r → IsRevisedIfDone base r
if_done base (Ok d) h = h
if_done base (Err refusal) h = tt

pub write_rests : (text to : List ℕ) (report : Bool) (c : Core) → IsRevisedIfDone c.rows (wrote text to report c)
write_rests text to report c = if_done c.rows (wrote text to report c) (write_keeps (revised c.rows) (moves_revise c.rows) text to report c refl)

pub delete_rests : (n : ℕ) (c : Core) → IsRevisedIfDone c.rows (deleted n c)
delete_rests n c = if_done c.rows (deleted n c) (delete_keeps (revised c.rows) (moves_revise c.rows) n c refl)

pub discard_rests : (n : ℕ) (c : Core) → IsRevisedIfDone c.rows (discarded n c)
discard_rests n c = if_done c.rows (discarded n c) (discard_keeps (revised c.rows) (moves_revise c.rows) n c refl)
