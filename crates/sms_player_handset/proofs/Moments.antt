-- After each event the draft's moment is as it was, but for a tick's.
use Rattle.std.proofs.Common.{◌≡◌, ℕ, List, Bool, Result, Ok, Err, refl}
use Rattle.std.specs.Prelude.{max}
use Rattle.sms_base.specs.declared.holder.Holder.{Holder}
use Rattle.sms_handset_draft.specs.declared.rows.Rows.{Rows}
use Rattle.sms_handset_draft.specs.Draft.{Changes, Core, Draft}
use Rattle.sms_handset.specs.declared.refusal.Refusal.{Refusal}
use Rattle.sms_handset.specs.HandsetEvent.{frame_received, ticked, wrote, deleted, discarded}
use Rattle.sms_handset.proofs.KeptByRows.{HoldsIfDone, KeptByRowMoves, frame_keeps, tick_keeps, write_keeps, delete_keeps, discard_keeps}

-- ---- the moment stands

abbrev pub Stays : ℕ → Draft → Type 0
Stays moment d = d.moment ≡ moment

abbrev pub StaysIfDone : ℕ → Result Draft Refusal → Type 0
StaysIfDone moment (Ok d) = Stays moment d
StaysIfDone moment (Err refusal) = Unit {0}

abbrev stands : ℕ → Rows → Changes → ℕ → Type 0
stands base rows changes moment = moment ≡ base

moves_stand : (base : ℕ) → KeptByRowMoves (stands base)
moves_stand base = record {
  entry_put = λ e d h. h;
  entry_removed = λ n d h. h;
  last_put = λ l d h. h;
  out_put = λ o d h. h;
  out_removed = λ n d h. h;
  mark_put = λ m d h. h;
  mark_removed = λ n d h. h;
  counters_put = λ c d h. h;
}

-- ---- events

pub frame_stays : (octets : List ℕ) (tag : Holder) (c : Core) → Stays c.moment (frame_received octets tag c)
frame_stays octets tag c = frame_keeps (stands c.moment) (moves_stand c.moment) octets tag c refl

pub tick_stays : (now : ℕ) (c : Core) → Stays (max c.moment now) (ticked now c)
tick_stays now c = tick_keeps (stands (max c.moment now)) (moves_stand (max c.moment now)) now c refl

-- an event that may be refused
if_done : (base : ℕ) (r : Result Draft Refusal) → HoldsIfDone (stands base) r → StaysIfDone base r
if_done base (Ok d) h = h
if_done base (Err refusal) h = tt

pub write_stays : (text to : List ℕ) (report : Bool) (c : Core) → StaysIfDone c.moment (wrote text to report c)
write_stays text to report c = if_done c.moment (wrote text to report c) (write_keeps (stands c.moment) (moves_stand c.moment) text to report c refl)

pub delete_stays : (n : ℕ) (c : Core) → StaysIfDone c.moment (deleted n c)
delete_stays n c = if_done c.moment (deleted n c) (delete_keeps (stands c.moment) (moves_stand c.moment) n c refl)

pub discard_stays : (n : ℕ) (c : Core) → StaysIfDone c.moment (discarded n c)
discard_stays n c = if_done c.moment (discarded n c) (discard_keeps (stands c.moment) (moves_stand c.moment) n c refl)
