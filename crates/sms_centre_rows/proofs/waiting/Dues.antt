-- What waits, looked through from its end; and all of it due at once.
use Rattle.std.proofs.Common.{◌≡◌, ℕ, suc, ◌<◌, List, [], ◌∷◌, length, drop, get_or, ap}
use Rattle.std.proofs.Math.Seq.{drop-cons}
use Rattle.sms_rows.specs.table.Table.{AllAbove, Rises}
use Rattle.sms_centre_rows.specs.declared.waiting.queued_part.QueuedPart.{QueuedPart}
use Rattle.sms_centre_rows.specs.waiting.Keys.{queued_key}
use Rattle.sms_centre_rows.specs.waiting.Waiting.{all_at_once, if_due, next, preceding}

above_at_once : (now n : ℕ) (ls : List QueuedPart) → AllAbove queued_key n ls → AllAbove queued_key n (all_at_once now ls)
above_at_once now n [] h = tt
above_at_once now n (l ∷ ls) h = (h.0, above_at_once now n ls h.1)

pub rises_at_once : (now : ℕ) (ls : List QueuedPart) → Rises queued_key ls → Rises queued_key (all_at_once now ls)
rises_at_once now [] h = tt
rises_at_once now (l ∷ ls) h = (above_at_once now (queued_key l) ls h.0, rises_at_once now ls h.1)

-- one more is looked at
pub next_from : (now place : ℕ) (ls : List QueuedPart) (d : QueuedPart) → place < length ls
    → next now (drop place ls) ≡ preceding (if_due now (get_or ls place d)) (next now (drop (suc place) ls))
next_from now place ls d inside = ap (next now) (drop-cons ls place d inside)
