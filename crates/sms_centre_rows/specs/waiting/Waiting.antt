-- What is offered next of all that waits for a handset.
use Rattle.std.specs.Prelude.{ℕ, ◌==◌, ◌&&◌, ◌||◌, not, nat_lt, nat_le, map, List, [], ◌∷◌, Bool, false, if◌then◌else◌, Option, Some, None}
use Rattle.sms_centre_rows.specs.declared.waiting.queued_part.QueuedPart.{QueuedPart}

abbrev pub is_due : ℕ → QueuedPart → Bool
is_due now l = nat_le l.due now

-- the first test that orders two of them: the greater priority, the earlier moment, the lower message, the lower number
abbrev pub precedes : QueuedPart → QueuedPart → Bool
precedes a b =
    if not (a.priority == b.priority) then nat_lt b.priority a.priority
    else (if not (a.due == b.due) then nat_lt a.due b.due
    else (if not (a.id == b.id) then nat_lt a.id b.id
    else nat_lt a.number b.number))

abbrev pub preceding : Option QueuedPart → Option QueuedPart → Option QueuedPart
preceding None b = b
preceding (Some a) None = Some a
preceding (Some a) (Some b) = Some (if precedes b a then b else a)

abbrev pub if_due : ℕ → QueuedPart → Option QueuedPart
if_due now l = if is_due now l then Some l else None

-- of all that are due, the one that precedes the others
abbrev pub next : ℕ → List QueuedPart → Option QueuedPart
next now [] = None
next now (l ∷ ls) = preceding (if_due now l) (next now ls)

abbrev pub is_same : QueuedPart → QueuedPart → Bool
is_same a b = (a.id == b.id) && (a.number == b.number)

-- another one is due (3GPP TS 23.040 9.2.3.2, TP-MMS)
abbrev pub waits_beside : ℕ → QueuedPart → List QueuedPart → Bool
waits_beside now chosen [] = false
waits_beside now chosen (l ∷ ls) = (is_due now l && not (is_same l chosen)) || waits_beside now chosen ls

-- ---- all of it is due now

abbrev pub at_once : ℕ → QueuedPart → QueuedPart
at_once now l = record l { due = now }

abbrev pub all_at_once : ℕ → List QueuedPart → List QueuedPart
all_at_once now ls = map (at_once now) ls

-- ---- the parts of a message wait no more

abbrev pub is_part_of : ℕ → QueuedPart → Bool
is_part_of id l = (l.id == id) && not (l.number == 0)

abbrev pub withdrawn : ℕ → List QueuedPart → List QueuedPart
withdrawn id [] = []
withdrawn id (l ∷ ls) = if is_part_of id l then withdrawn id ls else l ∷ withdrawn id ls
