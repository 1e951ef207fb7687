-- Whether a submission can be accepted, judged by the rows as they are before it comes.
use Rattle.std.specs.Prelude.{ℕ, ◌+◌, ◌-◌, ◌*◌, ◌&&◌, nat_le, nat_lt, not, List, Bool, false}
use Rattle.sms_base.specs.declared.originator.Originator.{Originator}
use Rattle.sms_base.specs.declared.originator.Originator.TheVariants.{Application, Handset}
use Rattle.sms_centre_rows.specs.declared.messages.message.MessageRow.{MessageRow}
use Rattle.sms_centre_rows.specs.declared.waiting.queued_part.QueuedPart.{QueuedPart}
use Rattle.sms_centre_rows.specs.waiting.References.{handset_of}
use Rattle.sms_centre_queue.specs.queue.FreeReferences.{free_references}
use Rattle.sms_intake.specs.declared.submission.Submission.{Submission}
use Rattle.sms_centre_spec.specs.Draft.{Store, handsets_in, messages_in, references_in, waiting_in}
use Rattle.sms_centre_spec.specs.Shares.{held_by, held_by_others}

-- how many of the handset's references may be given now
abbrev pub free_for : List ℕ → Store → ℕ
free_for number s = free_references (handset_of number (handsets_in s)) (waiting_in number s) (references_in s) s.moment

-- with so many parts more the account would hold more than half of what is free beside others
abbrev pub would_hold_too_much : List ℕ → ℕ → List MessageRow → List QueuedPart → Bool
would_hold_too_much account parts messages waiting =
    nat_lt (256 - held_by_others account messages waiting) (2 * (held_by account messages waiting + parts))

-- the same of whoever submits: a handset has no account
abbrev pub would_take_too_much : Originator → ℕ → List MessageRow → List QueuedPart → Bool
would_take_too_much (Application account) parts messages waiting = would_hold_too_much account parts messages waiting
would_take_too_much (Handset reference) parts messages waiting = false

-- a reference is free for each of its parts, and its account leaves enough of them to others
abbrev pub has_room : Submission → ℕ → Store → Bool
has_room submission parts s =
    nat_le parts (free_for submission.handset s)
    && not (would_take_too_much submission.originator parts (messages_in s) (waiting_in submission.handset s))
