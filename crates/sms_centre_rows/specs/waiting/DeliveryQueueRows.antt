-- A queue that represents one handset of all: its row, the references that were given there, what waits for it, and its link.
use Rattle.std.specs.Prelude.{◌≡◌, ℕ, ◌<◌, List, [], Option, Some, None}
use Rattle.sms_centre_rows.specs.declared.waiting.handset.HandsetRow.{HandsetRow}
use Rattle.sms_centre_rows.specs.declared.waiting.handset_link.HandsetLink.{HandsetLink}
use Rattle.sms_centre_rows.specs.declared.waiting.queued_part.QueuedPart.{QueuedPart}
use Rattle.sms_centre_rows.specs.declared.waiting.reference.ReferenceRow.{ReferenceRow}
use Rattle.sms_centre_rows.specs.waiting.Links.{link_of}
use Rattle.sms_centre_rows.specs.waiting.References.{handset_at, or_new_handset, place_after}
use Rattle.sms_centre_rows.specs.waiting.DeliveryQueues.{DeliveryQueueOf}
use Rattle.sms_centre_rows.specs.waiting.SoundAllocations.{reference_at}

-- each reference of the handset of that row is found there as it is found among all
abbrev pub RepresentsGiven : Option HandsetRow → List ReferenceRow → List ReferenceRow → Type 0
RepresentsGiven None references given = given ≡ []
RepresentsGiven (Some h) references given = (r : ℕ) → r < 256 → reference_at h.place r given ≡ reference_at h.place r references

pub record Represents (number : List ℕ) (handsets : List HandsetRow) (references : List ReferenceRow) (waiting : List QueuedPart) (links : List HandsetLink)
    (s : DeliveryQueueOf) : Type 0 where
  pub row : s.row ≡ handset_at number handsets
  pub given : RepresentsGiven s.row references s.given
  pub all_queued : s.waiting ≡ waiting
  pub link : s.link ≡ link_of number links

-- the row under which the queue's next reference is given
abbrev pub row_for : List ℕ → List HandsetRow → DeliveryQueueOf → HandsetRow
row_for number handsets s = or_new_handset number (place_after 1 handsets) s.row
