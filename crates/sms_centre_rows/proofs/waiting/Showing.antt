-- Allocations and links on queues that show their handsets.
use Rattle.std.proofs.Common.{◌≡◌, ℕ, ◌<◌, List, Option, refl, sym, ◌∙◌, ap, subst}
use Rattle.sms_rows.specs.table.Table.{put}
use Rattle.sms_centre_rows.specs.declared.waiting.handset.HandsetRow.{HandsetRow}
use Rattle.sms_centre_rows.specs.declared.waiting.handset_link.HandsetLink.{HandsetLink}
use Rattle.sms_centre_rows.specs.declared.waiting.queued_part.QueuedPart.{QueuedPart}
use Rattle.sms_centre_rows.specs.declared.waiting.reference.ReferenceRow.{ReferenceRow}
use Rattle.sms_centre_rows.specs.waiting.Keys.{handset_key, reference_key}
use Rattle.sms_centre_rows.specs.waiting.Links.{with_link}
use Rattle.sms_centre_rows.specs.waiting.References.{given_row, handset_at, handset_of, mentioned, or_new_handset, place_after}
use Rattle.sms_centre_rows.specs.waiting.DeliveryQueues.{DeliveryQueueOf, queue_given, queue_on}
use Rattle.sms_centre_rows.specs.waiting.DeliveryQueueRows.{Represents, row_for}
use Rattle.sms_centre_rows.specs.waiting.SoundAllocations.{SoundAllocations}
use Rattle.sms_centre_rows.proofs.waiting.LinksRepresented.{link_put, link_put_other}
use Rattle.sms_centre_rows.proofs.waiting.ReferencesRepresented.{given_other, given_own}

pub give_own : (number : List ℕ) (hs : List HandsetRow) (rs : List ReferenceRow) (waiting : List QueuedPart) (links : List HandsetLink) (s : DeliveryQueueOf) (reference now : ℕ)
    → SoundAllocations hs rs → reference < 256 → Represents number hs rs waiting links s
    → Represents number (put handset_key (mentioned (handset_of number hs) reference) hs) (put reference_key (given_row (handset_of number hs) reference now) rs) waiting links (queue_given (row_for number hs s) reference now s)
give_own number hs rs waiting links s reference now sound small represents =
    subst (λ (h : HandsetRow). Represents number (put handset_key (mentioned h reference) hs) (put reference_key (given_row h reference now) rs) waiting links (queue_given (row_for number hs s) reference now s))
    (ap (λ (o : Option HandsetRow). or_new_handset number (place_after 1 hs) o) represents.row)
    (let own = given_own number hs rs s.given s.row reference now sound (sym represents.row) represents.given small in
    record { row = own.0; given = own.1; all_queued = represents.all_queued; link = represents.link })

pub give_other : (number other : List ℕ) (hs : List HandsetRow) (rs : List ReferenceRow) (waiting : List QueuedPart) (links : List HandsetLink) (s : DeliveryQueueOf) (reference now : ℕ)
    → SoundAllocations hs rs → reference < 256 → ¬ (number ≡ other) → Represents other hs rs waiting links s
    → Represents other (put handset_key (mentioned (handset_of number hs) reference) hs) (put reference_key (given_row (handset_of number hs) reference now) rs) waiting links s
give_other number other hs rs waiting links s reference now sound small apart represents =
    let there = given_other number other hs rs s.given (handset_at number hs) s.row reference now sound refl (sym represents.row) apart represents.given small in
    record { row = there.0; given = there.1; all_queued = represents.all_queued; link = represents.link }

pub link_own : (hs : List HandsetRow) (rs : List ReferenceRow) (waiting : List QueuedPart) (links : List HandsetLink) (link : HandsetLink) (s : DeliveryQueueOf)
    → Represents link.handset hs rs waiting links s → Represents link.handset hs rs waiting (with_link link links) (queue_on link s)
link_own hs rs waiting links link s represents = record { row = represents.row; given = represents.given; all_queued = represents.all_queued; link = sym (link_put link links) }

pub link_other : (other : List ℕ) (hs : List HandsetRow) (rs : List ReferenceRow) (waiting : List QueuedPart) (links : List HandsetLink) (link : HandsetLink) (s : DeliveryQueueOf)
    → ¬ (link.handset ≡ other) → Represents other hs rs waiting links s → Represents other hs rs waiting (with_link link links) s
link_other other hs rs waiting links link s apart represents =
    record { row = represents.row; given = represents.given; all_queued = represents.all_queued; link = represents.link ∙ sym (link_put_other other link links apart) }
