-- Whether the premises of the claims hold at an event of a script. A frame which is handed over is timely, and originators
-- keep concatenation references fresh (3GPP TS 23.040 9.2.3.24.1). Both are decided on what was given, sent and accepted.
-- Lists of the world are newest first.
use Rattle.std.specs.Prelude.{ℕ, ◌==◌, ◌&&◌, ◌||◌, not, zero, suc, List, [], ◌∷◌, ◌++◌, Bool, true, false, if◌then◌else◌, Option, Some, None}
use Rattle.std.specs.Str.{bytes_eq}
use Rattle.sms_base.specs.declared.carried.Carried.{Carried}
use Rattle.sms_base.specs.declared.carried.Kind.{Kind}
use Rattle.sms_base.specs.declared.carried.Kind.TheVariants.{Data, Ack, Error}
use Rattle.sms_base.specs.declared.holder.Holder.{Holder}
use Rattle.sms_base.specs.declared.holder.Holder.TheVariants.{Part, Report, Entry, Memory}
use Rattle.sms_centre_rows.specs.declared.messages.part.PartRow.{PartRow}
use Rattle.sms_centre_rows.specs.messages.Messages.{part_at}
use Rattle.sms_script.specs.declared.report.Broken.{Broken}
use Rattle.sms_script.specs.declared.report.Broken.TheVariants.{Timely, Reused}
use Rattle.sms_script.specs.declared.report.rows.AcceptedRow.{AcceptedRow}
use Rattle.sms_script.specs.declared.report.rows.Direction.{Direction}
use Rattle.sms_script.specs.declared.report.rows.Direction.TheVariants.{Up, Down}
use Rattle.sms_script.specs.declared.report.rows.FrameRow.{FrameRow}
use Rattle.sms_script.specs.declared.report.rows.GivenRow.{GivenRow}
use Rattle.sms_script.specs.declared.event.Act.{Act}
use Rattle.sms_script.specs.declared.event.Act.TheVariants.{Submit, Query, Cancel, Write, Delete, Discard, Deliver, Tick}
use Rattle.sms_script.specs.declared.event.WorldEvent.{WorldEvent}
use Rattle.sms_script.specs.declared.event.WorldEvent.TheVariants.{Whole, Stopped, Restart}
use Rattle.sms_tpdu.specs.MoreMessages.{compared}
use Rattle.sms_world_model.specs.Groups.{is_among, number_in, numbers, of_key, rounds_of}
use Rattle.sms_world_model.specs.Place.{Key, Place, place_in}
use Rattle.sms_world_model.specs.World.{Accepted, Allocation, pair_given}
use Rattle.sms_play.specs.PlayState.{PlayState, Party, frame_at}

-- ---- timely: the latest giving of the frame's reference is to the holder for which the frame was made

abbrev pub is_same_holder : Holder → Holder → Bool
is_same_holder (Part a m) (Part b n) = (a == b) && (m == n)
is_same_holder (Report a) (Report b) = a == b
is_same_holder (Entry m) (Entry n) = m == n
is_same_holder (Memory m) (Memory n) = m == n
is_same_holder a b = false

abbrev pub is_same_side : Direction → Direction → Bool
is_same_side Up Up = true
is_same_side Down Down = true
is_same_side a b = false

-- the side that gave the reference: it sends data, and answers are sent to it
abbrev pub giver : Direction → Kind → Direction
giver Down Data = Down
giver Up Data = Up
giver Down Ack = Up
giver Down Error = Up
giver Up Ack = Down
giver Up Error = Down

abbrev pub is_of_reference : List ℕ → Direction → ℕ → GivenRow → Bool
is_of_reference handset side reference g =
    bytes_eq g.handset handset && (is_same_side g.direction side && (g.reference == reference))

-- to whom it was given last
abbrev pub last_holder : Option Holder → List ℕ → Direction → ℕ → List GivenRow → Option Holder
last_holder last handset side reference [] = last
last_holder last handset side reference (g ∷ given) =
    last_holder (if is_of_reference handset side reference g then Some g.holder else last) handset side reference given

abbrev pub is_held_by : Holder → Option Holder → Bool
is_held_by holder None = false
is_held_by holder (Some last) = is_same_holder holder last

-- CP-ACK and CP-ERROR carry nothing
abbrev pub is_timely : FrameRow → Option Carried → List GivenRow → Bool
is_timely f None given = true
is_timely f (Some carried) given =
    is_held_by carried.tag (last_holder None f.handset (giver f.direction carried.kind) carried.reference given)

abbrev pub is_timely_at : Option FrameRow → List GivenRow → Bool
is_timely_at None given = true
is_timely_at (Some f) given = is_timely f f.carried given

abbrev pub hands_timely : Act → PlayState → Bool
hands_timely (Deliver number) c = is_timely_at (frame_at number c.bag) c.given
hands_timely act c = true

-- stopped events hand over, too
abbrev pub is_timely_event : WorldEvent → PlayState → Bool
is_timely_event (Whole act) c = hands_timely act c
is_timely_event (Stopped stop act) c = hands_timely act c
is_timely_event (Restart side) c = true

-- ---- fresh: a part begins a round of its key only when the handset has accepted the whole of the round before

abbrev pub is_same_pair : Accepted → Accepted → Bool
is_same_pair a b = bytes_eq a.handset b.handset && ((a.reference == b.reference) && bytes_eq a.tpdu b.tpdu)

abbrev pub has_pair : Accepted → List Accepted → Bool
has_pair p [] = false
has_pair p (q ∷ qs) = is_same_pair p q || has_pair p qs

-- one of these is the part of that number, and it was accepted
abbrev pub has_arrived : ℕ → List Accepted → List Accepted → Bool
has_arrived number [] accepted = false
has_arrived number (p ∷ ps) accepted = ((number_in p == number) && has_pair p accepted) || has_arrived number ps accepted

abbrev pub all_arrived : ℕ → List Accepted → List Accepted → Bool
all_arrived zero ps accepted = true
all_arrived (suc n) ps accepted = has_arrived (suc n) ps accepted && all_arrived n ps accepted

abbrev pub may_begin_round : Accepted → Key → List Allocation → List Accepted → Bool
may_begin_round p k down accepted =
    if is_among (number_in p) (numbers (rounds_of p.handset k down).present)
    then all_arrived k.total (rounds_of p.handset k down).present (of_key p.handset k accepted)
    else true

abbrev pub may_begin_at : Option Place → Accepted → List Allocation → List Accepted → Bool
may_begin_at None p down accepted = true
may_begin_at (Some place) p down accepted = may_begin_round p place.key down accepted

abbrev pub may_begin : Accepted → List Allocation → List Accepted → Bool
may_begin p down accepted = may_begin_at (place_in p.tpdu) p down accepted

-- the parts that were given, in order, over those before them
abbrev pub are_fresh : List Allocation → List Allocation → List Accepted → Bool
are_fresh [] down accepted = true
are_fresh (g ∷ allocations) down accepted = may_begin (pair_given g) down accepted && are_fresh allocations (g ∷ down) accepted

-- ---- what the premise looks at: the parts' allocations with their TPDUs, and what was accepted

abbrev pub tpdu_in : Option PartRow → List ℕ
tpdu_in None = []
tpdu_in (Some p) = p.tpdu

abbrev pub allocation_of : GivenRow → List ℕ → Allocation
allocation_of g tpdu = record { handset = g.handset; reference = g.reference; holder = g.holder; moment = g.moment; tpdu = compared tpdu }

-- only a part has a place in a round
abbrev pub part_allocation : List PartRow → GivenRow → Holder → List Allocation
part_allocation parts g (Part id number) = allocation_of g (tpdu_in (part_at id number parts)) ∷ []
part_allocation parts g (Report id) = []
part_allocation parts g (Entry number) = []
part_allocation parts g (Memory number) = []

abbrev pub part_allocations : List PartRow → List GivenRow → List Allocation
part_allocations parts [] = []
part_allocations parts (g ∷ given) = part_allocation parts g g.holder ++ part_allocations parts given

abbrev pub newest_first : List Allocation → List Allocation → List Allocation
newest_first newest [] = newest
newest_first newest (g ∷ gs) = newest_first (g ∷ newest) gs

abbrev pub pairs_of : List Accepted → List AcceptedRow → List Accepted
pairs_of newest [] = newest
pairs_of newest (a ∷ rows) = pairs_of (record { handset = a.handset; reference = a.reference; tpdu = compared a.tpdu } ∷ newest) rows

abbrev pub all_pairs : List Party → List Accepted
all_pairs [] = []
all_pairs (p ∷ ps) = pairs_of [] p.accepted ++ all_pairs ps

-- the rows that the longer list has behind the others
abbrev pub behind : List GivenRow → List GivenRow → List GivenRow
behind [] rows = rows
behind (b ∷ before) [] = []
behind (b ∷ before) (r ∷ rows) = behind before rows

-- the event that led from the one course to the other begins rounds only where it may
abbrev pub is_fresh_event : PlayState → PlayState → Bool
is_fresh_event before after =
    are_fresh (part_allocations after.centre.rows.parts (behind before.given after.given))
    (newest_first [] (part_allocations after.centre.rows.parts before.given)) (all_pairs before.parties)

-- ---- what the event breaks: a frame is looked at before what the event gives

abbrev pub broken_by : ℕ → WorldEvent → PlayState → PlayState → Option Broken
broken_by event e before after =
    if not (is_timely_event e before) then Some (Timely event)
    else (if not (is_fresh_event before after) then Some (Reused event) else None)
