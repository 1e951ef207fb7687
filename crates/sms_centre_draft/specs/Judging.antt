-- What becomes of a submission whose octets passed all checks, judged by the rows as they are before it comes. The first line that
-- holds is the verdict:
--
--   a message of its originator is pending under its TP-MR and destination, and TP-RD is set        Duplicate
--   its header has a reference that the centre gave for its source and handset                      ReferenceTaken
--   no number is left, or no reference for a text that is split                                     Congested
--   fewer references are free at the handset than it has parts                                      Congested
--   its account would hold more than half of what is free beside others                             Congested
--   none of them                                                                                    it is the message of the next number
use Rattle.std.specs.Prelude.{ℕ, ◌&&◌, nat_le, List, length, Bool, false, if◌then◌else◌, Option, Some, None, Result, Ok, Err}
use Rattle.std.specs.Option.{option_map}
use Rattle.sms_centre_rows.specs.messages.SplitReferences.{next_split}
use Rattle.sms_intake.specs.declared.refusal.SubmitRefusal.{SubmitRefusal}
use Rattle.sms_intake.specs.declared.refusal.SubmitRefusal.TheVariants.{Duplicate, ReferenceTaken, Congested}
use Rattle.sms_intake.specs.declared.submission.SinglePart.{SinglePart}
use Rattle.sms_intake.specs.declared.submission.Submission.{Submission}
use Rattle.sms_intake.specs.PartBodies.{bodies_under, is_long}
use Rattle.sms_centre_spec.specs.Draft.{Store, bars_in, messages_in, parts_in, rows_of}
use Rattle.sms_centre_spec.specs.MessageNumbers.{next_number}
use Rattle.sms_centre_spec.specs.Receiving.{is_duplicate}
use Rattle.sms_centre_draft.specs.Room.{has_room}
use Rattle.sms_centre_spec.specs.Submitting.{is_reference_taken}

-- its parts, where a reference is left for a text that is split
abbrev pub parts_for : Submission → Store → Option (List SinglePart)
parts_for submission s =
    if is_long submission.text
    then option_map (λ (reference : ℕ). bodies_under reference submission.text)
    (next_split submission.source submission.handset (bars_in s) (messages_in s) (parts_in s))
    else Some (bodies_under 0 submission.text)

abbrev pub room_for_parts : Submission → Option (List SinglePart) → Store → Bool
room_for_parts submission None s = false
room_for_parts submission (Some parts) s = has_room submission (length parts) s

abbrev pub can_be_accepted : Submission → Store → Bool
can_be_accepted submission s = nat_le (next_number (rows_of s)) 9999999999 && room_for_parts submission (parts_for submission s) s

-- the number of its message, or why it is refused
abbrev pub judged : Submission → Store → Result ℕ SubmitRefusal
judged submission s =
    if is_duplicate submission s then Err Duplicate
    else (if is_reference_taken submission s then Err ReferenceTaken
    else (if can_be_accepted submission s then Ok (next_number (rows_of s)) else Err Congested))
