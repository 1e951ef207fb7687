-- What is said beside the rows of a ladder.
use Rattle.std.specs.Prelude.{ℕ, ◌/◌, ◌%◌, List, [], ◌∷◌, ◌++◌, Bool, Option, Some, None, Result, Ok, Err, codes, decimal, if◌then◌else◌}
use Rattle.sms_base.specs.declared.carried.Carried.{Carried}
use Rattle.sms_base.specs.declared.carried.Kind.{Kind}
use Rattle.sms_base.specs.declared.carried.Kind.TheVariants.{Data, Ack, Error}
use Rattle.sms_base.specs.declared.final_state.FinalState.{FinalState}
use Rattle.sms_base.specs.FinalWords.{final_word}
use Rattle.sms_base.specs.declared.holder.Holder.{Holder}
use Rattle.sms_base.specs.declared.holder.Holder.TheVariants.{Part, Report, Entry, Memory}
use Rattle.sms_control.specs.ControlReading.{cp_at}
use Rattle.sms_control.specs.declared.fault.CpFault.{CpFault}
use Rattle.sms_control.specs.declared.message.Cp.{Cp}
use Rattle.sms_control.specs.declared.message.Cp.TheVariants.{DataUnit, AckUnit, ErrorUnit}
use Rattle.sms_script.specs.declared.report.rows.FrameRow.{FrameRow}
use Rattle.sms_trace.specs.drawing.Causes.{cause_number, cause_of_frame, words}
use Rattle.sms_trace.specs.drawing.Shown.{hex_digit}
use Rattle.sms_trace.specs.declared.drawing.causes.Cause.{Cause}
use Rattle.sms_trace.specs.declared.drawing.notes.Heading.{Heading}
use Rattle.sms_trace.specs.declared.drawing.notes.Heading.TheVariants as heading
use Rattle.sms_trace.specs.declared.drawing.notes.RequestNote.{RequestNote}

-- ---- a frame

unfoldable pub hex_pair : ℕ → List ℕ
hex_pair octet = hex_digit (octet / 16) ∷ hex_digit (octet % 16) ∷ []

unfoldable pub numbered : List ℕ → ℕ → List ℕ
numbered what number = what ++ decimal number

unfoldable pub part_note : ℕ → ℕ → List ℕ
part_note id number = numbered (codes "part ") number ++ numbered (codes " of message ") id

-- for whom a frame is
abbrev pub holder_note : Holder → List ℕ
holder_note (Part id number) = part_note id number
holder_note (Report id) = numbered (codes "the status report of message ") id
holder_note (Entry number) = numbered (codes "entry ") number
holder_note (Memory number) = numbered (codes "memory available, ") number

abbrev pub kind_word : Kind → List ℕ
kind_word Data = codes "data"
kind_word Ack = codes "acknowledgement"
kind_word Error = codes "error"

-- what it carries, the reference, and for whom
unfoldable pub carried_note : Carried → List ℕ
carried_note c = kind_word c.kind ++ (codes " " ++ (hex_pair c.reference ++ (codes ", " ++ holder_note c.tag)))

-- a frame that carries nothing (3GPP TS 24.011 7.2)
abbrev pub bare_word : Result Cp CpFault → List ℕ
bare_word (Ok (DataUnit transaction octets)) = codes "CP-ERROR"
bare_word (Ok (AckUnit transaction)) = codes "CP-ACK"
bare_word (Ok (ErrorUnit transaction cause)) = codes "CP-ERROR"
bare_word (Err fault) = codes "CP-ERROR"

abbrev pub content_note : Option Carried → List ℕ → List ℕ
content_note (Some carried) octets = carried_note carried
content_note None octets = bare_word (cp_at octets)

-- a cause: its words, or its number where the standard has none
abbrev pub cause_name : List ℕ → ℕ → List ℕ
cause_name [] number = numbered (codes "cause ") number
cause_name (letter ∷ letters) number = letter ∷ letters

unfoldable pub cause_note : Cause → List ℕ
cause_note cause = codes ": " ++ cause_name (words cause) (cause_number cause)

abbrev pub reason_note : Option Cause → List ℕ
reason_note (Some cause) = cause_note cause
reason_note None = []

abbrev pub again_note : Bool → List ℕ
again_note is_again = if is_again then codes ", again" else []

unfoldable pub frame_note : FrameRow → Bool → List ℕ
frame_note f is_again =
    codes "frame "
    ++ (decimal f.number
    ++ (again_note is_again ++ (codes ": " ++ (content_note f.carried f.octets ++ reason_note (cause_of_frame f.direction f.octets)))))

-- ---- an event, and what it is answered

-- A request that no PDU has is in no capture, and its answer neither.
abbrev pub pdu_note : Bool → List ℕ
pdu_note has_pdu = if has_pdu then [] else codes ", in no PDU"

unfoldable pub request_note : List ℕ → RequestNote → List ℕ
request_note kind asked = asked.command.now ++ (kind ++ (decimal asked.sequence ++ (pdu_note asked.has_pdu ++ codes ": ")))

abbrev pub asked_note : Heading → List ℕ
asked_note heading.None = []
asked_note heading.Again = []
asked_note (heading.Request asked) = request_note (codes " ") asked

abbrev pub behind_note : Heading → List ℕ
behind_note heading.None = []
behind_note heading.Again = codes ", again"
behind_note (heading.Request asked) = []

-- the event of that number, with its line as it is shown
unfoldable pub event_note : ℕ → Heading → List ℕ → List ℕ
event_note number asked line = decimal number ++ (codes ". " ++ (asked_note asked ++ (line ++ behind_note asked)))

unfoldable pub response_note : RequestNote → List ℕ → List ℕ
response_note asked answered = request_note (codes "_resp ") asked ++ answered

-- ---- a receipt

-- the word of a receipt for a state, or of none yet
abbrev pub reported_word : Option FinalState → List ℕ
reported_word (Some state) = final_word state
reported_word None = codes "ENROUTE"

unfoldable pub receipt_note : ℕ → ℕ → Option FinalState → List ℕ
receipt_note sequence id state =
    numbered (codes "deliver_sm ") sequence ++ (numbered (codes ": receipt of message ") id ++ (codes ", " ++ reported_word state))

unfoldable pub receipt_answer_note : ℕ → List ℕ
receipt_answer_note sequence = numbered (codes "deliver_sm_resp ") sequence
