-- A submission that passed all checks becomes a message: a number, a reference for each part, and the parts. All of it or none.
use Rattle.std.specs.Prelude.{ℕ, ◌+◌, nat_le, List, [], ◌∷◌, Bool, false, if◌then◌else◌, Option, Some, None}
use Rattle.std.specs.Option.{option_and_then}
use Rattle.sms_centre_rows.specs.declared.messages.message.MessageRow.{MessageRow}
use Rattle.sms_centre_rows.specs.messages.SplitReferences.{next_split, held_references, wide_in, is_taken}
use Rattle.sms_centre_rows.specs.declared.waiting.handset.HandsetRow.{HandsetRow}
use Rattle.sms_centre_rows.specs.waiting.References.{handset_of, next_reference}
use Rattle.sms_intake.specs.declared.submission.SinglePart.{SinglePart}
use Rattle.sms_intake.specs.declared.submission.Submission.{Submission}
use Rattle.sms_intake.specs.declared.submission.Text.{Text}
use Rattle.sms_intake.specs.declared.submission.Text.TheVariants.{Whole, Single}
use Rattle.sms_intake.specs.PartBodies.{bodies_under, deliver_octets, is_long}
use Rattle.sms_centre_spec.specs.Draft.{Store, bars_in, handsets_in, messages_in, parts_in, references_in, rows_of, waiting_in, with_given, with_message, with_part}
use Rattle.sms_centre_spec.specs.Draft.{with_priority}
use Rattle.sms_centre_spec.specs.MessageNumbers.{next_number}

-- ---- its parts, each under the next reference

-- the next reference of a handset
abbrev pub reference_for : HandsetRow → Store → Option ℕ
reference_for h s = next_reference h (waiting_in h.number s) (references_in s) s.moment

-- its DELIVER is made as the reference is given
abbrev pub put_part_of : ℕ → Submission → ℕ → SinglePart → ℕ → Store → Store
put_part_of id submission number body reference s = with_part (record {
  id = id;
  number = number;
  reference = reference;
  tpdu = deliver_octets s.moment submission body;
  key = body.key;
  progress = record { is_done = false; attempts = 0; due = submission.due };
}) s

abbrev pub part_given : ℕ → Submission → ℕ → SinglePart → HandsetRow → Option ℕ → Store → Option Store
part_given id submission number body h None s = None
part_given id submission number body h (Some reference) s =
    Some (put_part_of id submission number body reference (with_given h reference s))

abbrev pub give_part : ℕ → Submission → ℕ → SinglePart → HandsetRow → Store → Option Store
give_part id submission number body h s = part_given id submission number body h (reference_for h s) s

abbrev pub give_parts : ℕ → Submission → ℕ → List SinglePart → Store → Option Store
give_parts id submission number [] s = Some s
give_parts id submission number (body ∷ bodies) s =
    option_and_then (λ (e : Store). give_parts id submission (number + 1) bodies e)
    (give_part id submission number body (handset_of submission.handset (handsets_in s)) s)

-- ---- the message

abbrev pub data_coding_of : Text → ℕ
data_coding_of (Whole content) = content.dcs
data_coding_of (Single part) = part.data_coding_scheme

abbrev pub message_of : ℕ → ℕ → Option ℕ → Submission → MessageRow
message_of id moment split s = record {
  id = id;
  originator = s.originator;
  source = s.source;
  handset = s.handset;
  data_coding_scheme = data_coding_of s.text;
  protocol_identifier = s.protocol_identifier;
  wish = s.wish;
  submitted = moment;
  limit = s.limit;
  split_reference = split;
  state = None;
  done = None;
}

abbrev pub enter : ℕ → Option ℕ → Submission → Store → Store
enter id split submission s =
    with_priority (record { id = id; priority = submission.priority }) (with_message (message_of id s.moment split submission) s)

abbrev pub accept_under : ℕ → Option ℕ → List SinglePart → Submission → Store → Option Store
accept_under id split bodies submission s = give_parts id submission 1 bodies (enter id split submission s)

-- a text that is split takes the next reference for it
abbrev pub accept_split : ℕ → Option ℕ → Submission → Store → Option Store
accept_split id None submission s = None
accept_split id (Some reference) submission s = accept_under id (Some reference) (bodies_under reference submission.text) submission s

abbrev pub accept_as : ℕ → Submission → Store → Option Store
accept_as id submission s =
    if is_long submission.text
    then accept_split id (next_split submission.source submission.handset (bars_in s) (messages_in s) (parts_in s)) submission s
    else accept_under id None (bodies_under 0 submission.text) submission s

-- None where no number or no references are free
abbrev pub accept : Submission → Store → Option Store
accept submission s =
    if nat_le (next_number (rows_of s)) 9999999999 then accept_as (next_number (rows_of s)) submission s else None

-- ---- the check that needs rows

abbrev pub own_reference : Text → Option ℕ
own_reference (Whole content) = None
own_reference (Single part) = wide_in part.key

-- the header that was submitted with it has a reference that the centre gave for its source and handset
abbrev pub is_reference_taken : Submission → Store → Bool
is_reference_taken submission s =
    is_taken (own_reference submission.text) (held_references submission.source submission.handset (bars_in s) (messages_in s))
