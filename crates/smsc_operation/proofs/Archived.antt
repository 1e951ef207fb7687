-- What an archive has of its lines.
use Rattle.std.proofs.Common.{◌≡◌, ℕ, List, Some}
use Rattle.sms_base.specs.declared.final_state.FinalState.{FinalState}
use Rattle.sms_centre_rows.specs.declared.messages.message.MessageRow.{MessageRow}
use Rattle.smsc_status.specs.Archive.{archive_text}
use Rattle.smsc_operation.specs.Archiving.{IsSoOfLine, said_of}

-- it has ended so, and of that line it is so
pub so_now : (Is : List ℕ → Type 0) (m : MessageRow) (parts ended : ℕ) (state : FinalState) → m.done ≡ Some ended → m.state ≡ Some state
    → Is (archive_text (said_of m parts ended state)) → IsSoOfLine Is m parts
so_now Is m parts ended state done final line = record { ended = ended; state = state; done = done; final = final; line = line }

-- what is so of each line is so of its line still
pub so_still : (Is Still : List ℕ → Type 0) → ((line : List ℕ) → Is line → Still line) → (m : MessageRow) (parts : ℕ) → IsSoOfLine Is m parts → IsSoOfLine Still m parts
so_still Is Still still m parts so = record {
  ended = so.ended;
  state = so.state;
  done = so.done;
  final = so.final;
  line = still (archive_text (said_of m parts so.ended so.state)) so.line;
}
