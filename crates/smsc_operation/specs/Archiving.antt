-- What the archive of a run has of a message that is forgotten.
use Rattle.std.specs.Prelude.{◌≡◌, ℕ, List, Option, Some, IfSome, IsSomeAnd}
use Rattle.sms_base.specs.declared.final_state.FinalState.{FinalState}
use Rattle.sms_centre_rows.specs.declared.messages.message.MessageRow.{MessageRow}
use Rattle.smsc_operation.specs.declared.archive.RunArchive.{RunArchive}
use Rattle.smsc_operation.specs.declared.logged_archive.LoggedArchive.{LoggedArchive}
use Rattle.smsc_status.specs.Archive.{Forgotten, archive_text}

-- what its line says of a message that ended so
abbrev pub said_of : MessageRow → ℕ → ℕ → FinalState → Forgotten
said_of m parts ended state = record {
  id = m.id;
  originator = m.originator;
  source = m.source.digits;
  destination = m.handset;
  submitted = m.submitted;
  ended = ended;
  parts = parts;
  state = state;
  wish = m.wish;
}

-- the message, with so many parts, has ended, and of its line this is so
pub record IsSoOfLine (Is : List ℕ → Type 0) (m : MessageRow) (parts : ℕ) : Type 0 where
  pub ended : ℕ
  pub state : FinalState
  pub done : m.done ≡ Some ended
  pub final : m.state ≡ Some state
  pub line : Is (archive_text (said_of m parts ended state))

-- where it writes, if anywhere
abbrev pub ledger_in : {F : Type 0} → RunArchive F → Option F
ledger_in archive = archive.ledger

-- the archive of the run, if it could be opened
abbrev pub archive_in : {A R : Type 0} → LoggedArchive A R → Option A
archive_in logged = logged.archive

-- the ledger has the line, where there is a ledger: a run without one archives nothing
abbrev pub HasLine : {F : Type 0} → (F → List ℕ → Type 0) → Option F → List ℕ → Type 0
HasLine has ledger line = IfSome ledger (λ l. has l line)

-- the archive has the message, and one that could not be opened has none
abbrev pub HasMessage : {A : Type 0} → (A → MessageRow → ℕ → Type 0) → Option A → MessageRow → ℕ → Type 0
HasMessage has archive m parts = IsSomeAnd archive (λ a. has a m parts)
