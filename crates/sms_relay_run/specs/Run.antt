-- What a relay run writes for an input.
use Rattle.std.specs.Prelude.{◌≡◌, ℕ, List, [], ◌++◌, Option, Some, None, Result, Ok, Err}
use Rattle.std.specs.Result.{IsOk}
use Rattle.sms_base.specs.declared.address.Address.{Address}
use Rattle.sms_relay_run.specs.declared.run.LineFault.{LineFault}
use Rattle.sms_relay_run.specs.declared.run.LineFault.TheVariants.{BadLine, NoMemory}
use Rattle.sms_relay_run.specs.declared.relay_laws.relayed.Relayed.{Relayed}
use Rattle.sms_relay_run.specs.relay_laws.Relay.{IsRelayed}
use Rattle.sms_relay_run.specs.Lines.{frame_in, line_of}

abbrev pub answer_line : Address → Option (List ℕ) → List ℕ
answer_line from None = []
answer_line from (Some frame) = line_of from.digits frame

abbrev pub down_line : Option (Address × List ℕ) → List ℕ
down_line None = []
down_line (Some down) = line_of down.0.digits down.1

-- a line for each frame that is sent, the answer to the sender first
abbrev pub text_of : Address → Relayed → List ℕ
text_of from r = answer_line from r.answer ++ down_line r.down

-- the text for a frame
abbrev pub IsTextFor : Address → Address → ℕ → List ℕ → List ℕ → Type 0
IsTextFor centre from now frame text = (r : Relayed) × IsRelayed centre from now frame r × (text ≡ text_of from r)

-- the text for an input that is one line of hexadecimal digits
abbrev pub IsOutput : Address → Address → ℕ → List ℕ → List ℕ → Type 0
IsOutput centre from now input text = (frame : List ℕ) × (frame_in input ≡ Ok frame) × IsTextFor centre from now frame text

-- the text, or the number of the bad line; want of memory is reported of a good line alone
abbrev pub Outputs : Address → Address → ℕ → List ℕ → Result (List ℕ) LineFault → Type 0
Outputs centre from now input (Ok text) = IsOutput centre from now input text
Outputs centre from now input (Err (BadLine line)) = frame_in input ≡ Err line
Outputs centre from now input (Err NoMemory) = IsOk (frame_in input)
