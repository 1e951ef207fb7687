-- Reading a frame from left to right, with the first fault that is met.
use Rattle.std.specs.Prelude.{ℕ, List, Option, Some, None, Result, Ok, Err, ◌&&◌, nat_lt}
use Rattle.sms_base.specs.Reading.{◌>>=◌, only_if, octet_in, run_in, end_in}
use Rattle.sms_control.specs.declared.fault.CpFault.{CpFault}
use Rattle.sms_control.specs.declared.fault.CpFault.TheVariants.{Truncated, Trailing, Unknown, BadLength}
use Rattle.sms_control.specs.declared.message_type.MessageType.{MessageType}
use Rattle.sms_control.specs.declared.message_type.MessageType.TheVariants.{Data, Ack, Error}
use Rattle.sms_control.specs.declared.transaction.Transaction.{Transaction}
use Rattle.sms_control.specs.declared.message.Cp.{Cp}
use Rattle.sms_control.specs.declared.message.Cp.TheVariants.{DataUnit, AckUnit, ErrorUnit}
use Rattle.sms_control.specs.ControlGrammar.{head_of, type_of, cause_of}

abbrev pub known : {A : Type 0} → Option A → Result A CpFault
known (Some x) = Ok x
known None = Err Unknown

unfoldable pub head_in : List ℕ → Result (Transaction × List ℕ) CpFault
head_in octets = do
  octet ← octet_in Truncated octets
  head ← known (head_of octet.0)
  Ok (head, octet.1)

unfoldable pub type_in : List ℕ → Result (MessageType × List ℕ) CpFault
type_in octets = do
  octet ← octet_in Truncated octets
  kind ← known (type_of octet.0)
  Ok (kind, octet.1)

-- a unit of 1 to 248 octets behind its length
unfoldable pub unit_in : List ℕ → Result (List ℕ × List ℕ) CpFault
unit_in octets = do
  len ← octet_in Truncated octets
  fits ← only_if (nat_lt 0 len.0 && nat_lt len.0 249) BadLength
  run_in Truncated len.0 len.1

abbrev pub body_at : Transaction → MessageType → List ℕ → Result Cp CpFault
body_at transaction Data octets = do
  unit ← unit_in octets
  done ← end_in Trailing unit.1
  Ok (DataUnit transaction unit.0)
body_at transaction Ack octets = do
  done ← end_in Trailing octets
  Ok (AckUnit transaction)
body_at transaction Error octets = do
  octet ← octet_in Truncated octets
  done ← end_in Trailing octet.1
  Ok (ErrorUnit transaction (cause_of octet.0))

unfoldable pub cp_at : List ℕ → Result Cp CpFault
cp_at octets = do
  head ← head_in octets
  kind ← type_in head.1
  body_at head.0 kind.0 kind.1
