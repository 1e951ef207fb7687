-- The lines of a handset's owner: those of a script without the number of the handset behind their first word.
use Rattle.std.specs.Prelude.{ℕ, List, nat_le, length, codes, bytes_eq, Option, Some, None, Result, Ok, Err, if◌then◌else◌}
use Rattle.sms_base.specs.Reading.{◌>>=◌, only_if}
use Rattle.sms_script.specs.Lines.{words_of}
use Rattle.sms_script.specs.Numbers.{number_of, flag_of}
use Rattle.sms_script.specs.ScriptReading.{word_in, done_in, field_in, text_in, longest_line}
use Rattle.sms_script.specs.declared.fault.LineFault.{LineFault}
use Rattle.sms_script.specs.declared.fault.LineFault.TheVariants.{BadLine}
use Rattle.sms_script.specs.declared.owner.act.OwnersAct.{OwnersAct}
use Rattle.sms_script.specs.declared.owner.act.OwnersAct.TheVariants.{Write, Delete, Discard}
use Rattle.sms_script.specs.declared.owner.line.Verb.{Verb}
use Rattle.sms_script.specs.declared.owner.line.Verb.TheVariants.{Write as WriteVerb, Delete as DeleteVerb, Discard as DiscardVerb}

abbrev pub verb_of : List ℕ → Option Verb
verb_of word =
    if bytes_eq word (codes "write") then Some WriteVerb
    else (if bytes_eq word (codes "delete") then Some DeleteVerb
    else (if bytes_eq word (codes "discard") then Some DiscardVerb else None))

-- ---- acts, behind their verb

unfoldable pub write_in : List (List ℕ) → Result (OwnersAct × List (List ℕ)) LineFault
write_in words = do
  to ← word_in words
  report ← field_in flag_of to.1
  text ← field_in text_in report.1
  Ok (Write to.0 report.0 text.0, text.1)

unfoldable pub delete_in : List (List ℕ) → Result (OwnersAct × List (List ℕ)) LineFault
delete_in words = do
  entry ← field_in number_of words
  Ok (Delete entry.0, entry.1)

unfoldable pub discard_in : List (List ℕ) → Result (OwnersAct × List (List ℕ)) LineFault
discard_in words = do
  entry ← field_in number_of words
  Ok (Discard entry.0, entry.1)

abbrev pub act_of : Option Verb → List (List ℕ) → Result (OwnersAct × List (List ℕ)) LineFault
act_of (Some WriteVerb) words = write_in words
act_of (Some DeleteVerb) words = delete_in words
act_of (Some DiscardVerb) words = discard_in words
act_of None words = Err BadLine

-- ---- a line

unfoldable pub act_at : List ℕ → Result OwnersAct LineFault
act_at octets = do
  fits ← only_if (nat_le (length octets) longest_line) BadLine
  verb ← word_in (words_of octets)
  act ← act_of (verb_of verb.0) verb.1
  done ← done_in act.1
  Ok act.0
