-- Reading a script, line by line; a line by its words, from left to right.
use Rattle.std.specs.Prelude.{◌≡◌, ℕ, List, [], ◌∷◌, length, nat_le, Bool, Option, Some, Result, Ok, Err, codes, bytes_eq, if◌then◌else◌}
use Rattle.sms_base.specs.Reading.{◌>>=◌, only_if}
use Rattle.sms_script.specs.Lines.{is_word, words_of}
use Rattle.sms_script.specs.Hexadecimal.{octets_of, octet_of, text_of}
use Rattle.sms_script.specs.Keywords.{keyword_of}
use Rattle.sms_script.specs.Numbers.{number_of, small_of, flag_of, moment_of}
use Rattle.sms_script.specs.declared.event.Act.{Act}
use Rattle.sms_script.specs.declared.event.Act.TheVariants.{Submit, Query, Cancel, Write, Delete, Discard, Deliver, Tick}
use Rattle.sms_script.specs.declared.event.EventSide.{EventSide}
use Rattle.sms_script.specs.declared.event.EventSide.TheVariants.{Centre as CentreSide, Handset as HandsetSide}
use Rattle.sms_script.specs.declared.event.StopPoint.{StopPoint}
use Rattle.sms_script.specs.declared.event.StopPoint.TheVariants.{Before, After}
use Rattle.sms_script.specs.declared.event.WorldEvent.TheVariants.{Whole, Stopped, Restart}
use Rattle.sms_script.specs.declared.fault.LineFault.{LineFault}
use Rattle.sms_script.specs.declared.fault.LineFault.TheVariants.{BadLine}
use Rattle.sms_script.specs.declared.keyword.Keyword.{Keyword}
use Rattle.sms_script.specs.declared.keyword.Keyword.TheVariants.{Start as StartWord, Centre as CentreWord, Account as AccountWord, Handset as HandsetWord}
use Rattle.sms_script.specs.declared.keyword.Keyword.TheVariants.{Submit as SubmitWord, Urgent as UrgentWord, Query as QueryWord, Cancel as CancelWord}
use Rattle.sms_script.specs.declared.keyword.Keyword.TheVariants.{Write as WriteWord, Delete as DeleteWord, Discard as DiscardWord, Deliver as DeliverWord}
use Rattle.sms_script.specs.declared.keyword.Keyword.TheVariants.{Tick as TickWord, Restart as RestartWord, Stopped as StoppedWord}
use Rattle.sms_script.specs.declared.line.Line.{Line}
use Rattle.sms_script.specs.declared.line.Line.TheVariants.{Start, Centre, Account as AccountLine, Handset as HandsetLine, Event}

-- What a call returned, seen by view, and the words that it left are what the reading gives.
abbrev pub TakesWords : {X Y : Type 0} → (X → Y) → Result X LineFault → List (List ℕ) → Result (Y × List (List ℕ)) LineFault → Type 0
TakesWords view (Ok x) rest read = read ≡ Ok (view x, rest)
TakesWords view (Err e) rest read = read ≡ Err e

-- ---- words

abbrev pub word_in : List (List ℕ) → Result (List ℕ × List (List ℕ)) LineFault
word_in [] = Err BadLine
word_in (word ∷ words) = if is_word word then Ok (word, words) else Err BadLine

-- no word is left
abbrev pub done_in : List (List ℕ) → Result (Unit {0}) LineFault
done_in [] = Ok tt
done_in (word ∷ words) = Err BadLine

-- the next word, read by a function of its octets
abbrev pub field_in : {X : Type 0} → (List ℕ → Result X LineFault) → List (List ℕ) → Result (X × List (List ℕ)) LineFault
field_in read words = do
  word ← word_in words
  field ← read word.0
  Ok (field, word.1)

-- ---- fields

-- `-` where there is none
abbrev pub is_dash : List ℕ → Bool
is_dash word = bytes_eq word (codes "-")

abbrev pub validity_of : List ℕ → Result (List ℕ) LineFault
validity_of word = if is_dash word then Ok [] else Ok word

abbrev pub body_of : List ℕ → Result (List ℕ) LineFault
body_of word = if is_dash word then Ok [] else octets_of word

abbrev pub text_in : List ℕ → Result (List ℕ) LineFault
text_in word = body_of word >>= text_of

abbrev pub side_of : List ℕ → Result EventSide LineFault
side_of word = if bytes_eq word (codes "centre") then Ok CentreSide else Ok (HandsetSide word)

abbrev pub stop_of : List ℕ → Result StopPoint LineFault
stop_of word = if bytes_eq word (codes "before") then Ok Before else (if bytes_eq word (codes "after") then Ok After else Err BadLine)

-- ---- acts, behind their keyword

-- what an application submits, behind its name and its priority
unfoldable pub submission_in : List ℕ → ℕ → List (List ℕ) → Result (Act × List (List ℕ)) LineFault
submission_in name priority words = do
  to ← word_in words
  coding ← field_in (small_of 255) to.1
  esm_class ← field_in octet_of coding.1
  registered_delivery ← field_in (small_of 255) esm_class.1
  validity ← field_in validity_of registered_delivery.1
  message ← field_in body_of validity.1
  Ok (
    Submit (record {
      name = name;
      to = to.0;
      coding = coding.0;
      esm_class = esm_class.0;
      registered_delivery = registered_delivery.0;
      validity = validity.0;
      message = message.0;
      priority = priority;
    }),
    message.1,
  )

unfoldable pub submit_in : List (List ℕ) → Result (Act × List (List ℕ)) LineFault
submit_in words = do
  name ← word_in words
  submission_in name.0 0 name.1

unfoldable pub urgent_in : List (List ℕ) → Result (Act × List (List ℕ)) LineFault
urgent_in words = do
  name ← word_in words
  priority ← field_in (small_of 3) name.1
  submission_in name.0 priority.0 priority.1

unfoldable pub query_in : List (List ℕ) → Result (Act × List (List ℕ)) LineFault
query_in words = do
  name ← word_in words
  id ← word_in name.1
  Ok (Query name.0 id.0, id.1)

unfoldable pub cancel_in : List (List ℕ) → Result (Act × List (List ℕ)) LineFault
cancel_in words = do
  name ← word_in words
  id ← word_in name.1
  Ok (Cancel name.0 id.0, id.1)

unfoldable pub write_in : List (List ℕ) → Result (Act × List (List ℕ)) LineFault
write_in words = do
  handset ← word_in words
  to ← word_in handset.1
  report ← field_in flag_of to.1
  text ← field_in text_in report.1
  Ok (Write handset.0 to.0 report.0 text.0, text.1)

unfoldable pub delete_in : List (List ℕ) → Result (Act × List (List ℕ)) LineFault
delete_in words = do
  handset ← word_in words
  entry ← field_in number_of handset.1
  Ok (Delete handset.0 entry.0, entry.1)

unfoldable pub discard_in : List (List ℕ) → Result (Act × List (List ℕ)) LineFault
discard_in words = do
  handset ← word_in words
  entry ← field_in number_of handset.1
  Ok (Discard handset.0 entry.0, entry.1)

unfoldable pub deliver_in : List (List ℕ) → Result (Act × List (List ℕ)) LineFault
deliver_in words = do
  number ← field_in number_of words
  Ok (Deliver number.0, number.1)

unfoldable pub tick_in : List (List ℕ) → Result (Act × List (List ℕ)) LineFault
tick_in words = do
  side ← field_in side_of words
  now ← field_in moment_of side.1
  Ok (Tick side.0 now.0, now.1)

-- the act of a keyword
abbrev pub act_of : Option Keyword → List (List ℕ) → Result (Act × List (List ℕ)) LineFault
act_of (Some SubmitWord) words = submit_in words
act_of (Some UrgentWord) words = urgent_in words
act_of (Some QueryWord) words = query_in words
act_of (Some CancelWord) words = cancel_in words
act_of (Some WriteWord) words = write_in words
act_of (Some DeleteWord) words = delete_in words
act_of (Some DiscardWord) words = discard_in words
act_of (Some DeliverWord) words = deliver_in words
act_of (Some TickWord) words = tick_in words
act_of _ words = Err BadLine

-- an act with its keyword
unfoldable pub act_in : List (List ℕ) → Result (Act × List (List ℕ)) LineFault
act_in words = do
  keyword ← word_in words
  act_of (keyword_of keyword.0) keyword.1

-- ---- lines, behind their keyword

unfoldable pub start_in : List (List ℕ) → Result (Line × List (List ℕ)) LineFault
start_in words = do
  start ← field_in number_of words
  Ok (Start start.0, start.1)

unfoldable pub centre_in : List (List ℕ) → Result (Line × List (List ℕ)) LineFault
centre_in words = do
  number ← word_in words
  Ok (Centre number.0, number.1)

unfoldable pub account_in : List (List ℕ) → Result (Line × List (List ℕ)) LineFault
account_in words = do
  name ← word_in words
  password ← word_in name.1
  number ← word_in password.1
  Ok (AccountLine (record { name = name.0; password = password.0; number = number.0 }), number.1)

unfoldable pub handset_in : List (List ℕ) → Result (Line × List (List ℕ)) LineFault
handset_in words = do
  number ← word_in words
  slots ← field_in number_of number.1
  Ok (HandsetLine (record { number = number.0; slots = slots.0 }), slots.1)

unfoldable pub restart_in : List (List ℕ) → Result (Line × List (List ℕ)) LineFault
restart_in words = do
  side ← field_in side_of words
  Ok (Event (Restart side.0), side.1)

unfoldable pub stopped_in : List (List ℕ) → Result (Line × List (List ℕ)) LineFault
stopped_in words = do
  stop ← field_in stop_of words
  act ← act_in stop.1
  Ok (Event (Stopped stop.0 act.0), act.1)

unfoldable pub whole_in : Option Keyword → List (List ℕ) → Result (Line × List (List ℕ)) LineFault
whole_in keyword words = do
  act ← act_of keyword words
  Ok (Event (Whole act.0), act.1)

-- the line of a keyword
abbrev pub line_of : Option Keyword → List (List ℕ) → Result (Line × List (List ℕ)) LineFault
line_of (Some StartWord) words = start_in words
line_of (Some CentreWord) words = centre_in words
line_of (Some AccountWord) words = account_in words
line_of (Some HandsetWord) words = handset_in words
line_of (Some RestartWord) words = restart_in words
line_of (Some StoppedWord) words = stopped_in words
line_of keyword words = whole_in keyword words

-- a line has at most so many octets, its LF not counted
abbrev pub longest_line : ℕ
longest_line = 16384

-- what a line says
unfoldable pub line_at : List ℕ → Result Line LineFault
line_at octets = do
  fits ← only_if (nat_le (length octets) longest_line) BadLine
  keyword ← word_in (words_of octets)
  line ← line_of (keyword_of keyword.0) keyword.1
  done ← done_in line.1
  Ok line.0
