-- What an owner asks, as an event of the handset, and how it is answered.
use Rattle.std.specs.Prelude.{ℕ, List, [], ◌∷◌, ◌++◌, min, codes, Result, Ok, Err}
use Rattle.std.specs.Str.{chars, encode_utf8_all}
use Rattle.sms_handset.specs.FaultCodes.{refusal_code}
use Rattle.sms_handset.specs.declared.event.HandsetEvent.{HandsetEvent}
use Rattle.sms_handset.specs.declared.event.HandsetEvent.TheVariants.{Write as WriteEvent, Delete as DeleteEvent, Discard as DiscardEvent}
use Rattle.sms_handset.specs.declared.refusal.Refusal.{Refusal}
use Rattle.sms_handset_draft.specs.Draft.{Core, Draft}
use Rattle.sms_handset.specs.machine.Stepping.{happened}
use Rattle.sms_script.specs.declared.owner.act.OwnersAct.{OwnersAct}
use Rattle.sms_script.specs.declared.owner.act.OwnersAct.TheVariants.{Write, Delete, Discard}

-- No entry has the greatest number of 32 bits, which takes the place of all that are greater.
abbrev pub entry_of : ℕ → ℕ
entry_of number = min number 4294967295

-- A destination is as it was written, the text of a character for each octet; the message is read as UTF-8.
abbrev pub event_of : OwnersAct → HandsetEvent
event_of (Write to report text) = WriteEvent (chars text) (chars (encode_utf8_all to)) report
event_of (Delete entry) = DeleteEvent (entry_of entry)
event_of (Discard entry) = DiscardEvent (entry_of entry)

-- OK, or the code of the refusal, on a line
abbrev pub answered : Result Draft Refusal → List ℕ
answered (Ok d) = codes "OK" ++ 10 ∷ []
answered (Err refusal) = refusal_code refusal ++ 10 ∷ []

abbrev pub answer_to : HandsetEvent → Core → List ℕ
answer_to e c = answered (happened e c)
