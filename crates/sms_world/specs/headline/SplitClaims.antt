-- What is claimed of messages that the centre split into parts under a 16-bit reference (3GPP TS 23.040 9.2.3.24.8).
use Rattle.std.specs.Prelude.{◌≡◌, ℕ, suc, ◌<◌, ◌≤◌, List, length, Some, slice_get, ◌⊎◌, [], ◌∷◌, ◌++◌, true, Ok}
use Rattle.sms_base.specs.Among.{Among}
use Rattle.sms_alphabet.specs.declared.concat_key.ConcatReference.TheVariants.{SixteenBit}
use Rattle.sms_concat.specs.declared.content.Content.{Content}
use Rattle.sms_concat.specs.declared.content.Part.{Part as PartOf}
use Rattle.sms_concat.specs.Splitting.{IsSplit}
use Rattle.sms_concat.specs.UserData.{capacity}
use Rattle.sms_centre_rows.specs.declared.messages.message.MessageRow.{MessageRow}
use Rattle.sms_centre_rows.specs.declared.messages.part.PartRow.{PartRow}
use Rattle.sms_centre_rows.specs.messages.Messages.{part_at, message_at}
use Rattle.sms_world_model.specs.Place.{carried_in, Key, place_in}
use Rattle.sms_intake.specs.declared.submission.CentreAccount.{CentreAccount}
use Rattle.sms_intake.specs.declared.submission.Submission.{Submission}
use Rattle.sms_intake.specs.declared.submission.Text.TheVariants.{Whole as WholeText}
use Rattle.sms_intake.specs.PartBodies.{is_long}
use Rattle.sms_intake.specs.SmppIntake.{from_pdu}
use Rattle.sms_centre_spec.specs.declared.event.CentreEvent.TheVariants.{Submit as CentreSubmit}
use Rattle.sms_centre_spec.specs.CentreEvent.{happened}
use Rattle.sms_centre_spec.specs.Draft.{messages_in}
use Rattle.sms_centre_spec.specs.MessageNumbers.{next_number}
use Rattle.sms_centre_spec.specs.Requests.{account_at}
use Rattle.sms_play.specs.Meeting.{account_from}
use Rattle.sms_script.specs.Requests.{submit_of}
use Rattle.sms_play.specs.Playing.{play_state_of}
use Rattle.sms_script.specs.declared.event.Act.TheVariants.{Submit}
use Rattle.sms_script.specs.declared.event.StopPoint.TheVariants.{After}
use Rattle.sms_script.specs.declared.event.Submission.{Submission as ScriptSubmission}
use Rattle.sms_script.specs.declared.event.WorldEvent.{WorldEvent}
use Rattle.sms_script.specs.declared.event.WorldEvent.TheVariants.{Whole, Stopped}
use Rattle.sms_script.specs.declared.setup.Setup.{Setup}
use Rattle.sms_script.specs.declared.report.rows.JoinedRow.{JoinedRow}
use Rattle.sms_play.specs.PlayState.{PlayState, Party}
use Rattle.sms_play.specs.HandsetSide.{coding_of}
use Rattle.sms_world_model.specs.World.{Accepted}
use Rattle.sms_world.specs.headline.Claims.{pair_in_row, AreJoinedRounds, IsLongMessage}

-- ---- their rows

-- what all its parts have in common: the message's source, the reference, and how many parts there are
abbrev pub split_key : MessageRow → ℕ → ℕ → Key
split_key m reference total = record { source = m.source; reference = SixteenBit reference; total = total }

-- It has that many parts, from number 1 on, and each part of it is at its own number's place under that key.
pub record IsSplitUnder (m : MessageRow) (reference total : ℕ) (parts : List PartRow) : Type 0 where
  pub few : total < 256
  pub each : (n : ℕ) → 0 < n → n ≤ total → (p : PartRow) × (part_at m.id n parts ≡ Some p)
  pub placed : (p : PartRow) → Among p parts → p.id ≡ m.id → place_in p.tpdu ≡ Some (record { key = split_key m reference total; number = p.number })

-- each message whose row says under which reference it was split has its parts so
abbrev pub AllSplitUnder : List MessageRow → List PartRow → Type 0
AllSplitUnder messages parts =
    (m : MessageRow) (reference : ℕ) → Among m messages → m.split_reference ≡ Some reference → (total : ℕ) × IsSplitUnder m reference total parts

-- Its parts are those that the content was split into, in order: a content that one part did not hold.
pub record IsSplitOf (m : MessageRow) (content : Content) (reference : ℕ) (parts : List PartRow) : Type 0 where
  pub pieces : List PartOf
  pub long : capacity content.coding < length content.units
  pub split : IsSplit content reference pieces
  pub under : IsSplitUnder m reference (length pieces) parts
  pub carried : (n : ℕ) (piece : PartOf) → slice_get pieces n ≡ Some piece
      → (p : PartRow) × ((part_at m.id (suc n) parts ≡ Some p) × (carried_in p.tpdu ≡ Some piece))

-- ---- whatever happens

-- the event submits, and went to its end or was stopped behind its store call
abbrev pub Submits : WorldEvent → ScriptSubmission → Type 0
Submits e s = (e ≡ Whole (Submit s)) ⊎ (e ≡ Stopped After (Submit s))

-- An event submitted a text that no part holds, for that account, at the play state that the events before it led to. If it became a message,
-- it is that text, split.
abbrev pub TextsSplit : Setup → List WorldEvent → PlayState → Type 0
TextsSplit setup events d =
    (some others : List WorldEvent) (e : WorldEvent) (s : ScriptSubmission) (c : PlayState) (place : ℕ) (account : CentreAccount) (u : Submission)
    (content : Content)
    → events ≡ some ++ e ∷ others → play_state_of setup some ≡ Ok c → Submits e s → account_from 0 s.name c.centre.rows.setup.accounts ≡ Some place
    → account_at place c.centre.rows.setup.accounts ≡ Some account → from_pdu account c.centre.moment (submit_of s) ≡ Ok u → u.text ≡ WholeText content
    → is_long u.text ≡ true
    → (m : MessageRow) → message_at (next_number c.centre.rows) (messages_in (happened (CentreSubmit place (submit_of s)) c.centre).store) ≡ Some m
    → (x : MessageRow) × (reference : ℕ) × ((message_at m.id d.centre.rows.messages ≡ Some x) × IsSplitOf x content reference d.centre.rows.parts)

-- A message that was split is a long message of one key. The key is its source, the reference that its row keeps, and as many parts
-- as it has.
abbrev pub SplitsAreLong : PlayState → Type 0
SplitsAreLong c =
    (m : MessageRow) (reference : ℕ) → Among m c.centre.rows.messages → m.split_reference ≡ Some reference
    → (total : ℕ) × IsLongMessage c m (split_key m reference total)

-- a message of the one play state that was split from a content is so in the other
abbrev pub SplitsStay : PlayState → PlayState → Type 0
SplitsStay c d =
    (m : MessageRow) (content : Content) (reference : ℕ) → message_at m.id c.centre.rows.messages ≡ Some m → IsSplitOf m content reference c.centre.rows.parts
    → (x : MessageRow) × ((message_at m.id d.centre.rows.messages ≡ Some x) × IsSplitOf x content reference d.centre.rows.parts)

-- ---- while frames are timely and originators keep references fresh

-- A row for which a part of a message that was split from a content was joined says that content, from the message's source.
abbrev pub SaysSplit : PlayState → Party → JoinedRow → List Accepted → Type 0
SaysSplit c q row round =
    (m : MessageRow) (content : Content) (reference : ℕ) (p : PartRow) → Among m c.centre.rows.messages → m.handset ≡ q.number
    → IsSplitOf m content reference c.centre.rows.parts
    → Among p c.centre.rows.parts → p.id ≡ m.id → Among (pair_in_row m p) round
    → row ≡ record { handset = q.number; from = m.source.digits; coding = coding_of content.coding; units = content.units }

-- each row a round, in order
abbrev pub AllSaySplit : PlayState → Party → List JoinedRow → List (List Accepted) → Type 0
AllSaySplit c q [] [] = Unit {0}
AllSaySplit c q [] (g ∷ gs) = ⊥
AllSaySplit c q (r ∷ rs) [] = ⊥
AllSaySplit c q (r ∷ rs) (g ∷ gs) = SaysSplit c q r g × AllSaySplit c q rs gs

-- What a handset joined of a text that the centre split is that text.
abbrev pub SplitsJoined : PlayState → Type 0
SplitsJoined c = (q : Party) → Among q c.parties → (rounds : List (List Accepted)) × (AreJoinedRounds c q q.joined rounds × AllSaySplit c q q.joined rounds)
