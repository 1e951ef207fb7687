-- What a script has led to so far: the centre, the handsets, and all that was answered, given and sent.
use Rattle.std.specs.Prelude.{ℕ, ◌+◌, ◌==◌, List, [], ◌∷◌, ◌++◌, length, Option, Some, None, if◌then◌else◌}
use Rattle.std.specs.Str.{bytes_eq}
use Rattle.sms_link.specs.declared.outgoing.Outgoing.{Outgoing}
use Rattle.sms_script.specs.declared.report.answers.Answer.{Answer}
use Rattle.sms_script.specs.declared.report.answers.Answered.{Answered}
use Rattle.sms_script.specs.declared.report.rows.AcceptedRow.{AcceptedRow}
use Rattle.sms_script.specs.declared.report.rows.Direction.{Direction}
use Rattle.sms_script.specs.declared.report.rows.FrameRow.{FrameRow}
use Rattle.sms_script.specs.declared.report.rows.GivenRow.{GivenRow}
use Rattle.sms_script.specs.declared.report.rows.JoinedRow.{JoinedRow}
use Rattle.sms_centre_spec.specs.Draft.{Core as CentreCore}
use Rattle.sms_handset_draft.specs.Draft.{Core as HandsetCore}

-- a handset of the script
pub record Party : Type 0 where
  -- the digits of its number
  pub number : List ℕ
  pub core : HandsetCore
  -- what it accepted and what it joined, in order
  pub accepted : List AcceptedRow
  pub joined : List JoinedRow

pub record PlayState : Type 0 where
  pub centre : CentreCore
  -- in the order of the script's head
  pub parties : List Party
  pub answers : List Answer
  -- the references that were given, in order
  pub given : List GivenRow
  -- the frames that were sent, by number
  pub bag : List FrameRow

-- ---- the handset of a number

abbrev pub party_at : List ℕ → List Party → Option Party
party_at number [] = None
party_at number (p ∷ ps) = if bytes_eq p.number number then Some p else party_at number ps

abbrev pub with_party : Party → List Party → List Party
with_party party [] = []
with_party party (p ∷ ps) = if bytes_eq p.number party.number then party ∷ ps else p ∷ with_party party ps

abbrev pub numbers_of : List Party → List (List ℕ)
numbers_of [] = []
numbers_of (p ∷ ps) = p.number ∷ numbers_of ps

-- ---- frames: each gets the next number, from 1

abbrev pub sent : Direction → List ℕ → Outgoing → List FrameRow → List FrameRow
sent direction handset frame bag =
    bag ++ record { number = length bag + 1; direction = direction; handset = handset; carried = frame.carried; octets = frame.octets } ∷ []

-- the frame of a number
abbrev pub frame_at : ℕ → List FrameRow → Option FrameRow
frame_at number [] = None
frame_at number (f ∷ fs) = if f.number == number then Some f else frame_at number fs

-- ---- answers

abbrev pub answer : ℕ → Answered → PlayState → PlayState
answer event answered c = record c { answers = c.answers ++ record { event = event; answered = answered } ∷ [] }
