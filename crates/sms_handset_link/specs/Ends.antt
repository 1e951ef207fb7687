-- How a run of a handset ends.
use Rattle.std.specs.Prelude.{ℕ, List, ◌∷◌, ◌++◌, Option, Some, None}
use Rattle.std.specs.Str.{encode_utf8_all}
use Rattle.std.specs.Io.KnownBytes.{Appends}
use Rattle.sms_base.specs.declared.address.Address.{Address}
use Rattle.sms_link.specs.framing.Framing.{framed}
use Rattle.sms_handset_draft.specs.Draft.{Core}
use Rattle.sms_handset.specs.declared.event.HandsetEvent.{HandsetEvent}
use Rattle.sms_handset_link.specs.Answering.{answers_to}
use Rattle.sms_handset_link.specs.Run.{Meets}
use Rattle.sms_handset_link.specs.Turns.{AreTimed, Attended}
use Rattle.sms_handset_link.specs.declared.run.RunEnd.{RunEnd}
use Rattle.sms_handset_link.specs.declared.run.RunEnd.TheVariants.{Done, Broken}

-- a space and the secret behind the number, if there is one
abbrev pub with_secret : Option (List ℕ) → List ℕ → List ℕ
with_secret None number = number
with_secret (Some secret) number = number ++ 0x20 ∷ secret

-- the first frame of a link
abbrev pub greeting : Address → Option (List ℕ) → List ℕ
greeting number secret = with_secret secret (encode_utf8_all number.digits)

-- The number as the first frame, with its secret if it has one. Then what the owner asked is met, each behind a tick, and answered, and then each
-- turn of the link: a tick, and the frames that were whole when it was read. So many frames are met, unless the link closes first.
pub record IsRunDone (reads : ℕ → Type 0) (frames : ℕ) (asked : List HandsetEvent) (number : Address) (secret : Option (List ℕ)) (before after : Core)
    (had has held holds told tells : Option (List ℕ)) : Type 0 where
  pub greeted : Option (List ℕ)
  pub number_so : Appends held greeted (framed (greeting number secret))
  pub timed : List HandsetEvent
  pub asked_so : AreTimed reads asked timed
  pub between : Core
  pub sent : Option (List ℕ)
  pub asked_met : Meets timed before between greeted sent
  pub answered_so : Appends told tells (answers_to timed before)
  pub rest : List ℕ
  pub attended : Attended reads frames had has rest between after sent holds

abbrev pub IsRun : (ℕ → Type 0) → ℕ → List HandsetEvent → Address → Option (List ℕ) → Core → Core → Option (List ℕ) → Option (List ℕ) → Option (List ℕ)
    → Option (List ℕ) → Option (List ℕ) → Option (List ℕ) → RunEnd → Type 0
IsRun reads frames asked number secret before after had has held holds told tells Done =
    IsRunDone reads frames asked number secret before after had has held holds told tells
IsRun reads frames asked number secret before after had has held holds told tells Broken = Unit {0}
