-- The course of the definition that a script in play is.
use Rattle.std.specs.Prelude.{◌≡◌, ℕ, List}
use Rattle.sms_base.specs.Among.{Among}
use Rattle.sms_play.specs.PlayState.{PlayState, numbers_of}
use Rattle.sms_player.specs.playing.Played.{PlayingOf}
use Rattle.sms_player.specs.centre.PlayedCentre.{Represents as PlayedRepresents}
use Rattle.sms_script.specs.declared.report.rows.Direction.TheVariants.{Up}
use Rattle.sms_script.specs.declared.report.rows.FrameRow.{FrameRow}
use Rattle.sms_play.specs.staging.Numbering.{AreNumbered}

-- frames up are from handsets of these numbers
abbrev pub AreFrom : List (List ℕ) → List FrameRow → Type 0
AreFrom numbers bag = (f : FrameRow) → Among f bag → f.direction ≡ Up → Among f.handset numbers

-- It is that course, with links to the course's handsets, and frames that are numbered from 1.
pub record Represents (c : PlayState) (p : PlayingOf) : Type 0 where
  pub centre : PlayedRepresents c.centre p.centre.centre p.centre.rows
  pub handsets : p.centre.handsets ≡ numbers_of c.parties
  pub parties : p.parties ≡ c.parties
  pub answers : p.answers ≡ c.answers
  pub given : p.given ≡ c.given
  pub bag : p.bag ≡ c.bag
  pub numbered : AreNumbered 1 c.bag
  pub from : AreFrom (numbers_of c.parties) c.bag
