-- What memory holds while a script is played.
use Rattle.std.specs.Prelude.{List}
use Rattle.sms_play.specs.PlayState.{Party}
use Rattle.sms_player.specs.centre.PlayedCentre.{PlayedOf}
use Rattle.sms_script.specs.declared.report.answers.Answer.{Answer}
use Rattle.sms_script.specs.declared.report.rows.FrameRow.{FrameRow}
use Rattle.sms_script.specs.declared.report.rows.GivenRow.{GivenRow}

pub record PlayingOf : Type 0 where
  pub centre : PlayedOf
  pub parties : List Party
  pub answers : List Answer
  pub given : List GivenRow
  pub bag : List FrameRow
