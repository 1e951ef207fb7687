-- What a script begins with.
use Rattle.std.specs.Prelude.{◌≡◌, ℕ, List}
use Rattle.sms_centre.specs.state.CentreState.{CentreStateOf}
use Rattle.sms_centre_spec.specs.declared.rows.Rows.{Rows}
use Rattle.sms_play.specs.PlayState.{Party, numbers_of}
use Rattle.sms_play.specs.Setups.{beginning, parties_of}
use Rattle.sms_player.specs.centre.PlayedCentre.{Represents}
use Rattle.sms_script.specs.declared.setup.Setup.{Setup}

-- the centre on its first rows and the handsets on theirs, and the numbers of these are those to which the centre has links
pub record IsBegun (s : Setup) (centre : CentreStateOf) (rows : Rows) (handsets : List (List ℕ)) (parties : List Party) : Type 0 where
  pub starts : Represents (beginning s).centre centre rows
  pub linked : handsets ≡ numbers_of (parties_of s s.handsets)
  pub made : parties ≡ parties_of s s.handsets
