use Rattle.std.proofs.Common.{refl}
use Rattle.sms_keeper.proofs.keeper.Keeper.open.Goals as goal

pub returns-clause-new : goal.returns-clause-new
returns-clause-new g c = let new = c.in_ok-open.ensures.new in record { seats = new.1; ran = new.0.ran; given = new.0.given; last = refl }
