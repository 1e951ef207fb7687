use Rattle.sms_centre.proofs.barring.bars_for.Goals as goal

pub returns : goal.returns
returns c = λ core stands. c.bars_behind-bars.ensures core stands c.new-claims.ensures.items
