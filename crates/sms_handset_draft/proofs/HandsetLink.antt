-- The link in the middle of an event is the handset's end of it.
use Rattle.std.proofs.Common.{◌≡◌, ap}
use Rattle.sms_link.specs.declared.ending.Side.{Side}
use Rattle.sms_link.specs.declared.ending.Side.TheVariants.{Handset}
use Rattle.sms_link.specs.LinkTurn.{LinkOf}

pub on_its_side : (l : LinkOf) → l.side ≡ Handset → l ≡ record { side = Handset; links = l.links; under_way = l.under_way; answered = l.answered }
on_its_side l e = ap (λ (s : Side). record l { side = s }) e
