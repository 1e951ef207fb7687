use Rattle.std.proofs.Common.{sym, ◌∙◌}
use Rattle.smpp_pdu.proofs.laws.written_is_unique.Goals as goal

pub returns : goal.returns
returns c = λ one other p h k. h.1 ∙ sym k.1
