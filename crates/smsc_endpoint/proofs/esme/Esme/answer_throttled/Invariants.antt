use Rattle.std.proofs.Common.{◌≡◌, length}
use Rattle.smsc_endpoint.specs.EsmeCalls.{throttled_next}
use Rattle.smsc_endpoint.proofs.esme.Esme.answer_throttled.Given as goal

abbrev pub invariant-answering : goal.invariant-answering
invariant-answering l = throttled_next l.self ≡ throttled_next l.fn.self

abbrev pub decreases-answering : goal.decreases-answering
decreases-answering l = length l.self.waiting
