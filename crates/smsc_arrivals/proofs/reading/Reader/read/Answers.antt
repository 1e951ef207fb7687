use Rattle.std.proofs.Common.{sym, ◌∙◌, true≢false}
use Rattle.smsc_arrivals.proofs.Crossing.{all_marked, gave_next, given_marked, given_of, read_next}
use Rattle.smsc_arrivals.proofs.reading.Reader.read.Goals as goal

pub give-requires : goal.give-requires
give-requires g c = record {
  given = given_of _ _ _ (read_next _ _ _ _ _ c.loop.invariant c.in-Octets.ensures.0);
  all = λ m. absurd (true≢false (sym m ∙ c.in-Octets.ensures.1));
}

pub give-requires-in-Ended : goal.give-requires-in-Ended
give-requires-in-Ended g c = record {
  given = given_marked _ _ _ _ _ c.loop.invariant c.in-Ended.ensures.0 c.none.ensures.none;
  all = λ m. all_marked _ _ _ _ _ c.loop.invariant c.in-Ended.ensures.0 c.in-Ended.ensures.1 c.none.ensures.none;
}

pub loop-preserved-in-Octets : goal.loop-preserved-in-Octets
loop-preserved-in-Octets g c = gave_next _ _ _ _ _ _ _ c.loop.invariant c.in-Octets.ensures.0 c.give.ensures.source c.if-not-give.ensures.given
