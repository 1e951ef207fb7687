use Rattle.smsc_endpoint.specs.EsmeTurns.{begun}
use Rattle.smsc_endpoint.proofs.EsmeRuns.{begins}
use Rattle.smsc_endpoint.proofs.EsmeTurns.{begins as begins_turns, turns_hold}
use Rattle.smsc_endpoint.proofs.laws.requests_have_the_answers_of_their_turns.Goals as goal

pub returns : goal.returns
returns c = λ accounts calls in_turn some. turns_hold accounts calls (begun accounts) (begins_turns accounts) (begins accounts) in_turn some
