use Rattle.smsc_endpoint.specs.LinkSends.{begun}
use Rattle.smsc_endpoint.proofs.LinkSends.{begins, run_sends}
use Rattle.smsc_endpoint.proofs.laws.frames_are_sent_behind_their_lengths.Goals as goal

pub returns : goal.returns
returns c = λ access calls sends run is_open. run_sends calls (begun access) sends run is_open (λ still. begins access)
