use Rattle.smsc_server.proofs.serving.RateLaws.{rate_kept}
use Rattle.smsc_server.proofs.serving.rates.no_account_passes_its_rate.Goals as goal

pub returns : goal.returns
returns c = rate_kept
