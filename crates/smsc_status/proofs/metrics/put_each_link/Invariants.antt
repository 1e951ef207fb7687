use Rattle.std.proofs.Common.{◌≡◌, ◌++◌, drop}
use Rattle.smsc_status.specs.Metrics.{link_samples}
use Rattle.smsc_status.proofs.metrics.put_each_link.Given as goal

abbrev pub invariant-loop-link : goal.invariant-loop-link
invariant-loop-link l = l.out ++ link_samples l.name l.metric (drop l.link-index l.links) ≡ l.fn.out ++ link_samples l.name l.metric l.links
