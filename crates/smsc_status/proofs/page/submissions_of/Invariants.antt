use Rattle.std.proofs.Common.{◌≡◌, map, take}
use Rattle.smsc_status.specs.declared.figures.Sample.{Sample}
use Rattle.smsc_status.proofs.page.submissions_of.Given as goal

abbrev pub invariant-loop-sample : goal.invariant-loop-sample
invariant-loop-sample l = l.values.items ≡ map (λ (s : Sample). s.submissions) (take l.sample-index l.samples)
