use Rattle.std.proofs.Common.{refl}
use Rattle.handset.proofs.running.do_acts.Goals as goal

pub run_over-requires-clause-changes : goal.run_over-requires-clause-changes
run_over-requires-clause-changes c = λ changes rows. refl
