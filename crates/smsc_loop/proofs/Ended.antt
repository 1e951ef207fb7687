-- What may be put once an endpoint has left.
use Rattle.std.proofs.Common.{◌≡◌, Bool, true, not, sym, ◌∙◌}
use Rattle.std.proofs.lemmas.Bool.{not-true}
use Rattle.sms_centre_spec.specs.declared.jobs.job.Job.{Job}
use Rattle.smsc_loop.specs.Phases.{Phase, Serves, Fails, Leaves, Ends, Asks, KnowsEnd, MayPut, is_change}

pub may_be_put : (p : Phase) (job : Job) (has_ended may_put : Bool) → KnowsEnd p has_ended → (has_ended ≡ true → may_put ≡ not (is_change job)) → may_put ≡ true → MayPut p job
may_be_put Serves job has_ended may_put known ended may = tt
may_be_put Fails job has_ended may_put known ended may = tt
may_be_put (Leaves due) job has_ended may_put known ended may = not-true (is_change job) (sym (ended known) ∙ may)
may_be_put Ends job has_ended may_put known ended may = tt
may_be_put Asks job has_ended may_put known ended may = tt
