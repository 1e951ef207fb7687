use Rattle.std.proofs.Common.{◌≡◌, None}
use Rattle.std.specs.Prelude.{⊤, IfSome}
use Rattle.sms_hub.specs.Faults.{MatchFault}
use Rattle.sms_hub.specs.Running.{IsOpened, jobs_for, lists_of}
use Rattle.sms_hub.proofs.run.many.open_sessions.Given as goal

abbrev pub invariant-loop-jobs : goal.invariant-loop-jobs
invariant-loop-jobs g l = record {
  opened : l.fault ≡ None → IsOpened l.opened;
  jobs : l.fault ≡ None → jobs_for l.opened.threads.items ≡ lists_of l.yielded;
  fault : IfSome l.fault (λ fault. MatchFault fault ⊤ ⊤ ⊥ ⊥);
}
