use Rattle.std.proofs.Common.{Err, Result, ℕ, sym, subst}
use Rattle.sms_play.specs.Running.{ran, run_of}
use Rattle.sms_world.proofs.running.Written.{misread}
use Rattle.sms_world.specs.running.RunEnd.{Outputs}
use Rattle.sms_world.specs.declared.running.run.SimError.{SimError}
use Rattle.sms_script.specs.declared.script.Script.{Script}
use Rattle.sms_world.proofs.running.run.output.Goals as goal

pub returns-in-Ok : goal.returns-in-Ok
returns-in-Ok c = λ is. subst (λ (read : Result Script ℕ). Outputs c.text_of.result (ran read)) (sym c.in-Ok.ensures.exact) (c.text_of.ensures is)

pub returns-in-Err : goal.returns-in-Err
returns-in-Err c = λ is. subst (λ (e : SimError). Outputs (Err e) (run_of c.args.input.now)) (sym c.of_script_fault.ensures) (misread c.in-Err.fault c.args.input.now c.in-Err.ensures.exact)
