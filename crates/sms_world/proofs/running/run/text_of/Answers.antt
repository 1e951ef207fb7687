use Rattle.std.proofs.Common.{Err, Ok, sym, subst}
use Rattle.sms_play.specs.Playing.{play_of, premises_of}
use Rattle.sms_play.specs.Running.{ran}
use Rattle.sms_world.proofs.running.Written.{stops_by, writes}
use Rattle.sms_world.specs.running.RunEnd.{Outputs}
use Rattle.sms_world.specs.declared.running.run.SimError.{SimError}
use Rattle.sms_world.proofs.running.run.text_of.Goals as goal

pub returns-in-Ok : goal.returns-in-Ok
returns-in-Ok c = λ is. writes (play_of c.args.script.now.setup c.args.script.now.events) (premises_of c.args.script.now.setup c.args.script.now.events) c.in-Ok.text (c.in-Ok.ensures is)

pub returns-in-Err : goal.returns-in-Err
returns-in-Err c = λ is.
    subst (λ (e : SimError). Outputs (Err e) (ran (Ok c.args.script.now))) (sym c.of_fault.ensures)
    (stops_by (play_of c.args.script.now.setup c.args.script.now.events) (premises_of c.args.script.now.setup c.args.script.now.events) c.in-Err.fault (c.in-Err.ensures is))
