use Rattle.std.proofs.Common.{◌≡◌, List, ℕ}
use Rattle.std.specs.Io.KnownBytes.{Appends}
use Rattle.sms_play.specs.Running.{Ran}
use Rattle.sms_world.proofs.running.Fronts.{runs_alike}
use Rattle.sms_world.specs.running.RunEnd.{EndsFor}
use Rattle.sms_world.proofs.running.run.run.Goals as goal

pub returns-in-Ok : goal.returns-in-Ok
returns-in-Ok g c = λ is. runs_alike
    (λ (how : Ran). EndsFor c.write_output.result (λ (text : List ℕ). Appends (g.W.Write.contents c.args.writer.now) (g.W.Write.contents c.write_output.new.writer) text) (c.write_output.new.writer ≡ c.args.writer.now) how)
    (g.R.Read.remaining c.args.reader.now) c.in-Ok.front c.as_slice.result.now c.as_slice.ensures c.in-Ok.ensures (c.write_output.ensures is)
