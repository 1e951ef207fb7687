use Rattle.std.proofs.Common.{◌≡◌, ◌∙◌, ap, List, ℕ, refl, sym}
use Rattle.std.specs.Io.KnownBytes.{Appends}
use Rattle.sms_play.specs.Running.{Wrote, run_of}
use Rattle.sms_world.proofs.running.Written.{ends_by}
use Rattle.sms_world.proofs.running.run.write_output.Goals as goal

pub returns-in-Ok : goal.returns-in-Ok
returns-in-Ok g c = λ is. c.write_text.ensures (run_of c.args.input.now) (c.in-Ok.ensures is ∙ ap (λ (text : List ℕ). Wrote text) (sym c.as_slice.ensures))

pub returns-in-Err : goal.returns-in-Err
returns-in-Err g c = λ is.
    ends_by c.in-Err.error (λ (text : List ℕ). Appends (g.W.Write.contents c.args.writer.now) (g.W.Write.contents c.args.writer.now) text) (c.args.writer.now ≡ c.args.writer.now) (run_of c.args.input.now) refl (c.in-Err.ensures is)
