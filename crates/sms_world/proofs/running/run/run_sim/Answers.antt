use Rattle.std.proofs.Common.{◌≡◌, List, ℕ, refl}
use Rattle.std.specs.Io.KnownBytes.{Appends}
use Rattle.sms_world.proofs.running.HeadlineWritten.{headline_reported}
use Rattle.sms_world.proofs.running.run.run_sim.Goals as goal

pub returns-clause-headline : goal.returns-clause-headline
returns-clause-headline g c =
    headline_reported (g.R.Read.remaining c.args.reader.now) c.run.result (λ (text : List ℕ). Appends (g.W.Write.contents c.args.writer.now) (g.W.Write.contents c.run.new.writer) text) (c.run.new.writer ≡ c.args.writer.now)
    (c.run.ensures refl)
