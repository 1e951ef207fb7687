use Rattle.std.proofs.Common.{◌≡◌, ℕ, List, Result, take, sym, subst}
use Rattle.std.specs.Io.KnownBytes.{Appends}
use Rattle.sms_relay_run.specs.Fronts.{IsFront}
use Rattle.sms_relay_run.specs.RunEnd.{EndsFor}
use Rattle.sms_relay_run.proofs.FrontsJudge.{front_judges, if_some_of, on_ok, written_for}
use Rattle.sms_relay_run.proofs.run.run_relay.Goals as goal

pub returns-in-Ok-clause-ends : goal.returns-in-Ok-clause-ends
returns-in-Ok-clause-ends g c =
    if_some_of (λ input. IsFront input (take c.in-Ok.count c.read_front.new.buffer)) _ (g.R.Read.remaining c.args.reader.now) c.in-Ok.ensures.front
    (λ input front. subst (λ (judged : Result (List ℕ) ℕ). EndsFor c.write_output.result (c.write_output.new.writer ≡ c.args.writer.now) judged) (sym (front_judges input _ front)) c.write_output.ensures.ends)

pub returns-in-Ok-clause-written : goal.returns-in-Ok-clause-written
returns-in-Ok-clause-written g c =
    on_ok c.write_output.result c.write_output.ensures.written (λ done.
    if_some_of (λ input. IsFront input (take c.in-Ok.count c.read_front.new.buffer)) _ (g.R.Read.remaining c.args.reader.now) c.in-Ok.ensures.front
    (λ input front. written_for c.args.centre c.args.from c.args.now input _ done.0 (λ text. Appends (g.W.Write.contents c.args.writer.now) (g.W.Write.contents c.write_output.new.writer) text) front done.1 done.2))
