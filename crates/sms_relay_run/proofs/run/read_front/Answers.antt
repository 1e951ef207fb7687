use Rattle.std.proofs.Common.{rules, sym, subst, arith}
use Rattle.std.specs.Io.KnownBytes.{Consumes}
use Rattle.sms_relay_run.proofs.Fronting.{consumes_more, filled_more}
use Rattle.sms_relay_run.proofs.run.read_front.Goals as goal

pub loop-filled-preserved : goal.loop-filled-preserved
loop-filled-preserved g c = (
  search rules,
  omega (arith, c.in_ok-count.ensures.bound, c.read.auto.buf, c.loop-filled.invariant.0, c.loop-filled.invariant.1),
  subst (λ l. Consumes (g.R.Read.remaining c.args.reader.now) (g.R.Read.remaining c.read.new.self) l)
      (sym (filled_more c.loop-filled.filled c.in_ok-count.count c.loop-filled.buffer c.read.new.buf _ (omega (arith, c.loop-filled.invariant.0, c.loop-filled.invariant.1)) (omega (arith, c.in_ok-count.ensures.bound))))
      (consumes_more _ _ _ _ _ c.loop-filled.invariant.2 c.in_ok-count.ensures.bytes.0),
)
