use Rattle.std.proofs.lemmas.Result.{on_ok_weaker}
use Rattle.std.specs.Prelude.{codes, decimal}
use Rattle.smsc_status.specs.Archive.{reference_text}
use Rattle.smsc_status.proofs.Chains.{next}
use Rattle.smsc_status.proofs.archive.put_reference.Goals as goal

pub returns : goal.returns
unfolding reference_text
returns c =
    on_ok_weaker c.put_decimal.result (λ e. next c.args.out.now (codes ",\"message_reference\":") (decimal c.args.reference) c.in_ok-append.ensures.ok e)
    c.put_decimal.ensures
