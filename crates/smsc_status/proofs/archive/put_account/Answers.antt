use Rattle.std.proofs.lemmas.Result.{on_ok_weaker}
use Rattle.std.specs.Prelude.{codes}
use Rattle.smsc_status.specs.Archive.{account_text}
use Rattle.smsc_status.specs.Quoting.{string}
use Rattle.smsc_status.proofs.Chains.{next}
use Rattle.smsc_status.proofs.archive.put_account.Goals as goal

pub returns : goal.returns
unfolding account_text
returns c =
    on_ok_weaker c.put_string.result (λ e. next c.args.out.now (codes ",\"account\":") (string c.args.name.now) c.in_ok-append.ensures.ok e)
    c.put_string.ensures
