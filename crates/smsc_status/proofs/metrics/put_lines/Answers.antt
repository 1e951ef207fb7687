use Rattle.std.proofs.Common.{◌++◌, ap, ◌∙◌}
use Rattle.std.proofs.lemmas.Result.{on_ok_weaker}
use Rattle.smsc_status.proofs.Elements.{lines_are}
use Rattle.smsc_status.proofs.metrics.put_lines.Goals as goal

pub returns : goal.returns
returns c = on_ok_weaker c.put_each.result (λ e. e ∙ ap (λ t. c.args.out.now ++ t) (lines_are c.args.lines.now)) c.put_each.ensures
