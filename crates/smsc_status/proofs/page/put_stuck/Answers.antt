use Rattle.std.proofs.lemmas.Result.{on_ok_weaker}
use Rattle.std.specs.Prelude.{codes}
use Rattle.smsc_status.specs.declared.page.TheConstants.{STUCK_HEAD}
use Rattle.smsc_status.specs.Page.{oldest_text, stuck_row, stuck_text, table_text}
use Rattle.smsc_status.proofs.Chains.{chain3}
use Rattle.smsc_status.proofs.page.put_stuck.Goals as goal

pub returns : goal.returns
unfolding stuck_text
returns c =
    let v = c.args.view.now in
    on_ok_weaker c.put_table.result
    (λ e. chain3 c.args.out.now
    (codes "<h2>What is stuck</h2><p>") (oldest_text v.oldest) (table_text STUCK_HEAD.now stuck_row v.stuck.now (codes "6"))
    c.in_ok-append.ensures.ok c.in_ok-put_oldest.ensures e)
    c.put_table.ensures
