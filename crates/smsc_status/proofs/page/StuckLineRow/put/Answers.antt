use Rattle.std.proofs.lemmas.Result.{on_ok_weaker}
use Rattle.std.specs.Prelude.{codes}
use Rattle.smsc_status.specs.Page.{last_cause_text, next_try_text, stuck_counts, stuck_row}
use Rattle.smsc_status.proofs.Chains.{chain4}
use Rattle.smsc_status.proofs.page.StuckLineRow.put.Goals as goal

pub returns : goal.returns
unfolding stuck_row
returns c =
    let l = c.args.self.now in
    on_ok_weaker c.append.result
    (λ e. chain4 c.args.out.now
    (stuck_counts l) (last_cause_text l.is_linked l.cause) (next_try_text l.is_linked l.due) (codes "</td></tr>\n")
    c.in_ok-put_stuck_counts.ensures c.in_ok-put_last_cause.ensures c.in_ok-put_next_try.ensures e)
    c.append.ensures.ok
