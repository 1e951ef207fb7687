use Rattle.std.proofs.lemmas.Result.{on_ok_weaker}
use Rattle.std.specs.Prelude.{codes}
use Rattle.smsc_status.specs.Json.{due_text, last_cause_text, stuck_counts, stuck_line}
use Rattle.smsc_status.proofs.Chains.{chain5}
use Rattle.smsc_status.proofs.json.StuckLineElement.put.Goals as goal

pub returns : goal.returns
unfolding stuck_line
returns c =
    let l = c.args.self.now in
    on_ok_weaker c.append-2.result
    (λ e. chain5 c.args.out.now
    (stuck_counts l) (last_cause_text l.cause) (codes ",\"due\":") (due_text l.due) (codes "}")
    c.in_ok-put_stuck_counts.ensures c.in_ok-put_last_cause.ensures c.in_ok-append.ensures.ok c.in_ok-put_due.ensures e)
    c.append-2.ensures.ok
