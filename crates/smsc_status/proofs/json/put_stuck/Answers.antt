use Rattle.std.proofs.lemmas.Result.{on_ok_weaker}
use Rattle.std.specs.Prelude.{codes}
use Rattle.smsc_status.specs.Json.{array_text, oldest_text, stuck_line, stuck_text}
use Rattle.smsc_status.proofs.Chains.{chain3}
use Rattle.smsc_status.proofs.json.put_stuck.Goals as goal

pub returns : goal.returns
unfolding stuck_text
returns c =
    let v = c.args.view.now in
    on_ok_weaker c.put_oldest.result
    (λ e. chain3 c.args.out.now
    (array_text (codes "stuck") stuck_line v.stuck.now) (codes ",\"oldest\":") (oldest_text v.oldest)
    c.in_ok-put_array.ensures c.in_ok-append.ensures.ok e)
    c.put_oldest.ensures
