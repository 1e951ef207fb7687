use Rattle.std.proofs.lemmas.Result.{on_ok_weaker}
use Rattle.std.specs.Prelude.{codes}
use Rattle.smsc_status.specs.Json.{array_text, link_text, lists_text, sample_text, session_text}
use Rattle.smsc_status.proofs.Chains.{chain3}
use Rattle.smsc_status.proofs.json.put_lists.Goals as goal

pub returns : goal.returns
unfolding lists_text
returns c =
    let v = c.args.view.now in
    on_ok_weaker c.put_array-3.result
    (λ e. chain3 c.args.out.now
    (array_text (codes "seconds") sample_text v.samples.now) (array_text (codes "sessions") session_text v.sessions.now)
    (array_text (codes "links") link_text v.links.now)
    c.in_ok-put_array.ensures c.in_ok-put_array-2.ensures e)
    c.put_array-3.ensures
