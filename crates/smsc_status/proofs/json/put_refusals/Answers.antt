use Rattle.std.proofs.lemmas.Result.{on_ok_weaker}
use Rattle.std.specs.Prelude.{codes}
use Rattle.smsc_status.specs.Json.{array_text, refusals_text, refused_binds_text, refused_deliveries_text, refused_submits_text}
use Rattle.smsc_status.proofs.Chains.{chain3}
use Rattle.smsc_status.proofs.json.put_refusals.Goals as goal

pub returns : goal.returns
unfolding refusals_text
returns c =
    let v = c.args.view.now in
    on_ok_weaker c.put_array-3.result
    (λ e. chain3 c.args.out.now
    (array_text (codes "refused_submits") refused_submits_text v.refused_submits.now)
    (array_text (codes "refused_binds") refused_binds_text v.refused_binds.now)
    (array_text (codes "refused_deliveries") refused_deliveries_text v.refused_deliveries.now)
    c.in_ok-put_array.ensures c.in_ok-put_array-2.ensures e)
    c.put_array-3.ensures
