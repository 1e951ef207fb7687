use Rattle.std.proofs.lemmas.Result.{on_ok_weaker}
use Rattle.smsc_status.specs.Json.{array_end, array_start, array_text, elements}
use Rattle.smsc_status.proofs.Chains.{chain3}
use Rattle.smsc_status.proofs.json.put_array.Goals as goal

pub returns : goal.returns
unfolding array_text
returns g c =
    on_ok_weaker c.end_array.result
    (λ e. chain3 c.args.out.now
    (array_start c.args.name.now) (elements g.T.Element.text c.args.list.now) array_end
    c.in_ok-begin_array.ensures c.in_ok-put_elements.ensures e)
    c.end_array.ensures
