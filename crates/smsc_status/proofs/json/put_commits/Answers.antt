use Rattle.std.proofs.lemmas.Result.{on_ok_weaker}
use Rattle.std.specs.Prelude.{get_or}
use Rattle.smsc_status.specs.Json.{commits_text, first_places, last_place, store_text}
use Rattle.smsc_status.proofs.Chains.{chain3}
use Rattle.smsc_status.proofs.json.put_commits.Goals as goal

pub returns : goal.returns
unfolding commits_text
returns c =
    let counts = c.args.commits.now.counts in
    on_ok_weaker c.put_last_place.result
    (λ e. chain3 c.args.out.now
    (store_text c.args.store.now c.args.commits.now c.args.median c.args.most) (first_places counts 13) (last_place (get_or counts 13 0))
    c.in_ok-put_store.ensures c.in_ok-put_places.ensures e)
    c.put_last_place.ensures
