use Rattle.std.proofs.Common.{rules}
use Rattle.std.proofs.lemmas.List.Sorted.{answers_always}
use Rattle.sms_store_sql.proofs.listing.Found.{sorted_is}
use Rattle.sms_store_sql.proofs.listing.loading.in_order.Goals as goal

pub returns-clause-sorted : goal.returns-clause-sorted
returns-clause-sorted g c xs same rises =
    let ordered = c.in_ok-sort_by_key.ensures.sorted g.T.Row.key (answers_always _ _ _ (λ f a r h called. search rules)) in
    sorted_is g.T.Row.key _ _ xs c.sort_by_key.ensures.permutation ordered same rises
