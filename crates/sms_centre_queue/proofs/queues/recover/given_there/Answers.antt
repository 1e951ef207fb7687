use Rattle.std.proofs.Common.{sym, ◌∙◌, subst}
use Rattle.sms_rows.specs.table.Table.{Rises}
use Rattle.sms_centre_rows.specs.waiting.Keys.{reference_key}
use Rattle.sms_centre_queue.proofs.queues.Between.{rises_between}
use Rattle.sms_centre_queue.proofs.queues.recover.given_there.Goals as goal

pub from_vec-requires : goal.from_vec-requires
from_vec-requires c =
    subst (λ rows. Rises reference_key rows) (sym (c.in_ok-rows.ensures.items ∙ c.rows_between-rows.ensures))
    (rises_between reference_key c.pair.result c.pair-2.result c.args.references.now.rows c.as_slice-all.ensures.order)
