use Rattle.std.proofs.Common.{◌≡◌, IfOk, subst}
use Rattle.sms_handset_rows.specs.declared.inbox.open_group.Regrouping.{Regrouping}
use Rattle.sms_handset_rows.proofs.inbox.PartsFound.{grows_as}
use Rattle.sms_handset_rows.proofs.inbox.open_groups.one_more.Goals as goal

pub returns-in-len1-up : goal.returns-in-len1-up
returns-in-len1-up c es q =
    subst (λ (r : Regrouping). IfOk c.grown.result (λ change. change ≡ r))
    (grows_as c.args.group.now c.args.parts.now es c.args.entry.now c.first_entry.result c.in-len1-up.len_at_least c.first_entry.ensures q)
    c.grown.ensures
