use Rattle.std.proofs.Common.{◌≡◌, List, map, sym, ◌∙◌, ap, subst}
use Rattle.sms_rows.specs.declared.table.change.Change.{Change}
use Rattle.sms_rows.specs.table.Table.{AreRemovals, change_key, without_all}
use Rattle.sms_rows.proofs.table.Removals.{applied_removals}
use Rattle.sms_rows.proofs.table.Table.apply_all.Goals as goal

pub returns-then-are_removals : goal.returns-then-are_removals
returns-then-are_removals g c =
    let key = g.T.Row.key in
    let only = subst (λ (l : List (Change g.row.T.Denot)). AreRemovals l) c.as_slice.ensures.value (sym c.are_removals.ensures ∙ c.if-are_removals.true) in
    c.remove_all.ensures
    ∙ ap (λ l. record c.args.self.now { rows = without_all key (map (λ x. change_key key x) l) c.args.self.now.rows }) c.as_slice-then-are_removals.ensures.value
    ∙ ap (λ l. record c.args.self.now { rows = l }) (sym (applied_removals key c.args.changes.items c.args.self.now.rows only))
