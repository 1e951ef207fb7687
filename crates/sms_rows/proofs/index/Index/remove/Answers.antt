use Rattle.std.proofs.Common.{List, subst, sym}
use Rattle.sms_rows.specs.table.Table.{Rises}
use Rattle.sms_rows.proofs.table.Tables.{rises_without}
use Rattle.sms_rows.proofs.index.Index.remove.Goals as goal

pub invariant_of-self : goal.invariant_of-self
invariant_of-self g c =
    subst (λ (rows : List _). Rises g.T.Row.key rows) (sym (c.in_ok-self-inside.ensures c.self.invariant)) (rises_without g.T.Row.key c.args.key c.self.inside.tree.rows c.self.invariant)
