use Rattle.std.proofs.Common.{rules, map, refl, sym, ◌∙◌, ap, subst}
use Rattle.std.specs.Prelude.{not}
use Rattle.std.proofs.lemmas.Fn.{filter_same}
use Rattle.sms_rows.specs.table.Table.{Rises, is_there, without_all}
use Rattle.sms_rows.proofs.table.Removals.{passed, rises_without_all}
use Rattle.sms_rows.proofs.table.rolling.RollingTable.retain_others.Goals as goal

pub invariant_of-self : goal.invariant_of-self
invariant_of-self g c =
    let within = c.range_of-range.ensures in
    let kept = filter_same _ (λ x. not (is_there g.C.Row.key (g.T.Row.key x) c.args.others.now)) _ (λ x b f' k. search (rules, within)) _ _ c.retain.ensures.filtered in
    let same = kept ∙ passed g.T.Row.key g.C.Row.key c.args.others.now c.self.inside.items.items in
    subst (λ l. Rises g.T.Row.key l) (sym same) (rises_without_all g.T.Row.key (map g.C.Row.key c.args.others.now) c.self.inside.items.items c.self.invariant)

pub returns : goal.returns
returns g c =
    let rows = ap (λ k. k.rows) c.self.view_is in
    let within = c.range_of-range.ensures in
    let kept = filter_same _ (λ x. not (is_there g.C.Row.key (g.T.Row.key x) c.args.others.now)) _ (λ x b f' k. search (rules, within)) _ _ c.retain.ensures.filtered in
    let left = kept ∙ passed g.T.Row.key g.C.Row.key c.args.others.now c.self.inside.items.items ∙ ap (λ l. without_all g.T.Row.key (map g.C.Row.key c.args.others.now) l) rows in
    let size = c.retain.ensures.capacity ∙ ap (λ k. k.capacity) c.self.view_is in
    rw (left, size) refl
