use Rattle.std.proofs.Common.{arith, ◌≡◌, ◌+◌, ◌∷◌, [], refl, sym, ◌∙◌, ap, drop, map, length}
use Rattle.std.proofs.lemmas.List.{drop_all, drop_more}
use Rattle.sms_rows.specs.table.Table.{without, without_all}
use Rattle.sms_rows.proofs.table.rolling.RollingTable.remove_each.Goals as goal

pub loop-other-preserved : goal.loop-other-preserved
loop-other-preserved g c =
    let key = g.T.Row.key in
    let other = g.C.Row.key in
    let others = c.args.others.now in
    let i = c.loop-other.other-index in
    let rest = drop (i + 1) others in
    let next : drop i others ≡ c.other-item.result ∷ rest = drop_more others i c.other-item.result c.loop-other-test.true ∙ ap (λ x. x ∷ rest) (sym c.other-item.is) in
    record {
      capacity = ap (λ t. t.capacity) c.remove.ensures.rows ∙ c.loop-other.invariant.capacity;
      rows = ap (λ t. without_all key (map other rest) t.rows) c.remove.ensures.rows
          ∙ ap (λ k. without_all key (map other rest) (without key k c.loop-other.self.rows)) c.key.ensures
          ∙ sym (ap (λ l. without_all key (map other l) c.loop-other.self.rows) next)
          ∙ c.loop-other.invariant.rows;
    }

pub returns : goal.returns
returns g c =
    let key = g.T.Row.key in
    let other = g.C.Row.key in
    let done : drop c.loop-other.other-index c.args.others.now ≡ [] = drop_all c.loop-other.other-index c.args.others.now (omega (arith, c.loop-other-test.false)) in
    let left = ap (λ l. without_all key (map other l) c.loop-other.self.rows) (sym done) ∙ c.loop-other.invariant.rows in
    let size = c.loop-other.invariant.capacity in
    rw (left, size) refl
