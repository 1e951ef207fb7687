use Rattle.std.proofs.Common.{◌≡◌, ◌<◌, ◌≤◌, Option, None, Some, arith, ap, get_or, length, subst, sym, ◌∙◌}
use Rattle.sms_rows.specs.table.Table.{Rises, row_at}
use Rattle.sms_rows.proofs.table.Places.{above_not, found_at, none_at, searched_at, searched_gap}
use Rattle.sms_rows.proofs.table.Table.find_beside.Goals as goal

pub returns-then-start-rows : goal.returns-then-start-rows
returns-then-start-rows g c =
    let key = g.T.Row.key in
    let xs = c.as_slice-rows.result.now in
    let all : xs ≡ c.args.self.now.rows = c.as_slice-rows.ensures.value ∙ ap (λ z. z.rows) c.self.view_is in
    let rises : Rises key xs = subst (λ l. Rises key l) (sym c.as_slice-rows.ensures.value) c.self.invariant in
    let gap = searched_gap key c.args.key c.start_in-start.result xs rises c.start_in-start.ensures.bound c.start_in-start.ensures.point (λ d l. absurd (omega arith)) in
    sym (none_at key c.args.key c.start_in-start.result xs gap) ∙ ap (λ l. row_at key c.args.key l) all

pub returns-then-number : goal.returns-then-number
returns-then-number g c =
    let key = g.T.Row.key in
    let xs = c.as_slice-rows.result.now in
    let start = c.start_in-start.result in
    let all : xs ≡ c.args.self.now.rows = c.as_slice-rows.ensures.value ∙ ap (λ z. z.rows) c.self.view_is in
    let rises : Rises key xs = subst (λ l. Rises key l) (sym c.as_slice-rows.ensures.value) c.self.invariant in
    let row = c.index-rows-start.result in
    let at = ap key c.index-rows-start.is in
    let above : c.args.key < key (get_or xs start row) = omega (arith, at, c.key.ensures, c.number.ensures, c.number-2.ensures, c.if-number.true) in
    let gap = searched_gap key c.args.key start xs rises c.start_in-start.ensures.bound c.start_in-start.ensures.point (λ d l e. above_not key c.args.key start xs row d l above e) in
    sym (none_at key c.args.key start xs gap) ∙ ap (λ l. row_at key c.args.key l) all

pub returns-else-number : goal.returns-else-number
returns-else-number g c =
    let key = g.T.Row.key in
    let xs = c.as_slice-rows.result.now in
    let start = c.start_in-start.result in
    let all : xs ≡ c.args.self.now.rows = c.as_slice-rows.ensures.value ∙ ap (λ z. z.rows) c.self.view_is in
    let row = c.index-rows-start.result in
    let at = ap key c.index-rows-start.is in
    let le : key (get_or xs start row) ≤ c.args.key = omega (arith, at, c.key.ensures, c.number.ensures, c.number-2.ensures, c.if-number.false) in
    let inside : start < length xs = omega arith in
    let last = c.index-rows-start-else-number.result in
    let here = searched_at key c.args.key start xs row inside c.start_in-start.ensures.point le in
    ap (λ x. Some x) c.index-rows-start-else-number.is ∙ sym (found_at key c.args.key start xs last here) ∙ ap (λ l. row_at key c.args.key l) all
