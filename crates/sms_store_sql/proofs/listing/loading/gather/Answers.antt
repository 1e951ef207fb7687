use Rattle.std.proofs.Common.{◌≡◌, ◌++◌, [], ◌∷◌, List, inl, refl, rules, arith, sym, subst, ap, ap₂, ◌∙◌}
use Rattle.sqlite.specs.Effect.{Database}
use Rattle.sqlite.specs.Held.{state}
use Rattle.sqlite.specs.Listing.{understood}
use Rattle.sqlite.specs.State.{CommitsShowing, FailsToQuery, HasCleanDisk, IsUnchanged, Survives}
use Rattle.sqlite.proofs.Callers.{IsPlain, given_begin, unchanged_then}
use Rattle.sms_store_sql.specs.listing.Inside.{Gathers, SparesOwn}
use Rattle.sms_store_sql.proofs.listing.Found.{fails_quietly}
use Rattle.sms_store_sql.proofs.listing.Refused.{of_memory, of_query}
use Rattle.sms_store_sql.proofs.listing.Streaming.{read_more, row_given, shown_since, spares_all, spares_own, spares_then, stays_if}
use Rattle.sms_store_sql.proofs.listing.loading.gather.Goals as goal

pub returns-in_err-rows-clause-back : goal.returns-in_err-rows-clause-back
returns-in_err-rows-clause-back g c clean ours xs held =
    let list = g.T.StoredRow.list in
    let refused = c.query.follows.holds-at-none in
    let fails : FailsToQuery list.table.select [] (state g.S.Store c.args.conn.now) (state g.S.Store c.query.follows.lender-at-none) c.in_err-rows.field-0.0 = search rules in
    let plain = subst (λ s. IsPlain (understood s list.table.select)) (sym ours) g.met.T.StoredRow.is_list.selects_alone in
    let none = of_query list.table.select [] _ _ _ plain (inl fails) in
    search (rules, none)

pub returns-in_err-rows-clause-stays : goal.returns-in_err-rows-clause-stays
returns-in_err-rows-clause-stays g c clean ours =
    let list = g.T.StoredRow.list in
    let refused = c.query.follows.holds-at-none in
    let fails : FailsToQuery list.table.select [] (state g.S.Store c.args.conn.now) (state g.S.Store c.query.follows.lender-at-none) c.in_err-rows.field-0.0 = search rules in
    stays_if _ _ (fails_quietly list.table.select [] _ _ _ fails)

pub returns-in_err-rows-clause-survives : goal.returns-in_err-rows-clause-survives
returns-in_err-rows-clause-survives g c =
    let list = g.T.StoredRow.list in
    let old = state g.S.Store c.args.conn.now in
    let new = state g.S.Store c.query.follows.lender-at-none in
    let refused = c.query.follows.holds-at-none in
    let kept : Survives old new (CommitsShowing list.table.select [] old) = search rules in
    spares_own list.table.select list.table.schema old new g.met.T.StoredRow.is_list.selects_alone kept

pub returns-in_err-row-clause-back : goal.returns-in_err-row-clause-back
returns-in_err-row-clause-back g c clean ours xs held =
    let list = g.T.StoredRow.list in
    let moved = c.next.follows.holds-at-none in
    let now = c.next.follows.lender-at-none.conn.now in
    let late : HasCleanDisk (state g.S.Store now) = search rules in
    let was = c.rows.invariant.3 (omega (arith, moved.survives.clean)) ours in
    let plain = subst (λ s. IsPlain (understood s list.table.select)) (sym (ap (λ (db : Database). db.schema) was.2.0.now_is ∙ ours)) g.met.T.StoredRow.is_list.selects_alone in
    let fails = (rw c.in_err-row.was at (moved.err late)) list.table.select [] was.0 was.1 in
    let none = of_query list.table.select [] _ _ _ plain (inl fails) in
    search (rules, none)

pub returns-in_err-row-clause-survives : goal.returns-in_err-row-clause-survives
returns-in_err-row-clause-survives g c =
    let list = g.T.StoredRow.list in
    let made : SparesOwn list.table.schema (state g.S.Store c.args.conn.now) (state g.S.Store c.next.follows.lender-at-none.conn.now) = spares_then list.table.schema _ _ _
    (λ clean ours. ap (λ (db : Database). db.schema) (c.rows.invariant.3 clean ours).2.0.now_is ∙ ours) c.rows.invariant.1 (spares_all _ _ _ c.next.follows.holds-at-none.survives) in
    search (rules, made)

pub returns-in_default-clause-found : goal.returns-in_default-clause-found
returns-in_default-clause-found g c clean ours =
    let list = g.T.StoredRow.list in
    let moved = c.next.follows.holds-at-none in
    let now = c.next.follows.lender-at-none.conn.now in
    let late : HasCleanDisk (state g.S.Store now) = search rules in
    let was = c.rows.invariant.3 (omega (arith, moved.survives.clean)) ours in
    let plain = subst (λ s. IsPlain (understood s list.table.select)) (sym (ap (λ (db : Database). db.schema) was.2.0.now_is ∙ ours)) g.met.T.StoredRow.is_list.selects_alone in
    let shown = (rw (c.in_ok-row.was, c.in_default.is) at (moved.ok late)) list.table.select [] was.0 was.1 in
    let made : Gathers list (state g.S.Store c.args.conn.now) (state g.S.Store now) c.rows.found.items = record {
      rows = was.0;
      shown = shown_since list.table.select [] _ _ _ was.0 plain was.2 shown;
      read = was.3;
    } in
    search (rules, made)

pub returns-in_default-clause-survives : goal.returns-in_default-clause-survives
returns-in_default-clause-survives g c =
    let list = g.T.StoredRow.list in
    let made : SparesOwn list.table.schema (state g.S.Store c.args.conn.now) (state g.S.Store c.next.follows.lender-at-none.conn.now) = spares_then list.table.schema _ _ _
    (λ clean ours. ap (λ (db : Database). db.schema) (c.rows.invariant.3 clean ours).2.0.now_is ∙ ours) c.rows.invariant.1 (spares_all _ _ _ c.next.follows.holds-at-none.survives) in
    search (rules, made)

pub returns-in_err-read-clause-back : goal.returns-in_err-read-clause-back
returns-in_err-read-clause-back g c clean ours xs held =
    let list = g.T.StoredRow.list in
    let is = g.met.T.StoredRow.is_list in
    let moved = c.next.follows.holds-at-none in
    let now = c.next.follows.lender-at-none.conn.now in
    let late : HasCleanDisk (state g.S.Store now) = search rules in
    let was = c.rows.invariant.3 (omega (arith, moved.survives.clean)) ours in
    let more = (rw (c.in_ok-row.was, c.in-Some.is) at (moved.ok late)) list.table.select [] was.0 was.1 in
    let same = unchanged_then _ _ _ was.2 (rw c.in_ok-row.was at (moved.same late)) in
    let here = row_given list is (state g.S.Store c.args.conn.now) (state g.S.Store now) was.0 c.in-Some.row.now ours same (given_begin g.S.Store list.table.select [] now _ more) xs held in
    let none = of_memory _ (c.in_err-read.ensures.back here.0 here.1 here.2) in
    search (rules, none)

pub returns-in_err-read-clause-survives : goal.returns-in_err-read-clause-survives
returns-in_err-read-clause-survives g c =
    let list = g.T.StoredRow.list in
    let made : SparesOwn list.table.schema (state g.S.Store c.args.conn.now) (state g.S.Store c.next.follows.lender-at-none.conn.now) = spares_then list.table.schema _ _ _
    (λ clean ours. ap (λ (db : Database). db.schema) (c.rows.invariant.3 clean ours).2.0.now_is ∙ ours) c.rows.invariant.1 (spares_all _ _ _ c.next.follows.holds-at-none.survives) in
    search (rules, made)

pub returns-in_err-push-clause-survives : goal.returns-in_err-push-clause-survives
returns-in_err-push-clause-survives g c =
    let list = g.T.StoredRow.list in
    let made : SparesOwn list.table.schema (state g.S.Store c.args.conn.now) (state g.S.Store c.next.follows.lender-at-none.conn.now) = spares_then list.table.schema _ _ _
    (λ clean ours. ap (λ (db : Database). db.schema) (c.rows.invariant.3 clean ours).2.0.now_is ∙ ours) c.rows.invariant.1 (spares_all _ _ _ c.next.follows.holds-at-none.survives) in
    search (rules, made)

pub rows-preserved : goal.rows-preserved
rows-preserved g c =
    let list = g.T.StoredRow.list in
    let moved = c.next.follows.holds-at-none in
    let inv = c.rows.invariant in (
      moved.same_reference ∙ inv.0,
      spares_then list.table.schema _ _ _ (λ clean ours. ap (λ (db : Database). db.schema) (inv.3 clean ours).2.0.now_is ∙ ours) inv.1 (spares_all _ _ _ moved.survives),
      λ outside. moved.mode (inv.2 outside),
      λ clean ours.
          let was = inv.3 (omega (arith, clean, moved.survives.clean)) ours in
          let more = (rw (c.in_ok-row.was, c.in-Some.is) at (moved.ok clean)) list.table.select [] was.0 was.1 in
          let same = unchanged_then _ _ _ was.2 (rw c.in_ok-row.was at (moved.same clean)) in
          (was.0 ++ c.in-Some.row.now ∷ [], more, same, c.in_ok-push.ensures.items ∙ ap₂ (λ a b. a ++ b ∷ []) was.3 c.in_ok-read.ensures.found ∙ read_more list.reads was.0 c.in-Some.row.now),
    )
