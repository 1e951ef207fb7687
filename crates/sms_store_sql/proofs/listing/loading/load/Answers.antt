use Rattle.std.proofs.Common.{[], rules, sym, subst, ◌∙◌, ap, map, IsPermutation}
use Rattle.std.proofs.lemmas.List.Sorted.{IsPermutation-sym}
use Rattle.sqlite.proofs.Callers.{IsPlain}
use Rattle.sqlite.specs.Listing.{understood}
use Rattle.sms_store_sql.proofs.listing.Steps.{if_ok}
use Rattle.sms_store_sql.proofs.listing.Found.{finds, shown_unchanged, rises_by}
use Rattle.sms_store_sql.proofs.listing.Refused.{of_memory_alone}
use Rattle.sms_store_sql.proofs.listing.Streaming.{reads_all}
use Rattle.sms_store_sql.proofs.listing.loading.load.Goals as goal

pub returns-clause-found : goal.returns-clause-found
returns-clause-found g c clean ours =
    let list = g.T.StoredRow.list in
    let is = g.met.T.StoredRow.is_list in
    let gathered = c.in_ok-gather.ensures.found clean ours in
    let plain = subst (λ s. IsPlain (understood s list.table.select)) (sym ours) is.selects_alone in
    let kept = shown_unchanged list.table.select [] _ _ _ plain gathered.shown in
    if_ok c.in_order.result (λ sorted h. (
      kept,
      λ xs held.
          let found = finds list is _ _ _ ours gathered.shown xs held in
          let read = gathered.read ∙ ap (map list.reads) found.1 ∙ reads_all list is found.0 found.3 in
          h xs (subst (λ items. IsPermutation items xs) (sym read) (IsPermutation-sym _ _ found.2)) (rises_by list.key g.T.Row.key g.met.T.StoredRow.one_key xs held.rises),
    )) c.in_order.ensures.sorted

pub returns-clause-back : goal.returns-clause-back
returns-clause-back g c clean ours xs held = of_memory_alone c.in_order.result c.in_order.ensures.only

pub returns-in_err-gather-clause-back : goal.returns-in_err-gather-clause-back
returns-in_err-gather-clause-back g c clean ours xs held =
    let none = c.in_err-gather.ensures.back clean ours xs held in
    search (rules, none)
