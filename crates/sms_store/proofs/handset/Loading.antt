-- What is found of the lists of a handset's store.
use Rattle.std.proofs.Common.{◌≡◌, List, [], ◌∷◌, Result, Ok, Err, IfErr, IsOk, true≢false, sym, ap, ◌∙◌}
use Rattle.sqlite.specs.Effect.{Database}
use Rattle.sms_store_sql.specs.listing.Lists.{FindsList, HoldsList}
use Rattle.sms_store.specs.keeping.Stores.{HasRows, IsStoreWith}
use Rattle.sms_store.specs.handset.HandsetRows.{handset_stores, counters_row}
use Rattle.sms_store_tables.specs.handset.EntryList.{entry_list}
use Rattle.sms_store_tables.specs.handset.LastAcceptedList.{last_list}
use Rattle.sms_store_tables.specs.handset.OutEntryList.{out_list}
use Rattle.sms_store_tables.specs.handset.DiscardedGroupList.{mark_list}
use Rattle.sms_store.specs.handset.CountersList.{count_list}
use Rattle.sms_store.specs.handset.Types.{Rows, Setup, Entry, LastAccepted, OutEntry, DiscardedGroup, Counters, CountersRow}

abbrev first_of : Counters → List CountersRow → Counters
first_of other [] = other
first_of other (c ∷ cs) = c.counters

module _ (db : Database) where
  abbrev pub HoldsAll : Type 0
  HoldsAll =
      HoldsList entry_list db × (HoldsList last_list db × (HoldsList out_list db × (HoldsList mark_list db × HoldsList count_list db)))

  pub holds_all : (setup : Setup) → HasRows handset_stores setup db → HoldsAll
  holds_all setup has =
      let is = has.1.0 in
      let rows = has.0 in
      ((rows.entries, is.entries), ((rows.last, is.last), ((rows.outbox, is.outbox), ((rows.marks, is.marks), (counters_row rows.counters ∷ [], is.counters)))))

  -- the counters are those of the one row
  pub found_counters : (setup : Setup) (rows : Rows) → IsStoreWith handset_stores setup db rows → (counted : List CountersRow) → FindsList count_list db counted
      → counted ≡ counters_row rows.counters ∷ []
  found_counters setup rows is counted found = found (counters_row rows.counters ∷ []) is.0.counters

  -- the rows that are found are those of the store
  pub found_rows : (setup : Setup) (rows : Rows) → IsStoreWith handset_stores setup db rows
      → (es : List Entry) (ls : List LastAccepted) (os : List OutEntry) (ms : List DiscardedGroup) (counted : List CountersRow)
      → FindsList entry_list db es × (FindsList last_list db ls × (FindsList out_list db os × (FindsList mark_list db ms × FindsList count_list db counted)))
      → (counters : Counters) → counted ≡ counters_row counters ∷ []
      → (let made : Rows = record { entries = es; last = ls; outbox = os; marks = ms; counters = counters; setup = setup } in made) ≡ rows
  found_rows setup rows is es ls os ms counted found counters one =
      let entries = found.0 rows.entries is.0.entries in
      let last = found.1.0 rows.last is.0.last in
      let outbox = found.1.1.0 rows.outbox is.0.outbox in
      let marks = found.1.1.1.0 rows.marks is.0.marks in
      let counters_are : counters ≡ rows.counters = ap (first_of counters) (sym one ∙ found_counters setup rows is counted found.1.1.1.1) in
      let set = sym is.1 in
      λ i. record { entries = entries i; last = last i; outbox = outbox i; marks = marks i; counters = counters_are i; setup = set i }

-- what is answered is not refused
pub never_refused : {X E : Type 0} (r : Result X E) (P : E → Type 0) → IsOk r → IfErr r P
never_refused (Ok x) P ok = tt
never_refused (Err e) P ok = absurd (true≢false (sym ok))
