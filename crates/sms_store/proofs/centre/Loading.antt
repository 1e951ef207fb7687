-- What is found of the lists of a centre's store.
use Rattle.std.proofs.Common.{◌≡◌, List, sym, ◌∙◌}
use Rattle.sqlite.specs.Effect.{Database}
use Rattle.sms_store_sql.specs.listing.Lists.{FindsList, HoldsList}
use Rattle.sms_store.specs.keeping.Stores.{HasRows, IsStoreWith}
use Rattle.sms_store.specs.centre.CentreRows.{centre_stores}
use Rattle.sms_store_tables.specs.centre.BarList.{bar_list}
use Rattle.sms_store_tables.specs.centre.MessageList.{message_list}
use Rattle.sms_store_tables.specs.centre.PartList.{part_list}
use Rattle.sms_store_tables.specs.centre.ReferenceList.{reference_list}
use Rattle.sms_store_tables.specs.centre.HandsetList.{handset_list}
use Rattle.sms_store_tables.specs.centre.ReportList.{report_list}
use Rattle.sms_store_tables.specs.centre.PriorityList.{priority_list}
use Rattle.sms_store.specs.centre.Types.{Rows, Setup, BarRow, MessageRow, PartRow, ReferenceRow, HandsetRow, ReportRow, PriorityRow}

module _ (db : Database) where
  abbrev pub HoldsAll : Type 0
  HoldsAll =
      HoldsList message_list db × (HoldsList part_list db × (HoldsList reference_list db × (HoldsList handset_list db
      × (HoldsList report_list db × (HoldsList priority_list db × HoldsList bar_list db)))))

  pub holds_all : (setup : Setup) → HasRows centre_stores setup db → HoldsAll
  holds_all setup has =
      let is = has.1.0 in
      let rows = has.0 in (
        (rows.messages, is.messages),
        (
          (rows.parts, is.parts),
          (
            (rows.references, is.references),
            (
              (rows.handsets, is.handsets),
              ((rows.reports, is.reports), ((rows.priorities, is.priorities), (rows.bars, is.bars))),
            ),
          ),
        ),
      )

  -- the rows that are found are those of the store
  pub found_rows : (setup : Setup) (rows : Rows) → IsStoreWith centre_stores setup db rows
      → (ms : List MessageRow) (ps : List PartRow) (gs : List ReferenceRow) (hs : List HandsetRow) (rs : List ReportRow) (us : List PriorityRow) (vs : List BarRow)
      → FindsList message_list db ms × (FindsList part_list db ps × (FindsList reference_list db gs × (FindsList handset_list db hs
      × (FindsList report_list db rs × (FindsList priority_list db us × FindsList bar_list db vs)))))
      → (own : Setup) → own ≡ setup
      → (let made : Rows = record { messages = ms; parts = ps; references = gs; handsets = hs; reports = rs; priorities = us; bars = vs; setup = own } in made) ≡ rows
  found_rows setup rows is ms ps gs hs rs us vs found own own_is =
      let messages = found.0 rows.messages is.0.messages in
      let parts = found.1.0 rows.parts is.0.parts in
      let references = found.1.1.0 rows.references is.0.references in
      let handsets = found.1.1.1.0 rows.handsets is.0.handsets in
      let reports = found.1.1.1.1.0 rows.reports is.0.reports in
      let priorities = found.1.1.1.1.1.0 rows.priorities is.0.priorities in
      let bars = found.1.1.1.1.1.1 rows.bars is.0.bars in
      let set = own_is ∙ sym is.1 in
      λ i. record { messages = messages i; parts = parts i; references = references i; handsets = handsets i; reports = reports i; priorities = priorities i; bars = bars i; setup = set i }
