-- What changes of a list make of the store.
use Rattle.std.proofs.Common.{◌≡◌, List, [], ◌∷◌, refl}
use Rattle.sqlite.specs.State.{State}
use Rattle.sms_rows.specs.table.Table.{put}
use Rattle.sms_store_sql.specs.listing.Inside.{Alters}
use Rattle.sms_store_sql.specs.listing.Transaction.{Leads}
use Rattle.sms_store_tables.specs.handset.HandsetSchema.{handset_schema}
use Rattle.sms_store.specs.keeping.Stores.{Turns}
use Rattle.sms_store.proofs.keeping.Lists.{other_list}
use Rattle.sms_store.specs.handset.HandsetRows.{handset_stores, counters_row, handset_meta}
use Rattle.sms_store_tables.specs.handset.MetaList.{meta_list}
use Rattle.sms_store_tables.specs.handset.EntryList.{entry_list}
use Rattle.sms_store_tables.specs.handset.LastAcceptedList.{last_list}
use Rattle.sms_store_tables.specs.handset.OutEntryList.{out_list}
use Rattle.sms_store_tables.specs.handset.DiscardedGroupList.{mark_list}
use Rattle.sms_store.specs.handset.CountersList.{count_list}
use Rattle.sms_store.specs.handset.Types.{Entry, LastAccepted, OutEntry, DiscardedGroup, Counters}

pub entries_turn : (change : List Entry → List Entry) (old new : State) → Alters entry_list change old new → Leads (Turns handset_stores (λ rows. record rows { entries = change rows.entries })) old new
entries_turn change old new alters = record {
  inside = alters.inside;
  changed = λ rows h. record {
    schema = alters.schema h.schema;
    meta = other_list entry_list handset_schema refl change old new alters h.schema meta_list (handset_meta ∷ []) refl h.meta;
    entries = alters.changed h.schema rows.entries h.entries;
    last = other_list entry_list handset_schema refl change old new alters h.schema last_list rows.last refl h.last;
    outbox = other_list entry_list handset_schema refl change old new alters h.schema out_list rows.outbox refl h.outbox;
    marks = other_list entry_list handset_schema refl change old new alters h.schema mark_list rows.marks refl h.marks;
    counters = other_list entry_list handset_schema refl change old new alters h.schema count_list (counters_row rows.counters ∷ []) refl h.counters;
  };
}

pub last_turn : (change : List LastAccepted → List LastAccepted) (old new : State) → Alters last_list change old new → Leads (Turns handset_stores (λ rows. record rows { last = change rows.last })) old new
last_turn change old new alters = record {
  inside = alters.inside;
  changed = λ rows h. record {
    schema = alters.schema h.schema;
    meta = other_list last_list handset_schema refl change old new alters h.schema meta_list (handset_meta ∷ []) refl h.meta;
    entries = other_list last_list handset_schema refl change old new alters h.schema entry_list rows.entries refl h.entries;
    last = alters.changed h.schema rows.last h.last;
    outbox = other_list last_list handset_schema refl change old new alters h.schema out_list rows.outbox refl h.outbox;
    marks = other_list last_list handset_schema refl change old new alters h.schema mark_list rows.marks refl h.marks;
    counters = other_list last_list handset_schema refl change old new alters h.schema count_list (counters_row rows.counters ∷ []) refl h.counters;
  };
}

pub outbox_turn : (change : List OutEntry → List OutEntry) (old new : State) → Alters out_list change old new → Leads (Turns handset_stores (λ rows. record rows { outbox = change rows.outbox })) old new
outbox_turn change old new alters = record {
  inside = alters.inside;
  changed = λ rows h. record {
    schema = alters.schema h.schema;
    meta = other_list out_list handset_schema refl change old new alters h.schema meta_list (handset_meta ∷ []) refl h.meta;
    entries = other_list out_list handset_schema refl change old new alters h.schema entry_list rows.entries refl h.entries;
    last = other_list out_list handset_schema refl change old new alters h.schema last_list rows.last refl h.last;
    outbox = alters.changed h.schema rows.outbox h.outbox;
    marks = other_list out_list handset_schema refl change old new alters h.schema mark_list rows.marks refl h.marks;
    counters = other_list out_list handset_schema refl change old new alters h.schema count_list (counters_row rows.counters ∷ []) refl h.counters;
  };
}

pub marks_turn : (change : List DiscardedGroup → List DiscardedGroup) (old new : State) → Alters mark_list change old new → Leads (Turns handset_stores (λ rows. record rows { marks = change rows.marks })) old new
marks_turn change old new alters = record {
  inside = alters.inside;
  changed = λ rows h. record {
    schema = alters.schema h.schema;
    meta = other_list mark_list handset_schema refl change old new alters h.schema meta_list (handset_meta ∷ []) refl h.meta;
    entries = other_list mark_list handset_schema refl change old new alters h.schema entry_list rows.entries refl h.entries;
    last = other_list mark_list handset_schema refl change old new alters h.schema last_list rows.last refl h.last;
    outbox = other_list mark_list handset_schema refl change old new alters h.schema out_list rows.outbox refl h.outbox;
    marks = alters.changed h.schema rows.marks h.marks;
    counters = other_list mark_list handset_schema refl change old new alters h.schema count_list (counters_row rows.counters ∷ []) refl h.counters;
  };
}

pub counters_turn : (c : Counters) (old new : State) → Alters count_list (put count_list.key (counters_row c)) old new → Leads (Turns handset_stores (λ rows. record rows { counters = c })) old new
counters_turn c old new alters = record {
  inside = alters.inside;
  changed = λ rows h. record {
    schema = alters.schema h.schema;
    meta = other_list count_list handset_schema refl (put count_list.key (counters_row c)) old new alters h.schema meta_list (handset_meta ∷ []) refl h.meta;
    entries = other_list count_list handset_schema refl (put count_list.key (counters_row c)) old new alters h.schema entry_list rows.entries refl h.entries;
    last = other_list count_list handset_schema refl (put count_list.key (counters_row c)) old new alters h.schema last_list rows.last refl h.last;
    outbox = other_list count_list handset_schema refl (put count_list.key (counters_row c)) old new alters h.schema out_list rows.outbox refl h.outbox;
    marks = other_list count_list handset_schema refl (put count_list.key (counters_row c)) old new alters h.schema mark_list rows.marks refl h.marks;
    counters = alters.changed h.schema (counters_row rows.counters ∷ []) h.counters;
  };
}
