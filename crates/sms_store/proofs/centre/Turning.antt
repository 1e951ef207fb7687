-- What changes of a list make of the store.
use Rattle.std.proofs.Common.{◌≡◌, List, [], ◌∷◌, refl}
use Rattle.sqlite.specs.State.{State}
use Rattle.sms_store_sql.specs.listing.Inside.{Alters}
use Rattle.sms_store_sql.specs.listing.Transaction.{Leads}
use Rattle.sms_store_tables.specs.centre.CentreSchema.{centre_schema}
use Rattle.sms_store_tables.specs.centre.BarList.{bar_list}
use Rattle.sms_store_tables.specs.centre.MetaList.{meta_list}
use Rattle.sms_store_tables.specs.centre.MessageList.{message_list}
use Rattle.sms_store_tables.specs.centre.PartList.{part_list}
use Rattle.sms_store_tables.specs.centre.ReferenceList.{reference_list}
use Rattle.sms_store_tables.specs.centre.HandsetList.{handset_list}
use Rattle.sms_store_tables.specs.centre.ReportList.{report_list}
use Rattle.sms_store_tables.specs.centre.PriorityList.{priority_list}
use Rattle.sms_store_migration.specs.Versions.{centre_meta}
use Rattle.sms_store.specs.keeping.Stores.{Turns}
use Rattle.sms_store.proofs.keeping.Lists.{other_list}
use Rattle.sms_store.specs.centre.CentreRows.{centre_stores}
use Rattle.sms_store.specs.centre.Types.{BarRow, MessageRow, PartRow, ReferenceRow, HandsetRow, ReportRow, PriorityRow}

pub messages_turn : (change : List MessageRow → List MessageRow) (old new : State) → Alters message_list change old new → Leads (Turns centre_stores (λ rows. record rows { messages = change rows.messages })) old new
messages_turn change old new alters = record {
  inside = alters.inside;
  changed = λ rows h. record {
    schema = alters.schema h.schema;
    meta = other_list message_list centre_schema refl change old new alters h.schema meta_list (centre_meta ∷ []) refl h.meta;
    messages = alters.changed h.schema rows.messages h.messages;
    parts = other_list message_list centre_schema refl change old new alters h.schema part_list rows.parts refl h.parts;
    references = other_list message_list centre_schema refl change old new alters h.schema reference_list rows.references refl h.references;
    handsets = other_list message_list centre_schema refl change old new alters h.schema handset_list rows.handsets refl h.handsets;
    reports = other_list message_list centre_schema refl change old new alters h.schema report_list rows.reports refl h.reports;
    priorities = other_list message_list centre_schema refl change old new alters h.schema priority_list rows.priorities refl h.priorities;
    bars = other_list message_list centre_schema refl change old new alters h.schema bar_list rows.bars refl h.bars;
  };
}

pub parts_turn : (change : List PartRow → List PartRow) (old new : State) → Alters part_list change old new → Leads (Turns centre_stores (λ rows. record rows { parts = change rows.parts })) old new
parts_turn change old new alters = record {
  inside = alters.inside;
  changed = λ rows h. record {
    schema = alters.schema h.schema;
    meta = other_list part_list centre_schema refl change old new alters h.schema meta_list (centre_meta ∷ []) refl h.meta;
    messages = other_list part_list centre_schema refl change old new alters h.schema message_list rows.messages refl h.messages;
    parts = alters.changed h.schema rows.parts h.parts;
    references = other_list part_list centre_schema refl change old new alters h.schema reference_list rows.references refl h.references;
    handsets = other_list part_list centre_schema refl change old new alters h.schema handset_list rows.handsets refl h.handsets;
    reports = other_list part_list centre_schema refl change old new alters h.schema report_list rows.reports refl h.reports;
    priorities = other_list part_list centre_schema refl change old new alters h.schema priority_list rows.priorities refl h.priorities;
    bars = other_list part_list centre_schema refl change old new alters h.schema bar_list rows.bars refl h.bars;
  };
}

pub references_turn : (change : List ReferenceRow → List ReferenceRow) (old new : State) → Alters reference_list change old new → Leads (Turns centre_stores (λ rows. record rows { references = change rows.references })) old new
references_turn change old new alters = record {
  inside = alters.inside;
  changed = λ rows h. record {
    schema = alters.schema h.schema;
    meta = other_list reference_list centre_schema refl change old new alters h.schema meta_list (centre_meta ∷ []) refl h.meta;
    messages = other_list reference_list centre_schema refl change old new alters h.schema message_list rows.messages refl h.messages;
    parts = other_list reference_list centre_schema refl change old new alters h.schema part_list rows.parts refl h.parts;
    references = alters.changed h.schema rows.references h.references;
    handsets = other_list reference_list centre_schema refl change old new alters h.schema handset_list rows.handsets refl h.handsets;
    reports = other_list reference_list centre_schema refl change old new alters h.schema report_list rows.reports refl h.reports;
    priorities = other_list reference_list centre_schema refl change old new alters h.schema priority_list rows.priorities refl h.priorities;
    bars = other_list reference_list centre_schema refl change old new alters h.schema bar_list rows.bars refl h.bars;
  };
}

pub handsets_turn : (change : List HandsetRow → List HandsetRow) (old new : State) → Alters handset_list change old new → Leads (Turns centre_stores (λ rows. record rows { handsets = change rows.handsets })) old new
handsets_turn change old new alters = record {
  inside = alters.inside;
  changed = λ rows h. record {
    schema = alters.schema h.schema;
    meta = other_list handset_list centre_schema refl change old new alters h.schema meta_list (centre_meta ∷ []) refl h.meta;
    messages = other_list handset_list centre_schema refl change old new alters h.schema message_list rows.messages refl h.messages;
    parts = other_list handset_list centre_schema refl change old new alters h.schema part_list rows.parts refl h.parts;
    references = other_list handset_list centre_schema refl change old new alters h.schema reference_list rows.references refl h.references;
    handsets = alters.changed h.schema rows.handsets h.handsets;
    reports = other_list handset_list centre_schema refl change old new alters h.schema report_list rows.reports refl h.reports;
    priorities = other_list handset_list centre_schema refl change old new alters h.schema priority_list rows.priorities refl h.priorities;
    bars = other_list handset_list centre_schema refl change old new alters h.schema bar_list rows.bars refl h.bars;
  };
}

pub reports_turn : (change : List ReportRow → List ReportRow) (old new : State) → Alters report_list change old new → Leads (Turns centre_stores (λ rows. record rows { reports = change rows.reports })) old new
reports_turn change old new alters = record {
  inside = alters.inside;
  changed = λ rows h. record {
    schema = alters.schema h.schema;
    meta = other_list report_list centre_schema refl change old new alters h.schema meta_list (centre_meta ∷ []) refl h.meta;
    messages = other_list report_list centre_schema refl change old new alters h.schema message_list rows.messages refl h.messages;
    parts = other_list report_list centre_schema refl change old new alters h.schema part_list rows.parts refl h.parts;
    references = other_list report_list centre_schema refl change old new alters h.schema reference_list rows.references refl h.references;
    handsets = other_list report_list centre_schema refl change old new alters h.schema handset_list rows.handsets refl h.handsets;
    reports = alters.changed h.schema rows.reports h.reports;
    priorities = other_list report_list centre_schema refl change old new alters h.schema priority_list rows.priorities refl h.priorities;
    bars = other_list report_list centre_schema refl change old new alters h.schema bar_list rows.bars refl h.bars;
  };
}

pub priorities_turn : (change : List PriorityRow → List PriorityRow) (old new : State) → Alters priority_list change old new → Leads (Turns centre_stores (λ rows. record rows { priorities = change rows.priorities })) old new
priorities_turn change old new alters = record {
  inside = alters.inside;
  changed = λ rows h. record {
    schema = alters.schema h.schema;
    meta = other_list priority_list centre_schema refl change old new alters h.schema meta_list (centre_meta ∷ []) refl h.meta;
    messages = other_list priority_list centre_schema refl change old new alters h.schema message_list rows.messages refl h.messages;
    parts = other_list priority_list centre_schema refl change old new alters h.schema part_list rows.parts refl h.parts;
    references = other_list priority_list centre_schema refl change old new alters h.schema reference_list rows.references refl h.references;
    handsets = other_list priority_list centre_schema refl change old new alters h.schema handset_list rows.handsets refl h.handsets;
    reports = other_list priority_list centre_schema refl change old new alters h.schema report_list rows.reports refl h.reports;
    priorities = alters.changed h.schema rows.priorities h.priorities;
    bars = other_list priority_list centre_schema refl change old new alters h.schema bar_list rows.bars refl h.bars;
  };
}

pub bars_turn : (change : List BarRow → List BarRow) (old new : State) → Alters bar_list change old new → Leads (Turns centre_stores (λ rows. record rows { bars = change rows.bars })) old new
bars_turn change old new alters = record {
  inside = alters.inside;
  changed = λ rows h. record {
    schema = alters.schema h.schema;
    meta = other_list bar_list centre_schema refl change old new alters h.schema meta_list (centre_meta ∷ []) refl h.meta;
    messages = other_list bar_list centre_schema refl change old new alters h.schema message_list rows.messages refl h.messages;
    parts = other_list bar_list centre_schema refl change old new alters h.schema part_list rows.parts refl h.parts;
    references = other_list bar_list centre_schema refl change old new alters h.schema reference_list rows.references refl h.references;
    handsets = other_list bar_list centre_schema refl change old new alters h.schema handset_list rows.handsets refl h.handsets;
    reports = other_list bar_list centre_schema refl change old new alters h.schema report_list rows.reports refl h.reports;
    priorities = other_list bar_list centre_schema refl change old new alters h.schema priority_list rows.priorities refl h.priorities;
    bars = alters.changed h.schema rows.bars h.bars;
  };
}
