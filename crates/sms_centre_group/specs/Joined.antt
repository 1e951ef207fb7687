-- The changes of events, one after another.
use Rattle.std.specs.Prelude.{◌++◌}
use Rattle.sms_centre_spec.specs.declared.rows.Changes.{Changes}

-- those of one event, and then those of another: of each list of rows in order
abbrev pub joined : Changes → Changes → Changes
joined first second = record {
  messages = first.messages ++ second.messages;
  parts = first.parts ++ second.parts;
  references = first.references ++ second.references;
  handsets = first.handsets ++ second.handsets;
  reports = first.reports ++ second.reports;
  priorities = first.priorities ++ second.priorities;
  bars = first.bars ++ second.bars;
}
