-- A part that is taken out in the middle of an event, of those that are in memory.
use Rattle.std.specs.Prelude.{ℕ, [], ◌∷◌, ◌++◌}
use Rattle.sms_rows.specs.declared.table.change.Change.TheVariants.{Remove as RemoveRow}
use Rattle.sms_rows.specs.table.TableDraft.{changed}
use Rattle.sms_centre_rows.specs.messages.PartEntries.{PartsOf}
use Rattle.sms_centre_rows.specs.declared.waiting.revision.Revision.TheVariants.{Remove}

abbrev pub removing : ℕ → PartsOf → PartsOf
removing key p = record { entries = changed (RemoveRow key) p.entries; changes = p.changes ++ Remove key ∷ [] }
