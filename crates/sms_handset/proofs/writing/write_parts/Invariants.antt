use Rattle.std.proofs.Common.{◌≡◌, ◌+◌, drop}
use Rattle.sms_handset.specs.OwnersActs.{write_parts}
use Rattle.sms_handset.proofs.writing.write_parts.Given as goal

abbrev pub invariant-loop-part : goal.invariant-loop-part
invariant-loop-part l = record {
  so_far : write_parts l.destination l.report l.is_long (drop l.part-index l.parts) l.draft ≡ write_parts l.destination l.report l.is_long l.parts l.initial.draft;
  numbers : l.draft.rows.counters.entry ≡ l.initial.draft.rows.counters.entry + l.part-index;
}
