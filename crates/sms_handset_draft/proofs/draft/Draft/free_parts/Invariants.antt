use Rattle.std.proofs.Common.{◌≡◌, drop}
use Rattle.sms_handset_draft.specs.Storing.{free_parts}
use Rattle.sms_handset_draft.proofs.draft.Draft.free_parts.Given as goal

abbrev pub invariant-loop-part : goal.invariant-loop-part
invariant-loop-part l = free_parts (drop l.part-index l.parts) l.entries.rows l.self ≡ free_parts l.parts l.entries.rows l.initial.self
