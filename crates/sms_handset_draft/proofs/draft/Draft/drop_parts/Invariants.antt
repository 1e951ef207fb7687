use Rattle.std.proofs.Common.{◌≡◌, drop}
use Rattle.sms_handset_draft.specs.Storing.{drop_parts}
use Rattle.sms_handset_draft.proofs.draft.Draft.drop_parts.Given as goal

abbrev pub invariant-loop-part : goal.invariant-loop-part
invariant-loop-part l = drop_parts (drop l.part-index l.parts) l.self ≡ drop_parts l.parts l.initial.self
