use Rattle.std.proofs.Common.{◌≡◌, drop}
use Rattle.sms_handset_rows.specs.inbox.StoredParts.{entry_with}
use Rattle.sms_handset_rows.proofs.inbox.members.entry_with.Given as goal

abbrev pub invariant-loop-part : goal.invariant-loop-part
invariant-loop-part l = entry_with l.number (drop l.part-index l.parts) ≡ entry_with l.number l.parts
