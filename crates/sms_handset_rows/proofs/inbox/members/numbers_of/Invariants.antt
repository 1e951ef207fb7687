use Rattle.std.proofs.Common.{◌≡◌, ◌++◌, drop}
use Rattle.sms_handset_rows.specs.inbox.StoredParts.{numbers_of}
use Rattle.sms_handset_rows.proofs.inbox.members.numbers_of.Given as goal

abbrev pub invariant-loop-part : goal.invariant-loop-part
invariant-loop-part l = l.numbers ++ numbers_of (drop l.part-index l.parts) ≡ numbers_of l.parts
