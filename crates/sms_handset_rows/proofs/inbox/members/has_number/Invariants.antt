use Rattle.std.proofs.Common.{◌≡◌, drop}
use Rattle.sms_handset_rows.specs.inbox.Groups.{is_among}
use Rattle.sms_handset_rows.specs.inbox.StoredParts.{numbers_of}
use Rattle.sms_handset_rows.proofs.inbox.members.has_number.Given as goal

abbrev pub invariant-loop-part : goal.invariant-loop-part
invariant-loop-part l = is_among l.number (numbers_of (drop l.part-index l.parts)) ≡ is_among l.number (numbers_of l.parts)
