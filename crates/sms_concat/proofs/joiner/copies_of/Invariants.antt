use Rattle.std.proofs.Common.{◌≡◌, ◌≤◌, take, vec_capacity}
use Rattle.sms_concat.proofs.joiner.copies_of.Given as goal

abbrev pub invariant-loop-part : goal.invariant-loop-part
invariant-loop-part l = record { same : l.copies.items ≡ take l.part-index l.parts; room : l.total ≤ vec_capacity l.copies }
