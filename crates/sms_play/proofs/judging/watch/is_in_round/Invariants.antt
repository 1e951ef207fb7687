use Rattle.std.proofs.Common.{◌≡◌, drop}
use Rattle.sms_world_model.specs.Groups.{is_among}
use Rattle.sms_play.specs.judging.Watching.{member_numbers}
use Rattle.sms_play.proofs.judging.watch.is_in_round.Given as goal

abbrev pub invariant-loop-member : goal.invariant-loop-member
invariant-loop-member l = is_among l.number (member_numbers (drop l.member-index l.round)) ≡ is_among l.number (member_numbers l.round)
