use Rattle.std.specs.Str.{chars}
use Rattle.sms_handset.proofs.GroupStages.{write_then}
use Rattle.sms_handset.proofs.JudgedTexts.{is_written}
use Rattle.sms_handset.proofs.handset.Handset.plan_write.Goals as goal

pub planned-requires-clause-groups : goal.planned-requires-clause-groups
planned-requires-clause-groups c =
    let text = chars c.args.text.now in
    let to = chars c.args.to.now in
    let core = c.args.self.now.core in
    (write_then text to c.args.report core c.in_ok-draft.draft c.write_and_follow.new.draft c.in_ok-draft.ensures
    (is_written text to c.args.report core c.in-Ok.destination c.in_ok-draft.draft c.write_and_follow.new.draft c.in-Ok.ensures c.in_ok-draft.ensures c.in-Ok-write_and_follow.ensures)).0

pub planned-requires-clause-rests : goal.planned-requires-clause-rests
planned-requires-clause-rests c =
    let text = chars c.args.text.now in
    let to = chars c.args.to.now in
    let core = c.args.self.now.core in
    (write_then text to c.args.report core c.in_ok-draft.draft c.write_and_follow.new.draft c.in_ok-draft.ensures
    (is_written text to c.args.report core c.in-Ok.destination c.in_ok-draft.draft c.write_and_follow.new.draft c.in-Ok.ensures c.in_ok-draft.ensures c.in-Ok-write_and_follow.ensures)).1
