use Rattle.sms_handset_rows.proofs.inbox.FindingGroups.{no_part, takes_other, takes_part}
use Rattle.sms_handset_rows.proofs.inbox.open_groups.OpenGroups.take.Goals as goal

pub returns-in_ok-carry_out : goal.returns-in_ok-carry_out
returns-in_ok-carry_out c =
    takes_part c.args.entry.now c.in-Part.group c.in-Part.number c.in-Part.tpdu c.parts.result.now c.in_ok-change.change c.args.self.now
    c.carry_out.new.self c.in-Part.is c.parts.ensures.parts c.parts.ensures.unique c.in_ok-change.ensures c.in_ok-carry_out.ensures.done

pub returns-in_default : goal.returns-in_default
returns-in_default c = takes_other c.args.entry.now c.args.self.now (λ h. no_part h c.args.entry.now.message c.in_default.not-Part)
