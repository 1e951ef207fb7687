use Rattle.std.proofs.Common.{ℕ, List, nat_eq, length, ◌∙◌, ap, arith}
use Rattle.std.specs.Map.{lookup}
use Rattle.sms_handset_rows.specs.declared.inbox.open_group.OpenGroup.{OpenGroup}
use Rattle.sms_handset_rows.specs.inbox.OpenIndex.{OpenIndex, under}
use Rattle.sms_handset_rows.proofs.inbox.FindingGroups.{moved_all}
use Rattle.sms_handset_rows.proofs.inbox.open_groups.OpenGroups.use_reserve.Goals as goal

pub returns-in-Ok-clause-groups : goal.returns-in-Ok-clause-groups
returns-in-Ok-clause-groups c n =
    ap (λ (es : List (ℕ × OpenGroup)). lookup (nat_eq n) es)
    (moved_all c.reserve.inside.map.entries c.self.inside.by_first_part.entries c.append.new.self.entries c.reserve.invariant c.len-len.ensures.unique c.in-Ok.ensures.entries)
    ∙ ap (λ (i : OpenIndex). under i n) c.self.view_is

pub returns-in-Ok-clause-taken : goal.returns-in-Ok-clause-taken
returns-in-Ok-clause-taken c =
    ap (λ (es : List (ℕ × OpenGroup)). length es)
    (moved_all c.reserve.inside.map.entries c.self.inside.by_first_part.entries c.append.new.self.entries c.reserve.invariant c.len-len.ensures.unique c.in-Ok.ensures.entries)
    ∙ ap (λ (i : OpenIndex). length i.groups) c.self.view_is

pub returns-in-Ok-clause-room : goal.returns-in-Ok-clause-room
returns-in-Ok-clause-room c =
    let same =
    ap (λ (es : List (ℕ × OpenGroup)). length es)
    (moved_all c.reserve.inside.map.entries c.self.inside.by_first_part.entries c.append.new.self.entries c.reserve.invariant c.len-len.ensures.unique c.in-Ok.ensures.entries) in
    let room = ap (λ (i : OpenIndex). i.capacity) c.self.view_is in
    let none = ap (λ (es : List (ℕ × OpenGroup)). length es) c.reserve.invariant in
    omega (arith, same, room, none, c.capacity.ensures, c.capacity-2.ensures, c.if-capacity.true, c.in-Ok.ensures.room.0, c.reserve.view_is)
