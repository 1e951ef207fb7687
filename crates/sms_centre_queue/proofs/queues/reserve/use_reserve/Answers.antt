use Rattle.std.proofs.Common.{◌≡◌, ◌+◌, ◌≤◌, nat_eq, length, max, sym, subst, ap, arith}
use Rattle.std.specs.Map.{lookup}
use Rattle.indexmap.specs.IndexMap.{index_map_len, spare}
use Rattle.sms_centre_queue.proofs.queues.MovedMaps.{moved_all}
use Rattle.sms_centre_queue.proofs.queues.reserve.use_reserve.Goals as goal

pub returns-in-Ok-clause-entries : goal.returns-in-Ok-clause-entries
returns-in-Ok-clause-entries g c n =
    subst (λ m. lookup (nat_eq n) m.entries ≡ lookup (nat_eq n) c.args.map.now.entries) (sym c.put.ensures)
    (ap (λ es. lookup (nat_eq n) es)
    (moved_all c.memory.inside.map.entries c.args.map.now.entries c.append.new.self.entries c.memory.invariant c.len-len.ensures.unique c.in-Ok.ensures.entries))

pub returns-in-Ok-clause-len : goal.returns-in-Ok-clause-len
returns-in-Ok-clause-len g c =
    subst (λ m. index_map_len m ≡ index_map_len c.args.map.now) (sym c.put.ensures)
    (ap (λ es. length es)
    (moved_all c.memory.inside.map.entries c.args.map.now.entries c.append.new.self.entries c.memory.invariant c.len-len.ensures.unique c.in-Ok.ensures.entries))

pub returns-in-Ok-clause-room : goal.returns-in-Ok-clause-room
returns-in-Ok-clause-room g c =
    let same =
    ap (λ es. length es)
    (moved_all c.memory.inside.map.entries c.args.map.now.entries c.append.new.self.entries c.memory.invariant c.len-len.ensures.unique c.in-Ok.ensures.entries) in
    let none = ap (λ es. length es) c.memory.invariant in
    subst (λ m. max (index_map_len c.args.map.now + spare c.args.map.now) c.args.memory ≤ index_map_len m + spare m) (sym c.put.ensures)
    (omega (arith, same, none, c.capacity.ensures, c.capacity-2.ensures, c.if-capacity.true, c.in-Ok.ensures.room.0, c.memory.view_is))
