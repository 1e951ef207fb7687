use Rattle.std.proofs.Common.{ℕ, List, length, sym, ◌∙◌, ap, subst, arith}
use Rattle.std.specs.Map.{lookup}
use Rattle.std.specs.Option.{unwrap_or}
use Rattle.sms_centre_messages.specs.declared.references.message_ends.MessageEnds.{MessageEnds}
use Rattle.sms_centre_messages.specs.references.Counts.{AreSome, CountsOf, counted}
use Rattle.sms_centre_messages.specs.references.Keys.{is_same}
use Rattle.sms_centre_messages.proofs.references.Adopted.{moved_all, same_entries, same_spare}
use Rattle.sms_centre_messages.proofs.references.counts.Counts.use_reserve.Goals as goal

pub returns-in-Ok-clause-counts : goal.returns-in-Ok-clause-counts
returns-in-Ok-clause-counts c = λ key.
    ap (λ (es : List (MessageEnds × ℕ)). unwrap_or (lookup (is_same key) es) 0)
    (same_entries c.put.new.place c.append.new.self c.put.ensures ∙ moved_all c.reserve.inside.map.entries c.self.inside.map.entries c.append.new.self.entries c.reserve.invariant c.len-len.ensures.unique c.in-Ok.ensures.entries)
    ∙ ap (λ (k : CountsOf). counted key k) c.self.view_is

pub returns-in-Ok-clause-room : goal.returns-in-Ok-clause-room
returns-in-Ok-clause-room c =
    let same = ap (λ (es : List (MessageEnds × ℕ)). length es) (same_entries c.put.new.place c.append.new.self c.put.ensures ∙ moved_all c.reserve.inside.map.entries c.self.inside.map.entries c.append.new.self.entries c.reserve.invariant c.len-len.ensures.unique c.in-Ok.ensures.entries) in
    let none = ap (λ (es : List (MessageEnds × ℕ)). length es) c.reserve.invariant in
    let entries = ap (λ (k : CountsOf). length k.entries) c.self.view_is in
    let room = ap (λ (k : CountsOf). k.room) c.self.view_is in
    let put_room = same_spare c.put.new.place c.append.new.self c.put.ensures in
    omega (arith, same, none, entries, room, put_room, c.capacity.ensures, c.capacity-2.ensures, c.if-capacity.true, c.in-Ok.ensures.room.0, c.reserve.view_is)

pub invariant_of-self : goal.invariant_of-self
invariant_of-self c =
    subst (λ (es : List (MessageEnds × ℕ)). AreSome es)
    (sym (same_entries c.put.new.place c.append.new.self c.put.ensures ∙ moved_all c.reserve.inside.map.entries c.self.inside.map.entries c.append.new.self.entries c.reserve.invariant c.len-len.ensures.unique c.in-Ok.ensures.entries))
    c.self.invariant
