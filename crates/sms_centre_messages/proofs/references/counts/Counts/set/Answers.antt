use Rattle.std.proofs.Common.{Some, None, refl, subst, arith}
use Rattle.indexmap.specs.IndexMap.{spare}
use Rattle.sms_centre_messages.specs.references.Counts.{CountsOf, IsSet}
use Rattle.sms_centre_messages.proofs.references.Written.{no_zero, none_zero, set_to, some_written}
use Rattle.sms_centre_messages.proofs.references.counts.Counts.set.Goals as goal

pub returns-then-count-eq0-clause-set : goal.returns-then-count-eq0-clause-set
returns-then-count-eq0-clause-set c =
    subst (λ (k : CountsOf). IsSet c.args.key c.args.count k (record { entries = c.swap_remove.new.self.entries; room = spare c.swap_remove.new.self })) c.self.view_is
    (set_to c.args.key None c.args.count (record { entries = c.self.inside.map.entries; room = spare c.self.inside.map }) (record { entries = c.swap_remove.new.self.entries; room = spare c.swap_remove.new.self })
    (omega (arith, c.if-count-eq0.true)) c.swap_remove.ensures.updates.0)

pub returns-clause-set : goal.returns-clause-set
returns-clause-set c =
    subst (λ (k : CountsOf). IsSet c.args.key c.args.count k (record { entries = c.insert.new.self.entries; room = spare c.insert.new.self })) c.self.view_is
    (set_to c.args.key (Some c.args.count) c.args.count (record { entries = c.self.inside.map.entries; room = spare c.self.inside.map }) (record { entries = c.insert.new.self.entries; room = spare c.insert.new.self })
    refl c.in_ok-insert.ensures.updates.0)

pub invariant_of-self : goal.invariant_of-self
invariant_of-self c =
    some_written c.args.key None c.self.inside.map.entries c.swap_remove.new.self.entries (none_zero None refl) c.self.invariant c.swap_remove.ensures.updates.0

pub invariant_of-self-2 : goal.invariant_of-self-2
invariant_of-self-2 c =
    some_written c.args.key (Some c.args.count) c.self.inside.map.entries c.insert.new.self.entries
    (no_zero c.args.count (λ z. omega (arith, z, c.if-count-eq0.false))) c.self.invariant c.in_ok-insert.ensures.updates.0
