use Rattle.std.proofs.Common.{◌∙◌, ◌-◌, ℕ, Some, None, refl, sym, ap, subst, arith}
use Rattle.indexmap.specs.IndexMap.{spare}
use Rattle.sms_centre_messages.specs.references.Counts.{CountsOf, IsTaken, counted}
use Rattle.sms_centre_messages.proofs.references.Written.{no_zero, none_zero, set_to, some_written, taken_set}
use Rattle.sms_centre_messages.proofs.references.counts.Counts.take.Goals as goal

pub returns-then-count-le1-clause-taken : goal.returns-then-count-le1-clause-taken
returns-then-count-le1-clause-taken c =
    subst (λ (k : CountsOf). IsTaken c.args.key k (record { entries = c.swap_remove.new.self.entries; room = spare c.swap_remove.new.self })) c.self.view_is
    (taken_set c.args.key 0 (record { entries = c.self.inside.map.entries; room = spare c.self.inside.map }) (record { entries = c.swap_remove.new.self.entries; room = spare c.swap_remove.new.self })
    (let there = c.of-count.ensures ∙ ap (λ (k : CountsOf). counted c.args.key k) (sym c.self.view_is) in omega (arith, there, c.if-count-le1.true))
    (set_to c.args.key None 0 (record { entries = c.self.inside.map.entries; room = spare c.self.inside.map }) (record { entries = c.swap_remove.new.self.entries; room = spare c.swap_remove.new.self }) refl c.swap_remove.ensures.updates.0))

pub returns-clause-taken : goal.returns-clause-taken
returns-clause-taken c =
    subst (λ (k : CountsOf). IsTaken c.args.key k (record { entries = c.insert.new.self.entries; room = spare c.insert.new.self })) c.self.view_is
    (taken_set c.args.key (c.of-count.result - 1) (record { entries = c.self.inside.map.entries; room = spare c.self.inside.map }) (record { entries = c.insert.new.self.entries; room = spare c.insert.new.self })
    (ap (λ (n : ℕ). n - 1) (c.of-count.ensures ∙ ap (λ (k : CountsOf). counted c.args.key k) (sym c.self.view_is)))
    (set_to c.args.key (Some (c.of-count.result - 1)) (c.of-count.result - 1) (record { entries = c.self.inside.map.entries; room = spare c.self.inside.map }) (record { entries = c.insert.new.self.entries; room = spare c.insert.new.self }) refl c.in-Ok.ensures.updates.0))

pub invariant_of-self : goal.invariant_of-self
invariant_of-self c =
    some_written c.args.key None c.self.inside.map.entries c.swap_remove.new.self.entries (none_zero None refl) c.self.invariant c.swap_remove.ensures.updates.0

pub invariant_of-self-2 : goal.invariant_of-self-2
invariant_of-self-2 c =
    some_written c.args.key (Some (c.of-count.result - 1)) c.self.inside.map.entries c.insert.new.self.entries
    (no_zero (c.of-count.result - 1) (λ z. omega (arith, z, c.if-count-le1.false))) c.self.invariant c.in-Ok.ensures.updates.0
