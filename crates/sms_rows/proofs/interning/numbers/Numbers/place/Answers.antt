use Rattle.std.proofs.Common.{List, ℕ, Bor, Option, ap, is_some, subst, sym, ◌∙◌}
use Rattle.sms_rows.specs.declared.interning.number.Number.{Number}
use Rattle.sms_rows.specs.interning.Interning.{InternedOf, IsAt}
use Rattle.sms_rows.proofs.interning.Places.{found_place, no_place}
use Rattle.sms_rows.proofs.interning.numbers.Numbers.place.Goals as goal

pub returns-in-Some-clause-some : goal.returns-in-Some-clause-some
returns-in-Some-clause-some c =
    subst (λ (v : InternedOf (List ℕ)). IsAt c.args.digits.now c.in-Some.place v.values) c.self.view_is
    (found_place (record { digits = c.args.digits.now }) c.self.inside.set.keys c.in-Some.place c.in-Some.field-0-1.now c.in-Some.ensures.stored (sym c.in-Some.ensures.key))

pub returns-in-None-clause-none : goal.returns-in-None-clause-none
returns-in-None-clause-none c = λ place.
    subst (λ (v : InternedOf (List ℕ)). ¬ IsAt c.args.digits.now place v.values) c.self.view_is
    (no_place (record { digits = c.args.digits.now }) c.self.inside.set.keys (sym c.get_full.ensures.found ∙ ap (λ (o : Option (ℕ × Bor Number)). is_some o) c.in-None.is) place)
