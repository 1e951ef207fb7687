use Rattle.std.proofs.Common.{◌≡◌, List, ℕ, map, subst}
use Rattle.sms_rows.specs.interning.Interning.{InternedOf, Keeps}
use Rattle.sms_rows.specs.interning.Numbers.{digits_in}
use Rattle.sms_rows.proofs.interning.Places.{keeps_moved, same_moved}
use Rattle.sms_rows.proofs.interning.numbers.Numbers.use_reserve.Goals as goal

pub returns-in-Ok-clause-values : goal.returns-in-Ok-clause-values
returns-in-Ok-clause-values c =
    subst (λ (v : InternedOf (List ℕ)). Keeps v.values (map digits_in c.append.new.self.keys)) c.self.view_is
    (keeps_moved c.reserve.inside.set.keys c.self.inside.set.keys c.append.new.self.keys c.reserve.invariant c.len-len.ensures.unique c.in-Ok.ensures.keys)

pub returns-in-Ok-clause-same : goal.returns-in-Ok-clause-same
returns-in-Ok-clause-same c =
    subst (λ (v : InternedOf (List ℕ)). map digits_in c.append.new.self.keys ≡ v.values) c.self.view_is
    (same_moved c.reserve.inside.set.keys c.self.inside.set.keys c.append.new.self.keys c.reserve.invariant c.len-len.ensures.unique c.in-Ok.ensures.keys)
