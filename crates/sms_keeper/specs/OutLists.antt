-- Outs as they are kept, as a list.
use Rattle.std.specs.Prelude.{List, [], ◌∷◌}
use Rattle.sms_keeper.specs.declared.outs.Out.{Out}
use Rattle.sms_keeper.specs.declared.outs.Held.{Held}
use Rattle.sms_keeper.specs.declared.outs.Held.TheVariants.{Nothing, One, Many}

abbrev pub outs_in : {O : Type 0} → Held O → List (Out O)
outs_in Nothing = []
outs_in (One out) = out ∷ []
outs_in (Many outs) = outs.items
