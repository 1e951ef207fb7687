use Rattle.std.proofs.Common.{refl, sym, ◌∙◌, inl, inr}
use Rattle.smsc_loop.proofs.flowing.flow.Goals as goal

pub returns-in_default-clause-did : goal.returns-in_default-clause-did
returns-in_default-clause-did g c = c.send.ensures.did

pub returns-clause-did : goal.returns-clause-did
returns-clause-did g c = c.send.ensures.did

pub returns-clause-meant : goal.returns-clause-meant
returns-clause-meant g c = c.end_flowing.ensures.meant

pub returns-in_default-clause-meant : goal.returns-in_default-clause-meant
returns-in_default-clause-meant g c = (refl, inr (inl c.in_default.ensures.none))

pub returns-clause-ends : goal.returns-clause-ends
returns-clause-ends g c = inr c.end_flowing.ensures.ends

pub returns-in_default-clause-ends : goal.returns-in_default-clause-ends
returns-in_default-clause-ends g c = inl (c.in_default.ensures.none, refl)

pub returns-then-is_closed-clause-did : goal.returns-then-is_closed-clause-did
returns-then-is_closed-clause-did g c = c.send.ensures.did

pub returns-then-is_closed-clause-meant : goal.returns-then-is_closed-clause-meant
returns-then-is_closed-clause-meant g c = (refl, inr (inl (sym c.is_closed.ensures.closed ∙ c.if-is_closed.true)))

pub returns-then-is_closed-clause-ends : goal.returns-then-is_closed-clause-ends
returns-then-is_closed-clause-ends g c = inl (sym c.is_closed.ensures.closed ∙ c.if-is_closed.true, refl)
