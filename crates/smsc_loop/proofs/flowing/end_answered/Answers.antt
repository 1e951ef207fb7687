use Rattle.std.proofs.Common.{refl, sym, ◌∙◌, inr}
use Rattle.smsc_loop.proofs.Flows.{over_ends, closed_ends, none_ends}
use Rattle.smsc_loop.proofs.flowing.end_answered.Goals as goal

pub returns-then-is_over-clause-ends : goal.returns-then-is_over-clause-ends
returns-then-is_over-clause-ends g c = over_ends _ _ (sym c.is_over.ensures.over ∙ c.if-is_over.true)

pub returns-then-is_over-clause-meant : goal.returns-then-is_over-clause-meant
returns-then-is_over-clause-meant g c = (refl, sym c.is_over.ensures.over ∙ c.if-is_over.true, c.requires)

pub returns-then-has_ended-clause-ends : goal.returns-then-has_ended-clause-ends
returns-then-has_ended-clause-ends g c = closed_ends _ _ (sym c.is_over.ensures.over ∙ c.if-is_over.false) (sym c.has_ended.ensures.ended ∙ c.if-has_ended.true)

pub returns-then-has_ended-clause-meant : goal.returns-then-has_ended-clause-meant
returns-then-has_ended-clause-meant g c = (refl, inr (inr ((sym c.has_ended.ensures.ended ∙ c.if-has_ended.true, c.has_ended.ensures.all c.if-has_ended.true), c.requires)))

pub returns-clause-ends : goal.returns-clause-ends
returns-clause-ends g c = none_ends _ _ (sym c.is_over.ensures.over ∙ c.if-is_over.false) (sym c.has_ended.ensures.ended ∙ c.if-has_ended.false)
