-- What comes of planning an event is what the definition plans with the store's answers.
use Rattle.std.proofs.Common.{◌≡◌, None, Result, Ok, Err, ◌∙◌, ap, ⊎_elim}
use Rattle.sms_rows.specs.keep.Refusing.{with_answer}
use Rattle.sms_rows.specs.declared.keep.refusals.Refusals.{Refusals}
use Rattle.sms_centre_spec.specs.declared.event.CentreEvent.{CentreEvent}
use Rattle.sms_centre_spec.specs.declared.plan_error.PlanError.{PlanError}
use Rattle.sms_centre_spec.specs.declared.plan_error.PlanError.TheVariants.{NoBody, NoMemory}
use Rattle.sms_centre_spec.specs.CentreEvent.{happened}
use Rattle.sms_centre_spec.specs.Draft.{Core}
use Rattle.sms_centre.specs.Planning.{PlanOf, PlansEvent}
use Rattle.sms_centre_events.specs.offering.Refusing.{SucceedsOrRefuses, NoneRefused, answers_but}
use Rattle.sms_centre_events.proofs.offering.Planned.{answered_is, refused_is}
use Rattle.sms_centre.specs.plans.EventOutcome.{IsOutcome}

none_then : (before refused : Refusals) → before.read ≡ None → NoneRefused before refused → refused.read ≡ None
none_then before refused none since = ⊎_elim (λ (e : refused ≡ with_answer before). ap (λ (r : Refusals). r.read) e) (λ (e : refused ≡ before). ap (λ (r : Refusals). r.read) e ∙ none) since

pub plans_event : (event : CentreEvent) (c : Core) (held closed : Type 0) (before refused : Refusals) (r : Result PlanOf PlanError)
    → SucceedsOrRefuses (λ p. IsOutcome (happened event c) p.plan) (happened event c).links.read held closed before refused r → before.read ≡ None → PlansEvent (answers_but refused.read) event c r
plans_event event c held closed before refused (Ok p) goes none = (answered_is (happened event c) refused.read (none_then before refused none goes.1.1), goes.0)
plans_event event c held closed before refused (Err NoBody) goes none = refused_is (happened event c) refused.read goes.0.0 goes.0.1.0 (ap (λ (r : Refusals). r.read) goes.0.1.1)
plans_event event c held closed before refused (Err NoMemory) goes none = answered_is (happened event c) refused.read (none_then before refused none goes.1)
