-- What a plan of the centre comes to in a step.
use Rattle.std.proofs.Common.{◌≡◌, inl, ⊎_elim, ℕ, List, Option, Result, Ok, Err, IfOk, ap, subst, sym, ◌∙◌}
use Rattle.sms_rows.specs.keep.KeepState.{KeepState}
use Rattle.sms_rows.specs.keep.StoreOutcome.{EndsWith}
use Rattle.sms_rows.specs.keep.Refusing.{with_answer}
use Rattle.sms_rows.specs.declared.keep.refusals.Refusals.{Refusals}
use Rattle.sms_centre_spec.specs.declared.plan_error.PlanError.{PlanError}
use Rattle.sms_centre_spec.specs.declared.plan_error.PlanError.TheVariants.{NoBody, NoMemory}
use Rattle.sms_centre_spec.specs.declared.rows.Changes.{Changes}
use Rattle.sms_centre_spec.specs.declared.rows.Rows.{Rows}
use Rattle.sms_centre_spec.specs.CentreEvent.{happened}
use Rattle.sms_centre_spec.specs.Draft.{Core, Draft, core_of, rows_after}
use Rattle.sms_centre_spec.specs.declared.event.CentreEvent.{CentreEvent}
use Rattle.sms_centre_spec.proofs.Resting.{happened_rests}
use Rattle.sms_centre.specs.declared.plans.event_outcome.EventOutcome.{EventOutcome}
use Rattle.sms_centre_spec.specs.SoundRows.{IsSound}
use Rattle.sms_centre_group.specs.Grouping.{grouped_body}
use Rattle.sms_centre_group.proofs.StoredBodies.{part_given, report_given}
use Rattle.sms_centre_spec.specs.bodies.Storing.{GivesBodies}
use Rattle.sms_centre_events.specs.offering.Refusing.{SucceedsOrRefuses, NoneRefused}
use Rattle.sms_centre.specs.plans.EventOutcome.{IsOutcome}
use Rattle.sms_centre.specs.Planning.{PlanOf}
use Rattle.sms_centre.specs.Stored.{StoresRows}
use Rattle.smsc_service.specs.Accounts.{bare}
use Rattle.smsc_service.specs.Stepping.{PlansStep, step_error_of}
use Rattle.smsc_service.proofs.AccountsCome.{bare_sound}

-- over a store that gives the TPDUs of sound rows, a group gives each TPDU that a centre asks for
pub stored : (body_of : Rows → ℕ → Option (List ℕ)) → GivesBodies body_of → (base : Rows) (held : Changes) (rows : Rows) → IsSound base → IsSound rows → bare rows ≡ rows_after held base
    → StoresRows (grouped_body body_of (base, held)) rows
stored body_of gives base held rows base_sound sound is =
    let after : IsSound (rows_after held base) = subst IsSound is (bare_sound rows sound) in
    let there : StoresRows (grouped_body body_of (base, held)) (bare rows) = subst (λ (r : Rows). StoresRows (grouped_body body_of (base, held)) r) (sym is)
    (record { parts = part_given body_of gives base held base_sound after; reports = report_given body_of gives base held base_sound after }) in
    record { parts = there.parts; reports = there.reports }

none_counted : (before after : Refusals) → NoneRefused before after → after.calls ≡ before.calls
none_counted before after none = ⊎_elim (λ (e : after ≡ with_answer before). ap (λ (r : Refusals). r.calls) e) (λ (e : after ≡ before). ap (λ (r : Refusals). r.calls) e) none

pub goes_on : (d : Draft) (keys : List ℕ) (held closed : Type 0) (before refused : Refusals) (p : PlanOf) → SucceedsOrRefuses (λ (x : PlanOf). IsOutcome d x.plan) keys held closed before refused (Ok p) → PlansStep held closed before refused d (Ok p)
goes_on d keys held closed before refused p goes = (goes.0, (goes.1.0, none_counted before refused goes.1.1))

pub goes_back : (d : Draft) (keys : List ℕ) (held closed : Type 0) (before refused : Refusals) (e : PlanError) → SucceedsOrRefuses (λ (x : PlanOf). IsOutcome d x.plan) keys held closed before refused (Err e) → PlansStep held closed before refused d (Err (step_error_of e))
goes_back d keys held closed before refused NoBody goes = (goes.1, ap (λ (r : Refusals). r.calls) goes.0.1.1)
goes_back d keys held closed before refused NoMemory goes = (goes.0, none_counted before refused goes.1)

-- the rows with the changes are those after the event
pub rows_then : (event : CentreEvent) (c : Core) (p : EventOutcome) → IsOutcome (happened event c) p → rows_after p.changes c.rows ≡ (core_of (happened event c)).rows
rows_then event c p k = ap (λ (x : Changes). rows_after x c.rows) k.changes ∙ happened_rests event c

-- the rows were read, and of them something was made, or not
pub made_of : {R A E : Type 0} (is_right : A → Type 0) (rows : R) (after : KeepState R) (r : Result A E) → IfOk r is_right → after.holds rows → EndsWith is_right rows rows after r
made_of is_right rows after (Ok x) is held = (is, held)
made_of is_right rows after (Err e) is held = inl held
