-- A plan: what an event changes, sends and answers, and all that a restart forgets as it will be. Adopting it puts it in. The
-- centre keeps no TPDU in memory. An event reads from the store those that it offers and did not make itself. Where the store
-- refuses to read one, nothing is planned.
use Rattle.std.specs.Prelude.{◌≡◌, ℕ, ◌&&◌, List, [], ◌∷◌, Bool, true, if◌then◌else◌, Option, Result, Ok, Err}
use Rattle.sms_centre_spec.specs.declared.answer.CentreAnswer.{CentreAnswer}
use Rattle.sms_centre_spec.specs.declared.event.CentreEvent.{CentreEvent}
use Rattle.sms_centre_spec.specs.declared.plan_error.PlanError.{PlanError}
use Rattle.sms_centre_spec.specs.declared.plan_error.PlanError.TheVariants.{NoBody, NoMemory}
use Rattle.sms_centre_spec.specs.declared.rows.Changes.{Changes}
use Rattle.sms_centre_rows.specs.declared.reports.delivery.Delivery.{Delivery}
use Rattle.sms_centre_rows.specs.reports.Receipts.{Session}
use Rattle.sms_centre_rows.specs.declared.waiting.handset_link.HandsetLink.{HandsetLink}
use Rattle.sms_centre_rows.specs.declared.waiting.handset_link.Sent.{Sent}
use Rattle.sms_centre_spec.specs.CentreEvent.{happened}
use Rattle.sms_centre_spec.specs.Draft.{Core, Draft, changes_in, rows_after}

pub record Outcome : Type 0 where
  pub changes : Changes
  pub frames : List Sent
  pub answer : Option CentreAnswer
  pub deliveries : List Delivery
  pub moment : ℕ
  pub links : List HandsetLink
  pub sessions : List Session

abbrev pub outcome_of : Draft → Outcome
outcome_of d = record {
  changes = changes_in d.store;
  frames = d.links.frames;
  answer = d.answer;
  deliveries = d.bindings.deliveries;
  moment = d.store.moment;
  links = d.links.all;
  sessions = d.bindings.sessions;
}

-- the centre with the outcome put in
abbrev pub adopted : Outcome → Core → Core
adopted o c = record { rows = rows_after o.changes c.rows; moment = o.moment; links = o.links; sessions = o.sessions }

-- ---- bodies

-- none of the reads is refused
abbrev pub all_answered : (ℕ → Bool) → List ℕ → Bool
all_answered answers [] = true
all_answered answers (key ∷ keys) = answers key && all_answered answers keys

abbrev pub planned : (ℕ → Bool) → Draft → Result Outcome PlanError
planned answers d = if all_answered answers d.links.read then Ok (outcome_of d) else Err NoBody

-- what the event leads to, with a store that answers these reads
abbrev pub plan_of : (ℕ → Bool) → CentreEvent → Core → Result Outcome PlanError
plan_of answers event c = planned answers (happened event c)

-- The plan is that of the event, or there was no memory for it.
abbrev pub Plans : Result Outcome PlanError → Result Outcome PlanError → Type 0
Plans (Ok outcome) wanted = wanted ≡ Ok outcome
Plans (Err NoBody) wanted = wanted ≡ Err NoBody
Plans (Err NoMemory) wanted = (outcome : Outcome) × (wanted ≡ Ok outcome)
