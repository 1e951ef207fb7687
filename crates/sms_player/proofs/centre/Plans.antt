-- What a plan of the centre leads to, once it is committed and put in.
use Rattle.std.proofs.Common.{◌≡◌, ℕ, ◌≤◌, List, ◌++◌, length, Result, Ok, Err, sym, ◌∙◌, ap, subst, append_assoc, ⊎_elim}
use Rattle.std.specs.Prelude.{◌⊎◌, IfOk, OnOk}
use Rattle.sms_rows.specs.declared.keep.refusals.Refusals.{Refusals}
use Rattle.sms_centre_spec.specs.CentreEvent.{recovered, started}
use Rattle.sms_centre_spec.specs.Draft.{Core, Draft, changes_in, core_of, messages_in, rows_after}
use Rattle.sms_centre_spec.specs.Planning.{adopted, outcome_of}
use Rattle.sms_centre_spec.specs.declared.plan_error.PlanError.{PlanError}
use Rattle.sms_centre_spec.specs.declared.plan_error.PlanError.TheVariants.{NoBody, NoMemory}
use Rattle.sms_centre_spec.specs.declared.rows.Changes.{Changes}
use Rattle.sms_centre_spec.specs.declared.rows.Rows.{Rows}
use Rattle.sms_centre_rows.specs.declared.messages.message.MessageRow.{MessageRow}
use Rattle.sms_centre_events.specs.offering.Refusing.{SucceedsOrRefuses}
use Rattle.sms_centre.specs.plans.EventOutcome.{IsOutcome}
use Rattle.sms_centre.specs.state.CentreState.{Represents as StateRepresents, CentreStateOf}
use Rattle.sms_centre.specs.declared.plans.event_outcome.EventOutcome.{EventOutcome}
use Rattle.sms_centre.specs.Planning.{PlanOf}
use Rattle.sms_play.specs.CentreSide.{given_by, parts_given, reports_given}
use Rattle.sms_play.specs.PlayedEvent.{sessions_from}
use Rattle.sms_player.specs.centre.PlayedCentre.{Represents as PlayedRepresents}
use Rattle.sms_script.specs.declared.report.rows.GivenRow.{GivenRow}
use Rattle.sms_centre_rows.specs.reports.Receipts.{Session}

-- ---- the plan

only_held : (held : Type 0) → held ⊎ ⊥ → held
only_held held h = ⊎_elim (λ (p : held). p) (λ (n : ⊥). absurd n) h

pub preserved_after : (d : Draft) (keys : List ℕ) (held : Type 0) (before refused : Refusals) (e : PlanError) → SucceedsOrRefuses {A = PlanOf} (λ (p : PlanOf). IsOutcome d p.plan) keys held ⊥ before refused (Err e) → held
preserved_after d keys held before refused NoBody g = only_held held g.1
preserved_after d keys held before refused NoMemory g = g.0

-- ---- what it leads to

module _ (d : Draft) (c : Core) (p : EventOutcome) (law : adopted (outcome_of d) c ≡ core_of d) (is : IsOutcome d p) where
  pub rows_become : (rows after : Rows) → rows ≡ c.rows → after ≡ rows_after p.changes rows → after ≡ (core_of d).rows
  rows_become rows after same made =
      made
      ∙ ap (λ (x : Changes). rows_after x rows) is.changes
      ∙ ap (λ (x : Rows). rows_after (changes_in d.store) x) same
      ∙ ap (λ (x : Core). x.rows) law

  pub played_next : (s t : CentreStateOf) (rows after : Rows) → PlayedRepresents c s rows → StateRepresents (core_of d) t → after ≡ rows_after p.changes rows → PlayedRepresents (core_of d) t after
  played_next s t rows after played centre_state made = record {
    centre = centre_state;
    same_rows = rows_become rows after played.same_rows made;
    accounts = subst (λ (x : Core). length x.rows.setup.accounts ≤ 32) law played.accounts;
  }

  pub given_next : (rows after : Rows) → rows ≡ c.rows → after ≡ rows_after p.changes rows → (given now : List GivenRow)
      → now ≡ (given ++ parts_given p.next_state.moment after.messages p.changes.parts) ++ reports_given p.next_state.moment after.messages p.changes.reports → now ≡ given ++ given_by d
  given_next rows after same made given now outputs =
      let messages : after.messages ≡ messages_in d.store = ap (λ (x : Rows). x.messages) (rows_become rows after same made) in
      outputs
      ∙ ap (λ (x : Changes). (given ++ parts_given p.next_state.moment after.messages x.parts) ++ reports_given p.next_state.moment after.messages x.reports) is.changes
      ∙ ap (λ (m : ℕ). (given ++ parts_given m after.messages (changes_in d.store).parts) ++ reports_given m after.messages (changes_in d.store).reports) is.next_state.moment
      ∙ ap (λ (ms : List MessageRow). (given ++ parts_given d.store.moment ms (changes_in d.store).parts) ++ reports_given d.store.moment ms (changes_in d.store).reports) messages
      ∙ append_assoc given (parts_given d.store.moment (messages_in d.store) (changes_in d.store).parts) (reports_given d.store.moment (messages_in d.store) (changes_in d.store).reports)

-- ---- by how a call ended

pub on_ok : {A E : Type 0} (res : Result A E) (P Q : Type 0) → (P → Q) → OnOk res P → OnOk res Q
on_ok (Ok x) P Q f p = f p
on_ok (Err e) P Q f p = tt

pub if_ok : {A E : Type 0} (res : Result A E) (P Q : A → Type 0) → ((x : A) → P x → Q x) → IfOk res P → IfOk res Q
if_ok (Ok x) P Q f p = f x p
if_ok (Err e) P Q f p = tt

-- ---- where it starts

-- rows and sessions that are alike
pub started_as : (rows same : Rows) (handsets : List (List ℕ)) (sessions alike : List Session) (s : CentreStateOf) → rows ≡ same → sessions ≡ alike → StateRepresents (started rows handsets sessions) s → StateRepresents (started same handsets alike) s
started_as rows same handsets sessions alike s r q is = subst (λ (x : Rows). StateRepresents (started x handsets alike) s) r (subst (λ (x : List Session). StateRepresents (started rows handsets x) s) q is)

pub started_from : (rows same : Rows) (handsets : List (List ℕ)) (sessions alike : List Session) (s : CentreStateOf) → rows ≡ same → sessions ≡ alike → StateRepresents (started same handsets alike) s → StateRepresents (started rows handsets sessions) s
started_from rows same handsets sessions alike s r q is = started_as same rows handsets alike sessions s (sym r) (sym q) is

pub recovered_as : (rows : Rows) (handsets : List (List ℕ)) (sessions alike : List Session) (s : CentreStateOf) → sessions ≡ alike → StateRepresents (recovered rows handsets sessions) s → StateRepresents (recovered rows handsets alike) s
recovered_as rows handsets sessions alike s q is = subst (λ (x : List Session). StateRepresents (recovered rows handsets x) s) q is

pub again_is : (core : Core) (handsets : List (List ℕ)) (s : CentreStateOf) (rows : Rows) → StateRepresents (recovered core.rows handsets (sessions_from 0 core.rows.setup.accounts)) s → rows ≡ core.rows → length core.rows.setup.accounts ≤ 32
    → PlayedRepresents (recovered core.rows handsets (sessions_from 0 core.rows.setup.accounts)) s rows
again_is core handsets s rows centre_state same few = record { centre = centre_state; same_rows = same; accounts = few }
