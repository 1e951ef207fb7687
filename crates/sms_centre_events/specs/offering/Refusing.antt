-- How steps end whose reads the store may refuse.
use Rattle.std.specs.Prelude.{◌≡◌, ◌⊎◌, ℕ, ◌==◌, not, List, Bool, true, Option, Some, None, Result, Ok, Err}
use Rattle.sms_rows.specs.keep.KeepState.{KeepState}
use Rattle.sms_rows.specs.keep.Refusing.{with_answer, with_read}
use Rattle.sms_rows.specs.keep.StoreOutcome.{IfHeld}
use Rattle.sms_rows.specs.declared.keep.refusals.Refusals.{Refusals}
use Rattle.sms_base.specs.Among.{Among}
use Rattle.sms_centre_spec.specs.declared.plan_error.PlanError.{PlanError}
use Rattle.sms_centre_spec.specs.declared.plan_error.PlanError.TheVariants.{NoBody, NoMemory}

-- It was done, or there was no memory.
abbrev pub UnlessMemory : {A : Type 0} → (A → Type 0) → Result A PlanError → Type 0
UnlessMemory ok (Ok value) = ok value
UnlessMemory ok (Err NoBody) = ⊥
UnlessMemory ok (Err NoMemory) = Unit {0}

-- The store refused nothing: it answered a read since, or it was asked for none.
abbrev pub NoneRefused : Refusals → Refusals → Type 0
NoneRefused before after = (after ≡ with_answer before) ⊎ (after ≡ before)

-- It was done; or the store refused to read the body of a key that is among these, and nothing besides. Or there was no memory, and the
-- store refused nothing. Only after a refusal may the store be closed; else it holds what it held.
abbrev pub SucceedsOrRefuses : {A : Type 0} → (A → Type 0) → List ℕ → Type 0 → Type 0 → Refusals → Refusals → Result A PlanError → Type 0
SucceedsOrRefuses ok keys held closed before refused (Ok value) = ok value × (held × NoneRefused before refused)
SucceedsOrRefuses ok keys held closed before refused (Err NoBody) = ((key : ℕ) × (Among key keys × (refused ≡ with_read key before))) × (held ⊎ closed)
SucceedsOrRefuses ok keys held closed before refused (Err NoMemory) = held × NoneRefused before refused

-- So ends a step that reads bodies of those keys, if the store is honest, and had these rows before the step.
abbrev pub ReadingOutcome : {Rows A : Type 0} → (A → Type 0) → List ℕ → Rows → KeepState Rows → KeepState Rows → Result A PlanError → Type 0
ReadingOutcome is_right keys rows before after result =
    IfHeld rows before after (SucceedsOrRefuses is_right keys (after.holds rows) after.is_closed before.refusals after.refusals result)

-- the store answers every read but that which it refused
abbrev pub answers_but : Option ℕ → ℕ → Bool
answers_but None key = true
answers_but (Some refused) key = not (key == refused)
