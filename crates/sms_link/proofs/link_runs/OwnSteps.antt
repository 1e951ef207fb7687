-- What the links do of their own accord to the transaction that this side began: it stays, or it ends by what comes up.
use Rattle.std.proofs.Common.{◌≡◌, ℕ, ◌&&◌, List, eqb, Result, Ok, Err, Option, Some, None, refl, ap, subst, ◌∙◌, is_some, is_none}
use Rattle.std.specs.Option.{option_map}
use Rattle.std.proofs.lemmas.Bool.{eqb-true}
use Rattle.sms_control.specs.declared.cause.CpCause.{CpCause}
use Rattle.sms_control.specs.declared.fault.CpFault.{CpFault}
use Rattle.sms_control.specs.declared.link_state.Begun.{Begun}
use Rattle.sms_control.specs.declared.link_state.LinkState.{LinkState}
use Rattle.sms_control.specs.declared.link_state.Opened.{Opened}
use Rattle.sms_control.specs.declared.message.Cp.{Cp}
use Rattle.sms_control.specs.declared.message.Cp.TheVariants.{DataUnit, AckUnit, ErrorUnit}
use Rattle.sms_control.specs.declared.out.Up.{Up}
use Rattle.sms_control.specs.declared.out.Up.TheVariants.{Unit as UnitUp, Failed}
use Rattle.sms_control.specs.declared.transaction.Transaction.{Transaction}
use Rattle.sms_control.specs.declared.transaction.TransactionFlag.{TransactionFlag}
use Rattle.sms_control.specs.declared.transaction.TransactionFlag.TheVariants.{FromOriginator, ToOriginator}
use Rattle.sms_control.specs.ControlReading.{cp_at}
use Rattle.sms_control.specs.LinkStep.{Step, quiet, in_transaction, reply_in, reply_step, is_same, has_begun, has_opened, answer_of, opening_of, answer_taken, opening_taken, data_taken, ack_taken, error_taken, frame_taken, take_step, fired as links_fired, fire_step}
use Rattle.sms_control.specs.Timers.{begun_firing, opened_firing}
use Rattle.sms_control.proofs.FiringCases.{firing_cases}
use Rattle.sms_control.proofs.LinkLaws.{either, state_of}
use Rattle.sms_control.proofs.TurnLaws.{by_test}

-- ---- what holds of each

abbrev pub Stays : Option Begun → Option Begun → Type 0
Stays None None = Unit {0}
Stays None (Some c) = ⊥
Stays (Some b) None = ⊥
Stays (Some b) (Some c) = c.identifier ≡ b.identifier

-- it was under way under an identifier of which that holds, and is gone
pub record Ends (Fits : ℕ → Type 0) (before after : Option Begun) : Type 0 where
  pub was : Begun
  pub under_way : before ≡ Some was
  pub fits : Fits was.identifier
  pub gone : after ≡ None

abbrev pub Moves : (ℕ → Up → Type 0) → Option Begun → Option Begun → Option Up → Type 0
Moves Fits before after None = Stays before after
Moves Fits before after (Some (UnitUp FromOriginator unit)) = Stays before after
Moves Fits before after (Some (UnitUp ToOriginator unit)) = Ends (λ identifier. Fits identifier (UnitUp ToOriginator unit)) before after
Moves Fits before after (Some Failed) = Ends (λ identifier. Fits identifier Failed) before after

-- the identifier that is next stays with it
abbrev pub StepKeepsNext : (ℕ → Up → Type 0) → LinkState → Step → Type 0
StepKeepsNext Fits s t = (t.state.next_identifier ≡ s.next_identifier) × Moves Fits s.begun t.state.begun t.out.up

-- an answer and CP-ERROR have its identifier
abbrev pub FitsFrame : Result Cp CpFault → ℕ → Up → Type 0
FitsFrame frame identifier (UnitUp flag unit) = frame ≡ Ok (DataUnit (in_transaction ToOriginator identifier) unit)
FitsFrame frame identifier Failed = (cause : CpCause) × (frame ≡ Ok (ErrorUnit (in_transaction ToOriginator identifier) cause))

-- a timer brings no unit
abbrev pub FitsTimer : ℕ → Up → Type 0
FitsTimer identifier (UnitUp flag unit) = ⊥
FitsTimer identifier Failed = Unit {0}

-- ---- a frame

stays : (b : Option Begun) → Stays b b
stays None = tt
stays (Some b) = refl

stays_mapped : (f : Begun → Begun) (b : Option Begun) → ((b : Begun) → (f b).identifier ≡ b.identifier) → Stays b (option_map f b)
stays_mapped f None e = tt
stays_mapped f (Some b) e = e b

module _ (Fits : ℕ → Up → Type 0) where
  still_there : (s : LinkState) → StepKeepsNext Fits s (quiet s)
  still_there s = (refl, stays s.begun)

  answer_goes : (frame unit : List ℕ) (t : Transaction) (n : ℕ) (b : Option Begun) (o : Option Opened) (a p : Option (List ℕ)) → Fits t.identifier (UnitUp ToOriginator unit)
      → (let s = state_of n b o a p in StepKeepsNext Fits s (answer_taken frame unit t s))
  answer_goes frame unit t n None o a p fits = let s = state_of n None o a p in either (StepKeepsNext Fits s) (is_same frame a) _ _ (refl, tt) (refl, tt)
  answer_goes frame unit t n (Some b) o a p fits =
      let s = state_of n (Some b) o a p in
      by_test (StepKeepsNext Fits s) (eqb t.identifier b.identifier) _ _
      (λ e. (refl, record { was = b; under_way = refl; fits = subst (λ (i : ℕ). Fits i (UnitUp ToOriginator unit)) (eqb-true t.identifier b.identifier e) fits; gone = refl }))
      (λ e. either (StepKeepsNext Fits s) (is_same frame a) _ _ (refl, refl) (refl, refl))

  opening_steps : (frame unit : List ℕ) (t : Transaction) (s : LinkState) → StepKeepsNext Fits s (opening_taken frame unit t s)
  opening_steps frame unit t s =
      let same = stays s.begun in
      either (StepKeepsNext Fits s) (is_same frame (opening_of s.opened)) _ _ (refl, same) (either (StepKeepsNext Fits s) (is_same frame s.last_opening) _ _ (refl, same) (refl, same))

  data_steps : (f : TransactionFlag) (frame unit : List ℕ) (t : Transaction) (s : LinkState) → (f ≡ ToOriginator → Fits t.identifier (UnitUp ToOriginator unit)) → StepKeepsNext Fits s (data_taken f frame unit t s)
  data_steps ToOriginator frame unit t s fits = answer_goes frame unit t s.next_identifier s.begun s.opened s.last_answer s.last_opening (fits refl)
  data_steps FromOriginator frame unit t s fits = opening_steps frame unit t s

  ack_steps : (f : TransactionFlag) (i : ℕ) (s : LinkState) → StepKeepsNext Fits s (ack_taken f i s)
  ack_steps ToOriginator i s =
      either (StepKeepsNext Fits s) (has_begun i s.begun) _ _ (refl, stays_mapped (λ b. record b { repetition = None }) s.begun (λ b. refl)) (still_there s)
  ack_steps FromOriginator i s = either (StepKeepsNext Fits s) (has_opened i s.opened && is_some (answer_of s.opened)) _ _ (refl, stays s.begun) (still_there s)

  fail_steps : (i n : ℕ) (b : Option Begun) (o : Option Opened) (a p : Option (List ℕ)) → Fits i Failed → (let s = state_of n b o a p in StepKeepsNext Fits s (error_taken ToOriginator i s))
  fail_steps i n None o a p fits = (refl, tt)
  fail_steps i n (Some b) o a p fits =
      let s = state_of n (Some b) o a p in
      by_test (StepKeepsNext Fits s) (eqb i b.identifier) _ _
      (λ e. (refl, record { was = b; under_way = refl; fits = subst (λ (j : ℕ). Fits j Failed) (eqb-true i b.identifier e) fits; gone = refl })) (λ e. (refl, refl))

  error_steps : (f : TransactionFlag) (i : ℕ) (s : LinkState) → (f ≡ ToOriginator → Fits i Failed) → StepKeepsNext Fits s (error_taken f i s)
  error_steps ToOriginator i s fits = fail_steps i s.next_identifier s.begun s.opened s.last_answer s.last_opening (fits refl)
  error_steps FromOriginator i s fits = either (StepKeepsNext Fits s) (has_opened i s.opened) _ _ (refl, stays s.begun) (still_there s)

flagged : (f : TransactionFlag) (t : Transaction) → t.flag ≡ f → t ≡ in_transaction f t.identifier
flagged f t e = ap (λ (g : TransactionFlag). in_transaction g t.identifier) e

frame_steps : (frame : List ℕ) (s : LinkState) (r : Result Cp CpFault) → cp_at frame ≡ r → StepKeepsNext (FitsFrame (cp_at frame)) s (frame_taken frame s r)
frame_steps frame s (Err fault) e = still_there (FitsFrame (cp_at frame)) s
frame_steps frame s (Ok (DataUnit t unit)) e =
    data_steps (FitsFrame (cp_at frame)) t.flag frame unit t s (λ f. e ∙ ap (λ (t : Transaction). Ok (DataUnit t unit)) (flagged ToOriginator t f))
frame_steps frame s (Ok (AckUnit t)) e = ack_steps (FitsFrame (cp_at frame)) t.flag t.identifier s
frame_steps frame s (Ok (ErrorUnit t cause)) e =
    error_steps (FitsFrame (cp_at frame)) t.flag t.identifier s (λ f. (cause, e ∙ ap (λ (t : Transaction). Ok (ErrorUnit t cause)) (flagged ToOriginator t f)))

pub take_steps : (frame : List ℕ) (s : LinkState) → StepKeepsNext (FitsFrame (cp_at frame)) s (take_step frame s)
unfolding take_step
take_steps frame s = frame_steps frame s (cp_at frame) refl

-- ---- timers

fire_steps_at : (now n : ℕ) (b : Option Begun) (o : Option Opened) (a p : Option (List ℕ)) → StepKeepsNext FitsTimer (state_of n b o a p) (fire_step now (state_of n b o a p))
unfolding fire_step
fire_steps_at now n None o a p = (refl, tt)
fire_steps_at now n (Some b) o a p =
    firing_cases (λ f. StepKeepsNext FitsTimer (state_of n (Some b) o a p) (links_fired now f (opened_firing now o) (state_of n (Some b) o a p)))
    (refl, refl) (refl, refl) (refl, record { was = b; under_way = refl; fits = tt; gone = refl }) (begun_firing now (Some b))

pub fire_steps : (now : ℕ) (s : LinkState) → StepKeepsNext FitsTimer s (fire_step now s)
fire_steps now s = fire_steps_at now s.next_identifier s.begun s.opened s.last_answer s.last_opening

-- ---- an answer of this side leaves what it began

abbrev pub Untouched : LinkState → Step → Type 0
Untouched s t = (t.state.next_identifier ≡ s.next_identifier) × (t.state.begun ≡ s.begun) × (t.out.up ≡ None)

reply_in_leaves : (now : ℕ) (unit : List ℕ) (s : LinkState) (o : Option Opened) → Untouched s (reply_in now unit s o)
reply_in_leaves now unit s None = (refl, refl, refl)
reply_in_leaves now unit s (Some o) = either (Untouched s) (is_none o.answer) _ (quiet s) (refl, refl, refl) (refl, refl, refl)

pub reply_leaves : (now : ℕ) (unit : List ℕ) (s : LinkState) → Untouched s (reply_step now unit s)
unfolding reply_step
reply_leaves now unit s = reply_in_leaves now unit s s.opened
