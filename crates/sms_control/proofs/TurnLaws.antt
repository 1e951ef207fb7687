-- Transactions of this side take turns.
use Rattle.std.proofs.Common.{◌≡◌, ℕ, ◌&&◌, Bool, true, false, cond, eqb, List, [], ◌∷◌, Result, Ok, Err, Option, Some, None, refl, ap, subst, ◌∙◌, is_some, is_none}
use Rattle.std.specs.Option.{option_map}
use Rattle.std.proofs.lemmas.Bool.{eqb-true}
use Rattle.sms_control.specs.declared.fault.CpFault.{CpFault}
use Rattle.sms_control.specs.declared.transaction.TransactionFlag.{TransactionFlag}
use Rattle.sms_control.specs.declared.transaction.TransactionFlag.TheVariants.{FromOriginator, ToOriginator}
use Rattle.sms_control.specs.declared.transaction.Transaction.{Transaction}
use Rattle.sms_control.specs.declared.message.Cp.{Cp}
use Rattle.sms_control.specs.declared.message.Cp.TheVariants.{DataUnit, AckUnit, ErrorUnit}
use Rattle.sms_control.specs.declared.link_state.Begun.{Begun}
use Rattle.sms_control.specs.declared.link_state.Opened.{Opened}
use Rattle.sms_control.specs.declared.link_state.LinkState.{LinkState}
use Rattle.sms_control.specs.declared.timers.Firing.{Firing}
use Rattle.sms_control.specs.declared.timers.Firing.TheVariants.{Idle, Again, Closes}
use Rattle.sms_control.specs.ControlReading.{cp_at}
use Rattle.sms_control.specs.Timers.{begun_firing, opened_firing, sent_again}
use Rattle.sms_control.specs.LinkStep.{Step, quiet, in_transaction, begin_step, reply_in, reply_step, answer_taken, opening_taken, data_taken, ack_taken, error_taken, frame_taken, take_step, fired, fire_step, is_same, has_begun, has_opened, opening_of, answer_of}
use Rattle.sms_control.specs.LinkRuns.{Call, Begin, Reply, Take, Fire, TurnBegins, TurnEnds, TakesTurns}
use Rattle.sms_control.proofs.LinkLaws.{either, state_of}

-- what waits for its end is the transaction under way
abbrev Waits : Option ℕ → Option Begun → Type 0
Waits None None = Unit {0}
Waits None (Some b) = ⊥
Waits (Some i) None = ⊥
Waits (Some i) (Some b) = b.identifier ≡ i

pub by_test : (P : Step → Type 0) (b : Bool) (x y : Step) → (b ≡ true → P x) → (b ≡ false → P y) → P (cond b x y)
by_test P true x y f g = f refl
by_test P false x y f g = g refl

waits_same : (f : Begun → Begun) (w : Option ℕ) (b : Option Begun) → ((b : Begun) → (f b).identifier ≡ b.identifier) → Waits w b → Waits w (option_map f b)
waits_same f None None e h = tt
waits_same f None (Some b) e h = absurd h
waits_same f (Some i) None e h = absurd h
waits_same f (Some i) (Some b) e h = e b ∙ h

module _ (Rest : Option ℕ → LinkState → Type 0) (go : (w : Option ℕ) (s : LinkState) → Waits w s.begun → Rest w s) where
  begin_turns : (now : ℕ) (unit : List ℕ) (w : Option ℕ) (n : ℕ) (b : Option Begun) (o : Option Opened) (a p : Option (List ℕ)) → Waits w b
      → (let t = begin_step now unit (state_of n b o a p) in TurnBegins unit t.out.frames w (λ v. Rest v t.state))
  unfolding begin_step
  begin_turns now unit None n None o a p h = (refl, (n, refl, go (Some n) (begin_step now unit (state_of n None o a p)).state refl))
  begin_turns now unit (Some i) n None o a p h = absurd h
  begin_turns now unit w n (Some b) o a p h = go w (state_of n (Some b) o a p) h

  reply_turns : (now : ℕ) (unit : List ℕ) (w : Option ℕ) (s : LinkState) (o : Option Opened) → Waits w s.begun → Rest w (reply_in now unit s o).state
  reply_turns now unit w s None h = go w s h
  reply_turns now unit w s (Some o) h = either (λ t. Rest w t.state) (is_none o.answer) _ (quiet s) (go w _ h) (go w s h)

  module _ (Fits : ℕ → List ℕ → Type 0) (w : Option ℕ) where
    abbrev StepFits : Step → Type 0
    StepFits t = TurnEnds Fits t.out.up w (λ v. Rest v t.state)

  answered_turns : (Fits : ℕ → List ℕ → Type 0) (frame unit : List ℕ) (t : Transaction) (w : Option ℕ) (n : ℕ) (b : Begun) (o : Option Opened) (a p : Option (List ℕ)) → Waits w (Some b) → Fits t.identifier unit
      → t.identifier ≡ b.identifier → (identifier : ℕ) × (w ≡ Some identifier) × Fits identifier unit
  answered_turns Fits frame unit t None n b o a p h fits same = absurd h
  answered_turns Fits frame unit t (Some i) n b o a p h fits same = (i, refl, subst (λ (j : ℕ). Fits j unit) (same ∙ h) fits)

  answer_turns : (Fits : ℕ → List ℕ → Type 0) (frame unit : List ℕ) (t : Transaction) (w : Option ℕ) (n : ℕ) (b : Option Begun) (o : Option Opened) (a p : Option (List ℕ)) → Waits w b → Fits t.identifier unit
      → StepFits Fits w (answer_taken frame unit t (state_of n b o a p))
  answer_turns Fits frame unit t w n None o a p h fits = let s = state_of n None o a p in either (StepFits Fits w) (is_same frame a) _ _ (go w s h) (go w s h)
  answer_turns Fits frame unit t w n (Some b) o a p h fits =
      let s = state_of n (Some b) o a p in
      by_test (StepFits Fits w) (eqb t.identifier b.identifier) _ _
      (λ e. (answered_turns Fits frame unit t w n b o a p h fits (eqb-true t.identifier b.identifier e), go None (record s { begun = None; last_answer = Some frame }) tt))
      (λ e. either (StepFits Fits w) (is_same frame a) _ _ (go w s h) (go w s h))

  opening_turns : (Fits : ℕ → List ℕ → Type 0) (frame unit : List ℕ) (t : Transaction) (w : Option ℕ) (s : LinkState) → Waits w s.begun → StepFits Fits w (opening_taken frame unit t s)
  opening_turns Fits frame unit t w s h =
      either (StepFits Fits w) (is_same frame (opening_of s.opened)) _ _ (go w s h) (either (StepFits Fits w) (is_same frame s.last_opening) _ _ (go w s h) (go w _ h))

  data_turns : (Fits : ℕ → List ℕ → Type 0) (f : TransactionFlag) (frame unit : List ℕ) (t : Transaction) (w : Option ℕ) (s : LinkState) → Waits w s.begun → (f ≡ ToOriginator → Fits t.identifier unit)
      → StepFits Fits w (data_taken f frame unit t s)
  data_turns Fits ToOriginator frame unit t w s h fits = answer_turns Fits frame unit t w s.next_identifier s.begun s.opened s.last_answer s.last_opening h (fits refl)
  data_turns Fits FromOriginator frame unit t w s h fits = opening_turns Fits frame unit t w s h

  ack_turns : (Fits : ℕ → List ℕ → Type 0) (f : TransactionFlag) (i : ℕ) (w : Option ℕ) (s : LinkState) → Waits w s.begun → StepFits Fits w (ack_taken f i s)
  ack_turns Fits ToOriginator i w s h =
      either (StepFits Fits w) (has_begun i s.begun) _ _ (go w _ (waits_same (λ b. record b { repetition = None }) w s.begun (λ b. refl) h)) (go w s h)
  ack_turns Fits FromOriginator i w s h = either (StepFits Fits w) (has_opened i s.opened && is_some (answer_of s.opened)) _ _ (go w _ h) (go w s h)

  fail_turns : (Fits : ℕ → List ℕ → Type 0) (i : ℕ) (w : Option ℕ) (n : ℕ) (b : Option Begun) (o : Option Opened) (a p : Option (List ℕ)) → Waits w b → StepFits Fits w (error_taken ToOriginator i (state_of n b o a p))
  fail_turns Fits i w n None o a p h = go w (state_of n None o a p) h
  fail_turns Fits i None n (Some b) o a p h = absurd h
  fail_turns Fits i (Some j) n (Some b) o a p h =
      let s = state_of n (Some b) o a p in either (StepFits Fits (Some j)) (eqb i b.identifier) _ _ (refl, go None (record s { begun = None }) tt) (go (Some j) s h)

  error_turns : (Fits : ℕ → List ℕ → Type 0) (f : TransactionFlag) (i : ℕ) (w : Option ℕ) (s : LinkState) → Waits w s.begun → StepFits Fits w (error_taken f i s)
  error_turns Fits ToOriginator i w s h = fail_turns Fits i w s.next_identifier s.begun s.opened s.last_answer s.last_opening h
  error_turns Fits FromOriginator i w s h = either (StepFits Fits w) (has_opened i s.opened) _ _ (go w _ h) (go w s h)

  flagged : (f : TransactionFlag) (t : Transaction) → t.flag ≡ f → t ≡ in_transaction f t.identifier
  flagged f t e = ap (λ (g : TransactionFlag). in_transaction g t.identifier) e

  frame_turns : (frame : List ℕ) (w : Option ℕ) (s : LinkState) (r : Result Cp CpFault) → cp_at frame ≡ r → Waits w s.begun
      → StepFits (λ i unit. cp_at frame ≡ Ok (DataUnit (in_transaction ToOriginator i) unit)) w (frame_taken frame s r)
  frame_turns frame w s (Err f) e h = go w s h
  frame_turns frame w s (Ok (DataUnit t unit)) e h = data_turns _ t.flag frame unit t w s h (λ f. e ∙ ap (λ (t : Transaction). Ok (DataUnit t unit)) (flagged ToOriginator t f))
  frame_turns frame w s (Ok (AckUnit t)) e h = ack_turns _ t.flag t.identifier w s h
  frame_turns frame w s (Ok (ErrorUnit t c)) e h = error_turns _ t.flag t.identifier w s h

  fired_turns : (now : ℕ) (f g : Firing) (w : Option ℕ) (n : ℕ) (b : Option Begun) (o : Option Opened) (a p : Option (List ℕ)) → f ≡ begun_firing now b → Waits w b
      → StepFits (λ i unit. ⊥) w (fired now f g (state_of n b o a p))
  fired_turns now Idle g w n b o a p e h = go w _ h
  fired_turns now Again g w n b o a p e h = go w _ (waits_same (λ b. record b { repetition = option_map (sent_again now) b.repetition }) w b (λ b. refl) h)
  fired_turns now Closes g w n None o a p e h = absurd cc
  fired_turns now Closes g None n (Some b) o a p e h = absurd h
  fired_turns now Closes g (Some i) n (Some b) o a p e h = (refl, go None _ tt)

pub turns : (cs : List Call) (s : LinkState) (w : Option ℕ) → Waits w s.begun → TakesTurns cs s w
unfolding reply_step take_step fire_step
turns [] s w h = tt
turns (Begin now unit ∷ cs) s w h = begin_turns (λ v t. TakesTurns cs t v) (λ v t k. turns cs t v k) now unit w s.next_identifier s.begun s.opened s.last_answer s.last_opening h
turns (Reply now unit ∷ cs) s w h = reply_turns (λ v t. TakesTurns cs t v) (λ v t k. turns cs t v k) now unit w s s.opened h
turns (Take frame ∷ cs) s w h = frame_turns (λ v t. TakesTurns cs t v) (λ v t k. turns cs t v k) frame w s (cp_at frame) refl h
turns (Fire now ∷ cs) s w h =
    fired_turns (λ v t. TakesTurns cs t v) (λ v t k. turns cs t v k) now (begun_firing now s.begun) (opened_firing now s.opened) w s.next_identifier s.begun s.opened s.last_answer s.last_opening refl h
