-- What the layer above never has sent, the links never send again.
use Rattle.std.proofs.Common.{◌≡◌, ℕ, ◌+◌, arith, ◌&&◌, Bool, true, false, cond, List, [], ◌∷◌, ◌++◌, Result, Ok, Err, Option, Some, None, refl, is_some, is_none}
use Rattle.std.specs.Option.{option_map}
use Rattle.std.specs.Str.{bytes_eq}
use Rattle.sms_control.specs.declared.fault.CpFault.{CpFault}
use Rattle.sms_control.specs.declared.link_state.Answer.{Answer}
use Rattle.sms_control.specs.declared.link_state.Begun.{Begun}
use Rattle.sms_control.specs.declared.link_state.LinkState.{LinkState}
use Rattle.sms_control.specs.declared.link_state.Opened.{Opened}
use Rattle.sms_control.specs.declared.message.Cp.{Cp}
use Rattle.sms_control.specs.declared.message.Cp.TheVariants.{DataUnit, AckUnit, ErrorUnit}
use Rattle.sms_control.specs.declared.transaction.Transaction.{Transaction}
use Rattle.sms_control.specs.declared.transaction.TransactionFlag.{TransactionFlag}
use Rattle.sms_control.specs.declared.transaction.TransactionFlag.TheVariants.{FromOriginator, ToOriginator}
use Rattle.sms_control.specs.ControlGrammar.{spelled}
use Rattle.sms_control.specs.ControlReading.{cp_at}
use Rattle.sms_control.specs.LinkRuns.{Call, Begin, Reply, Take, Fire, step, times, sent_by, repeated_by, sendings, repeats}
use Rattle.sms_control.specs.LinkStep.{Step, fresh, quiet, in_transaction, begin_step, reply_in, reply_step, is_same, has_begun, has_opened, answer_of, opening_of, frames_of, answer_frames, data_taken, ack_taken, error_taken, frame_taken, take_step, begun_fired, opened_fired, begun_frames, if_again, fire_step}
use Rattle.sms_control.specs.Timers.{sent_again, begun_firing, opened_firing}
use Rattle.sms_control.proofs.FiringCases.{firing_cases}
use Rattle.sms_control.proofs.LinkLaws.{either}

-- ---- it is not among the frames that the links may send again

abbrev IsOther : List ℕ → List ℕ → Type 0
IsOther frame kept = bytes_eq frame kept ≡ false

abbrev BegunWith : (List ℕ → Type 0) → Option Begun → Type 0
BegunWith P None = Unit {0}
BegunWith P (Some b) = P b.frame

abbrev AnsweredWith : (List ℕ → Type 0) → Option Answer → Type 0
AnsweredWith P None = Unit {0}
AnsweredWith P (Some a) = P a.frame

abbrev OpenedWith : (List ℕ → Type 0) → Option Opened → Type 0
OpenedWith P None = Unit {0}
OpenedWith P (Some o) = AnsweredWith P o.answer

abbrev Keeps : (List ℕ → Type 0) → LinkState → Type 0
Keeps P s = BegunWith P s.begun × OpenedWith P s.opened

-- ---- what holds of those frames goes on to hold

module _ (P : List ℕ → Type 0) where
  begun_mapped : (f : Begun → Begun) (b : Option Begun) → ((b : Begun) → (f b).frame ≡ b.frame) → BegunWith P b → BegunWith P (option_map f b)
  begun_mapped f None e h = tt
  begun_mapped f (Some b) e h = rw (e b) h

  answer_again : (now : ℕ) (a : Option Answer) → AnsweredWith P a → AnsweredWith P (option_map (λ (a : Answer). record a { repetition = sent_again now a.repetition }) a)
  answer_again now None h = tt
  answer_again now (Some a) h = h

  opened_again : (now : ℕ) (o : Option Opened) → OpenedWith P o
      → OpenedWith P (option_map (λ (o : Opened). record o { answer = option_map (λ (a : Answer). record a { repetition = sent_again now a.repetition }) o.answer }) o)
  opened_again now None h = tt
  opened_again now (Some o) h = answer_again now o.answer h

  module _ (s : LinkState) (h : Keeps P s) where
    abbrev StepIsOther : Step → Type 0
    StepIsOther t = Keeps P t.state

    data_steps : (f : TransactionFlag) (frame unit : List ℕ) (t : Transaction) → StepIsOther (data_taken f frame unit t s)
    data_steps ToOriginator frame unit t = either StepIsOther (has_begun t.identifier s.begun) _ _ (tt, h.1) (either StepIsOther (is_same frame s.last_answer) _ _ h h)
    data_steps FromOriginator frame unit t = either StepIsOther (is_same frame (opening_of s.opened)) _ _ h (either StepIsOther (is_same frame s.last_opening) _ _ h (h.0, tt))

    ack_steps : (f : TransactionFlag) (i : ℕ) → StepIsOther (ack_taken f i s)
    ack_steps ToOriginator i = either StepIsOther (has_begun i s.begun) _ _ (begun_mapped (λ b. record b { repetition = None }) s.begun (λ b. refl) h.0, h.1) h
    ack_steps FromOriginator i = either StepIsOther (has_opened i s.opened && is_some (answer_of s.opened)) _ _ (h.0, tt) h

    error_steps : (f : TransactionFlag) (i : ℕ) → StepIsOther (error_taken f i s)
    error_steps ToOriginator i = either StepIsOther (has_begun i s.begun) _ _ (tt, h.1) h
    error_steps FromOriginator i = either StepIsOther (has_opened i s.opened) _ _ (h.0, tt) h

    frame_steps : (frame : List ℕ) (r : Result Cp CpFault) → StepIsOther (frame_taken frame s r)
    frame_steps frame (Err fault) = h
    frame_steps frame (Ok (DataUnit t unit)) = data_steps t.flag frame unit t
    frame_steps frame (Ok (AckUnit t)) = ack_steps t.flag t.identifier
    frame_steps frame (Ok (ErrorUnit t cause)) = error_steps t.flag t.identifier

    take_steps : (frame : List ℕ) → StepIsOther (take_step frame s)
    unfolding take_step
    take_steps frame = frame_steps frame (cp_at frame)

    fire_steps : (now : ℕ) → StepIsOther (fire_step now s)
    unfolding fire_step
    fire_steps now = (
      firing_cases (λ f. BegunWith P (begun_fired now f s.begun)) h.0 (begun_mapped (λ b. record b { repetition = option_map (sent_again now) b.repetition }) s.begun (λ b. refl) h.0) tt (begun_firing now s.begun),
      firing_cases (λ f. OpenedWith P (opened_fired now f s.opened)) h.1 (opened_again now s.opened h.1) tt (opened_firing now s.opened),
    )

-- ---- what timers send is among them

module _ (frame : List ℕ) where
  none_of_both : (xs ys : List (List ℕ)) → times frame xs ≡ 0 → times frame ys ≡ 0 → times frame (xs ++ ys) ≡ 0
  none_of_both [] ys p q = q
  none_of_both (x ∷ xs) ys p q = let rest = none_of_both xs ys (omega (arith, p)) q in omega (arith, p, rest)

  other_once : (b : Bool) → b ≡ false → cond b 1 0 + 0 ≡ 0
  other_once true e = absurd cc
  other_once false e = refl

  once_other : (b : Bool) → cond b 1 0 + 0 ≡ 0 → b ≡ false
  once_other true e = absurd (omega (arith, e))
  once_other false e = refl

  not_begun : (b : Option Begun) → BegunWith (IsOther frame) b → times frame (begun_frames b) ≡ 0
  not_begun None h = refl
  not_begun (Some b) h = other_once (bytes_eq frame b.frame) h

  not_answer : (a : Option Answer) → AnsweredWith (IsOther frame) a → times frame (frames_of a) ≡ 0
  not_answer None h = refl
  not_answer (Some a) h = other_once (bytes_eq frame a.frame) h

  not_opened : (o : Option Opened) → OpenedWith (IsOther frame) o → times frame (answer_frames o) ≡ 0
  not_opened None h = refl
  not_opened (Some o) h = not_answer o.answer h

  fire_other : (now : ℕ) (s : LinkState) → Keeps (IsOther frame) s → times frame (fire_step now s).out.frames ≡ 0
  unfolding fire_step
  fire_other now s h =
      none_of_both (if_again (begun_firing now s.begun) (begun_frames s.begun)) (if_again (opened_firing now s.opened) (answer_frames s.opened))
      (firing_cases (λ f. times frame (if_again f (begun_frames s.begun)) ≡ 0) refl (not_begun s.begun h.0) refl (begun_firing now s.begun))
      (firing_cases (λ f. times frame (if_again f (answer_frames s.opened)) ≡ 0) refl (not_opened s.opened h.1) refl (opened_firing now s.opened))

  -- ---- a call that doesn't have it sent

  begin_other : (now : ℕ) (unit : List ℕ) (s : LinkState) → Keeps (IsOther frame) s → times frame (begin_step now unit s).out.frames ≡ 0 → Keeps (IsOther frame) (begin_step now unit s).state
  unfolding begin_step
  begin_other now unit s h =
      either (λ t. times frame t.out.frames ≡ 0 → Keeps (IsOther frame) t.state) (is_some s.begun) (quiet s) _ (λ e. h)
      (λ e. (once_other (bytes_eq frame (spelled (DataUnit (in_transaction FromOriginator s.next_identifier) unit))) e, h.1))

  reply_other : (now : ℕ) (unit : List ℕ) (s : LinkState) (o : Option Opened) → Keeps (IsOther frame) s → times frame (reply_in now unit s o).out.frames ≡ 0 → Keeps (IsOther frame) (reply_in now unit s o).state
  reply_other now unit s None h = λ e. h
  reply_other now unit s (Some o) h =
      either (λ t. times frame t.out.frames ≡ 0 → Keeps (IsOther frame) t.state) (is_none o.answer) _ (quiet s)
      (λ e. (h.0, once_other (bytes_eq frame (spelled (DataUnit (in_transaction ToOriginator o.identifier) unit))) e)) (λ e. h)

  step_other : (c : Call) (s : LinkState) → Keeps (IsOther frame) s → sent_by frame c (step c s).out ≡ 0 → Keeps (IsOther frame) (step c s).state × (repeated_by frame c (step c s).out ≡ 0)
  unfolding reply_step
  step_other (Begin now unit) s h e = (begin_other now unit s h e, refl)
  step_other (Reply now unit) s h e = (reply_other now unit s s.opened h e, refl)
  step_other (Take other) s h e = (take_steps (IsOther frame) s h other, refl)
  step_other (Fire now) s h e = (fire_steps (IsOther frame) s h now, fire_other now s h)

  run_other : (cs : List Call) (s : LinkState) → Keeps (IsOther frame) s → sendings frame cs s ≡ 0 → repeats frame cs s ≡ 0
  run_other [] s h e = refl
  run_other (c ∷ cs) s h e =
      let here = step_other c s h (omega (arith, e)) in
      let none = here.1 in
      let rest = run_other cs (step c s).state here.0 (omega (arith, e)) in
      omega (arith, none, rest)

pub never_repeated : (frame : List ℕ) (cs : List Call) → sendings frame cs fresh ≡ 0 → repeats frame cs fresh ≡ 0
never_repeated frame cs e = run_other frame cs fresh (tt, tt) e
