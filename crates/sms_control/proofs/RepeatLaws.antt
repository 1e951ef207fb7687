-- A frame that opened a transaction does not come up again while it is remembered.
use Rattle.std.proofs.Common.{◌≡◌, ℕ, Bool, true, false, ◌&&◌, cond, eqb, List, [], ◌∷◌, Result, Ok, Err, Option, Some, None, refl, sym, ap, subst, ◌∙◌, is_some, is_none}
use Rattle.std.proofs.lemmas.Bool.{eqb-true, eq-eqb, and_parts}
use Rattle.sms_base.proofs.OctetLaws.{octets_themselves}
use Rattle.sms_control.specs.declared.fault.CpFault.{CpFault}
use Rattle.sms_control.specs.declared.transaction.TransactionFlag.{TransactionFlag}
use Rattle.sms_control.specs.declared.transaction.TransactionFlag.TheVariants.{FromOriginator, ToOriginator}
use Rattle.sms_control.specs.declared.transaction.Transaction.{Transaction}
use Rattle.sms_control.specs.declared.message.Cp.{Cp}
use Rattle.sms_control.specs.declared.message.Cp.TheVariants.{DataUnit, AckUnit, ErrorUnit}
use Rattle.sms_control.specs.declared.link_state.Begun.{Begun}
use Rattle.sms_control.specs.declared.link_state.Opened.{Opened}
use Rattle.sms_control.specs.declared.link_state.LinkState.{LinkState}
use Rattle.sms_control.specs.declared.timers.Firing.{Firing}
use Rattle.sms_control.specs.declared.timers.Firing.TheVariants.{Idle, Again, Closes}
use Rattle.sms_control.specs.ControlReading.{cp_at}
use Rattle.sms_control.specs.Timers.{opened_firing}
use Rattle.sms_control.specs.LinkStep.{Step, fresh, quiet, in_transaction, begin_step, reply_in, reply_step, opening_taken, data_taken, ack_taken, error_taken, frame_taken, take_step, opened_fired, fire_step, is_same, opening_of, answer_of, has_begun, has_opened}
use Rattle.sms_control.specs.LinkRuns.{Call, Begin, Reply, Take, Fire, step, run, Acknowledges, IsAcknowledged, NoneAcknowledged}
use Rattle.sms_control.proofs.LinkLaws.{either, state_of}

-- CP-DATA that opens a transaction of the other side
record IsOpening (frame : List ℕ) : Type 0 where
  identifier : ℕ
  unit : List ℕ
  reads : cp_at frame ≡ Ok (DataUnit (in_transaction FromOriginator identifier) unit)

abbrev IfOpening : Option (List ℕ) → Type 0
IfOpening None = Unit {0}
IfOpening (Some frame) = IsOpening frame

-- what is remembered of the other side's transactions are openings
record Sound (s : LinkState) : Type 0 where
  present : IfOpening (opening_of s.opened)
  last : IfOpening s.last_opening

abbrev Unchanged : Step → Type 0
Unchanged t = Sound t.state

begin_sound : (now : ℕ) (unit : List ℕ) (s : LinkState) → Sound s → Unchanged (begin_step now unit s)
unfolding begin_step
begin_sound now unit s h = either Unchanged (is_some s.begun) (quiet s) _ h (record { present = h.present; last = h.last })

reply_sound : (now : ℕ) (unit : List ℕ) (n : ℕ) (b : Option Begun) (o : Option Opened) (a p : Option (List ℕ)) → Sound (state_of n b o a p) → Unchanged (reply_in now unit (state_of n b o a p) o)
reply_sound now unit n b None a p h = h
reply_sound now unit n b (Some o) a p h = either Unchanged (is_none o.answer) _ (quiet (state_of n b (Some o) a p)) (record { present = h.present; last = h.last }) h

data_sound : (f : TransactionFlag) (frame unit : List ℕ) (t : Transaction) (s : LinkState) → t.flag ≡ f → cp_at frame ≡ Ok (DataUnit t unit) → Sound s → Unchanged (data_taken f frame unit t s)
data_sound ToOriginator frame unit t s e r h =
    either Unchanged (has_begun t.identifier s.begun) _ _ (record { present = h.present; last = h.last }) (either Unchanged (is_same frame s.last_answer) _ _ h h)
data_sound FromOriginator frame unit t s e r h =
    let from : cp_at frame ≡ Ok (DataUnit (in_transaction FromOriginator t.identifier) unit) = r ∙ ap (λ (f : TransactionFlag). Ok (DataUnit (in_transaction f t.identifier) unit)) e in
    either Unchanged (is_same frame (opening_of s.opened)) _ _ h
    (either Unchanged (is_same frame s.last_opening) _ _ h (record { present = record { identifier = t.identifier; unit = unit; reads = from }; last = h.last }))

ack_sound : (f : TransactionFlag) (i : ℕ) (s : LinkState) → Sound s → Unchanged (ack_taken f i s)
ack_sound ToOriginator i s h = either Unchanged (has_begun i s.begun) _ _ (record { present = h.present; last = h.last }) h
ack_sound FromOriginator i s h = either Unchanged (has_opened i s.opened && is_some (answer_of s.opened)) _ _ (record { present = tt; last = h.present }) h

error_sound : (f : TransactionFlag) (i : ℕ) (s : LinkState) → Sound s → Unchanged (error_taken f i s)
error_sound ToOriginator i s h = either Unchanged (has_begun i s.begun) _ _ (record { present = h.present; last = h.last }) h
error_sound FromOriginator i s h = either Unchanged (has_opened i s.opened) _ _ (record { present = tt; last = h.last }) h

frame_sound : (frame : List ℕ) (s : LinkState) (r : Result Cp CpFault) → cp_at frame ≡ r → Sound s → Unchanged (frame_taken frame s r)
frame_sound frame s (Err f) e h = h
frame_sound frame s (Ok (DataUnit t unit)) e h = data_sound t.flag frame unit t s refl e h
frame_sound frame s (Ok (AckUnit t)) e h = ack_sound t.flag t.identifier s h
frame_sound frame s (Ok (ErrorUnit t c)) e h = error_sound t.flag t.identifier s h

fired_opening : (now : ℕ) (g : Firing) (o : Option Opened) → IfOpening (opening_of o) → IfOpening (opening_of (opened_fired now g o))
fired_opening now Idle o h = h
fired_opening now Again None h = h
fired_opening now Again (Some o) h = h
fired_opening now Closes o h = tt

step_sound : (c : Call) (s : LinkState) → Sound s → Unchanged (step c s)
unfolding reply_step take_step fire_step
step_sound (Begin now unit) s h = begin_sound now unit s h
step_sound (Reply now unit) s h = reply_sound now unit s.next_identifier s.begun s.opened s.last_answer s.last_opening h
step_sound (Take frame) s h = frame_sound frame s (cp_at frame) refl h
step_sound (Fire now) s h = record { present = fired_opening now (opened_firing now s.opened) s.opened h.present; last = h.last }

run_sound : (cs : List Call) (s : LinkState) → Sound s → Sound (run cs s)
run_sound [] s h = h
run_sound (c ∷ cs) s h = run_sound cs (step c s).state (step_sound c s h)

fresh_sound : Sound fresh
fresh_sound = record { present = tt; last = tt }

-- ---- a repeat is quiet

abbrev Quiet : Step → Type 0
Quiet t = t.out.up ≡ None

last_quiet : (frame unit : List ℕ) (t : Transaction) (s : LinkState) → s.last_opening ≡ Some frame → Quiet (opening_taken frame unit t s)
last_quiet frame unit t s e =
    let again : is_same frame s.last_opening ≡ true = ap (is_same frame) e ∙ octets_themselves frame in
    either Quiet (is_same frame (opening_of s.opened)) _ _ refl (rw again refl)

present_quiet : (frame unit : List ℕ) (t : Transaction) (s : LinkState) → opening_of s.opened ≡ Some frame → Quiet (opening_taken frame unit t s)
present_quiet frame unit t s e =
    let again : is_same frame (opening_of s.opened) ≡ true = ap (is_same frame) e ∙ octets_themselves frame in
    rw again refl

opening_is : (frame : List ℕ) (s : LinkState) (h : IsOpening frame) → take_step frame s ≡ opening_taken frame h.unit (in_transaction FromOriginator h.identifier) s
unfolding take_step
opening_is frame s h = ap (frame_taken frame s) h.reads

-- ---- what is remembered stays until another transaction is acknowledged

begin_keeps : (now : ℕ) (unit : List ℕ) (s : LinkState) → (begin_step now unit s).state.last_opening ≡ s.last_opening
unfolding begin_step
begin_keeps now unit s = either (λ (t : Step). t.state.last_opening ≡ s.last_opening) (is_some s.begun) (quiet s) _ refl refl

reply_keeps : (now : ℕ) (unit : List ℕ) (s : LinkState) (o : Option Opened) → (reply_in now unit s o).state.last_opening ≡ s.last_opening
reply_keeps now unit s None = refl
reply_keeps now unit s (Some o) = either (λ (t : Step). t.state.last_opening ≡ s.last_opening) (is_none o.answer) _ (quiet s) refl refl

data_keeps : (f : TransactionFlag) (frame unit : List ℕ) (t : Transaction) (s : LinkState) → (data_taken f frame unit t s).state.last_opening ≡ s.last_opening
data_keeps ToOriginator frame unit t s =
    let P : Step → Type 0 = λ (x : Step). x.state.last_opening ≡ s.last_opening in
    either P (has_begun t.identifier s.begun) _ _ refl (either P (is_same frame s.last_answer) _ _ refl refl)
data_keeps FromOriginator frame unit t s =
    let P : Step → Type 0 = λ (x : Step). x.state.last_opening ≡ s.last_opening in
    either P (is_same frame (opening_of s.opened)) _ _ refl (either P (is_same frame s.last_opening) _ _ refl refl)

-- an acknowledgement that fits closes the other side's transaction
fits : (frame : List ℕ) (i n : ℕ) (b : Option Begun) (o : Option Opened) (a p : Option (List ℕ)) → cp_at frame ≡ Ok (AckUnit (in_transaction FromOriginator i))
    → has_opened i o && is_some (answer_of o) ≡ true → IsAcknowledged (Take frame) (state_of n b o a p)
fits frame i n b None a p r e = absurd cc
fits frame i n b (Some o) a p r e =
    let t = and_parts (eqb i o.identifier) (is_some o.answer) e in
    let same : i ≡ o.identifier = eqb-true i o.identifier t.0 in
    (o.opening, record { transaction = o; present = refl; is_answered = t.1; is_ack = r ∙ ap (λ (k : ℕ). Ok (AckUnit (in_transaction FromOriginator k))) same; opened_it = refl })

ack_keeps : (f : TransactionFlag) (frame : List ℕ) (i : ℕ) (s : LinkState) → cp_at frame ≡ Ok (AckUnit (in_transaction f i)) → ¬ IsAcknowledged (Take frame) s → (ack_taken f i s).state.last_opening ≡ s.last_opening
ack_keeps ToOriginator frame i s r not_it = either (λ (t : Step). t.state.last_opening ≡ s.last_opening) (has_begun i s.begun) _ _ refl refl
ack_keeps FromOriginator frame i s r not_it = more (has_opened i s.opened && is_some (answer_of s.opened)) refl where
  more : (b : Bool) → has_opened i s.opened && is_some (answer_of s.opened) ≡ b
      → (cond b (quiet (record s { opened = None; last_opening = opening_of s.opened })) (quiet s)).state.last_opening ≡ s.last_opening
  more true e = absurd (not_it (fits frame i s.next_identifier s.begun s.opened s.last_answer s.last_opening r e))
  more false e = refl

error_keeps : (f : TransactionFlag) (i : ℕ) (s : LinkState) → (error_taken f i s).state.last_opening ≡ s.last_opening
error_keeps ToOriginator i s = either (λ (t : Step). t.state.last_opening ≡ s.last_opening) (has_begun i s.begun) _ _ refl refl
error_keeps FromOriginator i s = either (λ (t : Step). t.state.last_opening ≡ s.last_opening) (has_opened i s.opened) _ _ refl refl

frame_keeps : (frame : List ℕ) (s : LinkState) (r : Result Cp CpFault) → cp_at frame ≡ r → ¬ IsAcknowledged (Take frame) s → (frame_taken frame s r).state.last_opening ≡ s.last_opening
frame_keeps frame s (Err f) e not_it = refl
frame_keeps frame s (Ok (DataUnit t unit)) e not_it = data_keeps t.flag frame unit t s
frame_keeps frame s (Ok (AckUnit t)) e not_it = ack_keeps t.flag frame t.identifier s e not_it
frame_keeps frame s (Ok (ErrorUnit t c)) e not_it = error_keeps t.flag t.identifier s

keeps : (c : Call) (s : LinkState) → ¬ IsAcknowledged c s → (step c s).state.last_opening ≡ s.last_opening
unfolding reply_step take_step fire_step
keeps (Begin now unit) s not_it = begin_keeps now unit s
keeps (Reply now unit) s not_it = reply_keeps now unit s s.opened
keeps (Take frame) s not_it = frame_keeps frame s (cp_at frame) refl not_it
keeps (Fire now) s not_it = refl

run_keeps : (cs : List Call) (s : LinkState) → NoneAcknowledged cs s → (run cs s).last_opening ≡ s.last_opening
run_keeps [] s h = refl
run_keeps (c ∷ cs) s h = run_keeps cs (step c s).state h.1 ∙ keeps c s h.0

-- ---- the laws

closes : (i n : ℕ) (b : Option Begun) (x : Opened) (a p : Option (List ℕ)) → i ≡ x.identifier → is_some x.answer ≡ true
    → (ack_taken FromOriginator i (state_of n b (Some x) a p)).state.last_opening ≡ Some x.opening
closes i n b x a p same is =
    let t : eqb i x.identifier ≡ true = eq-eqb i x.identifier same in
    rw (t, is) refl

remembers : (s : LinkState) (ack opening : List ℕ) → Acknowledges s ack opening → (take_step ack s).state.last_opening ≡ Some opening
unfolding take_step
remembers s ack opening h =
    let x = h.transaction in
    let taken : frame_taken ack s (cp_at ack) ≡ ack_taken FromOriginator x.identifier s = ap (frame_taken ack s) h.is_ack in
    let state : s ≡ state_of s.next_identifier s.begun (Some x) s.last_answer s.last_opening = ap (λ (o : Option Opened). state_of s.next_identifier s.begun o s.last_answer s.last_opening) h.present in
    let shut : (ack_taken FromOriginator x.identifier s).state.last_opening ≡ Some x.opening =
    ap (λ (y : LinkState). (ack_taken FromOriginator x.identifier y).state.last_opening) state ∙ closes x.identifier s.next_identifier s.begun x s.last_answer s.last_opening refl h.is_answered in
    ap (λ (t : Step). t.state.last_opening) taken ∙ shut ∙ ap (λ (f : List ℕ). Some f) h.opened_it

quiet_at : (frame : List ℕ) (s : LinkState) → IsOpening frame → s.last_opening ≡ Some frame → Quiet (take_step frame s)
quiet_at frame s is e = subst Quiet (sym (opening_is frame s is)) (last_quiet frame is.unit (in_transaction FromOriginator is.identifier) s e)

pub acknowledged_is_quiet : (before after : List Call) (ack opening : List ℕ) → Acknowledges (run before fresh) ack opening
    → NoneAcknowledged after (take_step ack (run before fresh)).state → (take_step opening (run after (take_step ack (run before fresh)).state)).out.up ≡ None
acknowledged_is_quiet before after ack opening h none =
    let s = run before fresh in
    let closed = take_step ack s in
    let sound = run_sound before fresh fresh_sound in
    let kept : closed.state.last_opening ≡ Some opening = remembers s ack opening h in
    let sound_then : Sound closed.state = step_sound (Take ack) s sound in
    let is : IsOpening opening = subst IfOpening kept sound_then.last in
    let there : (run after closed.state).last_opening ≡ Some opening = run_keeps after closed.state none ∙ kept in
    quiet_at opening (run after closed.state) is there

pub present_is_quiet : (before : List Call) (x : Opened) → (run before fresh).opened ≡ Some x → (take_step x.opening (run before fresh)).out.up ≡ None
present_is_quiet before x e =
    let s = run before fresh in
    let sound = run_sound before fresh fresh_sound in
    let same : opening_of s.opened ≡ Some x.opening = ap opening_of e in
    let is : IsOpening x.opening = subst IfOpening same sound.present in
    subst Quiet (sym (opening_is x.opening s is)) (present_quiet x.opening is.unit (in_transaction FromOriginator is.identifier) s same)
