-- The answer of the last begun transaction that was answered is remembered.
use Rattle.std.proofs.Common.{◌≡◌, ℕ, ◌&&◌, true, false, List, [], ◌∷◌, Result, Ok, Err, Option, Some, None, refl, sym, ap, subst, ◌∙◌, is_some, is_none}
use Rattle.sms_base.proofs.OctetLaws.{octets_themselves}
use Rattle.sms_control.specs.declared.fault.CpFault.{CpFault}
use Rattle.sms_control.specs.declared.transaction.TransactionFlag.{TransactionFlag}
use Rattle.sms_control.specs.declared.transaction.TransactionFlag.TheVariants.{FromOriginator, ToOriginator}
use Rattle.sms_control.specs.declared.transaction.Transaction.{Transaction}
use Rattle.sms_control.specs.declared.message.Cp.{Cp}
use Rattle.sms_control.specs.declared.message.Cp.TheVariants.{DataUnit, AckUnit, ErrorUnit}
use Rattle.sms_control.specs.declared.link_state.Opened.{Opened}
use Rattle.sms_control.specs.declared.link_state.LinkState.{LinkState}
use Rattle.sms_control.specs.declared.out.Up.TheVariants.{Unit as UnitUp}
use Rattle.sms_control.specs.ControlReading.{cp_at}
use Rattle.sms_control.specs.ControlGrammar.{spelled}
use Rattle.sms_control.specs.LinkStep.{Step, quiet, in_transaction, begin_step, reply_in, reply_step, answer_taken, data_taken, ack_taken, error_taken, frame_taken, take_step, fire_step, is_same, has_begun, has_opened, opening_of, answer_of}
use Rattle.sms_control.specs.LinkRuns.{Call, Begin, Reply, Take, Fire, step, run, IsNoAnswer, NoneAnswered}
use Rattle.sms_control.proofs.LinkLaws.{either}

-- ---- it stays until another transaction is answered

abbrev Keeps : LinkState → Step → Type 0
Keeps s t = IsNoAnswer t.out.up → t.state.last_answer ≡ s.last_answer

begin_keeps : (now : ℕ) (unit : List ℕ) (s : LinkState) → Keeps s (begin_step now unit s)
unfolding begin_step
begin_keeps now unit s = either (Keeps s) (is_some s.begun) (quiet s) _ (λ n. refl) (λ n. refl)

reply_keeps : (now : ℕ) (unit : List ℕ) (s : LinkState) (o : Option Opened) → Keeps s (reply_in now unit s o)
reply_keeps now unit s None = λ n. refl
reply_keeps now unit s (Some o) = either (Keeps s) (is_none o.answer) _ (quiet s) (λ n. refl) (λ n. refl)

data_keeps : (f : TransactionFlag) (frame unit : List ℕ) (t : Transaction) (s : LinkState) → Keeps s (data_taken f frame unit t s)
data_keeps ToOriginator frame unit t s =
    either (Keeps s) (has_begun t.identifier s.begun) _ _ (λ n. absurd n) (either (Keeps s) (is_same frame s.last_answer) _ _ (λ n. refl) (λ n. refl))
data_keeps FromOriginator frame unit t s =
    either (Keeps s) (is_same frame (opening_of s.opened)) _ _ (λ n. refl) (either (Keeps s) (is_same frame s.last_opening) _ _ (λ n. refl) (λ n. refl))

ack_keeps : (f : TransactionFlag) (i : ℕ) (s : LinkState) → Keeps s (ack_taken f i s)
ack_keeps ToOriginator i s = either (Keeps s) (has_begun i s.begun) _ _ (λ n. refl) (λ n. refl)
ack_keeps FromOriginator i s = either (Keeps s) (has_opened i s.opened && is_some (answer_of s.opened)) _ _ (λ n. refl) (λ n. refl)

error_keeps : (f : TransactionFlag) (i : ℕ) (s : LinkState) → Keeps s (error_taken f i s)
error_keeps ToOriginator i s = either (Keeps s) (has_begun i s.begun) _ _ (λ n. refl) (λ n. refl)
error_keeps FromOriginator i s = either (Keeps s) (has_opened i s.opened) _ _ (λ n. refl) (λ n. refl)

frame_keeps : (frame : List ℕ) (s : LinkState) (r : Result Cp CpFault) → Keeps s (frame_taken frame s r)
frame_keeps frame s (Err f) = λ n. refl
frame_keeps frame s (Ok (DataUnit t unit)) = data_keeps t.flag frame unit t s
frame_keeps frame s (Ok (AckUnit t)) = ack_keeps t.flag t.identifier s
frame_keeps frame s (Ok (ErrorUnit t c)) = error_keeps t.flag t.identifier s

keeps : (c : Call) (s : LinkState) → Keeps s (step c s)
unfolding reply_step take_step fire_step
keeps (Begin now unit) s = begin_keeps now unit s
keeps (Reply now unit) s = reply_keeps now unit s s.opened
keeps (Take frame) s = frame_keeps frame s (cp_at frame)
keeps (Fire now) s = λ n. refl

run_keeps : (cs : List Call) (s : LinkState) → NoneAnswered cs s → (run cs s).last_answer ≡ s.last_answer
run_keeps [] s h = refl
run_keeps (c ∷ cs) s h = run_keeps cs (step c s).state h.1 ∙ keeps c s h.0

-- ---- what was taken is remembered

pub answer_is : (frame unit : List ℕ) (i : ℕ) (s : LinkState) → cp_at frame ≡ Ok (DataUnit (in_transaction ToOriginator i) unit)
    → take_step frame s ≡ answer_taken frame unit (in_transaction ToOriginator i) s
unfolding take_step
answer_is frame unit i s e = ap (frame_taken frame s) e

abbrev Remembers : List ℕ → List ℕ → Step → Type 0
Remembers frame unit t = t.out.up ≡ Some (UnitUp ToOriginator unit) → t.state.last_answer ≡ Some frame

remembers : (frame unit other : List ℕ) (t : Transaction) (s : LinkState) → Remembers frame other (answer_taken frame unit t s)
remembers frame unit other t s =
    either (Remembers frame other) (has_begun t.identifier s.begun) _ _ (λ e. refl) (either (Remembers frame other) (is_same frame s.last_answer) _ _ (λ e. absurd cc) (λ e. absurd cc))

-- ---- taken again

again_alone : (frame unit : List ℕ) (i : ℕ) (s : LinkState) → s.last_answer ≡ Some frame
    → (answer_taken frame unit (in_transaction ToOriginator i) s).out.frames ≡ spelled (AckUnit (in_transaction FromOriginator i)) ∷ []
again_alone frame unit i s e =
    let again : is_same frame s.last_answer ≡ true = ap (is_same frame) e ∙ octets_themselves frame in
    either (λ (t : Step). t.out.frames ≡ spelled (AckUnit (in_transaction FromOriginator i)) ∷ []) (has_begun i s.begun) _ _ refl (rw again refl)

again_quiet : (frame unit : List ℕ) (i : ℕ) (s : LinkState) → s.last_answer ≡ Some frame → has_begun i s.begun ≡ false
    → (answer_taken frame unit (in_transaction ToOriginator i) s).out.up ≡ None
again_quiet frame unit i s e free =
    let again : is_same frame s.last_answer ≡ true = ap (is_same frame) e ∙ octets_themselves frame in
    rw (free, again) refl

-- ---- the laws

kept : (after : List Call) (answer unit : List ℕ) (i : ℕ) (s : LinkState) → cp_at answer ≡ Ok (DataUnit (in_transaction ToOriginator i) unit)
    → (take_step answer s).out.up ≡ Some (UnitUp ToOriginator unit) → NoneAnswered after (take_step answer s).state → (run after (take_step answer s).state).last_answer ≡ Some answer
kept after answer unit i s reads up none =
    run_keeps after (take_step answer s).state none
    ∙ subst (Remembers answer unit) (sym (answer_is answer unit i s reads)) (remembers answer unit unit (in_transaction ToOriginator i) s) up

pub acknowledged_alone : (state : LinkState) (after : List Call) (answer unit : List ℕ) (i : ℕ) → cp_at answer ≡ Ok (DataUnit (in_transaction ToOriginator i) unit)
    → (take_step answer state).out.up ≡ Some (UnitUp ToOriginator unit) → NoneAnswered after (take_step answer state).state
    → (take_step answer (run after (take_step answer state).state)).out.frames ≡ spelled (AckUnit (in_transaction FromOriginator i)) ∷ []
acknowledged_alone state after answer unit i reads up none =
    let then : LinkState = run after (take_step answer state).state in
    ap (λ (t : Step). t.out.frames) (answer_is answer unit i then reads) ∙ again_alone answer unit i then (kept after answer unit i state reads up none)

pub passed_up_once : (state : LinkState) (after : List Call) (answer unit : List ℕ) (i : ℕ) → cp_at answer ≡ Ok (DataUnit (in_transaction ToOriginator i) unit)
    → (take_step answer state).out.up ≡ Some (UnitUp ToOriginator unit) → NoneAnswered after (take_step answer state).state
    → has_begun i (run after (take_step answer state).state).begun ≡ false → (take_step answer (run after (take_step answer state).state)).out.up ≡ None
passed_up_once state after answer unit i reads up none free =
    let then : LinkState = run after (take_step answer state).state in
    ap (λ (t : Step). t.out.up) (answer_is answer unit i then reads) ∙ again_quiet answer unit i then (kept after answer unit i state reads up none) free
