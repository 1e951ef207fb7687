-- A unit of the other side is answered once.
use Rattle.std.proofs.Common.{◌≡◌, ℕ, ◌+◌, ◌≤◌, ◌&&◌, List, [], ◌∷◌, Result, Ok, Err, Option, Some, None, refl, arith, is_some}
use Rattle.sms_control.specs.declared.fault.CpFault.{CpFault}
use Rattle.sms_control.specs.declared.transaction.TransactionFlag.{TransactionFlag}
use Rattle.sms_control.specs.declared.transaction.TransactionFlag.TheVariants.{FromOriginator, ToOriginator}
use Rattle.sms_control.specs.declared.transaction.Transaction.{Transaction}
use Rattle.sms_control.specs.declared.message.Cp.{Cp}
use Rattle.sms_control.specs.declared.message.Cp.TheVariants.{DataUnit, AckUnit, ErrorUnit}
use Rattle.sms_control.specs.declared.link_state.Begun.{Begun}
use Rattle.sms_control.specs.declared.link_state.Answer.{Answer}
use Rattle.sms_control.specs.declared.link_state.Opened.{Opened}
use Rattle.sms_control.specs.declared.link_state.LinkState.{LinkState}
use Rattle.sms_control.specs.declared.timers.Firing.{Firing}
use Rattle.sms_control.specs.declared.timers.Firing.TheVariants.{Idle, Again, Closes}
use Rattle.sms_control.specs.ControlReading.{cp_at}
use Rattle.sms_control.specs.Timers.{begun_firing, opened_firing}
use Rattle.sms_control.specs.LinkStep.{Step, fresh, quiet, begin_step, reply_in, reply_step, answer_taken, opening_taken, data_taken, ack_taken, error_taken, frame_taken, take_step, opened_fired, fired, fire_step, is_same, opening_of, answer_of, has_begun, has_opened}
use Rattle.sms_control.specs.LinkRuns.{Call, Begin, Reply, Take, Fire, step, run, replied_by, opens_by, replies, openings}
use Rattle.sms_control.proofs.LinkLaws.{either, state_of}

abbrev without : Option Answer → ℕ
without None = 1
without (Some a) = 0

-- a unit of the other side that has no answer yet
abbrev waiting : Option Opened → ℕ
waiting None = 0
waiting (Some o) = without o.answer

-- what is answered waited, and what waits came up
abbrev Answers : ℕ → LinkState → Step → Type 0
Answers n s t = n + waiting t.state.opened ≤ opens_by t.out.up + waiting s.opened

same : (n : ℕ) → 0 + n ≤ 0 + n
same n = omega arith

less : (n : ℕ) → 0 + 0 ≤ 0 + n
less n = omega arith

one : (n : ℕ) → 0 + 1 ≤ 1 + n
one n = omega arith

begin_answers : (now : ℕ) (unit : List ℕ) (s : LinkState) → Answers 0 s (begin_step now unit s)
unfolding begin_step
begin_answers now unit s = either (Answers 0 s) (is_some s.begun) (quiet s) _ (same (waiting s.opened)) (same (waiting s.opened))

reply_with : (now : ℕ) (unit : List ℕ) (n : ℕ) (b : Option Begun) (i : ℕ) (frame : List ℕ) (answer : Option Answer) (a p : Option (List ℕ))
    → (let o : Opened = record { identifier = i; opening = frame; answer = answer } in let s = state_of n b (Some o) a p in
    Answers (replied_by (Reply now unit) (reply_in now unit s (Some o)).out) s (reply_in now unit s (Some o)))
reply_with now unit n b i frame None a p = omega arith
reply_with now unit n b i frame (Some k) a p = omega arith

reply_answers : (now : ℕ) (unit : List ℕ) (n : ℕ) (b : Option Begun) (o : Option Opened) (a p : Option (List ℕ))
    → (let s = state_of n b o a p in Answers (replied_by (Reply now unit) (reply_in now unit s o).out) s (reply_in now unit s o))
reply_answers now unit n b None a p = omega arith
reply_answers now unit n b (Some o) a p = reply_with now unit n b o.identifier o.opening o.answer a p

answer_answers : (frame unit : List ℕ) (t : Transaction) (s : LinkState) → Answers 0 s (answer_taken frame unit t s)
answer_answers frame unit t s =
    let w = same (waiting s.opened) in either (Answers 0 s) (has_begun t.identifier s.begun) _ _ w (either (Answers 0 s) (is_same frame s.last_answer) _ _ w w)

opening_answers : (frame unit : List ℕ) (t : Transaction) (s : LinkState) → Answers 0 s (opening_taken frame unit t s)
opening_answers frame unit t s =
    let w = same (waiting s.opened) in
    either (Answers 0 s) (is_same frame (opening_of s.opened)) _ _ w (either (Answers 0 s) (is_same frame s.last_opening) _ _ w (one (waiting s.opened)))

data_answers : (f : TransactionFlag) (frame unit : List ℕ) (t : Transaction) (s : LinkState) → Answers 0 s (data_taken f frame unit t s)
data_answers ToOriginator frame unit t s = answer_answers frame unit t s
data_answers FromOriginator frame unit t s = opening_answers frame unit t s

ack_answers : (f : TransactionFlag) (i : ℕ) (s : LinkState) → Answers 0 s (ack_taken f i s)
ack_answers ToOriginator i s = let w = same (waiting s.opened) in either (Answers 0 s) (has_begun i s.begun) _ _ w w
ack_answers FromOriginator i s = either (Answers 0 s) (has_opened i s.opened && is_some (answer_of s.opened)) _ _ (less (waiting s.opened)) (same (waiting s.opened))

error_answers : (f : TransactionFlag) (i : ℕ) (s : LinkState) → Answers 0 s (error_taken f i s)
error_answers ToOriginator i s = let w = same (waiting s.opened) in either (Answers 0 s) (has_begun i s.begun) _ _ w w
error_answers FromOriginator i s = either (Answers 0 s) (has_opened i s.opened) _ _ (less (waiting s.opened)) (same (waiting s.opened))

frame_answers : (frame : List ℕ) (s : LinkState) (r : Result Cp CpFault) → Answers 0 s (frame_taken frame s r)
frame_answers frame s (Err f) = same (waiting s.opened)
frame_answers frame s (Ok (DataUnit t unit)) = data_answers t.flag frame unit t s
frame_answers frame s (Ok (AckUnit t)) = ack_answers t.flag t.identifier s
frame_answers frame s (Ok (ErrorUnit t c)) = error_answers t.flag t.identifier s

again_waits : (now i : ℕ) (frame : List ℕ) (answer : Option Answer) → (let o : Opened = record { identifier = i; opening = frame; answer = answer } in waiting (opened_fired now Again (Some o)) ≡ waiting (Some o))
again_waits now i frame None = refl
again_waits now i frame (Some a) = refl

fired_waits : (now : ℕ) (g : Firing) (o : Option Opened) → waiting (opened_fired now g o) ≤ waiting o
fired_waits now Idle o = omega arith
fired_waits now Again None = omega arith
fired_waits now Again (Some o) = omega (arith, again_waits now o.identifier o.opening o.answer)
fired_waits now Closes o = omega arith

fired_answers : (now : ℕ) (f g : Firing) (s : LinkState) → Answers 0 s (fired now f g s)
fired_answers now Idle g s = omega (arith, fired_waits now g s.opened)
fired_answers now Again g s = omega (arith, fired_waits now g s.opened)
fired_answers now Closes g s = omega (arith, fired_waits now g s.opened)

answers : (c : Call) (s : LinkState) → Answers (replied_by c (step c s).out) s (step c s)
unfolding reply_step take_step fire_step
answers (Begin now unit) s = begin_answers now unit s
answers (Reply now unit) s = reply_answers now unit s.next_identifier s.begun s.opened s.last_answer s.last_opening
answers (Take frame) s = frame_answers frame s (cp_at frame)
answers (Fire now) s = fired_answers now (begun_firing now s.begun) (opened_firing now s.opened) s

run_answers : (cs : List Call) (s : LinkState) → replies cs s + waiting (run cs s).opened ≤ openings cs s + waiting s.opened
run_answers [] s = omega arith
run_answers (c ∷ cs) s =
    let here = answers c s in
    let more = run_answers cs (step c s).state in
    omega (arith, here, more)

without_at_most : (a : Option Answer) → without a ≤ 1
without_at_most None = omega arith
without_at_most (Some a) = omega arith

waiting_at_most : (o : Option Opened) → waiting o ≤ 1
waiting_at_most None = omega arith
waiting_at_most (Some o) = without_at_most o.answer

pub replies_follow_openings : (cs : List Call) → replies cs fresh ≤ openings cs fresh
replies_follow_openings cs = let all = run_answers cs fresh in omega (arith, all)

pub replied_once : (s : LinkState) (cs : List Call) → openings cs s ≡ 0 → replies cs s ≤ 1
replied_once s cs none = let all = run_answers cs s in let top = waiting_at_most s.opened in omega (arith, all, top)
