-- Laws of the links over lists of calls.
use Rattle.std.proofs.Common.{◌≡◌, ℕ, ◌+◌, ◌≤◌, Bool, true, false, ◌&&◌, cond, eqb, List, [], ◌∷◌, Result, Ok, Err, Option, Some, None, refl, arith, is_some, is_none}
use Rattle.sms_control.specs.declared.fault.CpFault.{CpFault}
use Rattle.sms_control.specs.declared.transaction.TransactionFlag.{TransactionFlag}
use Rattle.sms_control.specs.declared.transaction.TransactionFlag.TheVariants.{FromOriginator, ToOriginator}
use Rattle.sms_control.specs.declared.transaction.Transaction.{Transaction}
use Rattle.sms_control.specs.declared.message.Cp.{Cp}
use Rattle.sms_control.specs.declared.message.Cp.TheVariants.{DataUnit, AckUnit, ErrorUnit}
use Rattle.sms_control.specs.declared.link_state.Begun.{Begun}
use Rattle.sms_control.specs.declared.link_state.Opened.{Opened}
use Rattle.sms_control.specs.declared.link_state.LinkState.{LinkState}
use Rattle.sms_control.specs.declared.timers.Firing.{Firing}
use Rattle.sms_control.specs.declared.timers.Firing.TheVariants.{Idle, Again, Closes}
use Rattle.sms_control.specs.ControlReading.{cp_at}
use Rattle.sms_control.specs.Timers.{begun_firing, opened_firing}
use Rattle.sms_control.specs.LinkStep.{Step, fresh, quiet, begin_step, reply_in, reply_step, answer_taken, opening_taken, data_taken, ack_taken, error_taken, frame_taken, take_step, fired, fire_step, is_same, opening_of, answer_of, has_opened}
use Rattle.sms_control.specs.LinkRuns.{Call, Begin, Reply, Take, Fire, step, run, begun_by, ends_by, begins, ends}

-- ---- a begun transaction ends once

abbrev under_way : Option Begun → ℕ
under_way None = 0
under_way (Some b) = 1

-- what begins and what was under way is what ends and what is under way
abbrev Balanced : ℕ → LinkState → Step → Type 0
Balanced n s t = n + under_way s.begun ≡ ends_by t.out.up + under_way t.state.begun

pub either : (P : Step → Type 0) (b : Bool) (x y : Step) → P x → P y → P (cond b x y)
either P true x y p q = p
either P false x y p q = q

abbrev pub state_of : ℕ → Option Begun → Option Opened → Option (List ℕ) → Option (List ℕ) → LinkState
state_of n b o a p = record { next_identifier = n; begun = b; opened = o; last_answer = a; last_opening = p }

begin_balanced : (now : ℕ) (unit : List ℕ) (n : ℕ) (b : Option Begun) (o : Option Opened) (a p : Option (List ℕ))
    → (let s = state_of n b o a p in Balanced (begun_by (Begin now unit) (begin_step now unit s).out) s (begin_step now unit s))
unfolding begin_step
begin_balanced now unit n None o a p = refl
begin_balanced now unit n (Some b) o a p = refl

reply_balanced : (now : ℕ) (unit : List ℕ) (s : LinkState) (o : Option Opened) → Balanced 0 s (reply_in now unit s o)
reply_balanced now unit s None = refl
reply_balanced now unit s (Some o) = either (Balanced 0 s) (is_none o.answer) _ (quiet s) refl refl

answer_balanced : (frame unit : List ℕ) (t : Transaction) (n : ℕ) (b : Option Begun) (o : Option Opened) (a p : Option (List ℕ))
    → (let s = state_of n b o a p in Balanced 0 s (answer_taken frame unit t s))
answer_balanced frame unit t n None o a p = let s = state_of n None o a p in either (Balanced 0 s) (is_same frame a) _ _ refl refl
answer_balanced frame unit t n (Some b) o a p =
    let s = state_of n (Some b) o a p in
    either (Balanced 0 s) (eqb t.identifier b.identifier) _ _ refl (either (Balanced 0 s) (is_same frame a) _ _ refl refl)

opening_balanced : (frame unit : List ℕ) (t : Transaction) (s : LinkState) → Balanced 0 s (opening_taken frame unit t s)
opening_balanced frame unit t s =
    either (Balanced 0 s) (is_same frame (opening_of s.opened)) _ _ refl (either (Balanced 0 s) (is_same frame s.last_opening) _ _ refl refl)

data_balanced : (f : TransactionFlag) (frame unit : List ℕ) (t : Transaction) (s : LinkState) → Balanced 0 s (data_taken f frame unit t s)
data_balanced ToOriginator frame unit t s = answer_balanced frame unit t s.next_identifier s.begun s.opened s.last_answer s.last_opening
data_balanced FromOriginator frame unit t s = opening_balanced frame unit t s

stop_balanced : (i n : ℕ) (b : Option Begun) (o : Option Opened) (a p : Option (List ℕ)) → (let s = state_of n b o a p in Balanced 0 s (ack_taken ToOriginator i s))
stop_balanced i n None o a p = refl
stop_balanced i n (Some b) o a p = let s = state_of n (Some b) o a p in either (Balanced 0 s) (eqb i b.identifier) _ _ refl refl

ack_balanced : (f : TransactionFlag) (i : ℕ) (s : LinkState) → Balanced 0 s (ack_taken f i s)
ack_balanced ToOriginator i s = stop_balanced i s.next_identifier s.begun s.opened s.last_answer s.last_opening
ack_balanced FromOriginator i s = either (Balanced 0 s) (has_opened i s.opened && is_some (answer_of s.opened)) _ _ refl refl

fail_balanced : (i n : ℕ) (b : Option Begun) (o : Option Opened) (a p : Option (List ℕ)) → (let s = state_of n b o a p in Balanced 0 s (error_taken ToOriginator i s))
fail_balanced i n None o a p = refl
fail_balanced i n (Some b) o a p = let s = state_of n (Some b) o a p in either (Balanced 0 s) (eqb i b.identifier) _ _ refl refl

error_balanced : (f : TransactionFlag) (i : ℕ) (s : LinkState) → Balanced 0 s (error_taken f i s)
error_balanced ToOriginator i s = fail_balanced i s.next_identifier s.begun s.opened s.last_answer s.last_opening
error_balanced FromOriginator i s = either (Balanced 0 s) (has_opened i s.opened) _ _ refl refl

frame_balanced : (frame : List ℕ) (s : LinkState) (r : Result Cp CpFault) → Balanced 0 s (frame_taken frame s r)
frame_balanced frame s (Err f) = refl
frame_balanced frame s (Ok (DataUnit t unit)) = data_balanced t.flag frame unit t s
frame_balanced frame s (Ok (AckUnit t)) = ack_balanced t.flag t.identifier s
frame_balanced frame s (Ok (ErrorUnit t c)) = error_balanced t.flag t.identifier s

fired_balanced : (now : ℕ) (f : Firing) (g : Firing) (n : ℕ) (b : Option Begun) (o : Option Opened) (a p : Option (List ℕ))
    → (f ≡ begun_firing now b) → (let s = state_of n b o a p in Balanced 0 s (fired now f g s))
fired_balanced now Idle g n b o a p e = refl
fired_balanced now Again g n None o a p e = refl
fired_balanced now Again g n (Some b) o a p e = refl
fired_balanced now Closes g n None o a p e = absurd cc
fired_balanced now Closes g n (Some b) o a p e = refl

balanced : (c : Call) (s : LinkState) → Balanced (begun_by c (step c s).out) s (step c s)
unfolding reply_step take_step fire_step
balanced (Begin now unit) s = begin_balanced now unit s.next_identifier s.begun s.opened s.last_answer s.last_opening
balanced (Reply now unit) s = reply_balanced now unit s s.opened
balanced (Take frame) s = frame_balanced frame s (cp_at frame)
balanced (Fire now) s = fired_balanced now (begun_firing now s.begun) (opened_firing now s.opened) s.next_identifier s.begun s.opened s.last_answer s.last_opening refl

run_balanced : (cs : List Call) (s : LinkState) → begins cs s + under_way s.begun ≡ ends cs s + under_way (run cs s).begun
run_balanced [] s = refl
run_balanced (c ∷ cs) s =
    let one = balanced c s in
    let more = run_balanced cs (step c s).state in
    omega (arith, one, more)

one_at_most : (b : Option Begun) → under_way b ≤ 1
one_at_most None = omega arith
one_at_most (Some b) = omega arith

pub ends_follow_begins : (cs : List Call) → (ends cs fresh ≤ begins cs fresh) × (begins cs fresh ≤ ends cs fresh + 1)
ends_follow_begins cs =
    let all = run_balanced cs fresh in
    let top = one_at_most (run cs fresh).begun in
    (omega (arith, all), omega (arith, all, top))

pub ends_once : (s : LinkState) (cs : List Call) → begins cs s ≡ 0 → ends cs s ≤ 1
ends_once s cs none = let all = run_balanced cs s in let top = one_at_most s.begun in omega (arith, all, top)
