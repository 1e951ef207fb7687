-- A begun transaction ends once its timers have fired late enough.
use Rattle.std.proofs.Common.{◌≡◌, ℕ, zero, suc, ◌+◌, ◌≤◌, false, ◌&&◌, eqb, ltb, List, [], ◌∷◌, Result, Ok, Err, Option, Some, None, refl, subst, arith, inl, inr, is_some, is_none}
use Rattle.std.specs.Prelude.{◌⊎◌}
use Rattle.std.proofs.lemmas.Bool.{le-ltb}
use Rattle.sms_control.specs.declared.fault.CpFault.{CpFault}
use Rattle.sms_control.specs.declared.transaction.TransactionFlag.{TransactionFlag}
use Rattle.sms_control.specs.declared.transaction.TransactionFlag.TheVariants.{FromOriginator, ToOriginator}
use Rattle.sms_control.specs.declared.transaction.Transaction.{Transaction}
use Rattle.sms_control.specs.declared.message.Cp.{Cp}
use Rattle.sms_control.specs.declared.message.Cp.TheVariants.{DataUnit, AckUnit, ErrorUnit}
use Rattle.sms_control.specs.declared.link_state.Begun.{Begun}
use Rattle.sms_control.specs.declared.link_state.Opened.{Opened}
use Rattle.sms_control.specs.declared.link_state.LinkState.{LinkState}
use Rattle.sms_control.specs.declared.timers.Firing.{Firing}
use Rattle.sms_control.specs.declared.timers.Firing.TheVariants.{Idle, Again, Closes}
use Rattle.sms_control.specs.ControlReading.{cp_at}
use Rattle.sms_control.specs.Timers.{tr1, later, begun_firing, opened_firing}
use Rattle.sms_control.specs.LinkStep.{Step, quiet, is_busy, begin_step, reply_in, reply_step, data_taken, ack_taken, error_taken, frame_taken, take_step, fired, fire_step, is_same, opening_of, answer_of, has_begun, has_opened}
use Rattle.sms_control.specs.LinkRuns.{Call, Begin, Reply, Take, Fire, step, ends_by, ends, FiresPast, Rising, ticks}
use Rattle.sms_control.proofs.LinkLaws.{either, state_of}

-- under way until that moment
abbrev Until : ℕ → Option Begun → Type 0
Until moment None = ⊥
Until moment (Some b) = b.closes ≡ moment

-- it ended, or it is under way as before
abbrev EndsOrStays : ℕ → Step → Type 0
EndsOrStays moment t = (1 ≤ ends_by t.out.up) ⊎ Until moment t.state.begun

begin_steps : (now : ℕ) (unit : List ℕ) (n : ℕ) (b : Begun) (o : Option Opened) (a p : Option (List ℕ)) → EndsOrStays b.closes (begin_step now unit (state_of n (Some b) o a p))
unfolding begin_step
begin_steps now unit n b o a p = inr refl

reply_steps : (now : ℕ) (unit : List ℕ) (m : ℕ) (s : LinkState) (o : Option Opened) → Until m s.begun → EndsOrStays m (reply_in now unit s o)
reply_steps now unit m s None h = inr h
reply_steps now unit m s (Some o) h = either (EndsOrStays m) (is_none o.answer) _ (quiet s) (inr h) (inr h)

done : 1 ≤ 1
done = omega arith

data_steps : (f : TransactionFlag) (frame unit : List ℕ) (t : Transaction) (m : ℕ) (s : LinkState) → Until m s.begun → EndsOrStays m (data_taken f frame unit t s)
data_steps ToOriginator frame unit t m s h = either (EndsOrStays m) (has_begun t.identifier s.begun) _ _ (inl done) (either (EndsOrStays m) (is_same frame s.last_answer) _ _ (inr h) (inr h))
data_steps FromOriginator frame unit t m s h =
    either (EndsOrStays m) (is_same frame (opening_of s.opened)) _ _ (inr h) (either (EndsOrStays m) (is_same frame s.last_opening) _ _ (inr h) (inr h))

ack_steps : (f : TransactionFlag) (i n : ℕ) (b : Begun) (o : Option Opened) (a p : Option (List ℕ)) → EndsOrStays b.closes (ack_taken f i (state_of n (Some b) o a p))
ack_steps ToOriginator i n b o a p = either (EndsOrStays b.closes) (eqb i b.identifier) _ _ (inr refl) (inr refl)
ack_steps FromOriginator i n b o a p = either (EndsOrStays b.closes) (has_opened i o && is_some (answer_of o)) _ _ (inr refl) (inr refl)

error_steps : (f : TransactionFlag) (i m : ℕ) (s : LinkState) → Until m s.begun → EndsOrStays m (error_taken f i s)
error_steps ToOriginator i m s h = either (EndsOrStays m) (has_begun i s.begun) _ _ (inl done) (inr h)
error_steps FromOriginator i m s h = either (EndsOrStays m) (has_opened i s.opened) _ _ (inr h) (inr h)

frame_steps : (frame : List ℕ) (n : ℕ) (b : Begun) (o : Option Opened) (a p : Option (List ℕ)) (r : Result Cp CpFault) → EndsOrStays b.closes (frame_taken frame (state_of n (Some b) o a p) r)
frame_steps frame n b o a p (Err f) = inr refl
frame_steps frame n b o a p (Ok (DataUnit t unit)) = data_steps t.flag frame unit t b.closes (state_of n (Some b) o a p) refl
frame_steps frame n b o a p (Ok (AckUnit t)) = ack_steps t.flag t.identifier n b o a p
frame_steps frame n b o a p (Ok (ErrorUnit t c)) = error_steps t.flag t.identifier b.closes (state_of n (Some b) o a p) refl

fired_goes : (now : ℕ) (f g : Firing) (n : ℕ) (b : Begun) (o : Option Opened) (a p : Option (List ℕ)) → EndsOrStays b.closes (fired now f g (state_of n (Some b) o a p))
fired_goes now Idle g n b o a p = inr refl
fired_goes now Again g n b o a p = inr refl
fired_goes now Closes g n b o a p = inl done

goes_on : (c : Call) (n : ℕ) (b : Begun) (o : Option Opened) (a p : Option (List ℕ)) → EndsOrStays b.closes (step c (state_of n (Some b) o a p))
unfolding reply_step take_step fire_step
goes_on (Begin now unit) n b o a p = begin_steps now unit n b o a p
goes_on (Reply now unit) n b o a p = reply_steps now unit b.closes (state_of n (Some b) o a p) o refl
goes_on (Take frame) n b o a p = frame_steps frame n b o a p (cp_at frame)
goes_on (Fire now) n b o a p = fired_goes now (begun_firing now (Some b)) (opened_firing now o) n b o a p

goes : (c : Call) (m n : ℕ) (b : Option Begun) (o : Option Opened) (a p : Option (List ℕ)) → Until m b → EndsOrStays m (step c (state_of n b o a p))
goes c m n None o a p h = absurd h
goes c m n (Some b) o a p h = subst (λ (k : ℕ). EndsOrStays k (step c (state_of n (Some b) o a p))) h (goes_on c n b o a p)

late : (now : ℕ) (b : Begun) → b.closes ≤ now → begun_firing now (Some b) ≡ Closes
late now b h = let t : ltb now b.closes ≡ false = le-ltb now b.closes h in rw t refl

closed : (now : ℕ) (f g : Firing) (s : LinkState) → f ≡ Closes → 1 ≤ ends_by (fired now f g s).out.up
closed now Idle g s e = absurd cc
closed now Again g s e = absurd cc
closed now Closes g s e = done

fires : (now m n : ℕ) (b : Option Begun) (o : Option Opened) (a p : Option (List ℕ)) → Until m b → m ≤ now → 1 ≤ ends_by (fire_step now (state_of n b o a p)).out.up
unfolding fire_step
fires now m n None o a p h k = absurd h
fires now m n (Some b) o a p h k =
    let past : b.closes ≤ now = omega arith in
    closed now (begun_firing now (Some b)) (opened_firing now o) (state_of n (Some b) o a p) (late now b past)

-- one call, and then the rest where it did not end yet
then_ends : (c : Call) (cs : List Call) (m : ℕ) (s : LinkState) → Until m s.begun → (Until m (step c s).state.begun → 1 ≤ ends cs (step c s).state) → 1 ≤ ends (c ∷ cs) s
then_ends c cs m s h more = elim (goes c m s.next_identifier s.begun s.opened s.last_answer s.last_opening h) [
  | inl e ↦ omega (arith, e)
  | inr e ↦ let rest = more e in omega (arith, rest)
]

ends_from : (cs : List Call) (m : ℕ) (s : LinkState) → Until m s.begun → FiresPast m cs → 1 ≤ ends cs s
ends_from [] m s h k = absurd k
ends_from (Begin now unit ∷ cs) m s h k = then_ends (Begin now unit) cs m s h (λ e. ends_from cs m (step (Begin now unit) s).state e k)
ends_from (Reply now unit ∷ cs) m s h k = then_ends (Reply now unit) cs m s h (λ e. ends_from cs m (step (Reply now unit) s).state e k)
ends_from (Take frame ∷ cs) m s h k = then_ends (Take frame) cs m s h (λ e. ends_from cs m (step (Take frame) s).state e k)
ends_from (Fire now ∷ cs) m s h k = elim k [
  | inl e ↦ let last = fires now m s.next_identifier s.begun s.opened s.last_answer s.last_opening h e in omega (arith, last)
  | inr e ↦ then_ends (Fire now) cs m s h (λ u. ends_from cs m (step (Fire now) s).state u e)
]

begun_until : (now : ℕ) (unit : List ℕ) (n : ℕ) (b : Option Begun) (o : Option Opened) (a p : Option (List ℕ)) → is_some b ≡ false
    → Until (later now tr1) (begin_step now unit (state_of n b o a p)).state.begun
unfolding begin_step
begun_until now unit n None o a p e = refl
begun_until now unit n (Some b) o a p e = absurd cc

pub ends_in_time : (s : LinkState) (now : ℕ) (unit : List ℕ) (cs : List Call) → is_busy s ≡ false → FiresPast (later now tr1) cs → 1 ≤ ends cs (begin_step now unit s).state
ends_in_time s now unit cs e k =
    ends_from cs (later now tr1) (begin_step now unit s).state (begun_until now unit s.next_identifier s.begun s.opened s.last_answer s.last_opening e) k

-- ---- ticks that rise

sooner : (cs : List Call) (m n : ℕ) → m ≤ n → FiresPast n cs → FiresPast m cs
sooner [] m n h k = absurd k
sooner (Begin now unit ∷ cs) m n h k = sooner cs m n h k
sooner (Reply now unit ∷ cs) m n h k = sooner cs m n h k
sooner (Take frame ∷ cs) m n h k = sooner cs m n h k
sooner (Fire now ∷ cs) m n h k = elim k [ inl e ↦ inl (omega arith) | inr e ↦ inr (sooner cs m n h e) ]

-- each tick is a second later at least
rises : (cs : List Call) (t n : ℕ) → Rising t cs → suc n ≤ ticks cs → FiresPast (t + suc n) cs
rises [] t n r k = absurd (omega arith)
rises (Begin now unit ∷ cs) t n r k = rises cs t n r k
rises (Reply now unit ∷ cs) t n r k = rises cs t n r k
rises (Take frame ∷ cs) t n r k = rises cs t n r k
rises (Fire now ∷ cs) t zero r k = let first = r.0 in inl (omega arith)
rises (Fire now ∷ cs) t (suc n) r k =
    let first = r.0 in
    let left : suc n ≤ ticks cs = omega arith in
    inr (sooner cs (t + suc (suc n)) (now + suc n) (omega arith) (rises cs now n r.1 left))

pub ends_in_ticks : (s : LinkState) (now : ℕ) (unit : List ℕ) (cs : List Call) → is_busy s ≡ false → Rising now cs → 40 ≤ ticks cs → 1 ≤ ends cs (begin_step now unit s).state
ends_in_ticks s now unit cs e r k =
    let past : FiresPast (now + 40) cs = rises cs now 39 r k in
    let soon : later now tr1 ≤ now + 40 = omega arith in
    ends_in_time s now unit cs e (sooner cs (later now tr1) (now + 40) soon past)
