-- Until the layer above sends a frame anew, timers send it at most twice.
use Rattle.std.proofs.Common.{◌≡◌, ℕ, zero, suc, ◌+◌, ◌*◌, ◌-◌, ◌<◌, ◌≤◌, arith, ◌&&◌, Bool, true, false, cond, eqb, ltb, List, [], ◌∷◌, ◌++◌, Result, Ok, Err, Option, Some, None, refl, sym, ap, ◌∙◌, is_some, is_none, get_or}
use Rattle.std.specs.Option.{option_map}
use Rattle.std.specs.Str.{bytes_eq}
use Rattle.sms_base.proofs.OctetLaws.{same_octets}
use Rattle.sms_control.specs.declared.fault.CpFault.{CpFault}
use Rattle.sms_control.specs.declared.transaction.TransactionFlag.{TransactionFlag}
use Rattle.sms_control.specs.declared.transaction.TransactionFlag.TheVariants.{FromOriginator, ToOriginator}
use Rattle.sms_control.specs.declared.transaction.Transaction.{Transaction}
use Rattle.sms_control.specs.declared.message.Cp.{Cp}
use Rattle.sms_control.specs.declared.message.Cp.TheVariants.{DataUnit, AckUnit, ErrorUnit}
use Rattle.sms_control.specs.declared.link_state.Answer.{Answer}
use Rattle.sms_control.specs.declared.link_state.Begun.{Begun}
use Rattle.sms_control.specs.declared.link_state.Opened.{Opened}
use Rattle.sms_control.specs.declared.link_state.Repetition.{Repetition}
use Rattle.sms_control.specs.declared.link_state.LinkState.{LinkState}
use Rattle.sms_control.specs.declared.timers.Firing.{Firing}
use Rattle.sms_control.specs.declared.timers.Firing.TheVariants.{Idle, Again, Closes}
use Rattle.sms_control.specs.ControlGrammar.{spelled}
use Rattle.sms_control.specs.ControlReading.{cp_at}
use Rattle.sms_control.specs.Timers.{begun_firing, opened_firing, repetition_firing, answer_firing, tc1_firing, sent_again}
use Rattle.sms_control.specs.LinkStep.{Step, fresh, quiet, in_transaction, begin_step, reply_in, reply_step, answer_taken, opening_taken, data_taken, ack_taken, error_taken, frame_taken, take_step, begun_fired, opened_fired, begun_frames, answer_frames, if_again, fire_step, is_same, has_begun, has_opened, opening_of, answer_of}
use Rattle.sms_control.specs.LinkRuns.{Call, Begin, Reply, Take, Fire, step, run, times, sent_by, repeated_by, sendings, repeats}
use Rattle.sms_control.proofs.LinkLaws.{either, state_of}

-- ---- how often timers may still send a frame

abbrev left_of : Option Repetition → ℕ
left_of None = 0
left_of (Some r) = r.repeats_left

-- a count, where the frames are the same
abbrev if_same : List ℕ → List ℕ → ℕ → ℕ
if_same frame other count = cond (bytes_eq frame other) count 0

abbrev begun_left : List ℕ → Option Begun → ℕ
begun_left frame None = 0
begun_left frame (Some b) = if_same frame b.frame (left_of b.repetition)

abbrev answer_left : List ℕ → Option Answer → ℕ
answer_left frame None = 0
answer_left frame (Some a) = if_same frame a.frame a.repetition.repeats_left

abbrev opened_left : List ℕ → Option Opened → ℕ
opened_left frame None = 0
opened_left frame (Some o) = answer_left frame o.answer

abbrev left : List ℕ → LinkState → ℕ
left frame s = begun_left frame s.begun + opened_left frame s.opened

-- ---- a call that doesn't send the frame anew spends of it

abbrev Spends : List ℕ → ℕ → ℕ → LinkState → Step → Type 0
Spends frame sent again s t = again + left frame t.state ≤ 2 * sent + left frame s

none_more : (n : ℕ) → 0 + n ≤ 2 * 0 + n
none_more n = omega arith

same_twice : (frame other : List ℕ) → if_same frame other 2 ≡ 2 * (cond (bytes_eq frame other) 1 0 + 0)
same_twice frame other = more (bytes_eq frame other) where
  more : (b : Bool) → cond b 2 0 ≡ 2 * (cond b 1 0 + 0)
  more true = refl
  more false = refl

begin_spends : (frame : List ℕ) (now : ℕ) (unit : List ℕ) (n : ℕ) (b : Option Begun) (o : Option Opened) (a p : Option (List ℕ))
    → (let s = state_of n b o a p in Spends frame (times frame (begin_step now unit s).out.frames) 0 s (begin_step now unit s))
unfolding begin_step
begin_spends frame now unit n None o a p =
    let twice = same_twice frame (spelled (DataUnit (in_transaction FromOriginator n) unit)) in omega (arith, twice)
begin_spends frame now unit n (Some b) o a p = omega arith

answered_spends : (frame : List ℕ) (now : ℕ) (unit : List ℕ) (n : ℕ) (b : Option Begun) (i : ℕ) (opening : List ℕ) (answer : Option Answer) (a p : Option (List ℕ))
    → (let o : Opened = record { identifier = i; opening = opening; answer = answer } in let s = state_of n b (Some o) a p in
    Spends frame (times frame (reply_in now unit s (Some o)).out.frames) 0 s (reply_in now unit s (Some o)))
answered_spends frame now unit n b i opening None a p =
    let twice = same_twice frame (spelled (DataUnit (in_transaction ToOriginator i) unit)) in omega (arith, twice)
answered_spends frame now unit n b i opening (Some k) a p = omega arith

reply_spends : (frame : List ℕ) (now : ℕ) (unit : List ℕ) (n : ℕ) (b : Option Begun) (o : Option Opened) (a p : Option (List ℕ))
    → (let s = state_of n b o a p in Spends frame (times frame (reply_in now unit s o).out.frames) 0 s (reply_in now unit s o))
reply_spends frame now unit n b None a p = omega arith
reply_spends frame now unit n b (Some o) a p = answered_spends frame now unit n b o.identifier o.opening o.answer a p

-- what takes frames away, or stops a timer, leaves no more
module _ (frame : List ℕ) (s : LinkState) where
  abbrev Fewer : Step → Type 0
  Fewer t = Spends frame 0 0 s t

  nothing : left frame s ≤ left frame s
  nothing = omega arith

  answer_spends : (other unit : List ℕ) (t : Transaction) → Fewer (answer_taken other unit t s)
  answer_spends other unit t =
      either Fewer (has_begun t.identifier s.begun) _ _ (omega arith) (either Fewer (is_same other s.last_answer) _ _ (none_more (left frame s)) (none_more (left frame s)))

  opening_spends : (other unit : List ℕ) (t : Transaction) → Fewer (opening_taken other unit t s)
  opening_spends other unit t =
      either Fewer (is_same other (opening_of s.opened)) _ _ (none_more (left frame s)) (either Fewer (is_same other s.last_opening) _ _ (none_more (left frame s)) (omega arith))

  data_spends : (f : TransactionFlag) (other unit : List ℕ) (t : Transaction) → Fewer (data_taken f other unit t s)
  data_spends ToOriginator other unit t = answer_spends other unit t
  data_spends FromOriginator other unit t = opening_spends other unit t

zero_at_least : (b : Bool) (n : ℕ) → cond b 0 0 ≤ cond b n 0
zero_at_least true n = omega arith
zero_at_least false n = omega arith

stopped : (frame : List ℕ) (b : Option Begun) → begun_left frame (option_map (λ (b : Begun). record b { repetition = None }) b) ≤ begun_left frame b
stopped frame None = omega arith
stopped frame (Some b) = zero_at_least (bytes_eq frame b.frame) (left_of b.repetition)

ack_spends : (frame : List ℕ) (f : TransactionFlag) (i : ℕ) (s : LinkState) → Spends frame 0 0 s (ack_taken f i s)
ack_spends frame ToOriginator i s =
    either (Spends frame 0 0 s) (has_begun i s.begun) _ _ (let fewer = stopped frame s.begun in omega (arith, fewer)) (none_more (left frame s))
ack_spends frame FromOriginator i s = either (Spends frame 0 0 s) (has_opened i s.opened && is_some (answer_of s.opened)) _ _ (omega arith) (none_more (left frame s))

error_spends : (frame : List ℕ) (f : TransactionFlag) (i : ℕ) (s : LinkState) → Spends frame 0 0 s (error_taken f i s)
error_spends frame ToOriginator i s = either (Spends frame 0 0 s) (has_begun i s.begun) _ _ (omega arith) (none_more (left frame s))
error_spends frame FromOriginator i s = either (Spends frame 0 0 s) (has_opened i s.opened) _ _ (omega arith) (none_more (left frame s))

taken_spends : (frame other : List ℕ) (s : LinkState) (r : Result Cp CpFault) → Spends frame 0 0 s (frame_taken other s r)
taken_spends frame other s (Err f) = none_more (left frame s)
taken_spends frame other s (Ok (DataUnit t unit)) = data_spends frame s t.flag other unit t
taken_spends frame other s (Ok (AckUnit t)) = ack_spends frame t.flag t.identifier s
taken_spends frame other s (Ok (ErrorUnit t c)) = error_spends frame t.flag t.identifier s

-- ---- a timer

times_both : (frame : List ℕ) (xs ys : List (List ℕ)) → times frame (xs ++ ys) ≡ times frame xs + times frame ys
times_both frame [] ys = omega arith
times_both frame (x ∷ xs) ys = let rest = times_both frame xs ys in omega (arith, rest)

-- TC1* sends again only where a repeat is left
again_left : (now : ℕ) (r : Repetition) → tc1_firing now r ≡ Again → 1 ≤ r.repeats_left
again_left now r e = more (ltb now r.due) (eqb r.repeats_left 0) refl e where
  some : (n : ℕ) → eqb n 0 ≡ false → 1 ≤ n
  some zero e = absurd cc
  some (suc n) e = omega arith

  more : (b z : Bool) → eqb r.repeats_left 0 ≡ z → cond b Idle (cond z Closes Again) ≡ Again → 1 ≤ r.repeats_left
  more true z t e = absurd cc
  more false true t e = absurd cc
  more false false t e = some r.repeats_left t

one_less : (b : Bool) (n : ℕ) → 1 ≤ n → (cond b 1 0 + 0) + cond b (n - 1) 0 ≤ cond b n 0
one_less true n h = omega arith
one_less false n h = omega arith

begun_again : (frame : List ℕ) (now : ℕ) (late : Bool) (n : ℕ) (r : Option Repetition) (other : List ℕ) (closes : ℕ) → cond late (repetition_firing now r) Closes ≡ Again
    → (let b : Begun = record { identifier = n; frame = other; repetition = r; closes = closes } in
    times frame (begun_frames (Some b)) + begun_left frame (begun_fired now Again (Some b)) ≤ begun_left frame (Some b))
begun_again frame now false n r other closes e = absurd cc
begun_again frame now true n None other closes e = absurd cc
begun_again frame now true n (Some r) other closes e = one_less (bytes_eq frame other) r.repeats_left (again_left now r e)

begun_spends : (frame : List ℕ) (now : ℕ) (f : Firing) (b : Option Begun) → f ≡ begun_firing now b → times frame (if_again f (begun_frames b)) + begun_left frame (begun_fired now f b) ≤ begun_left frame b
begun_spends frame now Idle b e = omega arith
begun_spends frame now Closes b e = omega arith
begun_spends frame now Again None e = absurd cc
begun_spends frame now Again (Some b) e = begun_again frame now (ltb now b.closes) b.identifier b.repetition b.frame b.closes (sym e)

opened_again : (frame : List ℕ) (now i : ℕ) (opening : List ℕ) (a : Option Answer) → answer_firing now a ≡ Again
    → (let o : Opened = record { identifier = i; opening = opening; answer = a } in
    times frame (answer_frames (Some o)) + opened_left frame (opened_fired now Again (Some o)) ≤ opened_left frame (Some o))
opened_again frame now i opening None e = absurd cc
opened_again frame now i opening (Some a) e = one_less (bytes_eq frame a.frame) a.repetition.repeats_left (again_left now a.repetition e)

opened_spends : (frame : List ℕ) (now : ℕ) (f : Firing) (o : Option Opened) → f ≡ opened_firing now o → times frame (if_again f (answer_frames o)) + opened_left frame (opened_fired now f o) ≤ opened_left frame o
opened_spends frame now Idle o e = omega arith
opened_spends frame now Closes o e = omega arith
opened_spends frame now Again None e = absurd cc
opened_spends frame now Again (Some o) e = opened_again frame now o.identifier o.opening o.answer (sym e)

fire_spends : (frame : List ℕ) (now : ℕ) (s : LinkState) → Spends frame 0 (times frame (fire_step now s).out.frames) s (fire_step now s)
unfolding fire_step
fire_spends frame now s =
    let mine = begun_spends frame now (begun_firing now s.begun) s.begun refl in
    let theirs = opened_spends frame now (opened_firing now s.opened) s.opened refl in
    let all = times_both frame (if_again (begun_firing now s.begun) (begun_frames s.begun)) (if_again (opened_firing now s.opened) (answer_frames s.opened)) in
    omega (arith, mine, theirs, all)

-- ---- runs

spends : (frame : List ℕ) (c : Call) (s : LinkState) → Spends frame (sent_by frame c (step c s).out) (repeated_by frame c (step c s).out) s (step c s)
unfolding reply_step take_step
spends frame (Begin now unit) s = begin_spends frame now unit s.next_identifier s.begun s.opened s.last_answer s.last_opening
spends frame (Reply now unit) s = reply_spends frame now unit s.next_identifier s.begun s.opened s.last_answer s.last_opening
spends frame (Take other) s = taken_spends frame other s (cp_at other)
spends frame (Fire now) s = fire_spends frame now s

run_spends : (frame : List ℕ) (cs : List Call) (s : LinkState) → repeats frame cs s + left frame (run cs s) ≤ 2 * sendings frame cs s + left frame s
run_spends frame [] s = omega arith
run_spends frame (c ∷ cs) s =
    let here = spends frame c s in
    let more = run_spends frame cs (step c s).state in
    omega (arith, here, more)

-- ---- at most two are left: the two transactions have frames of their own, each with at most two repeats left

abbrev Few : Option Repetition → Type 0
Few None = Unit {0}
Few (Some r) = r.repeats_left ≤ 2

-- CP-DATA of this side's transactions begins with an octet below 128, of the other side's with one from 128 on.
abbrev SoundBegun : Option Begun → Type 0
SoundBegun None = Unit {0}
SoundBegun (Some b) = (get_or b.frame 0 0 < 128) × Few b.repetition

abbrev SoundAnswer : Option Answer → Type 0
SoundAnswer None = Unit {0}
SoundAnswer (Some a) = (128 ≤ get_or a.frame 0 0) × (a.repetition.repeats_left ≤ 2)

abbrev SoundOpened : Option Opened → Type 0
SoundOpened None = Unit {0}
SoundOpened (Some o) = SoundAnswer o.answer

record Sound (s : LinkState) : Type 0 where
  next : s.next_identifier < 7
  begun : SoundBegun s.begun
  opened : SoundOpened s.opened

abbrev Unchanged : Step → Type 0
Unchanged t = Sound t.state

begin_sound : (now : ℕ) (unit : List ℕ) (s : LinkState) → Sound s → Unchanged (begin_step now unit s)
unfolding begin_step
begin_sound now unit s h =
    let small = h.next in
    either Unchanged (is_some s.begun) (quiet s) _ h (record { next = omega arith; begun = (omega arith, omega arith); opened = h.opened })

reply_sound : (now : ℕ) (unit : List ℕ) (n : ℕ) (b : Option Begun) (o : Option Opened) (a p : Option (List ℕ)) → Sound (state_of n b o a p) → Unchanged (reply_in now unit (state_of n b o a p) o)
reply_sound now unit n b None a p h = h
reply_sound now unit n b (Some o) a p h =
    either Unchanged (is_none o.answer) _ (quiet (state_of n b (Some o) a p)) (record { next = h.next; begun = h.begun; opened = (omega arith, omega arith) }) h

stopped_sound : (b : Option Begun) → SoundBegun b → SoundBegun (option_map (λ (b : Begun). record b { repetition = None }) b)
stopped_sound None h = tt
stopped_sound (Some b) h = (h.0, tt)

module _ (s : LinkState) (h : Sound s) where
  data_sound : (f : TransactionFlag) (frame unit : List ℕ) (t : Transaction) → Unchanged (data_taken f frame unit t s)
  data_sound ToOriginator frame unit t =
      either Unchanged (has_begun t.identifier s.begun) _ _ (record { next = h.next; begun = tt; opened = h.opened }) (either Unchanged (is_same frame s.last_answer) _ _ h h)
  data_sound FromOriginator frame unit t =
      either Unchanged (is_same frame (opening_of s.opened)) _ _ h (either Unchanged (is_same frame s.last_opening) _ _ h (record { next = h.next; begun = h.begun; opened = tt }))

  ack_sound : (f : TransactionFlag) (i : ℕ) → Unchanged (ack_taken f i s)
  ack_sound ToOriginator i = either Unchanged (has_begun i s.begun) _ _ (record { next = h.next; begun = stopped_sound s.begun h.begun; opened = h.opened }) h
  ack_sound FromOriginator i = either Unchanged (has_opened i s.opened && is_some (answer_of s.opened)) _ _ (record { next = h.next; begun = h.begun; opened = tt }) h

  error_sound : (f : TransactionFlag) (i : ℕ) → Unchanged (error_taken f i s)
  error_sound ToOriginator i = either Unchanged (has_begun i s.begun) _ _ (record { next = h.next; begun = tt; opened = h.opened }) h
  error_sound FromOriginator i = either Unchanged (has_opened i s.opened) _ _ (record { next = h.next; begun = h.begun; opened = tt }) h

  taken_sound : (frame : List ℕ) (r : Result Cp CpFault) → Unchanged (frame_taken frame s r)
  taken_sound frame (Err f) = h
  taken_sound frame (Ok (DataUnit t unit)) = data_sound t.flag frame unit t
  taken_sound frame (Ok (AckUnit t)) = ack_sound t.flag t.identifier
  taken_sound frame (Ok (ErrorUnit t c)) = error_sound t.flag t.identifier

few_again : (now : ℕ) (r : Option Repetition) → Few r → Few (option_map (sent_again now) r)
few_again now None h = tt
few_again now (Some r) h = omega arith

fired_begun : (now : ℕ) (f : Firing) (b : Option Begun) → SoundBegun b → SoundBegun (begun_fired now f b)
fired_begun now Idle b h = h
fired_begun now Closes b h = tt
fired_begun now Again None h = tt
fired_begun now Again (Some b) h = (h.0, few_again now b.repetition h.1)

again_answer : (now : ℕ) (a : Option Answer) → SoundAnswer a → SoundAnswer (option_map (λ (a : Answer). record a { repetition = sent_again now a.repetition }) a)
again_answer now None h = tt
again_answer now (Some a) h = (h.0, let top = h.1 in omega arith)

fired_opened : (now : ℕ) (f : Firing) (o : Option Opened) → SoundOpened o → SoundOpened (opened_fired now f o)
fired_opened now Idle o h = h
fired_opened now Closes o h = tt
fired_opened now Again None h = tt
fired_opened now Again (Some o) h = again_answer now o.answer h

step_sound : (c : Call) (s : LinkState) → Sound s → Unchanged (step c s)
unfolding reply_step take_step fire_step
step_sound (Begin now unit) s h = begin_sound now unit s h
step_sound (Reply now unit) s h = reply_sound now unit s.next_identifier s.begun s.opened s.last_answer s.last_opening h
step_sound (Take frame) s h = taken_sound s h frame (cp_at frame)
step_sound (Fire now) s h = record { next = h.next; begun = fired_begun now (begun_firing now s.begun) s.begun h.begun; opened = fired_opened now (opened_firing now s.opened) s.opened h.opened }

run_sound : (cs : List Call) (s : LinkState) → Sound s → Sound (run cs s)
run_sound [] s h = h
run_sound (c ∷ cs) s h = run_sound cs (step c s).state (step_sound c s h)

apart : (frame low high : List ℕ) (x y : Bool) (m n : ℕ) → bytes_eq frame low ≡ x → bytes_eq frame high ≡ y → get_or low 0 0 < 128 → 128 ≤ get_or high 0 0 → m ≤ 2 → n ≤ 2 → cond x m 0 + cond y n 0 ≤ 2
apart frame low high true true m n e f l h a b =
    let same : get_or low 0 0 ≡ get_or high 0 0 = ap (λ (xs : List ℕ). get_or xs 0 0) (sym (same_octets frame low e) ∙ same_octets frame high f) in
    absurd (omega (arith, same, l, h))
apart frame low high true false m n e f l h a b = omega arith
apart frame low high false true m n e f l h a b = omega arith
apart frame low high false false m n e f l h a b = omega arith

at_most : (b : Bool) (m : ℕ) → m ≤ 2 → cond b m 0 ≤ 2
at_most true m h = h
at_most false m h = omega arith

few_left : (r : Option Repetition) → Few r → left_of r ≤ 2
few_left None h = omega arith
few_left (Some r) h = h

answer_few : (frame : List ℕ) (a : Option Answer) → SoundAnswer a → answer_left frame a ≤ 2
answer_few frame None h = omega arith
answer_few frame (Some a) h = at_most (bytes_eq frame a.frame) a.repetition.repeats_left h.1

opened_few : (frame : List ℕ) (o : Option Opened) → SoundOpened o → opened_left frame o ≤ 2
opened_few frame None h = omega arith
opened_few frame (Some o) h = answer_few frame o.answer h

both_answer : (frame : List ℕ) (b : Begun) (a : Option Answer) → SoundBegun (Some b) → SoundAnswer a → begun_left frame (Some b) + answer_left frame a ≤ 2
both_answer frame b None h k = let top = at_most (bytes_eq frame b.frame) (left_of b.repetition) (few_left b.repetition h.1) in omega (arith, top)
both_answer frame b (Some a) h k =
    apart frame b.frame a.frame (bytes_eq frame b.frame) (bytes_eq frame a.frame) (left_of b.repetition) a.repetition.repeats_left refl refl h.0 k.0 (few_left b.repetition h.1) k.1

both_few : (frame : List ℕ) (b : Option Begun) (o : Option Opened) → SoundBegun b → SoundOpened o → begun_left frame b + opened_left frame o ≤ 2
both_few frame None o h k = let top = opened_few frame o k in omega (arith, top)
both_few frame (Some b) None h k = both_answer frame b None h tt
both_few frame (Some b) (Some o) h k = both_answer frame b o.answer h k

pub repeats_at_most_twice : (before after : List Call) (frame : List ℕ) → sendings frame after (run before fresh) ≡ 0 → repeats frame after (run before fresh) ≤ 2
repeats_at_most_twice before after frame none =
    let s = run before fresh in
    let sound : Sound s = run_sound before fresh (record { next = omega arith; begun = tt; opened = tt }) in
    let top = both_few frame s.begun s.opened sound.begun sound.opened in
    let all = run_spends frame after s in
    omega (arith, all, top, none)
