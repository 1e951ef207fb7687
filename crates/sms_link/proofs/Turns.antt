-- Transfers of this side take turns, and one is under way exactly while the link is busy.
use Rattle.std.proofs.Common.{◌≡◌, ℕ, List, [], ◌∷◌, true, false, refl, sym, ◌∙◌, ap, subst, Option, Some, None, Result, Ok, Err, is_some, is_none}
use Rattle.std.specs.Prelude.{◌&&◌}
use Rattle.std.specs.Option.{option_map}
use Rattle.sms_base.specs.declared.holder.Holder.{Holder}
use Rattle.sms_base.specs.declared.carried.Carried.{Carried}
use Rattle.sms_base.specs.declared.carried.Kind.{Kind}
use Rattle.sms_base.specs.declared.carried.Kind.TheVariants.{Data}
use Rattle.sms_control.specs.declared.fault.CpFault.{CpFault}
use Rattle.sms_control.specs.declared.link_state.Begun.{Begun}
use Rattle.sms_control.specs.declared.link_state.Opened.{Opened}
use Rattle.sms_control.specs.declared.link_state.LinkState.{LinkState}
use Rattle.sms_control.specs.declared.message.Cp.{Cp}
use Rattle.sms_control.specs.declared.message.Cp.TheVariants.{DataUnit, AckUnit, ErrorUnit}
use Rattle.sms_control.specs.declared.out.Up.{Up}
use Rattle.sms_control.specs.declared.out.Up.TheVariants.{Unit as UnitUp, Failed}
use Rattle.sms_control.specs.declared.transaction.Transaction.{Transaction}
use Rattle.sms_control.specs.declared.transaction.TransactionFlag.{TransactionFlag}
use Rattle.sms_control.specs.declared.transaction.TransactionFlag.TheVariants.{FromOriginator, ToOriginator}
use Rattle.sms_control.specs.ControlReading.{cp_at}
use Rattle.sms_control.specs.Timers.{begun_firing, opened_firing}
use Rattle.sms_control.specs.LinkStep.{Step, quiet, is_busy, awaits_reply, begin_step, reply_in, reply_step, is_same, has_begun, has_opened, answer_of, opening_of, answer_taken, opening_taken, data_taken, ack_taken, error_taken, frame_taken, take_step, fired as links_fired, fire_step}
use Rattle.sms_control.proofs.LinkLaws.{either, state_of}
use Rattle.sms_control.proofs.FiringCases.{firing_cases}
use Rattle.sms_link.specs.declared.ending.Ending.{Ending}
use Rattle.sms_link.specs.declared.ending.Ending.TheVariants.{Lost}
use Rattle.sms_link.specs.declared.ending.Side.{Side}
use Rattle.sms_link.specs.declared.ending.Upward.{Upward}
use Rattle.sms_link.specs.declared.ending.Upward.TheVariants.{Ended}
use Rattle.sms_link.specs.Ending.{unit_at, ended_by}
use Rattle.sms_link.specs.LinkTurn.{LinkOf, Turn, new_link, still, carrying, of_kind, started, begun, answering, replied, heard}
use Rattle.sms_link.specs.LinkCalls.{LinkCall, Begin, Reply, Take, Fire, turn, run, TurnBegins, TurnEnds, TakesTurns}
use Rattle.sms_link.proofs.Known.{by_test, begin_is}

-- ---- steps of the links' own: what comes up tells whether the transaction under way has ended

abbrev Moves : LinkState → LinkState → Option Up → Type 0
Moves s t None = is_busy t ≡ is_busy s
Moves s t (Some (UnitUp FromOriginator unit)) = is_busy t ≡ is_busy s
Moves s t (Some (UnitUp ToOriginator unit)) = (is_busy s ≡ true) × (is_busy t ≡ false)
Moves s t (Some Failed) = (is_busy s ≡ true) × (is_busy t ≡ false)

abbrev Right : LinkState → Step → Type 0
Right s t = Moves s t.state t.out.up

map_busy : (f : Begun → Begun) (b : Option Begun) → is_some (option_map f b) ≡ is_some b
map_busy f None = refl
map_busy f (Some b) = refl

answer_moves : (frame unit : List ℕ) (t : Transaction) (n : ℕ) (b : Option Begun) (o : Option Opened) (a p : Option (List ℕ)) → Right (state_of n b o a p) (answer_taken frame unit t (state_of n b o a p))
answer_moves frame unit t n None o a p = let s = state_of n None o a p in either (Right s) (is_same frame a) _ _ refl refl
answer_moves frame unit t n (Some b) o a p =
    let s = state_of n (Some b) o a p in
    either (Right s) (has_begun t.identifier (Some b)) _ _ (refl, refl) (either (Right s) (is_same frame a) _ _ refl refl)

opening_moves : (frame unit : List ℕ) (t : Transaction) (s : LinkState) → Right s (opening_taken frame unit t s)
opening_moves frame unit t s = either (Right s) (is_same frame (opening_of s.opened)) _ _ refl (either (Right s) (is_same frame s.last_opening) _ _ refl refl)

data_moves : (f : TransactionFlag) (frame unit : List ℕ) (t : Transaction) (s : LinkState) → Right s (data_taken f frame unit t s)
data_moves ToOriginator frame unit t s = answer_moves frame unit t s.next_identifier s.begun s.opened s.last_answer s.last_opening
data_moves FromOriginator frame unit t s = opening_moves frame unit t s

ack_moves : (f : TransactionFlag) (i : ℕ) (s : LinkState) → Right s (ack_taken f i s)
ack_moves ToOriginator i s = either (Right s) (has_begun i s.begun) _ _ (map_busy (λ b. record b { repetition = None }) s.begun) refl
ack_moves FromOriginator i s = either (Right s) (has_opened i s.opened && is_some (answer_of s.opened)) _ _ refl refl

fail_moves : (i n : ℕ) (b : Option Begun) (o : Option Opened) (a p : Option (List ℕ)) → Right (state_of n b o a p) (error_taken ToOriginator i (state_of n b o a p))
fail_moves i n None o a p = refl
fail_moves i n (Some b) o a p = let s = state_of n (Some b) o a p in either (Right s) (has_begun i (Some b)) _ _ (refl, refl) refl

error_moves : (f : TransactionFlag) (i : ℕ) (s : LinkState) → Right s (error_taken f i s)
error_moves ToOriginator i s = fail_moves i s.next_identifier s.begun s.opened s.last_answer s.last_opening
error_moves FromOriginator i s = either (Right s) (has_opened i s.opened) _ _ refl refl

frame_moves : (frame : List ℕ) (s : LinkState) (r : Result Cp CpFault) → Right s (frame_taken frame s r)
frame_moves frame s (Err fault) = refl
frame_moves frame s (Ok (DataUnit t unit)) = data_moves t.flag frame unit t s
frame_moves frame s (Ok (AckUnit t)) = ack_moves t.flag t.identifier s
frame_moves frame s (Ok (ErrorUnit t cause)) = error_moves t.flag t.identifier s

take_moves : (frame : List ℕ) (s : LinkState) → Right s (take_step frame s)
unfolding take_step
take_moves frame s = frame_moves frame s (cp_at frame)

fire_moves_at : (now n : ℕ) (b : Option Begun) (o : Option Opened) (a p : Option (List ℕ)) → Right (state_of n b o a p) (fire_step now (state_of n b o a p))
unfolding fire_step
fire_moves_at now n None o a p = refl
fire_moves_at now n (Some b) o a p =
    firing_cases (λ f. Right (state_of n (Some b) o a p) (links_fired now f (opened_firing now o) (state_of n (Some b) o a p))) refl refl (refl, refl) (begun_firing now (Some b))

fire_moves : (now : ℕ) (s : LinkState) → Right s (fire_step now s)
fire_moves now s = fire_moves_at now s.next_identifier s.begun s.opened s.last_answer s.last_opening

-- ---- a transfer is under way exactly while the link is busy

abbrev pub Agrees : LinkOf → Type 0
Agrees l = is_busy l.links ≡ is_some l.under_way

-- a step of the links' own, by what it leaves and what comes up
abbrev step_of : LinkState → List (List ℕ) → Option Up → Step
step_of t frames up = record { state = t; out = record { frames = frames; up = up } }

agrees_heard : (t : LinkState) (fs : List (List ℕ)) (up : Option Up) (l : LinkOf) → Agrees l → Moves l.links t up → Agrees (heard (step_of t fs up) l).link
agrees_heard t fs None l h k = k ∙ h
agrees_heard t fs (Some (UnitUp FromOriginator unit)) l h k = k ∙ h
agrees_heard t fs (Some (UnitUp ToOriginator unit)) l h k = k.1
agrees_heard t fs (Some Failed) l h k = k.1

reply_keeps : (now : ℕ) (unit : List ℕ) (s : LinkState) (o : Option Opened) → is_busy (reply_in now unit s o).state ≡ is_busy s
reply_keeps now unit s None = refl
reply_keeps now unit s (Some o) = either (λ (t : Step). is_busy t.state ≡ is_busy s) (is_none o.answer) _ (quiet s) refl refl

agrees_begun : (now reference : ℕ) (tag : Holder) (unit : List ℕ) (l : LinkOf) → Agrees l → Agrees (begun now reference tag unit l).link
agrees_begun now reference tag unit l h =
    by_test (λ (t : Turn). Agrees t.link) (is_busy l.links) (still l) (started (of_kind Data reference tag) (begin_step now unit l.links) l) (λ e. h)
    (λ e. ap (λ (step : Step). is_busy step.state) (begin_is now unit l.links e))

agrees_replied : (now : ℕ) (kind : Kind) (reference : ℕ) (tag : Holder) (unit : List ℕ) (l : LinkOf) → Agrees l → Agrees (replied now kind reference tag unit l).link
unfolding reply_step
agrees_replied now kind reference tag unit l h =
    by_test (λ (t : Turn). Agrees t.link) (awaits_reply l.links) (answering (of_kind kind reference tag) (reply_step now unit l.links) l) (still l)
    (λ e. reply_keeps now unit l.links l.links.opened ∙ h) (λ e. h)

agrees : (c : LinkCall) (l : LinkOf) → Agrees l → Agrees (turn c l).link
agrees (Begin now reference tag unit) l h = agrees_begun now reference tag unit l h
agrees (Reply now kind reference tag unit) l h = agrees_replied now kind reference tag unit l h
agrees (Take frame) l h = let step = take_step frame l.links in agrees_heard step.state step.out.frames step.out.up l h (take_moves frame l.links)
agrees (Fire now) l h = let step = fire_step now l.links in agrees_heard step.state step.out.frames step.out.up l h (fire_moves now l.links)

run_agrees : (cs : List LinkCall) (l : LinkOf) → Agrees l → Agrees (run cs l)
run_agrees [] l h = h
run_agrees (c ∷ cs) l h = run_agrees cs (turn c l).link (agrees c l h)

pub busy_while_under_way : (side : Side) (cs : List LinkCall) → is_busy (run cs (new_link side)).links ≡ is_some (run cs (new_link side)).under_way
busy_while_under_way side cs = run_agrees cs (new_link side) refl

-- ---- turns

ended_is : (ending : Carried → Ending) (u : Option Carried) → is_some u ≡ true
    → (transfer : Carried) × (u ≡ Some transfer) × (option_map (λ (t : Carried). Ended t (ending t)) u ≡ Some (Ended transfer (ending transfer)))
ended_is ending None e = absurd cc
ended_is ending (Some t) e = (t, refl, refl)

none_is : (u : Option Carried) → is_some u ≡ false → u ≡ None
none_is None e = refl
none_is (Some t) e = absurd cc

module _ (Rest : Option Carried → LinkOf → Type 0) (go : (w : Option Carried) (l : LinkOf) → l.under_way ≡ w → Agrees l → Rest w l) where
  ended_turns : (ending : Carried → Ending) (w : Option Carried) (l m : LinkOf) → l.under_way ≡ w → is_some l.under_way ≡ true → Rest None m
      → TurnEnds (option_map (λ (t : Carried). Ended t (ending t)) l.under_way) w (λ next. Rest next m)
  ended_turns ending w l m h some rest =
      let e = ended_is ending l.under_way some in
      subst (λ (up : Option Upward). TurnEnds up w (λ next. Rest next m)) (sym e.2) (sym h ∙ e.1, rest)

  heard_turns : (t : LinkState) (fs : List (List ℕ)) (up : Option Up) (w : Option Carried) (l : LinkOf) → l.under_way ≡ w → Agrees l → Moves l.links t up
      → (let turn = heard (step_of t fs up) l in TurnEnds turn.out.up w (λ next. Rest next turn.link))
  heard_turns t fs None w l h a k = go w (heard (step_of t fs None) l).link h (agrees_heard t fs None l a k)
  heard_turns t fs (Some (UnitUp FromOriginator unit)) w l h a k =
      let up : Option Up = Some (UnitUp FromOriginator unit) in go w (heard (step_of t fs up) l).link h (agrees_heard t fs up l a k)
  heard_turns t fs (Some (UnitUp ToOriginator unit)) w l h a k =
      let m = (heard (step_of t fs (Some (UnitUp ToOriginator unit))) l).link in
      ended_turns (λ transfer. ended_by transfer.reference (unit_at l.side unit)) w l m h (sym a ∙ k.0) (go None m refl k.1)
  heard_turns t fs (Some Failed) w l h a k =
      let m = (heard (step_of t fs (Some Failed)) l).link in
      ended_turns (λ transfer. Lost) w l m h (sym a ∙ k.0) (go None m refl k.1)

  begun_turns : (now reference : ℕ) (tag : Holder) (unit : List ℕ) (w : Option Carried) (l : LinkOf) → l.under_way ≡ w → Agrees l
      → (let turn = begun now reference tag unit l in TurnBegins (of_kind Data reference tag) turn.out.frames w (λ next. Rest next turn.link))
  begun_turns now reference tag unit w l h a =
      let carried = of_kind Data reference tag in
      let P : Turn → Type 0 = λ turn. TurnBegins carried turn.out.frames w (λ next. Rest next turn.link) in
      by_test P (is_busy l.links) (still l) (started carried (begin_step now unit l.links) l) (λ e. go w l h a)
      (λ e.
      let step = begin_step now unit l.links in
      let is = begin_is now unit l.links e in
      let busy : is_busy step.state ≡ true = ap (λ (s : Step). is_busy s.state) is in
      let none : w ≡ None = sym h ∙ none_is l.under_way (sym a ∙ e) in
      let rest : Rest (Some carried) (started carried step l).link = go (Some carried) (started carried step l).link refl busy in
      subst (λ (fs : List (List ℕ)). TurnBegins carried (carrying (Some carried) fs) w (λ next. Rest next (started carried step l).link)) (sym (ap (λ (s : Step). s.out.frames) is)) (none, rest))

  replied_turns : (now : ℕ) (kind : Kind) (reference : ℕ) (tag : Holder) (unit : List ℕ) (w : Option Carried) (l : LinkOf) → l.under_way ≡ w → Agrees l → Rest w (replied now kind reference tag unit l).link
  replied_turns now kind reference tag unit w l h a =
      by_test (λ (t : Turn). Agrees t.link → Rest w t.link) (awaits_reply l.links) (answering (of_kind kind reference tag) (reply_step now unit l.links) l) (still l)
      (λ e k. go w (answering (of_kind kind reference tag) (reply_step now unit l.links) l).link h k) (λ e k. go w l h k) (agrees_replied now kind reference tag unit l a)

turns : (cs : List LinkCall) (w : Option Carried) (l : LinkOf) → l.under_way ≡ w → Agrees l → TakesTurns cs l w
turns [] w l h a = tt
turns (Begin now reference tag unit ∷ cs) w l h a = begun_turns (λ v m. TakesTurns cs m v) (λ v m e k. turns cs v m e k) now reference tag unit w l h a
turns (Reply now kind reference tag unit ∷ cs) w l h a = replied_turns (λ v m. TakesTurns cs m v) (λ v m e k. turns cs v m e k) now kind reference tag unit w l h a
turns (Take frame ∷ cs) w l h a =
    let step = take_step frame l.links in
    heard_turns (λ v m. TakesTurns cs m v) (λ v m e k. turns cs v m e k) step.state step.out.frames step.out.up w l h a (take_moves frame l.links)
turns (Fire now ∷ cs) w l h a =
    let step = fire_step now l.links in
    heard_turns (λ v m. TakesTurns cs m v) (λ v m e k. turns cs v m e k) step.state step.out.frames step.out.up w l h a (fire_moves now l.links)

pub take_turns : (side : Side) (cs : List LinkCall) → TakesTurns cs (new_link side) None
take_turns side cs = turns cs None (new_link side) refl refl
