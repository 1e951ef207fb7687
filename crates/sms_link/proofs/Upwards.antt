-- What goes up: an opened unit waits for its reply, and a transfer that ended was under way and leaves the link free.
use Rattle.std.proofs.Common.{◌≡◌, ℕ, List, true, false, refl, ◌∙◌, ap, Option, Some, None, Result, Ok, Err, is_some}
use Rattle.std.specs.Prelude.{◌&&◌}
use Rattle.std.specs.Option.{option_map}
use Rattle.std.proofs.lemmas.Bool.{cond-true, cond-false}
use Rattle.sms_base.specs.declared.holder.Holder.{Holder}
use Rattle.sms_control.specs.declared.fault.CpFault.{CpFault}
use Rattle.sms_control.specs.declared.link_state.LinkState.{LinkState}
use Rattle.sms_control.specs.declared.message.Cp.{Cp}
use Rattle.sms_control.specs.declared.message.Cp.TheVariants.{DataUnit, AckUnit, ErrorUnit}
use Rattle.sms_control.specs.declared.transaction.Transaction.{Transaction}
use Rattle.sms_control.specs.declared.transaction.TransactionFlag.{TransactionFlag}
use Rattle.sms_control.specs.declared.transaction.TransactionFlag.TheVariants.{FromOriginator, ToOriginator}
use Rattle.sms_control.specs.ControlReading.{cp_at}
use Rattle.sms_control.specs.Timers.{begun_firing, opened_firing}
use Rattle.sms_control.specs.LinkStep.{Step, is_busy, awaits_reply, begin_step, reply_step, is_same, has_begun, has_opened, answer_of, opening_of, answer_taken, opening_taken, data_taken, ack_taken, error_taken, frame_taken, take_step, fired as links_fired, fire_step}
use Rattle.sms_control.proofs.LinkLaws.{either}
use Rattle.sms_control.proofs.FiringCases.{firing_cases}
use Rattle.sms_base.specs.declared.carried.Kind.{Kind}
use Rattle.sms_base.specs.declared.carried.Kind.TheVariants.{Data}
use Rattle.sms_base.specs.declared.carried.Carried.{Carried}
use Rattle.sms_link.specs.declared.ending.Ending.{Ending}
use Rattle.sms_link.specs.declared.ending.Ending.TheVariants.{Lost}
use Rattle.sms_link.specs.declared.ending.Upward.{Upward}
use Rattle.sms_link.specs.declared.ending.Upward.TheVariants.{Opened, Ended}
use Rattle.sms_link.specs.LinkTurn.{LinkOf, still, of_kind, started, begun, answering, replied, passed_up, taken, fired}

pub begun_free : (now reference : ℕ) (tag : Holder) (unit : List ℕ) (l : LinkOf) → is_busy l.links ≡ false
    → begun now reference tag unit l ≡ started (of_kind Data reference tag) (begin_step now unit l.links) l
begun_free now reference tag unit l e = cond-false (is_busy l.links) (still l) (started (of_kind Data reference tag) (begin_step now unit l.links) l) e

pub replied_waiting : (now : ℕ) (kind : Kind) (reference : ℕ) (tag : Holder) (unit : List ℕ) (l : LinkOf) → awaits_reply l.links ≡ true
    → replied now kind reference tag unit l ≡ answering (of_kind kind reference tag) (reply_step now unit l.links) l
replied_waiting now kind reference tag unit l e = cond-true (awaits_reply l.links) (answering (of_kind kind reference tag) (reply_step now unit l.links) l) (still l) e

-- where that goes up, the step left a unit that waits, or a link that is free
abbrev MayPassUp : LinkOf → Upward → Step → Type 0
MayPassUp l (Opened unit) step = awaits_reply step.state ≡ true
MayPassUp l (Ended transfer ending) step = (l.under_way ≡ Some transfer) × (is_busy step.state ≡ false)

abbrev Right : LinkOf → Upward → Step → Type 0
Right l up step = passed_up l.side l.under_way step.out.up ≡ Some up → MayPassUp l up step

-- a transaction that ended
ended_right : (u : Option Carried) (f : Carried → Ending) (l : LinkOf) (up : Upward) (step : Step) → l.under_way ≡ u → is_busy step.state ≡ false
    → option_map (λ (t : Carried). Ended t (f t)) u ≡ Some up → MayPassUp l up step
ended_right None f l up step e free q = absurd cc
ended_right (Some t) f l (Opened unit) step e free q = absurd cc
ended_right (Some t) f l (Ended transfer ending) step e free q = let same : t ≡ transfer = cc in (e ∙ ap (λ (x : Carried). Some x) same, free)

module _ (l : LinkOf) (up : Upward) where
  abbrev s : LinkState
  s = l.links

  answer_right : (frame unit : List ℕ) (t : Transaction) → Right l up (answer_taken frame unit t s)
  answer_right frame unit t =
      either (Right l up) (has_begun t.identifier s.begun) _ _ (λ q. ended_right l.under_way _ l up _ refl refl q)
      (either (Right l up) (is_same frame s.last_answer) _ _ (λ q. absurd cc) (λ q. absurd cc))

  told_opened : (unit frame : List ℕ) (i : ℕ) (u : Upward) (step : Step) → step.state ≡ record s { opened = Some (record { identifier = i; opening = frame; answer = None }) }
      → Some (Opened unit) ≡ Some u → MayPassUp l u step
  told_opened unit frame i (Opened x) step e q = ap (λ (z : LinkState). awaits_reply z) e
  told_opened unit frame i (Ended t k) step e q = absurd cc

  opening_right : (frame unit : List ℕ) (t : Transaction) → Right l up (opening_taken frame unit t s)
  opening_right frame unit t =
      either (Right l up) (is_same frame (opening_of s.opened)) _ _ (λ q. absurd cc)
      (either (Right l up) (is_same frame s.last_opening) _ _ (λ q. absurd cc) (λ q. told_opened unit frame t.identifier up _ refl q))

  data_right : (flag : TransactionFlag) (frame unit : List ℕ) (t : Transaction) → Right l up (data_taken flag frame unit t s)
  data_right ToOriginator frame unit t = answer_right frame unit t
  data_right FromOriginator frame unit t = opening_right frame unit t

  ack_right : (flag : TransactionFlag) (i : ℕ) → Right l up (ack_taken flag i s)
  ack_right ToOriginator i = either (Right l up) (has_begun i s.begun) _ _ (λ q. absurd cc) (λ q. absurd cc)
  ack_right FromOriginator i = either (Right l up) (has_opened i s.opened && is_some (answer_of s.opened)) _ _ (λ q. absurd cc) (λ q. absurd cc)

  error_right : (flag : TransactionFlag) (i : ℕ) → Right l up (error_taken flag i s)
  error_right ToOriginator i = either (Right l up) (has_begun i s.begun) _ _ (λ q. ended_right l.under_way (λ t. Lost) l up _ refl refl q) (λ q. absurd cc)
  error_right FromOriginator i = either (Right l up) (has_opened i s.opened) _ _ (λ q. absurd cc) (λ q. absurd cc)

  frame_right : (frame : List ℕ) (r : Result Cp CpFault) → Right l up (frame_taken frame s r)
  frame_right frame (Err fault) = λ q. absurd cc
  frame_right frame (Ok (DataUnit t unit)) = data_right t.flag frame unit t
  frame_right frame (Ok (AckUnit t)) = ack_right t.flag t.identifier
  frame_right frame (Ok (ErrorUnit t cause)) = error_right t.flag t.identifier

  take_right : (frame : List ℕ) → Right l up (take_step frame s)
  unfolding take_step
  take_right frame = frame_right frame (cp_at frame)

  fire_right : (now : ℕ) → Right l up (fire_step now s)
  unfolding fire_step
  fire_right now =
      firing_cases (λ f. Right l up (links_fired now f (opened_firing now s.opened) s)) (λ q. absurd cc) (λ q. absurd cc)
      (λ q. ended_right l.under_way (λ t. Lost) l up _ refl refl q) (begun_firing now s.begun)

pub opened_waits : (frame unit : List ℕ) (l : LinkOf) → (taken frame l).out.up ≡ Some (Opened unit) → awaits_reply (taken frame l).link.links ≡ true
opened_waits frame unit l q = take_right l (Opened unit) frame q

pub ended_was_under_way : (frame : List ℕ) (transfer : Carried) (ending : Ending) (l : LinkOf) → (taken frame l).out.up ≡ Some (Ended transfer ending)
    → (l.under_way ≡ Some transfer) × (is_busy (taken frame l).link.links ≡ false)
ended_was_under_way frame transfer ending l q = take_right l (Ended transfer ending) frame q

pub fired_was_under_way : (now : ℕ) (transfer : Carried) (ending : Ending) (l : LinkOf) → (fired now l).out.up ≡ Some (Ended transfer ending)
    → (l.under_way ≡ Some transfer) × (is_busy (fired now l).link.links ≡ false)
fired_was_under_way now transfer ending l q = fire_right l (Ended transfer ending) now q
