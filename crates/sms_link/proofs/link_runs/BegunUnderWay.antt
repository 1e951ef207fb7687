-- What is under way at one end of a link is what its links have begun, under the same identifier.
use Rattle.std.proofs.Common.{◌≡◌, ℕ, ◌<◌, arith, List, [], ◌∷◌, refl, sym, ap, subst, Option, Some, None}
use Rattle.std.specs.Option.{option_map}
use Rattle.sms_base.specs.declared.carried.Carried.{Carried}
use Rattle.sms_base.specs.declared.carried.Kind.{Kind}
use Rattle.sms_base.specs.declared.carried.Kind.TheVariants.{Data}
use Rattle.sms_base.specs.declared.holder.Holder.{Holder}
use Rattle.sms_control.specs.declared.link_state.Begun.{Begun}
use Rattle.sms_control.specs.declared.link_state.LinkState.{LinkState}
use Rattle.sms_control.specs.declared.message.Cp.TheVariants.{DataUnit}
use Rattle.sms_control.specs.declared.out.Up.{Up}
use Rattle.sms_control.specs.declared.out.Up.TheVariants.{Unit as UnitUp, Failed}
use Rattle.sms_control.specs.declared.transaction.TransactionFlag.TheVariants.{FromOriginator, ToOriginator}
use Rattle.sms_control.specs.ControlGrammar.{spelled}
use Rattle.sms_control.specs.ControlReading.{cp_at}
use Rattle.sms_control.specs.LinkStep.{Step, in_transaction, is_busy, awaits_reply, begin_step, reply_step, take_step, fire_step}
use Rattle.sms_link.specs.declared.ending.Ending.{Ending}
use Rattle.sms_link.specs.declared.ending.Ending.TheVariants.{Lost}
use Rattle.sms_link.specs.declared.ending.Side.{Side}
use Rattle.sms_link.specs.declared.ending.Upward.{Upward}
use Rattle.sms_link.specs.declared.ending.Upward.TheVariants.{Ended}
use Rattle.sms_link.specs.declared.outgoing.Outgoing.{Outgoing}
use Rattle.sms_link.specs.Ending.{unit_at, ended_by}
use Rattle.sms_link.specs.LinkCalls.{LinkCall, Begin, Reply, Take, Fire, turn, run, first_sending}
use Rattle.sms_link.specs.LinkTurn.{LinkOf, Turn, new_link, still, carrying, of_kind, started, begun, answering, replied, passed_up, still_under_way, heard}
use Rattle.sms_link.proofs.Known.{by_test, begin_is}
use Rattle.sms_link.specs.link_runs.UnderWay.{if_begun, if_ended, under_way_by, under_way_over, under_way_after}
use Rattle.sms_link.proofs.link_runs.OwnSteps.{Stays, Ends, Moves, StepKeepsNext, FitsFrame, FitsTimer, take_steps, fire_steps, reply_leaves}

-- ---- what holds between calls

-- CP-DATA under that identifier began it, for the transfer that the link carries
pub record Began (identifier : ℕ) (carried : Option Carried) (under_way : Option Outgoing) : Type 0 where
  pub small : identifier < 7
  pub unit : List ℕ
  pub transfer : Carried
  pub carries : carried ≡ Some transfer
  pub is_first : under_way ≡ Some (first_sending (spelled (DataUnit (in_transaction FromOriginator identifier) unit)) transfer)

abbrev pub BegunAgrees : Option Begun → Option Carried → Option Outgoing → Type 0
BegunAgrees None carried under_way = (carried ≡ None) × (under_way ≡ None)
BegunAgrees (Some b) carried under_way = Began b.identifier carried under_way

pub record LinkAgrees (side : Side) (l : LinkOf) (under_way : Option Outgoing) : Type 0 where
  pub side_is : l.side ≡ side
  pub next : l.links.next_identifier < 7
  pub agrees : BegunAgrees l.links.begun l.under_way under_way

-- ---- the links do something of their own accord

stays_agrees : (before after : Option Begun) (c : Option Carried) (w : Option Outgoing) → Stays before after → BegunAgrees before c w → BegunAgrees after c w
stays_agrees None None c w e h = h
stays_agrees None (Some b) c w e h = absurd e
stays_agrees (Some a) None c w e h = absurd e
stays_agrees (Some a) (Some b) c w e h = subst (λ (i : ℕ). Began i c w) (sym e) h

-- of what ended it is told under which identifier it began
pub ended_told : (Fits : ℕ → Type 0) (before after : Option Begun) (c : Option Carried) (w : Option Outgoing) (e : Ends Fits before after) → BegunAgrees before c w → Began e.was.identifier c w
ended_told Fits before after c w e h = subst (λ (b : Option Begun). BegunAgrees b c w) e.under_way h

-- then what comes up tells of its end, and nothing is under way
abbrev AfterUp : LinkOf → Step → Option Outgoing → Type 0
AfterUp l t w = BegunAgrees t.state.begun (still_under_way t.out.up l.under_way) (if_ended (passed_up l.side l.under_way t.out.up) w)

abbrev step_of : LinkState → List (List ℕ) → Option Up → Step
step_of s frames up = record { state = s; out = record { frames = frames; up = up } }

nothing_agrees : (Fits : ℕ → Type 0) (ending : Carried → Ending) (before after : Option Begun) (c : Option Carried) (w : Option Outgoing) → Ends Fits before after → BegunAgrees before c w
    → BegunAgrees after None (if_ended (option_map (λ (t : Carried). Ended t (ending t)) c) w)
nothing_agrees Fits ending before after c w e h =
    let b = ended_told Fits before after c w e h in
    let up : option_map (λ (t : Carried). Ended t (ending t)) c ≡ Some (Ended b.transfer (ending b.transfer)) = ap (λ (x : Option Carried). option_map (λ (t : Carried). Ended t (ending t)) x) b.carries in
    subst (λ (a : Option Begun). BegunAgrees a None (if_ended (option_map (λ (t : Carried). Ended t (ending t)) c) w)) (sym e.gone) (refl, ap (λ (u : Option Upward). if_ended u w) up)

after_up : (Fits : ℕ → Up → Type 0) (l : LinkOf) (s : LinkState) (frames : List (List ℕ)) (up : Option Up) (w : Option Outgoing) → Moves Fits l.links.begun s.begun up → BegunAgrees l.links.begun l.under_way w
    → AfterUp l (step_of s frames up) w
after_up Fits l s frames None w m h = stays_agrees l.links.begun s.begun l.under_way w m h
after_up Fits l s frames (Some (UnitUp FromOriginator unit)) w m h = stays_agrees l.links.begun s.begun l.under_way w m h
after_up Fits l s frames (Some (UnitUp ToOriginator unit)) w m h =
    nothing_agrees (λ i. Fits i (UnitUp ToOriginator unit)) (λ t. ended_by t.reference (unit_at l.side unit)) l.links.begun s.begun l.under_way w m h
after_up Fits l s frames (Some Failed) w m h = nothing_agrees (λ i. Fits i Failed) (λ t. Lost) l.links.begun s.begun l.under_way w m h

module _ (side : Side) where
  heard_agrees : (Fits : ℕ → Up → Type 0) (l : LinkOf) (t : Step) (w : Option Outgoing) → StepKeepsNext Fits l.links t → LinkAgrees side l w → LinkAgrees side (heard t l).link (if_ended (heard t l).out.up w)
  heard_agrees Fits l t w g h = record {
    side_is = h.side_is;
    next = subst (λ (n : ℕ). n < 7) (sym g.0) h.next;
    agrees = after_up Fits l t.state t.out.frames t.out.up w g.1 h.agrees;
  }

  -- ---- this side begins, or answers

  begun_agrees : (now reference : ℕ) (tag : Holder) (unit : List ℕ) (l : LinkOf) (w : Option Outgoing) → LinkAgrees side l w
      → (let t = begun now reference tag unit l in LinkAgrees side t.link (if_begun t.out.frames w))
  begun_agrees now reference tag unit l w h =
      let carried = of_kind Data reference tag in
      by_test (λ (t : Turn). LinkAgrees side t.link (if_begun t.out.frames w)) (is_busy l.links) (still l) (started carried (begin_step now unit l.links) l) (λ e. h)
      (λ e. subst (λ (step : Step). LinkAgrees side (started carried step l).link (if_begun (carrying (Some carried) step.out.frames) w)) (sym (begin_is now unit l.links e)) (record {
        side_is = h.side_is;
        next = omega arith;
        agrees = record { small = h.next; unit = unit; transfer = carried; carries = refl; is_first = refl };
      }))

  replied_agrees : (now : ℕ) (kind : Kind) (reference : ℕ) (tag : Holder) (unit : List ℕ) (l : LinkOf) (w : Option Outgoing) → LinkAgrees side l w → LinkAgrees side (replied now kind reference tag unit l).link w
  replied_agrees now kind reference tag unit l w h =
      let step = reply_step now unit l.links in
      let same = reply_leaves now unit l.links in
      by_test (λ (t : Turn). LinkAgrees side t.link w) (awaits_reply l.links) (answering (of_kind kind reference tag) step l) (still l)
      (λ e. record {
        side_is = h.side_is;
        next = subst (λ (n : ℕ). n < 7) (sym same.0) h.next;
        agrees = subst (λ (b : Option Begun). BegunAgrees b l.under_way w) (sym same.1) h.agrees;
      }) (λ e. h)

  -- ---- runs

  pub turn_agrees : (c : LinkCall) (l : LinkOf) (w : Option Outgoing) → LinkAgrees side l w → LinkAgrees side (turn c l).link (under_way_by c (turn c l).out w)
  turn_agrees (Begin now reference tag unit) l w h = begun_agrees now reference tag unit l w h
  turn_agrees (Reply now kind reference tag unit) l w h = replied_agrees now kind reference tag unit l w h
  turn_agrees (Take frame) l w h = heard_agrees (FitsFrame (cp_at frame)) l (take_step frame l.links) w (take_steps frame l.links) h
  turn_agrees (Fire now) l w h = heard_agrees FitsTimer l (fire_step now l.links) w (fire_steps now l.links) h

  run_agrees_on : (cs : List LinkCall) (l : LinkOf) (w : Option Outgoing) → LinkAgrees side l w → LinkAgrees side (run cs l) (under_way_over cs l w)
  run_agrees_on [] l w h = h
  run_agrees_on (c ∷ cs) l w h = run_agrees_on cs (turn c l).link (under_way_by c (turn c l).out w) (turn_agrees c l w h)

pub calls_agree : (cs : List LinkCall) (side : Side) → LinkAgrees side (run cs (new_link side)) (under_way_after cs side)
calls_agree cs side = run_agrees_on side cs (new_link side) None (record { side_is = refl; next = omega arith; agrees = (refl, refl) })
