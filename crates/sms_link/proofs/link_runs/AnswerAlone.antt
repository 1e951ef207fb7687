-- An answer that was taken is acknowledged alone, as the links below acknowledge it.
use Rattle.std.proofs.Common.{◌≡◌, ℕ, ◌==◌, ◌<◌, Bool, List, [], ◌∷◌, true, false, refl, sym, ◌∙◌, ap, subst, Option, Some, None, Result, Ok, Err}
use Rattle.std.specs.Prelude.{if◌then◌else◌}
use Rattle.std.specs.Option.{option_map}
use Rattle.std.proofs.lemmas.Bool.{eqb-true}
use Rattle.sms_base.specs.declared.carried.Carried.{Carried}
use Rattle.sms_control.specs.declared.link_state.Begun.{Begun}
use Rattle.sms_control.specs.declared.link_state.LinkState.{LinkState}
use Rattle.sms_control.specs.declared.message.Cp.{Cp}
use Rattle.sms_control.specs.declared.message.Cp.TheVariants.{DataUnit, AckUnit}
use Rattle.sms_control.specs.declared.out.Up.{Up}
use Rattle.sms_control.specs.declared.out.Up.TheVariants.{Unit as UnitUp, Failed}
use Rattle.sms_control.specs.declared.transaction.TransactionFlag.TheVariants.{FromOriginator, ToOriginator}
use Rattle.sms_control.specs.ControlGrammar.{spelled}
use Rattle.sms_control.specs.ControlReading.{cp_at}
use Rattle.sms_control.specs.LinkRuns.{step, IsNoAnswer as LinksNoAnswer, NoneAnswered as LinksNoneAnswered}
use Rattle.sms_control.specs.LinkStep.{Step, quiet, in_transaction, is_busy, started as links_started, begin_step, is_same, has_begun, answer_taken, take_step, fire_step}
use Rattle.sms_control.proofs.AnswerLaws.{acknowledged_alone, answer_is}
use Rattle.sms_control.proofs.ControlFrames.{spelled_again}
use Rattle.sms_control.proofs.LinkLaws.{either}
use Rattle.sms_control.proofs.TurnLaws.{by_test}
use Rattle.sms_relay.specs.declared.fault.RelayFault.{RelayFault}
use Rattle.sms_relay.specs.declared.frame.Rp.{Rp}
use Rattle.sms_relay.specs.declared.frame.Rp.TheVariants.{DataUnit as RpData, AckUnit as RpAck, ErrorUnit as RpError, Smma}
use Rattle.sms_link.specs.declared.ending.Ending.{Ending}
use Rattle.sms_link.specs.declared.ending.Ending.TheVariants.{Acknowledged, Refused, Wrong}
use Rattle.sms_link.specs.declared.ending.Side.{Side}
use Rattle.sms_link.specs.declared.ending.Upward.TheVariants.{Ended}
use Rattle.sms_link.specs.declared.outgoing.Outgoing.{Outgoing}
use Rattle.sms_link.specs.Ending.{unit_at, ended_by}
use Rattle.sms_link.specs.LinkCalls.{LinkCall, Begin, Reply, Take, Fire, turn, run}
use Rattle.sms_link.specs.LinkTurn.{LinkOf, new_link, from_links, passed_up, taken}
use Rattle.sms_link.specs.link_runs.AnswersTaken.{EndsTheTransfer, IsLost, IsNoAnswer, NoneAnswered, acknowledgement_of}
use Rattle.sms_link.specs.link_runs.UnderWay.{under_way_by, under_way_after}
use Rattle.sms_link.proofs.link_runs.LinksBelow.{call_of, calls_of, turn_follows, run_follows}
use Rattle.sms_link.proofs.link_runs.OwnSteps.{Moves, FitsFrame, FitsTimer, take_steps, fire_steps, reply_leaves}
use Rattle.sms_link.proofs.link_runs.BegunUnderWay.{BegunAgrees, LinkAgrees, ended_told, turn_agrees, calls_agree}

-- ---- an answer that is taken below comes up as one

test_lost : (b : Bool) (x y : Ending) → ¬ IsLost x → ¬ IsLost y → ¬ IsLost (if b then x else y)
test_lost true x y p q = p
test_lost false x y p q = q

answer_not_lost : (reference : ℕ) (r : Result Rp RelayFault) → ¬ IsLost (ended_by reference r)
answer_not_lost reference (Ok (RpData r centre tpdu)) = λ h. h
answer_not_lost reference (Ok (RpAck r tpdu)) = test_lost (r == reference) Acknowledged Wrong (λ h. h) (λ h. h)
answer_not_lost reference (Ok (RpError r cause tpdu)) = test_lost (r == reference) (Refused cause tpdu) Wrong (λ h. h) (λ h. h)
answer_not_lost reference (Ok (Smma r)) = λ h. h
answer_not_lost reference (Err fault) = λ h. h

none_below : (Fits : ℕ → Up → Type 0) (side : Side) (before after : Option Begun) (c : Option Carried) (w : Option Outgoing) (up : Option Up) → BegunAgrees before c w → Moves Fits before after up
    → IsNoAnswer (passed_up side c up) → LinksNoAnswer up
none_below Fits side before after c w None h m n = tt
none_below Fits side before after c w (Some (UnitUp FromOriginator unit)) h m n = tt
none_below Fits side before after c w (Some (UnitUp ToOriginator unit)) h m n =
    let b = ended_told (λ i. Fits i (UnitUp ToOriginator unit)) before after c w m h in
    let ending : Carried → Ending = λ t. ended_by t.reference (unit_at side unit) in
    let lost : IsNoAnswer (Some (Ended b.transfer (ending b.transfer))) = subst (λ (x : Option Carried). IsNoAnswer (option_map (λ (t : Carried). Ended t (ending t)) x)) b.carries n in
    answer_not_lost b.transfer.reference (unit_at side unit) lost
none_below Fits side before after c w (Some Failed) h m n = tt

begin_agrees : (now : ℕ) (unit : List ℕ) (s : LinkState) → LinksNoAnswer (begin_step now unit s).out.up
unfolding begin_step
begin_agrees now unit s = either (λ (t : Step). LinksNoAnswer t.out.up) (is_busy s) (quiet s) (links_started now (spelled (DataUnit (in_transaction FromOriginator s.next_identifier) unit)) s) tt tt

turn_none : (side : Side) (c : LinkCall) (l : LinkOf) (w : Option Outgoing) → LinkAgrees side l w → IsNoAnswer (turn c l).out.up → LinksNoAnswer (step (call_of c) l.links).out.up
turn_none side (Begin now reference tag unit) l w h n = begin_agrees now unit l.links
turn_none side (Reply now kind reference tag unit) l w h n = subst (λ (up : Option Up). LinksNoAnswer up) (sym (reply_leaves now unit l.links).2) tt
turn_none side (Take frame) l w h n =
    let t = take_step frame l.links in none_below (FitsFrame (cp_at frame)) l.side l.links.begun t.state.begun l.under_way w t.out.up h.agrees (take_steps frame l.links).1 n
turn_none side (Fire now) l w h n =
    let t = fire_step now l.links in none_below FitsTimer l.side l.links.begun t.state.begun l.under_way w t.out.up h.agrees (fire_steps now l.links).1 n

none_answered_below : (side : Side) (cs : List LinkCall) (l : LinkOf) (w : Option Outgoing) → LinkAgrees side l w → NoneAnswered cs l → LinksNoneAnswered (calls_of cs) l.links
none_answered_below side [] l w h n = tt
none_answered_below side (c ∷ cs) l w h n = (
  turn_none side c l w h n.0,
  subst (λ (s : LinkState). LinksNoneAnswered (calls_of cs) s) (turn_follows c l).0 (none_answered_below side cs (turn c l).link (under_way_by c (turn c l).out w) (turn_agrees side c l w h) n.1),
)

-- ---- what is taken

has_small : (i : ℕ) (b : Option Begun) (c : Option Carried) (w : Option Outgoing) → BegunAgrees b c w → has_begun i b ≡ true → i < 7
has_small i None c w h has = absurd cc
has_small i (Some b) c w h has = subst (λ (j : ℕ). j < 7) (sym (eqb-true i b.identifier has)) h.small

-- an answer that comes up ends the transaction that the links have
record Taken (unit : List ℕ) (i : ℕ) (s : LinkState) (t : Step) : Type 0 where
  has : has_begun i s.begun ≡ true
  up : t.out.up ≡ Some (UnitUp ToOriginator unit)

taken_below : (l : LinkOf) (frame unit : List ℕ) (i : ℕ) (transfer : Carried) (ending : Ending)
    → (let t = answer_taken frame unit (in_transaction ToOriginator i) l.links in passed_up l.side l.under_way t.out.up ≡ Some (Ended transfer ending) → Taken unit i l.links t)
taken_below l frame unit i transfer ending =
    let P : Step → Type 0 = λ t. passed_up l.side l.under_way t.out.up ≡ Some (Ended transfer ending) → Taken unit i l.links t in
    by_test P (has_begun i l.links.begun) _ _ (λ has e. record { has = has; up = refl }) (λ not. either P (is_same frame l.links.last_answer) _ _ (λ e. absurd cc) (λ e. absurd cc))

-- CP-ACK carries nothing
ack_bare : (i : ℕ) (u a : Option Carried) → i < 7 → from_links u a (spelled (AckUnit (in_transaction FromOriginator i)) ∷ []) ≡ acknowledgement_of i ∷ []
ack_bare i u a small =
    let cp : Cp = AckUnit (in_transaction FromOriginator i) in
    let reads : cp_at (spelled cp) ≡ Ok cp = spelled_again cp small in
    rw reads refl

pub acknowledged_bare : (side : Side) (before after : List LinkCall) (answer : List ℕ) (i : ℕ) → EndsTheTransfer answer i (run before (new_link side)) → NoneAnswered after (taken answer (run before (new_link side))).link
    → (taken answer (run after (taken answer (run before (new_link side))).link)).out.frames ≡ acknowledgement_of i ∷ []
acknowledged_bare side before after answer i is none =
    let l = run before (new_link side) in
    let w = under_way_after before side in
    let h = calls_agree before side in
    let m = run after (taken answer l).link in
    let reads = answer_is answer is.unit i l.links is.reads in
    let below = taken_below l answer is.unit i is.transfer is.ending (ap (λ (t : Step). passed_up l.side l.under_way t.out.up) (sym reads) ∙ is.passes_up) in
    let up : (take_step answer l.links).out.up ≡ Some (UnitUp ToOriginator is.unit) = ap (λ (t : Step). t.out.up) reads ∙ below.up in
    let kept = none_answered_below side after (taken answer l).link (under_way_by (Take answer) (taken answer l).out w) (turn_agrees side (Take answer) l w h) none in
    let alone = acknowledged_alone l.links (calls_of after) answer is.unit i is.reads up kept in
    ap (λ (s : LinkState). from_links m.under_way m.answered (take_step answer s).out.frames) (run_follows after (taken answer l).link)
    ∙ ap (λ (fs : List (List ℕ)). from_links m.under_way m.answered fs) alone
    ∙ ack_bare i m.under_way m.answered (has_small i l.links.begun l.under_way w h.agrees below.has)
