-- What ends at one end of a link is what is under way, and an answer comes up where its identifier is that.
use Rattle.std.proofs.Common.{◌≡◌, ℕ, ◌+◌, ◌*◌, arith, List, [], true, inl, inr, refl, sym, ◌∙◌, ap, subst, Option, Some, None, Result, Ok, get_or}
use Rattle.std.specs.Option.{option_map}
use Rattle.std.proofs.lemmas.Bool.{eqb-true, eq-eqb}
use Rattle.sms_base.specs.declared.carried.Carried.{Carried}
use Rattle.sms_control.specs.declared.fault.CpFault.{CpFault}
use Rattle.sms_control.specs.declared.link_state.Begun.{Begun}
use Rattle.sms_control.specs.declared.message.Cp.{Cp}
use Rattle.sms_control.specs.declared.message.Cp.TheVariants.{DataUnit}
use Rattle.sms_control.specs.declared.out.Up.{Up}
use Rattle.sms_control.specs.declared.out.Up.TheVariants.{Unit as UnitUp, Failed}
use Rattle.sms_control.specs.declared.transaction.TransactionFlag.TheVariants.{FromOriginator, ToOriginator}
use Rattle.sms_control.specs.ControlGrammar.{spelled}
use Rattle.sms_control.specs.ControlReading.{cp_at}
use Rattle.sms_control.specs.LinkStep.{Step, in_transaction, is_same, has_begun, answer_taken, take_step, fire_step}
use Rattle.sms_control.proofs.LinkLaws.{either}
use Rattle.sms_control.proofs.TurnLaws.{by_test}
use Rattle.sms_control.proofs.AnswerLaws.{answer_is}
use Rattle.sms_link.specs.declared.ending.Ending.{Ending}
use Rattle.sms_link.specs.declared.ending.Ending.TheVariants.{Lost}
use Rattle.sms_link.specs.declared.ending.Side.{Side}
use Rattle.sms_link.specs.declared.ending.Upward.TheVariants.{Ended}
use Rattle.sms_link.specs.declared.outgoing.Outgoing.{Outgoing}
use Rattle.sms_link.specs.Ending.{unit_at, ended_by}
use Rattle.sms_link.specs.LinkCalls.{LinkCall, run, first_sending}
use Rattle.sms_link.specs.LinkTurn.{LinkOf, new_link, passed_up, taken, fired}
use Rattle.sms_link.specs.link_runs.UnderWay.{under_way_after, IsUnderWay, EndsByFrame, EndsByTimer}
use Rattle.sms_link.proofs.link_runs.OwnSteps.{Moves, FitsFrame, FitsTimer, take_steps, fire_steps}
use Rattle.sms_link.proofs.link_runs.BegunUnderWay.{Began, BegunAgrees, ended_told, calls_agree}

-- ---- what ends

is_under_way : (i : ℕ) (c : Option Carried) (w : Option Outgoing) (b : Began i c w) → IsUnderWay i b.transfer w
is_under_way i c w b = record { unit = b.unit; began = b.is_first }

-- where that transfer's end comes up, it is the one that is carried, with that ending
ending_is : (ending : Carried → Ending) (c : Option Carried) (t transfer : Carried) (e : Ending) → c ≡ Some t → option_map (λ (x : Carried). Ended x (ending x)) c ≡ Some (Ended transfer e)
    → (t ≡ transfer) × (ending t ≡ e)
ending_is ending c t transfer e carries up =
    let both : Some (Ended t (ending t)) ≡ Some (Ended transfer e) = sym (ap (λ (x : Option Carried). option_map (λ (y : Carried). Ended y (ending y)) x) carries) ∙ up in
    (cc, cc)

module _ (side : Side) (frame : Result Cp CpFault) (before after : Option Begun) (c : Option Carried) (w : Option Outgoing) (told : BegunAgrees before c w) (transfer : Carried) (ending : Ending) where
  by_frame : (up : Option Up) → Moves (FitsFrame frame) before after up → passed_up side c up ≡ Some (Ended transfer ending) → EndsByFrame side frame w transfer ending
  by_frame None m e = absurd cc
  by_frame (Some (UnitUp FromOriginator unit)) m e = absurd cc
  by_frame (Some (UnitUp ToOriginator unit)) m e =
      let b = ended_told (λ i. FitsFrame frame i (UnitUp ToOriginator unit)) before after c w m told in
      let is = ending_is (λ t. ended_by t.reference (unit_at side unit)) c b.transfer transfer ending b.carries e in
      record {
        identifier = m.was.identifier;
        is_under_way = subst (λ (t : Carried). IsUnderWay m.was.identifier t w) is.0 (is_under_way m.was.identifier c w b);
        ends = inl (record { unit = unit; is_answer = m.fits; is_ended_by = sym is.1 ∙ ap (λ (t : Carried). ended_by t.reference (unit_at side unit)) is.0 });
      }
  by_frame (Some Failed) m e =
      let b = ended_told (λ i. FitsFrame frame i Failed) before after c w m told in
      let is = ending_is (λ t. Lost) c b.transfer transfer ending b.carries e in
      record {
        identifier = m.was.identifier;
        is_under_way = subst (λ (t : Carried). IsUnderWay m.was.identifier t w) is.0 (is_under_way m.was.identifier c w b);
        ends = inr (record { cause = m.fits.0; is_error = m.fits.1; is_lost = sym is.1 });
      }

  by_timer : (up : Option Up) → Moves FitsTimer before after up → passed_up side c up ≡ Some (Ended transfer ending) → EndsByTimer w transfer ending
  by_timer None m e = absurd cc
  by_timer (Some (UnitUp FromOriginator unit)) m e = absurd cc
  by_timer (Some (UnitUp ToOriginator unit)) m e = absurd m.fits
  by_timer (Some Failed) m e =
      let b = ended_told (λ i. FitsTimer i Failed) before after c w m told in
      let is = ending_is (λ t. Lost) c b.transfer transfer ending b.carries e in
      record {
        identifier = m.was.identifier;
        is_under_way = subst (λ (t : Carried). IsUnderWay m.was.identifier t w) is.0 (is_under_way m.was.identifier c w b);
        is_lost = sym is.1;
      }

-- ---- an answer

-- one identifier began it
same_identifier : (i j : ℕ) (c : Option Carried) (w : Option Outgoing) (transfer : Carried) → IsUnderWay i transfer w → (b : Began j c w) → (i ≡ j) × (b.transfer ≡ transfer)
same_identifier i j c w transfer u b =
    let both : Some (first_sending (spelled (DataUnit (in_transaction FromOriginator i) u.unit)) transfer) ≡ Some (first_sending (spelled (DataUnit (in_transaction FromOriginator j) b.unit)) b.transfer) =
    sym u.began ∙ b.is_first in
    let one : first_sending (spelled (DataUnit (in_transaction FromOriginator i) u.unit)) transfer ≡ first_sending (spelled (DataUnit (in_transaction FromOriginator j) b.unit)) b.transfer = cc in
    let heads : 9 + 16 * i + 0 ≡ 9 + 16 * j + 0 = ap (λ (f : Outgoing). get_or f.octets 0 0) one in
    let carried : Some transfer ≡ Some b.transfer = ap (λ (f : Outgoing). f.carried) one in
    (omega (arith, heads), let same : transfer ≡ b.transfer = cc in sym same)

own_is_passed_up : (l : LinkOf) (w : Option Outgoing) (frame unit : List ℕ) (i : ℕ) (transfer : Carried) (b : Option Begun) → l.links.begun ≡ b → BegunAgrees b l.under_way w → IsUnderWay i transfer w
    → (let t = answer_taken frame unit (in_transaction ToOriginator i) l.links in passed_up l.side l.under_way t.out.up ≡ Some (Ended transfer (ended_by transfer.reference (unit_at l.side unit))))
own_is_passed_up l w frame unit i transfer None e h u = let none : None ≡ Some (first_sending (spelled (DataUnit (in_transaction FromOriginator i) u.unit)) transfer) = sym h.1 ∙ u.began in absurd cc
own_is_passed_up l w frame unit i transfer (Some b) e h u =
    let same = same_identifier i b.identifier l.under_way w transfer u h in
    let carries : l.under_way ≡ Some transfer = h.carries ∙ ap (λ (t : Carried). Some t) same.1 in
    let has : has_begun i l.links.begun ≡ true = ap (has_begun i) e ∙ eq-eqb i b.identifier same.0 in
    by_test (λ (t : Step). passed_up l.side l.under_way t.out.up ≡ Some (Ended transfer (ended_by transfer.reference (unit_at l.side unit)))) (has_begun i l.links.begun) _ _
    (λ yes. ap (λ (c : Option Carried). option_map (λ (t : Carried). Ended t (ended_by t.reference (unit_at l.side unit))) c) carries)
    (λ no. absurd cc)

-- an answer of the identifier that the links have is one to what is under way
has_is_under_way : (i : ℕ) (b : Option Begun) (c : Option Carried) (w : Option Outgoing) → BegunAgrees b c w → has_begun i b ≡ true → (transfer : Carried) × IsUnderWay i transfer w
has_is_under_way i None c w h has = absurd cc
has_is_under_way i (Some b) c w h has =
    (h.transfer, subst (λ (j : ℕ). IsUnderWay j h.transfer w) (sym (eqb-true i b.identifier has)) (is_under_way b.identifier c w h))

other_is_quiet : (l : LinkOf) (w : Option Outgoing) (frame unit : List ℕ) (i : ℕ) → BegunAgrees l.links.begun l.under_way w → ((transfer : Carried) → ¬ IsUnderWay i transfer w)
    → (let t = answer_taken frame unit (in_transaction ToOriginator i) l.links in passed_up l.side l.under_way t.out.up ≡ None)
other_is_quiet l w frame unit i h other =
    let Quiet : Step → Type 0 = λ t. passed_up l.side l.under_way t.out.up ≡ None in
    by_test Quiet (has_begun i l.links.begun) _ _ (λ has. let is = has_is_under_way i l.links.begun l.under_way w h has in absurd (other is.0 is.1))
    (λ not. either Quiet (is_same frame l.links.last_answer) _ _ refl refl)

-- ---- over calls

pub ends_by_frame : (side : Side) (calls : List LinkCall) (frame : List ℕ) (transfer : Carried) (ending : Ending) → (taken frame (run calls (new_link side))).out.up ≡ Some (Ended transfer ending)
    → EndsByFrame side (cp_at frame) (under_way_after calls side) transfer ending
ends_by_frame side calls frame transfer ending up =
    let l = run calls (new_link side) in
    let t = take_step frame l.links in
    let h = calls_agree calls side in
    by_frame side (cp_at frame) l.links.begun t.state.begun l.under_way (under_way_after calls side) h.agrees transfer ending t.out.up (take_steps frame l.links).1
    (ap (λ (s : Side). passed_up s l.under_way t.out.up) (sym h.side_is) ∙ up)

pub ends_by_timer : (side : Side) (calls : List LinkCall) (now : ℕ) (transfer : Carried) (ending : Ending) → (fired now (run calls (new_link side))).out.up ≡ Some (Ended transfer ending)
    → EndsByTimer (under_way_after calls side) transfer ending
ends_by_timer side calls now transfer ending up =
    let l = run calls (new_link side) in
    let t = fire_step now l.links in
    let h = calls_agree calls side in
    by_timer side (cp_at []) l.links.begun t.state.begun l.under_way (under_way_after calls side) h.agrees transfer ending t.out.up (fire_steps now l.links).1
    (ap (λ (s : Side). passed_up s l.under_way t.out.up) (sym h.side_is) ∙ up)

pub answer_is_passed_up : (side : Side) (calls : List LinkCall) (frame unit : List ℕ) (i : ℕ) (transfer : Carried) → cp_at frame ≡ Ok (DataUnit (in_transaction ToOriginator i) unit)
    → IsUnderWay i transfer (under_way_after calls side) → (taken frame (run calls (new_link side))).out.up ≡ Some (Ended transfer (ended_by transfer.reference (unit_at side unit)))
answer_is_passed_up side calls frame unit i transfer reads u =
    let l = run calls (new_link side) in
    let h = calls_agree calls side in
    ap (λ (t : Step). passed_up l.side l.under_way t.out.up) (answer_is frame unit i l.links reads)
    ∙ own_is_passed_up l (under_way_after calls side) frame unit i transfer l.links.begun refl h.agrees u
    ∙ ap (λ (s : Side). Some (Ended transfer (ended_by transfer.reference (unit_at s unit)))) h.side_is

pub other_never : (side : Side) (calls : List LinkCall) (frame unit : List ℕ) (i : ℕ) → cp_at frame ≡ Ok (DataUnit (in_transaction ToOriginator i) unit)
    → ((transfer : Carried) → ¬ IsUnderWay i transfer (under_way_after calls side)) → (taken frame (run calls (new_link side))).out.up ≡ None
other_never side calls frame unit i reads other =
    let l = run calls (new_link side) in
    let h = calls_agree calls side in
    ap (λ (t : Step). passed_up l.side l.under_way t.out.up) (answer_is frame unit i l.links reads) ∙ other_is_quiet l (under_way_after calls side) frame unit i h.agrees other
