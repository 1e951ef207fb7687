-- The units in the frames that an empty centre sends are what it sends.
use Rattle.std.proofs.Common.{◌≡◌, ℕ, zero, suc, ◌<◌, ◌≤◌, length, get_or, List, [], ◌∷◌, Bool, true, false, Option, Some, None, Result, Ok, Err, IfOk, refl, sym, ◌∙◌, ap, subst, arith}
use Rattle.std.specs.Prelude.{nat_lt, if◌then◌else◌, MatchBool, MatchResult}
use Rattle.std.proofs.lemmas.Bool.{cond-false, le-ltb}
use Rattle.sms_base.specs.HandsetNumber.{names_handset, own_address}
use Rattle.sms_base.specs.declared.address.Address.{Address}
use Rattle.sms_relay.specs.RelayReading.{up_at}
use Rattle.sms_relay.specs.declared.fault.RelayFault.{RelayFault}
use Rattle.sms_relay.specs.declared.frame.Rp.{Rp}
use Rattle.sms_relay.specs.declared.frame.Rp.TheVariants.{DataUnit, AckUnit, ErrorUnit, Smma}
use Rattle.sms_tpdu.specs.TpduReading.{up_at as tpdu_up_at}
use Rattle.sms_tpdu.specs.declared.carrier.Carrier.TheVariants.{InData}
use Rattle.sms_tpdu.specs.declared.fault.TpduFault.{TpduFault}
use Rattle.sms_tpdu.specs.declared.submit.Submit.{Submit as SubmitOf}
use Rattle.sms_tpdu.specs.declared.up.Up.{Up}
use Rattle.sms_tpdu.specs.declared.up.Up.TheVariants.{Submit, DeliverReport}
use Rattle.sms_centre_rows.specs.declared.waiting.handset_link.Sent.{Sent}
use Rattle.sms_relay_run.specs.relay_laws.Relay.{IsAccepted, IsAnswer, IsRefused, IsRelayed, RelaysTpdu, RelaysUnit, is_past, refusal_of, unreadable_answer}
use Rattle.sms_relay_run.specs.relay_laws.Relaying.{addressed, destination_in, destination_of, frames_of, outputs, unit_at, unit_behind}
use Rattle.sms_relay_run.specs.declared.relay_laws.refusal.Refusal.TheVariants.{NoHandset, PastLimit}
use Rattle.sms_relay_run.specs.declared.relay_laws.relayed.Relayed.{Relayed}

-- ---- frames by their places

pub none_there : (place : ℕ) (frames : List Sent) → length frames ≤ place → None ≡ unit_at place (outputs frames)
none_there place [] few = refl
none_there zero (f ∷ fs) few = absurd (omega (arith, few))
none_there (suc place) (f ∷ fs) few = none_there place fs (omega (arith, few))

pub there : (place : ℕ) (frames : List Sent) (f : Sent) → place < length frames → f ≡ get_or frames place f → unit_behind f.frame.octets ≡ unit_at place (outputs frames)
there place [] f lt e = absurd (omega (arith, lt))
there zero (x ∷ xs) f lt e = ap (λ (s : Sent). unit_behind s.frame.octets) e
there (suc place) (x ∷ xs) f lt e = there place xs f (omega (arith, lt)) e

-- ---- what is sent: something goes down only beside an answer, and to the destination

abbrev Shaped : Option Address → Option (List ℕ) → Option (Address × List ℕ) → Type 0
Shaped to answer None = Unit {0}
Shaped to None (Some down) = ⊥
Shaped to (Some answer) (Some down) = to ≡ Some down.0

behind : (a b c : ℕ) (unit : List ℕ) → unit_behind (a ∷ b ∷ c ∷ unit) ≡ Some unit
behind a b c unit = cond-false (nat_lt (length (a ∷ b ∷ c ∷ unit)) 3) None (Some unit) (le-ltb (length (a ∷ b ∷ c ∷ unit)) 3 (omega arith))

no_unit : (to : Option Address) → addressed to None ≡ None
no_unit None = refl
no_unit (Some to) = refl

units_by : (from : List ℕ) (to : Option Address) (answer : Option (List ℕ)) (down : Option (Address × List ℕ)) → Shaped to answer down
    → (unit_at 1 (frames_of from (record { answer = answer; down = down })) ≡ answer) × (addressed to (unit_at 2 (frames_of from (record { answer = answer; down = down }))) ≡ down)
units_by from to None None is = (refl, no_unit to)
units_by from to (Some answer) None is = (behind 137 1 (length answer) answer, no_unit to)
units_by from to None (Some down) is = absurd is
units_by from to (Some answer) (Some down) is =
    (behind 137 1 (length answer) answer, ap (λ (o : Option (List ℕ)). addressed to o) (behind 9 1 (length down.1) down.1) ∙ ap (λ (o : Option Address). addressed o (Some down.1)) is)

nothing_down : (to : Option Address) (r : Relayed) → r.down ≡ None → Shaped to r.answer r.down
nothing_down to r e = subst (λ (o : Option (Address × List ℕ)). Shaped to r.answer o) (sym e) tt

something_down : (to : Address) (r : Relayed) (answer unit : List ℕ) → r.answer ≡ Some answer → r.down ≡ Some (to, unit) → Shaped (Some to) r.answer r.down
something_down to r answer unit answered goes =
    let given : Shaped (Some to) (Some answer) (Some (to, unit)) = refl in
    subst (λ (o : Option (Address × List ℕ)). Shaped (Some to) r.answer o) (sym goes)
    (subst (λ (o : Option (List ℕ)). Shaped (Some to) o (Some (to, unit))) (sym answered) given)

module _ (centre from : Address) (now : ℕ) (r : Relayed) where
  submit_shaped : (reference : ℕ) (s : SubmitOf) (named past : Bool)
      → MatchBool named (MatchBool past (IsRefused now reference PastLimit r) (IsAccepted centre from now reference s r)) (IsRefused now reference NoHandset r)
      → Shaped (if named then Some s.destination_address else None) r.answer r.down
  submit_shaped reference s false past is = nothing_down None r is.2.1
  submit_shaped reference s true true is = nothing_down (Some s.destination_address) r is.2.1
  submit_shaped reference s true false is = something_down s.destination_address r _ _ is.4 is.5

  tpdu_shaped : (reference : ℕ) (q : Result Up TpduFault) → MatchResult q (RelaysTpdu centre from now reference r) (λ fault. IsRefused now reference (refusal_of fault) r)
      → Shaped (destination_in q) r.answer r.down
  tpdu_shaped reference (Ok (Submit s)) is = submit_shaped reference s (names_handset s.destination_address) (is_past now s.validity_period) is
  tpdu_shaped reference (Ok (DeliverReport report)) is = absurd is
  tpdu_shaped reference (Err fault) is = nothing_down None r is.2.1

  shaped : (unit : List ℕ) (q : Result Rp RelayFault) → MatchResult q (RelaysUnit centre from now r) (λ fault. IsAnswer (unreadable_answer unit fault) r)
      → Shaped (destination_of q) r.answer r.down
  shaped unit (Ok (DataUnit reference named tpdu)) is = tpdu_shaped reference (tpdu_up_at InData tpdu) is
  shaped unit (Ok (AckUnit reference tpdu)) is = nothing_down None r is.1
  shaped unit (Ok (ErrorUnit reference cause tpdu)) is = nothing_down None r is.1
  shaped unit (Ok (Smma reference)) is = nothing_down None r is.1
  shaped unit (Err fault) is = nothing_down None r is.1

pub units_are : (centre : Address) (from : List ℕ) (now : ℕ) (unit : List ℕ) (r : Relayed) (to : Option Address) (frames : List Sent)
    → IsRelayed centre (own_address from) now unit r → outputs frames ≡ frames_of from r → to ≡ destination_of (up_at unit)
    → record { answer = unit_at 1 (outputs frames); down = addressed to (unit_at 2 (outputs frames)) } ≡ r
units_are centre from now unit r to frames is sent named =
    let is_shaped : Shaped to r.answer r.down = subst (λ (o : Option Address). Shaped o r.answer r.down) (sym named) (shaped centre (own_address from) now r unit (up_at unit) is) in
    let units = units_by from to r.answer r.down is_shaped in
    let answer : unit_at 1 (outputs frames) ≡ r.answer = ap (λ (fs : List (List ℕ × List ℕ)). unit_at 1 fs) sent ∙ units.0 in
    let down : addressed to (unit_at 2 (outputs frames)) ≡ r.down = ap (λ (fs : List (List ℕ × List ℕ)). addressed to (unit_at 2 fs)) sent ∙ units.1 in
    let both : record { answer = unit_at 1 (outputs frames); down = addressed to (unit_at 2 (outputs frames)) } ≡ record { answer = r.answer; down = r.down } = rw (answer, down) refl in
    both

pub units_from : (centre : Address) (from : List ℕ) (now : ℕ) (unit : List ℕ) (r : Relayed) (to : Option Address) (frames : List Sent) (answer second : Option (List ℕ)) (down : Option (Address × List ℕ))
    → answer ≡ unit_at 1 (outputs frames) → second ≡ unit_at 2 (outputs frames) → down ≡ addressed to second
    → IsRelayed centre (own_address from) now unit r → outputs frames ≡ frames_of from r → to ≡ destination_of (up_at unit) → record { answer = answer; down = down } ≡ r
units_from centre from now unit r to frames answer second down answer_is second_is down_is is sent named =
    let down_as : down ≡ addressed to (unit_at 2 (outputs frames)) = down_is ∙ ap (λ (o : Option (List ℕ)). addressed to o) second_is in
    let relayed : Option (List ℕ) → Option (Address × List ℕ) → Relayed = λ a d. record { answer = a; down = d } in
    ap (λ (a : Option (List ℕ)). relayed a down) answer_is
    ∙ ap (λ (d : Option (Address × List ℕ)). relayed (unit_at 1 (outputs frames)) d) down_as
    ∙ units_are centre from now unit r to frames is sent named

pub behind_there : {E : Type 0} (place : ℕ) (frames : List Sent) (f : Sent) (octets : List ℕ) (r : Result (Option (List ℕ)) E) → place < length frames → f ≡ get_or frames place f
    → octets ≡ (get_or frames place f).frame.octets → IfOk r (λ u. u ≡ unit_behind octets) → IfOk r (λ u. u ≡ unit_at place (outputs frames))
behind_there place frames f octets (Err e) lt is same h = tt
behind_there place frames f octets (Ok u) lt is same h =
    h ∙ ap (λ (o : List ℕ). unit_behind o) (same ∙ ap (λ (s : Sent). s.frame.octets) (sym is)) ∙ there place frames f lt is
