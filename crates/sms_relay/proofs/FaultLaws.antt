-- What a fault tells: octets end too early only where some that follow make them a unit, octets are left over only behind
-- a unit, and any other fault stands only where no octets that follow make them a unit.
use Rattle.std.proofs.Common.{◌≡◌, ℕ, zero, suc, ◌-◌, ◌<◌, ◌⊎◌, inl, inr, Bool, true, false, not, ◌&&◌, ◌||◌, cond, eqb, ltb, List, [], ◌∷◌, ◌++◌, length, take, drop, Result, Ok, Err, Option, Some, None, refl, sym, ap, subst, ◌∙◌, arith, append_assoc}
use Rattle.std.proofs.lemmas.Bool.{ltb-true}
use Rattle.std.proofs.lemmas.List.{append-nil, length-append}
use Rattle.sms_base.specs.Reading.{◌>>=◌, only_if, octet_in, run_in, end_in, AreOctets}
use Rattle.sms_base.proofs.Steps.{bind_ok, bind_err, err_is, ok_is}
use Rattle.sms_base.proofs.FaultSteps.{Ends, Reads, TakesAlone, CanReadFurther, Completes, LeavesNone, Starts, IsPart, IsLast, octets_back, octets_both, part_last, part_bind, last_bind, pure_part, bad_part, test_part, octet_part, from_octet, last_from_octet, run_part, whole_goes, whole_front}
use Rattle.sms_relay.specs.declared.cause.RpCause.{RpCause}
use Rattle.sms_relay.specs.declared.fault.RelayFault.{RelayFault}
use Rattle.sms_relay.specs.declared.fault.RelayFault.TheVariants.{Truncated, Trailing, Unknown, BadLength}
use Rattle.sms_relay.specs.declared.frame.Rp.{Rp}
use Rattle.sms_relay.specs.declared.frame.Rp.TheVariants.{DataUnit, AckUnit, ErrorUnit, Smma}
use Rattle.sms_relay.specs.declared.message_type.Direction.{Direction}
use Rattle.sms_relay.specs.declared.message_type.Direction.TheVariants.{Up, Down}
use Rattle.sms_relay.specs.declared.message_type.MessageType.{MessageType}
use Rattle.sms_relay.specs.declared.message_type.MessageType.TheVariants.{Data, Ack, Error, Smma as SmmaType}
use Rattle.sms_relay.specs.Cause.{cause_of}
use Rattle.sms_relay.specs.MessageType.{type_of}
use Rattle.sms_base.specs.FaultReasons.{HasContinuation, HasFront}
use Rattle.sms_relay.specs.RelayGrammar.{IsUnit}
use Rattle.sms_relay.specs.RelayReading.{unit_of, centre_in, nobody_in, addresses_in, tpdu_in, user_data_in, cause_in, data_in, ack_in, error_in, smma_in, unit_in, unit_at}
use Rattle.sms_relay.proofs.FieldLaws.{IsBytes-octets}
use Rattle.sms_relay.proofs.UnitLaws.{takes, again}
use Rattle.sms_relay.proofs.FrontLaws.{fronts, bare_read}

-- the two faults
abbrev ends : Ends RelayFault
ends = record { short = Truncated; spare = Trailing; apart = λ e. absurd cc }

-- a length or a number that is out of its range
tested : {X : Type 0} (b : Bool) (r : Reads RelayFault X) → IsPart ends r → IsPart ends (λ xs. only_if b BadLength >>= (λ u. r xs))
tested b r h = test_part ends b BadLength r (λ e. absurd cc) (λ e. absurd cc) h

unknown_last : {X : Type 0} → IsLast {X = X} ends (λ xs. Err Unknown)
unknown_last {X} = part_last ends (λ xs. let r : Result (X × List ℕ) RelayFault = Err Unknown in r) (bad_part {X = X} ends Unknown (λ e. absurd cc) (λ e. absurd cc))

-- ---- the fields

tpdu_part : IsPart ends tpdu_in
unfolding tpdu_in run_in
tpdu_part = from_octet ends _ (0 ∷ [], (omega arith, tt), ([], refl)) (λ n. run_part ends n)

centre_part : IsPart ends centre_in
unfolding centre_in run_in
centre_part =
    from_octet ends _ (2 ∷ 0 ∷ 0 ∷ [], (omega arith, (omega arith, (omega arith, tt))), (0 ∷ 0 ∷ [], refl))
    (λ n. tested (not (ltb n 2) && ltb n 12) (run_in Truncated n) (run_part ends n))

nobody_part : IsPart ends nobody_in
unfolding nobody_in
nobody_part = from_octet ends _ (0 ∷ [], (omega arith, tt), (tt, refl)) (λ n. tested (eqb n 0) (λ rest. Ok (tt, rest)) (pure_part ends tt))

addresses_part : (direction : Direction) → IsPart ends (addresses_in direction)
unfolding addresses_in nobody_in centre_in
addresses_part Up = part_bind ends nobody_in _ nobody_part (λ originator. centre_part) (λ originator. inl refl)
addresses_part Down =
    part_bind ends centre_in _ centre_part (λ centre.
    part_bind ends nobody_in _ nobody_part (λ destination. pure_part ends centre) (λ destination. inr (centre, refl))) (λ centre. inl refl)

no_addresses : (direction : Direction) → addresses_in direction [] ≡ Err Truncated
unfolding addresses_in nobody_in centre_in
no_addresses Up = refl
no_addresses Down = refl

-- behind the number of a cause
abbrev diagnosed : Bool → RpCause → Reads RelayFault RpCause
diagnosed b cause rest = cond b (Ok (cause, rest)) (octet_in Truncated rest >>= (λ diagnostic. Ok (cause, diagnostic.1)))

diagnosed_part : (b : Bool) (cause : RpCause) → IsPart ends (diagnosed b cause)
diagnosed_part true cause = pure_part ends cause
diagnosed_part false cause = from_octet ends _ (0 ∷ [], (omega arith, tt), (cause, refl)) (λ o. pure_part ends cause)

numbered_goes : (b : Bool) → CanReadFurther (λ xs. octet_in Truncated xs >>= (λ number. only_if (ltb number.0 128) BadLength >>= (λ fits. diagnosed b (cause_of number.0) number.1))) []
numbered_goes true = (0 ∷ [], (omega arith, tt), (cause_of 0, refl))
numbered_goes false = (0 ∷ 0 ∷ [], (omega arith, (omega arith, tt)), (cause_of 0, refl))

cause_part : IsPart ends cause_in
unfolding cause_in
cause_part =
    from_octet ends _ (1 ∷ 0 ∷ [], (omega arith, (omega arith, tt)), (cause_of 0, refl))
    (λ k. tested (eqb k 1 || eqb k 2) _ (from_octet ends _ (numbered_goes (eqb k 1)) (λ n. tested (ltb n 128) _ (diagnosed_part (eqb k 1) (cause_of n)))))

-- user data, the last part of an answer
abbrev given : Reads RelayFault (Option (List ℕ))
given xs = tpdu_in xs >>= (λ unit. Ok (Some unit.0, unit.1))

given_last : IsLast ends given
given_last = last_bind ends tpdu_in _ tpdu_part (λ unit. part_last ends _ (pure_part ends (Some unit))) (λ unit. inr (Some unit, refl))

user_data_alone : TakesAlone user_data_in
unfolding user_data_in
user_data_alone [] z e = subst (λ (y : Option (List ℕ) × List ℕ). (front : List ℕ) × ([] ≡ front ++ y.1) × (user_data_in front ≡ Ok (y.0, []))) (ok_is {E = RelayFault} (None, []) z e) ([], refl, refl)
user_data_alone (k ∷ xs) z e = more (eqb k 65) refl e where
  more : (b : Bool) → eqb k 65 ≡ b → cond b (given xs) (Ok (None, k ∷ xs)) ≡ Ok z → (front : List ℕ) × (k ∷ xs ≡ front ++ z.1) × (user_data_in front ≡ Ok (z.0, []))
  more true is h =
      let f = given_last.0 xs z h in
      (k ∷ f.0, ap (λ (l : List ℕ). k ∷ l) f.1, rw is f.2)
  more false is h =
      subst (λ (y : Option (List ℕ) × List ℕ). (front : List ℕ) × (k ∷ xs ≡ front ++ y.1) × (user_data_in front ≡ Ok (y.0, []))) (ok_is {E = RelayFault} (None, k ∷ xs) z h) ([], refl, refl)

user_data_completes : Completes ends user_data_in
unfolding user_data_in
user_data_completes [] octets e = absurd cc
user_data_completes (k ∷ xs) octets e = more (eqb k 65) refl e where
  more : (b : Bool) → eqb k 65 ≡ b → cond b (given xs) (Ok (None, k ∷ xs)) ≡ Err Truncated → CanReadFurther user_data_in (k ∷ xs)
  more true is h =
      let g = given_last.1 xs octets.1 h in
      (g.0, g.1, (g.2.0, rw is g.2.1))
  more false is h = absurd cc

user_data_leaves : LeavesNone ends user_data_in
unfolding user_data_in
user_data_leaves [] e = absurd cc
user_data_leaves (k ∷ xs) e = more (eqb k 65) e where
  more : (b : Bool) → cond b (given xs) (Ok (None, k ∷ xs)) ≡ Err Trailing → ⊥
  more true h = given_last.2 xs h
  more false h = absurd cc

-- a unit that ends with user data
module _ (make : Option (List ℕ) → Rp) where
  abbrev made : Reads RelayFault Rp
  made xs = user_data_in xs >>= (λ unit. Ok (make unit.0, unit.1))

  made_alone : TakesAlone made
  made_alone xs z e =
      let a = bind_ok (user_data_in xs) (λ unit. Ok (make unit.0, unit.1)) z e in
      let f = user_data_alone xs a.0 a.1 in
      subst (λ (y : Rp × List ℕ). (front : List ℕ) × (xs ≡ front ++ y.1) × (made front ≡ Ok (y.0, []))) (ok_is {E = RelayFault} (make a.0.0, a.0.1) z a.2)
      (f.0, f.1, ap (λ (m : Result (Option (List ℕ) × List ℕ) RelayFault). m >>= (λ unit. Ok (make unit.0, unit.1))) f.2)

  made_completes : Completes ends made
  made_completes xs octets e = elim (bind_err (user_data_in xs) (λ unit. Ok (make unit.0, unit.1)) Truncated e) [
    | inl short ↦
        let g = user_data_completes xs octets short in
        (g.0, g.1, (make g.2.0, ap (λ (m : Result (Option (List ℕ) × List ℕ) RelayFault). m >>= (λ unit. Ok (make unit.0, unit.1))) g.2.1))
    | inr later ↦ absurd (no_err (make later.0.0, later.0.1) later.2)
  ] where
    no_err : (z : Rp × List ℕ) → (let r : Result (Rp × List ℕ) RelayFault = Ok z in r ≡ Err Truncated) → ⊥
    no_err z h = absurd cc

  made_leaves : LeavesNone ends made
  made_leaves xs e = elim (bind_err (user_data_in xs) (λ unit. Ok (make unit.0, unit.1)) Trailing e) [
    | inl first ↦ user_data_leaves xs first
    | inr later ↦ absurd (no_err (make later.0.0, later.0.1) later.2)
  ] where
    no_err : (z : Rp × List ℕ) → (let r : Result (Rp × List ℕ) RelayFault = Ok z in r ≡ Err Trailing) → ⊥
    no_err z h = absurd cc

  made_last : IsLast ends made
  made_last = (made_alone, made_completes, made_leaves)

  made_starts : Starts ends made
  unfolding user_data_in
  made_starts = inr (make None, refl)

-- ---- the units

data_last : (direction : Direction) → IsLast ends (data_in direction)
unfolding data_in tpdu_in
data_last direction =
    last_bind ends (octet_in Truncated) _ (octet_part ends) (λ reference.
    last_bind ends (addresses_in direction) _ (addresses_part direction) (λ centre.
    last_bind ends tpdu_in _ tpdu_part (λ unit. part_last ends _ (pure_part ends (DataUnit reference centre unit))) (λ unit. inr (DataUnit reference centre unit, refl))) (λ centre. inl refl))
    (λ reference. inl (rw (no_addresses direction) refl))

ack_last : IsLast ends ack_in
unfolding ack_in
ack_last = last_bind ends (octet_in Truncated) _ (octet_part ends) (λ reference. made_last (λ u. AckUnit reference u)) (λ reference. made_starts (λ u. AckUnit reference u))

error_last : IsLast ends error_in
unfolding error_in cause_in
error_last =
    last_bind ends (octet_in Truncated) _ (octet_part ends) (λ reference.
    last_bind ends cause_in _ cause_part (λ cause. made_last (λ u. ErrorUnit reference cause u)) (λ cause. made_starts (λ u. ErrorUnit reference cause u))) (λ reference. inl refl)

smma_last : (direction : Direction) → IsLast ends (smma_in direction)
unfolding smma_in
smma_last Up = last_bind ends (octet_in Truncated) _ (octet_part ends) (λ reference. part_last ends _ (pure_part ends (Smma reference))) (λ reference. inr (Smma reference, refl))
smma_last Down = unknown_last

type_last : (m : Option MessageType) (direction : Direction) → IsLast ends (unit_of m direction)
type_last (Some Data) direction = data_last direction
type_last (Some Ack) direction = ack_last
type_last (Some Error) direction = error_last
type_last (Some SmmaType) direction = smma_last direction
type_last None direction = unknown_last

-- RP-ACK with the reference 0
unit_last : (direction : Direction) → IsLast ends (unit_in direction)
unfolding unit_in type_of ack_in user_data_in
unit_last Up = last_from_octet ends _ (2 ∷ 0 ∷ [], (omega arith, (omega arith, tt)), (AckUnit 0 None, refl)) (λ k. type_last (type_of Up k) Up)
unit_last Down = last_from_octet ends _ (3 ∷ 0 ∷ [], (omega arith, (omega arith, tt)), (AckUnit 0 None, refl)) (λ k. type_last (type_of Down k) Down)

pub continues : (direction : Direction) (xs : List ℕ) → AreOctets xs → unit_at direction xs ≡ Err Truncated → HasContinuation (IsUnit direction) xs
unfolding unit_at
continues direction xs octets e =
    let g = whole_goes ends (unit_in direction) (unit_last direction) xs octets e in
    (g.0, g.1, (g.2.0, takes direction (xs ++ g.0) g.2.0 (IsBytes-octets (xs ++ g.0) (octets_both xs g.0 octets g.1)) g.2.1))

pub has_front : (direction : Direction) (xs : List ℕ) → AreOctets xs → unit_at direction xs ≡ Err Trailing → HasFront (IsUnit direction) xs
unfolding unit_at
has_front direction xs octets e =
    let f = whole_front ends (unit_in direction) (unit_last direction) xs e in
    (f.0, f.1, f.2, f.3, (f.4.0, takes direction f.0 f.4.0 (IsBytes-octets f.0 (octets_back f.0 f.1 xs f.2 octets).0) f.4.1))

-- a fault is no unit
no_unit : (fault : RelayFault) (rp : Rp) → (let r : Result Rp RelayFault = Err fault in let s : Result Rp RelayFault = Ok rp in r ≡ s) → ⊥
no_unit fault rp e = absurd cc

pub stops : (direction : Direction) (xs more : List ℕ) (rp : Rp) (fault : RelayFault) → unit_at direction xs ≡ Err fault → (fault ≡ Truncated → ⊥) → IsUnit direction (xs ++ more) rp → ⊥
stops direction xs more rp fault e other h =
    elim (fronts direction xs more rp h) [
      | inl none ↦ no_unit fault rp (sym e ∙ again direction xs rp (subst (λ (l : List ℕ). IsUnit direction l rp) (ap (λ (l : List ℕ). xs ++ l) none ∙ append-nil xs) h))
      | inr p ↦ elim p [
        | inl short ↦ other (err_is {A = Rp} fault Truncated (sym e ∙ short))
        | inr same ↦ no_unit fault _ (sym e ∙ bare_read direction xs rp (subst (λ (l : List ℕ). IsUnit direction (xs ++ l) rp) same h))
      ]
    ]
