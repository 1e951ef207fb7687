-- Fronts of a list that is read: too short, or the unit without its user data.
use Rattle.std.proofs.Common.{◌≡◌, ℕ, ◌⊎◌, inl, inr, List, [], ◌∷◌, ◌++◌, Result, Ok, Err, Option, Some, None, refl, sym, ap, subst, ◌∙◌}
use Rattle.std.proofs.lemmas.List.{append-nil, append_cancel_right}
use Rattle.sms_base.specs.Reading.{◌>>=◌, octet_in, end_in}
use Rattle.sms_base.proofs.Steps.{bind_ok, ok_is, end_takes}
use Rattle.sms_base.proofs.Cuts.{Less, CutsShort, cuts_octet, cuts_pure, cuts_bind}
use Rattle.sms_relay.specs.declared.fault.RelayFault.{RelayFault}
use Rattle.sms_relay.specs.declared.fault.RelayFault.TheVariants.{Truncated, Trailing, Unknown}
use Rattle.sms_relay.specs.declared.frame.Rp.{Rp}
use Rattle.sms_relay.specs.declared.frame.Rp.TheVariants.{DataUnit, AckUnit, ErrorUnit, Smma}
use Rattle.sms_relay.specs.declared.message_type.Direction.{Direction}
use Rattle.sms_relay.specs.declared.message_type.Direction.TheVariants.{Up, Down}
use Rattle.sms_relay.specs.declared.message_type.MessageType.{MessageType}
use Rattle.sms_relay.specs.declared.message_type.MessageType.TheVariants.{Data, Ack, Error, Smma as SmmaType}
use Rattle.sms_relay.specs.MessageType.{type_octet, type_of}
use Rattle.sms_relay.specs.RelayGrammar.{IsUnit, user_data, user_data_of, bare}
use Rattle.sms_relay.specs.RelayReading.{unit_of, addresses_in, tpdu_in, user_data_in, cause_in, data_in, ack_in, error_in, smma_in, unit_in, unit_at}
use Rattle.sms_relay.proofs.FieldLaws.{tpdu_cuts, addresses_cuts, cause_cuts, user_data_cut}
use Rattle.sms_relay.proofs.UnitLaws.{again}

-- A front of a unit reads as the same unit with so much less behind it, or ends too early, or ends before the user data.
abbrev IsFront : Result (Rp × List ℕ) RelayFault → List ℕ → Rp × List ℕ → Type 0
IsFront read ys z = Less Truncated read ys z ⊎ ((read ≡ Ok (bare z.0, [])) × (ys ≡ user_data_of z.0 ++ z.1))

abbrev CutsUnit : (List ℕ → Result (Rp × List ℕ) RelayFault) → Type 0
CutsUnit read = (xs ys : List ℕ) (z : Rp × List ℕ) → read (xs ++ ys) ≡ Ok z → IsFront (read xs) ys z

of_short : (r : List ℕ → Result (Rp × List ℕ) RelayFault) → CutsShort Truncated r → CutsUnit r
of_short r h xs ys z e = inl (h xs ys z e)

carried : {X : Type 0} (m : Result (X × List ℕ) RelayFault) (k : X × List ℕ → Result (Rp × List ℕ) RelayFault) (x : X) (left ys : List ℕ) (z : Rp × List ℕ)
    → m ≡ Ok (x, left) → IsFront (k (x, left)) ys z → IsFront (m >>= k) ys z
carried m k x left ys z e h = subst (λ (r : Result (Rp × List ℕ) RelayFault). IsFront r ys z) (sym (ap (λ n. n >>= k) e)) h

unit_bind : {X : Type 0} (r : List ℕ → Result (X × List ℕ) RelayFault) (k : X × List ℕ → Result (Rp × List ℕ) RelayFault)
    → CutsShort Truncated r → ((x : X) → CutsUnit (λ rest. k (x, rest))) → CutsUnit (λ xs. r xs >>= k)
unit_bind {X} r k hr hk xs ys z e =
    let a = bind_ok (r (xs ++ ys)) k z e in
    elim (hr xs ys a.0 a.1) [
      | inl p ↦
          let same : k (a.0.0, p.0 ++ ys) ≡ Ok z = ap (λ (l : List ℕ). k (a.0.0, l)) p.2 ∙ a.2 in
          carried (r xs) k a.0.0 p.0 ys z p.1 (hk a.0.0 p.0 ys z same)
      | inr p ↦ inl (inr (ap (λ (m : Result (X × List ℕ) RelayFault). m >>= k) p))
    ]

abbrev made : (Option (List ℕ) → Rp) → Option (List ℕ) × List ℕ → Result (Rp × List ℕ) RelayFault
made make unit = Ok (make unit.0, unit.1)

at_start : (make : Option (List ℕ) → Rp) → ((u : Option (List ℕ)) → bare (make u) ≡ make None) → (xs : List ℕ) (u : Option (List ℕ)) → xs ≡ []
    → (user_data_in xs >>= made make) ≡ Ok (bare (make u), [])
unfolding user_data_in
at_start make is_bare xs u e = rw e (ap (λ (rp : Rp). Ok (rp, [])) (sym (is_bare u)))

-- a unit that ends with its user data
tail_cuts : (make : Option (List ℕ) → Rp) → ((u : Option (List ℕ)) → bare (make u) ≡ make None) → ((u : Option (List ℕ)) → user_data_of (make u) ≡ user_data u)
    → CutsUnit (λ rest. user_data_in rest >>= made make)
tail_cuts make is_bare is_data xs ys z e =
    let k = made make in
    let a = bind_ok (user_data_in (xs ++ ys)) k z e in
    let is = ok_is {E = RelayFault} (make a.0.0, a.0.1) z a.2 in
    subst (λ (y : Rp × List ℕ). IsFront (user_data_in xs >>= k) ys y) is
    (elim (user_data_cut xs ys a.0 a.1) [
      | inl p ↦ inl (elim p [
        | inl w ↦ inl (w.0, ap (λ (m : Result (Option (List ℕ) × List ℕ) RelayFault). m >>= k) w.1, w.2)
        | inr w ↦ inr (ap (λ (m : Result (Option (List ℕ) × List ℕ) RelayFault). m >>= k) w)
      ])
      | inr p ↦ inr (at_start make is_bare xs a.0.0 p.0, p.1 ∙ ap (λ (l : List ℕ). l ++ a.0.1) (sym (is_data a.0.0)))
    ])

no_cuts : (f : RelayFault) → CutsUnit (λ xs. Err f)
no_cuts f xs ys z e = absurd cc

-- ---- the units

data_cuts : (direction : Direction) → CutsShort Truncated (data_in direction)
unfolding data_in
data_cuts direction =
    cuts_bind Truncated (octet_in Truncated) _ (cuts_octet Truncated) (λ reference.
    cuts_bind Truncated (addresses_in direction) _ (addresses_cuts direction) (λ centre.
    cuts_bind Truncated tpdu_in _ tpdu_cuts (λ unit. cuts_pure Truncated (DataUnit reference centre unit))))

ack_cuts : CutsUnit ack_in
unfolding ack_in
ack_cuts = unit_bind (octet_in Truncated) _ (cuts_octet Truncated) (λ reference. tail_cuts (λ u. AckUnit reference u) (λ u. refl) (λ u. refl))

error_cuts : CutsUnit error_in
unfolding error_in
error_cuts =
    unit_bind (octet_in Truncated) _ (cuts_octet Truncated) (λ reference.
    unit_bind cause_in _ cause_cuts (λ cause. tail_cuts (λ u. ErrorUnit reference cause u) (λ u. refl) (λ u. refl)))

smma_cuts : (direction : Direction) → CutsUnit (smma_in direction)
unfolding smma_in
smma_cuts Up = unit_bind (octet_in Truncated) _ (cuts_octet Truncated) (λ reference. of_short _ (cuts_pure Truncated (Smma reference)))
smma_cuts Down = no_cuts Unknown

type_cuts : (m : Option MessageType) (direction : Direction) → CutsUnit (unit_of m direction)
type_cuts (Some Data) direction = of_short (data_in direction) (data_cuts direction)
type_cuts (Some Ack) direction = ack_cuts
type_cuts (Some Error) direction = error_cuts
type_cuts (Some SmmaType) direction = smma_cuts direction
type_cuts None direction = no_cuts Unknown

unit_cuts : (direction : Direction) → CutsUnit (unit_in direction)
unfolding unit_in
unit_cuts direction = unit_bind (octet_in Truncated) _ (cuts_octet Truncated) (λ k. type_cuts (type_of direction k) direction)

-- ---- whole lists

abbrev ended : Rp × List ℕ → Result Rp RelayFault
ended z = end_in Trailing z.1 >>= (λ done. Ok z.0)

back_empty : (xs ys : List ℕ) → xs ++ ys ≡ [] → ys ≡ []
back_empty [] ys e = e
back_empty (x ∷ xs) ys e = absurd cc

front_of : (read : List ℕ → Result (Rp × List ℕ) RelayFault) → CutsUnit read → (front rest : List ℕ) (rp : Rp) → (read (front ++ rest) >>= ended) ≡ Ok rp
    → (rest ≡ []) ⊎ (((read front >>= ended) ≡ Err Truncated) ⊎ (rest ≡ user_data_of rp))
front_of read h front rest rp e =
    let a = bind_ok (read (front ++ rest)) ended rp e in
    let z = a.0 in
    let b = bind_ok (end_in Trailing z.1) _ rp a.2 in
    let last = end_takes Trailing z.1 b.0 b.1 in
    let is = ok_is {E = RelayFault} z.0 rp b.2 in
    elim (h front rest z a.1) [
      | inl less ↦ elim less [
        | inl w ↦ inl (back_empty w.0 rest (w.2 ∙ last))
        | inr w ↦ inr (inl (ap (λ (m : Result (Rp × List ℕ) RelayFault). m >>= ended) w))
      ]
      | inr p ↦ inr (inr (p.1 ∙ ap (λ (l : List ℕ). user_data_of z.0 ++ l) last ∙ append-nil (user_data_of z.0) ∙ ap user_data_of is))
    ]

pub fronts : (direction : Direction) (front rest : List ℕ) (rp : Rp) → IsUnit direction (front ++ rest) rp → (rest ≡ []) ⊎ ((unit_at direction front ≡ Err Truncated) ⊎ (rest ≡ user_data_of rp))
unfolding unit_at
fronts direction front rest rp h = front_of (unit_in direction) (unit_cuts direction) front rest rp (again direction (front ++ rest) rp h)

pub front_short : (direction : Direction) (front rest : List ℕ) (rp : Rp) → IsUnit direction (front ++ rest) rp → (rest ≡ [] → ⊥) → (rest ≡ user_data_of rp → ⊥)
    → unit_at direction front ≡ Err Truncated
front_short direction front rest rp h some other =
    elim (fronts direction front rest rp h) [
      | inl none ↦ absurd (some none)
      | inr p ↦ elim p [ inl short ↦ short | inr same ↦ absurd (other same) ]
    ]

-- a unit without its user data

smma_bare : (direction : Direction) (front : List ℕ) (reference : ℕ) → IsUnit direction (front ++ []) (Smma reference) → IsUnit direction front (Smma reference)
smma_bare direction front reference h = subst (λ (l : List ℕ). IsUnit direction l (Smma reference)) (append-nil front) h

bare_is : (direction : Direction) (front : List ℕ) (rp : Rp) → IsUnit direction (front ++ user_data_of rp) rp → IsUnit direction front (bare rp)
bare_is direction front (DataUnit reference centre unit) h = (h.0, h.1, sym (append-nil front) ∙ h.2)
bare_is direction front (AckUnit reference unit) h = (tt, append_cancel_right front (type_octet direction Ack ∷ reference ∷ []) (user_data unit) h.1)
bare_is direction front (ErrorUnit reference cause unit) h =
    let f = h.2.0 in
    let head = type_octet direction Error ∷ reference ∷ f in
    (h.0, tt, (f, h.2.1, append_cancel_right front head (user_data unit) h.2.2 ∙ sym (append-nil head)))
bare_is direction front (Smma reference) h = smma_bare direction front reference h

pub bare_read : (direction : Direction) (front : List ℕ) (rp : Rp) → IsUnit direction (front ++ user_data_of rp) rp → unit_at direction front ≡ Ok (bare rp)
bare_read direction front rp h = again direction front (bare rp) (bare_is direction front rp h)
