-- What is read of fields and of bodies, whatever the command. Each reading is walked once, for all that is asked of it:
-- where octets are missing, some may follow; of a body behind which octets are left over, a front is one; a wrong octet stays wrong.
use Rattle.std.proofs.Common.{◌≡◌, ◌⊎◌, ℕ, zero, suc, ◌+◌, ◌-◌, ◌*◌, ◌<◌, ◌≤◌, Bool, true, false, ◌||◌, cond, eqb, ltb, List, [], ◌∷◌, ◌++◌, length, take, drop, Option, Some, None, Result, Ok, Err, refl, sym, ap, subst, ◌∙◌, arith, inl, inr, append_assoc}
use Rattle.std.specs.List.{AllByRecursion}
use Rattle.std.proofs.lemmas.Bool.{eqb-false}
use Rattle.std.proofs.lemmas.List.{length-append, append-nil}
use Rattle.sms_base.specs.FaultReasons.{HasContinuation, HasFront}
use Rattle.sms_base.specs.Reading.{◌>>=◌, only_if, octet_in, run_in, end_in, AreOctets}
use Rattle.sms_base.proofs.FaultSteps.{Ends, Reads, TakesFront, CanReadFurther, IsPart, longer, octets_back, octets_both, part_bind, pure_part, octet_part, run_part}
use Rattle.sms_base.proofs.Steps.{bind_ok, bind_err, err_is, ok_is}
use Rattle.smpp_pdu.specs.declared.fault.PduFault.{PduFault}
use Rattle.smpp_pdu.specs.declared.fault.PduFault.TheVariants.{Truncated, BadLength, UnknownCommand, NoTerminator, BadTlv, FieldTooLong, ShortMessageTooLong}
use Rattle.smpp_pdu.specs.declared.command.CommandId.{CommandId}
use Rattle.smpp_pdu.specs.declared.command.CommandId.TheVariants.{BindReceiver as BindReceiverId, BindTransmitter as BindTransmitterId, BindTransceiver as BindTransceiverId, SubmitSm as SubmitSmId, DeliverSm as DeliverSmId, QuerySm as QuerySmId, CancelSm as CancelSmId, Unbind as UnbindId, EnquireLink as EnquireLinkId, GenericNack as GenericNackId, BindReceiverResp as BindReceiverRespId, BindTransmitterResp as BindTransmitterRespId, BindTransceiverResp as BindTransceiverRespId, SubmitSmResp as SubmitSmRespId, DeliverSmResp as DeliverSmRespId, QuerySmResp as QuerySmRespId, CancelSmResp as CancelSmRespId, UnbindResp as UnbindRespId, EnquireLinkResp as EnquireLinkRespId}
use Rattle.smpp_pdu.specs.declared.body.Body.TheVariants.{BindReceiver, BindTransmitter, BindTransceiver, SubmitSm, DeliverSm, QuerySm, CancelSm, Unbind, EnquireLink, GenericNack, BindReceiverResp, BindTransmitterResp, BindTransceiverResp, SubmitSmResp, DeliverSmResp, QuerySmResp, CancelSmResp, UnbindResp, EnquireLinkResp}
use Rattle.smpp_pdu.specs.declared.tlv.Tlvs.{Tlvs}
use Rattle.smpp_pdu.specs.Fields.{c_string, two, IsText}
use Rattle.smpp_pdu.specs.FaultReasons.{IsBodyOf}
use Rattle.smpp_pdu.specs.FieldReading.{two_in, four_in, text_in, c_string_in, time_in, short_message_in}
use Rattle.smpp_pdu.specs.Tlvs.{Tlv, tlv_octets, values_of}
use Rattle.smpp_pdu.specs.TlvReading.{tlv_in, parameters_in, tlvs_at}
use Rattle.smpp_pdu.specs.BodyReading.{address_in, bind_at, bind_resp_at, message_at, message_resp_at, query_at, query_resp_at, cancel_at}
use Rattle.smpp_pdu.specs.PduReading.{or_none, body_at}
use Rattle.smpp_pdu.proofs.FieldLaws.{text_takes, c_string_again}
use Rattle.smpp_pdu.proofs.PduLaws.{body_takes}
use Rattle.smpp_pdu.proofs.TlvFaults.{only_bad_tlv, tlv_faults}
use Rattle.smpp_pdu.proofs.TlvLaws.{tlv_shorter, tlv_takes, parameters_again}

-- the faults of octets that are missing in a body
abbrev pub IsMissing : PduFault → Type 0
IsMissing Truncated = Unit {0}
IsMissing NoTerminator = Unit {0}
IsMissing BadTlv = Unit {0}
IsMissing BadLength = ⊥
IsMissing UnknownCommand = ⊥
IsMissing FieldTooLong = ⊥
IsMissing ShortMessageTooLong = ⊥

missing_too : {A : Type 0} (f g : PduFault) → IsMissing f → (let r : Result A PduFault = Err g in r ≡ Err f) → IsMissing g
missing_too {A} f g m e = subst IsMissing (sym (err_is {A = A} g f e)) m

-- the faults of an octet that is wrong, whatever follows it
abbrev pub IsWrong : PduFault → Type 0
IsWrong FieldTooLong = Unit {0}
IsWrong ShortMessageTooLong = Unit {0}
IsWrong Truncated = ⊥
IsWrong BadLength = ⊥
IsWrong UnknownCommand = ⊥
IsWrong NoTerminator = ⊥
IsWrong BadTlv = ⊥

wrong_too : {A : Type 0} (f g : PduFault) → IsWrong f → (let r : Result A PduFault = Err g in r ≡ Err f) → IsWrong g
wrong_too {A} f g w e = subst IsWrong (sym (err_is {A = A} g f e)) w

-- the faults that no field has
abbrev IsOther : PduFault → Type 0
IsOther BadLength = Unit {0}
IsOther UnknownCommand = Unit {0}
IsOther Truncated = ⊥
IsOther NoTerminator = ⊥
IsOther BadTlv = ⊥
IsOther FieldTooLong = ⊥
IsOther ShortMessageTooLong = ⊥

other_too : {A : Type 0} (f g : PduFault) → IsOther f → (let r : Result A PduFault = Err g in r ≡ Err f) → IsOther g
other_too {A} f g m e = subst IsOther (sym (err_is {A = A} g f e)) m

pub no_fault : {A : Type 0} (x : A) (f : PduFault) → (let r : Result A PduFault = Ok x in r ≡ Err f) → ⊥
no_fault x f e = absurd cc

-- ---- fields

-- where octets are missing, some may follow
abbrev Continues : {X : Type 0} → Reads PduFault X → Type 0
Continues read = (xs : List ℕ) (f : PduFault) → AreOctets xs → IsMissing f → read xs ≡ Err f → CanReadFurther read xs

-- no length or command is a fault of it
abbrev NoOther : {X : Type 0} → Reads PduFault X → Type 0
NoOther read = (xs : List ℕ) (f : PduFault) → IsOther f → read xs ≡ Err f → ⊥

-- a wrong octet stays wrong
abbrev pub Stays : {Z : Type 0} → (List ℕ → Result Z PduFault) → Type 0
Stays read = (xs ys : List ℕ) (f : PduFault) → IsWrong f → read xs ≡ Err f → read (xs ++ ys) ≡ Err f

abbrev Part : {X : Type 0} → Reads PduFault X → Type 0
Part read = TakesFront read × Continues read × NoOther read × Stays read

-- a part that some octets are
abbrev Field : {X : Type 0} → Reads PduFault X → Type 0
Field read = Part read × CanReadFurther read []

then_stays : {X Z : Type 0} (r : Reads PduFault X) (k : X × List ℕ → Result Z PduFault) → TakesFront r → Stays r → ((x : X) → Stays (λ rest. k (x, rest))) → Stays (λ xs. r xs >>= k)
then_stays {X} {Z} r k front h hk xs ys f w e = elim (bind_err (r xs) k f e) [
  | inl q ↦ ap (λ (m : Result (X × List ℕ) PduFault). m >>= k) (h xs ys f w q)
  | inr q ↦ ap (λ (m : Result (X × List ℕ) PduFault). m >>= k) (longer r xs q.0.0 q.0.1 ys front q.1) ∙ hk q.0.0 q.0.1 ys f w q.2
]

-- one reading behind another
module _ {X Y : Type 0} (r : Reads PduFault X) (k : X × List ℕ → Result (Y × List ℕ) PduFault) where
  abbrev Then : Reads PduFault Y
  Then xs = r xs >>= k

  abbrev Behind : X → Reads PduFault Y
  Behind x rest = k (x, rest)

  front_then : TakesFront r → ((x : X) → TakesFront (Behind x)) → TakesFront Then
  front_then h hk xs z e =
      let a = bind_ok (r xs) k z e in
      let one = h xs a.0 a.1 in
      let g = hk a.0.0 a.0.1 z a.2 in
      let whole : xs ≡ (one.0 ++ g.0) ++ z.1 = one.1 ∙ ap (λ (l : List ℕ). one.0 ++ l) g.1 ∙ sym (append_assoc one.0 g.0 z.1) in (
        one.0 ++ g.0,
        whole,
        λ rest.
            ap (λ (l : List ℕ). r l >>= k) (append_assoc one.0 g.0 rest)
            ∙ ap (λ (m : Result (X × List ℕ) PduFault). m >>= k) (one.2 (g.0 ++ rest))
            ∙ g.2 rest,
      )

  none_then : NoOther r → ((x : X) → NoOther (Behind x)) → NoOther Then
  none_then h hk xs f o e = elim (bind_err (r xs) k f e) [ inl first ↦ h xs f o first | inr later ↦ hk later.0.0 later.0.1 f o later.2 ]

  behind_reads_further : (xs : List ℕ) (x : X) (rest : List ℕ) → TakesFront r → r xs ≡ Ok (x, rest) → CanReadFurther (Behind x) rest → CanReadFurther Then xs
  behind_reads_further xs x rest h e g = (g.0, g.1, (g.2.0, ap (λ (m : Result (X × List ℕ) PduFault). m >>= k) (longer r xs x rest g.0 h e) ∙ g.2.1))

  later_continues : (xs : List ℕ) (f : PduFault) → TakesFront r → ((x : X) → Continues (Behind x)) → AreOctets xs → IsMissing f
      → (x : X) (rest : List ℕ) → r xs ≡ Ok (x, rest) → k (x, rest) ≡ Err f → CanReadFurther Then xs
  later_continues xs f h hk octets m x rest e q =
      let one = h xs (x, rest) e in
      behind_reads_further xs x rest h e (hk x rest f (octets_back one.0 rest xs one.1 octets).1 m q)

  field_then : Field r → ((x : X) → Field (Behind x)) → Field Then
  field_then h hk = ((front_then h.0.0 (λ x. (hk x).0.0), continues, none_then h.0.2 (λ x. (hk x).0.2), then_stays r k h.0.0 h.0.3 (λ x. (hk x).0.3)), some) where
    joined : (xs : List ℕ) → CanReadFurther r xs → CanReadFurther Then xs
    joined xs g =
        let x = g.2.0 in
        let n = behind_reads_further (xs ++ g.0) x [] h.0.0 g.2.1 (hk x).1 in
        (g.0 ++ n.0, octets_both g.0 n.0 g.1 n.1, (n.2.0, ap (λ (l : List ℕ). r l >>= k) (sym (append_assoc xs g.0 n.0)) ∙ n.2.1))

    some : CanReadFurther Then []
    some = joined [] h.1

    continues : Continues Then
    continues xs f octets m e = elim (bind_err (r xs) k f e) [
      | inl q ↦ joined xs (h.0.1 xs f octets m q)
      | inr q ↦ later_continues xs f h.0.0 (λ x. (hk x).0.1) octets m q.0.0 q.0.1 q.1 q.2
    ]

pure_field : {X : Type 0} (x : X) → Field {X = X} (λ xs. Ok (x, xs))
pure_field {X} x = (
  (
    front,
    (λ xs f octets m e. absurd (no_fault {A = X × List ℕ} (x, xs) f e)),
    (λ xs f o e. no_fault {A = X × List ℕ} (x, xs) f e),
    (λ xs ys f w e. absurd (no_fault {A = X × List ℕ} (x, xs) f e)),
  ),
  ([], tt, (x, refl)),
) where
  front : TakesFront {E = PduFault} {X = X} (λ xs. Ok (x, xs))
  front xs z e =
      subst (λ (y : X × List ℕ). (front : List ℕ) × (xs ≡ front ++ y.1) × ((rest : List ℕ) → (let s : Result (X × List ℕ) PduFault = Ok (x, front ++ rest) in s ≡ Ok (y.0, rest))))
      (ok_is {E = PduFault} (x, xs) z e) ([], refl, λ rest. refl)

-- a test whose fault is that of a wrong octet
test_part : {X : Type 0} (b : Bool) (bad : PduFault) (r : Reads PduFault X) → (IsMissing bad → ⊥) → (IsOther bad → ⊥) → Part r → Part (λ xs. only_if b bad >>= (λ u. r xs))
test_part true bad r fit none h = h
test_part {X} false bad r fit none h = (
  (λ xs z e. absurd cc),
  (λ xs f octets m e. absurd (fit (missing_too {A = X × List ℕ} f bad m e))),
  (λ xs f o e. none (other_too {A = X × List ℕ} f bad o e)),
  (λ xs ys f w e. e),
)

-- the two faults of sms_base's parts, of which only the first is met in octets and runs of octets
abbrev cut : Ends PduFault
cut = record { short = Truncated; spare = BadLength; apart = λ e. absurd cc }

octet_is_part : Part (octet_in Truncated)
octet_is_part = ((octet_part cut).0, continues, none, stays) where
  stays : Stays (octet_in Truncated)
  stays [] ys f w e = absurd (wrong_too {A = ℕ × List ℕ} f Truncated w e)
  stays (x ∷ xs) ys f w e = absurd (no_fault {A = ℕ × List ℕ} (x, xs) f e)

  none : NoOther (octet_in Truncated)
  none [] f o e = other_too {A = ℕ × List ℕ} f Truncated o e
  none (x ∷ xs) f o e = no_fault {A = ℕ × List ℕ} (x, xs) f e

  continues : Continues (octet_in Truncated)
  continues [] f octets m e = (0 ∷ [], (omega arith, tt), (0, refl))
  continues (o ∷ xs) f octets m e = absurd (no_fault {A = ℕ × List ℕ} (o, xs) f e)

octet_field : Field (octet_in Truncated)
octet_field = (octet_is_part, (0 ∷ [], (omega arith, tt), (0, refl)))

run_is_part : (n : ℕ) → Part (run_in Truncated n)
unfolding run_in
run_is_part n = ((run_part cut n).0, continues, (λ xs f o e. none (ltb (length xs) n) xs f o e), (λ xs ys f w e. absurd (wrong (ltb (length xs) n) xs f w e))) where
  wrong : (b : Bool) (xs : List ℕ) (f : PduFault) → IsWrong f → cond {A = Result (List ℕ × List ℕ) PduFault} b (Err Truncated) (Ok (take n xs, drop n xs)) ≡ Err f → ⊥
  wrong true xs f w e = wrong_too {A = List ℕ × List ℕ} f Truncated w e
  wrong false xs f w e = no_fault {A = List ℕ × List ℕ} (take n xs, drop n xs) f e

  none : (b : Bool) (xs : List ℕ) (f : PduFault) → IsOther f → cond {A = Result (List ℕ × List ℕ) PduFault} b (Err Truncated) (Ok (take n xs, drop n xs)) ≡ Err f → ⊥
  none true xs f o e = other_too {A = List ℕ × List ℕ} f Truncated o e
  none false xs f o e = no_fault {A = List ℕ × List ℕ} (take n xs, drop n xs) f e

  short : (b : Bool) (xs : List ℕ) (f : PduFault) → cond {A = Result (List ℕ × List ℕ) PduFault} b (Err Truncated) (Ok (take n xs, drop n xs)) ≡ Err f
      → cond {A = Result (List ℕ × List ℕ) PduFault} b (Err Truncated) (Ok (take n xs, drop n xs)) ≡ Err Truncated
  short true xs f e = refl
  short false xs f e = absurd (no_fault {A = List ℕ × List ℕ} (take n xs, drop n xs) f e)

  continues : Continues (run_in Truncated n)
  continues xs f octets m e = (run_part cut n).1 xs octets (short (ltb (length xs) n) xs f e)

-- an octet and what stands behind it, where some octets are read to their end
octet_then : {Y : Type 0} (k : ℕ × List ℕ → Result (Y × List ℕ) PduFault) → CanReadFurther (λ xs. octet_in Truncated xs >>= k) [] → ((o : ℕ) → Part (λ rest. k (o, rest))) → Field (λ xs. octet_in Truncated xs >>= k)
octet_then {Y} k some h = (
  (
    front_then (octet_in Truncated) k octet_is_part.0 (λ o. (h o).0),
    continues,
    none_then (octet_in Truncated) k octet_is_part.2 (λ o. (h o).2),
    then_stays (octet_in Truncated) k octet_is_part.0 octet_is_part.3 (λ o. (h o).3),
  ),
  some,
) where
  continues : Continues (λ xs. octet_in Truncated xs >>= k)
  continues [] f octets m e = some
  continues (o ∷ xs) f octets m e = later_continues (octet_in Truncated) k (o ∷ xs) f octet_is_part.0 (λ x. (h x).1) octets m o xs refl e

-- ---- numbers

two_field : Field (two_in Truncated)
unfolding two_in
two_field =
    field_then (octet_in Truncated) _ octet_field (λ high.
    field_then (octet_in Truncated) _ octet_field (λ low.
    pure_field (256 * high + low)))

four_field : Field four_in
unfolding four_in
four_field =
    field_then (two_in Truncated) _ two_field (λ high.
    field_then (two_in Truncated) _ two_field (λ low.
    pure_field (65536 * high + low)))

pub four_front : TakesFront four_in
four_front = four_field.0.0

-- ---- C-octet strings

-- octets in which no NUL ends the string, and which are fewer than it may have
unended : (limit : ℕ) (xs : List ℕ) (f : PduFault) → IsMissing f → text_in limit xs ≡ Err f → IsText limit xs
unfolding text_in
unended zero xs f m e = absurd (missing_too {A = List ℕ × List ℕ} f FieldTooLong m e)
unended (suc limit) [] f m e = record { no_nul = tt; short = omega arith }
unended (suc limit) (o ∷ xs) f m e = by_test (eqb o 0) refl e (λ q. unended limit xs f m q) where
  by_test : (b : Bool) → eqb o 0 ≡ b → cond {A = Result (List ℕ × List ℕ) PduFault} b (Ok ([], xs)) (text_in limit xs >>= (λ more. Ok (o ∷ more.0, more.1))) ≡ Err f
      → (text_in limit xs ≡ Err f → IsText limit xs) → IsText (suc limit) (o ∷ xs)
  by_test true t h again = absurd (no_fault {A = List ℕ × List ℕ} ([], xs) f h)
  by_test false t h again = elim (bind_err (text_in limit xs) (λ more. Ok (o ∷ more.0, more.1)) f h) [
    | inl q ↦
        let rest = again q in
        let some : 0 < o = let ne = eqb-false o 0 t in omega arith in
        record { no_nul = (some, rest.no_nul); short = omega (arith, rest.short) }
    | inr q ↦ absurd (no_fault {A = List ℕ × List ℕ} (o ∷ q.0.0, q.0.1) f q.2)
  ]

text_no_other : (limit : ℕ) (xs : List ℕ) (f : PduFault) → IsOther f → text_in limit xs ≡ Err f → ⊥
unfolding text_in
text_no_other zero xs f other e = other_too {A = List ℕ × List ℕ} f FieldTooLong other e
text_no_other (suc limit) [] f other e = other_too {A = List ℕ × List ℕ} f NoTerminator other e
text_no_other (suc limit) (o ∷ xs) f other e = by_test (eqb o 0) e (λ q. text_no_other limit xs f other q) where
  by_test : (b : Bool) → cond {A = Result (List ℕ × List ℕ) PduFault} b (Ok ([], xs)) (text_in limit xs >>= (λ more. Ok (o ∷ more.0, more.1))) ≡ Err f
      → (text_in limit xs ≡ Err f → ⊥) → ⊥
  by_test true h again = no_fault {A = List ℕ × List ℕ} ([], xs) f h
  by_test false h again = elim (bind_err (text_in limit xs) (λ more. Ok (o ∷ more.0, more.1)) f h) [
    | inl q ↦ again q
    | inr q ↦ no_fault {A = List ℕ × List ℕ} (o ∷ q.0.0, q.0.1) f q.2
  ]

text_stays : (limit : ℕ) → Stays (text_in limit)
unfolding text_in
text_stays zero xs ys f w e = e
text_stays (suc limit) [] ys f w e = absurd (wrong_too {A = List ℕ × List ℕ} f NoTerminator w e)
text_stays (suc limit) (o ∷ xs) ys f w e = by_test (eqb o 0) e (λ q. text_stays limit xs ys f w q) where
  by_test : (b : Bool) → cond {A = Result (List ℕ × List ℕ) PduFault} b (Ok ([], xs)) (text_in limit xs >>= (λ more. Ok (o ∷ more.0, more.1))) ≡ Err f
      → (text_in limit xs ≡ Err f → text_in limit (xs ++ ys) ≡ Err f)
      → cond {A = Result (List ℕ × List ℕ) PduFault} b (Ok ([], xs ++ ys)) (text_in limit (xs ++ ys) >>= (λ more. Ok (o ∷ more.0, more.1))) ≡ Err f
  by_test true h again = absurd (no_fault {A = List ℕ × List ℕ} ([], xs) f h)
  by_test false h again = elim (bind_err (text_in limit xs) (λ more. Ok (o ∷ more.0, more.1)) f h) [
    | inl q ↦ ap (λ (m : Result (List ℕ × List ℕ) PduFault). m >>= (λ more. let r : Result (List ℕ × List ℕ) PduFault = Ok (o ∷ more.0, more.1) in r)) (again q)
    | inr q ↦ absurd (no_fault {A = List ℕ × List ℕ} (o ∷ q.0.0, q.0.1) f q.2)
  ]

c_string_stays : (limit : ℕ) → Stays (c_string_in limit)
unfolding c_string_in
c_string_stays limit [] ys f w e = absurd (wrong_too {A = List ℕ × List ℕ} f Truncated w e)
c_string_stays limit (o ∷ xs) ys f w e = text_stays limit (o ∷ xs) ys f w e

c_string_front : (limit : ℕ) → TakesFront (c_string_in limit)
unfolding c_string_in
c_string_front limit [] z e = absurd cc
c_string_front limit (o ∷ xs) z e = let t = text_takes limit (o ∷ xs) z e in (c_string z.0, t.parts, λ rest. c_string_again limit z.0 rest t.text)

c_string_no_other : (limit : ℕ) → NoOther (c_string_in limit)
unfolding c_string_in
c_string_no_other limit [] f other e = other_too {A = List ℕ × List ℕ} f Truncated other e
c_string_no_other limit (o ∷ xs) f other e = text_no_other limit (o ∷ xs) f other e

-- no octets, of which a string has not begun, or octets that no NUL ends
c_string_unended : (limit : ℕ) (xs : List ℕ) (f : PduFault) → IsMissing f → c_string_in (suc limit) xs ≡ Err f → IsText (suc limit) xs
unfolding c_string_in
c_string_unended limit [] f m e = record { no_nul = tt; short = omega arith }
c_string_unended limit (o ∷ xs) f m e = unended (suc limit) (o ∷ xs) f m e

ended : (limit : ℕ) (text : List ℕ) → IsText limit text → c_string_in limit (text ++ 0 ∷ []) ≡ Ok (text, [])
ended limit text h = ap (c_string_in limit) (sym (append-nil (c_string text))) ∙ c_string_again limit text [] h

c_string_field : (limit : ℕ) → Field (c_string_in (suc limit))
c_string_field limit = ((c_string_front (suc limit), continues, c_string_no_other (suc limit), c_string_stays (suc limit)), (0 ∷ [], (omega arith, tt), ([], ended (suc limit) [] none))) where
  none : IsText (suc limit) []
  none = record { no_nul = tt; short = omega arith }

  continues : Continues (c_string_in (suc limit))
  continues xs f octets m e = (0 ∷ [], (omega arith, tt), (xs, ended (suc limit) xs (c_string_unended limit xs f m e)))

-- ---- times

ones : ℕ → List ℕ
ones zero = []
ones (suc n) = 1 ∷ ones n

ones_octets : (n : ℕ) → AreOctets (ones n)
unfolding ones
ones_octets zero = tt
ones_octets (suc n) = (omega arith, ones_octets n)

ones_length : (n : ℕ) → length (ones n) ≡ n
unfolding ones
ones_length zero = refl
ones_length (suc n) = ap (λ (m : ℕ). suc m) (ones_length n)

ones_no_nul : (n : ℕ) → AllByRecursion (λ o. 0 < o) (ones n)
unfolding ones
ones_no_nul zero = tt
ones_no_nul (suc n) = (omega arith, ones_no_nul n)

no_nul_behind : (xs : List ℕ) (n : ℕ) → AllByRecursion (λ o. 0 < o) xs → AllByRecursion (λ o. 0 < o) (xs ++ ones n)
no_nul_behind [] n h = ones_no_nul n
no_nul_behind (x ∷ xs) n h = (h.0, no_nul_behind xs n h.1)

-- a time of sixteen characters, or none
time_test : (n : ℕ) → n ≡ 16 → eqb n 0 || eqb n 16 ≡ true
time_test n e = rw e refl

filled : (xs : List ℕ) → IsText 17 xs → time_in ((xs ++ ones (16 - length xs)) ++ 0 ∷ []) ≡ Ok (xs ++ ones (16 - length xs), [])
unfolding time_in
filled xs h =
    let len : length (xs ++ ones (16 - length xs)) ≡ 16 = omega (arith, h.short, length-append xs (ones (16 - length xs)), ones_length (16 - length xs)) in
    let is : IsText 17 (xs ++ ones (16 - length xs)) = record { no_nul = no_nul_behind xs (16 - length xs) h.no_nul; short = omega (arith, len) } in
    rw (ended 17 (xs ++ ones (16 - length xs)) is, time_test (length (xs ++ ones (16 - length xs))) len) refl

no_time : time_in (0 ∷ []) ≡ Ok ([], [])
unfolding time_in c_string_in text_in
no_time = refl

-- a time whose length is tested
tested : (b : Bool) (t : List ℕ) → Part (λ rest. only_if b FieldTooLong >>= (λ u. Ok (t, rest)))
tested b t = test_part b FieldTooLong (λ rest. Ok (t, rest)) (λ m. m) (λ o. o) (pure_field t).0

-- such a time has no fault of octets that are missing
tested_whole : (b : Bool) (t rest : List ℕ) (f : PduFault) → IsMissing f → (only_if b FieldTooLong >>= (λ u. let r : Result (List ℕ × List ℕ) PduFault = Ok (t, rest) in r)) ≡ Err f → ⊥
tested_whole true t rest f m e = no_fault {A = List ℕ × List ℕ} (t, rest) f e
tested_whole false t rest f m e = missing_too {A = List ℕ × List ℕ} f FieldTooLong m e

time_reads_further : (xs : List ℕ) → IsText 17 xs → CanReadFurther time_in xs
time_reads_further xs h =
    let same : xs ++ (ones (16 - length xs) ++ 0 ∷ []) ≡ (xs ++ ones (16 - length xs)) ++ 0 ∷ [] = sym (append_assoc xs (ones (16 - length xs)) (0 ∷ [])) in (
      ones (16 - length xs) ++ 0 ∷ [],
      octets_both (ones (16 - length xs)) (0 ∷ []) (ones_octets (16 - length xs)) (omega arith, tt),
      (xs ++ ones (16 - length xs), ap time_in same ∙ filled xs h),
    )

time_part : Part time_in
unfolding time_in
time_part = (
  front_then (c_string_in 17) _ (c_string_front 17) (λ t. (tested (eqb (length t) 0 || eqb (length t) 16) t).0),
  (λ xs f octets m e. continues xs f m (bind_err (c_string_in 17 xs) _ f e)),
  none_then (c_string_in 17) _ (c_string_no_other 17) (λ t. (tested (eqb (length t) 0 || eqb (length t) 16) t).2),
  then_stays (c_string_in 17) _ (c_string_front 17) (c_string_stays 17) (λ t. (tested (eqb (length t) 0 || eqb (length t) 16) t).3),
) where
  continues : (xs : List ℕ) (f : PduFault) → IsMissing f
      → (c_string_in 17 xs ≡ Err f) ⊎ ((x : List ℕ × List ℕ) × (c_string_in 17 xs ≡ Ok x)
      × ((only_if (eqb (length x.0) 0 || eqb (length x.0) 16) FieldTooLong >>= (λ u. let r : Result (List ℕ × List ℕ) PduFault = Ok (x.0, x.1) in r)) ≡ Err f))
      → CanReadFurther time_in xs
  continues xs f m (inl q) = time_reads_further xs (c_string_unended 16 xs f m q)
  continues xs f m (inr q) = absurd (tested_whole (eqb (length q.0.0) 0 || eqb (length q.0.0) 16) q.0.0 q.0.1 f m q.2)

time_field : Field time_in
time_field = (time_part, (0 ∷ [], (omega arith, tt), ([], no_time)))

-- ---- short_message and addresses

short_message_field : Field short_message_in
unfolding short_message_in run_in
short_message_field =
    octet_then _ (0 ∷ [], (omega arith, tt), ([], refl))
    (λ n. test_part (ltb n 255) ShortMessageTooLong (run_in Truncated n) (λ m. m) (λ o. o) (run_is_part n))

address_field : Field address_in
unfolding address_in
address_field =
    field_then (octet_in Truncated) _ octet_field (λ ton.
    field_then (octet_in Truncated) _ octet_field (λ npi.
    field_then (c_string_in 21) _ (c_string_field 20) (λ addr.
    pure_field (record { ton = ton; npi = npi; addr = addr }))))

-- ---- optional parameters

abbrev cut_tlv : Ends PduFault
cut_tlv = record { short = BadTlv; spare = BadLength; apart = λ e. absurd cc }

two_part : IsPart cut_tlv (two_in BadTlv)
unfolding two_in
two_part =
    part_bind cut_tlv (octet_in BadTlv) _ (octet_part cut_tlv) (λ high.
    part_bind cut_tlv (octet_in BadTlv) _ (octet_part cut_tlv) (λ low. pure_part cut_tlv (256 * high + low)) (λ low. inr (256 * high + low, refl))) (λ high. inl refl)

-- the value of so many octets
abbrev valued : ℕ → ℕ → Reads PduFault Tlv
valued tag n rest = run_in BadTlv n rest >>= (λ value. Ok ((tag, value.0), value.1))

none_behind : (n : ℕ) → (let none : List ℕ = [] in drop n none ≡ [])
none_behind zero = refl
none_behind (suc n) = refl

valued_starts : (tag n : ℕ) → (valued tag n [] ≡ Err BadTlv) ⊎ ((x : Tlv) × (valued tag n [] ≡ Ok (x, [])))
unfolding run_in
valued_starts tag n = by_test (ltb 0 n) where
  by_test : (b : Bool)
      → ((cond {A = Result (List ℕ × List ℕ) PduFault} b (Err BadTlv) (Ok (take n [], drop n [])) >>= (λ value. let r : Result (Tlv × List ℕ) PduFault = Ok ((tag, value.0), value.1) in r)) ≡ Err BadTlv)
      ⊎ ((x : Tlv) × ((cond {A = Result (List ℕ × List ℕ) PduFault} b (Err BadTlv) (Ok (take n [], drop n [])) >>= (λ value. let r : Result (Tlv × List ℕ) PduFault = Ok ((tag, value.0), value.1) in r)) ≡ Ok (x, [])))
  by_test true = inl refl
  by_test false = inr ((tag, take n []), ap (λ (l : List ℕ). let r : Result (Tlv × List ℕ) PduFault = Ok ((tag, take n []), l) in r) (none_behind n))

tlv_part : IsPart cut_tlv tlv_in
unfolding tlv_in two_in
tlv_part =
    part_bind cut_tlv (two_in BadTlv) _ two_part (λ tag.
    part_bind cut_tlv (two_in BadTlv) _ two_part (λ n.
    part_bind cut_tlv (run_in BadTlv n) _ (run_part cut_tlv n) (λ value. pure_part cut_tlv (tag, value)) (λ value. inr ((tag, value), refl))) (λ n. valued_starts tag n)) (λ tag. inl refl)

-- octets that may follow, with which they are parameters
abbrev AreMore : List ℕ → Type 0
AreMore xs = (more : List ℕ) × AreOctets more × ((tlvs : List Tlv) × (xs ++ more ≡ tlv_octets tlvs))

parameters_continue : (n : ℕ) (xs : List ℕ) (f : PduFault) → length xs ≤ n → AreOctets xs → parameters_in n xs ≡ Err f → AreMore xs
unfolding parameters_in
parameters_continue zero [] f le octets e = absurd (no_fault {A = List Tlv} [] f e)
parameters_continue zero (o ∷ xs) f le octets e = absurd (omega (arith, le))
parameters_continue (suc n) [] f le octets e = absurd (no_fault {A = List Tlv} [] f e)
parameters_continue (suc n) (o ∷ xs) f le octets e =
    elim (bind_err (tlv_in (o ∷ xs)) _ f e) [
      | inl q ↦
          let g = tlv_part.1 (o ∷ xs) octets (tlv_faults (o ∷ xs) f q) in
          let t = tlv_takes ((o ∷ xs) ++ g.0) (g.2.0, []) (octets_both (o ∷ xs) g.0 octets g.1) g.2.1 in
          (g.0, g.1, (g.2.0 ∷ [], t.parts))
      | inr q ↦
          let t = tlv_takes (o ∷ xs) q.0 octets q.1 in
          let shorter = tlv_shorter (o ∷ xs) q.0 q.1 in
          behind q.0 t.parts (λ e. parameters_continue n q.0.1 f (omega (arith, le, shorter)) t.octets e) q.2
    ] where
      behind : (x : Tlv × List ℕ) → o ∷ xs ≡ two x.0.0 ++ (two (length x.0.1) ++ (x.0.1 ++ x.1)) → (parameters_in n x.1 ≡ Err f → AreMore x.1)
          → (parameters_in n x.1 >>= (λ tlvs. let r : Result (List Tlv) PduFault = Ok (x.0 ∷ tlvs) in r)) ≡ Err f → AreMore (o ∷ xs)
      behind x parts again h = elim (bind_err (parameters_in n x.1) _ f h) [
        | inl q ↦
            let g = again q in
            let spelled : (o ∷ xs) ++ g.0 ≡ tlv_octets (x.0 ∷ g.2.0) =
            ap (λ (l : List ℕ). l ++ g.0) parts
            ∙ ap (λ (l : List ℕ). two x.0.0 ++ (two (length x.0.1) ++ l)) (append_assoc x.0.1 x.1 g.0 ∙ ap (λ (l : List ℕ). x.0.1 ++ l) g.2.1) in
            (g.0, g.1, (x.0 ∷ g.2.0, spelled))
        | inr q ↦ absurd (no_fault {A = List Tlv} (x.0 ∷ q.0) f q.2)
      ]

-- ---- bodies

abbrev AllReads : Type 0 → Type 0
AllReads Z = List ℕ → Result Z PduFault

-- octets may follow with which it is read
abbrev Completed : {Z : Type 0} → AllReads Z → List ℕ → Type 0
Completed {Z} read xs = (more : List ℕ) × AreOctets more × ((z : Z) × (read (xs ++ more) ≡ Ok z))

-- a proper front of it is read
abbrev Fronted : {Z : Type 0} → AllReads Z → List ℕ → Type 0
Fronted {Z} read xs = (front : List ℕ) × (rest : List ℕ) × (xs ≡ front ++ rest) × (rest ≡ [] → ⊥) × ((z : Z) × (read front ≡ Ok z))

abbrev Whole : {Z : Type 0} → AllReads Z → Type 0
Whole read =
    ((xs : List ℕ) (f : PduFault) → AreOctets xs → IsMissing f → read xs ≡ Err f → Completed read xs)
    × ((xs : List ℕ) → read xs ≡ Err BadLength → Fronted read xs)
    × Completed read []
    × ((xs : List ℕ) → read xs ≡ Err UnknownCommand → ⊥)
    × Stays read

-- a field, and the rest of a body behind it
module _ {X Z : Type 0} (r : Reads PduFault X) (k : X × List ℕ → Result Z PduFault) where
  abbrev All : AllReads Z
  All xs = r xs >>= k

  abbrev Rest : X → AllReads Z
  Rest x rest = k (x, rest)

  all_reads_further : (xs : List ℕ) (x : X) (rest : List ℕ) → TakesFront r → r xs ≡ Ok (x, rest) → Completed (Rest x) rest → Completed All xs
  all_reads_further xs x rest h e g = (g.0, g.1, (g.2.0, ap (λ (m : Result (X × List ℕ) PduFault). m >>= k) (longer r xs x rest g.0 h e) ∙ g.2.1))

  then : Field r → ((x : X) → Whole (Rest x)) → Whole All
  then h hk = (continues, long, some, (λ xs e. unknown xs (bind_err (r xs) k UnknownCommand e)), then_stays r k h.0.0 h.0.3 (λ x. (hk x).4)) where
    unknown : (xs : List ℕ) → (r xs ≡ Err UnknownCommand) ⊎ ((x : X × List ℕ) × (r xs ≡ Ok x) × (k x ≡ Err UnknownCommand)) → ⊥
    unknown xs (inl q) = h.0.2 xs UnknownCommand tt q
    unknown xs (inr q) = (hk q.0.0).3 q.0.1 q.2

    joined : (xs : List ℕ) → CanReadFurther r xs → Completed All xs
    joined xs g =
        let x = g.2.0 in
        let n = all_reads_further (xs ++ g.0) x [] h.0.0 g.2.1 (hk x).2 in
        (g.0 ++ n.0, octets_both g.0 n.0 g.1 n.1, (n.2.0, ap (λ (l : List ℕ). r l >>= k) (sym (append_assoc xs g.0 n.0)) ∙ n.2.1))

    some : Completed All []
    some = joined [] h.1

    continues : (xs : List ℕ) (f : PduFault) → AreOctets xs → IsMissing f → All xs ≡ Err f → Completed All xs
    continues xs f octets m e = elim (bind_err (r xs) k f e) [
      | inl q ↦ joined xs (h.0.1 xs f octets m q)
      | inr q ↦
          let one = h.0.0 xs q.0 q.1 in
          let rest = (octets_back one.0 q.0.1 xs one.1 octets).1 in
          all_reads_further xs q.0.0 q.0.1 h.0.0 q.1 ((hk q.0.0).0 q.0.1 f rest m q.2)
    ]

    long : (xs : List ℕ) → All xs ≡ Err BadLength → Fronted All xs
    long xs e = elim (bind_err (r xs) k BadLength e) [
      | inl q ↦ absurd (h.0.2 xs BadLength tt q)
      | inr q ↦
          let one = h.0.0 xs q.0 q.1 in
          let g = (hk q.0.0).1 q.0.1 q.2 in
          let parts : xs ≡ (one.0 ++ g.0) ++ g.1 = one.1 ∙ ap (λ (l : List ℕ). one.0 ++ l) g.2 ∙ sym (append_assoc one.0 g.0 g.1) in
          (one.0 ++ g.0, g.1, parts, g.3, (g.4.0, ap (λ (m : Result (X × List ℕ) PduFault). m >>= k) (one.2 g.0) ∙ g.4.1))
    ]

at_end : {Z : Type 0} (v : Z) → Whole (λ xs. end_in BadLength xs >>= (λ u. Ok v))
at_end {Z} v = (continues, long, ([], tt, (v, refl)), unknown, stays) where
  stays : Stays {Z = Z} (λ xs. end_in BadLength xs >>= (λ u. Ok v))
  stays [] ys f w e = absurd (no_fault {A = Z} v f e)
  stays (o ∷ xs) ys f w e = absurd (wrong_too {A = Z} f BadLength w e)

  unknown : (xs : List ℕ) → (end_in BadLength xs >>= (λ u. let r : Result Z PduFault = Ok v in r)) ≡ Err UnknownCommand → ⊥
  unknown [] e = no_fault {A = Z} v UnknownCommand e
  unknown (o ∷ xs) e = absurd (let f = err_is {A = Z} BadLength UnknownCommand e in cc)

  continues : (xs : List ℕ) (f : PduFault) → AreOctets xs → IsMissing f → (end_in BadLength xs >>= (λ u. let r : Result Z PduFault = Ok v in r)) ≡ Err f
      → Completed {Z = Z} (λ xs. end_in BadLength xs >>= (λ u. Ok v)) xs
  continues [] f octets m e = absurd (no_fault {A = Z} v f e)
  continues (o ∷ xs) f octets m e = absurd (missing_too {A = Z} f BadLength m e)

  long : (xs : List ℕ) → (end_in BadLength xs >>= (λ u. let r : Result Z PduFault = Ok v in r)) ≡ Err BadLength → Fronted {Z = Z} (λ xs. end_in BadLength xs >>= (λ u. Ok v)) xs
  long [] e = absurd (no_fault {A = Z} v BadLength e)
  long (o ∷ xs) e = ([], o ∷ xs, refl, (λ none. absurd cc), (v, refl))

no_tlvs_read : tlvs_at [] ≡ Ok (values_of [])
unfolding tlvs_at parameters_in
no_tlvs_read = refl

tlvs_continue : (xs : List ℕ) (f : PduFault) → AreOctets xs → tlvs_at xs ≡ Err f → Completed tlvs_at xs
unfolding tlvs_at
tlvs_continue xs f octets e = elim (bind_err (parameters_in (length xs) xs) _ f e) [
  | inl q ↦
      let g = parameters_continue (length xs) xs f (omega arith) octets q in
      (g.0, g.1, (values_of g.2.0, parameters_again (xs ++ g.0) (values_of g.2.0) (g.2.0, g.2.1, refl)))
  | inr q ↦ absurd (no_fault {A = Tlvs} (values_of q.0) f q.2)
]

-- a value of what was read
abbrev mapped : {A B : Type 0} → (A → B) → Result A PduFault → Result B PduFault
mapped k m = m >>= (λ x. Ok (k x))

at_tlvs : {Z : Type 0} (k : Tlvs → Z) → Whole (λ xs. tlvs_at xs >>= (λ tlvs. Ok (k tlvs)))
at_tlvs {Z} k = (
  continues,
  long,
  ([], tt, (k (values_of []), ap (λ (m : Result Tlvs PduFault). mapped k m) no_tlvs_read)),
  (λ xs e. unknown xs (bind_err (tlvs_at xs) (λ tlvs. Ok (k tlvs)) UnknownCommand e)),
  (λ xs ys f w e. absurd (wrong xs f w (bind_err (tlvs_at xs) (λ tlvs. Ok (k tlvs)) f e))),
) where
  wrong : (xs : List ℕ) (f : PduFault) → IsWrong f → (tlvs_at xs ≡ Err f) ⊎ ((x : Tlvs) × (tlvs_at xs ≡ Ok x) × ((let r : Result Z PduFault = Ok (k x) in r) ≡ Err f)) → ⊥
  wrong xs f w (inl q) = subst IsWrong (only_bad_tlv xs f q) w
  wrong xs f w (inr q) = no_fault {A = Z} (k q.0) f q.2

  unknown : (xs : List ℕ) → (tlvs_at xs ≡ Err UnknownCommand) ⊎ ((x : Tlvs) × (tlvs_at xs ≡ Ok x) × ((let r : Result Z PduFault = Ok (k x) in r) ≡ Err UnknownCommand)) → ⊥
  unknown xs (inl q) = absurd (let only = only_bad_tlv xs UnknownCommand q in cc)
  unknown xs (inr q) = no_fault {A = Z} (k q.0) UnknownCommand q.2

  continues : (xs : List ℕ) (f : PduFault) → AreOctets xs → IsMissing f → mapped k (tlvs_at xs) ≡ Err f → Completed (λ xs. mapped k (tlvs_at xs)) xs
  continues xs f octets m e = elim (bind_err (tlvs_at xs) (λ tlvs. Ok (k tlvs)) f e) [
    | inl q ↦ let g = tlvs_continue xs f octets q in (g.0, g.1, (k g.2.0, ap (λ (m : Result Tlvs PduFault). mapped k m) g.2.1))
    | inr q ↦ absurd (no_fault {A = Z} (k q.0) f q.2)
  ]

  long : (xs : List ℕ) → mapped k (tlvs_at xs) ≡ Err BadLength → Fronted (λ xs. mapped k (tlvs_at xs)) xs
  long xs e = elim (bind_err (tlvs_at xs) (λ tlvs. Ok (k tlvs)) BadLength e) [
    | inl q ↦ absurd (let only = only_bad_tlv xs BadLength q in cc)
    | inr q ↦ absurd (no_fault {A = Z} (k q.0) BadLength q.2)
  ]

bind_whole : Whole bind_at
unfolding bind_at
bind_whole =
    then (c_string_in 16) _ (c_string_field 15) (λ system_id.
    then (c_string_in 9) _ (c_string_field 8) (λ password.
    then (c_string_in 13) _ (c_string_field 12) (λ system_type.
    then (octet_in Truncated) _ octet_field (λ interface_version.
    then (octet_in Truncated) _ octet_field (λ addr_ton.
    then (octet_in Truncated) _ octet_field (λ addr_npi.
    then (c_string_in 41) _ (c_string_field 40) (λ address_range.
    at_end (record { system_id = system_id; password = password; system_type = system_type; interface_version = interface_version; addr_ton = addr_ton; addr_npi = addr_npi; address_range = address_range }))))))))

bind_resp_whole : Whole bind_resp_at
unfolding bind_resp_at
bind_resp_whole = then (c_string_in 16) _ (c_string_field 15) (λ system_id. at_tlvs (λ tlvs. record { system_id = system_id; tlvs = tlvs }))

message_whole : Whole message_at
unfolding message_at
message_whole =
    then (c_string_in 6) _ (c_string_field 5) (λ service_type.
    then address_in _ address_field (λ source.
    then address_in _ address_field (λ destination.
    then (octet_in Truncated) _ octet_field (λ esm_class.
    then (octet_in Truncated) _ octet_field (λ protocol_id.
    then (octet_in Truncated) _ octet_field (λ priority_flag.
    then time_in _ time_field (λ schedule_delivery_time.
    then time_in _ time_field (λ validity_period.
    then (octet_in Truncated) _ octet_field (λ registered_delivery.
    then (octet_in Truncated) _ octet_field (λ replace_if_present_flag.
    then (octet_in Truncated) _ octet_field (λ data_coding.
    then (octet_in Truncated) _ octet_field (λ sm_default_msg_id.
    then short_message_in _ short_message_field (λ short_message.
    at_tlvs (λ tlvs. record {
      service_type = service_type;
      source = source;
      destination = destination;
      esm_class = esm_class;
      protocol_id = protocol_id;
      priority_flag = priority_flag;
      schedule_delivery_time = schedule_delivery_time;
      validity_period = validity_period;
      registered_delivery = registered_delivery;
      replace_if_present_flag = replace_if_present_flag;
      data_coding = data_coding;
      sm_default_msg_id = sm_default_msg_id;
      short_message = short_message;
      tlvs = tlvs;
    }))))))))))))))

message_resp_whole : Whole message_resp_at
unfolding message_resp_at
message_resp_whole = then (c_string_in 65) _ (c_string_field 64) (λ message_id. at_end (record { message_id = message_id }))

query_whole : Whole query_at
unfolding query_at
query_whole =
    then (c_string_in 65) _ (c_string_field 64) (λ message_id.
    then address_in _ address_field (λ source.
    at_end (record { message_id = message_id; source = source })))

query_resp_whole : Whole query_resp_at
unfolding query_resp_at
query_resp_whole =
    then (c_string_in 65) _ (c_string_field 64) (λ message_id.
    then time_in _ time_field (λ final_date.
    then (octet_in Truncated) _ octet_field (λ message_state.
    then (octet_in Truncated) _ octet_field (λ error_code.
    at_end (record { message_id = message_id; final_date = final_date; message_state = message_state; error_code = error_code })))))

cancel_whole : Whole cancel_at
unfolding cancel_at
cancel_whole =
    then (c_string_in 6) _ (c_string_field 5) (λ service_type.
    then (c_string_in 65) _ (c_string_field 64) (λ message_id.
    then address_in _ address_field (λ source.
    then address_in _ address_field (λ destination.
    at_end (record { service_type = service_type; message_id = message_id; source = source; destination = destination })))))

map_whole : {A B : Type 0} (read : AllReads A) (k : A → B) → Whole read → Whole (λ xs. read xs >>= (λ x. Ok (k x)))
map_whole {A} {B} read k h = (continues, long, made [] h.2, (λ xs e. unknown xs (bind_err (read xs) (λ x. Ok (k x)) UnknownCommand e)), stays) where
  stays : Stays (λ xs. mapped k (read xs))
  stays xs ys f w e = elim (bind_err (read xs) (λ x. Ok (k x)) f e) [
    | inl q ↦ ap (λ (m : Result A PduFault). mapped k m) (h.4 xs ys f w q)
    | inr q ↦ absurd (no_fault {A = B} (k q.0) f q.2)
  ]

  unknown : (xs : List ℕ) → (read xs ≡ Err UnknownCommand) ⊎ ((x : A) × (read xs ≡ Ok x) × ((let r : Result B PduFault = Ok (k x) in r) ≡ Err UnknownCommand)) → ⊥
  unknown xs (inl q) = h.3 xs q
  unknown xs (inr q) = no_fault {A = B} (k q.0) UnknownCommand q.2

  made : (xs : List ℕ) → Completed read xs → Completed (λ xs. mapped k (read xs)) xs
  made xs g = (g.0, g.1, (k g.2.0, ap (λ (m : Result A PduFault). mapped k m) g.2.1))

  continues : (xs : List ℕ) (f : PduFault) → AreOctets xs → IsMissing f → mapped k (read xs) ≡ Err f → Completed (λ xs. mapped k (read xs)) xs
  continues xs f octets m e = elim (bind_err (read xs) (λ x. Ok (k x)) f e) [
    | inl q ↦ made xs (h.0 xs f octets m q)
    | inr q ↦ absurd (no_fault {A = B} (k q.0) f q.2)
  ]

  long : (xs : List ℕ) → mapped k (read xs) ≡ Err BadLength → Fronted (λ xs. mapped k (read xs)) xs
  long xs e = elim (bind_err (read xs) (λ x. Ok (k x)) BadLength e) [
    | inl q ↦ let g = h.1 xs q in (g.0, g.1, g.2, g.3, (k g.4.0, ap (λ (m : Result A PduFault). mapped k m) g.4.1))
    | inr q ↦ absurd (no_fault {A = B} (k q.0) BadLength q.2)
  ]

or_none_whole : {A : Type 0} (read : AllReads A) → Whole read → Whole (or_none read)
or_none_whole {A} read h = (continues, long, ([], tt, (None, refl)), unknown, stays) where
  stays : Stays (or_none read)
  stays [] ys f w e = absurd (no_fault {A = Option A} None f e)
  stays (o ∷ xs) ys f w e = elim (bind_err (read (o ∷ xs)) (λ x. Ok (Some x)) f e) [
    | inl q ↦ ap (λ (m : Result A PduFault). mapped (λ x. Some x) m) (h.4 (o ∷ xs) ys f w q)
    | inr q ↦ absurd (no_fault {A = Option A} (Some q.0) f q.2)
  ]

  in_some : (xs : List ℕ) → (read xs ≡ Err UnknownCommand) ⊎ ((x : A) × (read xs ≡ Ok x) × ((let r : Result (Option A) PduFault = Ok (Some x) in r) ≡ Err UnknownCommand)) → ⊥
  in_some xs (inl q) = h.3 xs q
  in_some xs (inr q) = no_fault {A = Option A} (Some q.0) UnknownCommand q.2

  unknown : (xs : List ℕ) → or_none read xs ≡ Err UnknownCommand → ⊥
  unknown [] e = no_fault {A = Option A} None UnknownCommand e
  unknown (o ∷ xs) e = in_some (o ∷ xs) (bind_err (read (o ∷ xs)) (λ x. Ok (Some x)) UnknownCommand e)

  continues : (xs : List ℕ) (f : PduFault) → AreOctets xs → IsMissing f → or_none read xs ≡ Err f → Completed (or_none read) xs
  continues [] f octets m e = absurd (no_fault {A = Option A} None f e)
  continues (o ∷ xs) f octets m e = elim (bind_err (read (o ∷ xs)) (λ x. Ok (Some x)) f e) [
    | inl q ↦ let g = h.0 (o ∷ xs) f octets m q in (g.0, g.1, (Some g.2.0, ap (λ (m : Result A PduFault). mapped (λ x. Some x) m) g.2.1))
    | inr q ↦ absurd (no_fault {A = Option A} (Some q.0) f q.2)
  ]

  fronted : (front : List ℕ) (x : A) → read front ≡ Ok x → (z : Option A) × (or_none read front ≡ Ok z)
  fronted [] x e = (None, refl)
  fronted (o ∷ front) x e = (Some x, ap (λ (m : Result A PduFault). mapped (λ x. Some x) m) e)

  long : (xs : List ℕ) → or_none read xs ≡ Err BadLength → Fronted (or_none read) xs
  long [] e = absurd (no_fault {A = Option A} None BadLength e)
  long (o ∷ xs) e = elim (bind_err (read (o ∷ xs)) (λ x. Ok (Some x)) BadLength e) [
    | inl q ↦ let g = h.1 (o ∷ xs) q in (g.0, g.1, g.2, g.3, fronted g.0 g.4.0 g.4.1)
    | inr q ↦ absurd (no_fault {A = Option A} (Some q.0) BadLength q.2)
  ]

body_whole : (c : CommandId) → Whole (body_at c)
unfolding body_at
body_whole BindReceiverId = map_whole bind_at (λ body. BindReceiver body) bind_whole
body_whole BindTransmitterId = map_whole bind_at (λ body. BindTransmitter body) bind_whole
body_whole BindTransceiverId = map_whole bind_at (λ body. BindTransceiver body) bind_whole
body_whole SubmitSmId = map_whole message_at (λ body. SubmitSm body) message_whole
body_whole DeliverSmId = map_whole message_at (λ body. DeliverSm body) message_whole
body_whole QuerySmId = map_whole query_at (λ body. QuerySm body) query_whole
body_whole CancelSmId = map_whole cancel_at (λ body. CancelSm body) cancel_whole
body_whole UnbindId = at_end Unbind
body_whole EnquireLinkId = at_end EnquireLink
body_whole GenericNackId = at_end GenericNack
body_whole BindReceiverRespId = map_whole (or_none bind_resp_at) (λ body. BindReceiverResp body) (or_none_whole bind_resp_at bind_resp_whole)
body_whole BindTransmitterRespId = map_whole (or_none bind_resp_at) (λ body. BindTransmitterResp body) (or_none_whole bind_resp_at bind_resp_whole)
body_whole BindTransceiverRespId = map_whole (or_none bind_resp_at) (λ body. BindTransceiverResp body) (or_none_whole bind_resp_at bind_resp_whole)
body_whole SubmitSmRespId = map_whole (or_none message_resp_at) (λ body. SubmitSmResp body) (or_none_whole message_resp_at message_resp_whole)
body_whole DeliverSmRespId = map_whole (or_none message_resp_at) (λ body. DeliverSmResp body) (or_none_whole message_resp_at message_resp_whole)
body_whole QuerySmRespId = map_whole (or_none query_resp_at) (λ body. QuerySmResp body) (or_none_whole query_resp_at query_resp_whole)
body_whole CancelSmRespId = at_end CancelSmResp
body_whole UnbindRespId = at_end UnbindResp
body_whole EnquireLinkRespId = at_end EnquireLinkResp

-- ---- in the words of the grammar

pub body_continues : (c : CommandId) (xs : List ℕ) (f : PduFault) → AreOctets xs → IsMissing f → body_at c xs ≡ Err f → HasContinuation (IsBodyOf c) xs
body_continues c xs f octets m e =
    let g = (body_whole c).0 xs f octets m e in
    (g.0, g.1, (g.2.0, body_takes c (xs ++ g.0) g.2.0 (octets_both xs g.0 octets g.1) g.2.1))

pub body_has_front : (c : CommandId) (xs : List ℕ) → AreOctets xs → body_at c xs ≡ Err BadLength → HasFront (IsBodyOf c) xs
body_has_front c xs octets e =
    let g = (body_whole c).1 xs e in
    (g.0, g.1, g.2, g.3, (g.4.0, body_takes c g.0 g.4.0 (octets_back g.0 g.1 xs g.2 octets).0 g.4.1))

pub never_unknown : (c : CommandId) (xs : List ℕ) → body_at c xs ≡ Err UnknownCommand → ⊥
never_unknown c xs e = (body_whole c).3 xs e

pub body_stays : (c : CommandId) → Stays (body_at c)
body_stays c = (body_whole c).4
