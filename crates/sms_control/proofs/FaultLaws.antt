-- What a fault of a frame tells: octets end too early only where some that follow make them a frame, octets are left over only
-- behind a frame, and any other fault stands only where no octets that follow make them a frame.
use Rattle.std.proofs.Common.{◌≡◌, ℕ, zero, suc, ◌<◌, inl, inr, Bool, true, false, ◌&&◌, cond, ltb, List, [], ◌∷◌, ◌++◌, Result, Ok, Err, Option, Some, None, refl, sym, ap, subst, ◌∙◌, arith}
use Rattle.std.proofs.lemmas.List.{append-nil}
use Rattle.sms_base.specs.FaultReasons.{HasContinuation, HasFront}
use Rattle.sms_base.specs.Reading.{◌>>=◌, only_if, octet_in, run_in, end_in, AreOctets}
use Rattle.sms_base.proofs.Steps.{err_is}
use Rattle.sms_base.proofs.FaultSteps.{Ends, Reads, Starts, IsPart, IsLast, octets_back, octets_both, part_last, last_bind, pure_part, bad_part, test_part, octet_part, from_octet, last_from_octet, run_part, whole_goes, whole_front}
use Rattle.sms_base.proofs.OctetLaws.{IsBytes}
use Rattle.sms_control.specs.declared.fault.CpFault.{CpFault}
use Rattle.sms_control.specs.declared.fault.CpFault.TheVariants.{Truncated, Trailing, Unknown, BadLength}
use Rattle.sms_control.specs.declared.message.Cp.{Cp}
use Rattle.sms_control.specs.declared.message.Cp.TheVariants.{DataUnit, AckUnit, ErrorUnit}
use Rattle.sms_control.specs.declared.message_type.MessageType.{MessageType}
use Rattle.sms_control.specs.declared.message_type.MessageType.TheVariants.{Data, Ack, Error}
use Rattle.sms_control.specs.declared.transaction.Transaction.{Transaction}
use Rattle.sms_control.specs.declared.transaction.TransactionFlag.TheVariants.{FromOriginator}
use Rattle.sms_control.specs.ControlGrammar.{IsCp, head_of, type_of, cause_of}
use Rattle.sms_control.specs.ControlReading.{known, head_in, type_in, unit_in, body_at, cp_at}
use Rattle.sms_control.proofs.ControlFrames.{cp_found, cp_again, front_cut}

-- the two faults
abbrev ends : Ends CpFault
ends = record { short = Truncated; spare = Trailing; apart = λ e. absurd cc }

-- what an octet names, where it names something
known_part : {A X : Type 0} (o : Option A) (r : A → Reads CpFault X) → ((a : A) → IsPart ends (r a)) → IsPart ends (λ xs. known o >>= (λ a. r a xs))
known_part (Some a) r h = h a
known_part None r h = bad_part ends Unknown (λ e. absurd cc) (λ e. absurd cc)

known_last : {A X : Type 0} (o : Option A) (r : A → Reads CpFault X) → ((a : A) → IsLast ends (r a)) → IsLast ends (λ xs. known o >>= (λ a. r a xs))
known_last {A} {X} (Some a) r h = h a
known_last {A} {X} None r h = part_last ends (λ xs. let r : Result (X × List ℕ) CpFault = Err Unknown in r) (bad_part {X = X} ends Unknown (λ e. absurd cc) (λ e. absurd cc))

-- one octet of user data
unit_part : IsPart ends unit_in
unfolding unit_in run_in
unit_part =
    from_octet ends _ (1 ∷ 0 ∷ [], (omega arith, (omega arith, tt)), (0 ∷ [], refl))
    (λ n. test_part ends (ltb 0 n && ltb n 249) BadLength (run_in Truncated n) (λ e. absurd cc) (λ e. absurd cc) (run_part ends n))

-- the body of a frame, and what stands behind it
abbrev body_in : Transaction → MessageType → Reads CpFault Cp
body_in t Data xs = unit_in xs >>= (λ unit. Ok (DataUnit t unit.0, unit.1))
body_in t Ack xs = Ok (AckUnit t, xs)
body_in t Error xs = octet_in Truncated xs >>= (λ octet. Ok (ErrorUnit t (cause_of octet.0), octet.1))

-- a whole frame, and what stands behind it
abbrev cp_in : Reads CpFault Cp
cp_in xs = head_in xs >>= (λ head. type_in head.1 >>= (λ kind. body_in head.0 kind.0 kind.1))

-- nothing stands behind it
abbrev whole : Cp × List ℕ → Result Cp CpFault
whole cp = end_in Trailing cp.1 >>= (λ done. Ok cp.0)

-- ---- the parts of a frame

head_part : IsPart ends head_in
unfolding head_in
head_part = from_octet ends _ (9 ∷ [], (omega arith, tt), (record { flag = FromOriginator; identifier = 0 }, refl)) (λ o. known_part (head_of o) (λ t xs. Ok (t, xs)) (λ t. pure_part ends t))

type_part : IsPart ends type_in
unfolding type_in type_of
type_part = from_octet ends _ (1 ∷ [], (omega arith, tt), (Data, refl)) (λ o. known_part (type_of o) (λ k xs. Ok (k, xs)) (λ k. pure_part ends k))

body_last : (t : Transaction) (k : MessageType) → IsLast ends (body_in t k)
body_last t Data = last_bind ends unit_in _ unit_part (λ unit. part_last ends _ (pure_part ends (DataUnit t unit))) (λ unit. inr (DataUnit t unit, refl))
body_last t Ack = part_last ends _ (pure_part ends (AckUnit t))
body_last t Error =
    last_bind ends (octet_in Truncated) _ (octet_part ends) (λ o. part_last ends _ (pure_part ends (ErrorUnit t (cause_of o)))) (λ o. inr (ErrorUnit t (cause_of o), refl))

body_starts : (t : Transaction) (k : MessageType) → Starts ends (body_in t k)
unfolding unit_in
body_starts t Data = inl refl
body_starts t Ack = inr (AckUnit t, refl)
body_starts t Error = inl refl

cp_last : IsLast ends cp_in
unfolding type_in
cp_last = last_bind ends head_in _ head_part (λ t. last_bind ends type_in _ type_part (λ k. body_last t k) (λ k. body_starts t k)) (λ t. inl refl)

-- ---- the reading is that of a frame with nothing behind it

body_is : (t : Transaction) (k : MessageType) (xs : List ℕ) → body_at t k xs ≡ (body_in t k xs >>= whole)
body_is t Data xs = by_unit (unit_in xs) where
  by_unit : (r : Result (List ℕ × List ℕ) CpFault) → (r >>= (λ unit. end_in Trailing unit.1 >>= (λ done. Ok (DataUnit t unit.0)))) ≡ ((r >>= (λ unit. Ok (DataUnit t unit.0, unit.1))) >>= whole)
  by_unit (Ok unit) = refl
  by_unit (Err f) = refl
body_is t Ack xs = refl
body_is t Error [] = refl
body_is t Error (o ∷ xs) = refl

cp_is : (xs : List ℕ) → cp_at xs ≡ (cp_in xs >>= whole)
unfolding cp_at
cp_is xs = by_head (head_in xs) where
  by_type : (t : Transaction) (r : Result (MessageType × List ℕ) CpFault) → (r >>= (λ kind. body_at t kind.0 kind.1)) ≡ ((r >>= (λ kind. body_in t kind.0 kind.1)) >>= whole)
  by_type t (Ok kind) = body_is t kind.0 kind.1
  by_type t (Err f) = refl

  by_head : (r : Result (Transaction × List ℕ) CpFault) → (r >>= (λ head. type_in head.1 >>= (λ kind. body_at head.0 kind.0 kind.1))) ≡ ((r >>= (λ head. type_in head.1 >>= (λ kind. body_in head.0 kind.0 kind.1))) >>= whole)
  by_head (Ok head) = by_type head.0 (type_in head.1)
  by_head (Err f) = refl

-- ---- the laws

octets_fit : (xs : List ℕ) → AreOctets xs → IsBytes xs
octets_fit [] h zero = omega arith
octets_fit [] h (suc i) = omega arith
octets_fit (x ∷ xs) h zero = h.0
octets_fit (x ∷ xs) h (suc i) = octets_fit xs h.1 i

takes : (xs : List ℕ) (cp : Cp) → AreOctets xs → cp_at xs ≡ Ok cp → IsCp xs cp
takes xs cp octets e = cp_found xs (Ok cp) (octets_fit xs octets) (sym e)

pub cp_continues : (xs : List ℕ) → AreOctets xs → cp_at xs ≡ Err Truncated → HasContinuation IsCp xs
cp_continues xs octets e =
    let g = whole_goes ends cp_in cp_last xs octets (sym (cp_is xs) ∙ e) in
    (g.0, g.1, (g.2.0, takes (xs ++ g.0) g.2.0 (octets_both xs g.0 octets g.1) (cp_is (xs ++ g.0) ∙ g.2.1)))

pub cp_has_front : (xs : List ℕ) → AreOctets xs → cp_at xs ≡ Err Trailing → HasFront IsCp xs
cp_has_front xs octets e =
    let f = whole_front ends cp_in cp_last xs (sym (cp_is xs) ∙ e) in
    (f.0, f.1, f.2, f.3, (f.4.0, takes f.0 f.4.0 (octets_back f.0 f.1 xs f.2 octets).0 (cp_is f.0 ∙ f.4.1)))

no_frame : (fault : CpFault) (cp : Cp) → (let r : Result Cp CpFault = Err fault in let s : Result Cp CpFault = Ok cp in r ≡ s) → ⊥
no_frame fault cp e = absurd cc

pub cp_stops : (xs more : List ℕ) (cp : Cp) (fault : CpFault) → cp_at xs ≡ Err fault → (fault ≡ Truncated → ⊥) → IsCp (xs ++ more) cp → ⊥
cp_stops xs [] cp fault e other h = no_frame fault cp (sym e ∙ cp_again xs cp (subst (λ (l : List ℕ). IsCp l cp) (append-nil xs) h))
cp_stops xs (o ∷ more) cp fault e other h = other (err_is {A = Cp} fault Truncated (sym e ∙ front_cut xs (o ∷ more) cp h (λ none. absurd cc)))
