-- A unit that is read is in the grammar, and one that is in the grammar is read.
use Rattle.std.proofs.Common.{◌≡◌, ℕ, suc, inl, List, [], ◌∷◌, ◌++◌, length, Result, Ok, Err, Option, Some, None, refl, sym, ap, subst, ◌∙◌}
use Rattle.std.specs.Prelude.{IfOk}
use Rattle.std.proofs.lemmas.List.{append-nil}
use Rattle.sms_base.specs.Reading.{octet_in, end_in}
use Rattle.sms_base.proofs.Steps.{bind_ok, ok_is, octet_takes, end_takes}
use Rattle.sms_base.proofs.OctetLaws.{IsBytes, bytes_rest}
use Rattle.sms_relay.specs.declared.cause.RpCause.{RpCause}
use Rattle.sms_relay.specs.declared.fault.RelayFault.{RelayFault}
use Rattle.sms_relay.specs.declared.fault.RelayFault.TheVariants.{Truncated, Trailing}
use Rattle.sms_relay.specs.declared.frame.Rp.{Rp}
use Rattle.sms_relay.specs.declared.frame.Rp.TheVariants.{DataUnit, AckUnit, ErrorUnit, Smma}
use Rattle.sms_relay.specs.declared.message_type.Direction.{Direction}
use Rattle.sms_relay.specs.declared.message_type.Direction.TheVariants.{Up, Down}
use Rattle.sms_relay.specs.declared.message_type.MessageType.{MessageType}
use Rattle.sms_relay.specs.declared.message_type.MessageType.TheVariants.{Data, Ack, Error, Smma as SmmaType}
use Rattle.sms_relay.specs.MessageType.{type_octet, type_of}
use Rattle.sms_relay.specs.Cause.{number_of}
use Rattle.sms_relay.specs.RelayGrammar.{user_data, addresses, data_octets, unit_octets, IsValue, IsUnit, up_octets, IsUpValue, IsUp, down_octets, IsDownValue, IsDown}
use Rattle.sms_relay.specs.RelayReading.{unit_of, addresses_in, tpdu_in, user_data_in, cause_in, data_in, ack_in, error_in, smma_in, unit_in, unit_at, up_at, down_at}
use Rattle.sms_relay.proofs.TypeLaws.{type_of-octet, type_of-is}
use Rattle.sms_relay.proofs.FieldLaws.{IsBytes-back, tpdu_takes, tpdu_last, addresses_takes, addresses_back, addresses_again, user_data_takes, user_data_again, cause_takes, cause_again}

-- ---- the units, behind their type

-- a unit behind its type, where nothing follows it
abbrev IsOf : Direction → MessageType → List ℕ → Rp × List ℕ → Type 0
IsOf direction kind xs z = z.1 ≡ [] → IsUnit direction (type_octet direction kind ∷ xs) z.0

last_text : (text rest xs : List ℕ) → xs ≡ length text ∷ (text ++ rest) → rest ≡ [] → xs ≡ length text ∷ text
last_text text rest xs e none = e ∙ ap (λ (l : List ℕ). length text ∷ (text ++ l)) none ∙ ap (λ (l : List ℕ). length text ∷ l) (append-nil text)

data_takes : (direction : Direction) (xs : List ℕ) (z : Rp × List ℕ) → IsBytes xs → data_in direction xs ≡ Ok z → IsOf direction Data xs z
unfolding data_in
data_takes direction xs z fits e end =
    let a = bind_ok (octet_in Truncated xs) _ z e in
    let b = bind_ok (addresses_in direction a.0.1) _ z a.2 in
    let d = bind_ok (tpdu_in b.0.1) _ z b.2 in
    let is = ok_is {E = RelayFault} (DataUnit a.0.0 b.0.0 d.0.0, d.0.1) z d.2 in
    let pa = octet_takes Truncated xs a.0 a.1 in
    let pb = addresses_takes direction a.0.1 b.0 b.1 in
    let fb = addresses_back direction b.0.0 b.0.1 a.0.1 pb.0 (bytes_rest a.0.0 a.0.1 xs pa fits) in
    let pd = tpdu_takes b.0.1 d.0 fb d.1 in
    let none : d.0.1 ≡ [] = ap (λ (y : Rp × List ℕ). y.1) is ∙ end in
    let tail = last_text d.0.0 d.0.1 b.0.1 pd.0 none in
    let kind = type_octet direction Data in
    let whole : kind ∷ xs ≡ data_octets direction a.0.0 b.0.0 d.0.0 =
    ap (λ (l : List ℕ). kind ∷ l) (pa ∙ ap (λ (l : List ℕ). a.0.0 ∷ l) (pb.0 ∙ ap (λ (l : List ℕ). addresses direction b.0.0 l) tail)) in
    subst (λ (y : Rp × List ℕ). IsUnit direction (kind ∷ xs) y.0) is (pb.1, pd.1, whole)

ack_takes : (direction : Direction) (xs : List ℕ) (z : Rp × List ℕ) → IsBytes xs → ack_in xs ≡ Ok z → IsOf direction Ack xs z
unfolding ack_in
ack_takes direction xs z fits e end =
    let a = bind_ok (octet_in Truncated xs) _ z e in
    let b = bind_ok (user_data_in a.0.1) _ z a.2 in
    let is = ok_is {E = RelayFault} (AckUnit a.0.0 b.0.0, b.0.1) z b.2 in
    let pa = octet_takes Truncated xs a.0 a.1 in
    let pb = user_data_takes a.0.1 b.0 (bytes_rest a.0.0 a.0.1 xs pa fits) b.1 in
    let none : b.0.1 ≡ [] = ap (λ (y : Rp × List ℕ). y.1) is ∙ end in
    let tail : a.0.1 ≡ user_data b.0.0 = pb.0 ∙ ap (λ (l : List ℕ). user_data b.0.0 ++ l) none ∙ append-nil (user_data b.0.0) in
    let kind = type_octet direction Ack in
    let whole = ap (λ (l : List ℕ). kind ∷ l) (pa ∙ ap (λ (l : List ℕ). a.0.0 ∷ l) tail) in
    subst (λ (y : Rp × List ℕ). IsUnit direction (kind ∷ xs) y.0) is (pb.1, whole)

error_takes : (direction : Direction) (xs : List ℕ) (z : Rp × List ℕ) → IsBytes xs → error_in xs ≡ Ok z → IsOf direction Error xs z
unfolding error_in
error_takes direction xs z fits e end =
    let a = bind_ok (octet_in Truncated xs) _ z e in
    let b = bind_ok (cause_in a.0.1) _ z a.2 in
    let c = bind_ok (user_data_in b.0.1) _ z b.2 in
    let is = ok_is {E = RelayFault} (ErrorUnit a.0.0 b.0.0 c.0.0, c.0.1) z c.2 in
    let pa = octet_takes Truncated xs a.0 a.1 in
    let pb = cause_takes a.0.1 b.0 b.1 in
    let fa = bytes_rest a.0.0 a.0.1 xs pa fits in
    let pc = user_data_takes b.0.1 c.0 (IsBytes-back pb.field b.0.1 a.0.1 pb.parts fa) c.1 in
    let none : c.0.1 ≡ [] = ap (λ (y : Rp × List ℕ). y.1) is ∙ end in
    let tail : b.0.1 ≡ user_data c.0.0 = pc.0 ∙ ap (λ (l : List ℕ). user_data c.0.0 ++ l) none ∙ append-nil (user_data c.0.0) in
    let kind = type_octet direction Error in
    let whole = ap (λ (l : List ℕ). kind ∷ l) (pa ∙ ap (λ (l : List ℕ). a.0.0 ∷ l) (pb.parts ∙ ap (λ (l : List ℕ). pb.field ++ l) tail)) in
    subst (λ (y : Rp × List ℕ). IsUnit direction (kind ∷ xs) y.0) is (pb.is, pc.1, (pb.field, pb.spelled, whole))

smma_takes : (direction : Direction) (xs : List ℕ) (z : Rp × List ℕ) → smma_in direction xs ≡ Ok z → IsOf direction SmmaType xs z
unfolding smma_in
smma_takes Up xs z e end =
    let a = bind_ok (octet_in Truncated xs) _ z e in
    let is = ok_is {E = RelayFault} (Smma a.0.0, a.0.1) z a.2 in
    let none : a.0.1 ≡ [] = ap (λ (y : Rp × List ℕ). y.1) is ∙ end in
    let whole : 6 ∷ xs ≡ 6 ∷ a.0.0 ∷ [] = ap (λ (l : List ℕ). 6 ∷ l) (octet_takes Truncated xs a.0 a.1 ∙ ap (λ (l : List ℕ). a.0.0 ∷ l) none) in
    subst (λ (y : Rp × List ℕ). IsUnit Up (6 ∷ xs) y.0) is whole
smma_takes Down xs z e end = absurd cc

-- ---- whole lists

typed : (direction : Direction) (kind : MessageType) (k : ℕ) (xs : List ℕ) (rp : Rp) → type_of direction k ≡ Some kind → IsUnit direction (type_octet direction kind ∷ xs) rp
    → IsUnit direction (k ∷ xs) rp
typed direction kind k xs rp is h = subst (λ (n : ℕ). IsUnit direction (n ∷ xs) rp) (sym (type_of-octet direction k kind is)) h

of_type : (direction : Direction) (m : Option MessageType) (k : ℕ) (xs : List ℕ) (z : Rp × List ℕ) → type_of direction k ≡ m → IsBytes xs → unit_of m direction xs ≡ Ok z → z.1 ≡ []
    → IsUnit direction (k ∷ xs) z.0
of_type direction (Some Data) k xs z is fits e end = typed direction Data k xs z.0 is (data_takes direction xs z fits e end)
of_type direction (Some Ack) k xs z is fits e end = typed direction Ack k xs z.0 is (ack_takes direction xs z fits e end)
of_type direction (Some Error) k xs z is fits e end = typed direction Error k xs z.0 is (error_takes direction xs z fits e end)
of_type direction (Some SmmaType) k xs z is fits e end = typed direction SmmaType k xs z.0 is (smma_takes direction xs z e end)
of_type direction None k xs z is fits e end = absurd cc

unit_takes : (direction : Direction) (xs : List ℕ) (z : Rp × List ℕ) → IsBytes xs → unit_in direction xs ≡ Ok z → z.1 ≡ [] → IsUnit direction xs z.0
unfolding unit_in
unit_takes direction [] z fits e end = absurd cc
unit_takes direction (k ∷ xs) z fits e end = of_type direction (type_of direction k) k xs z refl (λ i. fits (suc i)) e end

pub takes : (direction : Direction) (xs : List ℕ) (rp : Rp) → IsBytes xs → unit_at direction xs ≡ Ok rp → IsUnit direction xs rp
unfolding unit_at
takes direction xs rp fits e =
    let a = bind_ok (unit_in direction xs) _ rp e in
    let b = bind_ok (end_in Trailing a.0.1) _ rp a.2 in
    subst (λ (y : Rp). IsUnit direction xs y) (ok_is {E = RelayFault} a.0.0 rp b.2) (unit_takes direction xs a.0 fits a.1 (end_takes Trailing a.0.1 b.0 b.1))

pub found : (direction : Direction) (xs : List ℕ) (r : Result Rp RelayFault) → IsBytes xs → r ≡ unit_at direction xs → IfOk r (λ rp. IsUnit direction xs rp)
found direction xs (Ok rp) fits e = takes direction xs rp fits (sym e)
found direction xs (Err f) fits e = tt

-- ---- read again

smma_again : (direction : Direction) (xs : List ℕ) (reference : ℕ) → IsUnit direction xs (Smma reference) → unit_at direction xs ≡ Ok (Smma reference)
unfolding unit_at unit_in smma_in
smma_again Up xs reference h = rw (h, type_of-is Up SmmaType) refl
smma_again Down xs reference h = absurd h

pub again : (direction : Direction) (xs : List ℕ) (rp : Rp) → IsUnit direction xs rp → unit_at direction xs ≡ Ok rp
unfolding unit_at unit_in data_in ack_in error_in
again direction xs (DataUnit reference centre unit) h =
    rw (h.2, type_of-is direction Data, addresses_again direction centre (length unit ∷ unit) h.0, tpdu_last unit) refl
again direction xs (AckUnit reference unit) h = rw (h.1, type_of-is direction Ack, user_data_again unit) refl
again direction xs (ErrorUnit reference cause unit) h =
    rw (h.2.2, type_of-is direction Error, cause_again h.2.0 cause (user_data unit) h.2.1 h.0, user_data_again unit) refl
again direction xs (Smma reference) h = smma_again direction xs reference h

-- ---- the written list

smma_written : (direction : Direction) (reference : ℕ) → IsValue direction (Smma reference) → IsUnit direction (unit_octets direction (Smma reference)) (Smma reference)
smma_written Up reference h = refl
smma_written Down reference h = absurd h

pub written_is : (direction : Direction) (rp : Rp) → IsValue direction rp → IsUnit direction (unit_octets direction rp) rp
written_is direction (DataUnit reference centre unit) h = (h.0, h.1, refl)
written_is direction (AckUnit reference unit) h = (h, refl)
written_is direction (ErrorUnit reference cause unit) h = (h.0, h.1, (1 ∷ number_of cause ∷ [], inl refl, refl))
written_is direction (Smma reference) h = smma_written direction reference h

smma_value : (direction : Direction) (xs : List ℕ) (reference : ℕ) → IsUnit direction xs (Smma reference) → IsValue direction (Smma reference)
smma_value Up xs reference h = tt
smma_value Down xs reference h = h

pub is_value : (direction : Direction) (xs : List ℕ) (rp : Rp) → IsUnit direction xs rp → IsValue direction rp
is_value direction xs (DataUnit reference centre unit) h = (h.0, h.1)
is_value direction xs (AckUnit reference unit) h = h.0
is_value direction xs (ErrorUnit reference cause unit) h = (h.0, h.1)
is_value direction xs (Smma reference) h = smma_value direction xs reference h

pub written_found : {E : Type 0} (direction : Direction) (rp : Rp) (r : Result (List ℕ) E) → IsValue direction rp → IfOk r (λ octets. octets ≡ unit_octets direction rp)
    → IfOk r (λ octets. IsUnit direction octets rp)
written_found direction rp (Ok octets) goes e = subst (λ (l : List ℕ). IsUnit direction l rp) (sym e) (written_is direction rp goes)
written_found direction rp (Err f) goes e = tt

-- ---- from the handset, and to it

pub up_takes : (xs : List ℕ) (rp : Rp) → IsBytes xs → up_at xs ≡ Ok rp → IsUp xs rp
unfolding up_at
up_takes xs rp fits e = takes Up xs rp fits e

pub up_again : (xs : List ℕ) (rp : Rp) → IsUp xs rp → up_at xs ≡ Ok rp
unfolding up_at
up_again xs rp h = again Up xs rp h

pub written_up_is : (rp : Rp) → IsUpValue rp → IsUp (up_octets rp) rp
written_up_is rp h = written_is Up rp h

pub written_up_again : {E : Type 0} (rp : Rp) (r : Result (List ℕ) E) → IsUpValue rp → IfOk r (λ octets. octets ≡ up_octets rp) → IfOk r (λ octets. up_at octets ≡ Ok rp)
written_up_again rp (Ok octets) goes e = ap up_at e ∙ up_again (up_octets rp) rp (written_up_is rp goes)
written_up_again rp (Err f) goes e = tt

pub down_takes : (xs : List ℕ) (rp : Rp) → IsBytes xs → down_at xs ≡ Ok rp → IsDown xs rp
unfolding down_at
down_takes xs rp fits e = takes Down xs rp fits e

pub down_again : (xs : List ℕ) (rp : Rp) → IsDown xs rp → down_at xs ≡ Ok rp
unfolding down_at
down_again xs rp h = again Down xs rp h

pub written_down_is : (rp : Rp) → IsDownValue rp → IsDown (down_octets rp) rp
written_down_is rp h = written_is Down rp h

pub written_down_again : {E : Type 0} (rp : Rp) (r : Result (List ℕ) E) → IsDownValue rp → IfOk r (λ octets. octets ≡ down_octets rp) → IfOk r (λ octets. down_at octets ≡ Ok rp)
written_down_again rp (Ok octets) goes e = ap down_at e ∙ down_again (down_octets rp) rp (written_down_is rp goes)
written_down_again rp (Err f) goes e = tt
