-- Types and their octets.
use Rattle.std.proofs.Common.{◌≡◌, ℕ, Bool, true, false, cond, eqb, List, [], ◌∷◌, Option, Some, refl, subst}
use Rattle.std.specs.List.{find}
use Rattle.std.proofs.lemmas.Bool.{eqb-true}
use Rattle.sms_relay.specs.declared.message_type.Direction.{Direction}
use Rattle.sms_relay.specs.declared.message_type.Direction.TheVariants.{Up, Down}
use Rattle.sms_relay.specs.declared.message_type.MessageType.{MessageType}
use Rattle.sms_relay.specs.declared.message_type.MessageType.TheVariants.{Data, Ack, Error, Smma}
use Rattle.sms_relay.specs.MessageType.{type_octet, types, type_of}

some_is : {A : Type 0} (x y : A) → (let r : Option A = Some x in let s : Option A = Some y in r ≡ s) → x ≡ y
some_is x y e = cc

module _ (direction : Direction) where
  one_more : (b : Bool) (kind found : MessageType) (octet : ℕ) (rest : Option MessageType) → eqb (type_octet direction kind) octet ≡ b
      → (rest ≡ Some found → eqb (type_octet direction found) octet ≡ true) → cond b (Some kind) rest ≡ Some found → eqb (type_octet direction found) octet ≡ true
  one_more true kind found octet rest is later e = subst (λ (m : MessageType). eqb (type_octet direction m) octet ≡ true) (some_is kind found e) is
  one_more false kind found octet rest is later e = later e

  found_has : (octet : ℕ) (kinds : List MessageType) (found : MessageType) → find (λ kind. eqb (type_octet direction kind) octet) kinds ≡ Some found → eqb (type_octet direction found) octet ≡ true
  found_has octet [] found e = absurd cc
  found_has octet (kind ∷ kinds) found e =
      one_more (eqb (type_octet direction kind) octet) kind found octet (find (λ kind. eqb (type_octet direction kind) octet) kinds) refl (found_has octet kinds found) e

  -- the octet that names a type is that of the type
  pub type_of-octet : (octet : ℕ) (kind : MessageType) → type_of direction octet ≡ Some kind → octet ≡ type_octet direction kind
  unfolding type_of
  type_of-octet octet kind e = let same = eqb-true (type_octet direction kind) octet (found_has octet types kind e) in cc

-- and the octet of a type names it
pub type_of-is : (direction : Direction) (kind : MessageType) → type_of direction (type_octet direction kind) ≡ Some kind
unfolding type_of
type_of-is Up Data = refl
type_of-is Up Ack = refl
type_of-is Up Error = refl
type_of-is Up Smma = refl
type_of-is Down Data = refl
type_of-is Down Ack = refl
type_of-is Down Error = refl
type_of-is Down Smma = refl
