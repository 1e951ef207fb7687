-- The test of an address holds exactly where the address can stand in a unit.
use Rattle.std.proofs.Common.{◌≡◌, ◌↔◌, ℕ, ◌+◌, ◌-◌, ◌<◌, ◌≤◌, List, [], ◌∷◌, length, Bool, true, false, refl, sym, ◌∙◌, subst, ⊎_elim, arith}
use Rattle.std.specs.List.{AllByRecursion, list_all}
use Rattle.std.specs.Prelude.{◌&&◌, nat_le, nat_lt, if◌then◌else◌}
use Rattle.std.proofs.lemmas.Bool.{and_from, and_parts, cases_Bool, cond-true, cond-false, le-leb, leb-true, lt-ltb, ltb-true}
use Rattle.std.proofs.lemmas.Slice.Eq.{bytes_eq-Decides}
use Rattle.std.specs.Str.{bytes_eq}
use Rattle.std.proofs.Common.{eq-eqb, eqb-true}
use Rattle.std.specs.Prelude.{◌==◌}
use Rattle.sms_base.proofs.Addresses.{same_parts}
use Rattle.sms_base.specs.declared.address.Address.{Address}
use Rattle.sms_base.specs.declared.type_of_number.TypeOfNumber.{TypeOfNumber}
use Rattle.sms_base.specs.Address.{IsAddress, IsAddressText, has_code, septet_count, width_of}
use Rattle.sms_base.specs.AddressKind.{is_name, type_number}
use Rattle.sms_base.specs.Alphabet.{code_for}
use Rattle.sms_base.specs.SemiOctet.{is_digit}
use Rattle.sms_centre_rows.specs.messages.SplitReferences.{is_same_address}
use Rattle.sms_centre_rows.specs.conditions.AddressTest.{is_address, is_address_text, is_name_within, is_number_text}
use Rattle.sms_centre_rows.proofs.conditions.Passing.{all_from, all_to}

-- ---- names

record Within (left : ℕ) (text : List ℕ) : Type 0 where
  few : septet_count text ≤ left
  characters : AllByRecursion (λ c. has_code c ≡ true) text

name_from : (left : ℕ) (text : List ℕ) → is_name_within left text ≡ true → Within left text
name_from left [] e = record { few = omega arith; characters = tt }
name_from left (c ∷ cs) e =
    let w : ℕ = width_of (code_for c) in
    let rest : Bool = has_code c && is_name_within (left - w) cs in
    ⊎_elim
    (λ (t : nat_le w left ≡ true).
    let p = and_parts (has_code c) (is_name_within (left - w) cs) (sym (cond-true (nat_le w left) rest false t) ∙ e) in
    let r = name_from (left - w) cs p.1 in
    let fits : w ≤ left = leb-true w left t in
    record { few = omega (arith, fits, r.few); characters = (p.0, r.characters) })
    (λ (t : nat_le w left ≡ false). let bad : false ≡ true = sym (cond-false (nat_le w left) rest false t) ∙ e in absurd cc)
    (cases_Bool (nat_le w left))

name_to : (left : ℕ) (text : List ℕ) → Within left text → is_name_within left text ≡ true
name_to left [] n = refl
name_to left (c ∷ cs) n =
    let w : ℕ = width_of (code_for c) in
    let few : w + septet_count cs ≤ left = n.few in
    cond-true (nat_le w left) (has_code c && is_name_within (left - w) cs) false (le-leb w left (omega (arith, few)))
    ∙ and_from (has_code c) (is_name_within (left - w) cs) n.characters.0 (name_to (left - w) cs (record { few = omega (arith, few); characters = n.characters.1 }))

-- ---- addresses

text_from : (b : Bool) (ton : TypeOfNumber) (text : List ℕ) → is_name ton ≡ b → 0 < length text → (if b then is_name_within 11 text else is_number_text text) ≡ true → IsAddressText ton text
text_from true ton text is some e =
    let n = name_from 11 text e in
    record { some = some; number = λ no. let bad : false ≡ true = sym no ∙ is in absurd cc; name = λ yes. record { few = n.few; characters = n.characters } }
text_from false ton text is some e =
    let p = and_parts (nat_le (length text) 20) (list_all is_digit text) e in
    record { some = some; number = λ no. record { few = leb-true (length text) 20 p.0; digits = all_from is_digit text p.1 }; name = λ yes. let bad : true ≡ false = sym yes ∙ is in absurd cc }

text_to : (b : Bool) (ton : TypeOfNumber) (text : List ℕ) → is_name ton ≡ b → IsAddressText ton text → (if b then is_name_within 11 text else is_number_text text) ≡ true
text_to true ton text is t = let n = t.name is in name_to 11 text (record { few = n.few; characters = n.characters })
text_to false ton text is t =
    let n = t.number is in and_from (nat_le (length text) 20) (list_all is_digit text) (le-leb (length text) 20 n.few) (all_to is_digit text n.digits)

pub address_from : (a : Address) → is_address a ≡ true → IsAddress a
address_from a e =
    let p = and_parts (nat_lt a.npi 16) (is_address_text a.ton a.digits) e in
    let q = and_parts (nat_lt 0 (length a.digits)) (if is_name a.ton then is_name_within 11 a.digits else is_number_text a.digits) p.1 in
    record { npi = ltb-true a.npi 16 p.0; digits = text_from (is_name a.ton) a.ton a.digits refl (ltb-true 0 (length a.digits) q.0) q.1 }

pub address_to : (a : Address) → IsAddress a → is_address a ≡ true
address_to a is =
    and_from (nat_lt a.npi 16) (is_address_text a.ton a.digits) (lt-ltb a.npi 16 is.npi)
    (and_from (nat_lt 0 (length a.digits)) (if is_name a.ton then is_name_within 11 a.digits else is_number_text a.digits) (lt-ltb 0 (length a.digits) (is.digits).some)
    (text_to (is_name a.ton) a.ton a.digits refl is.digits))

pub address_tested : (a : Address) → (is_address a ≡ true) ↔ IsAddress a
address_tested a = (address_from a, address_to a)

-- ---- addresses that are one

pub same_address : (a b : Address) → is_same_address a b ≡ true → a ≡ b
same_address a b e =
    let p = and_parts (type_number a.ton == type_number b.ton) ((a.npi == b.npi) && bytes_eq a.digits b.digits) e in
    let q = and_parts (a.npi == b.npi) (bytes_eq a.digits b.digits) p.1 in
    same_parts a b (eqb-true (type_number a.ton) (type_number b.ton) p.0) (eqb-true a.npi b.npi q.0) ((bytes_eq-Decides a.digits b.digits).0 q.1)

pub one_address : (a : Address) → is_same_address a a ≡ true
one_address a =
    and_from (type_number a.ton == type_number a.ton) ((a.npi == a.npi) && bytes_eq a.digits a.digits) (eq-eqb (type_number a.ton) (type_number a.ton) refl)
    (and_from (a.npi == a.npi) (bytes_eq a.digits a.digits) (eq-eqb a.npi a.npi refl) ((bytes_eq-Decides a.digits a.digits).1 refl))

pub address_same : (a b : Address) → a ≡ b → is_same_address a b ≡ true
address_same a b e = subst (λ (x : Address). is_same_address a x ≡ true) e (one_address a)
