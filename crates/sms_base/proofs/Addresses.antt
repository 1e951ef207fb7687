-- The address of a text is one that the definition allows, and each such one is found.
use Rattle.std.proofs.Common.{◌≡◌, ℕ, ◌+◌, ◌<◌, ◌≤◌, Bool, true, false, cond, ltb, eqb, List, [], ◌∷◌, length, Option, Some, None, Result, Ok, Err, refl, sym, ap, subst, ◌∙◌, arith}
use Rattle.std.specs.Prelude.{IfOk}
use Rattle.std.specs.List.{AllByRecursion}
use Rattle.std.specs.Option.{ok_or}
use Rattle.std.proofs.lemmas.Bool.{lt-ltb, le-ltb, ltb-true, ltb-false, eqb-true}
use Rattle.sms_base.specs.Reading.{only_if}
use Rattle.sms_base.specs.AddressKind.{type_of, type_number, is_name}
use Rattle.sms_base.specs.SemiOctet.{is_digit}
use Rattle.sms_base.specs.Alphabet.{code_for}
use Rattle.sms_base.specs.Address.{IsAddressText, IsAddressOf, width_of, septet_count, has_code, number_fault, name_fault, text_fault, unless, address_of}
use Rattle.sms_base.specs.declared.address.Address.{Address}
use Rattle.sms_base.specs.declared.address_error.AddressError.{AddressError}
use Rattle.sms_base.specs.declared.address_error.AddressError.TheVariants.{Empty, TooLong, BadDigit, BadName, BadKind}
use Rattle.sms_base.specs.declared.type_of_number.TypeOfNumber.{TypeOfNumber}
use Rattle.sms_base.specs.declared.type_of_number.TypeOfNumber.TheVariants.{Unknown, International, National, NetworkSpecific, Subscriber, Alphanumeric, Abbreviated}
use Rattle.sms_base.proofs.Steps.{bind_ok, passes, ok_is}

-- ---- numbers

pub number_found : (before : ℕ) (text : List ℕ) → before ≤ 20 → number_fault before text ≡ None → (before + length text ≤ 20) × AllByRecursion (λ c. is_digit c ≡ true) text
unfolding number_fault
number_found before [] room e = (omega arith, tt)
number_found before (c ∷ cs) room e = more (λ k. number_found (before + 1) cs k) (ltb before 20) (is_digit c) refl refl e where
  more : (before + 1 ≤ 20 → number_fault (before + 1) cs ≡ None → (before + 1 + length cs ≤ 20) × AllByRecursion (λ x. is_digit x ≡ true) cs) → (b d : Bool) → ltb before 20 ≡ b → is_digit c ≡ d → cond b (cond d (number_fault (before + 1) cs) (Some BadDigit)) (Some TooLong) ≡ None → (before + length (c ∷ cs) ≤ 20) × AllByRecursion (λ x. is_digit x ≡ true) (c ∷ cs)
  more again false d lt dig h = absurd cc
  more again true false lt dig h = absurd cc
  more again true true lt dig h =
      let below : before < 20 = ltb-true _ _ lt in
      let rest = again (omega arith) h in
      (omega (arith, rest.0), (dig, rest.1))

pub number_only : (before : ℕ) (text : List ℕ) → before + length text ≤ 20 → AllByRecursion (λ c. is_digit c ≡ true) text → number_fault before text ≡ None
unfolding number_fault
number_only before [] few all = refl
number_only before (c ∷ cs) few all =
    let below : before < 20 = omega arith in
    rw (lt-ltb before 20 below, all.0) (number_only (before + 1) cs (omega arith) all.1)

-- ---- names

pub name_found : (before : ℕ) (text : List ℕ) → before ≤ 11 → name_fault before text ≡ None → (before + septet_count text ≤ 11) × AllByRecursion (λ c. has_code c ≡ true) text
unfolding name_fault
name_found before [] room e = (omega arith, tt)
name_found before (c ∷ cs) room e = more (λ k. name_found (before + width_of (code_for c)) cs k) (ltb 11 (before + width_of (code_for c))) (has_code c) refl refl e where
  more : (before + width_of (code_for c) ≤ 11 → name_fault (before + width_of (code_for c)) cs ≡ None → (before + width_of (code_for c) + septet_count cs ≤ 11) × AllByRecursion (λ x. has_code x ≡ true) cs) → (b d : Bool) → ltb 11 (before + width_of (code_for c)) ≡ b → has_code c ≡ d → cond b (Some TooLong) (cond d (name_fault (before + width_of (code_for c)) cs) (Some BadName)) ≡ None → (before + septet_count (c ∷ cs) ≤ 11) × AllByRecursion (λ x. has_code x ≡ true) (c ∷ cs)
  more again true d lt code h = absurd cc
  more again false false lt code h = absurd cc
  more again false true lt code h =
      let upto : before + width_of (code_for c) ≤ 11 = ltb-false _ _ lt in
      let rest = again upto h in
      (omega (arith, rest.0), (code, rest.1))

pub name_only : (before : ℕ) (text : List ℕ) → before + septet_count text ≤ 11 → AllByRecursion (λ c. has_code c ≡ true) text → name_fault before text ≡ None
unfolding name_fault
name_only before [] few all = refl
name_only before (c ∷ cs) few all =
    let upto : before + width_of (code_for c) ≤ 11 = omega arith in
    rw (le-ltb 11 (before + width_of (code_for c)) upto, all.0) (name_only (before + width_of (code_for c)) cs (omega arith) all.1)

-- ---- both

text_found : (ton : TypeOfNumber) (text : List ℕ) (b : Bool) → is_name ton ≡ b → 0 < length text → text_fault b text ≡ None → IsAddressText ton text
text_found ton text true is some e =
    let f = name_found 0 text (omega arith) e in
    record { some = some; number = λ no. absurd cc; name = λ yes. record { few = omega (arith, f.0); characters = f.1 } }
text_found ton text false is some e =
    let f = number_found 0 text (omega arith) e in
    record { some = some; number = λ no. record { few = omega (arith, f.0); digits = f.1 }; name = λ yes. absurd cc }

text_only : (ton : TypeOfNumber) (text : List ℕ) (b : Bool) → is_name ton ≡ b → IsAddressText ton text → text_fault b text ≡ None
text_only ton text true is h = name_only 0 text (omega (arith, (h.name is).few)) (h.name is).characters
text_only ton text false is h = number_only 0 text (omega (arith, (h.number is).few)) (h.number is).digits

pub type_of-number : (ton : TypeOfNumber) → type_of (type_number ton) ≡ Some ton
type_of-number Unknown = refl
type_of-number International = refl
type_of-number National = refl
type_of-number NetworkSpecific = refl
type_of-number Subscriber = refl
type_of-number Alphanumeric = refl
type_of-number Abbreviated = refl

pub same_type : (t u : TypeOfNumber) → type_number t ≡ type_number u → t ≡ u
same_type t u e =
    let both : Some t ≡ Some u = sym (type_of-number t) ∙ ap (λ (n : ℕ). type_of n) e ∙ type_of-number u in
    let q : t ≡ u = cc in q

-- addresses of equal parts are equal
pub same_parts : (a b : Address) → type_number a.ton ≡ type_number b.ton → a.npi ≡ b.npi → a.digits ≡ b.digits → a ≡ b
same_parts a b number npi digits =
    ap (λ (t : TypeOfNumber). record a { ton = t }) (same_type a.ton b.ton number)
    ∙ ap (λ (n : ℕ). record b { npi = n; digits = a.digits }) npi
    ∙ ap (λ (d : List ℕ). record b { digits = d }) digits

-- a test of one number
pick_by : (n k : ℕ) (t ton : TypeOfNumber) (rest : Option TypeOfNumber) (b : Bool) → eqb n k ≡ b → type_number t ≡ k → (rest ≡ Some ton → type_number ton ≡ n) → cond b (Some t) rest ≡ Some ton → type_number ton ≡ n
pick_by n k t ton rest true test is other e =
    let same : t ≡ ton = cc in
    ap type_number (sym same) ∙ is ∙ sym (eqb-true n k test)
pick_by n k t ton rest false test is other e = other e

pick : (n k : ℕ) (t ton : TypeOfNumber) (rest : Option TypeOfNumber) → type_number t ≡ k → (rest ≡ Some ton → type_number ton ≡ n) → cond (eqb n k) (Some t) rest ≡ Some ton → type_number ton ≡ n
pick n k t ton rest is other e = pick_by n k t ton rest (eqb n k) refl is other e

pub type_number-of : (n : ℕ) (ton : TypeOfNumber) → type_of n ≡ Some ton → type_number ton ≡ n
type_number-of n ton e =
    pick n 0 Unknown ton _ refl (λ a.
    pick n 1 International ton _ refl (λ b.
    pick n 2 National ton _ refl (λ c.
    pick n 3 NetworkSpecific ton _ refl (λ d.
    pick n 4 Subscriber ton _ refl (λ f.
    pick n 5 Alphanumeric ton _ refl (λ g.
    pick n 6 Abbreviated ton None refl (λ h. absurd cc) g) f) d) c) b) a) e

unless_ok : {X : Type 0} (fault : Option AddressError) (x y : X) → unless fault x ≡ Ok y → (fault ≡ None) × (x ≡ y)
unless_ok None x y e = (refl, cc)
unless_ok (Some f) x y e = absurd cc

some_ok : (o : Option TypeOfNumber) (ton : TypeOfNumber) → ok_or o BadKind ≡ Ok ton → o ≡ Some ton
some_ok (Some t) ton e = cc
some_ok None ton e = absurd cc

pub address_found : (ton npi : ℕ) (text : List ℕ) (address : Address) → address_of ton npi text ≡ Ok address → IsAddressOf ton npi text address
unfolding address_of
address_found ton npi text address e =
    let a = bind_ok (ok_or (type_of ton) BadKind) _ address e in
    let b = bind_ok (only_if (ltb npi 16) BadKind) _ address a.2 in
    let c = bind_ok (unless (text_fault (is_name a.0) text) text) _ address b.2 in
    let d = bind_ok (only_if (ltb 0 (length text)) Empty) _ address c.2 in
    let u = unless_ok (text_fault (is_name a.0) text) text c.0 c.1 in
    let kind : type_number a.0 ≡ ton = type_number-of ton a.0 (some_ok _ a.0 a.1) in
    let plan : npi < 16 = ltb-true _ _ (passes _ BadKind b.0 b.1) in
    let some : 0 < length text = ltb-true _ _ (passes _ Empty d.0 d.1) in
    let made : Address = record { ton = a.0; npi = npi; digits = text } in
    let same : IsAddressOf ton npi text made = record { ton_is = kind; npi_is = refl; text_is = refl; valid = record { npi = plan; digits = text_found a.0 text (is_name a.0) refl some u.0 } } in
    subst (λ (y : Address). IsAddressOf ton npi text y) (ap (λ (ds : List ℕ). let y : Address = record { ton = a.0; npi = npi; digits = ds } in y) u.1 ∙ ok_is _ address d.2) same

abbrev address_made : TypeOfNumber → ℕ → List ℕ → Address
address_made ton npi text = record { ton = ton; npi = npi; digits = text }

pub address_only : (ton npi : ℕ) (text : List ℕ) (address : Address) → IsAddressOf ton npi text address → address_of ton npi text ≡ Ok address
unfolding address_of
address_only ton npi text address h =
    let kind : type_of ton ≡ Some address.ton = ap type_of (sym h.ton_is) ∙ type_of-number address.ton in
    let plan : ltb npi 16 ≡ true = lt-ltb npi 16 (omega (arith, h.npi_is, h.valid.npi)) in
    let whole : IsAddressText address.ton text = subst (λ (ds : List ℕ). IsAddressText address.ton ds) h.text_is h.valid.digits in
    let clear : text_fault (is_name address.ton) text ≡ None = text_only address.ton text (is_name address.ton) refl whole in
    let some : ltb 0 (length text) ≡ true = lt-ltb 0 (length text) whole.some in
    let same : address_made address.ton npi text ≡ address = ap (λ (n : ℕ). address_made address.ton n text) (sym h.npi_is) ∙ ap (λ (ds : List ℕ). address_made address.ton address.npi ds) (sym h.text_is) in
    rw (kind, plan, clear, some) (ap Ok same)

pub address_found_of : (ton npi : ℕ) (text : List ℕ) (r : Result Address AddressError) → r ≡ address_of ton npi text → IfOk r (λ address. IsAddressOf ton npi text address)
address_found_of ton npi text (Ok address) e = address_found ton npi text address (sym e)
address_found_of ton npi text (Err fault) e = tt
