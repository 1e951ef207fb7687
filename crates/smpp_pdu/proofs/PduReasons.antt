-- Why octets are no PDU, by the fault.
use Rattle.std.proofs.Common.{◌≡◌, ◌⊎◌, ℕ, ◌+◌, ◌-◌, ◌<◌, ◌≤◌, Bool, true, false, ◌&&◌, cond, eqb, ltb, leb, List, [], ◌∷◌, ◌++◌, length, take, drop, Option, Some, None, Result, Ok, Err, refl, sym, ap, subst, ◌∙◌, arith, inl, inr}
use Rattle.std.specs.Option.{ok_or}
use Rattle.std.proofs.lemmas.Bool.{ltb-true, ltb-false, lt-ltb, le-ltb, leb-true, le-leb, eqb-false, ne_eqb, and_parts, false_from_ne_true}
use Rattle.std.proofs.lemmas.List.{length-append, length-take, length-drop, take-append-drop, take_at, append-nil}
use Rattle.sms_base.specs.FaultReasons.{HasContinuation, HasFront}
use Rattle.sms_base.specs.Reading.{◌>>=◌, only_if, AreOctets}
use Rattle.sms_base.proofs.FaultSteps.{octets_back}
use Rattle.sms_base.proofs.Steps.{bind_err, err_is, ok_is, passes}
use Rattle.smpp_pdu.specs.declared.fault.PduFault.{PduFault}
use Rattle.smpp_pdu.specs.declared.fault.PduFault.TheVariants.{Truncated, BadLength, UnknownCommand, NoTerminator, BadTlv, FieldTooLong, ShortMessageTooLong}
use Rattle.smpp_pdu.specs.declared.command.CommandId.{CommandId}
use Rattle.smpp_pdu.specs.declared.body.Body.{Body}
use Rattle.smpp_pdu.specs.declared.header.Header.{Header}
use Rattle.smpp_pdu.specs.declared.pdu.Pdu.{Pdu}
use Rattle.smpp_pdu.specs.Commands.{command_number, command_of}
use Rattle.smpp_pdu.specs.Fields.{four}
use Rattle.smpp_pdu.specs.FaultReasons.{IsBodyOf, IsCommandLength, HasBadCommandLength, HasNoCommand, HasHeader, HasBody, HasBodyFront, EndsInHeader, EndsBeforeLength, HasShortBody, HasLongBody, HasWrongBody}
use Rattle.smpp_pdu.specs.FieldReading.{four_in}
use Rattle.smpp_pdu.specs.PduGrammar.{command_of_body, header_octets, pdu_octets, IsPdu}
use Rattle.smpp_pdu.specs.PduReading.{body_at, cut_short, body_in, pdu_at}
use Rattle.smpp_pdu.proofs.FieldLaws.{four_takes, four_again}
use Rattle.smpp_pdu.proofs.Bodies.{IsMissing, IsWrong, body_continues, body_has_front, body_stays, never_unknown}
use Rattle.smpp_pdu.proofs.FaultLaws.{wrong_is, short_four}
use Rattle.smpp_pdu.proofs.Fronts.{body_front}
use Rattle.smpp_pdu.proofs.PduLaws.{command_of_is, command_of-number, body_takes, body_again, pdu_takes, pdu_again, four_short, four_left}

no_fault : {A : Type 0} (x : A) (f : PduFault) → (let r : Result A PduFault = Ok x in r ≡ Err f) → ⊥
no_fault x f e = absurd cc

-- ---- where the fault is

-- a good header, and the fault of what stands behind it
abbrev IsInBody : List ℕ → PduFault → Type 0
IsInBody xs f = (h : Header) × (c : CommandId) × (rest : List ℕ) × HasHeader xs h c rest × AreOctets rest × (body_in c (h.command_length - 16) rest ≡ Err f)

-- the header ends too early, its numbers are no good, or the fault is in the body
abbrev Place : List ℕ → PduFault → Type 0
Place xs f =
    ((f ≡ Truncated) × EndsInHeader xs) ⊎ (((f ≡ BadLength) × HasBadCommandLength xs) ⊎ (((f ≡ UnknownCommand) × HasNoCommand xs) ⊎ IsInBody xs f))

in_range : (n : ℕ) → leb 16 n && leb n 65536 ≡ true → IsCommandLength n
in_range n e = let t = and_parts (leb 16 n) (leb n 65536) e in (leb-true 16 n t.0, leb-true n 65536 t.1)

range_test : (n : ℕ) → IsCommandLength n → leb 16 n && leb n 65536 ≡ true
range_test n h = rw (le-leb 16 n h.0, le-leb n 65536 h.1) refl

-- a test that refuses
refused : (b : Bool) (bad f : PduFault) → (let r : Result (Unit {0}) PduFault = only_if b bad in r ≡ Err f) → (b ≡ false) × (f ≡ bad)
refused true bad f e = absurd (no_fault {A = Unit {0}} tt f e)
refused false bad f e = (refl, sym (err_is {A = Unit {0}} bad f e))

unknown : (o : Option CommandId) (f : PduFault) → ok_or o UnknownCommand ≡ Err f → (o ≡ None) × (f ≡ UnknownCommand)
unknown (Some c) f e = absurd (no_fault {A = CommandId} c f e)
unknown None f e = (refl, sym (err_is {A = CommandId} UnknownCommand f e))

known : (o : Option CommandId) (c : CommandId) → ok_or o UnknownCommand ≡ Ok c → o ≡ Some c
known (Some d) c e = ap (λ (x : CommandId). Some x) (ok_is {E = PduFault} d c e)
known None c e = absurd cc

no_some : (c : CommandId) → (let o : Option CommandId = None in o ≡ Some c) → ⊥
no_some c e = absurd cc

no_command : (n : ℕ) → command_of n ≡ None → (c : CommandId) → command_number c ≡ n → ⊥
no_command n none c e = no_some c (sym none ∙ ap command_of (sym e) ∙ command_of-number c)

no_length : (n : ℕ) → leb 16 n && leb n 65536 ≡ false → IsCommandLength n → ⊥
no_length n e h = absurd (let clash : true ≡ false = sym (range_test n h) ∙ e in cc)

-- what stands behind a good command_length and a known command_id
behind : (xs : List ℕ) (f : PduFault) (n id : ℕ) (c : CommandId) (rest : List ℕ) → xs ≡ four n ++ (four id ++ rest) → IsCommandLength n → command_of id ≡ Some c → AreOctets rest
    → length xs ≡ 8 + length rest
    → (four_in rest >>= (λ command_status. four_in command_status.1 >>= (λ sequence_number. body_in c (n - 16) sequence_number.1
    >>= (λ body. let r : Result Pdu PduFault = Ok (record { command_status = command_status.0; sequence_number = sequence_number.0; body = body }) in r)))) ≡ Err f
    → Place xs f
behind xs f n id c rest spelled range is octets len e = elim (bind_err (four_in rest) _ f e) [
  | inl q1 ↦ inl (short_four rest f q1, omega (arith, len, four_short rest f q1))
  | inr s1 ↦
      let p1 = four_takes rest s1.0 octets s1.1 in
      let l1 = four_left rest s1.0 s1.1 in
      elim (bind_err (four_in s1.0.1) _ f s1.2) [
        | inl q2 ↦ inl (short_four s1.0.1 f q2, omega (arith, len, l1, four_short s1.0.1 f q2))
        | inr s2 ↦
            let p2 = four_takes s1.0.1 s2.0 p1.octets s2.1 in
            let h : Header = record { command_length = n; command_id = id; command_status = s1.0.0; sequence_number = s2.0.0 } in
            let whole : xs ≡ header_octets h ++ s2.0.1 =
            spelled ∙ ap (λ (l : List ℕ). four n ++ (four id ++ l)) (p1.parts ∙ ap (λ (l : List ℕ). four s1.0.0 ++ l) p2.parts) in
            let header : HasHeader xs h c s2.0.1 = record { begins = whole; length_is = range; command_is = sym (command_of_is id c is) } in
            elim (bind_err (body_in c (n - 16) s2.0.1) _ f s2.2) [
              | inl q3 ↦ inr (inr (inr (h, c, s2.0.1, header, p2.octets, q3)))
              | inr s3 ↦ absurd (no_fault {A = Pdu} (record { command_status = s1.0.0; sequence_number = s2.0.0; body = s3.0 }) f s3.2)
            ]
      ]
]

place : (xs : List ℕ) (f : PduFault) → AreOctets xs → pdu_at xs ≡ Err f → Place xs f
unfolding pdu_at
place xs f octets e = elim (bind_err (four_in xs) _ f e) [
  | inl q1 ↦ inl (short_four xs f q1, omega (arith, four_short xs f q1))
  | inr s1 ↦
      let n : ℕ = s1.0.0 in
      let p1 = four_takes xs s1.0 octets s1.1 in
      let l1 = four_left xs s1.0 s1.1 in
      elim (bind_err (only_if (leb 16 n && leb n 65536) BadLength) _ f s1.2) [
        | inl q2 ↦
            let r = refused (leb 16 n && leb n 65536) BadLength f q2 in
            inr (inl (r.1, (n, s1.0.1, p1.parts, no_length n r.0)))
        | inr s2 ↦
            let range = in_range n (passes (leb 16 n && leb n 65536) BadLength s2.0 s2.1) in
            elim (bind_err (four_in s1.0.1) _ f s2.2) [
              | inl q3 ↦ inl (short_four s1.0.1 f q3, omega (arith, l1, four_short s1.0.1 f q3))
              | inr s3 ↦
                  let p3 = four_takes s1.0.1 s3.0 p1.octets s3.1 in
                  let l3 = four_left s1.0.1 s3.0 s3.1 in
                  let spelled : xs ≡ four n ++ (four s3.0.0 ++ s3.0.1) = p1.parts ∙ ap (λ (l : List ℕ). four n ++ l) p3.parts in
                  elim (bind_err (ok_or (command_of s3.0.0) UnknownCommand) _ f s3.2) [
                    | inl q4 ↦
                        let r = unknown (command_of s3.0.0) f q4 in
                        inr (inr (inl (r.1, (n, s3.0.0, s3.0.1, spelled, range, no_command s3.0.0 r.0))))
                    | inr s4 ↦ behind xs f n s3.0.0 s4.0 s3.0.1 spelled range (known (command_of s3.0.0) s4.0 s4.1) p3.octets (omega (arith, l1, l3)) s4.2
                  ]
            ]
      ]
]

-- ---- the fault of a body

-- fewer octets than command_length counts
abbrev IsCut : List ℕ → CommandId → List ℕ → PduFault → Type 0
IsCut xs c body f = HasBodyFront xs c body × (cut_short (body_at c body) ≡ f)

-- the body that command_length counts has the fault
abbrev IsFaulty : List ℕ → CommandId → List ℕ → PduFault → Type 0
IsFaulty xs c body f = HasBody xs c body × AreOctets body × (body_at c body ≡ Err f)

-- a whole PDU, and octets behind it
abbrev IsSpare : List ℕ → PduFault → Type 0
IsSpare xs f = (f ≡ BadLength) × HasFront IsPdu xs

abbrev InBody : List ℕ → PduFault → Type 0
InBody xs f = ((c : CommandId) × (body : List ℕ) × IsCut xs c body f) ⊎ (((c : CommandId) × (body : List ℕ) × IsFaulty xs c body f) ⊎ IsSpare xs f)

-- a PDU by its header and its body
pdu_is : (h : Header) (c : CommandId) (body : List ℕ) (b : Body) → IsCommandLength h.command_length → h.command_id ≡ command_number c → 16 + length body ≡ h.command_length → IsBodyOf c body b
    → (p : Pdu) × IsPdu (header_octets h ++ body) p
pdu_is h c body b range id len is =
    let p : Pdu = record { command_status = h.command_status; sequence_number = h.sequence_number; body = b } in
    let number : h.command_id ≡ command_number (command_of_body b) = id ∙ ap command_number (sym is.0) in
    let spelled : header_octets h ++ body ≡ pdu_octets p body =
    ap (λ (n : ℕ). four n ++ (four h.command_id ++ (four h.command_status ++ (four h.sequence_number ++ body)))) (sym len)
    ∙ ap (λ (n : ℕ). four (16 + length body) ++ (four n ++ (four h.command_status ++ (four h.sequence_number ++ body)))) number in
    (p, (body, is.1, omega (arith, len, range.1), spelled))

-- the octets of a body that command_length counts, where they are there
module _ (xs : List ℕ) (h : Header) (c : CommandId) (rest : List ℕ) (n : ℕ) (header : HasHeader xs h c rest) (octets : AreOctets rest) (n_is : 16 + n ≡ h.command_length) where
  split : HasHeader xs h c (take n rest ++ drop n rest)
  split = subst (HasHeader xs h c) (sym (take-append-drop n rest)) header

  counted : n ≤ length rest → 16 + length (take n rest) ≡ h.command_length
  counted le = omega (arith, le, length-take n rest, n_is)

  are : AreOctets (take n rest)
  are = (octets_back (take n rest) (drop n rest) rest (sym (take-append-drop n rest)) octets).0

  has_body : n ≤ length rest → HasBody xs c (take n rest)
  has_body le = (h, drop n rest, split, counted le)

  has_more : (b : Body) → n ≤ length rest → body_at c (take n rest) ≡ Ok b → eqb (length rest) n ≡ false → HasFront IsPdu xs
  has_more b le e ne =
      let p = pdu_is h c (take n rest) b header.length_is header.command_is (counted le) (body_takes c (take n rest) b are e) in
      let parts : xs ≡ (header_octets h ++ take n rest) ++ drop n rest = split.begins in
      let some : drop n rest ≡ [] → ⊥ = λ none. eqb-false (length rest) n ne (omega (arith, le, ap length none, length-drop n rest)) in
      (header_octets h ++ take n rest, drop n rest, parts, some, p)

  by_end : (b : Body) (f : PduFault) (t : Bool) → eqb (length rest) n ≡ t → n ≤ length rest → body_at c (take n rest) ≡ Ok b
      → (only_if t BadLength >>= (λ whole. let r : Result Body PduFault = Ok b in r)) ≡ Err f → InBody xs f
  by_end b f true is le e g = absurd (no_fault {A = Body} b f g)
  by_end b f false is le e g = inr (inr (sym (err_is {A = Body} BadLength f g), has_more b le e is))

  by_short : (f : PduFault) (t : Bool) → ltb (length rest) n ≡ t
      → cond t (Err (cut_short (body_at c rest))) (body_at c (take n rest) >>= (λ body. only_if (eqb (length rest) n) BadLength >>= (λ whole. Ok body))) ≡ Err f → InBody xs f
  by_short f true t g =
      let few : 16 + length rest < h.command_length = omega (arith, ltb-true (length rest) n t, n_is) in
      inl (c, rest, ((h, header, few), err_is {A = Body} (cut_short (body_at c rest)) f g))
  by_short f false t g =
      let le : n ≤ length rest = ltb-false (length rest) n t in
      elim (bind_err (body_at c (take n rest)) _ f g) [
        | inl q ↦ inr (inl (c, take n rest, (has_body le, are, q)))
        | inr q ↦ by_end q.0 f (eqb (length rest) n) refl le q.1 q.2
      ]

in_body : (xs : List ℕ) (f : PduFault) → IsInBody xs f → InBody xs f
unfolding body_in
in_body xs f (h, c, rest, header, octets, e) =
    let low : 16 ≤ h.command_length = header.length_is.0 in
    by_short xs h c rest (h.command_length - 16) header octets (omega (arith, low)) f (ltb (length rest) (h.command_length - 16)) refl e

-- ---- each fault

place_of : (xs : List ℕ) (f : PduFault) → AreOctets xs → pdu_at xs ≡ Err f → (f ≡ BadLength → ⊥) → (f ≡ UnknownCommand → ⊥)
    → ((f ≡ Truncated) × EndsInHeader xs) ⊎ (((c : CommandId) × (body : List ℕ) × IsCut xs c body f) ⊎ ((c : CommandId) × (body : List ℕ) × IsFaulty xs c body f))
place_of xs f octets e not_length not_command = elim (place xs f octets e) [
  | inl q ↦ inl q
  | inr r ↦ elim r [
    | inl q ↦ absurd (not_length q.0)
    | inr s ↦ elim s [
      | inl q ↦ absurd (not_command q.0)
      | inr b ↦ elim (in_body xs f b) [
        | inl q ↦ inr (inl q)
        | inr t ↦ elim t [ inl q ↦ inr (inr q) | inr q ↦ absurd (not_length q.0) ]
      ]
    ]
  ]
]

short_body : (xs : List ℕ) (c : CommandId) (body : List ℕ) (f : PduFault) → IsMissing f → IsFaulty xs c body f → HasShortBody xs
short_body xs c body f m h = (c, body, h.0, body_continues c body f h.1 m h.2)

pub is_truncated : (xs : List ℕ) → AreOctets xs → pdu_at xs ≡ Err Truncated → EndsInHeader xs ⊎ (EndsBeforeLength xs ⊎ HasShortBody xs)
is_truncated xs octets e = elim (place_of xs Truncated octets e (λ q. absurd cc) (λ q. absurd cc)) [
  | inl q ↦ inl q.1
  | inr r ↦ elim r [
    | inl q ↦ inr (inl (q.0, q.1, q.2.0))
    | inr q ↦ inr (inr (short_body xs q.0 q.1 Truncated tt q.2))
  ]
]

not_both : (f : PduFault) → IsWrong f → IsMissing f → ⊥
not_both Truncated w m = w
not_both BadLength w m = w
not_both UnknownCommand w m = w
not_both NoTerminator w m = w
not_both BadTlv w m = w
not_both FieldTooLong w m = m
not_both ShortMessageTooLong w m = m

-- a body that is cut is never reported as one whose string or parameter does not end
cut_is : {A : Type 0} (r : Result A PduFault) (f : PduFault) → IsMissing f → (f ≡ Truncated → ⊥) → cut_short r ≡ f → ⊥
cut_is {A} r f m other e = not_both f (wrong_is r f e other).0 m

pub has_short_body : (xs : List ℕ) (f : PduFault) → IsMissing f → (f ≡ Truncated → ⊥) → (f ≡ BadLength → ⊥) → (f ≡ UnknownCommand → ⊥) → AreOctets xs → pdu_at xs ≡ Err f → HasShortBody xs
has_short_body xs f m other not_length not_command octets e = elim (place_of xs f octets e not_length not_command) [
  | inl q ↦ absurd (other q.0)
  | inr r ↦ elim r [
    | inl q ↦ absurd (cut_is (body_at q.0 q.1) f m other q.2.1)
    | inr q ↦ short_body xs q.0 q.1 f m q.2
  ]
]

pub is_unterminated : (xs : List ℕ) → AreOctets xs → pdu_at xs ≡ Err NoTerminator → HasShortBody xs
is_unterminated xs octets e = has_short_body xs NoTerminator tt (λ q. absurd cc) (λ q. absurd cc) (λ q. absurd cc) octets e

pub is_cut_parameter : (xs : List ℕ) → AreOctets xs → pdu_at xs ≡ Err BadTlv → HasShortBody xs
is_cut_parameter xs octets e = has_short_body xs BadTlv tt (λ q. absurd cc) (λ q. absurd cc) (λ q. absurd cc) octets e

pub is_bad_length : (xs : List ℕ) → AreOctets xs → pdu_at xs ≡ Err BadLength → HasBadCommandLength xs ⊎ (HasFront IsPdu xs ⊎ HasLongBody xs)
is_bad_length xs octets e = elim (place xs BadLength octets e) [
  | inl q ↦ absurd (let f = q.0 in cc)
  | inr r ↦ elim r [
    | inl q ↦ inl q.1
    | inr s ↦ elim s [
      | inl q ↦ absurd (let f = q.0 in cc)
      | inr b ↦ elim (in_body xs BadLength b) [
        | inl q ↦ absurd (wrong_is (body_at q.0 q.1) BadLength q.2.1 (λ f. absurd cc)).0
        | inr t ↦ elim t [
          | inl q ↦ inr (inr (q.0, q.1, q.2.0, body_has_front q.0 q.1 q.2.1 q.2.2))
          | inr q ↦ inr (inl q.1)
        ]
      ]
    ]
  ]
]

pub is_unknown : (xs : List ℕ) → AreOctets xs → pdu_at xs ≡ Err UnknownCommand → HasNoCommand xs
is_unknown xs octets e = elim (place xs UnknownCommand octets e) [
  | inl q ↦ absurd (let f = q.0 in cc)
  | inr r ↦ elim r [
    | inl q ↦ absurd (let f = q.0 in cc)
    | inr s ↦ elim s [
      | inl q ↦ q.1
      | inr b ↦ elim (in_body xs UnknownCommand b) [
        | inl q ↦ absurd (wrong_is (body_at q.0 q.1) UnknownCommand q.2.1 (λ f. absurd cc)).0
        | inr t ↦ elim t [
          | inl q ↦ absurd (never_unknown q.0 q.1 q.2.2)
          | inr q ↦ absurd (let f = q.0 in cc)
        ]
      ]
    ]
  ]
]

no_body : (f : PduFault) (b : Body) → (let r : Result Body PduFault = Err f in let s : Result Body PduFault = Ok b in r ≡ s) → ⊥
no_body f b e = absurd cc

-- no body begins with an octet that is wrong
begins_no_body : (c : CommandId) (xs : List ℕ) (f : PduFault) → IsWrong f → body_at c xs ≡ Err f → (more : List ℕ) (b : Body) → IsBodyOf c (xs ++ more) b → ⊥
begins_no_body c xs f w e more b is =
    no_body f b (sym (body_stays c xs more f w e) ∙ ap (λ (d : CommandId). body_at d (xs ++ more)) (sym is.0) ∙ body_again (xs ++ more) b is.1)

pub has_wrong_body : (xs : List ℕ) (f : PduFault) → IsWrong f → (f ≡ Truncated → ⊥) → (f ≡ BadLength → ⊥) → (f ≡ UnknownCommand → ⊥) → AreOctets xs → pdu_at xs ≡ Err f → HasWrongBody xs
has_wrong_body xs f w other not_length not_command octets e = elim (place_of xs f octets e not_length not_command) [
  | inl q ↦ absurd (other q.0)
  | inr r ↦ elim r [
    | inl q ↦ (q.0, q.1, inr q.2.0, begins_no_body q.0 q.1 f w (wrong_is (body_at q.0 q.1) f q.2.1 other).1)
    | inr q ↦ (q.0, q.1, inl q.2.0, begins_no_body q.0 q.1 f w q.2.2)
  ]
]

pub is_long_field : (xs : List ℕ) → AreOctets xs → pdu_at xs ≡ Err FieldTooLong → HasWrongBody xs
is_long_field xs octets e = has_wrong_body xs FieldTooLong tt (λ q. absurd cc) (λ q. absurd cc) (λ q. absurd cc) octets e

pub is_long_message : (xs : List ℕ) → AreOctets xs → pdu_at xs ≡ Err ShortMessageTooLong → HasWrongBody xs
is_long_message xs octets e = has_wrong_body xs ShortMessageTooLong tt (λ q. absurd cc) (λ q. absurd cc) (λ q. absurd cc) octets e

-- ---- the other way round

pub bad_length_is : (xs : List ℕ) → HasBadCommandLength xs → pdu_at xs ≡ Err BadLength
unfolding pdu_at
bad_length_is xs (n, rest, spelled, bad) =
    let test : leb 16 n && leb n 65536 ≡ false = false_from_ne_true _ (λ t. bad (in_range n t)) in
    rw (spelled, four_again n rest, test) refl

none_is : (o : Option CommandId) → ((c : CommandId) → o ≡ Some c → ⊥) → o ≡ None
none_is (Some c) h = absurd (h c refl)
none_is None h = refl

pub no_command_is : (xs : List ℕ) → HasNoCommand xs → pdu_at xs ≡ Err UnknownCommand
unfolding pdu_at
no_command_is xs (n, number, rest, spelled, range, none) =
    let nothing : command_of number ≡ None = none_is (command_of number) (λ c e. none c (command_of_is number c e)) in
    rw (spelled, four_again n (four number ++ rest), range_test n range, four_again number rest, nothing) refl

-- a PDU is read as far as its body
read_header : (xs : List ℕ) (h : Header) (c : CommandId) (rest : List ℕ) (f : PduFault) → HasHeader xs h c rest → body_in c (h.command_length - 16) rest ≡ Err f → pdu_at xs ≡ Err f
unfolding pdu_at
read_header xs h c rest f header e =
    let r3 : List ℕ = four h.sequence_number ++ rest in
    let r2 : List ℕ = four h.command_status ++ r3 in
    let r1 : List ℕ = four h.command_id ++ r2 in
    let number : command_of h.command_id ≡ Some c = ap command_of header.command_is ∙ command_of-number c in
    rw (header.begins, four_again h.command_length r1, range_test h.command_length header.length_is, four_again h.command_id r2, number, four_again h.command_status r3, four_again h.sequence_number rest, e) refl

long_body : (c : CommandId) (n : ℕ) (body rest : List ℕ) (b : Body) → length body ≡ n → (rest ≡ [] → ⊥) → body_at c body ≡ Ok b → body_in c n (body ++ rest) ≡ Err BadLength
unfolding body_in
long_body c n body rest b len some e =
    let long : ltb (length (body ++ rest)) n ≡ false = le-ltb (length (body ++ rest)) n (omega (arith, len, length-append body rest)) in
    let other : eqb (length (body ++ rest)) n ≡ false = ne_eqb (length (body ++ rest)) n (λ same. some (nothing rest (omega (arith, same, len, length-append body rest)))) in
    rw (long, take_at body rest n len, e, other) refl
  where
    nothing : (l : List ℕ) → length l ≡ 0 → l ≡ []
    nothing [] z = refl
    nothing (x ∷ l) z = absurd (omega arith)

abbrev header_of : Pdu → List ℕ → Header
header_of p body = record { command_length = 16 + length body; command_id = command_number (command_of_body p.body); command_status = p.command_status; sequence_number = p.sequence_number }

pub left_over_is : (xs : List ℕ) → HasFront IsPdu xs → pdu_at xs ≡ Err BadLength
left_over_is xs (front, rest, parts, some, (p, (body, is, short, spelled))) =
    let low : 16 ≤ 16 + length body = omega arith in
    let header : HasHeader xs (header_of p body) (command_of_body p.body) (body ++ rest) =
    record { begins = parts ∙ ap (λ (l : List ℕ). l ++ rest) spelled; length_is = (low, short); command_is = refl } in
    read_header xs (header_of p body) (command_of_body p.body) (body ++ rest) BadLength header
    (long_body (command_of_body p.body) (16 + length body - 16) body rest p.body (omega arith) some (body_again body p.body is))

-- fewer octets than command_length counts: the fault is that of the body that is there
cut_at : (xs body : List ℕ) (c : CommandId) (f : PduFault) → HasBodyFront xs c body → cut_short (body_at c body) ≡ f → pdu_at xs ≡ Err f
unfolding body_in
cut_at xs body c f (h, header, few) cut =
    let short : ltb (length body) (h.command_length - 16) ≡ true = lt-ltb (length body) (h.command_length - 16) (omega (arith, few)) in
    read_header xs h c body f header (rw (short, cut) refl)

pub missing_is : (xs body : List ℕ) (c : CommandId) → HasBodyFront xs c body → HasContinuation (IsBodyOf c) body → pdu_at xs ≡ Err Truncated
missing_is xs body c front (more, octets, (b, is)) =
    let read : body_at c (body ++ more) ≡ Ok b = ap (λ (d : CommandId). body_at d (body ++ more)) (sym is.0) ∙ body_again (body ++ more) b is.1 in
    cut_at xs body c Truncated front (body_front c body more b read)

cut_cases : {A : Type 0} (r : Result A PduFault) → (cut_short r ≡ Truncated) ⊎ ((cut_short r ≡ FieldTooLong) ⊎ (cut_short r ≡ ShortMessageTooLong))
cut_cases (Ok x) = inl refl
cut_cases (Err Truncated) = inl refl
cut_cases (Err BadLength) = inl refl
cut_cases (Err UnknownCommand) = inl refl
cut_cases (Err NoTerminator) = inl refl
cut_cases (Err BadTlv) = inl refl
cut_cases (Err FieldTooLong) = inr (inl refl)
cut_cases (Err ShortMessageTooLong) = inr (inr refl)

pub short_is : (xs : List ℕ) → EndsBeforeLength xs → (pdu_at xs ≡ Err Truncated) ⊎ ((pdu_at xs ≡ Err FieldTooLong) ⊎ (pdu_at xs ≡ Err ShortMessageTooLong))
short_is xs (c, body, front) = elim (cut_cases (body_at c body)) [
  | inl q ↦ inl (cut_at xs body c Truncated front q)
  | inr r ↦ elim r [
    | inl q ↦ inr (inl (cut_at xs body c FieldTooLong front q))
    | inr q ↦ inr (inr (cut_at xs body c ShortMessageTooLong front q))
  ]
]

-- a PDU has a header, and so has what is read as far as its body
pdu_long : (xs : List ℕ) (p : Pdu) → IsPdu xs p → length xs < 16 → ⊥
pdu_long xs p (body, is, small, whole) lt = omega (arith, lt, ap length whole)

header_long : (xs : List ℕ) (f : PduFault) → IsInBody xs f → length xs < 16 → ⊥
header_long xs f (h, c, rest, header, octets, e) lt = omega (arith, lt, ap length header.begins)

pub header_is : (xs : List ℕ) → AreOctets xs → EndsInHeader xs → (HasBadCommandLength xs → ⊥) → (HasNoCommand xs → ⊥) → pdu_at xs ≡ Err Truncated
header_is xs octets lt good known_id = by_read (pdu_at xs) refl where
  by_read : (r : Result Pdu PduFault) → pdu_at xs ≡ r → r ≡ Err Truncated
  by_read (Ok p) e = absurd (pdu_long xs p (pdu_takes xs p octets e) lt)
  by_read (Err f) e = elim (place xs f octets e) [
    | inl q ↦ ap (λ (g : PduFault). let r : Result Pdu PduFault = Err g in r) q.0
    | inr r ↦ elim r [
      | inl q ↦ absurd (good q.1)
      | inr s ↦ elim s [ inl q ↦ absurd (known_id q.1) | inr b ↦ absurd (header_long xs f b lt) ]
    ]
  ]

no_pdu : (fault : PduFault) (pdu : Pdu) → (let r : Result Pdu PduFault = Err fault in let s : Result Pdu PduFault = Ok pdu in r ≡ s) → ⊥
no_pdu fault pdu e = absurd cc

four_is : (n m : ℕ) (xs ys : List ℕ) → four n ++ xs ≡ four m ++ ys → n ≡ m
four_is n m xs ys e = ap (λ (p : ℕ × List ℕ). p.0) (ok_is {A = ℕ × List ℕ} {E = PduFault} (n, xs) (m, ys) (sym (four_again n xs) ∙ ap four_in e ∙ four_again m ys))

pub counted_begin_none : (xs more rest : List ℕ) (h : Header) (p : Pdu) (f : PduFault) → xs ≡ header_octets h ++ rest → h.command_length ≤ length xs → pdu_at xs ≡ Err f → IsPdu (xs ++ more) p → ⊥
counted_begin_none xs [] rest h p f spelled le e is = no_pdu f p (sym e ∙ pdu_again xs p (subst (λ (l : List ℕ). IsPdu l p) (append-nil xs) is))
counted_begin_none xs (o ∷ more) rest h p f spelled le e (body, is, short, whole) =
    let r1 : List ℕ = four h.command_id ++ (four h.command_status ++ (four h.sequence_number ++ (rest ++ o ∷ more))) in
    let r2 : List ℕ = four (command_number (command_of_body p.body)) ++ (four p.command_status ++ (four p.sequence_number ++ body)) in
    let same : four h.command_length ++ r1 ≡ four (16 + length body) ++ r2 = sym (ap (λ (l : List ℕ). l ++ o ∷ more) spelled) ∙ whole in
    let len : h.command_length ≡ 16 + length body = four_is h.command_length (16 + length body) r1 r2 same in
    absurd (omega (arith, len, le, length-append xs (o ∷ more), ap length whole))
