-- A proper front of a PDU: an octet is missing, and no octet of it is wrong.
use Rattle.std.proofs.Common.{◌≡◌, ◌⊎◌, ℕ, zero, suc, ◌+◌, ◌-◌, ◌*◌, ◌<◌, true, ◌&&◌, ltb, leb, List, [], ◌++◌, length, Option, Some, None, Result, Ok, Err, refl, sym, ap, ◌∙◌, arith, inl, inr}
use Rattle.std.specs.Option.{ok_or}
use Rattle.std.proofs.lemmas.Bool.{lt-ltb}
use Rattle.std.proofs.lemmas.List.{length-append}
use Rattle.sms_base.specs.Reading.{◌>>=◌, octet_in}
use Rattle.sms_base.proofs.Steps.{bind_ok}
use Rattle.sms_base.proofs.Cuts.{CutsShort, CutsWhole, cuts_bind, cuts_octet, cuts_pure, whole_bind, whole_test}
use Rattle.sms_base.proofs.Lists.{no_items}
use Rattle.smpp_pdu.specs.declared.fault.PduFault.{PduFault}
use Rattle.smpp_pdu.specs.declared.fault.PduFault.TheVariants.{Truncated, BadLength, UnknownCommand, NoTerminator, BadTlv, FieldTooLong, ShortMessageTooLong}
use Rattle.smpp_pdu.specs.declared.command.CommandId.{CommandId}
use Rattle.smpp_pdu.specs.declared.body.Body.{Body}
use Rattle.smpp_pdu.specs.declared.pdu.Pdu.{Pdu}
use Rattle.smpp_pdu.specs.Commands.{command_of}
use Rattle.smpp_pdu.specs.FieldReading.{two_in, four_in}
use Rattle.smpp_pdu.specs.PduGrammar.{IsPdu}
use Rattle.smpp_pdu.specs.PduReading.{body_at, cut_short, body_in, pdu_at}
use Rattle.smpp_pdu.proofs.Bodies.{body_stays, no_fault}
use Rattle.smpp_pdu.proofs.PduLaws.{Filled, body_in_takes, pdu_again}

-- ---- bodies

-- An octet of a front that is wrong is wrong in the whole body too. So a front of a body lacks octets.
pub body_front : (c : CommandId) (xs ys : List ℕ) (body : Body) → body_at c (xs ++ ys) ≡ Ok body → cut_short (body_at c xs) ≡ Truncated
body_front c xs ys body e = by_read (body_at c xs) refl where
  both : (f : PduFault) → body_at c (xs ++ ys) ≡ Err f → ⊥
  both f q = no_fault {A = Body} body f (sym e ∙ q)

  by_fault : (f : PduFault) → body_at c xs ≡ Err f → (let r : Result Body PduFault = Err f in cut_short r ≡ Truncated)
  by_fault Truncated q = refl
  by_fault BadLength q = refl
  by_fault UnknownCommand q = refl
  by_fault NoTerminator q = refl
  by_fault BadTlv q = refl
  by_fault FieldTooLong q = absurd (both FieldTooLong (body_stays c xs ys FieldTooLong tt q))
  by_fault ShortMessageTooLong q = absurd (both ShortMessageTooLong (body_stays c xs ys ShortMessageTooLong tt q))

  by_read : (r : Result Body PduFault) → body_at c xs ≡ r → cut_short r ≡ Truncated
  by_read (Ok read) q = refl
  by_read (Err f) q = by_fault f q

-- ---- whole PDUs

cuts_two : CutsShort Truncated (two_in Truncated)
unfolding two_in
cuts_two =
    cuts_bind Truncated (octet_in Truncated) _ (cuts_octet Truncated) (λ high.
    cuts_bind Truncated (octet_in Truncated) _ (cuts_octet Truncated) (λ low.
    cuts_pure Truncated (256 * high + low)))

cuts_four : CutsShort Truncated four_in
unfolding four_in
cuts_four =
    cuts_bind Truncated (two_in Truncated) _ cuts_two (λ high.
    cuts_bind Truncated (two_in Truncated) _ cuts_two (λ low.
    cuts_pure Truncated (65536 * high + low)))

short_body : (c : CommandId) (n : ℕ) (xs : List ℕ) → length xs < n → cut_short (body_at c xs) ≡ Truncated → body_in c n xs ≡ Err Truncated
unfolding body_in
short_body c n xs lt h = let short : ltb (length xs) n ≡ true = lt-ltb (length xs) n lt in rw (short, h) refl

whole_body : (c : CommandId) (n : ℕ) → CutsWhole Truncated (body_in c n)
whole_body c n xs ys b e =
    let filled = body_in_takes c n (xs ++ ys) b e in
    by_length (length ys) refl filled where
      by_length : (m : ℕ) → length ys ≡ m → Filled c n (xs ++ ys) b → (ys ≡ []) ⊎ (body_in c n xs ≡ Err Truncated)
      by_length zero len filled = inl (no_items ys len)
      by_length (suc m) len filled =
          let short : length xs < n = omega (arith, filled.length_is, length-append xs ys) in
          inr (short_body c n xs short (body_front c xs ys b filled.reads))

whole_map : {A B : Type 0} (read : List ℕ → Result A PduFault) (k : A → Result B PduFault) → CutsWhole Truncated read → CutsWhole Truncated (λ xs. read xs >>= k)
whole_map {A} read k h xs ys z e =
    let a = bind_ok (read (xs ++ ys)) k z e in
    elim (h xs ys a.0 a.1) [ inl p ↦ inl p | inr p ↦ inr (ap (λ (m : Result A PduFault). m >>= k) p) ]

whole_known : {A Z : Type 0} (o : Option A) (k : A → List ℕ → Result Z PduFault) → ((x : A) → CutsWhole Truncated (k x)) → CutsWhole Truncated (λ xs. ok_or o UnknownCommand >>= (λ x. k x xs))
whole_known (Some x) k h xs ys z e = h x xs ys z e
whole_known None k h xs ys z e = absurd cc

whole_pdu : CutsWhole Truncated pdu_at
unfolding pdu_at
whole_pdu =
    whole_bind Truncated four_in _ cuts_four (λ command_length.
    whole_test Truncated (leb 16 command_length && leb command_length 65536) BadLength _ (
    whole_bind Truncated four_in _ cuts_four (λ command_id.
    whole_known (command_of command_id) _ (λ command.
    whole_bind Truncated four_in _ cuts_four (λ command_status.
    whole_bind Truncated four_in _ cuts_four (λ sequence_number.
    whole_map (body_in command (command_length - 16)) _ (whole_body command (command_length - 16))))))))

-- a proper front of a PDU is refused: octets are missing
pub front_is_short : (front rest : List ℕ) (p : Pdu) → IsPdu (front ++ rest) p → (rest ≡ [] → ⊥) → pdu_at front ≡ Err Truncated
front_is_short front rest p h some =
    elim (whole_pdu front rest p (pdu_again (front ++ rest) p h)) [
      | inl e ↦ absurd (some e)
      | inr e ↦ e
    ]
