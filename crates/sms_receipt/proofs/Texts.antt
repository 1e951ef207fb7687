-- Texts of receipts and identities.
use Rattle.std.proofs.Common.{◌≡◌, ℕ, zero, suc, ◌^◌, ◌<◌, ◌≤◌, List, length, refl, ap, arith}
use Rattle.std.proofs.lemmas.Int.Digits.{digits_value-lt}
use Rattle.std.specs.Str.Parse.{AllDigits, digits_value}
use Rattle.sms_base.specs.MessageId.{IsIdText, id_text}
use Rattle.sms_base.proofs.MessageIds.{one_text, text_writes}

writes : (n : ℕ) → n ≤ 9999999999 → IsIdText (id_text n) n
writes zero h = record { ten = refl; digits = zeros; value = refl }
  where
    zeros : AllDigits 10 (id_text 0)
    zeros = (omega arith, (omega arith, (omega arith, (omega arith, (omega arith, (omega arith, (omega arith, (omega arith, (omega arith, (omega arith, tt))))))))))
writes (suc n) h = text_writes (suc n) (record { some = omega arith; short = h })

-- the text that writes an identity is its own
pub own_text : (text : List ℕ) (n : ℕ) → IsIdText text n → text ≡ id_text n
own_text text n h =
    let lt : digits_value 10 text < 10 ^ length text = digits_value-lt 10 text h.digits in
    let ten : 10 ^ length text ≡ 10000000000 = ap (λ (k : ℕ). 10 ^ k) h.ten in
    one_text text (id_text n) n h (writes n (omega (arith, lt, ten, h.value)))
