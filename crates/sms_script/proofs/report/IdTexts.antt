-- The text of an id is its ten digits.
use Rattle.std.proofs.Common.{◌≡◌, ℕ, ◌+◌, ◌*◌, ◌/◌, ◌%◌, ◌≤◌, List, ◌++◌, Result, refl, arith, ap, ◌∙◌, rules}
use Rattle.std.specs.Result.{OnOk}
use Rattle.std.specs.Char.{digit_value}
use Rattle.std.proofs.Math.Nat.{div-div-eq-div-mul}
use Rattle.std.proofs.lemmas.Result.{on_ok_weaker}
use Rattle.std.specs.Str.Parse.{digits_value}
use Rattle.std.proofs.lemmas.Str.{digit_value_digit}
use Rattle.sms_base.specs.MessageId.{IsIdText, IsMessageId}
use Rattle.sms_base.proofs.MessageIds.{one_text}
use Rattle.sms_script.specs.report.ReportText.{digit, id_text}

value_of : (n : ℕ) → digit_value (digit n) ≡ n % 10
value_of n = let h = digit_value_digit (digit n) (omega arith, omega arith) in omega arith

-- the number above a digit, and the digit
below : (m next a : ℕ) → a ≡ next → m / 10 ≡ next → a * 10 + digit_value (digit m) ≡ m
below m next a p q = let d = value_of m in omega arith

value_is : (n : ℕ) → n ≤ 9999999999 → digits_value 10 (id_text n) ≡ n
unfolding id_text
value_is n le =
    let d = value_of (n / 1000000000) in
    let a9 : 0 + digit_value (digit (n / 1000000000)) ≡ n / 1000000000 = omega arith in
    below n (n / 10) _ (below (n / 10) (n / 100) _ (below (n / 100) (n / 1000) _ (below (n / 1000) (n / 10000) _ (below (n / 10000) (n / 100000) _
    (below (n / 100000) (n / 1000000) _ (below (n / 1000000) (n / 10000000) _ (below (n / 10000000) (n / 100000000) _ (below (n / 100000000) (n / 1000000000) _ a9
    (div-div-eq-div-mul n 100000000 10)) (div-div-eq-div-mul n 10000000 10)) (div-div-eq-div-mul n 1000000 10)) (div-div-eq-div-mul n 100000 10))
    (div-div-eq-div-mul n 10000 10)) (div-div-eq-div-mul n 1000 10)) (div-div-eq-div-mul n 100 10)) (div-div-eq-div-mul n 10 10)) refl

written : (n : ℕ) → IsMessageId n → IsIdText (id_text n) n
unfolding id_text
written n h = record { ten = refl; digits = search rules; value = value_is n h.short }

id_is : (text : List ℕ) (n : ℕ) → IsMessageId n → IsIdText text n → text ≡ id_text n
id_is text n h t = one_text text (id_text n) n t (written n h)

pub id_put : {E : Type 0} (r : Result (Unit {0}) E) (before after text : List ℕ) (n : ℕ) → IsMessageId n → IsIdText text n → OnOk r (after ≡ before ++ text) → OnOk r (after ≡ before ++ id_text n)
id_put r before after text n h t ok = on_ok_weaker r (λ (e : after ≡ before ++ text). e ∙ ap (λ (l : List ℕ). before ++ l) (id_is text n h t)) ok
