-- The receipt that was made earliest, of all sessions.
use Rattle.std.proofs.Common.{◌≡◌, ℕ, ◌<◌, ◌≤◌, true, false, Option, Some, None, refl, sym, ◌∙◌, ap, subst, ⊎_elim, arith}
use Rattle.std.specs.Option.{option_map}
use Rattle.std.specs.Prelude.{nat_le, if◌then◌else◌, IfSome}
use Rattle.std.proofs.lemmas.Bool.{cases_Bool, cases_lt, cond-true, cond-false, le-leb, leb-true}
use Rattle.sms_centre_reports.specs.open_reports.Serving.{Next, earlier}
use Rattle.sms_centre_reports.specs.declared.sessions.sending.ReceiptToSend.{ReceiptToSend}
use Rattle.sms_centre_reports.specs.sessions.SessionReceipts.{earlier_to_send, receipt_to_send}

abbrev one : ReceiptToSend → ReceiptToSend → ReceiptToSend
one a b = if nat_le a.receipt.place b.receipt.place then a else b

first_one : (a b : ReceiptToSend) → a.receipt.place ≤ b.receipt.place → one a b ≡ a
first_one a b l = cond-true (nat_le a.receipt.place b.receipt.place) a b (le-leb a.receipt.place b.receipt.place l)

other_one : (a b : ReceiptToSend) → b.receipt.place < a.receipt.place → one a b ≡ b
other_one a b l = ⊎_elim
    (λ (t : nat_le a.receipt.place b.receipt.place ≡ true). let k = leb-true a.receipt.place b.receipt.place t in absurd (omega (arith, k, l)))
    (λ (t : nat_le a.receipt.place b.receipt.place ≡ false). cond-false (nat_le a.receipt.place b.receipt.place) a b t)
    (cases_Bool (nat_le a.receipt.place b.receipt.place))

one_of_three : (a b c : ReceiptToSend) → one (one a b) c ≡ one a (one b c)
one_of_three a b c = ⊎_elim
    (λ (l : b.receipt.place < a.receipt.place).
    ap (λ (x : ReceiptToSend). one x c) (other_one a b l) ∙ ⊎_elim
    (λ (k : c.receipt.place < b.receipt.place). other_one b c k ∙ sym (ap (λ (x : ReceiptToSend). one a x) (other_one b c k) ∙ other_one a c (omega (arith, k, l))))
    (λ (k : b.receipt.place ≤ c.receipt.place). first_one b c k ∙ sym (ap (λ (x : ReceiptToSend). one a x) (first_one b c k) ∙ other_one a b l))
    (cases_lt c.receipt.place b.receipt.place))
    (λ (l : a.receipt.place ≤ b.receipt.place).
    ap (λ (x : ReceiptToSend). one x c) (first_one a b l) ∙ ⊎_elim
    (λ (k : c.receipt.place < b.receipt.place). sym (ap (λ (x : ReceiptToSend). one a x) (other_one b c k)))
    (λ (k : b.receipt.place ≤ c.receipt.place). first_one a c (omega (arith, k, l)) ∙ sym (ap (λ (x : ReceiptToSend). one a x) (first_one b c k) ∙ first_one a b l))
    (cases_lt c.receipt.place b.receipt.place))
    (cases_lt b.receipt.place a.receipt.place)

of_three : (a b c : Option ReceiptToSend) → earlier_to_send (earlier_to_send a b) c ≡ earlier_to_send a (earlier_to_send b c)
of_three None b c = refl
of_three (Some a) None c = refl
of_three (Some a) (Some b) None = refl
of_three (Some a) (Some b) (Some c) = ap (λ (x : ReceiptToSend). Some x) (one_of_three a b c)

pub or_none : (a : Option ReceiptToSend) → earlier_to_send a None ≡ a
or_none None = refl
or_none (Some a) = refl

of_next : (a b : Option Next) → option_map receipt_to_send (earlier a b) ≡ earlier_to_send (option_map receipt_to_send a) (option_map receipt_to_send b)
of_next None b = refl
of_next (Some a) None = refl
of_next (Some a) (Some b) = ⊎_elim
    (λ (t : nat_le a.receipt.place b.receipt.place ≡ true).
    ap (λ (n : Next). Some (receipt_to_send n)) (cond-true (nat_le a.receipt.place b.receipt.place) a b t) ∙ sym (ap (λ (g : ReceiptToSend). Some g) (cond-true (nat_le a.receipt.place b.receipt.place) (receipt_to_send a) (receipt_to_send b) t)))
    (λ (t : nat_le a.receipt.place b.receipt.place ≡ false).
    ap (λ (n : Next). Some (receipt_to_send n)) (cond-false (nat_le a.receipt.place b.receipt.place) a b t) ∙ sym (ap (λ (g : ReceiptToSend). Some g) (cond-false (nat_le a.receipt.place b.receipt.place) (receipt_to_send a) (receipt_to_send b) t)))
    (cases_Bool (nat_le a.receipt.place b.receipt.place))

-- one more session was looked at
pub best_on : (best g now : Option ReceiptToSend) (a b : Option Next) → now ≡ earlier_to_send best g → g ≡ option_map receipt_to_send a → earlier_to_send now (option_map receipt_to_send b) ≡ earlier_to_send best (option_map receipt_to_send (earlier a b))
best_on best g now a b is e =
    ap (λ (o : Option ReceiptToSend). earlier_to_send o (option_map receipt_to_send b)) is ∙ of_three best g (option_map receipt_to_send b)
    ∙ ap (λ (o : Option ReceiptToSend). earlier_to_send best (earlier_to_send o (option_map receipt_to_send b))) e ∙ ap (λ (o : Option ReceiptToSend). earlier_to_send best o) (sym (of_next a b))

-- of two that stand no earlier than a place
pub both_behind : (first : ℕ) (a b : Option ReceiptToSend) → IfSome a (λ (g : ReceiptToSend). first ≤ g.receipt.place) → IfSome b (λ (g : ReceiptToSend). first ≤ g.receipt.place) → IfSome (earlier_to_send a b) (λ (g : ReceiptToSend). first ≤ g.receipt.place)
both_behind first None b h k = k
both_behind first (Some a) None h k = h
both_behind first (Some a) (Some b) h k = ⊎_elim
    (λ (l : b.receipt.place < a.receipt.place). subst (λ (g : ReceiptToSend). first ≤ g.receipt.place) (sym (other_one a b l)) k)
    (λ (l : a.receipt.place ≤ b.receipt.place). subst (λ (g : ReceiptToSend). first ≤ g.receipt.place) (sym (first_one a b l)) h)
    (cases_lt b.receipt.place a.receipt.place)
