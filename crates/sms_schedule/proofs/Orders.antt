-- Precedence is an order of what waits. What it does not tell apart is of one message and number.
use Rattle.std.proofs.Common.{◌≡◌, ℕ, ◌==◌, Bool, true, false, ap, ◌∙◌, ⊎_elim, arith}
use Rattle.std.specs.Prelude.{nat_lt, not, if◌then◌else◌}
use Rattle.std.proofs.lemmas.Bool.{cases_eq}
use Rattle.std.proofs.lemmas.Bool.Decides.{nat_tests}
use Rattle.sms_rows.specs.table.Keys.{pair_key}
use Rattle.sms_centre_rows.specs.declared.waiting.queued_part.QueuedPart.{QueuedPart}
use Rattle.sms_centre_rows.specs.waiting.Keys.{queued_key}
use Rattle.sms_centre_rows.specs.waiting.Waiting.{precedes}

pub precedes-self : (a : QueuedPart) → precedes a a ≡ false
precedes-self a = grind (arith, nat_tests)

pub precedes-flip : (a b : QueuedPart) → precedes b a ≡ true → precedes a b ≡ false
precedes-flip a b h = grind (arith, nat_tests)

-- ---- what comes no later than what comes no later than a third comes no later than that

-- where one number is tested before the rest
abbrev rises : ℕ → ℕ → Bool → Bool
rises x y rest = if not (x == y) then nat_lt x y else rest

abbrev falls : ℕ → ℕ → Bool → Bool
falls x y rest = if not (x == y) then nat_lt y x else rest

rest_rises : (x y : ℕ) (rest : Bool) → x ≡ y → rises x y rest ≡ false → rest ≡ false
rest_rises x y rest e h = grind (arith, nat_tests)

rest_falls : (x y : ℕ) (rest : Bool) → x ≡ y → falls x y rest ≡ false → rest ≡ false
rest_falls x y rest e h = grind (arith, nat_tests)

same_rises : (x y : ℕ) (rest : Bool) → x ≡ y → rest ≡ false → rises x y rest ≡ false
same_rises x y rest e h = grind (arith, nat_tests)

same_falls : (x y : ℕ) (rest : Bool) → x ≡ y → rest ≡ false → falls x y rest ≡ false
same_falls x y rest e h = grind (arith, nat_tests)

apart_rises : (x y z : ℕ) (r s t : Bool) → ¬ (y ≡ x) → rises y x r ≡ false → rises z y s ≡ false → rises z x t ≡ false
apart_rises x y z r s t e h k = grind (arith, nat_tests)

apart_falls : (x y z : ℕ) (r s t : Bool) → ¬ (y ≡ x) → falls y x r ≡ false → falls z y s ≡ false → falls z x t ≡ false
apart_falls x y z r s t e h k = grind (arith, nat_tests)

behind_rises : (x y z : ℕ) (s t : Bool) → y ≡ x → ¬ (z ≡ y) → rises z y s ≡ false → rises z x t ≡ false
behind_rises x y z s t e f k = grind (arith, nat_tests)

behind_falls : (x y z : ℕ) (s t : Bool) → y ≡ x → ¬ (z ≡ y) → falls z y s ≡ false → falls z x t ≡ false
behind_falls x y z s t e f k = grind (arith, nat_tests)

through_rises : (x y z : ℕ) (r s t : Bool) → rises y x r ≡ false → rises z y s ≡ false → (r ≡ false → s ≡ false → t ≡ false) → rises z x t ≡ false
through_rises x y z r s t h k rest = ⊎_elim
    (λ (e : y ≡ x). ⊎_elim
    (λ (f : z ≡ y). same_rises z x t (f ∙ e) (rest (rest_rises y x r e h) (rest_rises z y s f k)))
    (λ (f : z ≡ y → ⊥). behind_rises x y z s t e f k)
    (cases_eq z y))
    (λ (e : y ≡ x → ⊥). apart_rises x y z r s t e h k)
    (cases_eq y x)

through_falls : (x y z : ℕ) (r s t : Bool) → falls y x r ≡ false → falls z y s ≡ false → (r ≡ false → s ≡ false → t ≡ false) → falls z x t ≡ false
through_falls x y z r s t h k rest = ⊎_elim
    (λ (e : y ≡ x). ⊎_elim
    (λ (f : z ≡ y). same_falls z x t (f ∙ e) (rest (rest_falls y x r e h) (rest_falls z y s f k)))
    (λ (f : z ≡ y → ⊥). behind_falls x y z s t e f k)
    (cases_eq z y))
    (λ (e : y ≡ x → ⊥). apart_falls x y z r s t e h k)
    (cases_eq y x)

abbrev by_number : QueuedPart → QueuedPart → Bool
by_number a b = nat_lt a.number b.number

abbrev by_id : QueuedPart → QueuedPart → Bool
by_id a b = rises a.id b.id (by_number a b)

abbrev by_due : QueuedPart → QueuedPart → Bool
by_due a b = rises a.due b.due (by_id a b)

number_later : (a b c : QueuedPart) → by_number b a ≡ false → by_number c b ≡ false → by_number c a ≡ false
number_later a b c h k = grind (arith, nat_tests)

id_later : (a b c : QueuedPart) → by_id b a ≡ false → by_id c b ≡ false → by_id c a ≡ false
id_later a b c h k = through_rises a.id b.id c.id (by_number b a) (by_number c b) (by_number c a) h k (number_later a b c)

due_later : (a b c : QueuedPart) → by_due b a ≡ false → by_due c b ≡ false → by_due c a ≡ false
due_later a b c h k = through_rises a.due b.due c.due (by_id b a) (by_id c b) (by_id c a) h k (id_later a b c)

pub no_later : (a b c : QueuedPart) → precedes b a ≡ false → precedes c b ≡ false → precedes c a ≡ false
no_later a b c h k = through_falls a.priority b.priority c.priority (by_due b a) (by_due c b) (by_due c a) h k (due_later a b c)

same_id : (a b : QueuedPart) → precedes a b ≡ false → precedes b a ≡ false → a.id ≡ b.id
same_id a b h k = grind (arith, nat_tests)

same_number : (a b : QueuedPart) → precedes a b ≡ false → precedes b a ≡ false → a.number ≡ b.number
same_number a b h k = grind (arith, nat_tests)

-- two neither of which precedes the other have one key
pub one_key : (a b : QueuedPart) → precedes a b ≡ false → precedes b a ≡ false → queued_key a ≡ queued_key b
one_key a b h k = ap (λ (x : ℕ). pair_key x a.number) (same_id a b h k) ∙ ap (pair_key b.id) (same_number a b h k)
