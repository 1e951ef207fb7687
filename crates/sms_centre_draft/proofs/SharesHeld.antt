-- What waits for a handset is the account's or another's.
use Rattle.std.proofs.Common.{◌≡◌, ℕ, ◌+◌, ◌-◌, ◌*◌, ◌≤◌, nat_lt, List, [], ◌∷◌, length, Bool, true, false, refl, sym, ◌∙◌, ap, arith}
use Rattle.std.specs.Prelude.{if◌then◌else◌}
use Rattle.std.proofs.lemmas.Bool.Decides.{nat_tests}
use Rattle.sms_centre_messages.specs.references.Counts.{one_if}
use Rattle.sms_centre_rows.specs.declared.messages.message.MessageRow.{MessageRow}
use Rattle.sms_centre_rows.specs.messages.Messages.{message_at}
use Rattle.sms_centre_rows.specs.declared.waiting.queued_part.QueuedPart.{QueuedPart}
use Rattle.sms_centre_spec.specs.Shares.{held_by, held_by_others, is_of_account}
use Rattle.sms_centre_draft.specs.Room.{would_hold_too_much}

-- an own one is counted in one of two numbers
apart : (b : Bool) (own others all : ℕ) → own + others ≡ all → (if b then 1 + own else own) + (if b then others else 1 + others) ≡ 1 + all
apart true own others all e = omega (arith, e)
apart false own others all e = omega (arith, e)

pub all_held : (account : List ℕ) (ms : List MessageRow) (waiting : List QueuedPart) → held_by account ms waiting + held_by_others account ms waiting ≡ length waiting
all_held account ms [] = refl
all_held account ms (l ∷ ls) =
    let rest = apart (is_of_account account (message_at l.id ms)) (held_by account ms ls) (held_by_others account ms ls) (length ls) (all_held account ms ls) in
    let one : 1 + length ls ≡ length (l ∷ ls) = omega arith in
    rest ∙ one

not_less : (a b : ℕ) → b ≤ a → nat_lt a b ≡ false
not_less a b e = grind (arith, nat_tests)

-- with those that come half of them or fewer are held
pub few_held : (account : List ℕ) (ms : List MessageRow) (waiting : List QueuedPart) (parts all : ℕ) → all ≡ length waiting → all + parts ≤ 128 → false ≡ would_hold_too_much account parts ms waiting
few_held account ms waiting parts all counts few =
    let own : ℕ = held_by account ms waiting in
    let others : ℕ = held_by_others account ms waiting in
    let both = all_held account ms waiting in
    sym (not_less (256 - others) (2 * (own + parts)) (omega (arith, counts, few, both)))

-- the count of all and of its own tells
pub many_held : (account : List ℕ) (ms : List MessageRow) (waiting : List QueuedPart) (parts own all : ℕ) (b : Bool) → own ≡ held_by account ms waiting → all ≡ length waiting
    → b ≡ nat_lt (256 - (all - own)) (2 * (own + parts)) → b ≡ would_hold_too_much account parts ms waiting
many_held account ms waiting parts own all b is counts tells =
    let both = all_held account ms waiting in
    let others : all - own ≡ held_by_others account ms waiting = omega (arith, both, is, counts) in
    tells ∙ ap (λ (n : ℕ). nat_lt (256 - n) (2 * (own + parts))) others ∙ ap (λ (n : ℕ). nat_lt (256 - held_by_others account ms waiting) (2 * (n + parts))) is

-- ---- one more is looked at

held_with : (b : Bool) (before own : ℕ) → before + one_if b + own ≡ before + (if b then 1 + own else own)
held_with true before own = omega arith
held_with false before own = omega arith

pub held_next : (account : List ℕ) (ms : List MessageRow) (waiting rest now : List QueuedPart) (l : QueuedPart) (b : Bool) (before count : ℕ) → now ≡ l ∷ rest → b ≡ is_of_account account (message_at l.id ms)
    → count ≡ one_if b → before + held_by account ms now ≡ held_by account ms waiting → before + count + held_by account ms rest ≡ held_by account ms waiting
held_next account ms waiting rest now l b before count first is counts so_far =
    ap (λ (n : ℕ). before + n + held_by account ms rest) counts ∙ held_with b before (held_by account ms rest)
    ∙ ap (λ (x : Bool). before + (if x then 1 + held_by account ms rest else held_by account ms rest)) is
    ∙ ap (λ (ls : List QueuedPart). before + held_by account ms ls) (sym first) ∙ so_far
