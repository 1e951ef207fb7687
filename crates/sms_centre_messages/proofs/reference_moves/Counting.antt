-- How many rows there can be: a number of a message has ten digits, and a message has few parts.
use Rattle.std.proofs.Common.{◌≡◌, ℕ, ◌+◌, ◌*◌, ◌<◌, ◌≤◌, List, [], ◌∷◌, length, inl, inr, refl, arith}
use Rattle.sms_base.specs.Among.{Among}
use Rattle.sms_rows.specs.table.Table.{Rises}
use Rattle.sms_centre_rows.specs.declared.messages.message.MessageRow.{MessageRow}
use Rattle.sms_centre_rows.specs.declared.messages.part.PartRow.{PartRow}
use Rattle.sms_centre_rows.specs.declared.messages.priority.PriorityRow.{PriorityRow}
use Rattle.sms_centre_rows.specs.messages.Messages.{message_key, part_key}
use Rattle.sms_centre_rows.specs.messages.SoundMessages.{SoundMessages}
use Rattle.sms_rows.proofs.table.Tables.{found_among, found_key}
use Rattle.sms_centre_spec.proofs.SteadyTimes.{above_among}

-- ---- rows whose keys lie below a bound

between : {A : Type 0} (key : A → ℕ) (low high : ℕ) (xs : List A) → Rises key xs → low ≤ high → ((x : A) → Among x xs → low ≤ key x) → ((x : A) → Among x xs → key x < high) → length xs + low ≤ high
between key low high [] rises some above below = omega (arith, some)
between key low high (x ∷ xs) rises some above below =
    let first = above x (inl refl) in
    let last = below x (inl refl) in
    let rest = between key (key x + 1) high xs rises.1 (omega (arith, last))
    (λ y a. let l = above_among key (key x) y xs rises.0 a in omega (arith, l))
    (λ y a. below y (inr a)) in
    omega (arith, first, rest)

pub rows_below : {A : Type 0} (key : A → ℕ) (high : ℕ) (xs : List A) → Rises key xs → ((x : A) → Among x xs → key x < high) → length xs ≤ high
rows_below key high xs rises below =
    let l = between key 0 high xs rises (omega arith) (λ x a. omega arith) below in omega (arith, l)

-- ---- of sound rows

pub few_messages : (ms : List MessageRow) (ps : List PartRow) (qs : List PriorityRow) → SoundMessages ms ps qs → length ms ≤ 10000000000
few_messages ms ps qs s =
    rows_below message_key 10000000000 ms s.message_keys (λ m a. let l = (s.each_message m a).id.short in omega (arith, l))

pub few_parts : (ms : List MessageRow) (ps : List PartRow) (qs : List PriorityRow) → SoundMessages ms ps qs → length ps ≤ 2560000000000
few_parts ms ps qs s =
    rows_below part_key 2560000000000 ps s.part_keys
    (λ p a.
    let part = s.each_part p a in
    let few = part.few in
    let own = found_key message_key p.id part.message.0 ms part.message.1.0 in
    let high = (s.each_message part.message.0 (found_among message_key p.id part.message.0 ms part.message.1.0)).id.short in
    omega (arith, few, own, high))
