-- A reference that is given is free no more, and all others stay as free as they were.
use Rattle.std.proofs.Common.{◌≡◌, ◌⊎◌, ℕ, zero, suc, ◌+◌, ◌-◌, ◌<◌, ◌≤◌, List, [], ◌∷◌, Bool, true, false, Option, Some, None, refl, sym, ◌∙◌, ap, ⊎_elim, cond, eq-eqb, arith}
use Rattle.std.specs.Int.{from_bool}
use Rattle.std.specs.Prelude.{◌%◌, ◌==◌, ◌&&◌, ◌||◌, not}
use Rattle.std.proofs.lemmas.Bool.{cases_Bool, cases_eq, cases_lt, cases_order, cond-false, cond-true, ne_eqb, or_left}
use Rattle.sms_rows.specs.table.Keys.{pair_key}
use Rattle.sms_rows.specs.table.Table.{insert, put, row_at, without}
use Rattle.sms_rows.proofs.table.Tables.{insert_behind, insert_here, row_at_put_other, row_behind, row_here, without_behind}
use Rattle.sms_centre_rows.specs.declared.waiting.handset.HandsetRow.{HandsetRow}
use Rattle.sms_centre_rows.specs.declared.waiting.queued_part.QueuedPart.{QueuedPart}
use Rattle.sms_centre_rows.specs.declared.waiting.reference.ReferenceRow.{ReferenceRow}
use Rattle.sms_centre_queue.specs.queue.FreeReferences.{free_references, passing_below}
use Rattle.sms_centre_rows.specs.waiting.Keys.{queued_key, reference_key}
use Rattle.sms_centre_rows.specs.waiting.DeliveryQueueRows.{RepresentsGiven}
use Rattle.sms_centre_rows.specs.waiting.References.{first_passing, following, given_row, handset_at, is_free, is_held, is_late, mentioned, next_reference, or_new_handset, place_after}
use Rattle.sms_centre_rows.specs.waiting.SoundAllocations.{SoundAllocations, reference_at}
use Rattle.sms_centre_rows.proofs.waiting.ReferencesRepresented.{free_alike, represented_at}
use Rattle.sms_centre_rows.proofs.waiting.WaitingSound.{next_is_free}

-- ---- counted

pub below_with : (passes : ℕ → Bool) (n : ℕ) → passes n ≡ true → passing_below passes (suc n) ≡ 1 + passing_below passes n
unfolding passing_below
below_with passes n e = cond-true (passes n) (1 + passing_below passes n) (passing_below passes n) e

pub below_without : (passes : ℕ → Bool) (n : ℕ) → passes n ≡ false → passing_below passes (suc n) ≡ passing_below passes n
unfolding passing_below
below_without passes n e = cond-false (passes n) (1 + passing_below passes n) (passing_below passes n) e

pub below_none : (passes : ℕ → Bool) → passing_below passes 0 ≡ 0
unfolding passing_below
below_none passes = refl

-- one more is looked at
pub below_next : (passes : ℕ → Bool) (n k one : ℕ) (b : Bool) → b ≡ passes n → one ≡ from_bool b → k ≡ passing_below passes n → k + one ≡ passing_below passes (n + 1)
below_next passes n k one true is counts so_far =
    let value : from_bool true ≡ 1 = refl in
    let next : n + 1 ≡ suc n = omega arith in
    let more : k + one ≡ 1 + passing_below passes n = omega (arith, so_far, counts, value) in
    more ∙ sym (below_with passes n (sym is)) ∙ ap (passing_below passes) (sym next)
below_next passes n k one false is counts so_far =
    let value : from_bool false ≡ 0 = refl in
    let next : n + 1 ≡ suc n = omega arith in
    let same : k + one ≡ passing_below passes n = omega (arith, so_far, counts, value) in
    same ∙ sym (below_without passes n (sym is)) ∙ ap (passing_below passes) (sym next)

-- more numbers, no fewer that pass
pub below_grows : (passes : ℕ → Bool) (m n : ℕ) → m ≤ n → passing_below passes m ≤ passing_below passes n
below_grows passes m zero few = let same : m ≡ 0 = omega (arith, few) in let e = ap (passing_below passes) same in omega (arith, e)
below_grows passes m (suc n) few = ⊎_elim
    (λ (low : m < suc n).
    let before = below_grows passes m n (omega (arith, low)) in
    ⊎_elim
    (λ (t : passes n ≡ true). let e = below_with passes n t in omega (arith, e, before))
    (λ (t : passes n ≡ false). let e = below_without passes n t in omega (arith, e, before))
    (cases_Bool (passes n)))
    (λ (high : suc n ≤ m). let same : m ≡ suc n = omega (arith, few, high) in let e = ap (passing_below passes) same in omega (arith, e))
    (cases_lt m (suc n))

pub below_alike : (p q : ℕ → Bool) (n : ℕ) → ((x : ℕ) → x < n → p x ≡ q x) → passing_below p n ≡ passing_below q n
unfolding passing_below
below_alike p q zero same = refl
below_alike p q (suc n) same =
    ap (λ (b : Bool). cond b (1 + passing_below p n) (passing_below p n)) (same n (omega arith))
    ∙ ap (λ (k : ℕ). cond (q n) (1 + k) k) (below_alike p q n (λ x low. same x (omega (arith, low))))

none_below : (p : ℕ → Bool) (n : ℕ) → ((x : ℕ) → x < n → p x ≡ false) → passing_below p n ≡ 0
none_below p zero none = below_none p
none_below p (suc n) none = below_without p n (none n (omega arith)) ∙ none_below p n (λ x low. none x (omega (arith, low)))

-- one of them passes no more
one_fewer : (p q : ℕ → Bool) (k n : ℕ) → k < n → p k ≡ true → q k ≡ false → ((x : ℕ) → ¬ (x ≡ k) → x < n → p x ≡ q x) → passing_below p n ≡ 1 + passing_below q n
one_fewer p q k zero low was is same = absurd (omega (arith, low))
one_fewer p q k (suc n) low was is same = ⊎_elim
    (λ (e : k ≡ n).
    let plus : passing_below p (suc n) ≡ 1 + passing_below p n = below_with p n (ap p (sym e) ∙ was) in
    let less : passing_below q (suc n) ≡ passing_below q n = below_without q n (ap q (sym e) ∙ is) in
    let rest : passing_below p n ≡ passing_below q n = below_alike p q n (λ x l. same x (λ f. omega (arith, f, e, l)) (omega (arith, l))) in
    omega (arith, plus, less, rest))
    (λ (other : (k < n) ⊎ (n < k)). ⊎_elim
    (λ (l : k < n).
    let before : passing_below p n ≡ 1 + passing_below q n = one_fewer p q k n l was is (λ x d m. same x d (omega (arith, m))) in
    let here : p n ≡ q n = same n (λ f. omega (arith, f, l)) (omega arith) in
    ⊎_elim
    (λ (t : q n ≡ true).
    let plus : passing_below p (suc n) ≡ 1 + passing_below p n = below_with p n (here ∙ t) in
    let also : passing_below q (suc n) ≡ 1 + passing_below q n = below_with q n t in
    omega (arith, plus, also, before))
    (λ (t : q n ≡ false).
    let less : passing_below p (suc n) ≡ passing_below p n = below_without p n (here ∙ t) in
    let also : passing_below q (suc n) ≡ passing_below q n = below_without q n t in
    omega (arith, less, also, before))
    (cases_Bool (q n)))
    (λ (h : n < k). absurd (omega (arith, h, low)))
    other)
    (cases_order k n)

-- ---- where none is next, none is free

none_passes : (p : ℕ → Bool) (turns r k : ℕ) → first_passing p turns r ≡ None → r < 256 → k < turns → p ((r + k) % 256) ≡ false
unfolding first_passing
none_passes p zero r k e small low = absurd (omega (arith, low))
none_passes p (suc turns) r k e small low = ⊎_elim
    (λ (t : p r ≡ true). let bad : Some r ≡ None = sym (cond-true (p r) (Some r) (first_passing p turns (following r)) t) ∙ e in absurd cc)
    (λ (t : p r ≡ false).
    let rest : first_passing p turns (following r) ≡ None = sym (cond-false (p r) (Some r) (first_passing p turns (following r)) t) ∙ e in
    ⊎_elim
    (λ (some : 0 < k).
    let next : following r < 256 = omega arith in
    let same : (r + k) % 256 ≡ (following r + (k - 1)) % 256 = omega (arith, some) in
    ap p same ∙ none_passes p turns (following r) (k - 1) rest next (omega (arith, some, low)))
    (λ (none : k ≤ 0). let same : (r + k) % 256 ≡ r = omega (arith, small, none) in ap p same ∙ t)
    (cases_lt 0 k))
    (cases_Bool (p r))

pub none_free : (h : HandsetRow) (waiting : List QueuedPart) (rs : List ReferenceRow) (now : ℕ) → next_reference h waiting rs now ≡ None → free_references h waiting rs now ≡ 0
none_free h waiting rs now e =
    let p : ℕ → Bool = is_free h waiting rs now in
    let first : ℕ = following h.last_reference in
    let small : first < 256 = omega arith in
    none_below p 256 (λ x low.
    let k : ℕ = (x + 256 - first) % 256 in
    let turns : k < 256 = omega arith in
    let same : x ≡ (first + k) % 256 = omega (arith, low, small) in
    ap p same ∙ none_passes p 256 first k e small turns)

-- ---- one more waits

pub absent_same : (k : ℕ) (ls : List QueuedPart) → row_at queued_key k ls ≡ None → without queued_key k ls ≡ ls
absent_same k [] e = refl
absent_same k (l ∷ ls) e = ⊎_elim
    (λ (h : queued_key l ≡ k). let bad : Some l ≡ None = sym (row_here queued_key k l ls h) ∙ e in absurd cc)
    (λ (h : queued_key l ≡ k → ⊥). without_behind queued_key k l ls h ∙ ap (λ (r : List QueuedPart). l ∷ r) (absent_same k ls (sym (row_behind queued_key k l ls h) ∙ e)))
    (cases_eq (queued_key l) k)

swapped : (a b c : Bool) → (a || (b || c)) ≡ (b || (a || c))
swapped true true c = refl
swapped true false c = refl
swapped false b c = refl

held_inserted : (x : ℕ) (l : QueuedPart) (ls : List QueuedPart) → is_held x (insert queued_key l ls) ≡ ((l.reference == x) || is_held x ls)
held_inserted x l [] = refl
held_inserted x l (k ∷ ks) = ⊎_elim
    (λ (low : queued_key l < queued_key k). ap (λ (r : List QueuedPart). is_held x r) (insert_here queued_key l k ks low))
    (λ (high : queued_key k ≤ queued_key l).
    ap (λ (r : List QueuedPart). is_held x r) (insert_behind queued_key l k ks high)
    ∙ ap (λ (b : Bool). (k.reference == x) || b) (held_inserted x l ks)
    ∙ swapped (k.reference == x) (l.reference == x) (is_held x ks))
    (cases_lt (queued_key l) (queued_key k))

held_with : (x : ℕ) (l : QueuedPart) (ls : List QueuedPart) → row_at queued_key (queued_key l) ls ≡ None → is_held x (put queued_key l ls) ≡ ((l.reference == x) || is_held x ls)
held_with x l ls none = ap (λ (r : List QueuedPart). is_held x (insert queued_key l r)) (absent_same (queued_key l) ls none) ∙ held_inserted x l ls

-- it waits under the reference that was given for it
pub given_fewer : (h : HandsetRow) (waiting : List QueuedPart) (rs : List ReferenceRow) (now : ℕ) (l : QueuedPart) → next_reference h waiting rs now ≡ Some l.reference → row_at queued_key (queued_key l) waiting ≡ None
    → free_references h waiting rs now ≡ 1 + free_references (mentioned h l.reference) (put queued_key l waiting) (put reference_key (given_row h l.reference now) rs) now
given_fewer h waiting rs now l next none =
    let r : ℕ = l.reference in
    let is = next_is_free h waiting rs now r next in
    let row : ReferenceRow = given_row h r now in
    let after : List ReferenceRow = put reference_key row rs in
    let q : ℕ → Bool = is_free (mentioned h r) (put queued_key l waiting) after now in
    let held : is_held r (put queued_key l waiting) ≡ true = held_with r l waiting none ∙ or_left (r == r) (is_held r waiting) (eq-eqb r r refl) in
    let gone : q r ≡ false = ap (λ (b : Bool). not b && not (is_late now (reference_at h.place r after))) held in
    one_fewer (is_free h waiting rs now) q r 256 is.1 is.0 gone
    (λ x other small.
    let free : is_held x (put queued_key l waiting) ≡ is_held x waiting =
    held_with x l waiting none ∙ ap (λ (b : Bool). b || is_held x waiting) (ne_eqb r x (λ e. other (sym e))) in
    let apart : ¬ (reference_key row ≡ pair_key h.place x) = λ e. other (omega (arith, e)) in
    let late : reference_at h.place x after ≡ reference_at h.place x rs = row_at_put_other reference_key (pair_key h.place x) row rs apart in
    ap (λ (b : Bool). not b && not (is_late now (reference_at h.place x rs))) (sym free)
    ∙ ap (λ (o : Option ReferenceRow). not (is_held x (put queued_key l waiting)) && not (is_late now o)) (sym late))

-- ---- at a queue that represents a handset

-- as many are free
pub free_represented : (number : List ℕ) (hs : List HandsetRow) (rs given : List ReferenceRow) (waiting : List QueuedPart) (o : Option HandsetRow) (now : ℕ) → SoundAllocations hs rs → handset_at number hs ≡ o → RepresentsGiven o rs given
    → free_references (or_new_handset number (place_after 1 hs) o) waiting rs now ≡ free_references (or_new_handset number (place_after 1 hs) o) waiting given now
free_represented number hs rs given waiting o now sound at represents =
    let h : HandsetRow = or_new_handset number (place_after 1 hs) o in
    below_alike (is_free h waiting rs now) (is_free h waiting given now) 256
    (λ r small. free_alike h waiting rs given now r (represented_at number hs rs given o sound at represents r small))
