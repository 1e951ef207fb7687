-- Texts that the owner wants to write, judged by the number of their parts.
use Rattle.std.proofs.Common.{◌≡◌, ℕ, ◌+◌, ◌≤◌, List, length, Bool, true, false, cond, Result, Ok, Err, refl, sym, ◌∙◌, ap, subst}
use Rattle.std.specs.Prelude.{nat_le}
use Rattle.std.proofs.lemmas.Bool.{cond-true, cond-false, leb-true}
use Rattle.sms_base.specs.Address.{IsAddress, address_of}
use Rattle.sms_base.specs.declared.address.Address.{Address}
use Rattle.sms_base.specs.declared.address_error.AddressError.{AddressError}
use Rattle.sms_concat.specs.declared.content.Part.{Part}
use Rattle.sms_concat.specs.declared.split_error.SplitError.{SplitError}
use Rattle.sms_concat.specs.Counting.{counted}
use Rattle.sms_concat.specs.Splitting.{split_of}
use Rattle.sms_concat.specs.TextContent.{content_of_text}
use Rattle.sms_handset.specs.declared.refusal.Refusal.{Refusal}
use Rattle.sms_handset.specs.declared.refusal.Refusal.TheVariants.{Destination, OutboxFull, TooManyParts}
use Rattle.sms_handset_draft.specs.Draft.{Core, Draft, draft_of}
use Rattle.sms_handset.specs.HandsetEvent.{acted, wrote}
use Rattle.sms_handset_draft.specs.Outbox.{follow}
use Rattle.sms_handset.specs.OwnersActs.{JudgesText, fits_outbox, write, write_split, write_to, written}

-- ---- how many parts

record HasParts (r : Result (List Part) SplitError) (n : ℕ) : Type 0 where
  parts : List Part
  are : r ≡ Ok parts
  count : length parts ≡ n

has_parts : (r : Result (List Part) SplitError) (n : ℕ) → Ok n ≡ counted r → HasParts r n
has_parts (Ok parts) n e = let same : n ≡ length parts = cc in record { parts = parts; are = refl; count = sym same }
has_parts (Err fault) n e = absurd cc

has_none : (r : Result (List Part) SplitError) (fault : SplitError) → Err fault ≡ counted r → r ≡ Err fault
has_none (Ok parts) fault e = absurd cc
has_none (Err other) fault e = let same : fault ≡ other = cc in ap (λ (f : SplitError). let r : Result (List Part) SplitError = Err f in r) (sym same)

-- ---- refusals, in their order

pub too_many : (text to : List ℕ) (d : Draft) (fault : SplitError) → Err fault ≡ counted (split_of (content_of_text text) d.rows.counters.concat_reference) → JudgesText (Err TooManyParts) text to d
too_many text to d fault e report =
    let r = split_of (content_of_text text) d.rows.counters.concat_reference in
    ap (λ (x : Result (List Part) SplitError). write_split to report x d) (has_none r fault e)

sent_to : (text to : List ℕ) (report : Bool) (d : Draft) (parts : List Part) (a : Result Address AddressError) → split_of (content_of_text text) d.rows.counters.concat_reference ≡ Ok parts
    → address_of 1 1 to ≡ a → write text to report d ≡ write_to report parts a d
sent_to text to report d parts a e f = ap (λ (x : Result (List Part) SplitError). write_split to report x d) e ∙ ap (λ (x : Result Address AddressError). write_to report parts x d) f

pub no_address : (text to : List ℕ) (d : Draft) (n : ℕ) (fault : AddressError) → Ok n ≡ counted (split_of (content_of_text text) d.rows.counters.concat_reference)
    → address_of 1 1 to ≡ Err fault → JudgesText (Err (Destination fault)) text to d
no_address text to d n fault e f report =
    let h = has_parts (split_of (content_of_text text) d.rows.counters.concat_reference) n e in
    sent_to text to report d h.parts (Err fault) h.are f

pub no_place : (text to : List ℕ) (d : Draft) (n : ℕ) (destination : Address) → Ok n ≡ counted (split_of (content_of_text text) d.rows.counters.concat_reference)
    → address_of 1 1 to ≡ Ok destination → fits_outbox n d ≡ false → JudgesText (Err OutboxFull) text to d
no_place text to d n destination e f g report =
    let h = has_parts (split_of (content_of_text text) d.rows.counters.concat_reference) n e in
    let x : Result Draft Refusal = Err OutboxFull in
    let y : Result Draft Refusal = Ok (written destination report h.parts d) in
    sent_to text to report d h.parts (Ok destination) h.are f
    ∙ cond-false (fits_outbox (length h.parts) d) y x (ap (λ (k : ℕ). fits_outbox k d) h.count ∙ g)

-- ---- and what is not refused

numbers_left : (n outbox next : ℕ) → cond (nat_le (outbox + n) 20) (nat_le (next + n) 4294967295) false ≡ true → next + n ≤ 4294967295
numbers_left n outbox next e = by (nat_le (outbox + n) 20) e
  where
    by : (b : Bool) → cond b (nat_le (next + n) 4294967295) false ≡ true → next + n ≤ 4294967295
    by true t = leb-true (next + n) 4294967295 t
    by false t = absurd cc

written_to : (text to : List ℕ) (report : Bool) (d : Draft) (parts : List Part) (destination : Address) → split_of (content_of_text text) d.rows.counters.concat_reference ≡ Ok parts
    → address_of 1 1 to ≡ Ok destination → fits_outbox (length parts) d ≡ true → write text to report d ≡ Ok (written destination report parts d)
written_to text to report d parts destination e f fits =
    let x : Result Draft Refusal = Err OutboxFull in
    let y : Result Draft Refusal = Ok (written destination report parts d) in
    sent_to text to report d parts (Ok destination) e f ∙ cond-true (fits_outbox (length parts) d) y x fits

pub goes : (text to : List ℕ) (d : Draft) (n : ℕ) (destination : Address) → Ok n ≡ counted (split_of (content_of_text text) d.rows.counters.concat_reference)
    → address_of 1 1 to ≡ Ok destination → IsAddress destination → fits_outbox n d ≡ true → JudgesText (Ok destination) text to d
goes text to d n destination e f a g =
    let h = has_parts (split_of (content_of_text text) d.rows.counters.concat_reference) n e in
    let fits : fits_outbox (length h.parts) d ≡ true = ap (λ (k : ℕ). fits_outbox k d) h.count ∙ g in
    let left = numbers_left (length h.parts) (length d.rows.outbox) d.rows.counters.entry fits in
    (a, (h.parts, (h.are, (left, λ report. written_to text to report d h.parts destination h.are f fits))))

-- ---- what is done of it

same_parts : (r : Result (List Part) SplitError) (xs ys : List Part) → r ≡ Ok xs → r ≡ Ok ys → xs ≡ ys
same_parts r xs ys e f = let both : Ok xs ≡ Ok ys = sym e ∙ f in cc

pub numbers_for : (text to : List ℕ) (d : Draft) (destination : Address) (parts : List Part) → JudgesText (Ok destination) text to d
    → split_of (content_of_text text) d.rows.counters.concat_reference ≡ Ok parts → d.rows.counters.entry + length parts ≤ 4294967295
numbers_for text to d destination parts j e =
    subst (λ (ps : List Part). d.rows.counters.entry + length ps ≤ 4294967295)
    (same_parts (split_of (content_of_text text) d.rows.counters.concat_reference) j.1.0 parts j.1.1.0 e) j.1.1.1.0

-- an event that is not refused
pub is_done : (text to : List ℕ) (report : Bool) (c : Core) (destination : Address) → JudgesText (Ok destination) text to (draft_of c) → (d : Draft) × (wrote text to report c ≡ Ok d)
is_done text to report c destination j =
    (follow (written destination report j.1.0 (draft_of c)), ap (λ (r : Result Draft Refusal). acted r) (j.1.1.1.1 report))

pub refuses : (text to : List ℕ) (report : Bool) (c : Core) (refusal : Refusal) → JudgesText (Err refusal) text to (draft_of c) → wrote text to report c ≡ Err refusal
refuses text to report c refusal j = ap (λ (r : Result Draft Refusal). acted r) (j report)

-- the draft that it leads to, with what follows
pub is_written : (text to : List ℕ) (report : Bool) (c : Core) (destination : Address) (o e : Draft) → JudgesText (Ok destination) text to (draft_of c) → o ≡ draft_of c
    → ((parts : List Part) → split_of (content_of_text text) o.rows.counters.concat_reference ≡ Ok parts → e ≡ follow (written destination report parts o))
    → acted (write text to report o) ≡ Ok e
is_written text to report c destination o e j p w =
    let at : split_of (content_of_text text) o.rows.counters.concat_reference ≡ Ok j.1.0 = ap (λ (z : Draft). split_of (content_of_text text) z.rows.counters.concat_reference) p ∙ j.1.1.0 in
    let done : e ≡ follow (written destination report j.1.0 (draft_of c)) = w j.1.0 at ∙ ap (λ (z : Draft). follow (written destination report j.1.0 z)) p in
    ap (λ (z : Draft). acted (write text to report z)) p ∙ ap (λ (r : Result Draft Refusal). acted r) (j.1.1.1.1 report) ∙ ap (λ (z : Draft). let r : Result Draft Refusal = Ok z in r) (sym done)
