-- What the messages that go lay claim to is the same whatever happens to the others.
use Rattle.std.proofs.Common.{◌≡◌, ℕ, ◌<◌, ◌≤◌, List, [], ◌∷◌, ◌++◌, Bool, true, false, refl, sym, ◌∙◌, ap, inl, inr, ⊎_elim}
use Rattle.std.specs.Prelude.{◌==◌, if◌then◌else◌}
use Rattle.std.proofs.lemmas.Bool.{cases_Bool, cases_eq, cases_lt, ne_eqb}
use Rattle.sms_base.specs.Among.{Among}
use Rattle.sms_rows.specs.table.Table.{insert, put, without}
use Rattle.sms_rows.proofs.table.Tables.{insert_behind, insert_here, without_behind, without_here}
use Rattle.sms_centre_rows.specs.declared.messages.message.MessageRow.{MessageRow}
use Rattle.sms_centre_rows.specs.declared.messages.part.PartRow.{PartRow}
use Rattle.sms_centre_rows.specs.declared.messages.claim.Claim.{Claim}
use Rattle.sms_centre_rows.specs.messages.Bars.{claims_of, claims_of_header, claims_of_parts, claims_of_split}
use Rattle.sms_centre_rows.specs.messages.Messages.{message_key, part_key, part_reaching}
use Rattle.sms_centre_rows.specs.messages.SplitReferences.{unless_split, wide_in}
use Rattle.sms_centre_rows.specs.declared.waiting.progress.Progress.{Progress}
use Rattle.sms_centre_rows.specs.waiting.Revisions.{amended}
use Rattle.sms_centre_spec.specs.forgetting.Forgetting.{claims_left}

-- ---- of the parts of one message

abbrev one_part : MessageRow → PartRow → List Claim
one_part m p = if p.id == m.id then claims_of_header m (unless_split m.split_reference (wide_in p.key)) else []

other_part : (m : MessageRow) (p : PartRow) (ps : List PartRow) → ¬ (p.id ≡ m.id) → claims_of_parts m (p ∷ ps) ≡ claims_of_parts m ps
other_part m p ps ne =
    ap (λ (b : Bool). (if b then claims_of_header m (unless_split m.split_reference (wide_in p.key)) else []) ++ claims_of_parts m ps) (ne_eqb p.id m.id ne)

parts_without : (m : MessageRow) (k : ℕ) (ps : List PartRow) → ((p : PartRow) → Among p ps → part_key p ≡ k → ¬ (p.id ≡ m.id))
    → claims_of_parts m (without part_key k ps) ≡ claims_of_parts m ps
parts_without m k [] f = refl
parts_without m k (p ∷ ps) f = ⊎_elim
    (λ (e : part_key p ≡ k).
    ap (λ (l : List PartRow). claims_of_parts m l) (without_here part_key k p ps e) ∙ parts_without m k ps (λ x a. f x (inr a)) ∙ sym (other_part m p ps (f p (inl refl) e)))
    (λ (e : part_key p ≡ k → ⊥).
    ap (λ (l : List PartRow). claims_of_parts m l) (without_behind part_key k p ps e) ∙ ap (λ (l : List Claim). one_part m p ++ l) (parts_without m k ps (λ x a. f x (inr a))))
    (cases_eq (part_key p) k)

parts_insert : (m : MessageRow) (x : PartRow) (ps : List PartRow) → ¬ (x.id ≡ m.id) → claims_of_parts m (insert part_key x ps) ≡ claims_of_parts m ps
parts_insert m x [] ne = other_part m x [] ne
parts_insert m x (p ∷ ps) ne = ⊎_elim
    (λ (l : part_key x < part_key p). ap (λ (l : List PartRow). claims_of_parts m l) (insert_here part_key x p ps l) ∙ other_part m x (p ∷ ps) ne)
    (λ (l : part_key p ≤ part_key x).
    ap (λ (l : List PartRow). claims_of_parts m l) (insert_behind part_key x p ps l) ∙ ap (λ (l : List Claim). one_part m p ++ l) (parts_insert m x ps ne))
    (cases_lt (part_key x) (part_key p))

-- a part of another message is put
pub parts_put : (m : MessageRow) (x : PartRow) (ps : List PartRow) → ¬ (x.id ≡ m.id) → ((p : PartRow) → Among p ps → part_key p ≡ part_key x → ¬ (p.id ≡ m.id))
    → claims_of_parts m (put part_key x ps) ≡ claims_of_parts m ps
parts_put m x ps ne f = parts_insert m x (without part_key (part_key x) ps) ne ∙ parts_without m (part_key x) ps f

-- a part is so far
pub parts_amended : (m : MessageRow) (k : ℕ) (q : Progress) (ps : List PartRow) → claims_of_parts m (amended part_key part_reaching k q ps) ≡ claims_of_parts m ps
parts_amended m k q [] = refl
parts_amended m k q (p ∷ ps) =
    ap (λ (l : List Claim). l ++ claims_of_parts m (amended part_key part_reaching k q ps)) (either (part_key p == k))
    ∙ ap (λ (l : List Claim). one_part m p ++ l) (parts_amended m k q ps)
  where
    either : (b : Bool) → one_part m (if b then part_reaching q p else p) ≡ one_part m p
    either true = refl
    either false = refl

module _ (goes : ℕ → Bool) where
  -- ---- of a message that stays

  stays_out : (m : MessageRow) (ms : List MessageRow) (ps : List PartRow) → goes m.id ≡ false → claims_left goes (m ∷ ms) ps ≡ claims_left goes ms ps
  stays_out m ms ps s = ap (λ (b : Bool). (if b then claims_of m ps else []) ++ claims_left goes ms ps) s

  left_without : (n : ℕ) (ms : List MessageRow) (ps : List PartRow) → goes n ≡ false → claims_left goes (without message_key n ms) ps ≡ claims_left goes ms ps
  left_without n [] ps s = refl
  left_without n (m ∷ ms) ps s = ⊎_elim
      (λ (e : m.id ≡ n).
      ap (λ (l : List MessageRow). claims_left goes l ps) (without_here message_key n m ms e) ∙ left_without n ms ps s ∙ sym (stays_out m ms ps (ap goes e ∙ s)))
      (λ (e : m.id ≡ n → ⊥).
      ap (λ (l : List MessageRow). claims_left goes l ps) (without_behind message_key n m ms e)
      ∙ ap (λ (l : List Claim). (if goes m.id then claims_of m ps else []) ++ l) (left_without n ms ps s))
      (cases_eq m.id n)

  left_insert : (m : MessageRow) (ms : List MessageRow) (ps : List PartRow) → goes m.id ≡ false → claims_left goes (insert message_key m ms) ps ≡ claims_left goes ms ps
  left_insert m [] ps s = stays_out m [] ps s
  left_insert m (x ∷ xs) ps s = ⊎_elim
      (λ (l : m.id < x.id). ap (λ (l : List MessageRow). claims_left goes l ps) (insert_here message_key m x xs l) ∙ stays_out m (x ∷ xs) ps s)
      (λ (l : x.id ≤ m.id).
      ap (λ (l : List MessageRow). claims_left goes l ps) (insert_behind message_key m x xs l)
      ∙ ap (λ (l : List Claim). (if goes x.id then claims_of x ps else []) ++ l) (left_insert m xs ps s))
      (cases_lt m.id x.id)

  pub left_message : (m : MessageRow) (ms : List MessageRow) (ps : List PartRow) → goes m.id ≡ false → claims_left goes (put message_key m ms) ps ≡ claims_left goes ms ps
  left_message m ms ps s = left_insert m (without message_key m.id ms) ps s ∙ left_without m.id ms ps s

  -- ---- where the parts of those that go lay claim to the same

  pub left_parts : (ms : List MessageRow) (ps qs : List PartRow) → ((m : MessageRow) → goes m.id ≡ true → claims_of_parts m qs ≡ claims_of_parts m ps)
      → claims_left goes ms qs ≡ claims_left goes ms ps
  left_parts [] ps qs f = refl
  left_parts (m ∷ ms) ps qs f = ⊎_elim
      (λ (t : goes m.id ≡ true).
      ap (λ (l : List Claim). (if goes m.id then claims_of_split m m.split_reference ++ l else []) ++ claims_left goes ms qs) (f m t)
      ∙ ap (λ (l : List Claim). (if goes m.id then claims_of m ps else []) ++ l) (left_parts ms ps qs f))
      (λ (t : goes m.id ≡ false). stays_out m ms qs t ∙ left_parts ms ps qs f ∙ sym (stays_out m ms ps t))
      (cases_Bool (goes m.id))
