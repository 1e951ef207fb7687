-- All parts of a message are done exactly where the world has all their numbers.
use Rattle.std.proofs.Common.{◌≡◌, ℕ, zero, suc, ◌<◌, ◌≤◌, arith, List, [], ◌∷◌, Bool, true, false, refl, sym, ◌∙◌, ap, inl, inr, ⊎_elim, length}
use Rattle.std.specs.Prelude.{◌==◌, ◌&&◌, not}
use Rattle.std.proofs.lemmas.Bool.{and_from, and_parts, cases_Bool, eqb-true}
use Rattle.std.proofs.lemmas.Option.{slice_get_within}
use Rattle.sms_base.proofs.Lists.{item_at}
use Rattle.sms_base.specs.Among.{Among}
use Rattle.sms_centre_rows.specs.messages.Messages.{all_done, is_undone}
use Rattle.sms_centre_rows.specs.declared.messages.part.PartRow.{PartRow}
use Rattle.sms_tpdu.specs.declared.user_data.UserData.{UserData}
use Rattle.sms_world_model.specs.Groups.{all_numbers, is_among}
use Rattle.sms_world_model.specs.Submission.{HasPart, Submission}
use Rattle.sms_world_model.proofs.Rounds.{test_from_among}

-- a message with a part undone has one
pub some_undone : (id : ℕ) (ps : List PartRow) → all_done id ps ≡ false → (p : PartRow) × (Among p ps × (p.id ≡ id) × (p.progress.is_done ≡ false))
some_undone id [] e = absurd cc
some_undone id (p ∷ ps) e = ⊎_elim
    (λ (t : is_undone id p ≡ true). (let both = and_parts (p.id == id) (not p.progress.is_done) t in (p, (inl refl, eqb-true p.id id both.0, not_true p.progress.is_done both.1))))
    (λ (t : is_undone id p ≡ false).
    let rest = some_undone id ps (sym (ap (λ (b : Bool). not b && all_done id ps) t) ∙ e) in
    (rest.0, (inr rest.1.0, rest.1.1, rest.1.2)))
    (cases_Bool (is_undone id p))
  where
    not_true : (b : Bool) → not b ≡ true → b ≡ false
    not_true true e = absurd cc
    not_true false e = refl

-- the numbers from 1 on are all there, where each is
pub numbers_all : (n : ℕ) (ns : List ℕ) → ((k : ℕ) → 0 < k → k ≤ n → Among k ns) → all_numbers n ns ≡ true
numbers_all zero ns f = refl
numbers_all (suc n) ns f =
    and_from (is_among (suc n) ns) (all_numbers n ns) (test_from_among (suc n) ns (f (suc n) (omega arith) (omega arith))) (numbers_all n ns (λ k some l. f k some (omega (arith, l))))

-- the submission's parts have the numbers from 1 on
pub has_numbers : (u : Submission) (n : ℕ) (part : UserData) → HasPart u n part → (0 < n) × (n ≤ length u.parts)
has_numbers u zero part has = absurd cc
has_numbers u (suc n) part has = let l : n < length u.parts = slice_get_within u.parts n part has in ((let f : 0 < suc n = omega arith in f), (let g : suc n ≤ length u.parts = omega (arith, l) in g))

pub numbers_have : (u : Submission) (n : ℕ) → 0 < n → n ≤ length u.parts → (part : UserData) × HasPart u n part
numbers_have u zero some few = absurd (let l : ⊥ = omega (arith, some) in l)
numbers_have u (suc n) some few = item_at u.parts n (omega (arith, few))
