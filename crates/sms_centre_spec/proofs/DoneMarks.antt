-- Whether all parts of a message are done, where a part comes and where one is so far.
use Rattle.std.proofs.Common.{◌≡◌, ℕ, ◌<◌, List, [], ◌∷◌, Bool, true, false, refl, sym, ◌∙◌, ap, inl, inr, ⊎_elim, arith, eq-eqb}
use Rattle.std.specs.Prelude.{nat_lt, not, ◌==◌, ◌&&◌, if◌then◌else◌}
use Rattle.std.proofs.lemmas.Bool.{cond_both, eqb-true, ne_eqb}
use Rattle.sms_base.specs.Among.{Among}
use Rattle.sms_rows.specs.table.Table.{insert, put, without}
use Rattle.sms_centre_rows.specs.declared.messages.part.PartRow.{PartRow}
use Rattle.sms_centre_rows.specs.messages.Messages.{all_done, is_undone, part_key, part_reaching}
use Rattle.sms_centre_rows.specs.declared.waiting.progress.Progress.{Progress}
use Rattle.sms_centre_rows.specs.waiting.Revisions.{amended}

-- a part of another message
another : (id : ℕ) (p : PartRow) → ¬ (p.id ≡ id) → is_undone id p ≡ false
another id p ne = ap (λ (b : Bool). b && not p.progress.is_done) (ne_eqb p.id id ne)

-- an undone part of the message
undone : (id : ℕ) (p : PartRow) → p.id ≡ id → p.progress.is_done ≡ false → is_undone id p ≡ true
undone id p own e = ap (λ (b : Bool). b && not p.progress.is_done) (eq-eqb p.id id own) ∙ ap (λ (b : Bool). not b) e

pub not_all_done : (id : ℕ) (p : PartRow) (ps : List PartRow) → Among p ps → p.id ≡ id → p.progress.is_done ≡ false → all_done id ps ≡ false
not_all_done id p [] among own e = absurd among
not_all_done id p (x ∷ xs) among own e = ⊎_elim
    (λ (q : p ≡ x). ap (λ (b : Bool). not b && all_done id xs) (ap (λ (y : PartRow). is_undone id y) (sym q) ∙ undone id p own e))
    (λ (a : Among p xs). ap (λ (b : Bool). not (is_undone id x) && b) (not_all_done id p xs a own e) ∙ and_false (not (is_undone id x)))
    among
  where
    and_false : (b : Bool) → (b && false) ≡ false
    and_false true = refl
    and_false false = refl

-- where a part is so far that this says the same of its message
pub all_done_amended : (id k : ℕ) (q : Progress) (ps : List PartRow) → ((x : PartRow) → Among x ps → part_key x ≡ k → is_undone id (part_reaching q x) ≡ is_undone id x)
    → all_done id (amended part_key part_reaching k q ps) ≡ all_done id ps
all_done_amended id k q [] f = refl
all_done_amended id k q (p ∷ ps) f =
    let head : is_undone id (if part_key p == k then part_reaching q p else p) ≡ is_undone id p =
    cond_both (part_key p == k) (part_reaching q p) p (λ (z : PartRow). is_undone id z ≡ is_undone id p) (λ t. f p (inl refl) (eqb-true (part_key p) k t)) (λ t. refl) in
    ap (λ (b : Bool). not b && all_done id (amended part_key part_reaching k q ps)) head
    ∙ ap (λ (b : Bool). not (is_undone id p) && b) (all_done_amended id k q ps (λ x a e. f x (inr a) e))

-- where it is of another message
pub far_apart : (id : ℕ) (q : Progress) (x : PartRow) → ¬ (x.id ≡ id) → is_undone id (part_reaching q x) ≡ is_undone id x
far_apart id q x ne = another id (part_reaching q x) ne ∙ sym (another id x ne)

-- where it is done as before
pub far_alike : (id : ℕ) (q : Progress) (x : PartRow) → q.is_done ≡ x.progress.is_done → is_undone id (part_reaching q x) ≡ is_undone id x
far_alike id q x e = ap (λ (b : Bool). (x.id == id) && not b) e

-- ---- a part of another message comes

all_done_insert : (id : ℕ) (p : PartRow) (ps : List PartRow) → ¬ (p.id ≡ id) → all_done id (insert part_key p ps) ≡ all_done id ps
all_done_insert id p [] ne = ap (λ (b : Bool). not b && true) (another id p ne)
all_done_insert id p (x ∷ xs) ne =
    cond_both (nat_lt (part_key p) (part_key x)) (p ∷ x ∷ xs) (x ∷ insert part_key p xs) (λ (zs : List PartRow). all_done id zs ≡ all_done id (x ∷ xs))
    (λ t. ap (λ (b : Bool). not b && all_done id (x ∷ xs)) (another id p ne))
    (λ t. ap (λ (b : Bool). not (is_undone id x) && b) (all_done_insert id p xs ne))

all_done_without : (id k : ℕ) (ps : List PartRow) → ((x : PartRow) → Among x ps → part_key x ≡ k → ¬ (x.id ≡ id)) → all_done id (without part_key k ps) ≡ all_done id ps
all_done_without id k [] f = refl
all_done_without id k (x ∷ xs) f =
    let rest : all_done id (without part_key k xs) ≡ all_done id xs = all_done_without id k xs (λ y a e. f y (inr a) e) in
    cond_both (part_key x == k) (without part_key k xs) (x ∷ without part_key k xs) (λ (zs : List PartRow). all_done id zs ≡ all_done id (x ∷ xs))
    (λ t. rest ∙ sym (ap (λ (b : Bool). not b && all_done id xs) (another id x (f x (inl refl) (eqb-true (part_key x) k t)))))
    (λ t. ap (λ (b : Bool). not (is_undone id x) && b) rest)

pub all_done_put : (id : ℕ) (p : PartRow) (ps : List PartRow) → ((x : PartRow) → Among x ps → x.number < 256) → p.number < 256 → ¬ (p.id ≡ id) → all_done id (put part_key p ps) ≡ all_done id ps
all_done_put id p ps numbers small ne =
    all_done_insert id p (without part_key (part_key p) ps) ne
    ∙ all_done_without id (part_key p) ps (λ x among e q. let n = numbers x among in ne (omega (arith, e, q, n, small)))
