-- The newest row that changes put and leave is the one that is there after them; and where they put none, it was there before.
use Rattle.std.proofs.Common.{◌≡◌, ℕ, Bool, true, false, List, [], ◌∷◌, Option, Some, None, refl, sym, ap, subst, ◌∙◌, ⊎_elim, eq-eqb}
use Rattle.std.specs.Prelude.{◌==◌, ◌&&◌, not, if◌then◌else◌}
use Rattle.std.specs.Option.{option_map}
use Rattle.std.proofs.lemmas.Bool.{and_from, and_parts, cases_eq, cond-true, cond-false, ne_eqb, not-true, not_from_false}
use Rattle.sms_base.specs.Among.{Among}
use Rattle.sms_rows.specs.table.Table.{Rises, put, row_at, without}
use Rattle.sms_rows.proofs.table.Tables.{among_found, found_among, row_at_put, row_at_put_other, row_at_without, row_at_without_other}
use Rattle.sms_centre_rows.specs.declared.waiting.progress.Progress.{Progress}
use Rattle.sms_centre_rows.specs.declared.waiting.revision.Revision.{Revision}
use Rattle.sms_centre_rows.specs.declared.waiting.revision.Revision.TheVariants.{Put, Amend, Remove}
use Rattle.sms_centre_rows.specs.waiting.Revisions.{all_revised, amended, revised}
use Rattle.sms_centre_rows.proofs.waiting.Amending.{row_at_amended, row_at_amended_other}
use Rattle.sms_centre_group.specs.Newest.{first_of, newest, put_by, replaces, stays}

module _ {A : Type 0} where
  first_none : (a b : Option A) → first_of a b ≡ None → (a ≡ None) × (b ≡ None)
  first_none (Some x) b e = absurd cc
  first_none None b e = (refl, e)

  mapped_some : (f : A → A) (o : Option A) (z : A) → option_map f o ≡ Some z → (x : A) × (o ≡ Some x) × (f x ≡ z)
  mapped_some f None z e = absurd cc
  mapped_some f (Some x) z e = let q : f x ≡ z = cc in (x, refl, q)

  -- at most one row has a key
  pub one_of : (key : A → ℕ) (rows : List A) → Rises key rows → (a b : A) → Among a rows → Among b rows → key a ≡ key b → a ≡ b
  one_of key rows rises a b there here e =
      let same : Some a ≡ Some b = sym (among_found key a rows rises there) ∙ ap (λ (n : ℕ). row_at key n rows) e ∙ among_found key b rows rises here in cc

module _ {A : Type 0} (key : A → ℕ) (reaching : Progress → A → A) (keeps : (q : Progress) (x : A) → key (reaching q x) ≡ key x) where
  -- the row of the key after a change
  abbrev step : ℕ → Revision A → Option A → Option A
  step n (Put x) o = if key x == n then Some x else o
  step n (Amend m q) o = if m == n then option_map (reaching q) o else o
  step n (Remove m) o = if m == n then None else o

  abbrev steps : ℕ → List (Revision A) → Option A → Option A
  steps n [] o = o
  steps n (c ∷ cs) o = steps n cs (step n c o)

  step_at : (n : ℕ) (c : Revision A) (rows : List A) → row_at key n (revised key reaching c rows) ≡ step n c (row_at key n rows)
  step_at n (Put x) rows = ⊎_elim
      (λ (e : key x ≡ n). subst (λ (m : ℕ). row_at key m (put key x rows) ≡ Some x) e (row_at_put key x rows)
      ∙ sym (cond-true (key x == n) (Some x) (row_at key n rows) (eq-eqb (key x) n e)))
      (λ (ne : key x ≡ n → ⊥). row_at_put_other key n x rows ne ∙ sym (cond-false (key x == n) (Some x) (row_at key n rows) (ne_eqb (key x) n ne)))
      (cases_eq (key x) n)
  step_at n (Amend m q) rows = ⊎_elim
      (λ (e : m ≡ n). subst (λ (k : ℕ). row_at key k (amended key reaching m q rows) ≡ option_map (reaching q) (row_at key k rows)) e (row_at_amended key reaching keeps m q rows)
      ∙ sym (cond-true (m == n) (option_map (reaching q) (row_at key n rows)) (row_at key n rows) (eq-eqb m n e)))
      (λ (ne : m ≡ n → ⊥). row_at_amended_other key reaching keeps n m q rows ne
      ∙ sym (cond-false (m == n) (option_map (reaching q) (row_at key n rows)) (row_at key n rows) (ne_eqb m n ne)))
      (cases_eq m n)
  step_at n (Remove m) rows = ⊎_elim
      (λ (e : m ≡ n). subst (λ (k : ℕ). row_at key k (without key m rows) ≡ None) e (row_at_without key m rows)
      ∙ sym (cond-true (m == n) None (row_at key n rows) (eq-eqb m n e)))
      (λ (ne : m ≡ n → ⊥). row_at_without_other key m n rows ne ∙ sym (cond-false (m == n) None (row_at key n rows) (ne_eqb m n ne)))
      (cases_eq m n)

  steps_at : (n : ℕ) (cs : List (Revision A)) (rows : List A) → row_at key n (all_revised key reaching cs rows) ≡ steps n cs (row_at key n rows)
  steps_at n [] rows = refl
  steps_at n (c ∷ cs) rows = steps_at n cs (revised key reaching c rows) ∙ ap (λ (o : Option A). steps n cs o) (step_at n c rows)

  module _ {B : Type 0} (is : A → Bool) (body : A → B) (alike : (q : Progress) (x : A) → is (reaching q x) ≡ is x) (same : (q : Progress) (x : A) → body (reaching q x) ≡ body x) where
    -- a row that stays is there then, however far it is
    left : (n : ℕ) (cs : List (Revision A)) (x : A) → stays key n cs ≡ true → (y : A) × (steps n cs (Some x) ≡ Some y) × (is y ≡ is x) × (body y ≡ body x)
    left n [] x stay = (x, refl, refl, refl)
    left n (Put z ∷ cs) x stay =
        let s = and_parts (not (key z == n)) (stays key n cs) stay in
        let r = left n cs x s.1 in
        (r.0, ap (λ (b : Bool). steps n cs (if b then Some z else Some x)) (not-true (key z == n) s.0) ∙ r.1, r.2, r.3)
    left n (Amend m q ∷ cs) x stay = ⊎_elim
        (λ (e : m ≡ n). let r = left n cs (reaching q x) stay in
        (r.0, ap (λ (b : Bool). steps n cs (if b then option_map (reaching q) (Some x) else Some x)) (eq-eqb m n e) ∙ r.1, r.2 ∙ alike q x, r.3 ∙ same q x))
        (λ (ne : m ≡ n → ⊥). let r = left n cs x stay in
        (r.0, ap (λ (b : Bool). steps n cs (if b then option_map (reaching q) (Some x) else Some x)) (ne_eqb m n ne) ∙ r.1, r.2, r.3))
        (cases_eq m n)
    left n (Remove m ∷ cs) x stay =
        let s = and_parts (not (m == n)) (stays key n cs) stay in
        let r = left n cs x s.1 in
        (r.0, ap (λ (b : Bool). steps n cs (if b then None else Some x)) (not-true (m == n) s.0) ∙ r.1, r.2, r.3)

    abbrev IsLeft : A → List (Revision A) → Option A → Type 0
    IsLeft x cs o = (y : A) × (steps (key x) cs o ≡ Some y) × (is y ≡ true) × (body y ≡ body x)

    put_first : (z : A) (cs : List (Revision A)) (o : Option A) (x : A) (b : Bool) → (is z && stays key (key z) cs) ≡ b → (if b then Some z else None) ≡ Some x → IsLeft x (Put z ∷ cs) o
    put_first z cs o x false is_b e = absurd cc
    put_first z cs o x true is_b e =
        let q : z ≡ x = cc in
        let p = and_parts (is z) (stays key (key z) cs) is_b in
        let r = left (key z) cs z p.1 in
        subst (λ (w : A). IsLeft w (Put z ∷ cs) o) q
        (r.0, ap (λ (t : Bool). steps (key z) cs (if t then Some z else o)) (eq-eqb (key z) (key z) refl) ∙ r.1, r.2 ∙ p.0, r.3)

    put_here : (c : Revision A) (cs : List (Revision A)) (o : Option A) (x : A) → put_by key is c cs ≡ Some x → IsLeft x (c ∷ cs) o
    put_here (Put z) cs o x e = put_first z cs o x (is z && stays key (key z) cs) refl e
    put_here (Amend m q) cs o x e = absurd cc
    put_here (Remove m) cs o x e = absurd cc

    put_either : (c : Revision A) (cs : List (Revision A)) (o : Option A) (x : A) (later : Option A) → first_of later (put_by key is c cs) ≡ Some x
        → (later ≡ Some x → IsLeft x cs (step (key x) c o)) → IsLeft x (c ∷ cs) o
    put_either c cs o x (Some z) e more = more e
    put_either c cs o x None e more = put_here c cs o x e

    -- the newest row that was put and stays is there then, however far it is
    put_left : (cs : List (Revision A)) (o : Option A) (x : A) → newest key is cs ≡ Some x → IsLeft x cs o
    put_left [] o x e = absurd cc
    put_left (c ∷ cs) o x e = put_either c cs o x (newest key is cs) e (put_left cs (step (key x) c o) x)

    abbrev WasThere : ℕ → List (Revision A) → Option A → A → Type 0
    WasThere n cs o y = (z : A) × (o ≡ Some z) × (is z ≡ true) × (body y ≡ body z) × (stays key n cs ≡ true)

    was_step : (n : ℕ) (c : Revision A) (cs : List (Revision A)) (o : Option A) (y : A) → put_by key is c cs ≡ None → WasThere n cs (step n c o) y → WasThere n (c ∷ cs) o y
    was_step n (Put x) cs o y none was = ⊎_elim
        (λ (e : key x ≡ n).
        let there : Some x ≡ Some was.0 = sym (cond-true (key x == n) (Some x) o (eq-eqb (key x) n e)) ∙ was.1 in
        let q : x ≡ was.0 = cc in
        let stay : stays key (key x) cs ≡ true = ap (λ (k : ℕ). stays key k cs) e ∙ was.4 in
        let put_so : Some x ≡ None = sym (cond-true (is x && stays key (key x) cs) (Some x) None (and_from (is x) (stays key (key x) cs) (ap is q ∙ was.2) stay)) ∙ none in
        absurd cc)
        (λ (ne : key x ≡ n → ⊥). (
          was.0,
          sym (cond-false (key x == n) (Some x) o (ne_eqb (key x) n ne)) ∙ was.1,
          was.2,
          was.3,
          and_from (not (key x == n)) (stays key n cs) (not_from_false (key x == n) (ne_eqb (key x) n ne)) was.4,
        ))
        (cases_eq (key x) n)
    was_step n (Amend m q) cs o y none was = ⊎_elim
        (λ (e : m ≡ n).
        let u = mapped_some (reaching q) o was.0 (sym (cond-true (m == n) (option_map (reaching q) o) o (eq-eqb m n e)) ∙ was.1) in
        (u.0, u.1, sym (alike q u.0) ∙ ap is u.2 ∙ was.2, was.3 ∙ ap body (sym u.2) ∙ same q u.0, was.4))
        (λ (ne : m ≡ n → ⊥). (was.0, sym (cond-false (m == n) (option_map (reaching q) o) o (ne_eqb m n ne)) ∙ was.1, was.2, was.3, was.4))
        (cases_eq m n)
    was_step n (Remove m) cs o y none was = ⊎_elim
        (λ (e : m ≡ n). let gone : None ≡ Some was.0 = sym (cond-true (m == n) None o (eq-eqb m n e)) ∙ was.1 in absurd cc)
        (λ (ne : m ≡ n → ⊥). (
          was.0,
          sym (cond-false (m == n) None o (ne_eqb m n ne)) ∙ was.1,
          was.2,
          was.3,
          and_from (not (m == n)) (stays key n cs) (not_from_false (m == n) (ne_eqb m n ne)) was.4,
        ))
        (cases_eq m n)

    -- where none was put, what is there was there before
    was_there : (n : ℕ) (cs : List (Revision A)) (o : Option A) (y : A) → newest key is cs ≡ None → steps n cs o ≡ Some y → is y ≡ true → WasThere n cs o y
    was_there n [] o y none e is_y = (y, e, is_y, refl, refl)
    was_there n (c ∷ cs) o y none e is_y =
        let f = first_none (newest key is cs) (put_by key is c cs) none in
        was_step n c cs o y f.1 (was_there n cs (step n c o) y f.0 e is_y)

    abbrev pub Found : Option A → List A → A → Type 0
    Found (Some x) rows r = body x ≡ body r
    Found None rows r = (z : A) × Among z rows × (is z ≡ true) × (body r ≡ body z)

    -- a row that is there after the changes, and the only such one: it was put by them, or was there before
    pub put_or_kept : (cs : List (Revision A)) (rows : List A) (r : A) → Rises key (all_revised key reaching cs rows) → Among r (all_revised key reaching cs rows) → is r ≡ true
        → ((a : A) → Among a (all_revised key reaching cs rows) → is a ≡ true → a ≡ r) → (o : Option A) → newest key is cs ≡ o → Found o rows r
    put_or_kept cs rows r rises there is_r only (Some x) e =
        let l = put_left cs (row_at key (key x) rows) x e in
        sym l.3 ∙ ap body (only l.0 (found_among key (key x) l.0 (all_revised key reaching cs rows) (steps_at (key x) cs rows ∙ l.1)) l.2)
    put_or_kept cs rows r rises there is_r only None e =
        let l = was_there (key r) cs (row_at key (key r) rows) r e (sym (steps_at (key r) cs rows) ∙ among_found key r (all_revised key reaching cs rows) rises there) is_r in
        (l.0, found_among key (key r) l.0 rows l.1, l.2, l.3)
