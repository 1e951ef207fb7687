-- Rows that an event did not put stood there as it began.
use Rattle.std.proofs.Common.{◌≡◌, ℕ, List, [], ◌∷◌, subst, ⊎_elim}
use Rattle.sms_base.specs.Among.{Among}
use Rattle.sms_rows.proofs.table.Tables.{among_put, among_without}
use Rattle.sms_centre_rows.specs.declared.waiting.progress.Progress.{Progress}
use Rattle.sms_centre_rows.specs.declared.waiting.revision.Revision.{Revision}
use Rattle.sms_centre_rows.specs.declared.waiting.revision.Revision.TheVariants.{Put, Amend, Remove}
use Rattle.sms_centre_rows.specs.waiting.Revisions.{rows_after}
use Rattle.sms_centre_spec.proofs.NextNumbers.{among_amended}

-- no such row was put
abbrev pub PutsNone : {A : Type 0} → (A → Type 0) → List (Revision A) → Type 0
PutsNone P [] = Unit {0}
PutsNone P (Put x ∷ news) = ¬ P x × PutsNone P news
PutsNone P (Amend n progress ∷ news) = PutsNone P news
PutsNone P (Remove n ∷ news) = PutsNone P news

pub stood : {A : Type 0} (key : A → ℕ) (reaching : Progress → A → A) (P : A → Type 0) → ((q : Progress) (x : A) → P (reaching q x) → P x)
    → (news : List (Revision A)) (base : List A) (x : A) → PutsNone P news → Among x (rows_after key reaching news base) → P x → (y : A) × (Among y base × P y)
stood key reaching P back [] base x none among p = (x, (among, p))
stood {A = A} key reaching P back (Put z ∷ news) base x none among p = ⊎_elim
    (λ (e : x ≡ z). absurd (none.0 (subst P e p)))
    (λ (a : Among x (rows_after key reaching news base) × ¬ (key x ≡ key z)). stood key reaching P back news base x none.1 a.0 p)
    (among_put key x z (rows_after key reaching news base) among)
stood {A = A} key reaching P back (Amend n q ∷ news) base x none among p =
    let g = among_amended key reaching n q x (rows_after key reaching news base) among in
    stood key reaching P back news base g.0 none g.1.0 (⊎_elim (λ (e : x ≡ g.0). subst P e p) (λ (e : (key g.0 ≡ n) × (x ≡ reaching q g.0)). back q g.0 (subst P e.1 p)) g.1.1)
stood key reaching P back (Remove n ∷ news) base x none among p =
    stood key reaching P back news base x none (among_without key x n (rows_after key reaching news base) among).0 p
