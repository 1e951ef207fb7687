-- Numbers and sessions that come.
use Rattle.std.proofs.Common.{◌≡◌, ◌⊎◌, inl, inr, ⊎_elim, sym, subst, ap, ◌∙◌, ℕ, List, [], ◌∷◌, ◌++◌, true, false, Result, Ok, Err, OnOk, OnErr, bytes_eq}
use Rattle.std.proofs.lemmas.Bool.{both_ways, cases_Bool, cond-true, cond-false}
use Rattle.std.proofs.lemmas.Slice.Eq.{bytes_eq-Decides}
use Rattle.sms_base.specs.Among.{Among}
use Rattle.sms_centre_spec.specs.SoundCore.{AreDifferent}
use Rattle.sms_centre_rows.specs.reports.Receipts.{Session, session_key}
use Rattle.sms_centre.specs.state.Recovering.{AreNew}
use Rattle.sms_rows.proofs.table.Tables.{among_put}
use Rattle.sms_rows.specs.table.Table.{put}
use Rattle.smsc_service.specs.BoundSession.{is_among}

pub among_snoc : (n : List ℕ) (ns : List (List ℕ)) (m : List ℕ) → Among n (ns ++ m ∷ []) → Among n ns ⊎ (n ≡ m)
among_snoc n [] m (inl e) = inr e
among_snoc n [] m (inr x) = absurd x
among_snoc n (k ∷ ns) m (inl e) = inl (inl e)
among_snoc n (k ∷ ns) m (inr x) = ⊎_elim (λ h. inl (inr h)) (λ e. inr e) (among_snoc n ns m x)

pub different_snoc : (ns : List (List ℕ)) (m : List ℕ) → AreDifferent ns → ¬ Among m ns → AreDifferent (ns ++ m ∷ [])
different_snoc [] m d new = ((λ x. x), tt)
different_snoc (k ∷ ns) m d new =
    ((λ x. ⊎_elim (λ h. d.0 h) (λ e. new (inl (sym e))) (among_snoc k ns m x)), different_snoc ns m d.1 (λ x. new (inr x)))

pub apart_snoc : (ns : List (List ℕ)) (m : List ℕ) (all : List (List ℕ)) → all ≡ ns ++ m ∷ [] → AreDifferent ns → ¬ Among m ns → AreDifferent all
apart_snoc ns m all e d n = subst AreDifferent (sym e) (different_snoc ns m d n)

pub new_put : (s : Session) (ss all : List Session) → all ≡ put session_key s ss → s.unanswered ≡ [] → AreNew ss → AreNew all
new_put s ss all e is new x there =
    ⊎_elim (λ here. ap (λ (t : Session). t.unanswered) here ∙ is) (λ old. new x old.0) (among_put session_key x s ss (subst (λ l. Among x l) e there))

-- what is not found among them is not there
pub not_among : (n : List ℕ) (ns : List (List ℕ)) → is_among n ns ≡ false → Among n ns → ⊥
not_among n [] e there = there
not_among n (k ∷ ns) e there = ⊎_elim
    (λ (t : bytes_eq k n ≡ true). let y : true ≡ false = sym (cond-true (bytes_eq k n) true (is_among n ns) t) ∙ e in absurd cc)
    (λ (t : bytes_eq k n ≡ false). ⊎_elim
    (λ (q : n ≡ k). both_ways (bytes_eq k n) t ((bytes_eq-Decides k n).1 (sym q)))
    (λ (q : Among n ns). not_among n ns (sym (cond-false (bytes_eq k n) true (is_among n ns) t) ∙ e) q)
    there)
    (cases_Bool (bytes_eq k n))

pub new_after : {X E : Type 0} (r : Result X E) (s : Session) (old all : List Session) → OnOk r (all ≡ put session_key s old) → OnErr r (all ≡ old) → s.unanswered ≡ [] → AreNew old → AreNew all
new_after (Ok x) s old all ok err is before = new_put s old all ok is before
new_after (Err x) s old all ok err is before = subst AreNew (sym err) before
