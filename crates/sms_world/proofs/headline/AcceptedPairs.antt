-- What the handsets of a course accepted of a key is what the world's did.
use Rattle.std.proofs.Common.{◌≡◌, ℕ, List, [], ◌∷◌, ◌++◌, true, false, refl, sym, ◌∙◌, ap, subst, inl, inr, ⊎_elim}
use Rattle.std.specs.Str.{bytes_eq}
use Rattle.std.proofs.lemmas.Bool.{both_ways, cases_Bool, cond-false, cond-true}
use Rattle.std.proofs.lemmas.Slice.Eq.{bytes_eq-Decides}
use Rattle.std.proofs.lemmas.List.{append-nil}
use Rattle.sms_base.specs.Among.{Among}
use Rattle.sms_centre_spec.specs.SoundCore.{AreDifferent}
use Rattle.sms_play.specs.PlayState.{PlayState, Party, numbers_of}
use Rattle.sms_play.specs.Premises.{all_pairs, pairs_of}
use Rattle.sms_world_model.specs.Groups.{is_for, of_key}
use Rattle.sms_world_model.specs.Place.{Key}
use Rattle.sms_world_model.specs.World.{Accepted, World}
use Rattle.sms_world_model.proofs.Keys.{for_is}
use Rattle.sms_world_model.proofs.Places.{of_key_in, of_key_out}
use Rattle.sms_world.specs.headline.SeenWorld.{accepted_at}
use Rattle.sms_world.specs.scripts_are_runs.PlayRefinement.{PlayRefines}
use Rattle.sms_world.proofs.headline.Takers.{TakersThere}

-- ---- one list behind another

key_over : (h : List ℕ) (k : Key) (xs ys : List Accepted) → of_key h k (xs ++ ys) ≡ of_key h k xs ++ of_key h k ys
key_over h k [] ys = refl
key_over h k (x ∷ xs) ys = ⊎_elim
    (λ (t : is_for h k x ≡ true).
    of_key_in h k x (xs ++ ys) t ∙ ap (λ (z : List Accepted). x ∷ z) (key_over h k xs ys) ∙ ap (λ (z : List Accepted). z ++ of_key h k ys) (sym (of_key_in h k x xs t)))
    (λ (t : is_for h k x ≡ false).
    of_key_out h k x (xs ++ ys) t ∙ key_over h k xs ys ∙ ap (λ (z : List Accepted). z ++ of_key h k ys) (sym (of_key_out h k x xs t)))
    (cases_Bool (is_for h k x))

-- ---- of one handset

at_in : (h : List ℕ) (x : Accepted) (xs : List Accepted) → x.handset ≡ h → accepted_at h (x ∷ xs) ≡ x ∷ accepted_at h xs
at_in h x xs e = cond-true (bytes_eq x.handset h) (x ∷ accepted_at h xs) (accepted_at h xs) ((bytes_eq-Decides x.handset h).1 e)

at_out : (h : List ℕ) (x : Accepted) (xs : List Accepted) → bytes_eq x.handset h ≡ false → accepted_at h (x ∷ xs) ≡ accepted_at h xs
at_out h x xs t = cond-false (bytes_eq x.handset h) (x ∷ accepted_at h xs) (accepted_at h xs) t

not_for : (h : List ℕ) (k : Key) (x : Accepted) → bytes_eq x.handset h ≡ false → is_for h k x ≡ false
not_for h k x t = ⊎_elim
    (λ (y : is_for h k x ≡ true). absurd (both_ways (bytes_eq x.handset h) t ((bytes_eq-Decides x.handset h).1 (for_is h k x y).0)))
    (λ (y : is_for h k x ≡ false). y)
    (cases_Bool (is_for h k x))

-- its own
own_key : (h : List ℕ) (k : Key) (xs : List Accepted) → of_key h k (accepted_at h xs) ≡ of_key h k xs
own_key h k [] = refl
own_key h k (x ∷ xs) = ⊎_elim
    (λ (t : bytes_eq x.handset h ≡ true).
    ap (λ (z : List Accepted). of_key h k z) (at_in h x xs ((bytes_eq-Decides x.handset h).0 t))
    ∙ ⊎_elim
    (λ (y : is_for h k x ≡ true). of_key_in h k x (accepted_at h xs) y ∙ ap (λ (z : List Accepted). x ∷ z) (own_key h k xs) ∙ sym (of_key_in h k x xs y))
    (λ (y : is_for h k x ≡ false). of_key_out h k x (accepted_at h xs) y ∙ own_key h k xs ∙ sym (of_key_out h k x xs y))
    (cases_Bool (is_for h k x)))
    (λ (t : bytes_eq x.handset h ≡ false).
    ap (λ (z : List Accepted). of_key h k z) (at_out h x xs t) ∙ own_key h k xs ∙ sym (of_key_out h k x xs (not_for h k x t)))
    (cases_Bool (bytes_eq x.handset h))

-- none of another
other_key : (h g : List ℕ) (k : Key) (xs : List Accepted) → ¬ (g ≡ h) → of_key h k (accepted_at g xs) ≡ []
other_key h g k [] ne = refl
other_key h g k (x ∷ xs) ne = ⊎_elim
    (λ (t : bytes_eq x.handset g ≡ true).
    let own : x.handset ≡ g = (bytes_eq-Decides x.handset g).0 t in
    ap (λ (z : List Accepted). of_key h k z) (at_in g x xs own)
    ∙ of_key_out h k x (accepted_at g xs) (⊎_elim
    (λ (y : is_for h k x ≡ true). absurd (ne (sym own ∙ (for_is h k x y).0)))
    (λ (y : is_for h k x ≡ false). y)
    (cases_Bool (is_for h k x)))
    ∙ other_key h g k xs ne)
    (λ (t : bytes_eq x.handset g ≡ false). ap (λ (z : List Accepted). of_key h k z) (at_out g x xs t) ∙ other_key h g k xs ne)
    (cases_Bool (bytes_eq x.handset g))

-- ---- of all

abbrev AreSeen : List Accepted → List Party → Type 0
AreSeen accepted ps = (p : Party) → Among p ps → accepted_at p.number accepted ≡ pairs_of [] p.accepted

module _ (h : List ℕ) (k : Key) (accepted : List Accepted) where
  of_others : (ps : List Party) → AreSeen accepted ps → ¬ Among h (numbers_of ps) → of_key h k (all_pairs ps) ≡ []
  of_others [] seen no_one = refl
  of_others (p ∷ ps) seen no_one =
      key_over h k (pairs_of [] p.accepted) (all_pairs ps)
      ∙ ap (λ (z : List Accepted). z ++ of_key h k (all_pairs ps))
      (ap (λ (z : List Accepted). of_key h k z) (sym (seen p (inl refl))) ∙ other_key h p.number k accepted (λ e. no_one (inl (sym e))))
      ∙ of_others ps (λ q i. seen q (inr i)) (λ i. no_one (inr i))

  of_all : (ps : List Party) → AreSeen accepted ps → AreDifferent (numbers_of ps) → Among h (numbers_of ps) → of_key h k (all_pairs ps) ≡ of_key h k accepted
  of_all [] seen apart i = absurd i
  of_all (p ∷ ps) seen apart i = ⊎_elim
      (λ (e : h ≡ p.number).
      key_over h k (pairs_of [] p.accepted) (all_pairs ps)
      ∙ ap (λ (z : List Accepted). z ++ of_key h k (all_pairs ps))
      (ap (λ (z : List Accepted). of_key h k z) (sym (seen p (inl refl))) ∙ subst (λ (g : List ℕ). of_key h k (accepted_at g accepted) ≡ of_key h k accepted) e (own_key h k accepted))
      ∙ ap (λ (z : List Accepted). of_key h k accepted ++ z)
      (of_others ps (λ q j. seen q (inr j)) (λ j. apart.0 (subst (λ (g : List ℕ). Among g (numbers_of ps)) e j)))
      ∙ append-nil (of_key h k accepted))
      (λ (j : Among h (numbers_of ps)).
      key_over h k (pairs_of [] p.accepted) (all_pairs ps)
      ∙ ap (λ (z : List Accepted). z ++ of_key h k (all_pairs ps))
      (ap (λ (z : List Accepted). of_key h k z) (sym (seen p (inl refl)))
      ∙ other_key h p.number k accepted (λ e. apart.0 (subst (λ (g : List ℕ). Among g (numbers_of ps)) (sym e) j)))
      ∙ of_all ps (λ q a. seen q (inr a)) apart.1 j)
      i

  -- where no handset has the number, nothing was accepted there
  none_there : (ns : List (List ℕ)) → ¬ Among h ns → (xs : List Accepted) → ((x : Accepted) → Among x xs → Among x.handset ns) → of_key h k xs ≡ []
  none_there ns no_one [] all = refl
  none_there ns no_one (x ∷ xs) all =
      of_key_out h k x xs (⊎_elim
      (λ (y : is_for h k x ≡ true). absurd (no_one (subst (λ (g : List ℕ). Among g ns) (for_is h k x y).0 (all x (inl refl)))))
      (λ (y : is_for h k x ≡ false). y)
      (cases_Bool (is_for h k x)))
      ∙ none_there ns no_one xs (λ z i. all z (inr i))

-- it is one of them, or none
one_of : (h : List ℕ) (ns : List (List ℕ)) (P : Type 0) → (Among h ns → P) → (¬ Among h ns → P) → P
one_of h [] P f g = g (λ i. i)
one_of h (n ∷ ns) P f g = ⊎_elim
    (λ (t : bytes_eq h n ≡ true). f (inl ((bytes_eq-Decides h n).0 t)))
    (λ (t : bytes_eq h n ≡ false).
    one_of h ns P (λ i. f (inr i)) (λ no_one. g (λ i. ⊎_elim (λ (e : h ≡ n). both_ways (bytes_eq h n) t ((bytes_eq-Decides h n).1 e)) (λ (j : Among h ns). no_one j) i)))
    (cases_Bool (bytes_eq h n))

pub same_accepted : (c : PlayState) (w : World) → PlayRefines c w → TakersThere c w → (h : List ℕ) (k : Key) → of_key h k (all_pairs c.parties) ≡ of_key h k w.accepted
same_accepted c w s takers h k =
    let seen : AreSeen w.accepted c.parties = λ p i. (s.parties p i).accepted in
    one_of h (numbers_of c.parties) (of_key h k (all_pairs c.parties) ≡ of_key h k w.accepted)
    (λ i. of_all h k w.accepted c.parties seen s.apart i)
    (λ no_one. of_others h k w.accepted c.parties seen no_one ∙ sym (none_there h k w.accepted (numbers_of c.parties) no_one w.accepted takers))
