-- Links that come one by one to different handsets.
use Rattle.std.proofs.Common.{◌≡◌, ℕ, zero, suc, ◌+◌, ◌<◌, List, [], ◌∷◌, ◌++◌, length, take, get_or, Bool, true, false, Option, None, refl, sym, ◌∙◌, ap, subst, inl, inr, ⊎_elim, arith}
use Rattle.std.proofs.lemmas.List.{take_more}
use Rattle.sms_base.specs.Among.{Among}
use Rattle.sms_centre_queue.proofs.queues.LinkPlaces.{put_behind}
use Rattle.sms_centre_rows.specs.declared.waiting.handset_link.HandsetLink.{HandsetLink}
use Rattle.sms_centre_rows.specs.waiting.Links.{link_at, link_of, new_link_to, or_new_link_to, with_link}
use Rattle.sms_centre_rows.proofs.waiting.LinksRepresented.{link_behind}
use Rattle.sms_centre_spec.specs.CentreEvent.{links_awaited, links_up}
use Rattle.sms_centre_spec.specs.SoundCore.{AreDifferent}
use Rattle.sms_centre_recovery.specs.starting.Starting.{connected, links_of}

pub among_at : {A : Type 0} (i : ℕ) (xs : List A) (d : A) → i < length xs → Among (get_or xs i d) xs
among_at i [] d l = absurd (omega (arith, l))
among_at zero (x ∷ xs) d l = inl refl
among_at (suc i) (x ∷ xs) d l = inr (among_at i xs d (omega (arith, l)))

-- a handset that comes later is none of the earlier ones
not_before : (i : ℕ) (ns : List (List ℕ)) (d : List ℕ) → AreDifferent ns → i < length ns → Among (get_or ns i d) (take i ns) → ⊥
not_before i [] d apart l a = absurd (omega (arith, l))
not_before zero (n ∷ ns) d apart l a = a
not_before (suc i) (n ∷ ns) d apart l a = ⊎_elim
    (λ (e : get_or ns i d ≡ n). apart.0 (subst (λ (k : List ℕ). Among k ns) e (among_at i ns d (omega (arith, l)))))
    (λ (r : Among (get_or ns i d) (take i ns)). not_before i ns d apart.1 (omega (arith, l)) r)
    a

-- there is no link to another handset
link_absent : (up : Bool) (ns : List (List ℕ)) (n : List ℕ) → (Among n ns → ⊥) → link_at n (links_of up ns) ≡ None
link_absent true [] n ne = refl
link_absent true (k ∷ ks) n ne = link_behind n (connected true (new_link_to k)) (links_up ks) (λ (e : k ≡ n). ne (inl (sym e))) ∙ link_absent true ks n (λ a. ne (inr a))
link_absent false [] n ne = refl
link_absent false (k ∷ ks) n ne = link_behind n (connected false (new_link_to k)) (links_awaited ks) (λ (e : k ≡ n). ne (inl (sym e))) ∙ link_absent false ks n (λ a. ne (inr a))

-- its link comes behind the others
link_last : (up : Bool) (ns : List (List ℕ)) (n : List ℕ) → (Among n ns → ⊥) → with_link (connected up (new_link_to n)) (links_of up ns) ≡ links_of up (ns ++ n ∷ [])
link_last true [] n ne = refl
link_last true (k ∷ ks) n ne =
    put_behind (connected true (new_link_to n)) (connected true (new_link_to k)) (links_up ks) (λ (e : k ≡ n). ne (inl (sym e)))
    ∙ ap (λ (ls : List HandsetLink). connected true (new_link_to k) ∷ ls) (link_last true ks n (λ a. ne (inr a)))
link_last false [] n ne = refl
link_last false (k ∷ ks) n ne =
    put_behind (connected false (new_link_to n)) (connected false (new_link_to k)) (links_awaited ks) (λ (e : k ≡ n). ne (inl (sym e)))
    ∙ ap (λ (ls : List HandsetLink). connected false (new_link_to k) ∷ ls) (link_last false ks n (λ a. ne (inr a)))

pub next_link : (up : Bool) (i : ℕ) (ns : List (List ℕ)) (n : List ℕ) → AreDifferent ns → i < length ns → n ≡ get_or ns i n
    → with_link (connected up (link_of n (links_of up (take i ns)))) (links_of up (take i ns)) ≡ links_of up (take (i + 1) ns)
next_link up i ns n apart l is =
    let new : Among n (take i ns) → ⊥ = λ a. not_before i ns n apart l (subst (λ (k : List ℕ). Among k (take i ns)) is a) in
    ap (λ (o : Option HandsetLink). with_link (connected up (or_new_link_to n o)) (links_of up (take i ns))) (link_absent up (take i ns) n new)
    ∙ link_last up (take i ns) n new
    ∙ ap (λ (k : List ℕ). links_of up (take i ns ++ k ∷ [])) is
    ∙ ap (λ (ks : List (List ℕ)). links_of up ks) (sym (take_more ns i n l))
