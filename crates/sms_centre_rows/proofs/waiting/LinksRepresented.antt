-- A link that is put is the link of its handset, and the links of others stay.
use Rattle.std.proofs.Common.{◌≡◌, ℕ, List, [], ◌∷◌, Option, Some, refl, sym, ◌∙◌, ap, ⊎_elim, bytes_eq}
use Rattle.std.proofs.lemmas.Bool.{cond-true, cond-false}
use Rattle.std.proofs.lemmas.Slice.Eq.{bytes_eq-Decides}
use Rattle.sms_base.proofs.OctetLaws.{cases_octets, differ}
use Rattle.sms_centre_rows.specs.declared.waiting.handset_link.HandsetLink.{HandsetLink}
use Rattle.sms_centre_rows.specs.waiting.Links.{link_at, link_of, or_new_link_to, with_link}

pub link_here : (number : List ℕ) (l : HandsetLink) (ls : List HandsetLink) → l.handset ≡ number → link_at number (l ∷ ls) ≡ Some l
link_here number l ls e = cond-true (bytes_eq l.handset number) (Some l) (link_at number ls) ((bytes_eq-Decides l.handset number).1 e)

pub link_behind : (number : List ℕ) (l : HandsetLink) (ls : List HandsetLink) → ¬ (l.handset ≡ number) → link_at number (l ∷ ls) ≡ link_at number ls
link_behind number l ls ne = cond-false (bytes_eq l.handset number) (Some l) (link_at number ls) (differ l.handset number ne)

pub put_at : (link : HandsetLink) (ls : List HandsetLink) → link_at link.handset (with_link link ls) ≡ Some link
put_at link [] = link_here link.handset link [] refl
put_at link (l ∷ ls) = ⊎_elim
    (λ (e : l.handset ≡ link.handset).
    ap (λ (r : List HandsetLink). link_at link.handset r) (cond-true (bytes_eq l.handset link.handset) (link ∷ ls) (l ∷ with_link link ls) ((bytes_eq-Decides l.handset link.handset).1 e))
    ∙ link_here link.handset link ls refl)
    (λ (e : l.handset ≡ link.handset → ⊥).
    ap (λ (r : List HandsetLink). link_at link.handset r) (cond-false (bytes_eq l.handset link.handset) (link ∷ ls) (l ∷ with_link link ls) (differ l.handset link.handset e))
    ∙ link_behind link.handset l (with_link link ls) e ∙ put_at link ls)
    (cases_octets l.handset link.handset)

pub put_at_other : (number : List ℕ) (link : HandsetLink) (ls : List HandsetLink) → ¬ (link.handset ≡ number) → link_at number (with_link link ls) ≡ link_at number ls
put_at_other number link [] ne = link_behind number link [] ne
put_at_other number link (l ∷ ls) ne = ⊎_elim
    (λ (e : l.handset ≡ link.handset).
    ap (λ (r : List HandsetLink). link_at number r) (cond-true (bytes_eq l.handset link.handset) (link ∷ ls) (l ∷ with_link link ls) ((bytes_eq-Decides l.handset link.handset).1 e))
    ∙ link_behind number link ls ne ∙ sym (link_behind number l ls (λ q. ne (sym e ∙ q))))
    (λ (e : l.handset ≡ link.handset → ⊥).
    ap (λ (r : List HandsetLink). link_at number r) (cond-false (bytes_eq l.handset link.handset) (link ∷ ls) (l ∷ with_link link ls) (differ l.handset link.handset e)) ∙ ⊎_elim
    (λ (t : l.handset ≡ number). link_here number l (with_link link ls) t ∙ sym (link_here number l ls t))
    (λ (t : l.handset ≡ number → ⊥). link_behind number l (with_link link ls) t ∙ put_at_other number link ls ne ∙ sym (link_behind number l ls t))
    (cases_octets l.handset number))
    (cases_octets l.handset link.handset)

pub link_put : (link : HandsetLink) (ls : List HandsetLink) → link_of link.handset (with_link link ls) ≡ link
link_put link ls = ap (λ (o : Option HandsetLink). or_new_link_to link.handset o) (put_at link ls)

pub link_put_other : (number : List ℕ) (link : HandsetLink) (ls : List HandsetLink) → ¬ (link.handset ≡ number) → link_of number (with_link link ls) ≡ link_of number ls
link_put_other number link ls ne = ap (λ (o : Option HandsetLink). or_new_link_to number o) (put_at_other number link ls ne)

pub link_of_handset : (number : List ℕ) (ls : List HandsetLink) → (link_of number ls).handset ≡ number
link_of_handset number [] = refl
link_of_handset number (l ∷ ls) = ⊎_elim
    (λ (e : l.handset ≡ number). ap (λ (o : Option HandsetLink). (or_new_link_to number o).handset) (link_here number l ls e) ∙ e)
    (λ (e : l.handset ≡ number → ⊥). ap (λ (o : Option HandsetLink). (or_new_link_to number o).handset) (link_behind number l ls e) ∙ link_of_handset number ls)
    (cases_octets l.handset number)
