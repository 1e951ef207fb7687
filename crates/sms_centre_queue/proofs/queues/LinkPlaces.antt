-- A link that is put keeps its place in the order of arrival, or is behind all others. No other changes its place.
use Rattle.std.proofs.Common.{◌≡◌, ℕ, ◌+◌, ◌<◌, List, [], ◌∷◌, length, true, false, None, refl, sym, ◌∙◌, ap, subst, inl, inr, ⊎_elim, cond, arith, bytes_eq}
use Rattle.std.specs.Prelude.{◌==◌}
use Rattle.std.proofs.lemmas.Bool.{cases_Bool, cond-true, cond-false, ne_eqb}
use Rattle.std.proofs.lemmas.Slice.Eq.{bytes_eq-Decides}
use Rattle.sms_base.proofs.OctetLaws.{cases_octets, differ}
use Rattle.sms_base.specs.Among.{Among}
use Rattle.sms_base.specs.Msisdn.{IsMsisdn}
use Rattle.sms_centre_rows.specs.declared.waiting.handset_link.HandsetLink.{HandsetLink}
use Rattle.sms_centre_rows.specs.waiting.Links.{link_at, with_link}
use Rattle.sms_centre_rows.proofs.waiting.LinksRepresented.{put_at_other}
use Rattle.sms_centre_queue.specs.queues.LinkOrder.{AreLinks, link_place_from}
use Rattle.sms_centre_queue.specs.queues.Queues.{link_count_now}

-- ---- one link

pub put_here : (link l : HandsetLink) (ls : List HandsetLink) → l.handset ≡ link.handset → with_link link (l ∷ ls) ≡ link ∷ ls
put_here link l ls e = cond-true (bytes_eq l.handset link.handset) (link ∷ ls) (l ∷ with_link link ls) ((bytes_eq-Decides l.handset link.handset).1 e)

pub put_behind : (link l : HandsetLink) (ls : List HandsetLink) → ¬ (l.handset ≡ link.handset) → with_link link (l ∷ ls) ≡ l ∷ with_link link ls
put_behind link l ls ne = cond-false (bytes_eq l.handset link.handset) (link ∷ ls) (l ∷ with_link link ls) (differ l.handset link.handset ne)

pub arrived_here : (place : ℕ) (number : List ℕ) (l : HandsetLink) (ls : List HandsetLink) → l.handset ≡ number → link_place_from place number (l ∷ ls) ≡ place
arrived_here place number l ls e = cond-true (bytes_eq l.handset number) place (link_place_from (place + 1) number ls) ((bytes_eq-Decides l.handset number).1 e)

pub arrived_behind : (place : ℕ) (number : List ℕ) (l : HandsetLink) (ls : List HandsetLink) → ¬ (l.handset ≡ number) → link_place_from place number (l ∷ ls) ≡ link_place_from (place + 1) number ls
arrived_behind place number l ls ne = cond-false (bytes_eq l.handset number) place (link_place_from (place + 1) number ls) (differ l.handset number ne)

-- ---- the places

pub arrived_other : (place : ℕ) (number : List ℕ) (link : HandsetLink) (ls : List HandsetLink) → ¬ (link.handset ≡ number) → link_place_from place number (with_link link ls) ≡ link_place_from place number ls
arrived_other place number link [] ne = arrived_behind place number link [] ne
arrived_other place number link (l ∷ ls) ne = ⊎_elim
    (λ (e : l.handset ≡ link.handset).
    ap (λ (r : List HandsetLink). link_place_from place number r) (put_here link l ls e) ∙ arrived_behind place number link ls ne
    ∙ sym (arrived_behind place number l ls (λ q. ne (sym e ∙ q))))
    (λ (e : l.handset ≡ link.handset → ⊥).
    ap (λ (r : List HandsetLink). link_place_from place number r) (put_behind link l ls e) ∙ ⊎_elim
    (λ (t : l.handset ≡ number). arrived_here place number l (with_link link ls) t ∙ sym (arrived_here place number l ls t))
    (λ (t : l.handset ≡ number → ⊥).
    arrived_behind place number l (with_link link ls) t ∙ arrived_other (place + 1) number link ls ne ∙ sym (arrived_behind place number l ls t))
    (cases_octets l.handset number))
    (cases_octets l.handset link.handset)

-- it has a place, or the one behind that many links
abbrev place_behind : ℕ → ℕ → ℕ
place_behind link_place behind = cond (link_place == 0) behind link_place

stays_at : (link_place behind : ℕ) → 0 < link_place → place_behind link_place behind ≡ link_place
stays_at link_place behind some = cond-false (link_place == 0) behind link_place (ne_eqb link_place 0 (λ e. absurd (omega (arith, some))))

pub arrived_own : (place : ℕ) (link : HandsetLink) (ls : List HandsetLink) → 0 < place → link_place_from place link.handset (with_link link ls) ≡ place_behind (link_place_from place link.handset ls) (length ls + place)
arrived_own place link [] some = let behind : place ≡ length {A = HandsetLink} [] + place = omega arith in arrived_here place link.handset link [] refl ∙ behind
arrived_own place link (l ∷ ls) some = ⊎_elim
    (λ (e : l.handset ≡ link.handset).
    ap (λ (r : List HandsetLink). link_place_from place link.handset r) (put_here link l ls e) ∙ arrived_here place link.handset link ls refl
    ∙ sym (ap (λ (n : ℕ). place_behind n (length (l ∷ ls) + place)) (arrived_here place link.handset l ls e) ∙ stays_at place (length (l ∷ ls) + place) some))
    (λ (e : l.handset ≡ link.handset → ⊥).
    let one_more : length ls + (place + 1) ≡ length (l ∷ ls) + place = omega arith in
    ap (λ (r : List HandsetLink). link_place_from place link.handset r) (put_behind link l ls e) ∙ arrived_behind place link.handset l (with_link link ls) e
    ∙ arrived_own (place + 1) link ls (omega arith)
    ∙ ap (λ (n : ℕ). place_behind (link_place_from (place + 1) link.handset ls) n) one_more
    ∙ sym (ap (λ (n : ℕ). place_behind n (length (l ∷ ls) + place)) (arrived_behind place link.handset l ls e)))
    (cases_octets l.handset link.handset)

-- ---- how many links there are

pub link_count_put : (place : ℕ) (link : HandsetLink) (ls : List HandsetLink) → 0 < place → length (with_link link ls) ≡ link_count_now (link_place_from place link.handset ls) (length ls)
link_count_put place link [] some = refl
link_count_put place link (l ∷ ls) some = ⊎_elim
    (λ (e : l.handset ≡ link.handset).
    ap (λ (r : List HandsetLink). length r) (put_here link l ls e)
    ∙ sym (ap (λ (n : ℕ). link_count_now n (length (l ∷ ls))) (arrived_here place link.handset l ls e)
    ∙ cond-false (place == 0) (length (l ∷ ls) + 1) (length (l ∷ ls)) (ne_eqb place 0 (λ z. absurd (omega (arith, some))))))
    (λ (e : l.handset ≡ link.handset → ⊥).
    let n : ℕ = link_place_from (place + 1) link.handset ls in
    let one_more : length ls + 1 ≡ length (l ∷ ls) = omega arith in
    let behind : length (l ∷ with_link link ls) ≡ length (with_link link ls) + 1 = omega arith in
    ap (λ (r : List HandsetLink). length r) (put_behind link l ls e) ∙ behind ∙ ap (λ (m : ℕ). m + 1) (link_count_put (place + 1) link ls (omega arith))
    ∙ grows n (length ls) ∙ ap (λ (m : ℕ). link_count_now n m) one_more ∙ sym (ap (λ (m : ℕ). link_count_now m (length (l ∷ ls))) (arrived_behind place link.handset l ls e)))
    (cases_octets l.handset link.handset)
  where
    grows : (n m : ℕ) → link_count_now n m + 1 ≡ link_count_now n (m + 1)
    grows n m = ⊎_elim
        (λ (t : (n == 0) ≡ true). ap (λ (k : ℕ). k + 1) (cond-true (n == 0) (m + 1) m t) ∙ sym (cond-true (n == 0) (m + 1 + 1) (m + 1) t))
        (λ (t : (n == 0) ≡ false). ap (λ (k : ℕ). k + 1) (cond-false (n == 0) (m + 1) m t) ∙ sym (cond-false (n == 0) (m + 1 + 1) (m + 1) t))
        (cases_Bool (n == 0))

-- ---- what holds of all links

pub digits_put : (link : HandsetLink) (ls : List HandsetLink) → IsMsisdn link.handset → ((l : HandsetLink) → Among l ls → IsMsisdn l.handset) → (l : HandsetLink) → Among l (with_link link ls) → IsMsisdn l.handset
digits_put link [] d f l m = ⊎_elim
    (λ (e : l ≡ link). subst (λ (x : HandsetLink). IsMsisdn x.handset) (sym e) d)
    (λ (r : Among l []). elim r [ ])
    m
digits_put link (x ∷ xs) d f l m = ⊎_elim
    (λ (e : x.handset ≡ link.handset). ⊎_elim
    (λ (q : l ≡ link). subst (λ (y : HandsetLink). IsMsisdn y.handset) (sym q) d)
    (λ (r : Among l xs). f l (inr r))
    (subst (λ (r : List HandsetLink). Among l r) (put_here link x xs e) m))
    (λ (e : x.handset ≡ link.handset → ⊥). ⊎_elim
    (λ (q : l ≡ x). f l (inl q))
    (λ (r : Among l (with_link link xs)). digits_put link xs d (λ y n. f y (inr n)) l r)
    (subst (λ (r : List HandsetLink). Among l r) (put_behind link x xs e) m))
    (cases_octets x.handset link.handset)

pub apart_put : (link : HandsetLink) (ls : List HandsetLink) → AreLinks ls → AreLinks (with_link link ls)
apart_put link [] a = (refl, tt)
apart_put link (l ∷ ls) a = ⊎_elim
    (λ (e : l.handset ≡ link.handset).
    let none : link_at link.handset ls ≡ None = subst (λ (n : List ℕ). link_at n ls ≡ None) e a.0 in
    subst AreLinks (sym (put_here link l ls e)) (none, a.1))
    (λ (e : l.handset ≡ link.handset → ⊥).
    let none : link_at l.handset (with_link link ls) ≡ None = put_at_other l.handset link ls (λ q. e (sym q)) ∙ a.0 in
    subst AreLinks (sym (put_behind link l ls e)) (none, apart_put link ls a.1))
    (cases_octets l.handset link.handset)
