-- What the centre keeps of its allocations tells when a reference may be given again, and stays true as references are given.
use Rattle.std.proofs.Common.{◌≡◌, ◌⊎◌, ℕ, ◌<◌, ◌≤◌, List, [], ◌∷◌, true, false, refl, sym, ◌∙◌, subst, inl, inr, ⊎_elim, Option, Some, None, arith, bytes_eq}
use Rattle.std.proofs.lemmas.Bool.{cases_Bool, cases_eq, both_ways}
use Rattle.std.proofs.lemmas.Slice.Eq.{bytes_eq-Decides}
use Rattle.sms_base.specs.Among.{Among}
use Rattle.sms_world_model.specs.World.{Allocation}
use Rattle.sms_world_model.specs.References.{IsEarlier}
use Rattle.sms_world_model.specs.LastAllocations.{LastAllocations, RefinesAllocations, WasEarlier, IsLastAllocation}

earlier_from : (gs : List Allocation) (a : List ℕ) (r m : ℕ) → ((g : Allocation) → Among g gs → g.handset ≡ a → g.reference ≡ r → g.moment < m) → IsEarlier gs a r m
earlier_from [] a r m all = tt
earlier_from (g ∷ gs) a r m all = ((λ p q. all g (inl refl) p q), earlier_from gs a r m (λ x i. all x (inr i)))

was_before : (o : Option ℕ) (second now moment : ℕ) → WasEarlier o now → o ≡ Some second → moment ≤ second → moment < now
was_before None second now moment e is l = absurd (cc)
was_before (Some x) second now moment e is l = let q : x ≡ second = cc in omega (arith, e, q, l)

pub may_give : (latest : LastAllocations) (down : List Allocation) (now : ℕ) (a : List ℕ) (r : ℕ) → RefinesAllocations latest down now → WasEarlier (latest a r) now → IsEarlier down a r now
may_give latest down now a r refines e = earlier_from down a r now (λ g i p q.
    let x = refines.all g i in
    was_before (latest a r) x.0 now g.moment e ((λ j. latest (sym p j) (sym q j)) ∙ x.1.0) x.1.1)

same_place : (a b : List ℕ) (r q : ℕ) → ((a ≡ b) × (r ≡ q)) ⊎ ¬ ((a ≡ b) × (r ≡ q))
same_place a b r q =
    ⊎_elim
    (λ (t : bytes_eq a b ≡ true). ⊎_elim
    (λ (e : r ≡ q). inl ((bytes_eq-Decides a b).0 t, e))
    (λ (n : r ≡ q → ⊥). inr (λ both. n both.1))
    (cases_eq r q))
    (λ (f : bytes_eq a b ≡ false). inr (λ both. both_ways (bytes_eq a b) f ((bytes_eq-Decides a b).1 both.0)))
    (cases_Bool (bytes_eq a b))

one_second : (o : Option ℕ) (a b : ℕ) → o ≡ Some a → o ≡ Some b → a ≡ b
one_second o a b x y = let z : Some a ≡ Some b = sym x ∙ y in cc

pub gave : (latest next : LastAllocations) (down : List Allocation) (now : ℕ) (g : Allocation) → RefinesAllocations latest down now → IsLastAllocation latest next g → g.moment ≡ now → RefinesAllocations next (g ∷ down) now
gave latest next down now g refines k here = record {
  all = λ x i. ⊎_elim
      (λ (e : x ≡ g). subst (λ (y : Allocation). (second : ℕ) × ((next y.handset y.reference ≡ Some second) × (y.moment ≤ second))) (sym e) (g.moment, (k.here, omega arith)))
      (λ (j : Among x down).
      let old = refines.all x j in
      ⊎_elim
      (λ (same : (x.handset ≡ g.handset) × (x.reference ≡ g.reference)).
      let past = refines.past x.handset x.reference old.0 old.1.0 in
      let l = old.1.1 in
      (g.moment, ((λ t. next (same.0 t) (same.1 t)) ∙ k.here, omega (arith, past, l, here))))
      (λ (apart : ¬ ((x.handset ≡ g.handset) × (x.reference ≡ g.reference))). (old.0, (k.there x.handset x.reference apart ∙ old.1.0, old.1.1)))
      (same_place x.handset g.handset x.reference g.reference)) i;
  real = λ a r second is. ⊎_elim
      (λ (same : (a ≡ g.handset) × (r ≡ g.reference)).
      (g, (inl refl, sym same.0, sym same.1, one_second (next g.handset g.reference) g.moment second k.here ((λ t. next (sym same.0 t) (sym same.1 t)) ∙ is))))
      (λ (apart : ¬ ((a ≡ g.handset) × (r ≡ g.reference))).
      let x = refines.real a r second (sym (k.there a r apart) ∙ is) in (x.0, (inr x.1.0, x.1.1, x.1.2, x.1.3)))
      (same_place a g.handset r g.reference);
  past = λ a r second is. ⊎_elim
      (λ (same : (a ≡ g.handset) × (r ≡ g.reference)).
      let e = one_second (next g.handset g.reference) g.moment second k.here ((λ t. next (sym same.0 t) (sym same.1 t)) ∙ is) in omega (arith, e, here))
      (λ (apart : ¬ ((a ≡ g.handset) × (r ≡ g.reference))). refines.past a r second (sym (k.there a r apart) ∙ is))
      (same_place a g.handset r g.reference);
}

pub still_refines : (latest : LastAllocations) (down : List Allocation) (now later : ℕ) → RefinesAllocations latest down now → now ≤ later → RefinesAllocations latest down later
still_refines latest down now later refines l = record { all = refines.all; real = refines.real; past = λ a r second is. let x = refines.past a r second is in omega (arith, x, l) }

pub seen_again : (latest : LastAllocations) (down : List Allocation) (now then : ℕ) → RefinesAllocations latest down now → ((handset : List ℕ) (reference second : ℕ) → latest handset reference ≡ Some second → second ≤ then) → RefinesAllocations latest down then
seen_again latest down now then refines l = record { all = refines.all; real = refines.real; past = l }
