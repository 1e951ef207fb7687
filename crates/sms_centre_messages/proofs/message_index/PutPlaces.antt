-- One change of a part more, and where the parts stand that were put.
use Rattle.std.proofs.Common.{◌≡◌, ℕ, ◌+◌, List, [], ◌∷◌, ◌++◌, length, nat_eq, cond, Option, Some, None, eq-eqb, refl, sym, ◌∙◌, ap, subst, ⊎_elim, arith, Bool, true, false}
use Rattle.std.specs.Map.{lookup}
use Rattle.std.specs.Option.{option_and_then, option_map, option_or}
use Rattle.std.proofs.lemmas.Bool.{cases_eq, ne_eqb, cond-true, cond-false}
use Rattle.sms_centre_rows.specs.declared.messages.part.PartRow.{PartRow}
use Rattle.sms_centre_rows.specs.messages.Messages.{part_key}
use Rattle.sms_centre_rows.specs.declared.waiting.revision.Revision.{Revision}
use Rattle.sms_centre_rows.specs.declared.waiting.revision.Revision.TheVariants.{Put, Amend, Remove}
use Rattle.sms_centre_rows.specs.waiting.Revisions.{oldest_first}
use Rattle.sms_centre_messages.specs.message_index.Puts.{HasPuts, newest_put, put_at, put_at_key, put_in, put_of, tpdu_of, tpdu_put}
use Rattle.sms_centre_messages.proofs.message_index.Places.{get_before, get_last}

-- ---- the newest of many

or_none : {A : Type 0} (o : Option A) → option_or o None ≡ o
or_none None = refl
or_none (Some x) = refl

or_again : {A : Type 0} (a b c : Option A) → option_or (option_or a b) c ≡ option_or a (option_or b c)
or_again None b c = refl
or_again (Some x) b c = refl

newest_push : (key : ℕ) (cs : List (Revision PartRow)) (c : Revision PartRow) → newest_put key (cs ++ c ∷ []) ≡ option_or (put_at_key key c) (newest_put key cs)
newest_push key [] c = sym (or_none (put_at_key key c))
newest_push key (d ∷ cs) c =
    ap (λ (o : Option PartRow). option_or o (put_at_key key d)) (newest_push key cs c) ∙ or_again (put_at_key key c) (newest_put key cs) (put_at_key key d)

or_cond : (b : Bool) (p : PartRow) (o : Option PartRow) → option_or (cond b (Some p) None) o ≡ cond b (Some p) o
or_cond true p o = refl
or_cond false p o = refl

front_put : (key : ℕ) (c : Revision PartRow) (news : List (Revision PartRow)) → option_or (put_at_key key c) (put_in key news) ≡ put_in key (c ∷ news)
front_put key (Put p) news = or_cond (nat_eq (part_key p) key) p (put_in key news)
front_put key (Amend n progress) news = refl
front_put key (Remove n) news = refl

newest_of_news : (key : ℕ) (news : List (Revision PartRow)) → newest_put key (oldest_first news) ≡ put_in key news
newest_of_news key [] = refl
newest_of_news key (c ∷ news) =
    newest_push key (oldest_first news) c ∙ ap (λ (o : Option PartRow). option_or (put_at_key key c) o) (newest_of_news key news) ∙ front_put key c news

pub tpdu_of_news : (key : ℕ) (changes news : List (Revision PartRow)) → changes ≡ oldest_first news → option_map tpdu_of (newest_put key changes) ≡ tpdu_put key news
tpdu_of_news key changes news is = ap (λ (cs : List (Revision PartRow)). option_map tpdu_of (newest_put key cs)) is ∙ ap (λ (o : Option PartRow). option_map tpdu_of o) (newest_of_news key news)

-- ---- their places

pub no_puts : (places : List (ℕ × ℕ)) → places ≡ [] → HasPuts [] places
no_puts places none = record {
  within = λ n place e. let q : None ≡ Some place = ap (λ (l : List (ℕ × ℕ)). lookup (nat_eq n) l) (sym none) ∙ e in absurd cc;
  newest = λ n. ap (λ (l : List (ℕ × ℕ)). option_and_then (put_at []) (lookup (nat_eq n) l)) (sym none);
}

length_more : (cs : List (Revision PartRow)) (c : Revision PartRow) → length (cs ++ c ∷ []) ≡ length cs + 1
length_more [] c = omega arith
length_more (d ∷ cs) c = let l = length_more cs c in omega (arith, l)

same_before : (cs : List (Revision PartRow)) (c : Revision PartRow) (old : List (ℕ × ℕ)) (n : ℕ) → HasPuts cs old → (o : Option ℕ) → lookup (nat_eq n) old ≡ o
    → option_and_then (put_at (cs ++ c ∷ [])) o ≡ option_and_then (put_at cs) o
same_before cs c old n has None e = refl
same_before cs c old n has (Some place) e = ap (λ (o : Option (Revision PartRow)). option_and_then put_of o) (get_before cs c place (has.within n place e))

-- a change that puts no part
pub puts_stay : (cs after : List (Revision PartRow)) (c : Revision PartRow) (places : List (ℕ × ℕ)) → HasPuts cs places → after ≡ cs ++ c ∷ [] → ((key : ℕ) → put_at_key key c ≡ None) → HasPuts after places
puts_stay cs after c places has pushed none =
    subst (λ (l : List (Revision PartRow)). HasPuts l places) (sym pushed) (record {
      within = λ n place e.
          let l = has.within n place e in
          let more = length_more cs c in
          omega (arith, l, more);
      newest = λ n.
          newest_push n cs c ∙ ap (λ (o : Option PartRow). option_or o (newest_put n cs)) (none n) ∙ has.newest n ∙ sym (same_before cs c places n has (lookup (nat_eq n) places) refl);
    })

-- a part more that was put
puts_more : (cs : List (Revision PartRow)) (p : PartRow) (old new : List (ℕ × ℕ)) → HasPuts cs old
    → ((n : ℕ) → part_key p ≡ n → lookup (nat_eq n) new ≡ Some (length cs)) → ((n : ℕ) → ¬ (part_key p ≡ n) → lookup (nat_eq n) new ≡ lookup (nat_eq n) old) → HasPuts (cs ++ Put p ∷ []) new
puts_more cs p old new has own other = record {
  within = λ n place e. ⊎_elim
      (λ (q : part_key p ≡ n).
      let s : Some (length cs) ≡ Some place = sym (own n q) ∙ e in
      let is : length cs ≡ place = cc in
      let more = length_more cs (Put p) in
      omega (arith, is, more))
      (λ (q : part_key p ≡ n → ⊥).
      let l = has.within n place (sym (other n q) ∙ e) in
      let more = length_more cs (Put p) in
      omega (arith, l, more))
      (cases_eq (part_key p) n);
  newest = λ n. ⊎_elim
      (λ (q : part_key p ≡ n).
      newest_push n cs (Put p)
      ∙ ap (λ (o : Option PartRow). option_or o (newest_put n cs)) (cond-true (nat_eq (part_key p) n) (Some p) None (eq-eqb (part_key p) n q))
      ∙ sym (ap (λ (o : Option ℕ). option_and_then (put_at (cs ++ Put p ∷ [])) o) (own n q) ∙ ap (λ (o : Option (Revision PartRow)). option_and_then put_of o) (get_last cs (Put p))))
      (λ (q : part_key p ≡ n → ⊥).
      newest_push n cs (Put p)
      ∙ ap (λ (o : Option PartRow). option_or o (newest_put n cs)) (cond-false (nat_eq (part_key p) n) (Some p) None (ne_eqb (part_key p) n q)) ∙ has.newest n
      ∙ sym (ap (λ (o : Option ℕ). option_and_then (put_at (cs ++ Put p ∷ [])) o) (other n q) ∙ same_before cs (Put p) old n has (lookup (nat_eq n) old) refl))
      (cases_eq (part_key p) n);
}

-- as it is written down
pub puts_pushed : (cs reserved after : List (Revision PartRow)) (p : PartRow) (k place : ℕ) (old new : List (ℕ × ℕ)) → HasPuts cs old → reserved ≡ cs → after ≡ reserved ++ Put p ∷ []
    → k ≡ part_key p → place ≡ length reserved → ((n : ℕ) → lookup (nat_eq n) new ≡ cond (nat_eq k n) (Some place) (lookup (nat_eq n) old)) → HasPuts after new
puts_pushed cs reserved after p k place old new has same pushed is at written =
    subst (λ (l : List (Revision PartRow)). HasPuts l new) (sym (pushed ∙ ap (λ (l : List (Revision PartRow)). l ++ Put p ∷ []) same))
    (puts_more cs p old new has
    (λ n q. written n ∙ cond-true (nat_eq k n) (Some place) (lookup (nat_eq n) old) (eq-eqb k n (is ∙ q)) ∙ ap (λ (i : ℕ). Some i) (at ∙ ap (λ (l : List (Revision PartRow)). length l) same))
    (λ n q. written n ∙ cond-false (nat_eq k n) (Some place) (lookup (nat_eq n) old) (ne_eqb k n (λ (e : k ≡ n). q (sym is ∙ e)))))
