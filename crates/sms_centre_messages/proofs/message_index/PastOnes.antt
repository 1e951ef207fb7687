-- The numbers that are looked up are those of the messages that are past, in order.
use Rattle.std.proofs.Common.{◌≡◌, ◌⊎◌, ℕ, suc, ◌<◌, ◌≤◌, List, [], ◌∷◌, ◌++◌, ◌+◌, length, get_or, drop, true, false, Option, Some, None, true≢false, append-nil, append_assoc, refl, sym, ◌∙◌, ap, subst, inl, inr, ⊎_elim, eq-eqb, arith}
use Rattle.std.specs.List.{AllByRecursion}
use Rattle.std.specs.List.Sorted.{IsNonDecreasing}
use Rattle.std.specs.Option.{option_to_list}
use Rattle.std.specs.Prelude.{◌==◌}
use Rattle.std.proofs.lemmas.Bool.{cases_Bool, cases_eq, cond-true, cond-false, ne_eqb}
use Rattle.std.proofs.lemmas.List.{at_drop_all, at_drop_more}
use Rattle.sms_base.proofs.Lists.{among_back, among_parts}
use Rattle.sms_base.specs.Among.{Among}
use Rattle.sms_rows.specs.table.Table.{AllAbove, Rises, row_at}
use Rattle.sms_rows.proofs.table.Tables.{above_lower, among_found, found_among, found_key}
use Rattle.sms_centre_rows.proofs.waiting.Alike.{rises_alike}
use Rattle.sms_centre_rows.specs.declared.messages.message.MessageRow.{MessageRow}
use Rattle.sms_centre_rows.specs.messages.Messages.{message_at, message_key}
use Rattle.sms_centre_messages.specs.message_index.MessageIndex.{CoversPast, is_past, past_id, past_ids}
use Rattle.sms_centre_messages.specs.message_index.Expiring.{all_past, confirmed, confirmed_one, each_numbered, is_repeated, step_at}

abbrev own : ℕ → ℕ
own n = n

-- ---- lists of numbers

abbrev AllFrom : ℕ → List ℕ → Type 0
AllFrom b ns = AllByRecursion (λ (n : ℕ). b ≤ n) ns

abbrev InOrder : List ℕ → Type 0
InOrder [] = Unit {0}
InOrder (n ∷ ns) = AllFrom n ns × InOrder ns

each_from : (b : ℕ) (ns : List ℕ) → ((k : ℕ) → k < length ns → b ≤ get_or ns k 0) → AllFrom b ns
each_from b [] f = tt
each_from b (n ∷ ns) f = (f 0 (omega arith), each_from b ns (λ k l. f (suc k) (omega (arith, l))))

in_order : (ns : List ℕ) → IsNonDecreasing ns → InOrder ns
in_order [] h = tt
in_order (n ∷ ns) h =
    (each_from n ns (λ k l. h 0 (suc k) 0 (omega arith) (omega (arith, l))), in_order ns (λ i j d le l. h (suc i) (suc j) d (omega (arith, le)) (omega (arith, l))))

-- rising lists with the same members are the same
same_at : (xs ys : List ℕ) (k : ℕ) → Rises own xs → Rises own ys → ((x : ℕ) → Among x xs → Among x ys) → ((x : ℕ) → Among x ys → Among x xs) → row_at own k xs ≡ row_at own k ys
same_at xs ys k a b f g = by (row_at own k xs) (row_at own k ys) refl refl where
  by : (o p : Option ℕ) → row_at own k xs ≡ o → row_at own k ys ≡ p → row_at own k xs ≡ row_at own k ys
  by (Some x) p e q =
      let there : row_at own x ys ≡ Some x = among_found own x ys b (f x (found_among own k x xs e)) in
      e ∙ sym (ap (λ (n : ℕ). row_at own n ys) (sym (found_key own k x xs e)) ∙ there)
  by None (Some y) e q =
      let there : row_at own y xs ≡ Some y = among_found own y xs a (g y (found_among own k y ys q)) in
      ap (λ (n : ℕ). row_at own n xs) (sym (found_key own k y ys q)) ∙ there ∙ sym q
  by None None e q = e ∙ sym q

alike : (xs ys : List ℕ) → Rises own xs → Rises own ys → ((x : ℕ) → Among x xs → Among x ys) → ((x : ℕ) → Among x ys → Among x xs) → xs ≡ ys
alike xs ys a b f g = rises_alike own xs ys a b (λ k. same_at xs ys k a b f g)

-- ---- messages that are past

past_here : (now : ℕ) (m : MessageRow) → is_past now m ≡ true → past_id now (Some m) ≡ Some m.id
past_here now m p = cond-true (is_past now m) (Some m.id) None p

past_only : (now x : ℕ) (m : MessageRow) → past_id now (Some m) ≡ Some x → (is_past now m ≡ true) × (m.id ≡ x)
past_only now x m e = ⊎_elim
    (λ (t : is_past now m ≡ true). let s : Some m.id ≡ Some x = sym (past_here now m t) ∙ e in (t, let is : m.id ≡ x = cc in is))
    (λ (f : is_past now m ≡ false). let s : None ≡ Some x = sym (cond-false (is_past now m) (Some m.id) None f) ∙ e in absurd cc)
    (cases_Bool (is_past now m))

ids_here : (now : ℕ) (m : MessageRow) (ms : List MessageRow) → is_past now m ≡ true → past_ids now (m ∷ ms) ≡ m.id ∷ past_ids now ms
ids_here now m ms p = cond-true (is_past now m) (m.id ∷ past_ids now ms) (past_ids now ms) p

ids_behind : (now : ℕ) (m : MessageRow) (ms : List MessageRow) → is_past now m ≡ false → past_ids now (m ∷ ms) ≡ past_ids now ms
ids_behind now m ms p = cond-false (is_past now m) (m.id ∷ past_ids now ms) (past_ids now ms) p

past_among : (now : ℕ) (m : MessageRow) (ms : List MessageRow) → Among m ms → is_past now m ≡ true → Among m.id (past_ids now ms)
past_among now m [] a p = elim a [ ]
past_among now m (x ∷ xs) a p = ⊎_elim
    (λ (e : m ≡ x). subst (λ (l : List ℕ). Among m.id l) (sym (ids_here now x xs (ap (λ (y : MessageRow). is_past now y) (sym e) ∙ p))) (inl (ap (λ (y : MessageRow). y.id) e)))
    (λ (r : Among m xs). ⊎_elim
    (λ (t : is_past now x ≡ true). subst (λ (l : List ℕ). Among m.id l) (sym (ids_here now x xs t)) (inr (past_among now m xs r p)))
    (λ (t : is_past now x ≡ false). subst (λ (l : List ℕ). Among m.id l) (sym (ids_behind now x xs t)) (past_among now m xs r p))
    (cases_Bool (is_past now x)))
    a

among_past : (now x : ℕ) (ms : List MessageRow) → Among x (past_ids now ms) → (m : MessageRow) × (Among m ms × ((is_past now m ≡ true) × (m.id ≡ x)))
among_past now x [] a = elim a [ ]
among_past now x (m ∷ ms) a = ⊎_elim
    (λ (t : is_past now m ≡ true). ⊎_elim
    (λ (e : x ≡ m.id). (m, (inl refl, (t, sym e))))
    (λ (r : Among x (past_ids now ms)). let f = among_past now x ms r in (f.0, (inr f.1.0, f.1.1)))
    (subst (λ (l : List ℕ). Among x l) (ids_here now m ms t) a))
    (λ (t : is_past now m ≡ false). let f = among_past now x ms (subst (λ (l : List ℕ). Among x l) (ids_behind now m ms t) a) in (f.0, (inr f.1.0, f.1.1)))
    (cases_Bool (is_past now m))

above_past : (now b : ℕ) (ms : List MessageRow) → AllAbove message_key b ms → AllAbove own b (past_ids now ms)
above_past now b [] h = tt
above_past now b (m ∷ ms) h = ⊎_elim
    (λ (t : is_past now m ≡ true). subst (λ (l : List ℕ). AllAbove own b l) (sym (ids_here now m ms t)) (h.0, above_past now b ms h.1))
    (λ (t : is_past now m ≡ false). subst (λ (l : List ℕ). AllAbove own b l) (sym (ids_behind now m ms t)) (above_past now b ms h.1))
    (cases_Bool (is_past now m))

rises_past : (now : ℕ) (ms : List MessageRow) → Rises message_key ms → Rises own (past_ids now ms)
rises_past now [] h = tt
rises_past now (m ∷ ms) h = ⊎_elim
    (λ (t : is_past now m ≡ true). subst (λ (l : List ℕ). Rises own l) (sym (ids_here now m ms t)) (above_past now m.id ms h.0, rises_past now ms h.1))
    (λ (t : is_past now m ≡ false). subst (λ (l : List ℕ). Rises own l) (sym (ids_behind now m ms t)) (rises_past now ms h.1))
    (cases_Bool (is_past now m))

-- ---- numbers that are looked up

module _ (now : ℕ) (ms : List MessageRow) where
  found_number : (n x : ℕ) → past_id now (message_at n ms) ≡ Some x → x ≡ n
  found_number n x e = by (message_at n ms) refl e where
    by : (o : Option MessageRow) → message_at n ms ≡ o → past_id now o ≡ Some x → x ≡ n
    by None q f = absurd cc
    by (Some m) q f = sym (past_only now x m f).1 ∙ found_key message_key n m ms q

  -- what is looked up of a number that isn't the one before
  once : (last : Option ℕ) (n : ℕ) → is_repeated n last ≡ false → confirmed_one now ms last n ≡ option_to_list (past_id now (message_at n ms))
  once last n f = cond-false (is_repeated n last) [] (option_to_list (past_id now (message_at n ms))) f

  -- each that is looked up is the number itself
  one_is : (last : Option ℕ) (n x : ℕ) → Among x (confirmed_one now ms last n) → (x ≡ n) × ((past_id now (message_at x ms) ≡ Some x) × (is_repeated n last ≡ false))
  one_is last n x a = ⊎_elim
      (λ (t : is_repeated n last ≡ true). elim (subst (λ (l : List ℕ). Among x l) (cond-true (is_repeated n last) [] (option_to_list (past_id now (message_at n ms))) t) a) [ ])
      (λ (f : is_repeated n last ≡ false). by (past_id now (message_at n ms)) refl (subst (λ (l : List ℕ). Among x l) (once last n f) a) f)
      (cases_Bool (is_repeated n last))
    where
      by : (o : Option ℕ) → past_id now (message_at n ms) ≡ o → Among x (option_to_list o) → is_repeated n last ≡ false → (x ≡ n) × ((past_id now (message_at x ms) ≡ Some x) × (is_repeated n last ≡ false))
      by None q b f = elim b [ ]
      by (Some y) q b f = ⊎_elim
          (λ (e : x ≡ y).
          let is : x ≡ n = e ∙ found_number n y q in
          (is, (ap (λ (k : ℕ). past_id now (message_at k ms)) is ∙ q ∙ ap (λ (k : ℕ). Some k) (sym e), f)))
          (λ (r : Among x []). elim r [ ])
          b

  confirmed_are : (last : Option ℕ) (ns : List ℕ) (x : ℕ) → Among x (confirmed now ms last ns) → past_id now (message_at x ms) ≡ Some x
  confirmed_are last [] x a = elim a [ ]
  confirmed_are last (n ∷ ns) x a = ⊎_elim
      (λ (b : Among x (confirmed_one now ms last n)). (one_is last n x b).1.0)
      (λ (b : Among x (confirmed now ms (Some n) ns)). confirmed_are (Some n) ns x b)
      (among_parts x (confirmed_one now ms last n) (confirmed now ms (Some n) ns) a)

  are_confirmed : (last : Option ℕ) (ns : List ℕ) (x : ℕ) → Among x ns → is_repeated x last ≡ false → past_id now (message_at x ms) ≡ Some x → Among x (confirmed now ms last ns)
  are_confirmed last [] x a f p = elim a [ ]
  are_confirmed last (n ∷ ns) x a f p = ⊎_elim
      (λ (e : x ≡ n).
      let one : confirmed_one now ms last x ≡ x ∷ [] = once last x f ∙ ap (λ (o : Option ℕ). option_to_list o) p in
      subst (λ (k : ℕ). Among x (confirmed_one now ms last k ++ confirmed now ms (Some k) ns)) e
      (subst (λ (l : List ℕ). Among x (l ++ confirmed now ms (Some x) ns)) (sym one) (inl refl)))
      (λ (e : x ≡ n → ⊥).
      among_back x (confirmed_one now ms last n) (confirmed now ms (Some n) ns)
      (are_confirmed (Some n) ns x (⊎_elim (λ (q : x ≡ n). absurd (e q)) (λ (r : Among x ns). r) a) (ne_eqb n x (λ (q : n ≡ x). e (sym q))) p))
      (cases_eq x n)

  -- all that are looked up behind a number are above it
  above_one : (b : ℕ) (n : ℕ) (last : Option ℕ) → (is_repeated n last ≡ false → b < n) → AllAbove own b (confirmed_one now ms last n)
  above_one b n last f = by (confirmed_one now ms last n) (λ x a. a) where
    by : (xs : List ℕ) → ((x : ℕ) → Among x xs → Among x (confirmed_one now ms last n)) → AllAbove own b xs
    by [] g = tt
    by (x ∷ xs) g =
        let is = one_is last n x (g x (inl refl)) in
        (let l = f is.1.1 in let e = is.0 in omega (arith, l, e), by xs (λ y a. g y (inr a)))

  above_both : (b : ℕ) (xs ys : List ℕ) → AllAbove own b xs → AllAbove own b ys → AllAbove own b (xs ++ ys)
  above_both b [] ys p q = q
  above_both b (x ∷ xs) ys p q = (p.0, above_both b xs ys p.1 q)

  above_before : (b : ℕ) (ns : List ℕ) → AllFrom b ns → InOrder ns → AllAbove own b (confirmed now ms (Some b) ns)
  above_before b [] from order = tt
  above_before b (n ∷ ns) from order = above_both b (confirmed_one now ms (Some b) n) (confirmed now ms (Some n) ns)
      (above_one b n (Some b) (λ (f : (b == n) ≡ false). ⊎_elim
      (λ (e : b ≡ n). absurd (true≢false (sym (eq-eqb b n e) ∙ f)))
      (λ (e : b ≡ n → ⊥). let l = from.0 in omega (arith, l, e))
      (cases_eq b n)))
      (above_lower own b n (confirmed now ms (Some n) ns) from.0 (above_before n ns order.0 order.1))

  rises_one : (n : ℕ) (last : Option ℕ) (ys : List ℕ) → AllAbove own n ys → Rises own ys → Rises own (confirmed_one now ms last n ++ ys)
  rises_one n last ys above rises = ⊎_elim
      (λ (t : is_repeated n last ≡ true). subst (λ (l : List ℕ). Rises own (l ++ ys)) (sym (cond-true (is_repeated n last) [] (option_to_list (past_id now (message_at n ms))) t)) rises)
      (λ (f : is_repeated n last ≡ false). subst (λ (l : List ℕ). Rises own (l ++ ys)) (sym (once last n f)) (by (past_id now (message_at n ms)) refl))
      (cases_Bool (is_repeated n last))
    where
      by : (o : Option ℕ) → past_id now (message_at n ms) ≡ o → Rises own (option_to_list o ++ ys)
      by None q = rises
      by (Some x) q = (subst (λ (k : ℕ). AllAbove own k ys) (sym (found_number n x q)) above, rises)

  rises_confirmed : (last : Option ℕ) (ns : List ℕ) → InOrder ns → Rises own (confirmed now ms last ns)
  rises_confirmed last [] order = tt
  rises_confirmed last (n ∷ ns) order = rises_one n last (confirmed now ms (Some n) ns) (above_before n ns order.0 order.1) (rises_confirmed (Some n) ns order.1)

  pub all_confirmed : (ns : List ℕ) → Rises message_key ms → IsNonDecreasing ns → CoversPast now ms ns → confirmed now ms None ns ≡ past_ids now ms
  all_confirmed ns keys order covers =
      alike (confirmed now ms None ns) (past_ids now ms) (rises_confirmed None ns (in_order ns order)) (rises_past now ms keys)
      (λ x a. stands x (message_at x ms) refl (confirmed_are None ns x a))
      (λ x a.
      let f = among_past now x ms a in
      let at : message_at f.0.id ms ≡ Some f.0 = among_found message_key f.0 ms keys f.1.0 in
      let found : past_id now (message_at f.0.id ms) ≡ Some f.0.id = ap (λ (o : Option MessageRow). past_id now o) at ∙ past_here now f.0 f.1.1.0 in
      subst (λ (k : ℕ). Among k (confirmed now ms None ns)) f.1.1.1 (are_confirmed None ns f.0.id (covers f.0 f.1.0 f.1.1.0) refl found))
    where
      stands : (x : ℕ) (o : Option MessageRow) → message_at x ms ≡ o → past_id now (message_at x ms) ≡ Some x → Among x (past_ids now ms)
      stands x None q e = let s : None ≡ Some x = sym (ap (λ (p : Option MessageRow). past_id now p) q) ∙ e in absurd cc
      stands x (Some m) q e =
          let p = past_only now x m (sym (ap (λ (r : Option MessageRow). past_id now r) q) ∙ e) in
          subst (λ (k : ℕ). Among k (past_ids now ms)) p.1 (past_among now m ms (found_among message_key x m ms q) p.0)

  -- the next one is looked up
  pub next_confirmed : (last : Option ℕ) (numbers ids done total : List ℕ) (i n : ℕ) → i < length numbers → n ≡ get_or numbers i n → done ≡ ids ++ confirmed_one now ms last n
      → ids ++ confirmed now ms last (drop i numbers) ≡ total → done ++ confirmed now ms (Some n) (drop (i + 1) numbers) ≡ total
  next_confirmed last numbers ids done total i n l is came so_far =
      let rest = confirmed now ms (Some n) (drop (i + 1) numbers) in
      ap (λ (x : List ℕ). x ++ rest) came ∙ append_assoc ids (confirmed_one now ms last n) rest
      ∙ sym (ap (λ (x : List ℕ). ids ++ x) (at_drop_more (λ (x : List ℕ). confirmed now ms last x) numbers i n l
      ∙ ap (λ (k : ℕ). confirmed_one now ms last k ++ confirmed now ms (Some k) (drop (i + 1) numbers)) (sym is)))
      ∙ so_far

  pub last_confirmed : (last : Option ℕ) (numbers ids total : List ℕ) (i : ℕ) → length numbers ≤ i → ids ++ confirmed now ms last (drop i numbers) ≡ total → ids ≡ total
  last_confirmed last numbers ids total i l so_far =
      sym (ap (λ (x : List ℕ). ids ++ x) (at_drop_all (λ (x : List ℕ). confirmed now ms last x) numbers i l) ∙ append-nil ids) ∙ so_far

-- ---- a step for each

each_of : {S : Type 0} (step : MessageRow → S → S) (now : ℕ) (ms xs : List MessageRow) (s : S) → ((m : MessageRow) → Among m xs → message_at m.id ms ≡ Some m)
    → all_past step now xs s ≡ each_numbered step ms (past_ids now xs) s
each_of step now ms [] s there = refl
each_of {S} step now ms (m ∷ xs) s there = ⊎_elim
    (λ (t : is_past now m ≡ true).
    ap (λ (r : S). all_past step now xs r) (cond-true (is_past now m) (step m s) s t)
    ∙ each_of step now ms xs (step m s) (λ n a. there n (inr a))
    ∙ sym (ap (λ (l : List ℕ). each_numbered step ms l s) (ids_here now m xs t)
    ∙ ap (λ (o : Option MessageRow). each_numbered step ms (past_ids now xs) (step_at step o s)) (there m (inl refl))))
    (λ (t : is_past now m ≡ false).
    ap (λ (r : S). all_past step now xs r) (cond-false (is_past now m) (step m s) s t)
    ∙ each_of step now ms xs s (λ n a. there n (inr a))
    ∙ sym (ap (λ (l : List ℕ). each_numbered step ms l s) (ids_behind now m xs t)))
    (cases_Bool (is_past now m))

pub each_past : {S : Type 0} (step : MessageRow → S → S) (now : ℕ) (ms : List MessageRow) (s : S) → Rises message_key ms → all_past step now ms s ≡ each_numbered step ms (past_ids now ms) s
each_past step now ms s keys = each_of step now ms ms s (λ m a. among_found message_key m ms keys a)
