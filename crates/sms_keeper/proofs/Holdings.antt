-- What is held and what is given, put together.
use Rattle.std.proofs.Common.{◌≡◌, ◌≢◌, ◌≤◌, ◌<◌, ◌+◌, ℕ, Bool, true, false, true≢false, List, [], ◌∷◌, ◌++◌, length, Option, refl, sym, ap, subst, ◌∙◌, append_assoc, append-nil, length-append, lit≤, arith}
use Rattle.std.specs.Prelude.{◌==◌, not, is_ok, Result, Ok, Err, OnOk}
use Rattle.std.proofs.lemmas.Bool.{eq-eqb, eqb-true}
use Rattle.sms_seats.specs.Queues.{IsSameQueues, given_by as given_in, ran_by as ran_in}
use Rattle.sms_seats.specs.declared.queues.SeatQueues.{SeatQueues}
use Rattle.sms_seats.proofs.Seating.{same_seats}
use Rattle.sms_keeper.specs.declared.machine.Stimulus.{Stimulus}
use Rattle.sms_keeper.specs.declared.machine.Fate.{Fate}
use Rattle.sms_keeper.specs.declared.machine.Fate.TheVariants.{Done, NoMemory, Refused}
use Rattle.sms_keeper.specs.declared.machine.Item.{Item}
use Rattle.sms_keeper.specs.declared.outs.Out.{Out}
use Rattle.sms_keeper.specs.declared.keeper.End.TheVariants.{AllClosed, Refused as RefusedEnd}
use Rattle.sms_keeper.specs.declared.keeper.HeldItem.{HeldItem}
use Rattle.sms_keeper.specs.declared.keeper.Keeper.{Keeper}
use Rattle.sms_keeper.specs.Fates.{MatchFate, WentOn, AllRefused, IsRefused}
use Rattle.sms_keeper.specs.Groups.{as_item, as_items, IsGroup, IsHolding, IsTerm, LeadsTwoWays, MatchSettled, StandsBy}
use Rattle.sms_keeper.specs.History.{IsHistory, IsRising, IsTimely, Leads, answers_in, asked, asked_by, outs_to, tick_after, work}
use Rattle.sms_keeper.specs.Keeping.{Gave, GaveAll, given_by, last_tick, ran_by, IsSameHub, IsStretch}
use Rattle.sms_keeper.proofs.Histories.{answers_snoc, asked-append, same_length}
use Rattle.sms_keeper.proofs.Stretches.{done≢refused, fate_ended, fate_went, history-append, leads-append, leads_none, no_memory≢refused, rising-append, same_self, same_trans, stretch-append, stretch_none, went-append}

pub settled_so : (b : Bool) (A B : Type 0) → b ≡ true → MatchSettled b A B → A
settled_so true A B e h = h
settled_so false A B e h = absurd (true≢false (sym e))

pub refused_so : (b : Bool) (A B : Type 0) → b ≡ false → MatchSettled b A B → B
refused_so true A B e h = absurd (true≢false e)
refused_so false A B e h = h

pub reserved : {A E : Type 0} (r : Result A E) (b : Bool) (P : Type 0) → is_ok r ≡ not b → b ≡ false → OnOk r P → P
reserved (Ok x) b P negation is h = h
reserved (Err e) b P negation is h = absurd (true≢false (sym (negation ∙ ap not is)))

module _ {A : Type 0} where
  none_of : (xs : List A) → length xs ≡ 0 → xs ≡ []
  none_of [] e = refl
  none_of (x ∷ xs) e = absurd (omega (arith, e))

  pub none_there : (xs ys : List A) (b : Bool) → ys ≡ xs → b ≡ (length ys == 0) → b ≡ true → xs ≡ []
  none_there xs ys b same is e = sym same ∙ none_of ys (eqb-true (length ys) 0 (sym is ∙ e))

  pub some_there : (xs ys : List A) (b : Bool) → ys ≡ xs → b ≡ (length ys == 0) → b ≡ false → xs ≢ []
  some_there xs ys b same is e none = absurd (true≢false (sym (eq-eqb (length ys) 0 (ap length (same ∙ none))) ∙ sym is ∙ e))

  pub more_than_none : (xs ys zs : List A) → zs ≡ xs ++ ys → 1 ≤ length ys → 1 ≤ length zs
  more_than_none xs ys zs e h = let l = ap length e ∙ length-append xs ys in omega (arith, l, h)

  pub not_refused : (fate : Fate) (P : Type 0) (xs : List A) → xs ≡ [] → MatchFate fate P (1 ≤ length xs) → fate ≢ Refused
  not_refused fate P xs none h is = let some = fate_ended fate P (1 ≤ length xs) is h in let l = ap length none in absurd (omega (arith, some, l))

  pub length_more : (xs ys zs : List A) (n m : ℕ) → zs ≡ xs ++ ys → length xs ≤ n → length ys ≤ 1 → m ≡ n + 1 → length zs ≤ m
  length_more xs ys zs n m e h k is = let l = ap length e ∙ length-append xs ys in omega (arith, l, h, k, is)

module _ {J O : Type 0} where
  -- ---- held items

  pub as_items_join : (b : Bool) (xs ys : List (HeldItem J O)) → as_items b (xs ++ ys) ≡ as_items b xs ++ as_items b ys
  as_items_join b [] ys = refl
  as_items_join b (x ∷ xs) ys = ap (λ l. as_item b x ∷ l) (as_items_join b xs ys)

  pub as_many : (b : Bool) (hs : List (HeldItem J O)) → length (as_items b hs) ≡ length hs
  as_many b [] = refl
  as_many b (h ∷ hs) = let more = as_many b hs in omega (arith, more)

  -- refused or not, the same is asked
  asked_alike : (b : Bool) (hs : List (HeldItem J O)) → asked (as_items b hs) ≡ asked (as_items true hs)
  asked_alike b [] = refl
  asked_alike true (h ∷ hs) = refl
  asked_alike false (h ∷ hs) = ap (λ l. asked_by h.stimulus ++ l) (asked_alike false hs)

  all_refused : (hs : List (HeldItem J O)) → AllRefused (as_items false hs)
  all_refused [] = tt
  all_refused (h ∷ hs) = (refl, all_refused hs)

  pub is_refused : (hs : List (HeldItem J O)) → hs ≢ [] → IsRefused (as_items false hs)
  is_refused [] some = absurd (some refl)
  is_refused (h ∷ hs) some = ((λ e. let l = ap length e in absurd (omega (arith, l))), all_refused (h ∷ hs))

  pub went_more : (xs ys zs : List (HeldItem J O)) → zs ≡ xs ++ ys → WentOn (as_items true xs) → WentOn (as_items true ys) → WentOn (as_items true zs)
  went_more xs ys zs e p q = subst WentOn (sym (ap (as_items true) e ∙ as_items_join true xs ys)) (went-append (as_items true xs) (as_items true ys) p q)

  -- what befell one item
  pub fate_matches : (f : Fate) (h : HeldItem J O) → h.step.fate ≡ f → MatchFate f (WentOn (as_items true (h ∷ []))) (1 ≤ length (h ∷ []))
  fate_matches Done h is = ((λ r. absurd (done≢refused (sym is ∙ r))), tt)
  fate_matches NoMemory h is = ((λ r. absurd (no_memory≢refused (sym is ∙ r))), tt)
  fate_matches Refused h is = lit≤ tt

  -- ---- what was popped and given

  pub gave_all_more : (b : Bool) (q r s : SeatQueues J O) (hs : List (HeldItem J O)) (h : HeldItem J O) (e : Item J O) → e ≡ as_item b h → IsSameQueues q r
      → GaveAll q r (as_items b hs) → Gave r s e.outs → GaveAll q s (as_items b (hs ++ h ∷ []))
  gave_all_more b q r s hs h e is same g k n less = k n (subst (λ m. n < m) (sym (same_seats q r same)) less) ∙ ap (λ l. l ++ outs_to n e.outs) (g n less)
      ∙ append_assoc (given_in q n) (answers_in n (as_items b hs)) (outs_to n e.outs)
      ∙ ap (λ l. given_in q n ++ l) (sym (ap (answers_in n) (as_items_join b hs (h ∷ [])) ∙ answers_snoc n (as_items b hs) (as_item b h)
      ∙ ap (λ (x : Item J O). answers_in n (as_items b hs) ++ outs_to n x.outs) (sym is)))

  pub told_more : (b : Bool) (hs : List (HeldItem J O)) (h : HeldItem J O) (e : Item J O) → e ≡ as_item b h → (told : List (Item J O)) (has : List (Item J O) → Type 0)
      → has ((told ++ as_items b hs) ++ e ∷ []) → has (told ++ as_items b (hs ++ h ∷ []))
  told_more b hs h e is told has p = subst has (ap (λ (x : Item J O). (told ++ as_items b hs) ++ x ∷ []) is ∙ append_assoc told (as_items b hs) (as_item b h ∷ [])
      ∙ ap (λ l. told ++ l) (sym (as_items_join b hs (h ∷ [])))) p

  pub told_none : (told : List (Item J O)) (has : List (Item J O) → Type 0) → has told → has (told ++ [])
  told_none told has p = subst has (sym (append-nil told)) p

  module _ (reads : ℕ → Type 0) where
    rising_alike : (s : Bool) (a : Option ℕ) (hs : List (HeldItem J O)) (b : Option ℕ) → IsRising reads a (as_items true hs) b → IsRising reads a (as_items s hs) b
    rising_alike s a [] b h = h
    rising_alike true a (x ∷ xs) b h = h
    rising_alike false a (x ∷ xs) b h = (h.0, rising_alike false (tick_after a x.stimulus) xs b h.1)

    -- nothing was asked
    pub holding_none : (a b : Keeper J O) → IsSameHub a b → ((n : ℕ) → given_by b n ≡ given_by a n) → last_tick b ≡ last_tick a → work (ran_by b) ≡ work (ran_by a)
        → IsHolding reads a [] b
    holding_none a b hub alike last ran = record { hub = hub; ran = ran ∙ sym (append-nil (work (ran_by a))); none_given = alike; ticks = last }

    -- one item was
    pub holding_one : (a b : Keeper J O) (stimulus : Stimulus J) (h : HeldItem J O) → h.stimulus ≡ stimulus → IsSameHub a b → ((n : ℕ) → given_by b n ≡ given_by a n)
        → work (ran_by b) ≡ work (ran_by a) ++ asked_by stimulus → last_tick b ≡ tick_after (last_tick a) stimulus → IsTimely reads (last_tick a) stimulus
        → IsHolding reads a (h ∷ []) b
    holding_one a b stimulus h is hub alike ran last timely = record {
      hub = hub;
      ran = ran ∙ ap (λ l. work (ran_by a) ++ l) (ap asked_by (sym is) ∙ sym (append-nil (asked_by h.stimulus)));
      none_given = alike;
      ticks = (subst (λ x. IsTimely reads (last_tick a) x) (sym is) timely, last ∙ ap (λ x. tick_after (last_tick a) x) (sym is));
    }

    pub holding_more : (a b c : Keeper J O) (xs ys zs : List (HeldItem J O)) → IsHolding reads a xs b → IsHolding reads b ys c → zs ≡ xs ++ ys → IsHolding reads a zs c
    holding_more a b c xs ys zs h k e = subst (λ l. IsHolding reads a l c) (sym e) (record {
      hub = same_trans reads a b c h.hub k.hub;
      ran = k.ran ∙ ap (λ l. l ++ asked (as_items true ys)) h.ran ∙ append_assoc (work (ran_by a)) (asked (as_items true xs)) (asked (as_items true ys))
          ∙ ap (λ l. work (ran_by a) ++ l) (sym (ap asked (as_items_join true xs ys) ∙ asked-append (as_items true xs) (as_items true ys)));
      none_given = λ n. k.none_given n ∙ h.none_given n;
      ticks = subst (λ l. IsRising reads (last_tick a) l (last_tick c)) (sym (as_items_join true xs ys))
          (rising-append reads (last_tick a) (as_items true xs) (last_tick b) (as_items true ys) (last_tick c) h.ticks k.ticks);
    })

    -- what was held is given, as its group was committed or not
    pub stretch_of : (s : Bool) (a b c : Keeper J O) (hs : List (HeldItem J O)) → IsHolding reads a hs b → IsSameQueues b.queues c.queues → ran_in c.queues ≡ ran_in b.queues
        → GaveAll b.queues c.queues (as_items s hs) → last_tick c ≡ last_tick b → IsStretch reads a (as_items s hs) c
    stretch_of s a b c hs h same ran gave last = record {
      hub = same_trans reads a b c h.hub same;
      ran = ap work ran ∙ h.ran ∙ ap (λ l. work (ran_by a) ++ l) (sym (asked_alike s hs));
      given = λ n less. gave n (subst (λ m. n < m) (sym (same_length a b h.hub)) less) ∙ ap (λ l. l ++ answers_in n (as_items s hs)) (h.none_given n);
      ticks = subst (λ t. IsRising reads (last_tick a) (as_items s hs) t) (sym last) (rising_alike s (last_tick a) hs (last_tick b) h.ticks);
    }

    -- nothing was held
    pub stretch_idle : (a b : Keeper J O) (hs : List (HeldItem J O)) → hs ≡ [] → IsHolding reads a hs b → IsStretch reads a [] b
    stretch_idle a b hs none h =
        let L : List (HeldItem J O) → Type 0 = λ l. IsHolding reads a l b in
        let k = subst L none h in
        record { hub = k.hub; ran = k.ran; given = λ n less. k.none_given n ∙ sym (append-nil (given_by a n)); ticks = k.ticks }

  -- ---- what they lead to

  module _ {S : Type 0} (gives : S → Stimulus J → Fate → List (Out O)) (after : S → Stimulus J → Fate → S) where
    join_as : (b : Bool) (s : S) (xs : List (HeldItem J O)) (t : S) (ys : List (HeldItem J O)) (u : S) → IsHistory gives after s (as_items b xs) t → IsHistory gives after t (as_items b ys) u
        → IsHistory gives after s (as_items b (xs ++ ys)) u
    join_as b s xs t ys u h k = subst (λ l. IsHistory gives after s l u) (sym (as_items_join b xs ys)) (history-append gives after s (as_items b xs) t (as_items b ys) u h k)

    -- no item leads from where it stands
    pub two_ways_none : (P : S → S → Type 0) → LeadsTwoWays gives after P [] P
    two_ways_none P s r p = (s, r, refl, refl, p)

    pub two_ways_more : (P : S → S → Type 0) (xs : List (HeldItem J O)) (Q : S → S → Type 0) (ys zs : List (HeldItem J O)) (R : S → S → Type 0)
        → LeadsTwoWays gives after P xs Q → LeadsTwoWays gives after Q ys R → zs ≡ xs ++ ys → LeadsTwoWays gives after P zs R
    two_ways_more P xs Q ys zs R h k e = subst (λ l. LeadsTwoWays gives after P l R) (sym e) (λ s r p.
        let x = h s r p in let y = k x.0 x.1 x.4 in
        (y.0, y.1, join_as true s xs x.0 ys y.0 x.2 y.2, join_as false r xs x.1 ys y.1 x.3 y.3, y.4))

    pub two_ways_with : (P Q R : S → S → Type 0) (xs : List (HeldItem J O)) → ((t u : S) → Q t u → R t u) → LeadsTwoWays gives after P xs Q → LeadsTwoWays gives after P xs R
    two_ways_with P Q R xs f h s r p = let x = h s r p in (x.0, x.1, x.2, x.3, f x.0 x.1 x.4)

    pub two_ways_one : (fate : Fate) (P Q : S → S → Type 0) (Z : S → Type 0) (stimulus : Stimulus J) (h : HeldItem J O) → h.stimulus ≡ stimulus → h.step.fate ≡ fate
        → ((s r : S) → P s r → (h.step.outs ≡ gives s stimulus fate) × (h.step.if_refused ≡ gives r stimulus Refused)
        × MatchFate fate (Q (after s stimulus fate) (after r stimulus Refused)) (Z (after r stimulus Refused)))
        → LeadsTwoWays gives after P (h ∷ []) (StandsBy fate Q Z)
    two_ways_one fate P Q Z stimulus h is befell f s r p =
        let k = f s r p in (
          after s h.stimulus h.step.fate,
          after r h.stimulus Refused,
          (k.0 ∙ ap (λ x. gives s x fate) (sym is) ∙ ap (λ y. gives s h.stimulus y) (sym befell), refl),
          (k.1 ∙ ap (λ x. gives r x Refused) (sym is), refl),
          subst (λ x. StandsBy fate Q Z (after s x h.step.fate) (after r x Refused)) (sym is) (subst (λ y. StandsBy fate Q Z (after s stimulus y) (after r stimulus Refused)) (sym befell) k.2),
        )

    -- committed, the held items are the one history, and refused, the other
    pub leads_settled : (P R : S → S → Type 0) (Q : S → Type 0) (hs : List (HeldItem J O))
        → LeadsTwoWays gives after P hs R → ((s r : S) → R s r → Q s) → Leads gives after (λ s. P s s) (as_items true hs) Q
    leads_settled P R Q hs h f s p = let x = h s s p in (x.0, (x.2, f x.0 x.1 x.4))

    pub leads_refused : (P R : S → S → Type 0) (Z : S → Type 0) (hs : List (HeldItem J O))
        → LeadsTwoWays gives after P hs R → ((s r : S) → R s r → Z r) → Leads gives after (λ s. P s s) (as_items false hs) Z
    leads_refused P R Z hs h f s p = let x = h s s p in (x.1, (x.3, f x.0 x.1 x.4))

    -- where nothing was asked, the machine stands as it stood
    pub leads_idle : (fate : Fate) (P Q : S → S → Type 0) (Z : S → Type 0) (hs : List (HeldItem J O)) → hs ≡ [] → fate ≢ Refused
        → LeadsTwoWays gives after P hs (StandsBy fate Q Z) → Leads gives after (λ s. P s s) [] (λ s. Q s s)
    leads_idle fate P Q Z hs none went h s p =
        let L : List (HeldItem J O) → Type 0 = λ l. LeadsTwoWays gives after P l (StandsBy fate Q Z) in
        let x = subst L none h s s p in
        (s, (refl, subst (λ t. Q t s) x.2 (subst (λ u. Q x.0 u) x.3 (fate_went fate _ _ went x.4))))

module _ {J O S : Type 0} (reads : ℕ → Type 0) (gives : S → Stimulus J → Fate → List (Out O)) (after : S → Stimulus J → Fate → S) where
  told_join : (T U V : List (Item J O) → Type 0) (xs ys : List (Item J O)) → ((b : List (Item J O)) → T b → U (b ++ xs)) → ((b : List (Item J O)) → U b → V (b ++ ys))
      → (b : List (Item J O)) → T b → V (b ++ (xs ++ ys))
  told_join T U V xs ys h k b t = subst V (append_assoc b xs ys) (k (b ++ xs) (h b t))

  -- nothing was done yet
  pub term_none : (honest : Type 0) (P : S → Type 0) (Z : S → Type 0) (T : List (Item J O) → Type 0) (a : Keeper J O) → IsTerm reads gives after honest P P Z T T a a AllClosed
  term_none honest P Z T a = record {
    items = [];
    ends = tt;
    did = stretch_none reads a a (same_self a) (λ n. refl) refl refl;
    led = λ is. leads_none gives after P;
    recorded = λ told has. told_none told T has;
  }

  module _ (first honest : Type 0) (P Q R : S → Type 0) (Y Z : S → Type 0) (T U V : List (Item J O) → Type 0) (a b c : Keeper J O) (fate : Fate) (was : honest → first)
      (h : IsTerm reads gives after first P Q Y T U a b AllClosed) (k : IsGroup reads gives after honest Q R Z U V b c fate) where
    -- groups that went on
    pub term_more : fate ≢ Refused → IsTerm reads gives after honest P R Z T V a c AllClosed
    term_more went = record {
      items = h.items ++ k.items;
      ends = went-append h.items k.items h.ends (fate_went fate _ _ went k.matches);
      did = stretch-append reads a h.items b k.items c h.did k.did;
      led = λ is. leads-append gives after P h.items Q k.items R (h.led (was is)) (fate_went fate _ _ went (k.led is));
      recorded = told_join T U V h.items k.items h.recorded k.recorded;
    }

    -- the last one was refused
    pub term_last : fate ≡ Refused → IsTerm reads gives after honest P R Z T V a c RefusedEnd
    term_last is = record {
      items = h.items ++ k.items;
      ends = (h.items, k.items, refl, h.ends, fate_ended fate _ _ is k.matches);
      did = stretch-append reads a h.items b k.items c h.did k.did;
      led = λ honest. leads-append gives after P h.items Q k.items Z (h.led (was honest)) (fate_ended fate _ _ is (k.led honest));
      recorded = told_join T U V h.items k.items h.recorded k.recorded;
    }
