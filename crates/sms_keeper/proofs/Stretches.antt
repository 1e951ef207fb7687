-- What the keeper did, put together.
use Rattle.std.proofs.Common.{Bool, true, false, true≢false, ◌≡◌, ◌≢◌, ◌<◌, ℕ, List, [], ◌∷◌, ◌++◌, sym, refl, ap, ◌∙◌, subst, append_assoc, append-nil, Option}
use Rattle.sms_keeper.specs.declared.machine.Stimulus.{Stimulus}
use Rattle.sms_keeper.specs.declared.machine.Fate.{Fate}
use Rattle.sms_keeper.specs.declared.machine.Fate.TheVariants.{Done, NoMemory, Refused}
use Rattle.sms_keeper.specs.declared.outs.Out.{Out}
use Rattle.sms_keeper.specs.declared.machine.Item.{Item}
use Rattle.sms_keeper.specs.declared.keeper.Keeper.{Keeper}
use Rattle.sms_keeper.specs.Fates.{MatchFate, WentOn}
use Rattle.sms_keeper.specs.History.{IsHistory, IsRising, Leads, tick_after, answers_in, asked, work}
use Rattle.sms_seats.proofs.Seating.{same_self as itself, same_trans as same_through}
use Rattle.sms_keeper.specs.Keeping.{given_by, last_tick, ran_by, IsSameHub, IsStretch}
use Rattle.sms_keeper.proofs.Histories.{same_length, answers-append, asked-append}

pub fate_went : (f : Fate) (A B : Type 0) → f ≢ Refused → MatchFate f A B → A
fate_went Done A B n h = h
fate_went NoMemory A B n h = h
fate_went Refused A B n h = absurd (n refl)

pub fate_ended : (f : Fate) (A B : Type 0) → f ≡ Refused → MatchFate f A B → B
fate_ended f A B e h = let P : Fate → Type 0 = λ x. MatchFate x A B in subst P e h

is_refused : Fate → Bool
is_refused Done = false
is_refused NoMemory = false
is_refused Refused = true

pub done≢refused : Done ≢ Refused
unfolding is_refused
done≢refused e = true≢false (sym (ap is_refused e))

pub no_memory≢refused : NoMemory ≢ Refused
unfolding is_refused
no_memory≢refused e = true≢false (sym (ap is_refused e))

module _ {J O : Type 0} where
  pub same_self : (a : Keeper J O) → IsSameHub a a
  same_self a = itself a.queues

module _ {J O : Type 0} (reads : ℕ → Type 0) where
  pub rising-append : (a : Option ℕ) (xs : List (Item J O)) (b : Option ℕ) (ys : List (Item J O)) (c : Option ℕ) → IsRising reads a xs b → IsRising reads b ys c → IsRising reads a (xs ++ ys) c
  rising-append a [] b ys c h k = subst (λ v. IsRising reads v ys c) h k
  rising-append a (x ∷ xs) b ys c h k = (h.0, rising-append (tick_after a x.stimulus) xs b ys c h.1 k)

  pub same_trans : (a b c : Keeper J O) → IsSameHub a b → IsSameHub b c → IsSameHub a c
  same_trans a b c h k = same_through a.queues b.queues c.queues h k

  pub stretch-append : (a : Keeper J O) (xs : List (Item J O)) (b : Keeper J O) (ys : List (Item J O)) (c : Keeper J O)
      → IsStretch reads a xs b → IsStretch reads b ys c → IsStretch reads a (xs ++ ys) c
  stretch-append a xs b ys c h k = record {
    hub = same_trans a b c h.hub k.hub;
    ran = k.ran ∙ ap (λ l. l ++ asked ys) h.ran ∙ append_assoc (work (ran_by a)) (asked xs) (asked ys) ∙ ap (λ l. work (ran_by a) ++ l) (sym (asked-append xs ys));
    given = λ n less. k.given n (subst (λ m. n < m) (sym (same_length a b h.hub)) less) ∙ ap (λ l. l ++ answers_in n ys) (h.given n less)
        ∙ append_assoc (given_by a n) (answers_in n xs) (answers_in n ys) ∙ ap (λ l. given_by a n ++ l) (sym (answers-append n xs ys));
    ticks = rising-append (last_tick a) xs (last_tick b) ys (last_tick c) h.ticks k.ticks;
  }

  -- the keeper asked nothing
  pub stretch_none : (a b : Keeper J O) → IsSameHub a b → ((n : ℕ) → given_by b n ≡ given_by a n) → last_tick b ≡ last_tick a → work (ran_by b) ≡ work (ran_by a) → IsStretch reads a [] b
  stretch_none a b hub alike last ran = record {
    hub = hub;
    ran = ran ∙ sym (append-nil (work (ran_by a)));
    given = λ n less. alike n ∙ sym (append-nil (given_by a n));
    ticks = last;
  }

  pub stretch_more : (a : Keeper J O) (xs : List (Item J O)) (b : Keeper J O) (ys : List (Item J O)) (c : Keeper J O) (xs' zs : List (Item J O))
      → IsStretch reads a xs b → IsStretch reads b ys c → xs' ≡ xs → zs ≡ xs' ++ ys → IsStretch reads a zs c
  stretch_more a xs b ys c xs' zs h k same all = subst (λ l. IsStretch reads a l c) (sym (all ∙ ap (λ l. l ++ ys) same)) (stretch-append a xs b ys c h k)

module _ {J O S : Type 0} (gives : S → Stimulus J → Fate → List (Out O)) (after : S → Stimulus J → Fate → S) where
  pub history-append : (s : S) (xs : List (Item J O)) (t : S) (ys : List (Item J O)) (u : S) → IsHistory gives after s xs t → IsHistory gives after t ys u → IsHistory gives after s (xs ++ ys) u
  history-append s [] t ys u h k = subst (λ v. IsHistory gives after v ys u) h k
  history-append s (x ∷ xs) t ys u h k = (h.0, history-append (after s x.stimulus x.fate) xs t ys u h.1 k)

  -- no item leads from where it stands
  pub leads_none : (P : S → Type 0) → Leads gives after P [] P
  leads_none P s p = (s, (refl, p))

  pub leads-append : (P : S → Type 0) (xs : List (Item J O)) (Q : S → Type 0) (ys : List (Item J O)) (R : S → Type 0) → Leads gives after P xs Q → Leads gives after Q ys R → Leads gives after P (xs ++ ys) R
  leads-append P xs Q ys R h k s p =
      let x = h s p in let y = k x.0 x.1.1 in (y.0, (history-append s xs x.0 ys y.0 x.1.0 y.1.0, y.1.1))

  pub leads_more : (P : S → Type 0) (xs : List (Item J O)) (Q : S → Type 0) (ys : List (Item J O)) (R : S → Type 0) (xs' zs : List (Item J O))
      → Leads gives after P xs Q → Leads gives after Q ys R → xs' ≡ xs → zs ≡ xs' ++ ys → Leads gives after P zs R
  leads_more P xs Q ys R xs' zs h k same all = subst (λ l. Leads gives after P l R) (sym (all ∙ ap (λ l. l ++ ys) same)) (leads-append P xs Q ys R h k)

module _ {J O : Type 0} where
  pub went-append : (xs ys : List (Item J O)) → WentOn xs → WentOn ys → WentOn (xs ++ ys)
  went-append [] ys h k = k
  went-append (x ∷ xs) ys h k = (h.0, went-append xs ys h.1 k)
