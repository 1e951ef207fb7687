-- What is refused item by item, put together.
use Rattle.std.proofs.Common.{◌≡◌, ◌<◌, ℕ, List, [], ◌∷◌, ◌++◌, refl, sym, ap, subst, ◌∙◌, append_assoc, append-nil}
use Rattle.sms_seats.specs.Queues.{IsSameQueues, ran_by as ran_in}
use Rattle.sms_keeper.specs.declared.machine.Stimulus.{Stimulus}
use Rattle.sms_keeper.specs.declared.machine.Fate.{Fate}
use Rattle.sms_keeper.specs.declared.machine.Fate.TheVariants.{Refused}
use Rattle.sms_keeper.specs.declared.machine.Item.{Item}
use Rattle.sms_keeper.specs.declared.outs.Out.{Out}
use Rattle.sms_keeper.specs.declared.keeper.Keeper.{Keeper}
use Rattle.sms_keeper.specs.Fates.{AllRefused}
use Rattle.sms_keeper.specs.Groups.{IsRefusing}
use Rattle.sms_keeper.specs.History.{IsTimely, asked_by, outs_to, tick_after, work}
use Rattle.sms_keeper.specs.Keeping.{Gave, given_by, last_tick, ran_by, IsSameHub, IsStretch}
use Rattle.sms_keeper.proofs.Histories.{same_length}
use Rattle.sms_keeper.proofs.Holdings.{told_none}
use Rattle.sms_keeper.proofs.Stretches.{leads-append, leads_none, same_self, same_trans, stretch-append, stretch_none}

module _ {J O : Type 0} where
  all_refused-append : (xs ys : List (Item J O)) → AllRefused xs → AllRefused ys → AllRefused (xs ++ ys)
  all_refused-append [] ys h k = k
  all_refused-append (x ∷ xs) ys h k = (h.0, all_refused-append xs ys h.1 k)

module _ {J O : Type 0} (reads : ℕ → Type 0) where
  -- something was popped, or a tick noted, and then its outs were given
  pub stretch_one : (a b c : Keeper J O) (stimulus : Stimulus J) (e : Item J O) → e.stimulus ≡ stimulus → IsSameHub a b → ((n : ℕ) → given_by b n ≡ given_by a n)
      → work (ran_by b) ≡ work (ran_by a) ++ asked_by stimulus → IsSameQueues b.queues c.queues → ran_in c.queues ≡ ran_in b.queues → Gave b.queues c.queues e.outs
      → last_tick c ≡ tick_after (last_tick a) stimulus → IsTimely reads (last_tick a) stimulus → IsStretch reads a (e ∷ []) c
  stretch_one a b c stimulus e is hub alike ran same kept gave last timely = record {
    hub = same_trans reads a b c hub same;
    ran = ap work kept ∙ ran ∙ ap (λ l. work (ran_by a) ++ l) (ap asked_by (sym is) ∙ sym (append-nil (asked_by e.stimulus)));
    given = λ n less. gave n (subst (λ m. n < m) (sym (same_length a b hub)) less) ∙ ap (λ l. l ++ outs_to n e.outs) (alike n)
        ∙ ap (λ l. given_by a n ++ l) (sym (append-nil (outs_to n e.outs)));
    ticks = (subst (λ x. IsTimely reads (last_tick a) x) (sym is) timely, last ∙ ap (λ x. tick_after (last_tick a) x) (sym is));
  }

module _ {J O S : Type 0} (reads : ℕ → Type 0) (gives : S → Stimulus J → Fate → List (Out O)) (after : S → Stimulus J → Fate → S) where
  -- nothing was refused
  pub refusing_idle : (honest : Type 0) (Z : S → Type 0) (T : List (Item J O) → Type 0) (a b : Keeper J O) → IsSameHub a b → ((n : ℕ) → given_by b n ≡ given_by a n)
      → last_tick b ≡ last_tick a → work (ran_by b) ≡ work (ran_by a) → IsRefusing reads gives after honest Z Z T T a b
  refusing_idle honest Z T a b hub alike last ran = record {
    items = [];
    refused = tt;
    did = stretch_none reads a b hub alike last ran;
    led = λ is. leads_none gives after Z;
    recorded = λ told has. told_none told T has;
  }

  pub refusing_none : (honest : Type 0) (Z : S → Type 0) (T : List (Item J O) → Type 0) (a : Keeper J O) → IsRefusing reads gives after honest Z Z T T a a
  refusing_none honest Z T a = refusing_idle honest Z T a a (same_self a) (λ n. refl) refl refl

  -- one item was
  pub refusing_one : (honest : Type 0) (Y Z : S → Type 0) (T U : List (Item J O) → Type 0) (a b : Keeper J O) (stimulus : Stimulus J) (e : Item J O) → e.stimulus ≡ stimulus → e.fate ≡ Refused
      → IsStretch reads a (e ∷ []) b → ((told : List (Item J O)) → T told → U (told ++ e ∷ []))
      → (honest → (r : S) → Y r → (e.outs ≡ gives r stimulus Refused) × Z (after r stimulus Refused))
      → IsRefusing reads gives after honest Y Z T U a b
  refusing_one honest Y Z T U a b stimulus e is befell did told f = record {
    items = e ∷ [];
    refused = (befell, tt);
    did = did;
    led = λ honest r waits. let x = f honest r waits in (
      after r e.stimulus e.fate,
      (
        (x.0 ∙ ap (λ s. gives r s Refused) (sym is) ∙ ap (λ y. gives r e.stimulus y) (sym befell), refl),
        subst (λ y. Z (after r e.stimulus y)) (sym befell) (subst (λ s. Z (after r s Refused)) (sym is) x.1),
      ),
    );
    recorded = told;
  }

  -- some items were, and then some more
  pub refusing_more : (first honest : Type 0) (X Y Z : S → Type 0) (T U V : List (Item J O) → Type 0) (a b c : Keeper J O) → (honest → first)
      → IsRefusing reads gives after first X Y T U a b → IsRefusing reads gives after honest Y Z U V b c → IsRefusing reads gives after honest X Z T V a c
  refusing_more first honest X Y Z T U V a b c was h k = record {
    items = h.items ++ k.items;
    refused = all_refused-append h.items k.items h.refused k.refused;
    did = stretch-append reads a h.items b k.items c h.did k.did;
    led = λ is. leads-append gives after X h.items Y k.items Z (h.led (was is)) (k.led is);
    recorded = λ told has. subst V (append_assoc told h.items k.items) (k.recorded (told ++ h.items) (h.recorded told has));
  }
