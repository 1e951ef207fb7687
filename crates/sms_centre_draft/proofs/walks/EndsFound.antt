-- Messages expire by the numbers that are found: a message that ends leaves the others as they are.
use Rattle.std.proofs.Common.{◌≡◌, ℕ, List, [], ◌∷◌, Bool, true, false, Option, Some, None, refl, sym, ◌∙◌, ap, subst, inl, inr, ⊎_elim, map, arith}
use Rattle.std.specs.List.Sorted.{IsNonDecreasing}
use Rattle.std.proofs.lemmas.Bool.{cond-true, cond-false, cond_both}
use Rattle.sms_base.specs.Among.{Among}
use Rattle.sms_base.specs.declared.final_state.FinalState.TheVariants.{Expired}
use Rattle.sms_rows.specs.table.Table.{Rises, put}
use Rattle.sms_rows.proofs.table.Tables.{among_found, found_among, found_key, row_at_put}
use Rattle.sms_centre_rows.specs.declared.messages.message.MessageRow.{MessageRow}
use Rattle.sms_centre_rows.specs.messages.Messages.{ended, message_at, message_key}
use Rattle.sms_centre_spec.specs.CentreEvent.{expire_all, expired}
use Rattle.sms_centre_spec.specs.Draft.{Store, messages_in}
use Rattle.sms_centre_spec.specs.Ends.{end}
use Rattle.sms_centre_spec.proofs.SteadyTimes.{MessagesInStore, above_among, end_leaves, end_messages}
use Rattle.sms_centre_draft.specs.walks.Expiring.{CoversOver, expire_at, expire_found, expire_numbers, is_over}
use Rattle.sms_centre_spec.proofs.MomentStays.{end_moment}
use Rattle.sms_centre_draft.proofs.walks.NumbersWalked.{EndsAlone, InOrder, go, in_order, walks_alike}

-- whether the message of that number ends
abbrev concerns : ℕ → Store → Bool
concerns id s = is_over (message_at id (messages_in s)) s.moment

-- ---- one message

rests_found : (o : Option MessageRow) (s : Store) → is_over o s.moment ≡ false → expire_found o s ≡ s
rests_found None s e = refl
rests_found (Some m) s e = cond-false (is_over (Some m) s.moment) (end Expired m s) s e

own_found : (id : ℕ) (o : Option MessageRow) (s : Store) → message_at id (messages_in s) ≡ o → is_over o s.moment ≡ true → concerns id (expire_found o s) ≡ false
own_found id None s is e = absurd cc
own_found id (Some m) s is e =
    let own : m.id ≡ id = found_key message_key id m (messages_in s) is in
    let there : message_at id (messages_in (end Expired m s)) ≡ Some (ended Expired s.moment m) =
    ap (λ (ms : List MessageRow). message_at id ms) (end_messages Expired m s)
    ∙ subst (λ (k : ℕ). message_at k (put message_key (ended Expired s.moment m) (messages_in s)) ≡ Some (ended Expired s.moment m)) own
    (row_at_put message_key (ended Expired s.moment m) (messages_in s)) in
    ap (λ (x : Store). concerns id x) (cond-true (is_over (Some m) s.moment) (end Expired m s) s e)
    ∙ ap (λ (x : Option MessageRow). is_over x (end Expired m s).moment) there

others_found : (id k : ℕ) (o : Option MessageRow) (s : Store) → message_at id (messages_in s) ≡ o → ¬ (id ≡ k) → concerns k (expire_found o s) ≡ concerns k s
others_found id k None s is ne = refl
others_found id k (Some m) s is ne =
    let own : m.id ≡ id = found_key message_key id m (messages_in s) is in
    cond_both (is_over (Some m) s.moment) (end Expired m s) s (λ (x : Store). concerns k x ≡ concerns k s)
    (λ t. ap (λ (n : ℕ). is_over (message_at k (messages_in (end Expired m s))) n) (end_moment Expired m s)
    ∙ ap (λ (x : Option MessageRow). is_over x s.moment) (end_leaves Expired m k s (λ e. ne (sym own ∙ e))))
    (λ t. refl)

expires_alone : EndsAlone Store expire_at concerns
expires_alone = record {
  rests = λ id s e. rests_found (message_at id (messages_in s)) s e;
  own = λ id s e. own_found id (message_at id (messages_in s)) s refl e;
  others = λ id k s ne. others_found id k (message_at id (messages_in s)) s refl ne;
}

-- ---- the walk over all rows is one over their numbers

goes : (ids : List ℕ) (s : Store) → expire_numbers ids s ≡ go expire_at ids s
goes [] s = refl
goes (id ∷ ids) s = goes ids (expire_at id s)

by_numbers : (ms : List MessageRow) (s : Store) → Rises message_key ms → MessagesInStore ms s → expire_all ms s ≡ go expire_at (map message_key ms) s
by_numbers [] s rises stand = refl
by_numbers (m ∷ ms) s rises stand =
    let here : expire_at m.id s ≡ expire_found (Some m) s = ap (λ (o : Option MessageRow). expire_found o s) (stand m (inl refl)) in
    by_numbers ms (expire_found (Some m) s) rises.1
    (cond_both (is_over (Some m) s.moment) (end Expired m s) s (λ (e : Store). MessagesInStore ms e)
    (λ t x among. end_leaves Expired m x.id s (apart x among) ∙ stand x (inr among))
    (λ t x among. stand x (inr among)))
    ∙ ap (λ (e : Store). go expire_at (map message_key ms) e) (sym here)
  where
    apart : (x : MessageRow) → Among x ms → ¬ (m.id ≡ x.id)
    apart x among e = let above = above_among message_key m.id x ms rises.0 among in omega (arith, above, e)

-- ---- numbers of rows

among_ids : (k : ℕ) (ms : List MessageRow) → Among k (map message_key ms) → (m : MessageRow) × (Among m ms × (k ≡ m.id))
among_ids k [] a = elim a [ ]
among_ids k (m ∷ ms) a = ⊎_elim
    (λ (e : k ≡ m.id). (m, (inl refl, e)))
    (λ (r : Among k (map message_key ms)). let x = among_ids k ms r in (x.0, (inr x.1.0, x.1.1)))
    a

ids_among : (m : MessageRow) (ms : List MessageRow) → Among m ms → Among m.id (map message_key ms)
ids_among m [] a = elim a [ ]
ids_among m (x ∷ xs) a = ⊎_elim
    (λ (e : m ≡ x). inl (ap (λ (y : MessageRow). y.id) e))
    (λ (r : Among m xs). inr (ids_among m xs r))
    a

ids_in_order : (ms : List MessageRow) → Rises message_key ms → InOrder (map message_key ms)
ids_in_order [] rises = tt
ids_in_order (m ∷ ms) rises = (
  λ k a.
      let x = among_ids k ms a in
      let above = above_among message_key m.id x.0 ms rises.0 x.1.0 in
      let is : k ≡ (x.0).id = x.1.1 in
      omega (arith, above, is),
  ids_in_order ms rises.1,
)

-- ---- all of it

-- the number of a message that ends is one of these
covered : (ids : List ℕ) (id : ℕ) (o : Option MessageRow) (s : Store) → ((m : MessageRow) → Among m (messages_in s) → is_over (Some m) s.moment ≡ true → Among m.id ids)
    → message_at id (messages_in s) ≡ o → is_over o s.moment ≡ true → Among id ids
covered ids id None s covers is e = absurd cc
covered ids id (Some m) s covers is e =
    subst (λ (k : ℕ). Among k ids) (found_key message_key id m (messages_in s) is) (covers m (found_among message_key id m (messages_in s) is) e)

pub ends_found : (s : Store) (ids : List ℕ) → Rises message_key (messages_in s) → IsNonDecreasing ids → CoversOver ids s → expired s ≡ expire_numbers ids s
ends_found s ids rises sorted covers =
    by_numbers (messages_in s) s rises (λ m among. among_found message_key m (messages_in s) rises among)
    ∙ walks_alike expire_at concerns expires_alone (map message_key (messages_in s)) ids s (ids_in_order (messages_in s) rises) (in_order ids sorted)
    (λ n e. covered (map message_key (messages_in s)) n (message_at n (messages_in s)) s (λ m among t. ids_among m (messages_in s) among) refl e)
    (λ n e. covered ids n (message_at n (messages_in s)) s covers refl e)
    ∙ sym (goes ids s)
