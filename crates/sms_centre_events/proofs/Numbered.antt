-- Messages expire by their numbers.
use Rattle.std.proofs.Common.{◌≡◌, ℕ, zero, suc, ◌<◌, ◌≤◌, List, [], ◌∷◌, true, length, sym, ◌∙◌, ap, subst, ⊎_elim, inl, inr, slice_index_or, arith}
use Rattle.std.specs.List.Sorted.{IsNonDecreasing}
use Rattle.std.proofs.lemmas.Bool.{cond_both, cond-true}
use Rattle.sms_base.specs.Among.{Among}
use Rattle.sms_rows.specs.table.Table.{AllAbove, Rises}
use Rattle.sms_centre_rows.specs.declared.messages.message.MessageRow.{MessageRow}
use Rattle.sms_centre_rows.specs.messages.Messages.{message_key}
use Rattle.sms_centre_messages.specs.message_index.MessageIndex.{is_past, past_ids}
use Rattle.sms_centre_draft.specs.walks.Expiring.{CoversOver, expire_at, expire_numbers}
use Rattle.sms_centre_spec.specs.Draft.{Draft, Store, in_store, messages_in}
use Rattle.sms_centre_draft.specs.CentreDraft.{Represents, CentreDraftOf}

-- ---- the numbers of those that are past, in order

-- each is at least that number and the one before
Climb : ℕ → List ℕ → Type 0
Climb n [] = Unit {0}
Climb n (m ∷ ms) = (n ≤ m) × Climb m ms

climb_at : (n : ℕ) (ns : List ℕ) → Climb n ns → (j : ℕ) (d : ℕ) → j < length ns → n ≤ slice_index_or ns j d
unfolding Climb
climb_at n [] c j d low = absurd (omega (arith, low))
climb_at n (m ∷ ms) c zero d low = c.0
climb_at n (m ∷ ms) c (suc j) d low = let first = c.0 in let rest = climb_at m ms c.1 j d (omega (arith, low)) in omega (arith, first, rest)

climb_order : (n : ℕ) (ns : List ℕ) → Climb n ns → IsNonDecreasing ns
unfolding Climb
climb_order n [] c i j d le low = absurd (omega (arith, low))
climb_order n (m ∷ ms) c zero zero d le low = omega arith
climb_order n (m ∷ ms) c zero (suc j) d le low = climb_at m ms c.1 j d (omega (arith, low))
climb_order n (m ∷ ms) c (suc i) zero d le low = absurd (omega (arith, le))
climb_order n (m ∷ ms) c (suc i) (suc j) d le low = climb_order m ms c.1 i j d (omega (arith, le)) (omega (arith, low))

past_climb : (now n : ℕ) (ms : List MessageRow) → AllAbove message_key n ms → Rises message_key ms → Climb n (past_ids now ms)
unfolding Climb
past_climb now n [] above rises = tt
past_climb now n (m ∷ ms) above rises =
    let low = above.0 in
    cond_both (is_past now m) (m.id ∷ past_ids now ms) (past_ids now ms) (λ (ns : List ℕ). Climb n ns)
    (λ e. (omega (arith, low), past_climb now m.id ms rises.0 rises.1)) (λ e. past_climb now n ms above.1 rises.1)

past_first : (now : ℕ) (ms : List MessageRow) → Rises message_key ms → Climb 0 (past_ids now ms)
unfolding Climb
past_first now [] rises = tt
past_first now (m ∷ ms) rises =
    cond_both (is_past now m) (m.id ∷ past_ids now ms) (past_ids now ms) (λ (ns : List ℕ). Climb 0 ns)
    (λ e. (omega arith, past_climb now m.id ms rises.0 rises.1)) (λ e. past_first now ms rises.1)

pub past_order : (now : ℕ) (ms : List MessageRow) → Rises message_key ms → IsNonDecreasing (past_ids now ms)
past_order now ms rises = climb_order 0 (past_ids now ms) (past_first now ms rises)

covers : (now : ℕ) (ms : List MessageRow) (m : MessageRow) → Among m ms → is_past now m ≡ true → Among m.id (past_ids now ms)
covers now [] m among past = absurd among
covers now (x ∷ xs) m among past = ⊎_elim
    (λ (e : m ≡ x). subst (λ (ns : List ℕ). Among m.id ns) (sym (cond-true (is_past now x) (x.id ∷ past_ids now xs) (past_ids now xs) (subst (λ (y : MessageRow). is_past now y ≡ true) e past)))
    (inl (ap (λ (y : MessageRow). y.id) e)))
    (λ (a : Among m xs). cond_both (is_past now x) (x.id ∷ past_ids now xs) (past_ids now xs) (λ (ns : List ℕ). Among m.id ns) (λ t. inr (covers now xs m a past)) (λ t. covers now xs m a past))
    among

pub past_covers : (s : Store) → CoversOver (past_ids s.moment (messages_in s)) s
past_covers s m among over = covers s.moment (messages_in s) m among over

-- ---- what is left of the walk

pub record IsLeft (d : Draft) (ids rest : List ℕ) (w : CentreDraftOf) : Type 0 where
  pub store : Store
  pub represents : Represents (in_store store d) w
  pub goes : expire_numbers rest store ≡ expire_numbers ids d.store

pub left_next : (d : Draft) (ids rest : List ℕ) (id : ℕ) (behind : List ℕ) (w new : CentreDraftOf) → rest ≡ id ∷ behind → IsLeft d ids rest w
    → ((e : Draft) → Represents e w → Represents (in_store (expire_at id e.store) e) new) → IsLeft d ids behind new
left_next d ids rest id behind w new split left does = record {
  store = expire_at id left.store;
  represents = does (in_store left.store d) left.represents;
  goes = sym (ap (λ (ns : List ℕ). expire_numbers ns left.store) split) ∙ left.goes;
}

pub left_none : (d : Draft) (ids rest : List ℕ) (w : CentreDraftOf) → rest ≡ [] → IsLeft d ids rest w → Represents (in_store (expire_numbers ids d.store) d) w
left_none d ids rest w none left =
    subst (λ (s : Store). Represents (in_store s d) w) (sym (ap (λ (ns : List ℕ). expire_numbers ns left.store) none) ∙ left.goes) left.represents
