-- Sound entries of the outbox, as they come, are settled and leave.
use Rattle.std.proofs.Common.{ℕ, List, [], ◌∷◌, ◌≡◌, cond, refl, ap, true, false, ◌≤◌, arith, length, sym, ◌∙◌, ⊎_elim, inr, Bool, inl, subst, ◌<◌}
use Rattle.std.specs.Prelude.{if◌then◌else◌, ◌==◌, ◌||◌}
use Rattle.std.proofs.lemmas.Bool.{cond-true, cond-false, cond_both, eq-eqb, or_left, or_right, cases_Bool, eqb-true, false_from_ne_true}
use Rattle.sms_base.specs.Among.{Among}
use Rattle.sms_rows.specs.table.Table.{Rises, put, without}
use Rattle.sms_rows.proofs.table.Tables.{among_put, rises_put, length_put, among_without, length_without, rises_without}
use Rattle.sms_handset_rows.specs.inbox.Groups.{is_among}
use Rattle.sms_handset_rows.specs.inbox.SoundInbox.{Differ, IsApart, IsGiven}
use Rattle.sms_handset_rows.proofs.inbox.SoundMarks.{above_at, length_replaced}
use Rattle.sms_handset_rows.specs.declared.inbox.entry.Entry.{Entry}
use Rattle.sms_handset_rows.proofs.inbox.SoundEntries.{all_at, all_from, StaysFree, is_apart, no_entry}
use Rattle.sms_handset_rows.specs.declared.outbox.out_entry.OutEntry.{OutEntry}
use Rattle.sms_handset_rows.specs.outbox.References.{is_unfinished, held_message_references, held_by_entries}
use Rattle.sms_handset_rows.specs.outbox.Keys.{out_key}
use Rattle.sms_handset_rows.specs.outbox.SoundOutbox.{AreTries, IsSubmitted, AreOutEntries}

-- ---- what unfinished entries hold

abbrev pub held : (OutEntry → ℕ) → List OutEntry → List ℕ
held f [] = []
held f (o ∷ os) = if is_unfinished o.state then f o ∷ held f os else held f os

pub held_messages : (os : List OutEntry) → held_message_references os ≡ held (λ (o : OutEntry). o.message_reference) os
held_messages [] = refl
held_messages (o ∷ os) = ap (λ (l : List ℕ). cond (is_unfinished o.state) (o.message_reference ∷ l) l) (held_messages os)

pub held_entries : (os : List OutEntry) → held_by_entries os ≡ held (λ (o : OutEntry). o.reference) os
held_entries [] = refl
held_entries (o ∷ os) = ap (λ (l : List ℕ). cond (is_unfinished o.state) (o.reference ∷ l) l) (held_entries os)

held_here : (f : OutEntry → ℕ) (o : OutEntry) (os : List OutEntry) → is_unfinished o.state ≡ true → held f (o ∷ os) ≡ f o ∷ held f os
held_here f o os t = cond-true (is_unfinished o.state) (f o ∷ held f os) (held f os) t

held_behind : (f : OutEntry → ℕ) (o : OutEntry) (os : List OutEntry) → is_unfinished o.state ≡ false → held f (o ∷ os) ≡ held f os
held_behind f o os t = cond-false (is_unfinished o.state) (f o ∷ held f os) (held f os) t

pub held_few : (f : OutEntry → ℕ) (os : List OutEntry) → length (held f os) ≤ length os
held_few f [] = omega arith
held_few f (o ∷ os) =
    cond_both (is_unfinished o.state) (f o ∷ held f os) (held f os) (λ (l : List ℕ). length l ≤ length (o ∷ os))
    (λ t. let l = held_few f os in omega arith) (λ t. let l = held_few f os in omega arith)

pub held_among : (f : OutEntry → ℕ) (x : OutEntry) (os : List OutEntry) → Among x os → is_unfinished x.state ≡ true → is_among (f x) (held f os) ≡ true
held_among f x [] m u = elim m [ ]
held_among f x (o ∷ os) m u = ⊎_elim
    (λ (e : x ≡ o).
    ap (λ (l : List ℕ). is_among (f x) l) (held_here f o os (ap (λ (z : OutEntry). is_unfinished z.state) (sym e) ∙ u))
    ∙ or_left (f o == f x) (is_among (f x) (held f os)) (eq-eqb (f o) (f x) (ap f (sym e))))
    (λ (r : Among x os).
    let i = held_among f x os r u in
    cond_both (is_unfinished o.state) (f o ∷ held f os) (held f os) (λ (l : List ℕ). is_among (f x) l ≡ true) (λ t. or_right (f o == f x) (is_among (f x) (held f os)) i) (λ t. i))
    m

-- an unfinished entry that holds a number
record Holds (f : OutEntry → ℕ) (n : ℕ) (os : List OutEntry) : Type 0 where
  x : OutEntry
  among : Among x os
  unfinished : is_unfinished x.state ≡ true
  is : f x ≡ n

holds_behind : (f : OutEntry → ℕ) (n : ℕ) (o : OutEntry) (os : List OutEntry) → Holds f n os → Holds f n (o ∷ os)
holds_behind f n o os h = record { x = h.x; among = inr h.among; unfinished = h.unfinished; is = h.is }

held_from : (f : OutEntry → ℕ) (n : ℕ) (os : List OutEntry) → is_among n (held f os) ≡ true → Holds f n os
held_from f n [] e = absurd cc
held_from f n (o ∷ os) e = ⊎_elim
    (λ (u : is_unfinished o.state ≡ true). ⊎_elim
    (λ (t : (f o == n) ≡ true). record { x = o; among = inl refl; unfinished = u; is = eqb-true (f o) n t })
    (λ (t : (f o == n) ≡ false).
    holds_behind f n o os (held_from f n os (ap (λ (b : Bool). b || is_among n (held f os)) (sym t) ∙ ap (λ (l : List ℕ). is_among n l) (sym (held_here f o os u)) ∙ e)))
    (cases_Bool (f o == n)))
    (λ (u : is_unfinished o.state ≡ false). holds_behind f n o os (held_from f n os (ap (λ (l : List ℕ). is_among n l) (sym (held_behind f o os u)) ∙ e)))
    (cases_Bool (is_unfinished o.state))

-- no two hold the same
abbrev pub Unique : (OutEntry → ℕ) → List OutEntry → Type 0
Unique f os =
    (x y : OutEntry) → Among x os → Among y os → is_unfinished x.state ≡ true → is_unfinished y.state ≡ true → f x ≡ f y → x.number ≡ y.number

unique_from : (f : OutEntry → ℕ) (os : List OutEntry) → Differ (held f os) → Unique f os
unique_from f [] d x y a b u v e = elim a [ ]
unique_from f (o ∷ os) d x y a b u v e = ⊎_elim
    (λ (t : is_unfinished o.state ≡ true).
    let p = subst (λ (l : List ℕ). Differ l) (held_here f o os t) d in
    let alone : (z : OutEntry) → Among z os → is_unfinished z.state ≡ true → ¬ (f z ≡ f o) =
    λ z c w q. let i : is_among (f o) (held f os) ≡ true = ap (λ (n : ℕ). is_among n (held f os)) (sym q) ∙ held_among f z os c w in let j : is_among (f o) (held f os) ≡ false = p.0 in absurd cc in
    ⊎_elim
    (λ (i : x ≡ o). ⊎_elim
    (λ (j : y ≡ o). ap (λ (z : OutEntry). z.number) (i ∙ sym j))
    (λ (s : Among y os). absurd (alone y s v (sym e ∙ ap f i)))
    b)
    (λ (r : Among x os). ⊎_elim
    (λ (j : y ≡ o). absurd (alone x r u (e ∙ ap f j)))
    (λ (s : Among y os). unique_from f os p.1 x y r s u v e)
    b)
    a)
    (λ (t : is_unfinished o.state ≡ false).
    let rest = subst (λ (l : List ℕ). Differ l) (held_behind f o os t) d in
    let not_first : (z : OutEntry) → is_unfinished z.state ≡ true → Among z (o ∷ os) → Among z os =
    λ z w c. ⊎_elim (λ (i : z ≡ o). let g : is_unfinished z.state ≡ false = ap (λ (k : OutEntry). is_unfinished k.state) i ∙ t in absurd cc) (λ (r : Among z os). r) c in
    unique_from f os rest x y (not_first x u a) (not_first y v b) u v e)
    (cases_Bool (is_unfinished o.state))

differ_from : (f : OutEntry → ℕ) (os : List OutEntry) → Rises out_key os → Unique f os → Differ (held f os)
differ_from f [] r q = tt
differ_from f (o ∷ os) r q =
    let rest = differ_from f os r.1 (λ x y a b. q x y (inr a) (inr b)) in
    cond_both (is_unfinished o.state) (f o ∷ held f os) (held f os) (λ (l : List ℕ). Differ l)
    (λ t. (
      false_from_ne_true (is_among (f o) (held f os)) (λ i.
          let h = held_from f (f o) os i in
          let e = q h.x o (inr h.among) (inl refl) h.unfinished t h.is in
          let l = above_at out_key o.number os r.0 h.x h.among in
          absurd (omega (arith, e, l))),
      rest,
    ))
    (λ t. rest)

-- ---- the outbox

abbrev pub IsSoundOut : ℕ → List Entry → OutEntry → Type 0
IsSoundOut k es o = IsGiven k o.number × IsApart o.number es × IsSubmitted o × AreTries o.state o.tries

pub record Outbox (k : ℕ) (es : List Entry) (os : List OutEntry) : Type 0 where
  pub order : Rises out_key os
  pub each : (o : OutEntry) → Among o os → IsSoundOut k es o
  pub message_references : Unique (λ (o : OutEntry). o.message_reference) os
  pub references : Unique (λ (o : OutEntry). o.reference) os
  pub few : length os ≤ 20

pub outbox_from : (k : ℕ) (es : List Entry) (os : List OutEntry) → Rises out_key os → AreOutEntries k es os → length os ≤ 20
    → Differ (held_message_references os) → Differ (held_by_entries os) → Outbox k es os
outbox_from k es os r a few m d = record {
  order = r;
  each = all_at (λ (o : OutEntry). IsGiven k o.number × IsApart o.number es × IsSubmitted o × AreTries o.state o.tries) os a;
  message_references = unique_from (λ (o : OutEntry). o.message_reference) os (subst (λ (l : List ℕ). Differ l) (held_messages os) m);
  references = unique_from (λ (o : OutEntry). o.reference) os (subst (λ (l : List ℕ). Differ l) (held_entries os) d);
  few = few;
}

pub out_entries_are : (k : ℕ) (es : List Entry) (os : List OutEntry) → Outbox k es os → AreOutEntries k es os
out_entries_are k es os h = all_from (λ (o : OutEntry). IsGiven k o.number × IsApart o.number es × IsSubmitted o × AreTries o.state o.tries) os h.each

pub message_references_differ : (k : ℕ) (es : List Entry) (os : List OutEntry) → Outbox k es os → Differ (held_message_references os)
message_references_differ k es os h = subst (λ (l : List ℕ). Differ l) (sym (held_messages os)) (differ_from (λ (o : OutEntry). o.message_reference) os h.order h.message_references)

pub references_differ : (k : ℕ) (es : List Entry) (os : List OutEntry) → Outbox k es os → Differ (held_by_entries os)
references_differ k es os h = subst (λ (l : List ℕ). Differ l) (sym (held_entries os)) (differ_from (λ (o : OutEntry). o.reference) os h.order h.references)

-- entries of the inbox came and left, and numbers were given
pub outbox_entries : (k l : ℕ) (es fs : List Entry) (os : List OutEntry) → k ≤ l → StaysFree k es fs → Outbox k es os → Outbox l fs os
outbox_entries k l es fs os le free h = record {
  order = h.order;
  each = λ o a.
      let i = h.each o a in
      ((i.0.0, omega (arith, i.0.1)), is_apart o.number fs (free o.number i.0.1 (no_entry o.number es i.1)), i.2, i.3);
  message_references = h.message_references;
  references = h.references;
  few = h.few;
}

-- ---- an entry becomes another

-- it keeps what it holds, or holds nothing
pub record Replaces (o w : OutEntry) : Type 0 where
  pub number : w.number ≡ o.number
  pub message_reference : w.message_reference ≡ o.message_reference
  pub reference : w.reference ≡ o.reference
  pub unfinished : is_unfinished w.state ≡ true → is_unfinished o.state ≡ true

-- which entry it was
record Was (x : OutEntry) (os : List OutEntry) : Type 0 where
  z : OutEntry
  among : Among z os
  unfinished : is_unfinished x.state ≡ true → is_unfinished z.state ≡ true
  number : z.number ≡ x.number
  message_reference : z.message_reference ≡ x.message_reference
  reference : z.reference ≡ x.reference

was : (o w x : OutEntry) (os : List OutEntry) → Among o os → Replaces o w → Among x (put out_key w os) → Was x os
was o w x os a r m = ⊎_elim
    (λ (e : x ≡ w). record {
      z = o;
      among = a;
      unfinished = λ u. r.unfinished (ap (λ (k : OutEntry). is_unfinished k.state) (sym e) ∙ u);
      number = sym r.number ∙ ap (λ (k : OutEntry). k.number) (sym e);
      message_reference = sym r.message_reference ∙ ap (λ (k : OutEntry). k.message_reference) (sym e);
      reference = sym r.reference ∙ ap (λ (k : OutEntry). k.reference) (sym e);
    })
    (λ (s : Among x os × ¬ (x.number ≡ w.number)). record { z = x; among = s.0; unfinished = λ u. u; number = refl; message_reference = refl; reference = refl })
    (among_put out_key x w os m)

pub replaced : (k : ℕ) (es : List Entry) (os : List OutEntry) (o w : OutEntry) → Among o os → Replaces o w → IsSoundOut k es w → Outbox k es os → Outbox k es (put out_key w os)
replaced k es os o w a r s h = record {
  order = rises_put out_key w os h.order;
  each = λ x m. ⊎_elim (λ (e : x ≡ w). subst (λ (z : OutEntry). IsSoundOut k es z) (sym e) s) (λ (t : Among x os × ¬ (x.number ≡ w.number)). h.each x t.0) (among_put out_key x w os m);
  message_references = λ x y i j u v e.
      let p = was o w x os a r i in
      let q = was o w y os a r j in
      sym p.number ∙ h.message_references p.z q.z p.among q.among (p.unfinished u) (q.unfinished v) (p.message_reference ∙ e ∙ sym q.message_reference) ∙ q.number;
  references = λ x y i j u v e.
      let p = was o w x os a r i in
      let q = was o w y os a r j in
      sym p.number ∙ h.references p.z q.z p.among q.among (p.unfinished u) (q.unfinished v) (p.reference ∙ e ∙ sym q.reference) ∙ q.number;
  few = (let l = length_replaced out_key w o os a (sym r.number) in omega (arith, l, h.few));
}

-- ---- an entry comes

unique_put : (f : OutEntry → ℕ) (w : OutEntry) (os : List OutEntry) → is_among (f w) (held f os) ≡ false → Unique f os → Unique f (put out_key w os)
unique_put f w os new q x y a b u v e =
    let fresh : (z : OutEntry) → Among z os → is_unfinished z.state ≡ true → ¬ (f z ≡ f w) =
    λ z c t g. let i : is_among (f w) (held f os) ≡ true = ap (λ (n : ℕ). is_among n (held f os)) (sym g) ∙ held_among f z os c t in absurd cc in
    ⊎_elim
    (λ (i : x ≡ w). ⊎_elim
    (λ (j : y ≡ w). ap (λ (z : OutEntry). z.number) (i ∙ sym j))
    (λ (s : Among y os × ¬ (y.number ≡ w.number)). absurd (fresh y s.0 v (sym e ∙ ap f i)))
    (among_put out_key y w os b))
    (λ (r : Among x os × ¬ (x.number ≡ w.number)). ⊎_elim
    (λ (j : y ≡ w). absurd (fresh x r.0 u (e ∙ ap f j)))
    (λ (s : Among y os × ¬ (y.number ≡ w.number)). q x y r.0 s.0 u v e)
    (among_put out_key y w os b))
    (among_put out_key x w os a)

pub added : (k : ℕ) (es : List Entry) (os : List OutEntry) (w : OutEntry) → IsSoundOut k es w → is_among w.message_reference (held_message_references os) ≡ false → is_among w.reference (held_by_entries os) ≡ false
    → length os < 20 → Outbox k es os → Outbox k es (put out_key w os)
added k es os w s m n l h = record {
  order = rises_put out_key w os h.order;
  each = λ x a. ⊎_elim (λ (e : x ≡ w). subst (λ (z : OutEntry). IsSoundOut k es z) (sym e) s) (λ (t : Among x os × ¬ (x.number ≡ w.number)). h.each x t.0) (among_put out_key x w os a);
  message_references = unique_put (λ (o : OutEntry). o.message_reference) w os (ap (λ (r : List ℕ). is_among w.message_reference r) (sym (held_messages os)) ∙ m) h.message_references;
  references = unique_put (λ (o : OutEntry). o.reference) w os (ap (λ (r : List ℕ). is_among w.reference r) (sym (held_entries os)) ∙ n) h.references;
  few = (let p = length_put out_key w os in omega (arith, p));
}

-- ---- an entry leaves

pub deleted_out : (k n : ℕ) (es : List Entry) (os : List OutEntry) → Outbox k es os → Outbox k es (without out_key n os)
deleted_out k n es os h = record {
  order = rises_without out_key n os h.order;
  each = λ o a. h.each o (among_without out_key o n os a).0;
  message_references = λ x y a b. h.message_references x y (among_without out_key x n os a).0 (among_without out_key y n os b).0;
  references = λ x y a b. h.references x y (among_without out_key x n os a).0 (among_without out_key y n os b).0;
  few = (let l = length_without out_key n os in omega (arith, l, h.few));
}
