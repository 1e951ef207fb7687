-- What memory has of claims, and the bars with it, is what the rows without the messages that go lay claim to, and their bars.
use Rattle.std.proofs.Common.{◌≡◌, ℕ, ◌+◌, List, [], ◌∷◌, ◌++◌, Bool, true, false, Option, Some, None, refl, sym, ◌∙◌, ap, subst, inl, inr, ⊎_elim, eq-eqb, arith}
use Rattle.std.specs.Prelude.{◌⊎◌, ◌==◌, ◌&&◌, ◌||◌, not, if◌then◌else◌}
use Rattle.std.specs.Str.{bytes_eq}
use Rattle.std.proofs.lemmas.Bool.{and_left, and_parts, and_right, cases_Bool, cases_eq, cond-true, cond-false, ne_eqb, or_parts}
use Rattle.sms_base.specs.AddressKind.{type_number}
use Rattle.sms_base.specs.Among.{Among}
use Rattle.sms_rows.specs.declared.table.change.Change.{Change}
use Rattle.sms_rows.specs.declared.table.change.Change.TheVariants.{Put}
use Rattle.sms_rows.specs.table.Since.{Since, oldest_first as changes_of, put_in, untouched}
use Rattle.sms_rows.specs.table.Table.{Rises, put}
use Rattle.sms_rows.proofs.table.Tables.{found_among, found_key, rises_put}
use Rattle.sms_centre_rows.specs.declared.messages.bar.BarRow.{BarRow}
use Rattle.sms_centre_rows.specs.declared.messages.message.MessageRow.{MessageRow}
use Rattle.sms_centre_rows.specs.declared.messages.part.PartRow.{PartRow}
use Rattle.sms_centre_rows.specs.declared.messages.claim.Claim.{Claim}
use Rattle.sms_centre_rows.specs.messages.Bars.{bar_key, bar_of, bars_of, claims_of, claims_of_header, claims_of_parts, claims_of_split, is_barred, next_bar, put_bar, put_bars, with_bar, with_bars}
use Rattle.sms_centre_rows.specs.messages.Messages.{is_pending, message_at, message_key}
use Rattle.sms_centre_rows.specs.messages.SplitReferences.{is_among, is_delivered, own_bars, unless_split, wide_in}
use Rattle.sms_centre_spec.specs.declared.rows.Rows.{Rows}
use Rattle.sms_centre_spec.specs.SoundRows.{IsSound}
use Rattle.sms_centre_spec.specs.forgetting.Forget.{bars_put}
use Rattle.sms_centre_spec.specs.forgetting.Forgetting.{MayGo, claims_left, is_split_on, kept, part_id, rows_without}
use Rattle.sms_centre_spec.proofs.forgetting.BarsStand.{all_put, one_rises, put_behind}
use Rattle.sms_centre_spec.proofs.forgetting.Kept.{kept_gone, kept_here}
use Rattle.sms_centre_spec.proofs.forgetting.Looks.{message_stays}
use Rattle.sms_centre_spec.proofs.forgetting.Splits.{last_same}
use Rattle.sms_centre_messages.specs.declared.references.message_ends.MessageEnds.{MessageEnds}
use Rattle.sms_centre_messages.specs.references.Counts.{one_if}
use Rattle.sms_centre_messages.specs.references.Keys.{is_same, is_same_sender, key_of, pair_of}
use Rattle.sms_centre_messages.specs.references.ReferenceIndex.{Barred, ReferenceIndexOf, Represents, any, holds, is_at, is_from_handset, is_held_at, is_of, is_own_at, is_put, is_reference, last_code, last_place, repeats, submitted_with, total, wide_of}
use Rattle.sms_centre_messages.proofs.references.Adopted.{any_then, last_then, or_rest}
use Rattle.sms_centre_messages.proofs.references.Recovering.{place_end}
use Rattle.sms_centre_messages.proofs.references.Tallies.{own_told}
use Rattle.sms_centre_messages.proofs.references.Written.{same_key}

-- ---- the last reference, by its code

pub other_last : (n : ℕ) (o : Option ℕ) → not (last_code o == n + 1) ≡ is_split_on (Some n) o
other_last n None = ap not (ne_eqb 0 (n + 1) (λ (e : 0 ≡ n + 1). absurd (omega (arith, e))))
other_last n (Some k) = ap not (⊎_elim
    (λ (e : k ≡ n). eq-eqb (k + 1) (n + 1) (ap (λ (i : ℕ). i + 1) e) ∙ sym (eq-eqb k n e))
    (λ (e : k ≡ n → ⊥). ne_eqb (k + 1) (n + 1) (λ (q : k + 1 ≡ n + 1). e (omega (arith, q))) ∙ sym (ne_eqb k n e))
    (cases_eq k n))

-- ---- totals without what counts nothing

total_kept : {A : Type 0} (id : A → ℕ) (goes : ℕ → Bool) (f g : A → ℕ) (xs : List A) → ((x : A) → Among x xs → goes (id x) ≡ true → f x ≡ 0)
    → ((x : A) → Among x xs → goes (id x) ≡ false → g x ≡ f x) → total g (kept id goes xs) ≡ total f xs
total_kept id goes f g [] none same = refl
total_kept {A = A} id goes f g (x ∷ xs) none same =
    let rest : total g (kept id goes xs) ≡ total f xs = total_kept id goes f g xs (λ y a. none y (inr a)) (λ y a. same y (inr a)) in
    ⊎_elim
    (λ (t : goes (id x) ≡ true).
    let gone = ap (λ (l : List A). total g l) (kept_gone id goes x xs t) in
    let zero = none x (inl refl) t in omega (arith, rest, gone, zero))
    (λ (t : goes (id x) ≡ false).
    let here = ap (λ (l : List A). total g l) (kept_here id goes x xs t) in
    let alike = same x (inl refl) t in omega (arith, rest, here, alike))
    (cases_Bool (goes (id x)))

-- ---- what bars stand, and what messages lay claim to

-- a claim as a bar of no place
abbrev claimed : (BarRow → Bool) → Claim → Bool
claimed test c = test (bar_of c 0)

false_parts : {A : Type 0} (test : A → Bool) (xs ys : List A) → any test (xs ++ ys) ≡ false → (any test xs ≡ false) × (any test ys ≡ false)
false_parts test xs ys e = or_parts (any test xs) (any test ys) (sym (any_then test xs ys) ∙ e)

or_nothing : (a : Bool) → a ≡ (a || false)
or_nothing true = refl
or_nothing false = refl

or_was : (a b : Bool) → (b ≡ true → a ≡ true) → a ≡ (a || b)
or_was true b f = refl
or_was false true f = f refl
or_was false false f = refl

module _ (test : BarRow → Bool) (alike : (c : Claim) (n : ℕ) → test (bar_of c n) ≡ claimed test c)
    (there : (c : Claim) (bs : List BarRow) → is_barred c bs ≡ true → claimed test c ≡ true → any test bs ≡ true) where
  -- one more
  one_any : (c : Claim) (bs : List BarRow) → Rises bar_key bs → any test (with_bar c bs) ≡ (any test bs || claimed test c)
  one_any c bs rises = ⊎_elim
      (λ (t : is_barred c bs ≡ true).
      ap (λ (l : List BarRow). any test l) (cond-true (is_barred c bs) bs (put bar_key (bar_of c (next_bar bs)) bs) t) ∙ or_was (any test bs) (claimed test c) (there c bs t))
      (λ (t : is_barred c bs ≡ false).
      ap (λ (l : List BarRow). any test l) (cond-false (is_barred c bs) bs (put bar_key (bar_of c (next_bar bs)) bs) t ∙ put_behind c bs rises)
      ∙ any_then test bs (bar_of c (next_bar bs) ∷ [])
      ∙ ap (λ (b : Bool). any test bs || b) (sym (or_nothing (test (bar_of c (next_bar bs)))) ∙ alike c (next_bar bs)))
      (cases_Bool (is_barred c bs))

  pub all_any : (cs : List Claim) (bs : List BarRow) → Rises bar_key bs → any test (with_bars cs bs) ≡ (any test bs || any (claimed test) cs)
  all_any [] bs rises = or_nothing (any test bs)
  all_any (c ∷ cs) bs rises =
      all_any cs (with_bar c bs) (one_rises c bs rises) ∙ ap (λ (b : Bool). b || any (claimed test) cs) (one_any c bs rises) ∙ or_rest (any test bs) (claimed test c) (any (claimed test) cs)

  -- what was put since, and what was there
  pub put_any : (cs : List Claim) (t : Since BarRow) → Rises bar_key (bars_of t) → any test (bars_of t) ≡ (any test t.base || any (is_put test) t.news)
      → any test (bars_of (put_bars cs t)) ≡ (any test t.base || any (is_put test) (put_bars cs t).news)
  put_any [] t rises e = e
  put_any (c ∷ cs) t rises e = ⊎_elim
      (λ (b : is_barred c (bars_of t) ≡ true).
      let same : put_bar c t ≡ t = cond-true (is_barred c (bars_of t)) t (put_in x t) b in
      subst (λ (u : Since BarRow). any test (bars_of (put_bars cs u)) ≡ (any test t.base || any (is_put test) (put_bars cs u).news)) (sym same) (put_any cs t rises e))
      (λ (b : is_barred c (bars_of t) ≡ false).
      let same : put_bar c t ≡ put_in x t = cond-false (is_barred c (bars_of t)) t (put_in x t) b in
      subst (λ (u : Since BarRow). any test (bars_of (put_bars cs u)) ≡ (any test t.base || any (is_put test) (put_bars cs u).news)) (sym same)
      (put_any cs (put_in x t) (rises_put bar_key x (bars_of t) rises) (
      ap (λ (l : List BarRow). any test l) (put_behind c (bars_of t) rises) ∙ any_then test (bars_of t) (x ∷ []) ∙ ap (λ (q : Bool). any test (bars_of t) || q) (sym (or_nothing (test x)))
      ∙ ap (λ (q : Bool). q || test x) e ∙ turned (any test t.base) (any (is_put test) t.news) (test x))))
      (cases_Bool (is_barred c (bars_of t)))
    where
      x : BarRow
      x = bar_of c (next_bar (bars_of t))

      turned : (a b d : Bool) → ((a || b) || d) ≡ (a || (d || b))
      turned true b d = refl
      turned false true true = refl
      turned false true false = refl
      turned false false true = refl
      turned false false false = refl

-- the oldest first
turned_any : (test : BarRow → Bool) (cs : List (Change BarRow)) → any (is_put test) (changes_of cs) ≡ any (is_put test) cs
turned_any test [] = refl
turned_any test (c ∷ cs) =
    any_then (is_put test) (changes_of cs) (c ∷ []) ∙ ap (λ (b : Bool). any (is_put test) (changes_of cs) || b) (sym (or_nothing (is_put test c)))
    ∙ swap (any (is_put test) (changes_of cs)) (is_put test c) ∙ ap (λ (b : Bool). is_put test c || b) (turned_any test cs)
  where
    swap : (a b : Bool) → (a || b) ≡ (b || a)
    swap true true = refl
    swap true false = refl
    swap false true = refl
    swap false false = refl

-- the last of those that are put is the last of all
last_put : (place : ℕ) (cs : List Claim) (t : Since BarRow) → Rises bar_key (bars_of t) → place + 1 ≡ next_bar t.base
    → last_place place (changes_of t.news) + 1 ≡ next_bar (bars_of t) → last_place place (changes_of (put_bars cs t).news) + 1 ≡ next_bar (bars_of (put_bars cs t))
last_put place [] t rises base e = e
last_put place (c ∷ cs) t rises base e = ⊎_elim
    (λ (b : is_barred c (bars_of t) ≡ true).
    let same : put_bar c t ≡ t = cond-true (is_barred c (bars_of t)) t (put_in x t) b in
    subst (λ (u : Since BarRow). last_place place (changes_of (put_bars cs u).news) + 1 ≡ next_bar (bars_of (put_bars cs u))) (sym same) (last_put place cs t rises base e))
    (λ (b : is_barred c (bars_of t) ≡ false).
    let same : put_bar c t ≡ put_in x t = cond-false (is_barred c (bars_of t)) t (put_in x t) b in
    subst (λ (u : Since BarRow). last_place place (changes_of (put_bars cs u).news) + 1 ≡ next_bar (bars_of (put_bars cs u))) (sym same)
    (last_put place cs (put_in x t) (rises_put bar_key x (bars_of t) rises) base (
    ap (λ (n : ℕ). n + 1) (last_then place (changes_of t.news) (Put x ∷ [])) ∙ sym (place_end 1 (bars_of t) x)
    ∙ sym (ap (λ (l : List BarRow). next_bar l) (put_behind c (bars_of t) rises)))))
    (cases_Bool (is_barred c (bars_of t)))
  where
    x : BarRow
    x = bar_of c (next_bar (bars_of t))

-- ---- what passes of the claims of messages that go

free_left : (test : Claim → Bool) (goes : ℕ → Bool) (m : MessageRow) (ms : List MessageRow) (ps : List PartRow) → any test (claims_left goes ms ps) ≡ false → Among m ms → goes m.id ≡ true
    → any test (claims_of m ps) ≡ false
free_left test goes m [] ps e a g = absurd a
free_left test goes m (x ∷ xs) ps e a g =
    let parts = false_parts test (if goes x.id then claims_of x ps else []) (claims_left goes xs ps) e in
    ⊎_elim
    (λ (q : m ≡ x).
    subst (λ (y : MessageRow). any test (claims_of y ps) ≡ false) (sym q)
    (sym (ap (λ (b : Bool). any test (if b then claims_of x ps else [])) (ap (λ (y : MessageRow). goes y.id) (sym q) ∙ g)) ∙ parts.0))
    (λ (b : Among m xs). free_left test goes m xs ps parts.1 b g)
    a

free_part : (test : Claim → Bool) (m : MessageRow) (p : PartRow) (ps : List PartRow) → any test (claims_of_parts m ps) ≡ false → Among p ps → p.id ≡ m.id
    → any test (claims_of_header m (unless_split m.split_reference (wide_in p.key))) ≡ false
free_part test m p [] e a own = absurd a
free_part test m p (x ∷ xs) e a own =
    let parts = false_parts test (if x.id == m.id then claims_of_header m (unless_split m.split_reference (wide_in x.key)) else []) (claims_of_parts m xs) e in
    ⊎_elim
    (λ (q : p ≡ x).
    subst (λ (y : PartRow). any test (claims_of_header m (unless_split m.split_reference (wide_in y.key))) ≡ false) (sym q)
    (sym (ap (λ (b : Bool). any test (if b then claims_of_header m (unless_split m.split_reference (wide_in x.key)) else [])) (eq-eqb x.id m.id (ap (λ (y : PartRow). y.id) (sym q) ∙ own))) ∙ parts.0))
    (λ (b : Among p xs). free_part test m p xs parts.1 b own)
    a

-- ---- one message, and one part

held_alike : (key : MessageEnds) (c : Claim) (n : ℕ) → is_held_at key (bar_of c n) ≡ claimed (is_held_at key) c
held_alike key c n = refl

own_alike : (key : MessageEnds) (c : Claim) (n : ℕ) → is_own_at key (bar_of c n) ≡ claimed (is_own_at key) c
own_alike key c n = refl

held_there : (key : MessageEnds) (c : Claim) (bs : List BarRow) → is_barred c bs ≡ true → claimed (is_held_at key) c ≡ true → any (is_held_at key) bs ≡ true
held_there key c bs t e =
    let own : c.is_own ≡ true = (and_parts c.is_own (is_among c.reference (own_bars c.source c.handset bs)) t).0 in
    let not_own : not c.is_own ≡ true = (and_parts (is_at key (bar_of c 0)) (not c.is_own) e).1 in
    let bad : false ≡ true = sym (ap not own) ∙ not_own in absurd cc

own_there : (key : MessageEnds) (c : Claim) (bs : List BarRow) → is_barred c bs ≡ true → claimed (is_own_at key) c ≡ true → any (is_own_at key) bs ≡ true
own_there key c bs t e =
    let at : is_same (key_of c.source c.handset c.reference) key ≡ true = (and_parts (is_at key (bar_of c 0)) c.is_own e).0 in
    subst (λ (k : MessageEnds). any (is_own_at k) bs ≡ true) (same_key (key_of c.source c.handset c.reference) key at)
    (sym (own_told c.source c.handset c.reference bs) ∙ (and_parts c.is_own (is_among c.reference (own_bars c.source c.handset bs)) t).1)

free_holds : (key : MessageEnds) (m : MessageRow) → any (claimed (is_held_at key)) (claims_of_split m m.split_reference) ≡ false → holds key m ≡ 0
free_holds key m e = of m.split_reference refl (is_delivered m.state) refl e
  where
    s : Bool
    s = is_same_sender (record { type_of_number = type_number m.source.ton; plan = m.source.npi; digits = record { digits = m.source.digits } }) key.source

    h : Bool
    h = bytes_eq m.handset key.handset

    none : (a b r : Bool) → (((a && (b && r)) && true) || false) ≡ false → one_if ((a && b) && (true && r)) ≡ 0
    none true true true q = let bad : true ≡ false = q in absurd cc
    none true true false q = refl
    none true false r q = refl
    none false b r q = refl

    of : (o : Option ℕ) → m.split_reference ≡ o → (d : Bool) → is_delivered m.state ≡ d
        → any (claimed (is_held_at key)) (claims_of_split m m.split_reference) ≡ false → holds key m ≡ 0
    of None q d t f = ap one_if (and_right (is_of key m) (not (is_delivered m.state) && is_reference key.number m.split_reference)
        (and_right (not (is_delivered m.state)) (is_reference key.number m.split_reference) (ap (λ (o : Option ℕ). is_reference key.number o) q)))
    of (Some n) q true t f = ap one_if (and_right (is_of key m) (not (is_delivered m.state) && is_reference key.number m.split_reference)
        (and_left (not (is_delivered m.state)) (is_reference key.number m.split_reference) (ap not t)))
    of (Some n) q false t f =
        ap (λ (b : Bool). one_if (is_of key m && (not b && is_reference key.number m.split_reference))) t
        ∙ ap (λ (o : Option ℕ). one_if (is_of key m && (true && is_reference key.number o))) q
        ∙ none s h (n == key.number) (
        sym (ap (λ (o : Option ℕ). any (claimed (is_held_at key)) (claims_of_split m o)) q
        ∙ ap (λ (b : Bool). any (claimed (is_held_at key)) (if b then [] else record { source = m.source; handset = m.handset; reference = n; is_own = false } ∷ [])) t) ∙ f)

free_wide : (key : MessageEnds) (p : PartRow) (m : MessageRow) → any (claimed (is_own_at key)) (claims_of_header m (unless_split m.split_reference (wide_in p.key))) ≡ false
    → is_reference key.number (wide_of key p (Some m)) ≡ false
free_wide key p m e = of (unless_split m.split_reference (wide_in p.key)) refl e
  where
    none : (a b r : Bool) (n : ℕ) → (n == key.number) ≡ r → (((a && (b && r)) && true) || false) ≡ false → is_reference key.number (if a && b then Some n else None) ≡ false
    none true true true n q f = let bad : true ≡ false = f in absurd cc
    none true true false n q f = q
    none true false r n q f = refl
    none false b r n q f = refl

    nothing : (b : Bool) → is_reference key.number (if b then None else None) ≡ false
    nothing true = refl
    nothing false = refl

    of : (o : Option ℕ) → unless_split m.split_reference (wide_in p.key) ≡ o → any (claimed (is_own_at key)) (claims_of_header m (unless_split m.split_reference (wide_in p.key))) ≡ false
        → is_reference key.number (wide_of key p (Some m)) ≡ false
    of None q f = ap (λ (o : Option ℕ). is_reference key.number (if is_of key m then o else None)) q ∙ nothing (is_of key m)
    of (Some n) q f =
        ap (λ (o : Option ℕ). is_reference key.number (if is_of key m then o else None)) q
        ∙ none (is_same_sender (record { type_of_number = type_number m.source.ton; plan = m.source.npi; digits = record { digits = m.source.digits } }) key.source) (bytes_eq m.handset key.handset)
        (n == key.number) n refl (sym (ap (λ (o : Option ℕ). any (claimed (is_own_at key)) (claims_of_header m o)) q) ∙ f)

ended_repeats : (source handset : List ℕ) (reference : ℕ) (m : MessageRow) → is_pending m ≡ false → one_if (repeats source handset reference m) ≡ 0
ended_repeats source handset reference m e =
    ap one_if (and_left (is_pending m) (is_from_handset reference m.originator && (bytes_eq source m.source.digits && bytes_eq handset m.handset)) e)

-- ---- all of them

module _ (goes : ℕ → Bool) (rows : Rows) (s : IsSound rows) (may : MayGo goes rows) where
  abbrev few : Rows
  few = rows_without goes rows

  abbrev claims : List Claim
  claims = claims_left goes rows.messages rows.parts

  -- where no bar stands behind it, none stood, and nothing that goes lays claim to it
  free_held : (key : MessageEnds) → any (is_held_at key) few.bars ≡ false → (any (is_held_at key) rows.bars ≡ false) × (any (claimed (is_held_at key)) claims ≡ false)
  free_held key e =
      or_parts (any (is_held_at key) rows.bars) (any (claimed (is_held_at key)) claims) (sym (all_any (is_held_at key) (held_alike key) (held_there key) claims rows.bars s.bars) ∙ e)

  free_own : (key : MessageEnds) → any (is_own_at key) few.bars ≡ false → (any (is_own_at key) rows.bars ≡ false) × (any (claimed (is_own_at key)) claims ≡ false)
  free_own key e = or_parts (any (is_own_at key) rows.bars) (any (claimed (is_own_at key)) claims) (sym (all_any (is_own_at key) (own_alike key) (own_there key) claims rows.bars s.bars) ∙ e)

  held_kept : (key : MessageEnds) → any (claimed (is_held_at key)) claims ≡ false → total (holds key) few.messages ≡ total (holds key) rows.messages
  held_kept key free = total_kept message_key goes (holds key) (holds key) rows.messages
      (λ m a t. free_holds key m (false_parts (claimed (is_held_at key)) (claims_of_split m m.split_reference) (claims_of_parts m rows.parts)
      (free_left (claimed (is_held_at key)) goes m rows.messages rows.parts free a t)).0)
      (λ m a t. refl)

  own_none : (key : MessageEnds) (p : PartRow) → any (claimed (is_own_at key)) claims ≡ false → Among p rows.parts → goes p.id ≡ true → submitted_with key rows.messages p ≡ 0
  own_none key p free a t = of (message_at p.id rows.messages) refl
    where
      of : (o : Option MessageRow) → message_at p.id rows.messages ≡ o → one_if (is_reference key.number (wide_of key p o)) ≡ 0
      of None e = refl
      of (Some m) e =
          let there : Among m rows.messages = found_among message_key p.id m rows.messages e in
          let own : m.id ≡ p.id = found_key message_key p.id m rows.messages e in
          let all = free_left (claimed (is_own_at key)) goes m rows.messages rows.parts free there (ap goes own ∙ t) in
          let parts = (false_parts (claimed (is_own_at key)) (claims_of_split m m.split_reference) (claims_of_parts m rows.parts) all).1 in
          ap one_if (free_wide key p m (free_part (claimed (is_own_at key)) m p rows.parts parts a (sym own)))

  own_kept : (key : MessageEnds) → any (claimed (is_own_at key)) claims ≡ false → total (submitted_with key few.messages) few.parts ≡ total (submitted_with key rows.messages) rows.parts
  own_kept key free =
      total_kept part_id goes (submitted_with key rows.messages) (submitted_with key (kept message_key goes rows.messages)) rows.parts
      (λ p a t. own_none key p free a t)
      (λ p a t. ap (λ (o : Option MessageRow). one_if (is_reference key.number (wide_of key p o))) (message_stays goes p.id rows.messages t))

  -- the bars that are put, in the changes as they are committed
  stands : (test : BarRow → Bool) → ((c : Claim) (n : ℕ) → test (bar_of c n) ≡ claimed test c) → ((c : Claim) (bs : List BarRow) → is_barred c bs ≡ true → claimed test c ≡ true → any test bs ≡ true)
      → (any test rows.bars || any (is_put test) (bars_put claims rows.bars)) ≡ any test few.bars
  stands test alike there =
      let t : Since BarRow = put_bars claims (untouched rows.bars) in
      ap (λ (b : Bool). any test rows.bars || b) (turned_any test t.news)
      ∙ sym (put_any test alike there claims (untouched rows.bars) s.bars (or_nothing (any test rows.bars)))
      ∙ ap (λ (l : List BarRow). any test l) (all_put claims (untouched rows.bars))

  pub holds_without : (k new : ReferenceIndexOf) → Represents k rows.bars rows.messages rows.parts → Barred (bars_put claims rows.bars) k new
      → Represents new (rows_without goes rows).bars (rows_without goes rows).messages (rows_without goes rows).parts
  holds_without k new h barred = record {
    held = λ key free. let f = free_held key free in barred.held key ∙ h.held key f.0 ∙ sym (held_kept key f.1);
    own = λ key free. let f = free_own key free in barred.own key ∙ h.own key f.0 ∙ sym (own_kept key f.1);
    held_bars = λ key. barred.held_bars key ∙ ap (λ (b : Bool). b || any (is_put (is_held_at key)) (bars_put claims rows.bars)) (h.held_bars key)
        ∙ stands (is_held_at key) (held_alike key) (held_there key);
    own_bars = λ key. barred.own_bars key ∙ ap (λ (b : Bool). b || any (is_put (is_own_at key)) (bars_put claims rows.bars)) (h.own_bars key)
        ∙ stands (is_own_at key) (own_alike key) (own_there key);
    next = ap (λ (n : ℕ). n + 1) barred.last_bar ∙ last_put k.last_bar claims (untouched rows.bars) s.bars h.next h.next
        ∙ ap (λ (l : List BarRow). next_bar l) (all_put claims (untouched rows.bars));
    last = λ source handset. barred.last (key_of source handset 0) ∙ h.last source handset ∙ ap last_code (sym (last_same goes source handset None rows.messages s.messages.message_keys may.later));
    pending = λ source handset reference.
        barred.pending (pair_of source handset reference) ∙ h.pending source handset reference
        ∙ sym (total_kept message_key goes (λ m. one_if (repeats source handset reference m)) (λ m. one_if (repeats source handset reference m)) rows.messages
        (λ m a t. ended_repeats source handset reference m (may.ended m a t)) (λ m a t. refl));
  }
