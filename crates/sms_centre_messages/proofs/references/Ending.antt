-- A message ends, and a part comes.
use Rattle.std.proofs.Common.{◌≡◌, ℕ, ◌+◌, ◌-◌, ◌<◌, ◌≤◌, nat_eq, List, [], ◌∷◌, Bool, true, false, Option, Some, None, refl, sym, ◌∙◌, ap, subst, ⊎_elim, arith}
use Rattle.std.specs.Prelude.{◌==◌, ◌&&◌, not, if◌then◌else◌}
use Rattle.std.specs.Str.{bytes_eq}
use Rattle.std.proofs.lemmas.Bool.{cases_eq}
use Rattle.sms_base.specs.declared.address.Address.{Address}
use Rattle.sms_base.specs.declared.final_state.FinalState.{FinalState}
use Rattle.sms_base.specs.declared.originator.Originator.{Originator}
use Rattle.sms_base.specs.declared.originator.Originator.TheVariants.{Application, Handset}
use Rattle.sms_alphabet.specs.declared.concat_key.ConcatKey.{ConcatKey}
use Rattle.sms_rows.specs.table.Table.{AllAbove, Rises, insert, put, row_at, without}
use Rattle.sms_rows.proofs.table.Tables.{found_among, insert_behind, insert_here, row_at_put, row_at_put_other, row_behind, row_here, without_behind, without_here}
use Rattle.std.proofs.lemmas.Bool.{cases_lt}
use Rattle.sms_centre_rows.specs.declared.messages.bar.BarRow.{BarRow}
use Rattle.sms_centre_rows.specs.declared.messages.message.MessageRow.{MessageRow}
use Rattle.sms_centre_rows.specs.declared.messages.part.PartRow.{PartRow}
use Rattle.sms_centre_rows.specs.messages.Messages.{ended, is_pending, message_at, message_key, part_key}
use Rattle.sms_centre_rows.specs.messages.SplitReferences.{is_between, is_delivered, last_split, or_later, unless_split, wide_in}
use Rattle.sms_centre_messages.specs.declared.references.message_ends.MessageEnds.{MessageEnds}
use Rattle.sms_centre_messages.specs.references.ReferenceIndex.{AreFew, BringsOwn, Brought, ReferenceIndexOf, Ended, Represents, HoldsLess, PendsLess, still, submitted_with, holds, last_code, is_from_handset, is_of, is_reference, repeats, total, wide_of}
use Rattle.sms_centre_messages.specs.references.Counts.{CountsOf, IsAdded, IsTaken, counted, one_if}
use Rattle.sms_centre_messages.specs.references.Keys.{is_same_sender, key_of, pair_of}
use Rattle.sms_centre_messages.proofs.references.Entering.{at_most_one, none_any, none_first, plus_none, same_bars, same_both, total_few, total_same, turned_back}
use Rattle.sms_centre_spec.proofs.forgetting.Splits.{above_among}
use Rattle.sms_centre_spec.proofs.SoundMessagesStay.{pending_undelivered as undelivered}

-- ---- totals where a row takes the place of another

module _ {A : Type 0} (key : A → ℕ) (f : A → ℕ) where
  at : Option A → ℕ
  at None = 0
  at (Some x) = f x

  total_above : (n : ℕ) (xs : List A) → AllAbove key n xs → total f (without key n xs) ≡ total f xs
  total_above n [] above = refl
  total_above n (x ∷ xs) above =
      ap (λ (l : List A). total f l) (without_behind key n x xs (λ (e : key x ≡ n). let l = above.0 in absurd (omega (arith, e, l)))) ∙ ap (λ (k : ℕ). f x + k) (total_above n xs above.1)

  total_without : (n : ℕ) (xs : List A) (o : Option A) → Rises key xs → row_at key n xs ≡ o → total f (without key n xs) + at o ≡ total f xs
  unfolding at
  total_without n [] None rises e = omega arith
  total_without n [] (Some y) rises e = absurd cc
  total_without n (x ∷ xs) o rises e = ⊎_elim
      (λ (q : key x ≡ n).
      let first : at o ≡ f x = ap at (sym e ∙ row_here key n x xs q) in
      let gone = ap (λ (l : List A). total f l) (without_here key n x xs q) in
      let rest = total_above n xs (subst (λ (k : ℕ). AllAbove key k xs) q rises.0) in
      omega (arith, first, gone, rest))
      (λ (q : key x ≡ n → ⊥).
      let rest = total_without n xs o rises.1 (sym (row_behind key n x xs q) ∙ e) in
      let stays = ap (λ (l : List A). total f l) (without_behind key n x xs q) in
      omega (arith, rest, stays))
      (cases_eq (key x) n)

  total_insert : (x : A) (xs : List A) → total f (insert key x xs) ≡ f x + total f xs
  total_insert x [] = refl
  total_insert x (y ∷ ys) = ⊎_elim
      (λ (l : key x < key y). ap (λ (z : List A). total f z) (insert_here key x y ys l))
      (λ (l : key y ≤ key x). let p = ap (λ (z : List A). total f z) (insert_behind key x y ys l) in let r = total_insert x ys in omega (arith, p, r))
      (cases_lt (key x) (key y))

  pub total_replaced : (x old : A) (xs : List A) → Rises key xs → row_at key (key x) xs ≡ Some old → total f (put key x xs) + f old ≡ total f xs + f x
  unfolding at
  total_replaced x old xs rises there =
      let insert' = total_insert x (without key (key x) xs) in
      let without' : total f (without key (key x) xs) + f old ≡ total f xs = total_without (key x) xs (Some old) rises there in
      omega (arith, insert', without')

  pub total_new : (x : A) (xs : List A) → Rises key xs → row_at key (key x) xs ≡ None → total f (put key x xs) ≡ total f xs + f x
  unfolding at
  total_new x xs rises there =
      let insert' = total_insert x (without key (key x) xs) in
      let without' : total f (without key (key x) xs) + 0 ≡ total f xs = total_without (key x) xs None rises there in
      omega (arith, insert', without')

-- ---- the last reference stays where the message does

without_above : (n : ℕ) (xs : List MessageRow) → AllAbove message_key n xs → without message_key n xs ≡ xs
without_above n [] above = refl
without_above n (x ∷ xs) above =
    without_behind message_key n x xs (λ (e : x.id ≡ n). let l = above.0 in absurd (omega (arith, e, l))) ∙ ap (λ (l : List MessageRow). x ∷ l) (without_above n xs above.1)

insert_above : (m : MessageRow) (xs : List MessageRow) → AllAbove message_key m.id xs → insert message_key m xs ≡ m ∷ xs
insert_above m [] above = refl
insert_above m (x ∷ xs) above = insert_here message_key m x xs above.0

put_here : (m x : MessageRow) (xs : List MessageRow) → Rises message_key (x ∷ xs) → x.id ≡ m.id → put message_key m (x ∷ xs) ≡ m ∷ xs
put_here m x xs rises e =
    let above : AllAbove message_key m.id xs = subst (λ (k : ℕ). AllAbove message_key k xs) e rises.0 in
    ap (λ (l : List MessageRow). insert message_key m l) (without_here message_key m.id x xs e ∙ without_above m.id xs above) ∙ insert_above m xs above

put_after : (m x : MessageRow) (xs : List MessageRow) → x.id < m.id → put message_key m (x ∷ xs) ≡ x ∷ put message_key m xs
put_after m x xs l =
    ap (λ (z : List MessageRow). insert message_key m z) (without_behind message_key m.id x xs (λ (e : x.id ≡ m.id). absurd (omega (arith, e, l))))
    ∙ insert_behind message_key m x (without message_key m.id xs) (omega (arith, l))

last_stays : (source : Address) (handset : List ℕ) (state : FinalState) (moment : ℕ) (l : Option ℕ) (m : MessageRow) (ms : List MessageRow) → Rises message_key ms → message_at m.id ms ≡ Some m
    → last_split source handset l (put message_key (ended state moment m) ms) ≡ last_split source handset l ms
last_stays source handset state moment l m [] rises there = absurd cc
last_stays source handset state moment l m (x ∷ xs) rises there = ⊎_elim
    (λ (e : x.id ≡ m.id).
    let s : Some x ≡ Some m = sym (row_here message_key m.id x xs e) ∙ there in
    let is : x ≡ m = cc in
    ap (λ (z : List MessageRow). last_split source handset l z) (put_here (ended state moment m) x xs rises e)
    ∙ ap (λ (y : MessageRow). last_split source handset (if is_between source handset y then or_later l y.split_reference else l) xs) (sym is))
    (λ (e : x.id ≡ m.id → ⊥).
    let found : message_at m.id xs ≡ Some m = sym (row_behind message_key m.id x xs e) ∙ there in
    let less : x.id < m.id = above_among x.id m xs rises.0 (found_among message_key m.id m xs found) in
    ap (λ (z : List MessageRow). last_split source handset l z) (put_after (ended state moment m) x xs less)
    ∙ last_stays source handset state moment (if is_between source handset x then or_later l x.split_reference else l) m xs rises.1 found)
    (cases_eq x.id m.id)

-- the parts' message is as it was, but for its end
parts_stay : (f : PartRow → Option MessageRow → ℕ) (m later : MessageRow) (ms : List MessageRow) (ps : List PartRow) → later.id ≡ m.id → message_at m.id ms ≡ Some m → ((p : PartRow) → f p (Some later) ≡ f p (Some m))
    → total (λ p. f p (message_at p.id (put message_key later ms))) ps ≡ total (λ p. f p (message_at p.id ms)) ps
parts_stay f m later ms ps same there alike =
    total_same (λ p. f p (message_at p.id (put message_key later ms))) (λ p. f p (message_at p.id ms)) ps
    (λ p a. ⊎_elim
    (λ (e : later.id ≡ p.id).
    ap (λ (o : Option MessageRow). f p o) (subst (λ (k : ℕ). message_at k (put message_key later ms) ≡ Some later) e (row_at_put message_key later ms))
    ∙ alike p
    ∙ sym (ap (λ (o : Option MessageRow). f p o) (subst (λ (k : ℕ). message_at k ms ≡ Some m) (sym same ∙ e) there)))
    (λ (e : later.id ≡ p.id → ⊥). ap (λ (o : Option MessageRow). f p o) (row_at_put_other message_key p.id later ms e))
    (cases_eq later.id p.id))

-- ---- the message ends

less_held : (d a r : Bool) → one_if (a && (not d && r)) + (if d then one_if (a && (not false && r)) else 0) ≡ one_if (a && (not false && r))
less_held true true r = omega arith
less_held true false r = refl
less_held false a r = omega arith

pub holds_ended : (m : MessageRow) (state : FinalState) (moment : ℕ) (old new : ReferenceIndexOf) (bs : List BarRow) (ms : List MessageRow) (ps : List PartRow) → Ended m state old new → Represents old bs ms ps → Rises message_key ms
    → message_at m.id ms ≡ Some m → is_pending m ≡ true → is_delivered m.state ≡ false → Represents new bs (put message_key (ended state moment m) ms) ps
holds_ended m state moment old new bs ms ps ends h rises there open' undelivered =
    let later : MessageRow = ended state moment m in
    same_bars old new bs ms (put message_key later ms) ps ps ends.bars h
    (λ key free.
    let replaced = total_replaced message_key (holds key) later m ms rises there in
    let before = h.held key free in
    let after = ends.held key in
    let parts = less_held (is_delivered (Some state)) (is_of key m) (is_reference key.number m.split_reference) in
    let was : holds key m ≡ one_if (is_of key m && (not false && is_reference key.number m.split_reference)) = ap (λ (d : Bool). one_if (is_of key m && (not d && is_reference key.number m.split_reference))) undelivered in
    let some : holds key later + (if is_delivered (Some state) then holds key m else 0) ≡ holds key m =
    ap (λ (n : ℕ). holds key later + (if is_delivered (Some state) then n else 0)) was ∙ parts ∙ sym was in
    omega (arith, replaced, before, after, some))
    (λ key free.
    ap (λ (k : CountsOf). counted key k) ends.own ∙ h.own key free
    ∙ sym (parts_stay (λ p o. one_if (is_reference key.number (wide_of key p o))) m later ms ps refl there (λ p. refl)))
    (λ source handset.
    ap (λ (k : CountsOf). counted (key_of source handset 0) k) ends.last ∙ h.last source handset
    ∙ ap last_code (sym (last_stays source handset state moment None m ms rises there)))
    (λ source handset reference.
    let replaced = total_replaced message_key (λ x. one_if (repeats source handset reference x)) later m ms rises there in
    let before = h.pending source handset reference in
    let after = ends.pending source handset reference in
    omega (arith, replaced, before, after))

held_still : (m : MessageRow) (key : MessageEnds) → is_pending m ≡ true → holds key (still m) ≡ holds key m
held_still m key open' = ap (λ (d : Bool). one_if (is_of key m && (not d && is_reference key.number m.split_reference))) (sym (undelivered m.state open'))

pending_still : (m : MessageRow) (source handset : List ℕ) (n : ℕ) → is_pending m ≡ true → one_if (repeats source handset n (still m)) ≡ one_if (repeats source handset n m)
pending_still m source handset n open' = ap (λ (b : Bool). one_if (b && (is_from_handset n m.originator && (bytes_eq source m.source.digits && bytes_eq handset m.handset)))) (sym open')

ended_as : (m : MessageRow) (state : FinalState) (old new : ReferenceIndexOf) → is_pending m ≡ true → Ended (still m) state old new → Ended m state old new
ended_as m state old new open' e = record {
  held = λ key. e.held key ∙ ap (λ (n : ℕ). counted key old.held - (if is_delivered (Some state) then n else 0)) (held_still m key open');
  pending = λ source handset n. e.pending source handset n ∙ ap (λ (k : ℕ). counted (pair_of source handset n) old.pending - k) (pending_still m source handset n open');
  last = e.last;
  own = e.own;
  bars = e.bars;
}

pub holds_after_end : (row m : MessageRow) (state : FinalState) (moment : ℕ) (old new : ReferenceIndexOf) (bs : List BarRow) (ms : List MessageRow) (ps : List PartRow) → Ended (still row) state old new → Represents old bs ms ps → Rises message_key ms → message_at m.id ms ≡ Some m
    → is_pending m ≡ true → still row ≡ still m → Represents new bs (put message_key (ended state moment m) ms) ps
holds_after_end row m state moment old new bs ms ps e h rises there open' same =
    holds_ended m state moment old new bs ms ps (ended_as m state old new open' (subst (λ (r : MessageRow). Ended r state old new) same e)) h rises there open' (undelivered m.state open')

-- ---- a part comes

pub holds_brought : (m : MessageRow) (p : PartRow) (old new : ReferenceIndexOf) (bs : List BarRow) (ms : List MessageRow) (ps : List PartRow) → Brought m p.key old new → Represents old bs ms ps → Rises part_key ps
    → message_at p.id ms ≡ Some m → row_at part_key (part_key p) ps ≡ None → AreFew ms ps → Represents new bs ms (put part_key p ps)
holds_brought m p old new bs ms ps brought h rises there absent few = same_bars old new bs ms ms ps (put part_key p ps) brought.bars h
    (λ key free. ap (λ (k : CountsOf). counted key k) brought.held ∙ h.held key free)
    (λ key free.
    let before = h.own key free in
    let small = total_few (submitted_with key ms) ps (λ x. at_most_one (is_reference key.number (wide_of key x (message_at x.id ms)))) in
    let more = total_new part_key (submitted_with key ms) p ps rises absent in
    let this : submitted_with key ms p ≡ one_if (is_reference key.number (wide_of key p (Some m))) = ap (λ (o : Option MessageRow). one_if (is_reference key.number (wide_of key p o))) there in
    let after = brought.own key (omega (arith, before, small, few)) in
    omega (arith, before, more, this, after))
    (λ source handset. ap (λ (k : CountsOf). counted (key_of source handset 0) k) brought.last ∙ h.last source handset)
    (λ source handset reference. ap (λ (k : CountsOf). counted (pair_of source handset reference) k) brought.pending ∙ h.pending source handset reference)

-- ---- what the counts become

minus_none : (n k : ℕ) → 0 ≡ k → n ≡ n - k
minus_none n k e = omega (arith, e)

chosen : (d : Bool) (n : ℕ) → d ≡ true → n ≡ (if d then n else 0)
chosen d n e = sym (ap (λ (b : Bool). if b then n else 0) e)

unchosen : (d : Bool) (n : ℕ) → d ≡ false → 0 ≡ (if d then n else 0)
unchosen d n e = sym (ap (λ (b : Bool). if b then n else 0) e)

no_choice : (d : Bool) (n : ℕ) → 0 ≡ n → 0 ≡ (if d then n else 0)
no_choice true n e = e
no_choice false n e = refl

pub holds_taken : (m : MessageRow) (state : FinalState) (reference : ℕ) (old new : CountsOf) → m.split_reference ≡ Some reference → is_delivered m.state ≡ false → is_delivered (Some state) ≡ true → IsTaken (key_of m.source m.handset reference) old new → HoldsLess m state old new
holds_taken m state reference old new split undelivered done taken = λ key.
    taken key
    ∙ ap (λ (n : ℕ). counted key old - n)
    (same_both (is_same_sender (key_of m.source m.handset reference).source key.source) (bytes_eq m.handset key.handset) (nat_eq reference key.number)
    ∙ ap (λ (d : Bool). one_if (is_of key m && (not d && (reference == key.number)))) (sym undelivered)
    ∙ ap (λ (o : Option ℕ). one_if (is_of key m && (not (is_delivered m.state) && is_reference key.number o))) (sym split)
    ∙ chosen (is_delivered (Some state)) (holds key m) done)

pub holds_unsplit : (m : MessageRow) (state : FinalState) (old : CountsOf) → m.split_reference ≡ None → HoldsLess m state old old
holds_unsplit m state old split = λ key.
    minus_none (counted key old) (if is_delivered (Some state) then holds key m else 0)
    (no_choice (is_delivered (Some state)) (holds key m)
    (none_any (is_of key m) (not (is_delivered m.state)) ∙ ap (λ (o : Option ℕ). one_if (is_of key m && (not (is_delivered m.state) && is_reference key.number o))) (sym split)))

pub holds_undelivered : (m : MessageRow) (state : FinalState) (old : CountsOf) → is_delivered (Some state) ≡ false → HoldsLess m state old old
holds_undelivered m state old no_end = λ key. minus_none (counted key old) (if is_delivered (Some state) then holds key m else 0) (unchosen (is_delivered (Some state)) (holds key m) no_end)

pub pends_taken : (m : MessageRow) (reference : ℕ) (old new : CountsOf) → m.originator ≡ Handset reference → is_pending m ≡ true → IsTaken (pair_of m.source.digits m.handset reference) old new → PendsLess m old new
pends_taken m reference old new from open' taken = λ source handset n.
    taken (pair_of source handset n) ∙ ap (λ (k : ℕ). counted (pair_of source handset n) old - k) (turned_back m reference source handset n from open')

pub pends_same : (m : MessageRow) (account : List ℕ) (old : CountsOf) → m.originator ≡ Application account → PendsLess m old old
pends_same m account old from = λ source handset n.
    minus_none (counted (pair_of source handset n) old) (one_if (repeats source handset n m))
    (none_first (is_pending m) ∙ ap (λ (o : Originator). one_if (is_pending m && (is_from_handset n o && (bytes_eq source m.source.digits && bytes_eq handset m.handset)))) (sym from))

-- ---- of a part

arrived_same : (s h : Bool) (reference n : ℕ) → one_if (s && (h && nat_eq reference n)) ≡ one_if (is_reference n (if s && h then Some reference else None))
arrived_same true true reference n = refl
arrived_same true false reference n = refl
arrived_same false h reference n = refl

none_arrived : (b : Bool) (n : ℕ) → 0 ≡ one_if (is_reference n (if b then None else None))
none_arrived true n = refl
none_arrived false n = refl

pub owns_added : (m : MessageRow) (key : Option ConcatKey) (reference : ℕ) (old new : CountsOf) → unless_split m.split_reference (wide_in key) ≡ Some reference → IsAdded (key_of m.source m.handset reference) old new → BringsOwn m key old new
owns_added m key reference old new own added = λ q small.
    added q small
    ∙ ap (λ (n : ℕ). counted q old + n)
    (arrived_same (is_same_sender (key_of m.source m.handset reference).source q.source) (bytes_eq m.handset q.handset) reference q.number
    ∙ ap (λ (o : Option ℕ). one_if (is_reference q.number (if is_of q m then o else None))) (sym own))

pub owns_none : (m : MessageRow) (key : Option ConcatKey) (old : CountsOf) → unless_split m.split_reference (wide_in key) ≡ None → BringsOwn m key old old
owns_none m key old own = λ q small.
    plus_none (counted q old) (one_if (is_reference q.number (if is_of q m then unless_split m.split_reference (wide_in key) else None)))
    (none_arrived (is_of q m) q.number ∙ ap (λ (o : Option ℕ). one_if (is_reference q.number (if is_of q m then o else None))) (sym own))
