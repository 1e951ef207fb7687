-- A message comes behind all others.
use Rattle.std.proofs.Common.{◌≡◌, ℕ, ◌+◌, ◌<◌, ◌≤◌, nat_eq, nat_lt, List, [], ◌∷◌, ◌++◌, length, Bool, true, false, Option, Some, None, refl, sym, ◌∙◌, ap, inl, inr, arith}
use Rattle.std.specs.Prelude.{◌==◌, ◌&&◌, not, if◌then◌else◌}
use Rattle.std.specs.Str.{bytes_eq}
use Rattle.std.proofs.lemmas.Slice.Eq.{bytes_eq-Decides}
use Rattle.sms_base.proofs.Bools.{swapped}
use Rattle.sms_base.specs.Among.{Among}
use Rattle.sms_base.specs.declared.address.Address.{Address}
use Rattle.sms_base.specs.declared.originator.Originator.{Originator}
use Rattle.sms_base.specs.declared.originator.Originator.TheVariants.{Application, Handset}
use Rattle.sms_rows.specs.table.Table.{put}
use Rattle.sms_rows.proofs.table.Tables.{row_at_put_other}
use Rattle.sms_centre_rows.specs.declared.messages.bar.BarRow.{BarRow}
use Rattle.sms_centre_rows.specs.declared.messages.message.MessageRow.{MessageRow}
use Rattle.sms_centre_rows.specs.declared.messages.part.PartRow.{PartRow}
use Rattle.sms_centre_rows.specs.messages.Messages.{is_pending, message_at, message_key}
use Rattle.sms_centre_rows.specs.messages.SplitReferences.{is_between, is_delivered, last_split, or_later}
use Rattle.sms_centre_messages.specs.references.ReferenceIndex.{AreFew, ReferenceIndexOf, IsNewest, Entered, GivesLast, Represents, HoldsMore, PendsMore, SameBars, any, submitted_with, code_or, holds, is_from_handset, is_held_at, is_of, is_own_at, is_reference, last_code, repeats, total, wide_of}
use Rattle.sms_centre_messages.specs.declared.references.message_ends.MessageEnds.{MessageEnds}
use Rattle.sms_centre_messages.specs.references.Counts.{CountsOf, IsAdded, IsSet, counted, one_if}
use Rattle.sms_centre_messages.specs.references.Keys.{is_same_sender, key_of, pair_of}
use Rattle.sms_centre_messages.proofs.references.Behind.{put_last}

-- ---- totals

module _ {A : Type 0} where
  pub total_append : (f : A → ℕ) (xs : List A) (y : A) → total f (xs ++ y ∷ []) ≡ total f xs + f y
  total_append f [] y = omega arith
  total_append f (x ∷ xs) y = let e = total_append f xs y in omega (arith, e)

  pub total_same : (f g : A → ℕ) (xs : List A) → ((x : A) → Among x xs → f x ≡ g x) → total f xs ≡ total g xs
  total_same f g [] same = refl
  total_same f g (x ∷ xs) same = let e = same x (inl refl) in let r = total_same f g xs (λ y a. same y (inr a)) in omega (arith, e, r)

  pub total_few : (f : A → ℕ) (xs : List A) → ((x : A) → f x ≤ 1) → total f xs ≤ length xs
  total_few f [] few = omega arith
  total_few f (x ∷ xs) few = let e = few x in let r = total_few f xs few in omega (arith, e, r)

pub at_most_one : (b : Bool) → one_if b ≤ 1
at_most_one true = omega arith
at_most_one false = omega arith

-- ---- behind all others

pub put_behind : (m : MessageRow) (ms : List MessageRow) → ((other : MessageRow) → Among other ms → other.id < m.id) → put message_key m ms ≡ ms ++ m ∷ []
put_behind m ms last = put_last message_key m ms last

pub total_behind : (f : MessageRow → ℕ) (m : MessageRow) (ms : List MessageRow) → ((other : MessageRow) → Among other ms → other.id < m.id) → total f (put message_key m ms) ≡ total f ms + f m
total_behind f m ms last = ap (λ (l : List MessageRow). total f l) (put_behind m ms last) ∙ total_append f ms m

last_append : (source : Address) (handset : List ℕ) (l : Option ℕ) (m : MessageRow) (ms : List MessageRow)
    → last_split source handset l (ms ++ m ∷ []) ≡ (if is_between source handset m then or_later (last_split source handset l ms) m.split_reference else last_split source handset l ms)
last_append source handset l m [] = refl
last_append source handset l m (x ∷ xs) = last_append source handset (if is_between source handset x then or_later l x.split_reference else l) m xs

last_given : (b : Bool) (l o : Option ℕ) (n : ℕ) → n ≡ last_code l → (if b then code_or n o else n) ≡ last_code (if b then or_later l o else l)
last_given true l None n e = e
last_given true l (Some r) n e = refl
last_given false l o n e = e

-- a message that comes has no parts yet
same_parts : (f : PartRow → Option MessageRow → ℕ) (m : MessageRow) (ms : List MessageRow) (ps : List PartRow) → ((p : PartRow) → Among p ps → ¬ (p.id ≡ m.id))
    → total (λ p. f p (message_at p.id (put message_key m ms))) ps ≡ total (λ p. f p (message_at p.id ms)) ps
same_parts f m ms ps none =
    total_same (λ p. f p (message_at p.id (put message_key m ms))) (λ p. f p (message_at p.id ms)) ps
    (λ p a. ap (λ (o : Option MessageRow). f p o) (row_at_put_other message_key p.id m ms (λ (e : m.id ≡ p.id). none p a (sym e))))

-- the bars stay
pub same_bars : (old new : ReferenceIndexOf) (bs : List BarRow) (ms others : List MessageRow) (ps parts : List PartRow) → SameBars old new → Represents old bs ms ps
    → ((key : MessageEnds) → any (is_held_at key) bs ≡ false → counted key new.held ≡ total (holds key) others)
    → ((key : MessageEnds) → any (is_own_at key) bs ≡ false → counted key new.own ≡ total (submitted_with key others) parts)
    → ((source : Address) (handset : List ℕ) → counted (key_of source handset 0) new.last ≡ last_code (last_split source handset None others))
    → ((source handset : List ℕ) (reference : ℕ) → counted (pair_of source handset reference) new.pending ≡ total (λ m. one_if (repeats source handset reference m)) others)
    → Represents new bs others parts
same_bars old new bs ms others ps parts same h held own last pending = record {
  held = held;
  own = own;
  held_bars = λ key. ap (λ (k : CountsOf). nat_lt 0 (counted key k)) same.held ∙ h.held_bars key;
  own_bars = λ key. ap (λ (k : CountsOf). nat_lt 0 (counted key k)) same.own ∙ h.own_bars key;
  next = ap (λ (n : ℕ). n + 1) same.last ∙ h.next;
  last = last;
  pending = pending;
}

pub holds_entered : (m : MessageRow) (old new : ReferenceIndexOf) (bs : List BarRow) (ms : List MessageRow) (ps : List PartRow) → Entered m old new → Represents old bs ms ps → IsNewest m ms ps → AreFew ms ps → Represents new bs (put message_key m ms) ps
holds_entered m old new bs ms ps entered h behind few = same_bars old new bs ms (put message_key m ms) ps ps entered.bars h
    (λ key free.
    let there = h.held key free in
    let small = total_few (holds key) ms (λ x. at_most_one (is_of key x && (not (is_delivered x.state) && is_reference key.number x.split_reference))) in
    let more = total_behind (holds key) m ms behind.last in
    let added = entered.held key (omega (arith, there, small, few)) in
    omega (arith, there, more, added))
    (λ key free.
    ap (λ (k : CountsOf). counted key k) entered.own ∙ h.own key free
    ∙ sym (same_parts (λ p o. one_if (is_reference key.number (wide_of key p o))) m ms ps behind.no_parts))
    (λ source handset.
    entered.last source handset
    ∙ last_given (is_between source handset m) (last_split source handset None ms) m.split_reference (counted (key_of source handset 0) old.last) (h.last source handset)
    ∙ ap last_code (sym (ap (λ (l : List MessageRow). last_split source handset None l) (put_behind m ms behind.last) ∙ last_append source handset None m ms)))
    (λ source handset reference.
    let there = h.pending source handset reference in
    let small = total_few (λ x. one_if (repeats source handset reference x)) ms (λ x. at_most_one (repeats source handset reference x)) in
    let more = total_behind (λ x. one_if (repeats source handset reference x)) m ms behind.last in
    let added = entered.pending source handset reference (omega (arith, there, small, few)) in
    omega (arith, there, more, added))

-- ---- what its counts become

-- as a key's source and handset are told from those of the message
pub same_both : (s h n : Bool) → one_if (s && (h && n)) ≡ one_if ((s && h) && (true && n))
same_both true h n = refl
same_both false h n = refl

none_both : (b n : Bool) → 0 ≡ one_if (b && (false && n))
none_both true n = refl
none_both false n = refl

pub none_any : (b c : Bool) → 0 ≡ one_if (b && (c && false))
none_any true true = refl
none_any true false = refl
none_any false c = refl

pub holds_added : (m : MessageRow) (reference : ℕ) (old new : CountsOf) → m.split_reference ≡ Some reference → is_delivered m.state ≡ false → IsAdded (key_of m.source m.handset reference) old new → HoldsMore m old new
holds_added m reference old new split open' added = λ key small.
    added key small
    ∙ ap (λ (n : ℕ). counted key old + n)
    (same_both (is_same_sender (key_of m.source m.handset reference).source key.source) (bytes_eq m.handset key.handset) (nat_eq reference key.number)
    ∙ ap (λ (d : Bool). one_if (is_of key m && (not d && (reference == key.number)))) (sym open')
    ∙ ap (λ (o : Option ℕ). one_if (is_of key m && (not (is_delivered m.state) && is_reference key.number o))) (sym split))

pub plus_none : (n k : ℕ) → 0 ≡ k → n ≡ n + k
plus_none n k e = omega (arith, e)

pub holds_none : (m : MessageRow) (old : CountsOf) → m.split_reference ≡ None → HoldsMore m old old
holds_none m old split = λ key small.
    plus_none (counted key old) (holds key m)
    (none_any (is_of key m) (not (is_delivered m.state)) ∙ ap (λ (o : Option ℕ). one_if (is_of key m && (not (is_delivered m.state) && is_reference key.number o))) (sym split))

pub holds_delivered : (m : MessageRow) (old : CountsOf) → is_delivered m.state ≡ true → HoldsMore m old old
holds_delivered m old done = λ key small.
    plus_none (counted key old) (holds key m)
    (none_both (is_of key m) (is_reference key.number m.split_reference) ∙ ap (λ (d : Bool). one_if (is_of key m && (not d && is_reference key.number m.split_reference))) (sym done))

both_true : (s h : Bool) → (s && (h && true)) ≡ (s && h)
both_true true true = refl
both_true true false = refl
both_true false h = refl

pub last_set : (m : MessageRow) (reference : ℕ) (old new : CountsOf) → m.split_reference ≡ Some reference → IsSet (key_of m.source m.handset 0) (reference + 1) old new → GivesLast m old new
last_set m reference old new split set = λ source handset.
    set (key_of source handset 0)
    ∙ ap (λ (b : Bool). if b then reference + 1 else counted (key_of source handset 0) old)
    (both_true (is_same_sender (key_of m.source m.handset 0).source (key_of source handset 0).source) (bytes_eq m.handset handset))
    ∙ ap (λ (o : Option ℕ). if is_of (key_of source handset 0) m then code_or (counted (key_of source handset 0) old) o else counted (key_of source handset 0) old) (sym split)

either_same : (b : Bool) (n : ℕ) → n ≡ (if b then n else n)
either_same true n = refl
either_same false n = refl

pub last_none : (m : MessageRow) (old : CountsOf) → m.split_reference ≡ None → GivesLast m old old
last_none m old split = λ source handset.
    either_same (is_of (key_of source handset 0) m) (counted (key_of source handset 0) old)
    ∙ ap (λ (o : Option ℕ). if is_of (key_of source handset 0) m then code_or (counted (key_of source handset 0) old) o else counted (key_of source handset 0) old) (sym split)

-- ---- messages of handsets

other_way : (a b : List ℕ) → bytes_eq a b ≡ bytes_eq b a
other_way a b = by (bytes_eq a b) (bytes_eq b a) refl refl where
  by : (x y : Bool) → bytes_eq a b ≡ x → bytes_eq b a ≡ y → bytes_eq a b ≡ bytes_eq b a
  by true y e f = e ∙ sym ((bytes_eq-Decides b a).1 (sym ((bytes_eq-Decides a b).0 e)))
  by false true e f = ((bytes_eq-Decides a b).1 (sym ((bytes_eq-Decides b a).0 f))) ∙ sym f
  by false false e f = e ∙ sym f

turned : (s h n : Bool) → one_if (s && (h && n)) ≡ one_if (true && (n && (s && h)))
turned true true true = refl
turned true true false = refl
turned true false true = refl
turned true false false = refl
turned false h true = refl
turned false h false = refl

pub turned_back : (m : MessageRow) (reference : ℕ) (source handset : List ℕ) (n : ℕ) → m.originator ≡ Handset reference → is_pending m ≡ true
    → one_if (bytes_eq m.source.digits source && (bytes_eq m.handset handset && nat_eq reference n)) ≡ one_if (repeats source handset n m)
turned_back m reference source handset n from open' =
    turned (bytes_eq m.source.digits source) (bytes_eq m.handset handset) (nat_eq reference n)
    ∙ ap (λ (b : Bool). one_if (true && (b && (bytes_eq m.source.digits source && bytes_eq m.handset handset)))) (swapped reference n)
    ∙ ap (λ (b : Bool). one_if (true && ((n == reference) && (b && bytes_eq m.handset handset)))) (other_way m.source.digits source)
    ∙ ap (λ (b : Bool). one_if (true && ((n == reference) && (bytes_eq source m.source.digits && b)))) (other_way m.handset handset)
    ∙ ap (λ (b : Bool). one_if (b && ((n == reference) && (bytes_eq source m.source.digits && bytes_eq handset m.handset)))) (sym open')
    ∙ ap (λ (o : Originator). one_if (is_pending m && (is_from_handset n o && (bytes_eq source m.source.digits && bytes_eq handset m.handset)))) (sym from)

pub pends_added : (m : MessageRow) (reference : ℕ) (old new : CountsOf) → m.originator ≡ Handset reference → is_pending m ≡ true → IsAdded (pair_of m.source.digits m.handset reference) old new → PendsMore m old new
pends_added m reference old new from open' added = λ source handset n small.
    added (pair_of source handset n) small ∙ ap (λ (k : ℕ). counted (pair_of source handset n) old + k) (turned_back m reference source handset n from open')

pub none_first : (b : Bool) → 0 ≡ one_if (b && false)
none_first true = refl
none_first false = refl

pub pends_application : (m : MessageRow) (account : List ℕ) (old : CountsOf) → m.originator ≡ Application account → PendsMore m old old
pends_application m account old from = λ source handset n small.
    plus_none (counted (pair_of source handset n) old) (one_if (repeats source handset n m))
    (none_first (is_pending m) ∙ ap (λ (o : Originator). one_if (is_pending m && (is_from_handset n o && (bytes_eq source m.source.digits && bytes_eq handset m.handset)))) (sym from))

pub pends_ended : (m : MessageRow) (old : CountsOf) → is_pending m ≡ false → PendsMore m old old
pends_ended m old ended' = λ source handset n small.
    plus_none (counted (pair_of source handset n) old) (one_if (repeats source handset n m))
    (ap (λ (b : Bool). one_if (b && (is_from_handset n m.originator && (bytes_eq source m.source.digits && bytes_eq handset m.handset)))) (sym ended'))
