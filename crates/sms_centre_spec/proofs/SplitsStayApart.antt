-- Messages that were split apart stay so where one ends, and where one is split under the next reference.
use Rattle.std.proofs.Common.{◌≡◌, ℕ, zero, suc, ◌+◌, ◌%◌, List, [], ◌∷◌, ◌++◌, Bool, true, false, Option, Some, None, refl, sym, ◌∙◌, ap, subst, ⊎_elim, eq-eqb}
use Rattle.std.specs.Prelude.{not, ◌==◌, ◌&&◌, ◌||◌}
use Rattle.std.specs.Str.{bytes_eq}
use Rattle.std.proofs.lemmas.Bool.{and_from, cases_Bool, cond-true, cond_both}
use Rattle.std.proofs.lemmas.Slice.Eq.{bytes_eq-Decides}
use Rattle.sms_base.specs.Among.{Among}
use Rattle.sms_base.specs.declared.address.Address.{Address}
use Rattle.sms_base.specs.declared.final_state.FinalState.{FinalState}
use Rattle.sms_rows.specs.table.Table.{put}
use Rattle.sms_rows.proofs.table.Tables.{among_put, found_among}
use Rattle.sms_centre_rows.specs.declared.messages.bar.BarRow.{BarRow}
use Rattle.sms_centre_rows.specs.declared.messages.message.MessageRow.{MessageRow}
use Rattle.sms_centre_rows.specs.declared.messages.part.PartRow.{PartRow}
use Rattle.sms_centre_rows.specs.messages.Messages.{ended, is_pending, message_at, message_key}
use Rattle.sms_centre_rows.specs.messages.SplitReferences.{all_references, first_free_split, held_bars, held_splits, is_among, is_between, is_delivered, is_same_address, last_split, next_split, optional, own_references, start_after}
use Rattle.sms_centre_spec.specs.SoundRows.{AreSplitApart}
use Rattle.sms_centre_spec.proofs.SoundMessagesStay.{pending_undelivered}
use Rattle.sms_centre_rows.proofs.conditions.AddressTested.{one_address}

-- ---- the next reference is held by none

free_split : (turns reference r : ℕ) (barred : List ℕ) → first_free_split turns reference barred ≡ Some r → is_among r barred ≡ false
unfolding first_free_split
free_split zero reference r barred e = absurd cc
free_split (suc turns) reference r barred e =
    cond_both (is_among reference barred) (first_free_split turns ((reference + 1) % 65536) barred) (Some reference) (λ (o : Option ℕ). o ≡ Some r → is_among r barred ≡ false)
    (λ t f. free_split turns ((reference + 1) % 65536) r barred f)
    (λ t f. let same : reference ≡ r = cc in ap (λ (n : ℕ). is_among n barred) (sym same) ∙ t)
    e

among_front : (r : ℕ) (xs ys : List ℕ) → is_among r xs ≡ true → is_among r (xs ++ ys) ≡ true
among_front r [] ys e = absurd cc
among_front r (x ∷ xs) ys e = ⊎_elim
    (λ (t : (x == r) ≡ true). ap (λ (b : Bool). b || is_among r (xs ++ ys)) t)
    (λ (t : (x == r) ≡ false). ap (λ (b : Bool). b || is_among r (xs ++ ys)) t ∙ among_front r xs ys (sym (ap (λ (b : Bool). b || is_among r xs) t) ∙ e))
    (cases_Bool (x == r))

between : (source : Address) (handset : List ℕ) (m : MessageRow) → m.source ≡ source → m.handset ≡ handset → is_between source handset m ≡ true
between source handset m e f =
    and_from (is_same_address m.source source) (bytes_eq m.handset handset) (ap (λ (a : Address). is_same_address a source) e ∙ one_address source) ((bytes_eq-Decides m.handset handset).1 f)

held_there : (source : Address) (handset : List ℕ) (r : ℕ) (m : MessageRow) (ms : List MessageRow) → Among m ms → m.source ≡ source → m.handset ≡ handset → m.split_reference ≡ Some r
    → is_delivered m.state ≡ false → is_among r (held_splits source handset ms) ≡ true
held_there source handset r m [] among e f g h = absurd among
held_there source handset r m (x ∷ xs) among e f g h =
    let rest : List ℕ = held_splits source handset xs in
    ⊎_elim
    (λ (q : m ≡ x).
    let is : (is_between source handset x && not (is_delivered x.state)) ≡ true =
    and_from (is_between source handset x) (not (is_delivered x.state)) (between source handset x (ap (λ (y : MessageRow). y.source) (sym q) ∙ e) (ap (λ (y : MessageRow). y.handset) (sym q) ∙ f))
    (ap (λ (b : Bool). not b) (ap (λ (y : MessageRow). is_delivered y.state) (sym q) ∙ h)) in
    let split : x.split_reference ≡ Some r = ap (λ (y : MessageRow). y.split_reference) (sym q) ∙ g in
    ap (λ (ns : List ℕ). is_among r ns) (cond-true (is_between source handset x && not (is_delivered x.state)) (optional x.split_reference rest) rest is ∙ ap (λ (o : Option ℕ). optional o rest) split)
    ∙ ap (λ (b : Bool). b || is_among r rest) (eq-eqb r r refl))
    (λ (a : Among m xs).
    let behind : is_among r rest ≡ true = held_there source handset r m xs a e f g h in
    cond_both (is_between source handset x && not (is_delivered x.state)) (optional x.split_reference rest) rest (λ (ns : List ℕ). is_among r ns ≡ true) (λ t. more x.split_reference rest behind) (λ t. behind))
    among
  where
    or_true : (b : Bool) → (b || true) ≡ true
    or_true true = refl
    or_true false = refl

    more : (o : Option ℕ) (rest : List ℕ) → is_among r rest ≡ true → is_among r (optional o rest) ≡ true
    more None rest t = t
    more (Some n) rest t = ap (λ (b : Bool). (n == r) || b) t ∙ or_true (n == r)

pub next_is_apart : (source : Address) (handset : List ℕ) (bs : List BarRow) (ms : List MessageRow) (ps : List PartRow) (r : ℕ) (m : MessageRow) → next_split source handset bs ms ps ≡ Some r → Among m ms → m.source ≡ source
    → m.handset ≡ handset → m.split_reference ≡ Some r → is_delivered m.state ≡ false → ⊥
next_is_apart source handset bs ms ps r m next among e f g h =
    let held : List ℕ = held_splits source handset ms in
    let stays : List ℕ = held_bars source handset bs in
    let own : List ℕ = own_references source handset bs ms ps in
    let barred : List ℕ = (held ++ stays) ++ own in
    let free : is_among r barred ≡ false = free_split all_references (start_after (last_split source handset None ms)) r barred next in
    let there : is_among r (held ++ stays) ≡ true = among_front r held stays (held_there source handset r m ms among e f g h) in
    let bad : true ≡ false = sym (among_front r (held ++ stays) own there) ∙ free in absurd cc

-- ---- a message comes

pub entered_apart : (ms : List MessageRow) (w : MessageRow) → AreSplitApart ms
    → ((x : MessageRow) (r : ℕ) → Among x ms → x.source ≡ w.source → x.handset ≡ w.handset → x.split_reference ≡ Some r → w.split_reference ≡ Some r → is_delivered x.state ≡ false → ⊥)
    → AreSplitApart (put message_key w ms)
entered_apart ms w s apart = λ x y r a b e f g h i j. ⊎_elim
    (λ (p : x ≡ w). ⊎_elim
    (λ (q : y ≡ w). ap (λ (z : MessageRow). z.id) (p ∙ sym q))
    (λ (q : Among y ms × ¬ (y.id ≡ w.id)).
    absurd (apart y r q.0 (sym e ∙ ap (λ (z : MessageRow). z.source) p) (sym f ∙ ap (λ (z : MessageRow). z.handset) p) h (ap (λ (z : MessageRow). z.split_reference) (sym p) ∙ g) j))
    (among_put message_key y w ms b))
    (λ (p : Among x ms × ¬ (x.id ≡ w.id)). ⊎_elim
    (λ (q : y ≡ w).
    absurd (apart x r p.0 (e ∙ ap (λ (z : MessageRow). z.source) q) (f ∙ ap (λ (z : MessageRow). z.handset) q) g (ap (λ (z : MessageRow). z.split_reference) (sym q) ∙ h) i))
    (λ (q : Among y ms × ¬ (y.id ≡ w.id)). s x y r p.0 q.0 e f g h i j)
    (among_put message_key y w ms b))
    (among_put message_key x w ms a)

-- ---- a message ends

-- a message as it was before one ended
record WasLike (ms : List MessageRow) (x : MessageRow) : Type 0 where
  row : MessageRow
  among : Among row ms
  id : row.id ≡ x.id
  source : row.source ≡ x.source
  handset : row.handset ≡ x.handset
  split : row.split_reference ≡ x.split_reference
  state : is_delivered x.state ≡ false → is_delivered row.state ≡ false

pub end_apart : (ms : List MessageRow) (m : MessageRow) (f : FinalState) (n : ℕ) → AreSplitApart ms → message_at m.id ms ≡ Some m → is_pending m ≡ true → AreSplitApart (put message_key (ended f n m) ms)
end_apart ms m f n s there pending = λ x y r a b e g h i j k.
    let p = was x a in
    let q = was y b in
    sym p.id
    ∙ s p.row q.row r p.among q.among (p.source ∙ e ∙ sym q.source) (p.handset ∙ g ∙ sym q.handset) (p.split ∙ h) (q.split ∙ i) (p.state j) (q.state k)
    ∙ q.id
  where
    was : (x : MessageRow) → Among x (put message_key (ended f n m) ms) → WasLike ms x
    was x among = ⊎_elim
        (λ (e : x ≡ ended f n m).
        let like : WasLike ms (ended f n m) =
        record { row = m; among = found_among message_key m.id m ms there; id = refl; source = refl; handset = refl; split = refl; state = λ t. pending_undelivered m.state pending } in
        subst (λ (y : MessageRow). WasLike ms y) (sym e) like)
        (λ (a : Among x ms × ¬ (x.id ≡ m.id)).
        let like : WasLike ms x = record { row = x; among = a.0; id = refl; source = refl; handset = refl; split = refl; state = λ t. t } in like)
        (among_put message_key x (ended f n m) ms among)
