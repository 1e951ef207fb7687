-- What each step keeps of the handsets' own messages while frames come in time.
use Rattle.std.proofs.Common.{◌≡◌, ◌⊎◌, ℕ, List, [], ◌∷◌, Bool, true, false, cond, refl, sym, ◌∙◌, ap, subst, inl, inr, ⊎_elim, Ok, Err, eqb-true}
use Rattle.std.specs.Prelude.{◌==◌}
use Rattle.std.proofs.lemmas.Bool.{and_parts}
use Rattle.std.proofs.lemmas.Slice.Eq.{bytes_eq-Decides}
use Rattle.sms_base.specs.Among.{Among}
use Rattle.sms_base.specs.declared.address.Address.{Address}
use Rattle.sms_base.specs.declared.holder.Holder.{Holder}
use Rattle.sms_base.specs.declared.holder.Holder.TheVariants.{Part, Report, Entry, Memory}
use Rattle.sms_tpdu.specs.declared.carrier.Carrier.TheVariants.{InData}
use Rattle.sms_tpdu.specs.declared.fault.TpduFault.TheVariants.{Truncated}
use Rattle.sms_tpdu.specs.declared.submit.Submit.{Submit as SubmitOf}
use Rattle.sms_tpdu.specs.declared.up.Up.TheVariants.{Submit as SubmitUp}
use Rattle.sms_tpdu.specs.declared.user_data.UserData.{UserData}
use Rattle.sms_tpdu.specs.TpduReading.{up_at, data_up_at, submit_at}
use Rattle.sms_world_model.specs.Submission.{Submission, IsSubmitTo}
use Rattle.sms_world_model.specs.World.{is_same_handset, State, Pending, Message, Allocation, Line, Down, Up, Frame, Sent, Carried, Bare, EntryState, Queued, Sending, Sent_up, Failed, Unsure, OutEntry, World, IsRecorded, IsLatest, IsHeldUp, IsUnfinished, answer, next_number, empty}
use Rattle.sms_world_model.specs.References.{IsNewHolder, entry_allocation, memory_allocation}
use Rattle.sms_world_model.specs.WorldStep.{Step, Submit, Offer, Take, Take_again, Refuse, Settle, Expire, Delete, Fail, Write, Remove, Offer_up, Offer_memory, Repeat_memory, Receive, Reject, Memory_free, Lapse, Acknowledged, Refused, Again, Control, Can, after, submitted, Asks, IsSent, is_entry, replaced, removed, data_of, memory_of, Item, after_item, Run, end}
use Rattle.sms_world_model.specs.Premises.{ReadsTimely, allocations, Timely}
use Rattle.sms_base.specs.declared.carried.Kind.{Kind}
use Rattle.sms_base.specs.declared.carried.Kind.TheVariants.{Data, Ack, Error}
use Rattle.sms_world_model.proofs.Tables.{Grows, entered_here}
use Rattle.sms_world_model.proofs.Sound.{Matches, grows_same}
use Rattle.sms_world_model.proofs.Runs.{latest_same, table_grows, bag_grows}

-- the table has the entry's message
abbrev pub HasMessage : List Message → OutEntry → Type 0
HasMessage table e = (id : ℕ) × (s : Submission) × (st : State) × (IsRecorded table id s st × (s.source.digits ≡ e.handset) × (s.handset ≡ e.destination.digits) × (s.parts ≡ e.user_data ∷ []))

-- the data of a holder at a handset
abbrev pub AsksFor : List OutEntry → List ℕ → Holder → List ℕ → Type 0
AsksFor outbox handset (Entry n) tpdu = (e : OutEntry) → Among e outbox → e.handset ≡ handset → e.number ≡ n → IsSubmitTo e.destination e.user_data tpdu
AsksFor outbox handset (Memory n) tpdu = tpdu ≡ []
AsksFor outbox handset (Part id k) tpdu = ⊥
AsksFor outbox handset (Report id) tpdu = ⊥

-- what an ack to a holder at a handset says
abbrev pub IsTaken : List Message → List OutEntry → List ℕ → Holder → Type 0
IsTaken table outbox handset (Entry n) = (e : OutEntry) → Among e outbox → e.handset ≡ handset → e.number ≡ n → HasMessage table e
IsTaken table outbox handset (Memory n) = Unit {0}
IsTaken table outbox handset (Part id k) = Unit {0}
IsTaken table outbox handset (Report id) = Unit {0}

abbrev pub SaysUp : List Message → List Allocation → List OutEntry → Line → Kind → Frame → Type 0
SaysUp table up outbox Up Data u = ((g : Allocation) × (Among g up × Matches g u)) × AsksFor outbox u.handset u.tag u.tpdu
SaysUp table up outbox Up Ack u = ((g : Allocation) × (Among g up × Matches g u)) × IsTaken table outbox u.handset u.tag
SaysUp table up outbox Up Error u = Unit {0}
SaysUp table up outbox Down Data u = Unit {0}
SaysUp table up outbox Down Ack u = Unit {0}
SaysUp table up outbox Down Error u = Unit {0}

-- an entry but for its state
abbrev pub SameEntry : OutEntry → OutEntry → Type 0
SameEntry e x = (e.handset ≡ x.handset) × (e.number ≡ x.number) × (e.destination ≡ x.destination) × (e.user_data ≡ x.user_data)

pub record Upward (table : List Message) (up : List Allocation) (outbox : List OutEntry) (bag : List Sent) : Type 0 where
  pub sent : (u : Frame) → Among (Carried u) bag → SaysUp table up outbox u.line u.kind u
  pub held : (g : Allocation) (e : OutEntry) → Among g up → Among e outbox → g.handset ≡ e.handset → g.holder ≡ Entry e.number → IsUnfinished e.state → IsLatest g up
  pub single : (g x : Allocation) → Among g up → Among x up → g.handset ≡ x.handset → g.holder ≡ x.holder → g ≡ x
  pub numbered : (e : OutEntry) → Among e outbox → (g : Allocation) × (Among g up × (g.handset ≡ e.handset) × (g.holder ≡ Entry e.number))
  pub alone : (e x : OutEntry) → Among e outbox → Among x outbox → e.handset ≡ x.handset → e.number ≡ x.number → SameEntry e x
  pub done : (e : OutEntry) → Among e outbox → e.state ≡ Sent_up → HasMessage table e

abbrev pub IsUpward : World → Type 0
IsUpward w = Upward w.table w.up w.outbox w.bag

same_both : (e x y z : OutEntry) → SameEntry e x → SameEntry y z → SameEntry x z → SameEntry e y
same_both e x y z a b c = (a.0 ∙ c.0 ∙ sym b.0, a.1 ∙ c.1 ∙ sym b.1, a.2 ∙ c.2 ∙ sym b.2, a.3 ∙ c.3 ∙ sym b.3)

message_more : (t v : List Message) (e : OutEntry) → Grows t v → HasMessage t e → HasMessage v e
message_more t v e more (id, s, st, x) = let y = more id s st x.0 in (id, s, y.0, (y.1.0, x.1, x.2, x.3))

message_same : (t : List Message) (e x : OutEntry) → SameEntry e x → HasMessage t x → HasMessage t e
message_same t e x same (id, s, st, y) = (id, s, st, (y.0, y.1 ∙ sym same.0, y.2 ∙ ap (λ (a : Address). a.digits) (sym same.2), y.3 ∙ ap (λ (d : UserData). d ∷ []) (sym same.3)))

-- entries of ob come from entries of oa
abbrev StemFrom : List OutEntry → List OutEntry → Type 0
StemFrom ob oa = (e : OutEntry) → Among e ob → (x : OutEntry) × (Among x oa × SameEntry e x)

asks_same : (a b : Address) (d e : UserData) (o : List ℕ) → a ≡ b → d ≡ e → IsSubmitTo a d o → IsSubmitTo b e o
asks_same a b d e o p q x = subst (λ (y : Address × UserData). IsSubmitTo y.0 y.1 o) (λ j. (p j, q j)) x

asks_less : (oa ob : List OutEntry) (a : List ℕ) (h : Holder) (o : List ℕ) → StemFrom ob oa → AsksFor oa a h o → AsksFor ob a h o
asks_less oa ob a (Entry n) o from x = λ e i p q.
    let y = from e i in
    asks_same y.0.destination e.destination y.0.user_data e.user_data o (sym y.1.1.2) (sym y.1.1.3) (x y.0 y.1.0 (sym y.1.1.0 ∙ p) (sym y.1.1.1 ∙ q))
asks_less oa ob a (Memory n) o from x = x
asks_less oa ob a (Part id k) o from x = x
asks_less oa ob a (Report id) o from x = x

taken_less : (t v : List Message) (oa ob : List OutEntry) (a : List ℕ) (h : Holder) → Grows t v → StemFrom ob oa → IsTaken t oa a h → IsTaken v ob a h
taken_less t v oa ob a (Entry n) more from x = λ e i p q.
    let y = from e i in
    message_more t v e more (message_same t e y.0 y.1.1 (x y.0 y.1.0 (sym y.1.1.0 ∙ p) (sym y.1.1.1 ∙ q)))
taken_less t v oa ob a (Memory n) more from x = tt
taken_less t v oa ob a (Part id k) more from x = tt
taken_less t v oa ob a (Report id) more from x = tt

says_up_less : (t v : List Message) (up : List Allocation) (oa ob : List OutEntry) (l : Line) (k : Kind) (u : Frame) → Grows t v → StemFrom ob oa → SaysUp t up oa l k u → SaysUp v up ob l k u
says_up_less t v up oa ob Up Data u more from x = (x.0, asks_less oa ob u.handset u.tag u.tpdu from x.1)
says_up_less t v up oa ob Up Ack u more from x = (x.0, taken_less t v oa ob u.handset u.tag more from x.1)
says_up_less t v up oa ob Up Error u more from x = tt
says_up_less t v up oa ob Down Data u more from x = tt
says_up_less t v up oa ob Down Ack u more from x = tt
says_up_less t v up oa ob Down Error u more from x = tt

new_holder : (gs : List Allocation) (a : List ℕ) (h : Holder) (x : Allocation) → IsNewHolder gs a h → Among x gs → x.handset ≡ a → x.holder ≡ h → ⊥
new_holder [] a h x n i p q = i
new_holder (g ∷ gs) a h x n i p q =
    ⊎_elim (λ (e : x ≡ g). n.0 (ap (λ (y : Allocation). y.handset) (sym e) ∙ p, ap (λ (y : Allocation). y.holder) (sym e) ∙ q)) (λ (j : Among x gs). new_holder gs a h x n.1 j p q) i

from_same : (oa : List OutEntry) → StemFrom oa oa
from_same oa e i = (e, (i, (refl, refl, refl, refl)))

module _ (t : List Message) (up : List Allocation) (ob : List OutEntry) (bg : List Sent) (h : Upward t up ob bg) where
  up_table : (v : List Message) → Grows t v → Upward v up ob bg
  up_table v more = record {
    sent = λ u i. says_up_less t v up ob ob u.line u.kind u more (from_same ob) (h.sent u i);
    held = h.held;
    single = h.single;
    numbered = h.numbered;
    alone = h.alone;
    done = λ e i d. message_more t v e more (h.done e i d);
  }

  pub up_bag : (bg' : List Sent) → ((u : Frame) → Among (Carried u) bg' → Among (Carried u) bg) → Upward t up ob bg'
  up_bag bg' less = record { sent = λ u i. h.sent u (less u i); held = h.held; single = h.single; numbered = h.numbered; alone = h.alone; done = h.done }

  up_put : (u : Frame) → SaysUp t up ob u.line u.kind u → Upward t up ob (Carried u ∷ bg)
  up_put u says = record {
    sent = λ x i. ⊎_elim
        (λ (e : Carried x ≡ Carried u). let d : x ≡ u = cc in subst (λ (y : Frame). SaysUp t up ob y.line y.kind y) (sym d) says)
        (λ (j : Among (Carried x) bg). h.sent x j) i;
    held = h.held;
    single = h.single;
    numbered = h.numbered;
    alone = h.alone;
    done = h.done;
  }

  -- fewer entries, or the same with other states
  up_less : (oa : List OutEntry) → StemFrom oa ob
      → ((g : Allocation) (e : OutEntry) → Among g up → Among e oa → g.handset ≡ e.handset → g.holder ≡ Entry e.number → IsUnfinished e.state → IsLatest g up)
      → ((e : OutEntry) → Among e oa → e.state ≡ Sent_up → HasMessage t e)
      → Upward t up oa bg
  up_less oa from held done = record {
    sent = λ u i. says_up_less t t up ob oa u.line u.kind u (grows_same t) from (h.sent u i);
    held = held;
    single = h.single;
    numbered = λ e i. let x = from e i in let y = h.numbered x.0 x.1.0 in (y.0, (y.1.0, y.1.1 ∙ sym x.1.1.0, y.1.2 ∙ ap Entry (sym x.1.1.1)));
    alone = λ e y i j a b. let x = from e i in let z = from y j in
        same_both e x.0 y z.0 x.1.1 z.1.1 (h.alone x.0 z.0 x.1.0 z.1.0 (sym x.1.1.0 ∙ a ∙ z.1.1.0) (sym x.1.1.1 ∙ b ∙ z.1.1.1));
    done = done;
  }

  up_give : (g : Allocation)
      → IsNewHolder up g.handset g.holder
      → ((x : Allocation) (e : OutEntry) → Among x up → Among e ob → x.handset ≡ e.handset → x.holder ≡ Entry e.number → IsUnfinished e.state → x.handset ≡ g.handset → x.reference ≡ g.reference → ⊥)
      → Upward t (g ∷ up) ob bg
  up_give g new free = record {
    sent = λ u i. more u.line u.kind u (h.sent u i);
    held = λ x e i j a b un. ⊎_elim
        (λ (d : x ≡ g). inl d)
        (λ (k : Among x up). inr ((λ same. free x e k j a b un same.0 same.1), h.held x e k j a b un)) i;
    single = λ x y i j a b. ⊎_elim
        (λ (d : x ≡ g). ⊎_elim
        (λ (c : y ≡ g). d ∙ sym c)
        (λ (c : Among y up). absurd (new_holder up g.handset g.holder y new c (sym a ∙ ap (λ (z : Allocation). z.handset) d) (sym b ∙ ap (λ (z : Allocation). z.holder) d))) j)
        (λ (d : Among x up). ⊎_elim
        (λ (c : y ≡ g). absurd (new_holder up g.handset g.holder x new d (a ∙ ap (λ (z : Allocation). z.handset) c) (b ∙ ap (λ (z : Allocation). z.holder) c)))
        (λ (c : Among y up). h.single x y d c a b) j) i;
    numbered = λ e i. let x = h.numbered e i in (x.0, (inr x.1.0, x.1.1, x.1.2));
    alone = h.alone;
    done = h.done;
  }
    where
      more : (l : Line) (k : Kind) (u : Frame) → SaysUp t up ob l k u → SaysUp t (g ∷ up) ob l k u
      more Up Data u x = ((x.0.0, (inr x.0.1.0, x.0.1.1)), x.1)
      more Up Ack u x = ((x.0.0, (inr x.0.1.0, x.0.1.1)), x.1)
      more Up Error u x = tt
      more Down Data u x = tt
      more Down Ack u x = tt
      more Down Error u x = tt

pub entry_number : (n m : ℕ) → Entry n ≡ Entry m → n ≡ m
entry_number n m e = cc

-- a new entry with its reference: frames that were sent say nothing of it
up_write : (t : List Message) (up : List Allocation) (ob : List OutEntry) (bg : List Sent) (e : OutEntry) (r m : ℕ) → Upward t up ob bg → e.state ≡ Queued
    → IsNewHolder up e.handset (Entry e.number)
    → ((x : Allocation) (y : OutEntry) → Among x up → Among y ob → x.handset ≡ y.handset → x.holder ≡ Entry y.number → IsUnfinished y.state → x.handset ≡ e.handset → x.reference ≡ r → ⊥)
    → Upward t (entry_allocation e m r ∷ up) (e ∷ ob) bg
up_write t up ob bg e r m h queued new free =
    let g : Allocation = entry_allocation e m r in
    let v = up_give t up ob bg h g new free in
    record {
      sent = λ u i. with_new u.line u.kind u (h.sent u i);
      held = λ x y i j a b un. ⊎_elim
          (λ (d : y ≡ e). inl (v.single x g i (inl refl) (a ∙ ap (λ (z : OutEntry). z.handset) d) (b ∙ ap (λ (z : OutEntry). Entry z.number) d)))
          (λ (d : Among y ob). v.held x y i d a b un) j;
      single = v.single;
      numbered = λ y j. ⊎_elim
          (λ (d : y ≡ e). (g, (inl refl, ap (λ (z : OutEntry). z.handset) (sym d), ap (λ (z : OutEntry). Entry z.number) (sym d))))
          (λ (d : Among y ob). v.numbered y d) j;
      alone = λ x y i j a b. ⊎_elim
          (λ (c : x ≡ e). ⊎_elim
          (λ (d : y ≡ e). both_new x y c d)
          (λ (d : Among y ob). absurd (not_old y d (ap (λ (z : OutEntry). z.handset) (sym c) ∙ a) (ap (λ (z : OutEntry). z.number) (sym c) ∙ b))) j)
          (λ (c : Among x ob). ⊎_elim
          (λ (d : y ≡ e). absurd (not_old x c (ap (λ (z : OutEntry). z.handset) (sym d) ∙ sym a) (ap (λ (z : OutEntry). z.number) (sym d) ∙ sym b)))
          (λ (d : Among y ob). h.alone x y c d a b) j) i;
      done = λ y j d. ⊎_elim
          (λ (c : y ≡ e). let bad : Queued ≡ Sent_up = sym queued ∙ ap (λ (z : OutEntry). z.state) (sym c) ∙ d in absurd (cc))
          (λ (c : Among y ob). h.done y c d) j;
    }
  where
    g0 : Allocation
    g0 = entry_allocation e m r

    both_new : (x y : OutEntry) → x ≡ e → y ≡ e → SameEntry x y
    both_new x y c d =
        let q : x ≡ y = c ∙ sym d in
        (ap (λ (z : OutEntry). z.handset) q, ap (λ (z : OutEntry). z.number) q, ap (λ (z : OutEntry). z.destination) q, ap (λ (z : OutEntry). z.user_data) q)

    not_old : (y : OutEntry) → Among y ob → e.handset ≡ y.handset → e.number ≡ y.number → ⊥
    not_old y d a b = let x = h.numbered y d in new_holder up e.handset (Entry e.number) x.0 new x.1.0 (x.1.1 ∙ sym a) (x.1.2 ∙ ap Entry (sym b))

    other : (a : List ℕ) (hd : Holder) (x : Allocation) (n : ℕ) → Among x up → x.handset ≡ a → x.holder ≡ Entry n → e.handset ≡ a → e.number ≡ n → ⊥
    other a hd x n i p q s o = new_holder up e.handset (Entry e.number) x new i (p ∙ sym s) (q ∙ ap Entry (sym o))

    asks : (a : List ℕ) (hd : Holder) (o : List ℕ) (x : Allocation) → Among x up → x.handset ≡ a → x.holder ≡ hd → AsksFor ob a hd o → AsksFor (e ∷ ob) a hd o
    asks a (Entry n) o x i p q y = λ z j c d. ⊎_elim
        (λ (k : z ≡ e). absurd (other a (Entry n) x n i p q (ap (λ (v : OutEntry). v.handset) (sym k) ∙ c) (ap (λ (v : OutEntry). v.number) (sym k) ∙ d)))
        (λ (k : Among z ob). y z k c d) j
    asks a (Memory n) o x i p q y = y
    asks a (Part id k) o x i p q y = y
    asks a (Report id) o x i p q y = y

    taken : (a : List ℕ) (hd : Holder) (x : Allocation) → Among x up → x.handset ≡ a → x.holder ≡ hd → IsTaken t ob a hd → IsTaken t (e ∷ ob) a hd
    taken a (Entry n) x i p q y = λ z j c d. ⊎_elim
        (λ (k : z ≡ e). absurd (other a (Entry n) x n i p q (ap (λ (v : OutEntry). v.handset) (sym k) ∙ c) (ap (λ (v : OutEntry). v.number) (sym k) ∙ d)))
        (λ (k : Among z ob). y z k c d) j
    taken a (Memory n) x i p q y = y
    taken a (Part id k) x i p q y = y
    taken a (Report id) x i p q y = y

    with_new : (l : Line) (k : Kind) (u : Frame) → SaysUp t up ob l k u → SaysUp t (g0 ∷ up) (e ∷ ob) l k u
    with_new Up Data u x = ((x.0.0, (inr x.0.1.0, x.0.1.1)), asks u.handset u.tag u.tpdu x.0.0 x.0.1.0 x.0.1.1.0 x.0.1.1.2 x.1)
    with_new Up Ack u x = ((x.0.0, (inr x.0.1.0, x.0.1.1)), taken u.handset u.tag x.0.0 x.0.1.0 x.0.1.1.0 x.0.1.1.2 x.1)
    with_new Up Error u x = tt
    with_new Down Data u x = tt
    with_new Down Ack u x = tt
    with_new Down Error u x = tt

-- an entry after a change of e's state
abbrev Changed : OutEntry → EntryState → List OutEntry → OutEntry → Type 0
Changed e st ob y = (x : OutEntry) × (Among x ob × SameEntry y x × ((y.state ≡ x.state) ⊎ ((y.state ≡ st) × (x.handset ≡ e.handset) × (x.number ≡ e.number))))

changed_head : (e : OutEntry) (st : EntryState) (x : OutEntry) (xs : List OutEntry) (y : OutEntry) (b : Bool) → (is_entry e x ≡ b)
    → y ≡ cond b (record x { state = st }) x → Changed e st (x ∷ xs) y
changed_head e st x xs y true t d =
    let both = and_parts (is_same_handset x.handset e.handset) (x.number == e.number) t in (
      x,
      (
        inl refl,
        (ap (λ (z : OutEntry). z.handset) d, ap (λ (z : OutEntry). z.number) d, ap (λ (z : OutEntry). z.destination) d, ap (λ (z : OutEntry). z.user_data) d),
        inr (ap (λ (z : OutEntry). z.state) d, (bytes_eq-Decides x.handset e.handset).0 both.0, eqb-true x.number e.number both.1),
      ),
    )
changed_head e st x xs y false t d = (
  x,
  (
    inl refl,
    (ap (λ (z : OutEntry). z.handset) d, ap (λ (z : OutEntry). z.number) d, ap (λ (z : OutEntry). z.destination) d, ap (λ (z : OutEntry). z.user_data) d),
    inl (ap (λ (z : OutEntry). z.state) d),
  ),
)

replaced_from : (e : OutEntry) (st : EntryState) (ob : List OutEntry) (y : OutEntry) → Among y (replaced e st ob) → Changed e st ob y
replaced_from e st [] y i = absurd i
replaced_from e st (x ∷ xs) y i =
    ⊎_elim
    (λ (d : y ≡ cond (is_entry e x) (record x { state = st }) x). changed_head e st x xs y (is_entry e x) refl d)
    (λ (j : Among y (replaced e st xs)). let z = replaced_from e st xs y j in (z.0, (inr z.1.0, z.1.1, z.1.2)))
    i

pick_left : (b : Bool) (x y : OutEntry) (rest all : List OutEntry) → (Among y rest → Among y all) → Among y (cond b rest (x ∷ rest)) → Among y (x ∷ all)
pick_left true x y rest all more i = inr (more i)
pick_left false x y rest all more i = ⊎_elim (λ (d : y ≡ x). inl d) (λ (j : Among y rest). inr (more j)) i

pub removed_from : (e : OutEntry) (ob : List OutEntry) (y : OutEntry) → Among y (removed e ob) → Among y ob
removed_from e [] y i = i
removed_from e (x ∷ xs) y i = pick_left (is_entry e x) x y (removed e xs) xs (removed_from e xs y) i

up_replaced : (t : List Message) (up : List Allocation) (ob : List OutEntry) (bg : List Sent) (e : OutEntry) (st : EntryState) → Upward t up ob bg
    → ((g : Allocation) → Among g up → g.handset ≡ e.handset → g.holder ≡ Entry e.number → IsUnfinished st → IsLatest g up)
    → (st ≡ Sent_up → (x : OutEntry) → Among x ob → x.handset ≡ e.handset → x.number ≡ e.number → HasMessage t x)
    → Upward t up (replaced e st ob) bg
up_replaced t up ob bg e st h latest message =
    up_less t up ob bg h (replaced e st ob)
    (λ y i. let z = replaced_from e st ob y i in (z.0, (z.1.0, z.1.1)))
    (λ g y i j a b un.
    let z = replaced_from e st ob y j in
    ⊎_elim
    (λ (c : y.state ≡ z.0.state). h.held g z.0 i z.1.0 (a ∙ z.1.1.0) (b ∙ ap Entry z.1.1.1) (subst IsUnfinished c un))
    (λ (c : (y.state ≡ st) × (z.0.handset ≡ e.handset) × (z.0.number ≡ e.number)).
    latest g i (a ∙ z.1.1.0 ∙ c.1) (b ∙ ap Entry (z.1.1.1 ∙ c.2)) (subst IsUnfinished c.0 un))
    z.1.2)
    (λ y j d.
    let z = replaced_from e st ob y j in
    message_same t y z.0 z.1.1
    (⊎_elim
    (λ (c : y.state ≡ z.0.state). h.done z.0 z.1.0 (sym c ∙ d))
    (λ (c : (y.state ≡ st) × (z.0.handset ≡ e.handset) × (z.0.number ≡ e.number)). message (sym c.0 ∙ d) z.0 z.1.0 c.1 c.2)
    z.1.2))

-- the entry that holds a reference holds the latest giving of it
held_latest : (w : World) (g : Allocation) (e : OutEntry) → IsUpward w → IsHeldUp w g e → IsLatest g w.up
held_latest w g e h x = h.held g e x.0 x.1 x.2 x.3 x.4

one_latest : (w : World) (g : Allocation) (e : OutEntry) → IsUpward w → IsHeldUp w g e → (x : Allocation) → Among x w.up → x.handset ≡ e.handset → x.holder ≡ Entry e.number → IsLatest x w.up
one_latest w g e h held x i a b =
    subst (λ (y : Allocation). IsLatest y w.up) (h.single g x held.0 i (held.2 ∙ sym a) (held.3 ∙ sym b)) (held_latest w g e h held)

down_answer : (t : List Message) (up : List Allocation) (ob : List OutEntry) (u : Frame) (kind : Kind) (n : ℕ) → u.line ≡ Down → SaysUp t up ob u.line kind (answer u kind n)
down_answer t up ob u kind n l = subst (λ y. SaysUp t up ob y kind (answer u kind n)) (sym l) (at kind)
  where
    at : (k : Kind) → SaysUp t up ob Down k (answer u kind n)
    at Data = tt
    at Ack = tt
    at Error = tt

says_up : (w : World) (u : Frame) (k : Kind) → IsUpward w → IsSent w u Up k → SaysUp w.table w.up w.outbox Up k u
says_up w u k h (i, l, e) = subst (λ (y : Line × Kind). SaysUp w.table w.up w.outbox y.0 y.1 u) (λ j. (l j, e j)) (h.sent u i)

-- octets are one SUBMIT at most
one_submit : (o : List ℕ) (x y : SubmitOf) → up_at InData o ≡ Ok (SubmitUp x) → up_at InData o ≡ Ok (SubmitUp y) → x ≡ y
one_submit o x y a b = let same : Ok (SubmitUp x) ≡ Ok (SubmitUp y) = sym a ∙ b in cc

-- a SUBMIT that was received has its entry's message
received : (v : World) (ob : List OutEntry) (u : Frame) (s : Submission) (st : State) (h : Holder) → IsRecorded v.table s.id s st → Asks u s → AsksFor ob u.handset h u.tpdu → IsTaken v.table ob u.handset h
received v ob u s st (Entry n) is x asks = λ e i a b.
    let y = asks e i a b in
    let same = one_submit u.tpdu x.submit y.submit x.reads y.reads in (
      s.id,
      s,
      st,
      (
        is,
        x.source ∙ sym a,
        x.handset ∙ ap (λ (z : SubmitOf). z.destination_address.digits) same ∙ ap (λ (z : Address). z.digits) y.destination_is,
        x.parts ∙ ap (λ (z : SubmitOf). z.user_data ∷ []) same ∙ ap (λ (z : UserData). z ∷ []) y.user_data_is,
      ),
    )
received v ob u s st (Memory n) is x asks = tt
received v ob u s st (Part id k) is x asks = tt
received v ob u s st (Report id) is x asks = tt

-- no SUBMIT is empty
pub empty_submit : up_at InData [] ≡ Err Truncated
unfolding up_at data_up_at submit_at
empty_submit = refl

-- an RP-SMMA asks for no message
no_entry : (t : List Message) (ob : List OutEntry) (u : Frame) (h : Holder) → u.tpdu ≡ [] → AsksFor ob u.handset h u.tpdu → IsTaken t ob u.handset h
no_entry t ob u (Entry n) none asks = λ e i a b.
    let y = asks e i a b in
    let bad : Ok (SubmitUp y.submit) ≡ Err Truncated = sym y.reads ∙ ap (λ o. up_at InData o) none ∙ empty_submit in
    absurd (cc)
no_entry t ob u (Memory n) none asks = tt
no_entry t ob u (Part id k) none asks = tt
no_entry t ob u (Report id) none asks = tt

up_answer : (v : World) (u : Frame) (kind : Kind) (n : ℕ) → u.line ≡ Up → SaysUp v.table v.up v.outbox Up kind (answer u kind n) → SaysUp v.table v.up v.outbox u.line kind (answer u kind n)
up_answer v u kind n l x = subst (λ y. SaysUp v.table v.up v.outbox y kind (answer u kind n)) (sym l) x

finished : (st : EntryState) → st ≡ Sent_up → IsUnfinished st → ⊥
finished st e un = subst IsUnfinished e un

not_sent : (st : EntryState) → (st ≡ Queued) ⊎ (st ≡ Unsure) → st ≡ Sent_up → ⊥
not_sent st c e =
    ⊎_elim
    (λ (d : st ≡ Queued). let bad : Queued ≡ Sent_up = sym d ∙ e in let r : ⊥ = cc in r)
    (λ (d : st ≡ Unsure). let bad : Unsure ≡ Sent_up = sym d ∙ e in let r : ⊥ = cc in r)
    c

pub not_sent_3 : (st : EntryState) → (st ≡ Queued) ⊎ (st ≡ Failed) ⊎ (st ≡ Unsure) → st ≡ Sent_up → ⊥
not_sent_3 st c e =
    ⊎_elim
    (λ (d : st ≡ Queued). let bad : Queued ≡ Sent_up = sym d ∙ e in let r : ⊥ = cc in r)
    (λ (d : (st ≡ Failed) ⊎ (st ≡ Unsure)). ⊎_elim
    (λ (f : st ≡ Failed). let bad : Failed ≡ Sent_up = sym f ∙ e in let r : ⊥ = cc in r)
    (λ (f : st ≡ Unsure). let bad : Unsure ≡ Sent_up = sym f ∙ e in let r : ⊥ = cc in r) d)
    c

-- entries of one number have one SUBMIT
same_data : (w : World) (g : Allocation) (e : OutEntry) (o : List ℕ) → IsUpward w → IsHeldUp w g e → IsSubmitTo e.destination e.user_data o → (x : OutEntry) → Among x (replaced e Sending w.outbox) → x.handset ≡ g.handset → x.number ≡ e.number
    → IsSubmitTo x.destination x.user_data o
same_data w g e o h can is x i a b =
    let z = replaced_from e Sending w.outbox x i in
    let same = h.alone e z.0 can.1 z.1.0 (sym can.2 ∙ sym a ∙ z.1.1.0) (sym b ∙ z.1.1.1) in
    asks_same e.destination x.destination e.user_data x.user_data o (same.2 ∙ sym z.1.1.2) (same.3 ∙ sym z.1.1.3) is

pub up_step : (w : World) (m : ℕ) (step : Step) → IsUpward w → Can w m step → ReadsTimely w step → IsUpward (after w m step)
up_step w m (Submit s rs) h can timely = up_table w.table w.up w.outbox w.bag h (submitted w m s rs).table (table_grows w m (Submit s rs) can)
up_step w m (Offer g o) h can timely = up_put w.table w.up w.outbox w.bag h (data_of w g Down o) tt
up_step w m (Take u) h can timely = up_put w.table w.up w.outbox w.bag h (answer u Ack (next_number w)) (down_answer w.table w.up w.outbox u Ack (next_number w) can.0.1)
up_step w m (Take_again u) h can timely = up_put w.table w.up w.outbox w.bag h (answer u Ack (next_number w)) (down_answer w.table w.up w.outbox u Ack (next_number w) can.0.1)
up_step w m (Refuse u) h can timely = up_put w.table w.up w.outbox w.bag h (answer u Error (next_number w)) (down_answer w.table w.up w.outbox u Error (next_number w) can.0.1)
up_step w m (Settle u g id k) h can timely = up_table w.table w.up w.outbox w.bag h (after w m (Settle u g id k)).table (table_grows w m (Settle u g id k) can)
up_step w m (Expire id) h can timely = up_table w.table w.up w.outbox w.bag h (after w m (Expire id)).table (table_grows w m (Expire id) can)
up_step w m (Delete id) h can timely = up_table w.table w.up w.outbox w.bag h (after w m (Delete id)).table (table_grows w m (Delete id) can)
up_step w m (Fail u g id k) h can timely = up_table w.table w.up w.outbox w.bag h (after w m (Fail u g id k)).table (table_grows w m (Fail u g id k) can)
up_step w m (Write e r) h can timely =
    up_write w.table w.up w.outbox w.bag e r m h can.0 can.1 (λ x y i j a b un c d. can.2 x y (i, j, a, b, un) c d)
up_step w m (Remove e) h can timely =
    up_less w.table w.up w.outbox w.bag h (removed e w.outbox)
    (λ y i. (y, (removed_from e w.outbox y i, (refl, refl, refl, refl))))
    (λ g y i j a b un. h.held g y i (removed_from e w.outbox y j) a b un)
    (λ y j d. h.done y (removed_from e w.outbox y j) d)
up_step w m (Offer_up g e o) h can timely =
    let v = up_replaced w.table w.up w.outbox w.bag e Sending h (λ x i a b un. one_latest w g e h can.0 x i a b) (λ bad. absurd (cc)) in
    up_put w.table w.up (replaced e Sending w.outbox) w.bag v (data_of w g Up o)
    ((g, (can.0.0, (refl, refl, refl))), subst (λ y. AsksFor (replaced e Sending w.outbox) g.handset y o) (sym can.0.3) (λ x i a b. same_data w g e o h can.0 can.1 x i a b))
up_step w m (Offer_memory a n r) h can timely =
    let g : Allocation = memory_allocation a n m r in
    up_put w.table (g ∷ w.up) w.outbox w.bag
    (up_give w.table w.up w.outbox w.bag h g can.0 (λ x y i j p q un c d. can.1 x y (i, j, p, q, un) c d))
    (memory_of w a n r)
    ((g, (inl refl, (refl, refl, refl))), refl)
up_step w m (Repeat_memory g n) h can timely =
    up_put w.table w.up w.outbox w.bag h (memory_of w g.handset n g.reference) ((g, (can.0, (refl, refl, can.1))), refl)
up_step w m (Receive u s rs) h can timely =
    let v = submitted w m s rs in
    let x = says_up w u Data h can.0 in
    up_put v.table v.up v.outbox v.bag
    (up_table w.table w.up w.outbox w.bag h v.table (table_grows w m (Receive u s rs) can))
    (answer u Ack (next_number w))
    (up_answer v u Ack (next_number w) can.0.1
    (x.0, received v w.outbox u s (Pending []) u.tag (entered_here w.table s (Pending [])) can.1 x.1))
up_step w m (Reject u) h can timely =
    up_put w.table w.up w.outbox w.bag h (answer u Error (next_number w)) (up_answer w u Error (next_number w) can.1 tt)
up_step w m (Memory_free u) h can timely =
    let x = says_up w u Data h can.0 in
    up_put w.table w.up w.outbox w.bag h (answer u Ack (next_number w))
    (up_answer w u Ack (next_number w) can.0.1 (x.0, no_entry w.table w.outbox u u.tag can.1 x.1))
up_step w m (Lapse e st) h can timely =
    up_replaced w.table w.up w.outbox w.bag e st h
    (λ g i a b un. h.held g e i can.0 a b (subst IsUnfinished (sym can.1) tt))
    (λ bad. absurd (not_sent st can.2 bad))
up_step w m (Acknowledged u g e) h can timely =
    let x = says_up w u Ack h can.0 in
    let latest = timely.0 in
    let mine : latest ≡ g = latest_same latest g w.up (subst (λ y. IsLatest latest (allocations w y)) can.0.1 timely.1.0) (held_latest w g e h can.1.0) (timely.1.1 ∙ sym can.1.1, timely.1.2 ∙ sym can.1.2) in
    let tag : u.tag ≡ Entry e.number = sym timely.1.3 ∙ ap (λ (z : Allocation). z.holder) mine ∙ can.1.0.3 in
    let taken : IsTaken w.table w.outbox u.handset (Entry e.number) = subst (IsTaken w.table w.outbox u.handset) tag x.1 in
    up_replaced w.table w.up w.outbox w.bag e Sent_up h
    (λ g i a b un. absurd un)
    (λ _ y i a b. taken y i (a ∙ sym can.1.0.2 ∙ can.1.1) b)
up_step w m (Refused u g e st) h can timely =
    up_replaced w.table w.up w.outbox w.bag e st h (λ x i a b un. one_latest w g e h can.1.0 x i a b) (λ bad. absurd (not_sent_3 st can.2 bad))
up_step w m (Again u) h can timely = up_put w.table w.up w.outbox w.bag h (record u { number = next_number w }) (same u.line u.kind (h.sent u can))
  where
    same : (l : Line) (k : Kind) → SaysUp w.table w.up w.outbox l k u → SaysUp w.table w.up w.outbox l k (record u { number = next_number w })
    same Up Data x = x
    same Up Ack x = x
    same Up Error x = x
    same Down Data x = x
    same Down Ack x = x
    same Down Error x = x
up_step w m (Control a) h can timely =
    up_bag w.table w.up w.outbox w.bag h (Bare (next_number w) a ∷ w.bag)
    (λ u i. ⊎_elim (λ (e : Carried u ≡ Bare (next_number w) a). absurd (cc)) (λ (x : Among (Carried u) w.bag). x) i)
up_step w m _ h can timely = h

pub up_item : (w : World) (i : Item) → IsUpward w → Can w i.moment i.step → ReadsTimely w i.step → IsUpward (after_item w i)
up_item w i h can timely = at i.stopped
  where
    v : World
    v = after w i.moment i.step

    at : (b : Bool) → Upward v.table v.up v.outbox (cond b w.bag v.bag)
    at true = up_bag v.table v.up v.outbox v.bag (up_step w i.moment i.step h can timely) w.bag (λ u x. bag_grows w i.moment i.step (Carried u) x)
    at false = up_step w i.moment i.step h can timely

pub up_run : (w : World) (items : List Item) → IsUpward w → Run w items → Timely w items → IsUpward (end w items)
up_run w [] h run timely = h
up_run w (i ∷ is) h run timely = up_run (after_item w i) is (up_item w i h run.0 timely.0) run.1 timely.1

pub up_empty : IsUpward empty
up_empty = record { sent = λ u i. absurd i; held = λ g e i. absurd i; single = λ g x i. absurd i; numbered = λ e i. absurd i; alone = λ e x i. absurd i; done = λ e i. absurd i }
