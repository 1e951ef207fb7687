-- What each change of a world keeps, whatever the network does.
use Rattle.std.proofs.Common.{◌≡◌, ℕ, List, ◌∷◌, refl, sym, ◌∙◌, ap, subst, inl, inr, ⊎_elim, Ok}
use Rattle.sms_base.specs.Among.{Among}
use Rattle.sms_base.specs.declared.final_state.FinalState.{FinalState}
use Rattle.sms_base.specs.declared.holder.Holder.{Holder}
use Rattle.sms_base.specs.declared.holder.Holder.TheVariants.{Part, Report, Entry, Memory}
use Rattle.sms_tpdu.specs.declared.carrier.Carrier.TheVariants.{InData}
use Rattle.sms_tpdu.specs.declared.down.Down.TheVariants.{StatusReport}
use Rattle.sms_tpdu.specs.declared.status_report.StatusReport.{StatusReport as StatusReportOf}
use Rattle.sms_tpdu.specs.TpduReading.{down_at}
use Rattle.sms_world_model.specs.Groups.{OccursOnce, without}
use Rattle.sms_tpdu.specs.MoreMessages.{compared}
use Rattle.sms_world_model.specs.Submission.{Submission}
use Rattle.sms_world_model.specs.World.{State, Pending, Final, Message, Allocation, Line, Down, Up, Frame, Sent, Carried, Accepted, World, IsRecorded, IsLatest, IsUnanswered, ReceiptOf, pair_given}
use Rattle.sms_world_model.specs.References.{IsEarlier, IsForPart}
use Rattle.sms_world_model.specs.Agreement.{GivenOnce}
use Rattle.sms_base.specs.declared.carried.Kind.{Kind}
use Rattle.sms_base.specs.declared.carried.Kind.TheVariants.{Data, Ack, Error}
use Rattle.sms_world_model.proofs.Tables.{Grows, among_without}

-- for whom a giving is, and what is offered for it
abbrev pub IsKnown : List Message → List ReceiptOf → Allocation → Holder → Type 0
IsKnown table receipts g (Part id n) = (s : Submission) × (st : State) × (IsRecorded table id s st × IsForPart s n g.moment g.tpdu × (s.handset ≡ g.handset))
IsKnown table receipts g (Report id) =
    ((f : FinalState) × Among (record { id = id; state = f }) receipts) × ((r : StatusReportOf) × (down_at InData g.tpdu ≡ Ok (StatusReport r)))
IsKnown table receipts g (Entry n) = ⊥
IsKnown table receipts g (Memory n) = ⊥

abbrev pub Matches : Allocation → Frame → Type 0
Matches g u = (g.handset ≡ u.handset) × (g.reference ≡ u.reference) × (g.holder ≡ u.tag)

-- what every frame that was sent says
abbrev pub Says : List Allocation → List Accepted → Line → Kind → Frame → Type 0
Says down accepted Down Data u = (g : Allocation) × (Among g down × Matches g u × (g.tpdu ≡ compared u.tpdu))
Says down accepted Down Ack u = (g : Allocation) × (Among g down × Matches g u × Among (pair_given g) accepted)
Says down accepted Down Error u = Unit {0}
Says down accepted Up Data u = Unit {0}
Says down accepted Up Ack u = Unit {0}
Says down accepted Up Error u = Unit {0}

-- an accepted pair was offered for a giving
abbrev pub Offered : List Allocation → Accepted → Type 0
Offered down p = (g : Allocation) × (Among g down × (p ≡ pair_given g))

pub record Sound (table : List Message) (receipts : List ReceiptOf) (reports : List ℕ) (down : List Allocation) (accepted : List Accepted) (bag : List Sent) : Type 0 where
  pub held : (g : Allocation) → Among g down → IsUnanswered table reports g.holder → IsLatest g down
  pub given : GivenOnce down
  pub known : (g : Allocation) → Among g down → IsKnown table receipts g g.holder
  pub single : (g x : Allocation) → Among g down → Among x down → g.holder ≡ x.holder → g ≡ x
  pub sent : (u : Frame) → Among (Carried u) bag → Says down accepted u.line u.kind u
  pub offered : (p : Accepted) → Among p accepted → Offered down p
  pub receipt : (id : ℕ) (f : FinalState) → Among (record { id = id; state = f }) receipts →
      OccursOnce (record { id = id; state = f }) receipts × ((s : Submission) × IsRecorded table id s (Final f))

abbrev pub IsSound : World → Type 0
IsSound w = Sound w.table w.receipts w.reports w.down w.accepted w.bag

known_more : (t v : List Message) (rc : List ReceiptOf) (g : Allocation) (h : Holder) → Grows t v → IsKnown t rc g h → IsKnown v rc g h
known_more t v rc g (Part id n) more (s, st, x) = let y = more id s st x.0 in (s, y.0, (y.1.0, x.1, x.2))
known_more t v rc g (Report id) more x = x
known_more t v rc g (Entry n) more x = x
known_more t v rc g (Memory n) more x = x

known_receipt : (t : List Message) (rc : List ReceiptOf) (r : ReceiptOf) (g : Allocation) (h : Holder) → IsKnown t rc g h → IsKnown t (r ∷ rc) g h
known_receipt t rc r g (Part id n) x = x
known_receipt t rc r g (Report id) x = ((x.0.0, inr x.0.1), x.1)
known_receipt t rc r g (Entry n) x = x
known_receipt t rc r g (Memory n) x = x

says_more : (dn en : List Allocation) (ac bc : List Accepted) (l : Line) (k : Kind) (u : Frame)
    → ((g : Allocation) → Among g dn → Among g en) → ((p : Accepted) → Among p ac → Among p bc)
    → Says dn ac l k u → Says en bc l k u
says_more dn en ac bc Down Data u gd ga (g, x) = (g, (gd g x.0, x.1, x.2))
says_more dn en ac bc Down Ack u gd ga (g, x) = (g, (gd g x.0, x.1, ga (pair_given g) x.2))
says_more dn en ac bc Down Error u gd ga x = tt
says_more dn en ac bc Up Data u gd ga x = tt
says_more dn en ac bc Up Ack u gd ga x = tt
says_more dn en ac bc Up Error u gd ga x = tt

pub grows_same : (t : List Message) → Grows t t
grows_same t id s (Pending d) h = (Pending d, (h, tt))
grows_same t id s (Final f) h = (Final f, (h, refl))

module _ (t : List Message) (rc : List ReceiptOf) (rp : List ℕ) (dn : List Allocation) (ac : List Accepted) (bg : List Sent) (h : Sound t rc rp dn ac bg) where
  pub sound_table : (v : List Message) → Grows t v → ((g : Allocation) → Among g dn → IsUnanswered v rp g.holder → IsUnanswered t rp g.holder) → Sound v rc rp dn ac bg
  sound_table v more back = record {
    held = λ g i o. h.held g i (back g i o);
    given = h.given;
    known = λ g i. known_more t v rc g g.holder more (h.known g i);
    single = h.single;
    sent = h.sent;
    offered = h.offered;
    receipt = λ id f i. let x = h.receipt id f i in let y = more id x.1.0 (Final f) x.1.1 in (x.0, (x.1.0, subst (λ z. IsRecorded v id x.1.0 z) y.1.1 y.1.0));
  }

  pub sound_give : (g : Allocation)
      → ((x : Allocation) → Among x dn → IsUnanswered t rp x.holder → x.handset ≡ g.handset → x.reference ≡ g.reference → ⊥)
      → IsEarlier dn g.handset g.reference g.moment
      → ((x : Allocation) → Among x dn → x.holder ≡ g.holder → ⊥)
      → IsKnown t rc g g.holder
      → Sound t rc rp (g ∷ dn) ac bg
  sound_give g free fresh new is = record {
    held = λ x i o. ⊎_elim (λ (e : x ≡ g). inl e) (λ (j : Among x dn). inr ((λ same. free x j o same.0 same.1), h.held x j o)) i;
    given = (fresh, h.given);
    known = λ x i. ⊎_elim (λ (e : x ≡ g). subst (λ (y : Allocation). IsKnown t rc y y.holder) (sym e) is) (λ (j : Among x dn). h.known x j) i;
    single = λ x y i j same. ⊎_elim
        (λ (e : x ≡ g). ⊎_elim
        (λ (d : y ≡ g). e ∙ sym d)
        (λ (k : Among y dn). absurd (new y k (sym same ∙ ap (λ (z : Allocation). z.holder) e))) j)
        (λ (e : Among x dn). ⊎_elim
        (λ (d : y ≡ g). absurd (new x e (same ∙ ap (λ (z : Allocation). z.holder) d)))
        (λ (k : Among y dn). h.single x y e k same) j) i;
    sent = λ u i. says_more dn (g ∷ dn) ac ac u.line u.kind u (λ _ x. inr x) (λ _ x. x) (h.sent u i);
    offered = λ p i. let x = h.offered p i in (x.0, (inr x.1.0, x.1.1));
    receipt = h.receipt;
  }

  pub sound_put : (u : Frame) → Says dn ac u.line u.kind u → Sound t rc rp dn ac (Carried u ∷ bg)
  sound_put u says = record {
    held = h.held;
    given = h.given;
    known = h.known;
    single = h.single;
    sent = λ x i. ⊎_elim
        (λ (e : Carried x ≡ Carried u). let d : x ≡ u = cc in subst (λ (y : Frame). Says dn ac y.line y.kind y) (sym d) says)
        (λ (j : Among (Carried x) bg). h.sent x j) i;
    offered = h.offered;
    receipt = h.receipt;
  }

  pub sound_bag : (bg' : List Sent) → ((u : Frame) → Among (Carried u) bg' → Among (Carried u) bg) → Sound t rc rp dn ac bg'
  sound_bag bg' less = record {
    held = h.held;
    given = h.given;
    known = h.known;
    single = h.single;
    sent = λ x i. h.sent x (less x i);
    offered = h.offered;
    receipt = h.receipt;
  }

  pub sound_take : (p : Accepted) → Offered dn p → Sound t rc rp dn (p ∷ ac) bg
  sound_take p from = record {
    held = h.held;
    given = h.given;
    known = h.known;
    single = h.single;
    sent = λ u i. says_more dn dn ac (p ∷ ac) u.line u.kind u (λ _ x. x) (λ _ x. inr x) (h.sent u i);
    offered = λ q i. ⊎_elim (λ (e : q ≡ p). subst (λ (y : Accepted). Offered dn y) (sym e) from) (λ (j : Among q ac). h.offered q j) i;
    receipt = h.receipt;
  }

  pub sound_receipt : (s : Submission) (id : ℕ) (f : FinalState) → IsRecorded t id s (Final f) → ((x : FinalState) → Among (record { id = id; state = x }) rc → ⊥)
      → Sound t (record { id = id; state = f } ∷ rc) rp dn ac bg
  sound_receipt s id f is none = record {
    held = h.held;
    given = h.given;
    known = λ g i. known_receipt t rc (record { id = id; state = f }) g g.holder (h.known g i);
    single = h.single;
    sent = h.sent;
    offered = h.offered;
    receipt = λ j x i. ⊎_elim
        (λ (e : record { id = j; state = x } ≡ record { id = id; state = f }).
        let new : ReceiptOf = record { id = id; state = f } in
        let back : (y : ReceiptOf) → new ≡ y → OccursOnce y (new ∷ rc) × ((s : Submission) × IsRecorded t y.id s (Final y.state)) =
        (λ y d. subst (λ (z : ReceiptOf). OccursOnce z (new ∷ rc) × ((s : Submission) × IsRecorded t z.id s (Final z.state))) d (inl (refl, none f), (s, is))) in
        back (record { id = j; state = x }) (sym e))
        (λ (k : Among (record { id = j; state = x }) rc).
        let y = h.receipt j x k in
        (inr ((λ e. none x (subst (λ (z : ℕ). Among (record { id = z; state = x }) rc) (ap (λ (r : ReceiptOf). r.id) e) k)), y.0), y.1)) i;
  }

  pub sound_report : (id : ℕ) → ((x : Allocation) → Among x dn → x.holder ≡ Report id → ⊥) → Sound t rc (id ∷ rp) dn ac bg
  sound_report id none = record {
    held = λ g i o. h.held g i (back g.holder (none g i) o);
    given = h.given;
    known = h.known;
    single = h.single;
    sent = h.sent;
    offered = h.offered;
    receipt = h.receipt;
  }
    where
      back : (y : Holder) → ¬ (y ≡ Report id) → IsUnanswered t (id ∷ rp) y → IsUnanswered t rp y
      back (Part j k) n o = o
      back (Report j) n o = ⊎_elim (λ (e : j ≡ id). absurd (n (ap Report e))) (λ (x : Among j rp). x) o
      back (Entry j) n o = o
      back (Memory j) n o = o

  pub sound_close : (id : ℕ) → Sound t rc (without id rp) dn ac bg
  sound_close id = record {
    held = λ g i o. h.held g i (back g.holder o);
    given = h.given;
    known = h.known;
    single = h.single;
    sent = h.sent;
    offered = h.offered;
    receipt = h.receipt;
  }
    where
      back : (y : Holder) → IsUnanswered t (without id rp) y → IsUnanswered t rp y
      back (Part j k) o = o
      back (Report j) o = among_without id rp j o
      back (Entry j) o = o
      back (Memory j) o = o
