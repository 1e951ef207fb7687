-- Each step keeps what `Sound` says.
use Rattle.std.proofs.Common.{◌≡◌, ℕ, suc, ◌≤◌, List, [], ◌∷◌, Bool, true, false, cond, refl, sym, ◌∙◌, ap, subst, inl, inr, ⊎_elim, length, arith}
use Rattle.sms_base.specs.Among.{Among}
use Rattle.sms_base.specs.declared.final_state.FinalState.{FinalState}
use Rattle.sms_base.specs.declared.final_state.FinalState.TheVariants.{Delivered, Expired, Deleted, Undeliverable}
use Rattle.sms_base.specs.declared.holder.Holder.{Holder}
use Rattle.sms_base.specs.declared.holder.Holder.TheVariants.{Part, Report, Entry, Memory}
use Rattle.sms_world_model.specs.Groups.{all_numbers}
use Rattle.sms_tpdu.specs.MoreMessages.{compared}
use Rattle.sms_world_model.specs.Submission.{Submission}
use Rattle.sms_world_model.specs.World.{State, Pending, Final, Message, Allocation, Line, Down, Up, Frame, Carried, Bare, Accepted, World, IsRecorded, changed, IsLast, IsUnanswered, IsHeld, give, answer, pair_of, pair_given, next_number}
use Rattle.sms_world_model.specs.References.{Ticket, part_allocation, report_allocation, CanGiveParts, given_parts}
use Rattle.sms_world_model.specs.WorldStep.{Step, Submit, Offer, Take, Take_again, Refuse, Settle, Expire, Delete, Fail, Receipt, Status, Close, Join, Write, Remove, Offer_up, Offer_memory, Repeat_memory, Receive, Reject, Memory_free, Lapse, Acknowledged, Refused, Again, Control, Can, after, CanSubmit, IsUnusedId, submitted, enter, marked, IsSent, data_of, memory_of}
use Rattle.sms_base.specs.declared.carried.Kind.{Kind}
use Rattle.sms_base.specs.declared.carried.Kind.TheVariants.{Data, Ack, Error}
use Rattle.sms_world_model.proofs.Tables.{changed_grows, changed_back, entered_here, entered_grows, entered_back, new_not_found}
use Rattle.sms_world_model.proofs.Sound.{Sound, IsSound, Says, IsKnown, Matches, sound_table, sound_give, sound_put, sound_bag, sound_take, sound_receipt, sound_report, sound_close}

-- the parts of a submission take their references one by one
sound_parts : (w : World) (s : Submission) (st : State) (m n : ℕ) (ts : List Ticket) → IsSound w → IsRecorded w.table s.id s st
    → ((x : Allocation) (j : ℕ) → Among x w.down → n ≤ j → x.holder ≡ Part s.id j → ⊥) → CanGiveParts w s m n ts
    → Sound w.table w.receipts w.reports (given_parts s m n ts w.down) w.accepted w.bag
sound_parts w s st m n [] h is none can = h
sound_parts w s st m n (t ∷ ts) h is none can =
    let g : Allocation = part_allocation s m n t in
    sound_parts (give w g) s st m (suc n) ts
    (sound_give w.table w.receipts w.reports w.down w.accepted w.bag h g
    (λ x i o. can.0.1 x (i, o))
    can.0.2
    (λ x i. none x n i (omega arith))
    (s, st, (is, can.1, refl)))
    is
    (λ x j i l e. ⊎_elim
    (λ (d : x ≡ g). let same : Part s.id n ≡ Part s.id j = sym (ap (λ (y : Allocation). y.holder) d) ∙ e in let q : n ≡ j = cc in absurd (omega arith))
    (λ (i' : Among x w.down). none x j i' (omega arith) e) i)
    can.2

not_given : (w : World) (id : ℕ) → IsSound w → ((s : Submission) (st : State) → IsRecorded w.table id s st → ⊥) → (x : Allocation) (j : ℕ) → Among x w.down → x.holder ≡ Part id j → ⊥
not_given w id h none x j i e =
    let known : IsKnown w.table w.receipts x (Part id j) = subst (IsKnown w.table w.receipts x) e (h.known x i) in
    none known.0 known.1 known.2.0

pub sound_enter : (w : World) (s : Submission) → IsSound w → IsUnusedId w.table s.id → IsSound (enter w s)
sound_enter w s h new =
    let none = not_given w s.id h (λ x st. new_not_found w.table s.id x st new) in
    sound_table w.table w.receipts w.reports w.down w.accepted w.bag h (record { submission = s; state = Pending [] } ∷ w.table)
    (entered_grows w.table s (Pending []) new)
    (λ g i o. back g.holder (λ j. none g j i) o)
  where
    back : (y : Holder) → ((j : ℕ) → y ≡ Part s.id j → ⊥) → IsUnanswered (record { submission = s; state = Pending [] } ∷ w.table) w.reports y → IsUnanswered w.table w.reports y
    back (Part id k) none (x, done, o) =
        ⊎_elim
        (λ (e : (id ≡ s.id) × (x ≡ s) × (Pending done ≡ Pending [])). absurd (none k (ap (λ (i : ℕ). Part i k) e.0)))
        (λ (e : IsRecorded w.table id x (Pending done)). (x, done, (e, o.1)))
        (entered_back w.table s x (Pending []) (Pending done) id o.0)
    back (Report id) none o = o
    back (Entry id) none o = o
    back (Memory id) none o = o

sound_submit : (w : World) (m : ℕ) (s : Submission) (rs : List Ticket) → IsSound w → CanSubmit w m s rs → IsSound (submitted w m s rs)
sound_submit w m s rs h can =
    sound_parts (enter w s) s (Pending []) m 1 rs
    (sound_enter w s h can.0)
    (entered_here w.table s (Pending []))
    (λ x j i l e. not_given w s.id h (λ y st. new_not_found w.table s.id y st can.0) x j i e)
    can.3

-- a pending message gets on
sound_change : (w : World) (id : ℕ) (s : Submission) (done : List ℕ) (f : Message → State) → IsSound w → IsRecorded w.table id s (Pending done)
    → ((d : List ℕ) → f (record { submission = s; state = Pending done }) ≡ Pending d → (k : ℕ) → Among k done → Among k d)
    → IsSound (record w { table = changed id f w.table })
sound_change w id s done f h is more =
    sound_table w.table w.receipts w.reports w.down w.accepted w.bag h (changed id f w.table) (changed_grows w.table id f s done is) (λ g i o. back g.holder o)
  where
    back : (y : Holder) → IsUnanswered (changed id f w.table) w.reports y → IsUnanswered w.table w.reports y
    back (Part j k) (x, d, o) =
        ⊎_elim
        (λ (e : (j ≡ id) × (x ≡ s) × (Pending d ≡ f (record { submission = s; state = Pending done }))).
        (s, done, (subst (λ i. IsRecorded w.table i s (Pending done)) (sym e.0) is, λ a. o.1 (more d (sym e.2) k a))))
        (λ (e : ¬ (j ≡ id) × IsRecorded w.table j x (Pending d)). (x, d, (e.1, o.1)))
        (changed_back w.table id f s x (Pending done) (Pending d) j is o.0)
    back (Report j) o = o
    back (Entry j) o = o
    back (Memory j) o = o

marked_more : (b : Bool) (k : ℕ) (done d : List ℕ) → cond b (Final Delivered) (Pending (k ∷ done)) ≡ Pending d → (j : ℕ) → Among j done → Among j d
marked_more true k done d e j a = absurd (cc)
marked_more false k done d e j a = let q : k ∷ done ≡ d = cc in subst (Among j) q (inr a)

final_more : (f : FinalState) (d : List ℕ) → Final f ≡ Pending d → ⊥
final_more f d e = cc

-- what part a frame's reference names
pub part_named : (w : World) (g : Allocation) (id k : ℕ) → IsHeld w g → g.holder ≡ Part id k → IsUnanswered w.table w.reports (Part id k)
part_named w g id k held e = subst (IsUnanswered w.table w.reports) e held.1

says_answer : (dn : List Allocation) (ac : List Accepted) (u : Frame) (kind : Kind) (n : ℕ) (l : Line) → u.line ≡ l → Says dn ac l kind (answer u kind n) → Says dn ac u.line kind (answer u kind n)
says_answer dn ac u kind n l e x = subst (λ y. Says dn ac y kind (answer u kind n)) (sym e) x

pub says_data : (w : World) (u : Frame) → IsSound w → IsSent w u Down Data → Says w.down w.accepted Down Data u
says_data w u h (i, l, k) = subst (λ (y : Line × Kind). Says w.down w.accepted y.0 y.1 u) (λ j. (l j, k j)) (h.sent u i)

last_among : (p : Accepted) (ps : List Accepted) → IsLast p ps → Among p ps
last_among p [] h = h
last_among p (x ∷ xs) h = ⊎_elim (λ (e : p ≡ x). inl e) (λ (k : ¬ ((p.handset ≡ x.handset) × (p.reference ≡ x.reference)) × IsLast p xs). inr (last_among p xs k.1)) h

-- what came is the pair of its giving
pub arrived_for : (g : Allocation) (u : Frame) → Matches g u → g.tpdu ≡ compared u.tpdu → pair_of u ≡ pair_given g
arrived_for g u m e = λ j. record { handset = sym m.0 j; reference = sym m.1 j; tpdu = sym e j }

pub sound_step : (w : World) (m : ℕ) (step : Step) → IsSound w → Can w m step → IsSound (after w m step)
sound_step w m (Submit s ts) h can = sound_submit w m s ts h can
sound_step w m (Offer g o) h can =
    sound_put w.table w.receipts w.reports w.down w.accepted w.bag h (data_of w g Down o) (g, (can.0.0, (refl, refl, refl), sym can.1))
sound_step w m (Take u) h can =
    let x = says_data w u h can.0 in
    let p = arrived_for x.0 u x.1.1 x.1.2 in
    sound_put w.table w.receipts w.reports w.down (pair_of u ∷ w.accepted) w.bag
    (sound_take w.table w.receipts w.reports w.down w.accepted w.bag h (pair_of u) (x.0, (x.1.0, p)))
    (answer u Ack (next_number w))
    (says_answer w.down (pair_of u ∷ w.accepted) u Ack (next_number w) Down can.0.1 (x.0, (x.1.0, x.1.1, inl (sym p))))
sound_step w m (Take_again u) h can =
    let x = says_data w u h can.0 in
    sound_put w.table w.receipts w.reports w.down w.accepted w.bag h
    (answer u Ack (next_number w))
    (says_answer w.down w.accepted u Ack (next_number w) Down can.0.1
    (x.0, (x.1.0, x.1.1, subst (λ (p : Accepted). Among p w.accepted) (arrived_for x.0 u x.1.1 x.1.2) (last_among (pair_of u) w.accepted can.1))))
sound_step w m (Refuse u) h can =
    sound_put w.table w.receipts w.reports w.down w.accepted w.bag h (answer u Error (next_number w))
    (says_answer w.down w.accepted u Error (next_number w) Down can.0.1 tt)
sound_step w m (Settle u g id k) h can =
    let x = part_named w g id k can.1.0 can.1.1 in
    sound_change w id x.0 x.1 (λ e. marked k e.submission.parts e.state) h x.2.0 (marked_more (all_numbers (length x.0.parts) (k ∷ x.1)) k x.1)
sound_step w m (Expire id) h (s, done, x) = sound_change w id s done (λ e. Final Expired) h x.0 (λ d e. absurd (final_more Expired d e))
sound_step w m (Delete id) h (s, done, x) = sound_change w id s done (λ e. Final Deleted) h x (λ d e. absurd (final_more Deleted d e))
sound_step w m (Fail u g id k) h can =
    let x = part_named w g id k can.1.0 can.1.1 in
    sound_change w id x.0 x.1 (λ e. Final Undeliverable) h x.2.0 (λ d e. absurd (final_more Undeliverable d e))
sound_step w m (Receipt s f) h can = sound_receipt w.table w.receipts w.reports w.down w.accepted w.bag h s s.id f can.0.0 can.0.2
sound_step w m (Status s f t) h can =
    let g : Allocation = report_allocation s m t in
    let rc = record { id = s.id; state = f } ∷ w.receipts in
    let none : (x : Allocation) → Among x w.down → x.holder ≡ Report s.id → ⊥ =
    (λ x i e. let known : IsKnown w.table w.receipts x (Report s.id) = subst (IsKnown w.table w.receipts x) e (h.known x i) in can.0.2 known.0.0 known.0.1) in
    sound_give w.table rc (s.id ∷ w.reports) w.down w.accepted w.bag
    (sound_report w.table rc w.reports w.down w.accepted w.bag
    (sound_receipt w.table w.receipts w.reports w.down w.accepted w.bag h s s.id f can.0.0 can.0.2)
    s.id none)
    g
    (λ x i o. can.2.1 x (i, earlier x.holder (none x i) o))
    can.2.2
    none
    ((f, inl refl), (can.3.report, can.3.reads))
  where
    earlier : (y : Holder) → ¬ (y ≡ Report s.id) → IsUnanswered w.table (s.id ∷ w.reports) y → IsUnanswered w.table w.reports y
    earlier (Part j k) n o = o
    earlier (Report j) n o = ⊎_elim (λ (e : j ≡ s.id). absurd (n (ap Report e))) (λ (x : Among j w.reports). x) o
    earlier (Entry j) n o = o
    earlier (Memory j) n o = o
sound_step w m (Close id) h can = sound_close w.table w.receipts w.reports w.down w.accepted w.bag h id
sound_step w m (Join j) h can = h
sound_step w m (Write e r) h can = h
sound_step w m (Remove e) h can = h
sound_step w m (Offer_up g e o) h can = sound_put w.table w.receipts w.reports w.down w.accepted w.bag h (data_of w g Up o) tt
sound_step w m (Offer_memory a n r) h can = sound_put w.table w.receipts w.reports w.down w.accepted w.bag h (memory_of w a n r) tt
sound_step w m (Repeat_memory g n) h can = sound_put w.table w.receipts w.reports w.down w.accepted w.bag h (memory_of w g.handset n g.reference) tt
sound_step w m (Receive u s ts) h can =
    let v = submitted w m s ts in
    sound_put v.table v.receipts v.reports v.down v.accepted v.bag (sound_submit w m s ts h can.2) (answer u Ack (next_number w))
    (says_answer v.down v.accepted u Ack (next_number w) Up can.0.1 tt)
sound_step w m (Reject u) h can =
    sound_put w.table w.receipts w.reports w.down w.accepted w.bag h (answer u Error (next_number w))
    (says_answer w.down w.accepted u Error (next_number w) Up can.1 tt)
sound_step w m (Memory_free u) h can =
    sound_put w.table w.receipts w.reports w.down w.accepted w.bag h (answer u Ack (next_number w))
    (says_answer w.down w.accepted u Ack (next_number w) Up can.0.1 tt)
sound_step w m (Lapse e st) h can = h
sound_step w m (Acknowledged u g e) h can = h
sound_step w m (Refused u g e st) h can = h
sound_step w m (Again u) h can =
    sound_put w.table w.receipts w.reports w.down w.accepted w.bag h (record u { number = next_number w }) (renumbered (h.sent u can))
  where
    renumbered : Says w.down w.accepted u.line u.kind u → Says w.down w.accepted u.line u.kind (record u { number = next_number w })
    renumbered x = same u.line u.kind x
      where
        same : (l : Line) (k : Kind) → Says w.down w.accepted l k u → Says w.down w.accepted l k (record u { number = next_number w })
        same Down Data x = x
        same Down Ack x = x
        same Down Error x = x
        same Up Data x = x
        same Up Ack x = x
        same Up Error x = x
sound_step w m (Control a) h can =
    sound_bag w.table w.receipts w.reports w.down w.accepted w.bag h (Bare (next_number w) a ∷ w.bag)
    (λ u i. ⊎_elim (λ (e : Carried u ≡ Bare (next_number w) a). absurd (cc)) (λ (x : Among (Carried u) w.bag). x) i)
