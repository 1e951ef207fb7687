-- What each step keeps while frames come in time: parts of delivered messages were accepted, each once.
use Rattle.std.proofs.Common.{◌≡◌, ℕ, zero, suc, ◌<◌, ◌≤◌, List, [], ◌∷◌, Bool, true, false, cond, refl, sym, ◌∙◌, ap, subst, inl, inr, ⊎_elim, Some, Ok, length, arith}
use Rattle.std.proofs.lemmas.Option.{same_Some, slice_get_within}
use Rattle.sms_base.specs.Among.{Among}
use Rattle.sms_base.specs.declared.final_state.FinalState.TheVariants.{Delivered, Expired, Deleted, Undeliverable}
use Rattle.sms_base.specs.declared.holder.Holder.{Holder}
use Rattle.sms_base.specs.declared.holder.Holder.TheVariants.{Part, Report, Entry, Memory}
use Rattle.sms_tpdu.specs.declared.carrier.Carrier.TheVariants.{InData}
use Rattle.sms_tpdu.specs.declared.deliver.Deliver.{Deliver as DeliverOf}
use Rattle.sms_tpdu.specs.declared.down.Down.TheVariants.{Deliver, StatusReport}
use Rattle.sms_tpdu.specs.declared.user_data.UserData.{UserData}
use Rattle.sms_tpdu.specs.TpduReading.{down_at}
use Rattle.sms_world_model.specs.Groups.{OccursOnce, all_numbers}
use Rattle.sms_world_model.specs.Submission.{Submission, part_at, IsDeliverOf}
use Rattle.sms_world_model.specs.World.{State, Pending, Final, Message, Allocation, Line, Down, Frame, Accepted, World, IsRecorded, changed, SameReference, IsLatest, IsLast, give, pair_of, pair_given, empty}
use Rattle.sms_world_model.specs.References.{IsEarlier, IsForPart, Ticket, part_allocation, report_allocation, CanGiveParts, given_parts}
use Rattle.sms_world_model.specs.WorldStep.{Step, Submit, Take, Settle, Expire, Delete, Fail, Status, Receive, Can, after, CanSubmit, submitted, enter, marked, IsSent, HasReference, Item, after_item, Run, end}
use Rattle.sms_world_model.specs.Premises.{IsTimely, ReadsTimely, allocations, Timely}
use Rattle.sms_world_model.specs.Agreement.{GivenOnce, DeliveredAccepted, NoPartTwice}
use Rattle.sms_base.specs.declared.carried.Kind.{Kind}
use Rattle.sms_base.specs.declared.carried.Kind.TheVariants.{Ack}
use Rattle.sms_world_model.proofs.Tables.{changed_back, entered_back, same_message, number_done}
use Rattle.sms_world_model.proofs.Sound.{IsSound, Says, Offered, IsKnown}
use Rattle.sms_world_model.proofs.Keeps.{says_data, arrived_for, part_named, sound_enter}
use Rattle.sms_world_model.proofs.Runs.{latest_same, sound_item}

abbrev pub IsDeliver : List ℕ → DeliverOf → Type 0
IsDeliver tpdu d = down_at InData tpdu ≡ Ok (Deliver d)

-- no DELIVER stands twice
abbrev pub DeliversOnce : List Accepted → Type 0
DeliversOnce [] = Unit {0}
DeliversOnce (p ∷ older) = ((d : DeliverOf) → IsDeliver p.tpdu d → ¬ Among p older) × DeliversOnce older

-- part n was accepted
abbrev pub Arrived : List Allocation → List Accepted → ℕ → Submission → ℕ → Type 0
Arrived down accepted id s n =
    (g : Allocation)
    × (Among g down × (g.holder ≡ Part id n) × (g.handset ≡ s.handset) × IsForPart s n g.moment g.tpdu × Among (pair_given g) accepted)

abbrev pub DoneArrived : List Allocation → List Accepted → ℕ → Submission → State → Type 0
DoneArrived down accepted id s (Pending done) = (n : ℕ) → Among n done → Arrived down accepted id s n
DoneArrived down accepted id s (Final Delivered) = (n : ℕ) → 0 < n → n ≤ length s.parts → Arrived down accepted id s n
DoneArrived down accepted id s (Final Expired) = Unit {0}
DoneArrived down accepted id s (Final Deleted) = Unit {0}
DoneArrived down accepted id s (Final Undeliverable) = Unit {0}

pub record Faithful (table : List Message) (down : List Allocation) (accepted : List Accepted) : Type 0 where
  pub once : DeliversOnce accepted
  -- a DELIVER that was accepted for the latest giving is the last accepted under its reference
  pub tip : (g : Allocation) (d : DeliverOf) → IsLatest g down → IsDeliver g.tpdu d → Among (pair_given g) accepted → IsLast (pair_given g) accepted
  pub done : (id : ℕ) (s : Submission) (st : State) → IsRecorded table id s st → DoneArrived down accepted id s st

abbrev pub IsFaithful : World → Type 0
IsFaithful w = Faithful w.table w.down w.accepted

-- ---- allocations

pub latest_among : (g : Allocation) (gs : List Allocation) → IsLatest g gs → Among g gs
latest_among g [] h = h
latest_among g (x ∷ xs) h = ⊎_elim (λ (e : g ≡ x). inl e) (λ (k : ¬ SameReference g x × IsLatest g xs). inr (latest_among g xs k.1)) h

pub was_earlier : (gs : List Allocation) (x : Allocation) (a : List ℕ) (r m : ℕ) → IsEarlier gs a r m → Among x gs → x.handset ≡ a → x.reference ≡ r → x.moment < m
was_earlier [] x a r m f i p q = absurd i
was_earlier (g ∷ gs) x a r m f i p q =
    ⊎_elim
    (λ (e : x ≡ g).
    let l = f.0 (ap (λ (y : Allocation). y.handset) (sym e) ∙ p) (ap (λ (y : Allocation). y.reference) (sym e) ∙ q) in
    subst (λ (y : Allocation). y.moment < m) (sym e) l)
    (λ (j : Among x gs). was_earlier gs x a r m f.1 j p q)
    i

pub given_same : (gs : List Allocation) (x y : Allocation) → GivenOnce gs → Among x gs → Among y gs → x.handset ≡ y.handset → x.reference ≡ y.reference → x.moment ≡ y.moment → x ≡ y
given_same [] x y o i j p q s = absurd i
given_same (g ∷ gs) x y o i j p q s =
    ⊎_elim
    (λ (e : x ≡ g). ⊎_elim
    (λ (d : y ≡ g). e ∙ sym d)
    (λ (k : Among y gs).
    let l = was_earlier gs y g.handset g.reference g.moment o.0 k (sym p ∙ ap (λ (z : Allocation). z.handset) e) (sym q ∙ ap (λ (z : Allocation). z.reference) e) in
    let t : x.moment ≡ g.moment = ap (λ (z : Allocation). z.moment) e in
    absurd (omega (arith, l, t, s)))
    j)
    (λ (e : Among x gs). ⊎_elim
    (λ (d : y ≡ g).
    let l = was_earlier gs x g.handset g.reference g.moment o.0 e (p ∙ ap (λ (z : Allocation). z.handset) d) (q ∙ ap (λ (z : Allocation). z.reference) d) in
    let t : y.moment ≡ g.moment = ap (λ (z : Allocation). z.moment) d in
    absurd (omega (arith, l, t, s)))
    (λ (k : Among y gs). given_same gs x y o.1 e k p q s)
    j)
    i

-- ---- DELIVERs and their allocations

pub one_deliver : (tpdu : List ℕ) (d e : DeliverOf) → IsDeliver tpdu d → IsDeliver tpdu e → d ≡ e
one_deliver tpdu d e x y = let z : Ok (Deliver d) ≡ Ok (Deliver e) = sym x ∙ y in cc

-- a DELIVER that is offered has the moment of its giving
abbrev pub HasMoment : Allocation → Type 0
HasMoment g = (d : DeliverOf) → IsDeliver g.tpdu d → d.service_centre_time_stamp ≡ g.moment

pub part_moment : (s : Submission) (n m : ℕ) (tpdu : List ℕ) (d : DeliverOf) → IsForPart s n m tpdu → IsDeliver tpdu d → d.service_centre_time_stamp ≡ m
part_moment s n m tpdu d (part, x) e = ap (λ (y : DeliverOf). y.service_centre_time_stamp) (one_deliver tpdu d x.1.deliver e x.1.reads) ∙ x.1.time_stamp

pub known_moment : (w : World) → IsSound w → (g : Allocation) → Among g w.down → HasMoment g
known_moment w h g i d e = at g.holder (h.known g i)
  where
    at : (y : Holder) → IsKnown w.table w.receipts g y → d.service_centre_time_stamp ≡ g.moment
    at (Part id n) (s, st, x) = part_moment s n g.moment g.tpdu d x.1 e
    at (Report id) x = let z : Ok (StatusReport x.1.0) ≡ Ok (Deliver d) = sym x.1.1 ∙ e in absurd (cc)
    at (Entry n) x = absurd x
    at (Memory n) x = absurd x

-- the giving of a pair that is a DELIVER
pub pair_allocation : (gs : List Allocation) (x y : Allocation) (d : DeliverOf) → GivenOnce gs → HasMoment x → HasMoment y → Among x gs → Among y gs → pair_given x ≡ pair_given y → IsDeliver x.tpdu d → x ≡ y
pair_allocation gs x y d o hx hy i j e is =
    let t : x.tpdu ≡ y.tpdu = ap (λ (p : Accepted). p.tpdu) e in
    given_same gs x y o i j (ap (λ (p : Accepted). p.handset) e) (ap (λ (p : Accepted). p.reference) e)
    (sym (hx d is) ∙ hy d (subst (λ z. IsDeliver z d) t is))

-- ---- what changes keep

arrived_more : (dn en : List Allocation) (ac bc : List Accepted) (id : ℕ) (s : Submission) (n : ℕ) → ((g : Allocation) → Among g dn → Among g en) → ((p : Accepted) → Among p ac → Among p bc) → Arrived dn ac id s n → Arrived en bc id s n
arrived_more dn en ac bc id s n gd ga (g, x) = (g, (gd g x.0, x.1, x.2, x.3, ga (pair_given g) x.4))

done_more : (dn en : List Allocation) (ac bc : List Accepted) (id : ℕ) (s : Submission) (st : State) → ((g : Allocation) → Among g dn → Among g en) → ((p : Accepted) → Among p ac → Among p bc) → DoneArrived dn ac id s st → DoneArrived en bc id s st
done_more dn en ac bc id s (Pending done) gd ga x = λ n i. arrived_more dn en ac bc id s n gd ga (x n i)
done_more dn en ac bc id s (Final Delivered) gd ga x = λ n i l. arrived_more dn en ac bc id s n gd ga (x n i l)
done_more dn en ac bc id s (Final Expired) gd ga x = tt
done_more dn en ac bc id s (Final Deleted) gd ga x = tt
done_more dn en ac bc id s (Final Undeliverable) gd ga x = tt

module _ (t : List Message) (dn : List Allocation) (ac : List Accepted) (h : Faithful t dn ac) where
  faithful_table : (v : List Message) → ((id : ℕ) (s : Submission) (st : State) → IsRecorded v id s st → DoneArrived dn ac id s st) → Faithful v dn ac
  faithful_table v new = record { once = h.once; tip = h.tip; done = new }

  faithful_give : (g : Allocation) → IsEarlier dn g.handset g.reference g.moment → HasMoment g → ((x : Allocation) → Among x dn → HasMoment x)
      → ((p : Accepted) → Among p ac → Offered dn p) → Faithful t (g ∷ dn) ac
  faithful_give g earlier mine moments offered = record {
    once = h.once;
    tip = λ x d l is i. ⊎_elim
        (λ (e : x ≡ g).
        let y = offered (pair_given x) i in
        let same : pair_given g ≡ pair_given y.0 = ap (λ (z : Allocation). pair_given z) (sym e) ∙ y.1.1 in
        let l = was_earlier dn y.0 g.handset g.reference g.moment earlier y.1.0 (sym (ap (λ (p : Accepted). p.handset) same)) (sym (ap (λ (p : Accepted). p.reference) same)) in
        let at : IsDeliver g.tpdu d = subst (λ (z : Allocation). IsDeliver z.tpdu d) e is in
        let m = mine d at in
        let k = moments y.0 y.1.0 d (subst (λ z. IsDeliver z d) (ap (λ (p : Accepted). p.tpdu) same) at) in
        absurd (omega (arith, l, m, k)))
        (λ (e : ¬ SameReference x g × IsLatest x dn). h.tip x d e.1 is i) l;
    done = λ id s st i. done_more dn (g ∷ dn) ac ac id s st (λ _ x. inr x) (λ _ x. x) (h.done id s st i);
  }

  -- the pair of the latest giving of its reference comes, and is not the last
  faithful_take : (p : Accepted) (g : Allocation) → IsLatest g dn → p ≡ pair_given g → ¬ IsLast p ac → Faithful t dn (p ∷ ac)
  faithful_take p g latest is new = record {
    once = (
      (λ d at i. new (subst (λ (q : Accepted). IsLast q ac) (sym is)
          (h.tip g d latest (subst (λ (q : Accepted). IsDeliver q.tpdu d) is at) (subst (λ (q : Accepted). Among q ac) is i)))),
      h.once,
    );
    tip = λ x d l at i. ⊎_elim
        (λ (e : pair_given x ≡ p). inl e)
        (λ (j : Among (pair_given x) ac).
        let last = h.tip x d l at j in
        inr (
          (λ (same : (x.handset ≡ p.handset) × (x.reference ≡ p.reference)).
              let one : x ≡ g = latest_same x g dn l latest (same.0 ∙ ap (λ (q : Accepted). q.handset) is, same.1 ∙ ap (λ (q : Accepted). q.reference) is) in
              new (subst (λ (q : Accepted). IsLast q ac) (ap (λ (z : Allocation). pair_given z) one ∙ sym is) last)),
          last,
        ))
        i;
    done = λ id s st i. done_more dn dn ac (p ∷ ac) id s st (λ _ x. x) (λ _ x. inr x) (h.done id s st i);
  }

pub offered_more : (dn en : List Allocation) (p : Accepted) → ((g : Allocation) → Among g dn → Among g en) → Offered dn p → Offered en p
offered_more dn en p more (g, x) = (g, (more g x.0, x.1))

pub moments_more : (dn : List Allocation) (g : Allocation) → HasMoment g → ((x : Allocation) → Among x dn → HasMoment x) → (x : Allocation) → Among x (g ∷ dn) → HasMoment x
moments_more dn g mine all x i =
    ⊎_elim (λ (e : x ≡ g). subst (λ (y : Allocation). HasMoment y) (sym e) mine) (λ (j : Among x dn). all x j) i

faithful_parts : (w : World) (s : Submission) (m n : ℕ) (ts : List Ticket) → IsFaithful w → ((x : Allocation) → Among x w.down → HasMoment x)
    → ((p : Accepted) → Among p w.accepted → Offered w.down p) → CanGiveParts w s m n ts
    → Faithful w.table (given_parts s m n ts w.down) w.accepted
faithful_parts w s m n [] h moments offered can = h
faithful_parts w s m n (t ∷ ts) h moments offered can =
    let g : Allocation = part_allocation s m n t in
    let mine : HasMoment g = (λ d e. part_moment s n m t.tpdu d can.1 e) in
    faithful_parts (give w g) s m (suc n) ts
    (faithful_give w.table w.down w.accepted h g can.0.2 mine moments offered)
    (moments_more w.down g mine moments)
    (λ p i. offered_more w.down (g ∷ w.down) p (λ _ x. inr x) (offered p i))
    can.2

faithful_submit : (w : World) (m : ℕ) (s : Submission) (ts : List Ticket) → IsSound w → IsFaithful w → CanSubmit w m s ts → IsFaithful (submitted w m s ts)
faithful_submit w m s ts sound h can =
    let v = enter w s in
    let new = sound_enter w s sound can.0 in
    faithful_parts v s m 1 ts
    (faithful_table w.table w.down w.accepted h v.table
    (λ id x st i. ⊎_elim
    (λ (e : (id ≡ s.id) × (x ≡ s) × (st ≡ Pending [])). subst (DoneArrived w.down w.accepted id x) (sym e.2) (λ n a. absurd a))
    (λ (e : IsRecorded w.table id x st). h.done id x st e)
    (entered_back w.table s x (Pending []) st id i)))
    (λ x i. known_moment v new x i)
    new.offered
    can.3

-- what the tag of a timely frame says
pub timely_allocation : (w : World) (u : Frame) → u.line ≡ Down → IsTimely w u → (g : Allocation) × (IsLatest g w.down × (g.handset ≡ u.handset) × (g.reference ≡ u.reference) × (g.holder ≡ u.tag))
timely_allocation w u l (g, x) = (g, (subst (λ y. IsLatest g (allocations w y)) l x.0, x.1, x.2, x.3))

faithful_change : (w : World) (id : ℕ) (s : Submission) (done : List ℕ) (f : Message → State) → IsFaithful w → IsRecorded w.table id s (Pending done)
    → DoneArrived w.down w.accepted id s (f (record { submission = s; state = Pending done })) → Faithful (changed id f w.table) w.down w.accepted
faithful_change w id s done f h is new =
    faithful_table w.table w.down w.accepted h (changed id f w.table)
    (λ j x st i. ⊎_elim
    (λ (e : (j ≡ id) × (x ≡ s) × (st ≡ f (record { submission = s; state = Pending done }))).
    subst (λ (y : ℕ × Submission × State). DoneArrived w.down w.accepted y.0 y.1 y.2) (λ k. (sym e.0 k, sym e.1 k, sym e.2 k)) new)
    (λ (e : ¬ (j ≡ id) × IsRecorded w.table j x st). h.done j x st e.1)
    (changed_back w.table id f s x (Pending done) st j is i))

marked_arrived : (dn : List Allocation) (ac : List Accepted) (id : ℕ) (s : Submission) (n : ℕ) (done : List ℕ) → ((j : ℕ) → Among j done → Arrived dn ac id s j) → Arrived dn ac id s n
    → DoneArrived dn ac id s (marked n s.parts (Pending done))
marked_arrived dn ac id s n done old new = at (all_numbers (length s.parts) (n ∷ done)) (λ e j a l. all j (number_done (length s.parts) (n ∷ done) j e a l))
  where
    all : (j : ℕ) → Among j (n ∷ done) → Arrived dn ac id s j
    all j i = ⊎_elim (λ (e : j ≡ n). subst (Arrived dn ac id s) (sym e) new) (λ (a : Among j done). old j a) i

    at : (b : Bool) → (b ≡ true → (j : ℕ) → 0 < j → j ≤ length s.parts → Arrived dn ac id s j) → DoneArrived dn ac id s (cond b (Final Delivered) (Pending (n ∷ done)))
    at true every = every refl
    at false every = all

-- the acknowledged part was accepted
settled_arrived : (w : World) (u : Frame) (g : Allocation) (id n : ℕ) (s : Submission) (st : State) → IsSound w → IsTimely w u → IsSent w u Down Ack → HasReference w u g id n → IsRecorded w.table id s st
    → Arrived w.down w.accepted id s n
settled_arrived w u g id n s st h timely sent ref is =
    let latest = timely_allocation w u sent.1 timely in
    let says : Says w.down w.accepted Down Ack u = subst (λ (y : Line × Kind). Says w.down w.accepted y.0 y.1 u) (λ j. (sent.1 j, sent.2 j)) (h.sent u sent.0) in
    let mine : latest.0 ≡ g = latest_same latest.0 g w.down latest.1.0 (h.held g ref.0.0 ref.0.1) (latest.1.1 ∙ sym ref.2, latest.1.2 ∙ sym ref.3) in
    let his : says.0 ≡ g = h.single says.0 latest.0 says.1.0 (latest_among latest.0 w.down latest.1.0) (says.1.1.2 ∙ sym latest.1.3) ∙ mine in
    let accepted : Among (pair_given g) w.accepted = subst (λ (z : Allocation). Among (pair_given z) w.accepted) his says.1.2 in
    let known : IsKnown w.table w.receipts g (Part id n) = subst (IsKnown w.table w.receipts g) ref.1 (h.known g ref.0.0) in
    let one = same_message w.table id known.0 s known.1 st known.2.0 is in (
      g,
      (
        ref.0.0,
        ref.1,
        sym known.2.2 ∙ ap (λ (x : Submission). x.handset) one.0,
        subst (λ (x : Submission). IsForPart x n g.moment g.tpdu) one.0 known.2.1,
        accepted,
      ),
    )

-- ---- steps and runs

pub faithful_step : (w : World) (m : ℕ) (step : Step) → IsSound w → IsFaithful w → Can w m step → ReadsTimely w step → IsFaithful (after w m step)
faithful_step w m (Submit s ts) sound h can timely = faithful_submit w m s ts sound h can
faithful_step w m (Receive u s ts) sound h can timely = faithful_submit w m s ts sound h can.2
faithful_step w m (Take u) sound h can timely =
    let latest = timely_allocation w u can.0.1 timely in
    let says = says_data w u sound can.0 in
    let his : says.0 ≡ latest.0 = sound.single says.0 latest.0 says.1.0 (latest_among latest.0 w.down latest.1.0) (says.1.1.2 ∙ sym latest.1.3) in
    faithful_take w.table w.down w.accepted h (pair_of u) latest.0 latest.1.0
    (arrived_for says.0 u says.1.1 says.1.2 ∙ ap (λ (z : Allocation). pair_given z) his)
    can.1
faithful_step w m (Settle u g id n) sound h can timely =
    let x = part_named w g id n can.1.0 can.1.1 in
    faithful_change w id x.0 x.1 (λ e. marked n e.submission.parts e.state) h x.2.0
    (marked_arrived w.down w.accepted id x.0 n x.1 (h.done id x.0 (Pending x.1) x.2.0) (settled_arrived w u g id n x.0 (Pending x.1) sound timely can.0 can.1 x.2.0))
faithful_step w m (Expire id) sound h (s, done, x) timely = faithful_change w id s done (λ e. Final Expired) h x.0 tt
faithful_step w m (Delete id) sound h (s, done, x) timely = faithful_change w id s done (λ e. Final Deleted) h x tt
faithful_step w m (Fail u g id n) sound h can timely =
    let x = part_named w g id n can.1.0 can.1.1 in faithful_change w id x.0 x.1 (λ e. Final Undeliverable) h x.2.0 tt
faithful_step w m (Status s f t) sound h can timely =
    let none : HasMoment (report_allocation s m t) = (λ d e. let z : Ok (StatusReport can.3.report) ≡ Ok (Deliver d) = sym can.3.reads ∙ e in absurd (cc)) in
    faithful_give w.table w.down w.accepted h (report_allocation s m t) can.2.2 none (λ x i. known_moment w sound x i) sound.offered
faithful_step w m _ sound h can timely = h

pub faithful_run : (w : World) (items : List Item) → IsSound w → IsFaithful w → Run w items → Timely w items → IsFaithful (end w items)
faithful_run w [] sound h run timely = h
faithful_run w (i ∷ is) sound h run timely =
    faithful_run (after_item w i) is (sound_item w i sound run.0) (faithful_step w i.moment i.step sound h run.0 timely.0) run.1 timely.1

pub faithful_empty : IsFaithful empty
faithful_empty = record { once = tt; tip = λ g d l. absurd l; done = λ id s st i. absurd (cc) }

-- ---- the claims

pub stands_once : (p : Accepted) (ps : List Accepted) (d : DeliverOf) → IsDeliver p.tpdu d → DeliversOnce ps → Among p ps → OccursOnce p ps
stands_once p [] d at o i = i
stands_once p (x ∷ xs) d at o i =
    ⊎_elim
    (λ (e : p ≡ x). inl (e, λ a. o.0 d (subst (λ (y : Accepted). IsDeliver y.tpdu d) e at) (subst (λ (y : Accepted). Among y xs) e a)))
    (λ (a : Among p xs). inr ((λ e. o.0 d (subst (λ (y : Accepted). IsDeliver y.tpdu d) e at) (subst (λ (y : Accepted). Among y xs) e a)), stands_once p xs d at o.1 a))
    i

pub part_within : (xs : List UserData) (n : ℕ) (part : UserData) → part_at n xs ≡ Some part → (0 < n) × (n ≤ length xs)
part_within xs zero part e = absurd (cc)
part_within xs (suc n) part e = let l = slice_get_within xs n part e in (omega arith, omega arith)

pub delivered_accepted : (w : World) → IsFaithful w → DeliveredAccepted w
delivered_accepted w h id s n part is has =
    let bounds = part_within s.parts n part has in
    let x = h.done id s (Final Delivered) is n bounds.0 bounds.1 in
    let same : x.1.3.0 ≡ part = same_Some x.1.3.0 part (sym x.1.3.1.0 ∙ has) in
    let deliver = x.1.3.1.1 in (
      x.0,
      (
        x.1.0,
        x.1.1,
        x.1.2,
        subst (λ y. IsDeliverOf s y x.0.moment x.0.tpdu) same deliver,
        stands_once (pair_given x.0) w.accepted deliver.deliver deliver.reads h.once x.1.4,
      ),
    )

pub no_part_twice : (w : World) → IsSound w → IsFaithful w → NoPartTwice w
no_part_twice w sound h g id n i e j =
    let known : IsKnown w.table w.receipts g (Part id n) = subst (IsKnown w.table w.receipts g) e (sound.known g i) in
    let deliver = known.2.1.1.1 in
    stands_once (pair_given g) w.accepted deliver.deliver deliver.reads h.once j
