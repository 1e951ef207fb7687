-- Split messages are joined whole.
use Rattle.std.proofs.Common.{◌≡◌, ◌⊎◌, ℕ, zero, suc, ◌+◌, ◌<◌, ◌≤◌, List, [], ◌∷◌, true, false, refl, sym, ◌∙◌, ap, subst, inl, inr, ⊎_elim, Option, Some, length, arith}
use Rattle.std.proofs.lemmas.Bool.{cases_eq, cases_Bool}
use Rattle.sms_base.specs.Among.{Among}
use Rattle.sms_base.specs.declared.holder.Holder.TheVariants.{Part, Report}
use Rattle.sms_concat.specs.declared.content.Part.{Part as PartOf}
use Rattle.sms_tpdu.specs.declared.user_data.UserData.{UserData}
use Rattle.sms_world_model.specs.Groups.{is_among, number_in, is_for, of_key, numbers, carried_by, parts_to, Rounds, rounds, submitted_pairs, rounds_of}
use Rattle.sms_world_model.specs.Submission.{Submission, part_at}
use Rattle.sms_world_model.specs.Place.{Key, Place, place_in, carried_in, with_part, joined_parts}
use Rattle.sms_world_model.specs.World.{State, Pending, Message, Allocation, Accepted, ReceiptOf, World, IsRecorded, give, pair_given, empty}
use Rattle.sms_world_model.specs.SplitMessages.{IsSplit, IsOf, carried_of, submitted_to}
use Rattle.sms_world_model.specs.References.{IsEarlier, IsForPart, Ticket, part_allocation, report_allocation, CanGiveParts, given_parts}
use Rattle.sms_world_model.specs.WorldStep.{Step, Submit, Settle, Expire, Delete, Fail, Status, Receive, Can, after, CanSubmit, submitted, enter, Item, after_item, Run, end}
use Rattle.sms_world_model.specs.Premises.{AllArrived, MayBegin, FreshParts, SubmitsFresh, Fresh}
use Rattle.sms_world_model.specs.Agreement.{SplitsWhole}
use Rattle.sms_world_model.proofs.Tables.{Grows, same_message, new_not_found, entered_here, entered_grows}
use Rattle.sms_world_model.proofs.Sound.{IsSound, Offered, IsKnown}
use Rattle.sms_world_model.proofs.Keeps.{sound_enter}
use Rattle.sms_world_model.proofs.Runs.{sound_item, table_grows}
use Rattle.sms_world_model.proofs.Faithful.{HasMoment, part_moment, known_moment, moments_more, offered_more}
use Rattle.sms_world_model.proofs.Keys.{bounds, is_for_place, number_placed, place_of_part, carried_of_part}
use Rattle.sms_world_model.proofs.Rounds.{AllNumbers, Differ, ended_full}
use Rattle.sms_world_model.proofs.Places.{IsPlaced, of_key_in, of_key_out, among_of_key, group_ended}
use Rattle.sms_world_model.proofs.Joins.{IsMatched, pair_among, pair_from, not_given, not_yet, rounds_all_within, carried_one, round_of}
use Rattle.sms_world_model.proofs.Splits.{IsWhole, whole_other, Begun, begun_more}

-- ---- pairs of a message

other_part : (dn : List Allocation) (g : Allocation) (id n i : ℕ) (x : Accepted) → g.holder ≡ Part id n → ¬ (i ≡ id) → IsOf (g ∷ dn) i x → IsOf dn i x
other_part dn g id n i x is apart (f, j, y) =
    ⊎_elim
    (λ (e : f ≡ g). let q : Part i j ≡ Part id n = sym y.1 ∙ ap (λ (z : Allocation). z.holder) e ∙ is in let r : i ≡ id = cc in absurd (apart r))
    (λ (a : Among f dn). (f, j, (a, y.1, y.2)))
    y.0

more_of : (dn : List Allocation) (g : Allocation) (i : ℕ) (x : Accepted) → IsOf dn i x → IsOf (g ∷ dn) i x
more_of dn g i x (f, j, y) = (f, j, (inr y.0, y.1, y.2))

own_part : (dn : List Allocation) (g : Allocation) (i : ℕ) (x : Accepted) → IsOf (g ∷ dn) i x → (x ≡ pair_given g) ⊎ IsOf dn i x
own_part dn g i x (f, j, y) =
    ⊎_elim
    (λ (e : f ≡ g). inl (y.2 ∙ ap (λ (z : Allocation). pair_given z) e))
    (λ (a : Among f dn). inr (f, j, (a, y.1, y.2)))
    y.0

of_among : (dn : List Allocation) (i : ℕ) (x : Accepted) → IsOf dn i x → Among x (submitted_pairs dn)
of_among dn i x (f, j, y) = subst (λ (p : Accepted). Among p (submitted_pairs dn)) (sym y.2) (pair_among dn f i j y.0 y.1)

whole_same : (A B : Accepted → Type 0) (total : ℕ) (r : Rounds) → ((x : Accepted) → A x → B x) → ((x : Accepted) → B x → A x) → IsWhole A total r → IsWhole B total r
whole_same A B total r ab ba h = ((λ ps i x j b y k. ab y (h.0 ps i x j (ba x b) y k)), (λ x j b. h.1 x j (ba x b)))

in_range : (h : List ℕ) (k : Key) (ps : List Accepted) (q : Accepted) → Among q (rounds (of_key h k ps)).present → (0 < number_in q) × (number_in q ≤ k.total)
in_range h k ps q i = let x = among_of_key h k q ps ((rounds_all_within (of_key h k ps)).0 q i) in let b = bounds h k q x.1 in (b.1, b.2)

-- the place of a part of a split message
pub split_place : (s : Submission) (k : Key) (n m : ℕ) (tpdu : List ℕ) → IsSplit s k → IsForPart s n m tpdu → place_in tpdu ≡ Some (record { key = k; number = n })
split_place s k n m tpdu split (part, x) = place_of_part s part m tpdu x.1 ∙ split.1 n part x.0

-- ---- parts are given one by one

-- split messages but this one
abbrev Others : List Message → List Allocation → List ℕ → Key → ℕ → Type 0
Others t dn h k id = (s : Submission) (st : State) → IsRecorded t s.id s st → IsSplit s k → s.handset ≡ h → ¬ (s.id ≡ id) → IsWhole (IsOf dn s.id) k.total (rounds_of h k dn)

-- this one, with its first n parts
abbrev Mine : World → Submission → List ℕ → Key → ℕ → Type 0
Mine w s h k n = IsSplit s k → s.handset ≡ h → Begun (IsOf w.down s.id) (of_key h k w.accepted) n (rounds_of h k w.down)

module _ (w : World) (s : Submission) (m n : ℕ) (t : Ticket) (h : List ℕ) (k : Key)
    (moments : (x : Allocation) → Among x w.down → HasMoment x) (offered : (p : Accepted) → Among p w.accepted → Offered w.down p)
    (earlier : IsEarlier w.down s.handset t.reference m) (mine : IsForPart s (suc n) m t.tpdu) where
  has_moment : HasMoment (part_allocation s m (suc n) t)
  has_moment d e = part_moment s (suc n) m t.tpdu d mine e

  pair_new : ¬ Among (pair_given (part_allocation s m (suc n) t)) (submitted_pairs w.down)
  pair_new i =
      let y = pair_from w.down (pair_given (part_allocation s m (suc n) t)) i in
      let deliver = mine.1.1 in
      not_given w.down (part_allocation s m (suc n) t) deliver.deliver moments has_moment deliver.reads earlier y.0 y.3.0 y.3.2

  others_part : Others w.table w.down h k s.id → Others w.table (part_allocation s m (suc n) t ∷ w.down) h k s.id
  others_part old x sx ix split at apart =
      let g : Allocation = part_allocation s m (suc n) t in
      let p : Accepted = pair_given g in
      let S = submitted_pairs w.down in
      let was = old x sx ix split at apart in
      let back = (λ (y : Accepted) (b : IsOf (g ∷ w.down) x.id y). other_part w.down g s.id (suc n) x.id y refl apart b) in
      let more = (λ (y : Accepted) (b : IsOf w.down x.id y). more_of w.down g x.id y b) in
      ⊎_elim
      (λ (e : is_for h k p ≡ true).
      let b = bounds h k p e in
      subst (λ ps. IsWhole (IsOf (g ∷ w.down) x.id) k.total (rounds ps)) (sym (of_key_in h k p S e))
      (whole_other k.total (of_key h k S) p (IsOf w.down x.id) (IsOf (g ∷ w.down) x.id)
      (λ b'. pair_new (of_among w.down x.id p (back p b')))
      back more b.1 b.2 was))
      (λ (e : is_for h k p ≡ false).
      subst (λ ps. IsWhole (IsOf (g ∷ w.down) x.id) k.total (rounds ps)) (sym (of_key_out h k p S e))
      (whole_same (IsOf w.down x.id) (IsOf (g ∷ w.down) x.id) k.total (rounds (of_key h k S)) more back was))
      (cases_Bool (is_for h k p))

  mine_part : MayBegin w.down w.accepted (pair_given (part_allocation s m (suc n) t)) → Mine w s h k n → Mine (give w (part_allocation s m (suc n) t)) s h k (n + 1)
  mine_part begins old split at =
      let g : Allocation = part_allocation s m (suc n) t in
      let p : Accepted = pair_given g in
      let S = submitted_pairs w.down in
      let deliver = mine.1.1 in
      let place = split_place s k (suc n) m t.tpdu split mine in
      let e : is_for h k p ≡ true = is_for_place h k (suc n) p at place in
      let own : is_for s.handset k p ≡ true = is_for_place s.handset k (suc n) p refl place in
      let number : number_in p ≡ suc n = number_placed p k (suc n) place in
      subst (λ ps. Begun (IsOf (g ∷ w.down) s.id) (of_key h k w.accepted) (n + 1) (rounds ps)) (sym (of_key_in h k p S e))
      (begun_more k.total (of_key h k S) (of_key h k w.accepted) p (IsOf w.down s.id) (IsOf (g ∷ w.down) s.id) n
      (g, suc n, (inl refl, refl, refl))
      (λ y b. more_of w.down g s.id y b)
      (λ y b. own_part w.down g s.id y b)
      (λ i. pair_new (among_of_key h k p S i).0)
      (λ i. not_yet w.down w.accepted g deliver.deliver offered moments has_moment deliver.reads earlier (among_of_key h k p w.accepted i).0)
      (omega (arith, number))
      (in_range h k S)
      (subst (λ a. is_among (number_in p) (numbers (rounds_of a k w.down).present) ≡ true → AllArrived k.total (rounds_of a k w.down).present (of_key a k w.accepted)) at (begins k own))
      (old split at))

splits_parts : (w : World) (s : Submission) (m n : ℕ) (ts : List Ticket) (h : List ℕ) (k : Key) → ((x : Allocation) → Among x w.down → HasMoment x)
    → ((p : Accepted) → Among p w.accepted → Offered w.down p)
    → CanGiveParts w s m (suc n) ts → FreshParts s m (suc n) ts w.down w.accepted → n + length ts ≡ length s.parts → Others w.table w.down h k s.id → Mine w s h k n
    → Others w.table (given_parts s m (suc n) ts w.down) h k s.id × Mine (record w { down = given_parts s m (suc n) ts w.down }) s h k (length s.parts)
splits_parts w s m n [] h k moments offered can fresh all old mine =
    let e : n ≡ length s.parts = omega arith in
    (old, subst (λ i. Mine w s h k i) e mine)
splits_parts w s m n (t ∷ ts) h k moments offered can fresh all old mine =
    let g : Allocation = part_allocation s m (suc n) t in
    let here : HasMoment g = (λ d e. part_moment s (suc n) m t.tpdu d can.1 e) in
    splits_parts (give w g) s m (suc n) ts h k
    (moments_more w.down g here moments)
    (λ p i. offered_more w.down (g ∷ w.down) p (λ _ y. inr y) (offered p i))
    can.2 fresh.1 (omega arith)
    (others_part w s m n t h k moments offered can.0.2 can.1 old)
    (let e : n + 1 ≡ suc n = omega arith in
    subst (λ i. Mine (give w g) s h k i) e (mine_part w s m n t h k moments offered can.0.2 can.1 fresh.0 mine))

-- a message whose parts were all submitted
whole_mine : (A : Accepted → Type 0) (acc : List Accepted) (total n : ℕ) (r : Rounds) → 0 < n → n ≡ total → ((q : Accepted) → Among q r.present → (0 < number_in q) × (number_in q ≤ total)) → Begun A acc n r → IsWhole A total r
whole_mine A acc total n r low e range h =
    ⊎_elim
    (λ (x : (n ≡ 0) × ((x : Accepted) → Among x r.present → A x → ⊥)). absurd (omega arith))
    (λ (x : (((y : Accepted) → Among y r.present → A y) × ((i : ℕ) → 0 < i → i ≤ n → (q : Accepted) × (Among q r.present × (number_in q ≡ i))) × ((q : Accepted) → Among q r.present → number_in q ≤ n))
    ⊎ ((y : Accepted) × (x : Accepted) × (Among y r.present × (n < number_in y) × Among x r.present × ¬ Among x acc))).
    ⊎_elim
    (λ (good : ((y : Accepted) → Among y r.present → A y) × ((i : ℕ) → 0 < i → i ≤ n → (q : Accepted) × (Among q r.present × (number_in q ≡ i))) × ((q : Accepted) → Among q r.present → number_in q ≤ n)). (
      (λ ps i y j a z k. ⊎_elim
          (λ (c : ps ≡ r.present). good.0 z (subst (λ l. Among z l) c k))
          (λ (c : Among ps r.finished). absurd (h.0 ps c y j a)) i),
      (λ y j a i b c. good.1 i b (omega (arith, c, e))),
    ))
    (λ (bad : (y : Accepted) × (x : Accepted) × (Among y r.present × (n < number_in y) × Among x r.present × ¬ Among x acc)).
    let b = (range bad.0 bad.2.0).1 in let c = bad.2.1 in absurd (omega (arith, b, c, e)))
    x)
    h.1

-- ---- steps

abbrev pub AllWhole : List Message → List Allocation → Type 0
AllWhole t dn = (h : List ℕ) (k : Key) (s : Submission) (st : State) → IsRecorded t s.id s st → IsSplit s k → s.handset ≡ h → IsWhole (IsOf dn s.id) k.total (rounds_of h k dn)

-- a message with a part stood before
stood : (t v : List Message) (rc : List ReceiptOf) (dn : List Allocation) (s : Submission) (st : State) (x : Accepted) → Grows t v → ((g : Allocation) → Among g dn → IsKnown t rc g g.holder) → IsRecorded v s.id s st → IsOf dn s.id x
    → (y : State) × IsRecorded t s.id s y
stood t v rc dn s st x more known is (g, j, y) =
    let z : IsKnown t rc g (Part s.id j) = subst (IsKnown t rc g) y.1 (known g y.0) in
    let u = more s.id z.0 z.1 z.2.0 in
    let same = same_message v s.id z.0 s u.0 st u.1.0 is in
    (z.1, subst (λ (a : Submission). IsRecorded t s.id a z.1) same.0 z.2.0)

whole_table : (t v : List Message) (rc : List ReceiptOf) (dn : List Allocation) → Grows t v → ((g : Allocation) → Among g dn → IsKnown t rc g g.holder) → AllWhole t dn → AllWhole v dn
whole_table t v rc dn more known old h k s st is split at = (
  (λ ps i x j a y b. let z = stood t v rc dn s st x more known is a in (old h k s z.0 z.1 split at).0 ps i x j a y b),
  (λ x j a. let z = stood t v rc dn s st x more known is a in (old h k s z.0 z.1 split at).1 x j a),
)

whole_submit : (w : World) (m : ℕ) (s : Submission) (ts : List Ticket) → IsSound w → AllWhole w.table w.down → CanSubmit w m s ts → FreshParts s m 1 ts w.down w.accepted
    → AllWhole (submitted w m s ts).table (submitted w m s ts).down
whole_submit w m s ts sound old can fresh h k x st is split at =
    let v = enter w s in
    let sound_v = sound_enter w s sound can.0 in
    let now = whole_table w.table v.table w.receipts w.down (entered_grows w.table s (Pending []) can.0) sound.known old in
    let none : (y : Accepted) → IsOf w.down s.id y → ⊥ =
    (λ y b. let z : IsKnown w.table w.receipts b.0 (Part s.id b.1) = subst (IsKnown w.table w.receipts b.0) b.2.1 (sound.known b.0 b.2.0) in not_there z.0 z.1 z.2.0) in
    let done = splits_parts v s m 0 ts h k (λ y i. known_moment v sound_v y i) sound_v.offered can.3 fresh (omega (arith, can.2))
    (λ y sy iy sp a n. now h k y sy iy sp a)
    (λ sp a. ((λ ps i y j b. none y b), inl (refl, λ y j b. none y b))) in
    ⊎_elim
    (λ (e : x.id ≡ s.id).
    let same = same_message v.table s.id x s st (Pending []) (subst (λ i. IsRecorded v.table i x st) e is) (entered_here w.table s (Pending [])) in
    let split_s = subst (λ (y : Submission). IsSplit y k) same.0 split in
    subst (λ (y : Submission). IsWhole (IsOf (given_parts s m 1 ts w.down) y.id) k.total (rounds_of h k (given_parts s m 1 ts w.down))) (sym same.0)
    (whole_mine (IsOf (given_parts s m 1 ts w.down) s.id) (of_key h k w.accepted) k.total (length s.parts) (rounds_of h k (given_parts s m 1 ts w.down)) can.1 split_s.0
    (in_range h k (submitted_pairs (given_parts s m 1 ts w.down)))
    (done.1 split_s (subst (λ (y : Submission). y.handset ≡ h) same.0 at))))
    (λ (e : x.id ≡ s.id → ⊥). done.0 x st is split at e)
    (cases_eq x.id s.id)
  where
    not_there : (y : Submission) (sy : State) → IsRecorded w.table s.id y sy → ⊥
    not_there y sy i = new_not_found w.table s.id y sy can.0 i

whole_step : (w : World) (m : ℕ) (step : Step) → IsSound w → AllWhole w.table w.down → Can w m step → SubmitsFresh w m step → AllWhole (after w m step).table (after w m step).down
whole_step w m (Submit s ts) sound old can fresh = whole_submit w m s ts sound old can fresh
whole_step w m (Receive u s ts) sound old can fresh = whole_submit w m s ts sound old can.2 fresh
whole_step w m (Settle u g id n) sound old can fresh = whole_table w.table (after w m (Settle u g id n)).table w.receipts w.down (table_grows w m (Settle u g id n) can) sound.known old
whole_step w m (Expire id) sound old can fresh = whole_table w.table (after w m (Expire id)).table w.receipts w.down (table_grows w m (Expire id) can) sound.known old
whole_step w m (Delete id) sound old can fresh = whole_table w.table (after w m (Delete id)).table w.receipts w.down (table_grows w m (Delete id) can) sound.known old
whole_step w m (Fail u g id n) sound old can fresh = whole_table w.table (after w m (Fail u g id n)).table w.receipts w.down (table_grows w m (Fail u g id n) can) sound.known old
whole_step w m (Status s f t) sound old can fresh = λ h k x st is split at.
    let g : Allocation = report_allocation s m t in
    whole_same (IsOf w.down x.id) (IsOf (g ∷ w.down) x.id) k.total (rounds_of h k w.down)
    (λ y b. more_of w.down g x.id y b)
    (λ y b. ⊎_elim
    (λ (e : b.0 ≡ g). let q : Part x.id b.1 ≡ Report s.id = sym b.2.1 ∙ ap (λ (z : Allocation). z.holder) e in absurd (cc))
    (λ (a : Among b.0 w.down). (b.0, b.1, (a, b.2.1, b.2.2))) b.2.0)
    (old h k x st is split at)
whole_step w m _ sound old can fresh = old

pub whole_run : (w : World) (items : List Item) → IsSound w → AllWhole w.table w.down → Run w items → Fresh w items → AllWhole (end w items).table (end w items).down
whole_run w [] sound old run fresh = old
whole_run w (i ∷ is) sound old run fresh = whole_run (after_item w i) is (sound_item w i sound run.0) (whole_step w i.moment i.step sound old run.0 fresh.0) run.1 fresh.1

pub whole_empty : AllWhole empty.table empty.down
whole_empty h k s st is = absurd (cc)

-- ---- what they join to

one_number : (k : Key) (a b : ℕ) (o : Option Place) → o ≡ Some (record { key = k; number = a }) → o ≡ Some (record { key = k; number = b }) → a ≡ b
one_number k a b o x y =
    let e : Some (let p : Place = record { key = k; number = a } in p) ≡ Some (record { key = k; number = b }) = sym x ∙ y in
    same (record { key = k; number = a }) (record { key = k; number = b }) e
  where
    same : (p q : Place) → Some p ≡ Some q → p.number ≡ q.number
    same p q e = let f : p ≡ q = cc in ap (λ (z : Place). z.number) f

-- the part of that number in a group of the message's parts
carried_same : (w : World) (s : Submission) (st : State) (k : Key) (group : List Accepted) → IsSound w → IsRecorded w.table s.id s st → IsSplit s k → Differ group → AllNumbers k.total group
    → ((y : Accepted) → Among y group → IsOf w.down s.id y) → (n : ℕ) → 0 < n → n ≤ k.total → carried_by n group ≡ carried_of s (part_at n s.parts)
carried_same w s st k group sound is split differ all his n low high =
    let q = all n low high in
    let of = his q.0 q.1.0 in
    let known : IsKnown w.table w.receipts of.0 (Part s.id of.1) = subst (IsKnown w.table w.receipts of.0) of.2.1 (sound.known of.0 of.2.0) in
    let same = same_message w.table s.id known.0 s known.1 st known.2.0 is in
    let mine : IsForPart s of.1 of.0.moment of.0.tpdu = subst (λ (x : Submission). IsForPart x of.1 of.0.moment of.0.tpdu) same.0 known.2.1 in
    let place = split_place s k of.1 of.0.moment of.0.tpdu split mine in
    let number : of.1 ≡ n = sym (number_placed q.0 k of.1 (ap (λ (p : Accepted). place_in p.tpdu) of.2.2 ∙ place)) ∙ q.1.1 in
    carried_one n group q.0 differ q.1.0 q.1.1
    ∙ ap (λ (p : Accepted). carried_in p.tpdu) of.2.2
    ∙ carried_of_part s mine.0 of.0.moment of.0.tpdu mine.1.1
    ∙ ap (λ (o : Option UserData). carried_of s o) (sym mine.1.0)
    ∙ ap (λ (i : ℕ). carried_of s (part_at i s.parts)) number

parts_same : (s : Submission) (total : ℕ) (group : List Accepted) → ((n : ℕ) → 0 < n → n ≤ total → carried_by n group ≡ carried_of s (part_at n s.parts))
    → (n : ℕ) → n ≤ total → submitted_to n s ≡ parts_to n group
parts_same s total group each zero l = refl
parts_same s total group each (suc n) l =
    ap (λ (o : Option (List PartOf)). with_part o (carried_of s (part_at (suc n) s.parts))) (parts_same s total group each n (omega arith))
    ∙ ap (λ (c : Option PartOf). with_part (parts_to n group) c) (sym (each (suc n) (omega arith) l))

pub splits_whole : (w : World) → IsSound w → IsPlaced w → IsMatched w → AllWhole w.table w.down → SplitsWhole w
splits_whole w sound placed matched whole j i s st is split at x a b =
    let r = round_of w placed matched j i in
    let his : (y : Accepted) → Among y j.group → IsOf w.down s.id y =
    (λ y c. (whole j.handset j.key s st is split at).0 r.0 r.1.0 x ((r.1.1 x).0 a) b y ((r.1.1 y).0 c)) in
    let differ : Differ j.group = (λ p q u v e. r.1.2 p q ((r.1.1 p).0 u) ((r.1.1 q).0 v) e) in
    let full = ended_full j.key.total (of_key j.handset j.key w.accepted) j.group (group_ended w placed j i) in
    let each = carried_same w s st j.key j.group sound is split differ full his in (
      his,
      ap (λ (n : ℕ). joined_parts (submitted_to n s)) split.0
          ∙ ap (λ (o : Option (List PartOf)). joined_parts o) (parts_same s j.key.total j.group each j.key.total (omega arith))
          ∙ placed.content j i,
    )
