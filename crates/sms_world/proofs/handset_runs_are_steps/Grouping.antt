-- The open and discarded groups of a handset, and the groups of the world.
use Rattle.std.proofs.Common.{◌≡◌, ℕ, zero, suc, ◌≤◌, ◌<◌, arith, List, [], ◌∷◌, ◌++◌, Bool, true, false, cond, refl, sym, ◌∙◌, ap, subst, ⊎_elim, Option, Some, None, length, eq-eqb}
use Rattle.std.specs.Prelude.{◌==◌, ◌&&◌, ◌||◌}
use Rattle.std.proofs.lemmas.Bool.{cases_eq, cases_Bool, cond-true, cond-false, cond_both, ne_eqb, eqb-false}
use Rattle.sms_base.specs.Among.{Among}
use Rattle.sms_concat.specs.declared.content.Part.{Part as PartOf}
use Rattle.sms_handset_rows.specs.declared.inbox.entry.Entry.{Entry}
use Rattle.sms_handset_rows.specs.declared.inbox.entry.Group.{Group}
use Rattle.sms_handset_rows.specs.declared.inbox.discarded_group.DiscardedGroup.{DiscardedGroup}
use Rattle.sms_handset_rows.specs.inbox.Groups.{is_among, all_numbers, mark_of, members, carried_part, part_number, part_numbers, part_tpdu, part_with, entry_part, with_part, parts_to, joined_parts, joined_content}
use Rattle.sms_handset_rows.proofs.inbox.GroupMembers.{cases_group, one_group, other_group}
use Rattle.sms_tpdu.specs.declared.carrier.Carrier.TheVariants.{InData}
use Rattle.sms_tpdu.specs.TpduReading.{down_at}
use Rattle.sms_tpdu.specs.MoreMessages.{compared}
use Rattle.sms_world_model.specs.Place.{Key, Place, place_in, has_key, number_of, carried_in}
use Rattle.sms_world_model.specs.Groups.{Groups, groups_of, groups, grouped, carried_by, parts_to as parts_of, joined_content as content_of, is_for, numbers, number_in, is_among as is_in, all_numbers as all_in}
use Rattle.sms_world_model.specs.World.{Accepted, Joined}
use Rattle.sms_world_model.proofs.GroupSteps.{others_stay}
use Rattle.sms_world_model.proofs.Places.{of_key_in}
use Rattle.sms_world_model.proofs.Rounds.{passed as is_passed, ends as is_full, goes_in}
use Rattle.sms_world.specs.handset_runs_are_steps.RefinesInbox.{Matches, RefinesGroups, groups_at, key_seen}
use Rattle.sms_world.proofs.handset_runs_are_steps.OutboxRows.{same_digits}
use Rattle.sms_world.proofs.handset_runs_are_steps.Placing.{joined_alike, with_alike}
use Rattle.sms_centre_spec.proofs.forgetting.Removed.{turn}

-- ---- one more number, one more part

pub among_push : (n m : ℕ) (ns : List ℕ) → is_among n (ns ++ m ∷ []) ≡ ((m == n) || is_among n ns)
among_push n m [] = refl
among_push n m (x ∷ xs) = ap (λ (z : Bool). (x == n) || z) (among_push n m xs) ∙ turned (x == n) (m == n) (is_among n xs)
  where
    turned : (a b c : Bool) → (a || (b || c)) ≡ (b || (a || c))
    turned true true c = refl
    turned true false c = refl
    turned false true c = refl
    turned false false c = refl

numbers_push : (e : Entry) (es : List Entry) → part_numbers (es ++ e ∷ []) ≡ part_numbers es ++ part_number e.message ∷ []
numbers_push e [] = refl
numbers_push e (x ∷ xs) = ap (λ (z : List ℕ). part_number x.message ∷ z) (numbers_push e xs)

or_left_false : (a b : Bool) → (a || b) ≡ false → a ≡ false
or_left_false true b e = absurd cc
or_left_false false b e = refl

or_right_false : (a b : Bool) → (a || b) ≡ false → b ≡ false
or_right_false true b e = absurd cc
or_right_false false b e = e

-- a part is found in the new one where no older one has its number
pub with_push : (n : ℕ) (e : Entry) (es : List Entry) → is_among (part_number e.message) (part_numbers es) ≡ false
    → part_with n (es ++ e ∷ []) ≡ cond (part_number e.message == n) (Some e) (part_with n es)
with_push n e [] f = refl
with_push n e (x ∷ xs) f =
    let k = part_number e.message in
    let j = part_number x.message in
    let other : (j == k) ≡ false = or_left_false (j == k) (is_among k (part_numbers xs)) f in
    let more : part_with n (xs ++ e ∷ []) ≡ cond (k == n) (Some e) (part_with n xs) = with_push n e xs (or_right_false (j == k) (is_among k (part_numbers xs)) f) in
    ⊎_elim
    (λ (g : k ≡ n).
    cond-false (j == n) (Some x) (part_with n (xs ++ e ∷ [])) (ne_eqb j n (λ q. eqb-false j k other (q ∙ sym g)))
    ∙ more ∙ cond-true (k == n) (Some e) (part_with n xs) (eq-eqb k n g) ∙ sym (cond-true (k == n) (Some e) (part_with n (x ∷ xs)) (eq-eqb k n g)))
    (λ (g : k ≡ n → ⊥).
    ap (λ (z : Option Entry). cond (j == n) (Some x) z) (more ∙ cond-false (k == n) (Some e) (part_with n xs) (ne_eqb k n g))
    ∙ sym (cond-false (k == n) (Some e) (part_with n (x ∷ xs)) (ne_eqb k n g)))
    (cases_eq k n)

pub numbers_alike : (t : ℕ) (xs ys : List ℕ) → ((n : ℕ) → is_among n xs ≡ is_in n ys) → all_numbers t xs ≡ all_in t ys
numbers_alike zero xs ys e = refl
numbers_alike (suc t) xs ys e = ap (λ (z : Bool). z && all_numbers t xs) (e (suc t)) ∙ ap (λ (z : Bool). is_in (suc t) ys && z) (numbers_alike t xs ys e)

-- ---- what parts join to

parts_alike : (t : ℕ) (es : List Entry) (ps : List Accepted) → ((n : ℕ) → entry_part (part_with n es) ≡ carried_by n ps) → parts_to t es ≡ parts_of t ps
parts_alike zero es ps e = refl
parts_alike (suc t) es ps e =
    ap (λ (z : Option (List PartOf)). with_part z (entry_part (part_with (suc t) es))) (parts_alike t es ps e)
    ∙ ap (λ (z : Option PartOf). with_part (parts_of t ps) z) (e (suc t)) ∙ with_alike (parts_of t ps) (carried_by (suc t) ps)

pub joins_alike : (g : Group) (es : List Entry) (ps : List Accepted) → ((n : ℕ) → entry_part (part_with n es) ≡ carried_by n ps) → joined_content g es ≡ content_of g.total ps
joins_alike g es ps e = ap (λ (z : Option (List PartOf)). joined_parts z) (parts_alike g.total es ps e) ∙ joined_alike (parts_of g.total ps)

-- ---- what one more accepted TPDU does to the groups of a key

abbrev pub pair : List ℕ → ℕ → List ℕ → Accepted
pair h r octets = record { handset = h; reference = r; tpdu = compared octets }

for_is : (h : List ℕ) (r : ℕ) (octets : List ℕ) (k : Key) → is_for h k (pair h r octets) ≡ has_key k (place_in (compared octets))
for_is h r octets k = ap (λ (z : Bool). z && has_key k (place_in (compared octets))) (same_digits h h refl)

groups_apart : (h : List ℕ) (r : ℕ) (octets : List ℕ) (accepted : List Accepted) (k : Key) → has_key k (place_in (compared octets)) ≡ false
    → groups_of h k (pair h r octets ∷ accepted) ≡ groups_of h k accepted
groups_apart h r octets accepted k f = others_stay h k (pair h r octets) accepted (for_is h r octets k ∙ f)

groups_here : (h : List ℕ) (r : ℕ) (octets : List ℕ) (accepted : List Accepted) (k : Key) → has_key k (place_in (compared octets)) ≡ true
    → groups_of h k (pair h r octets ∷ accepted) ≡ grouped k.total (pair h r octets) (groups_of h k accepted)
groups_here h r octets accepted k f = ap (λ (z : List Accepted). groups k.total z) (of_key_in h k (pair h r octets) accepted (for_is h r octets k ∙ f))

-- a part of a group
pub record Segment : Type 0 where
  pub group : Group
  pub number : ℕ

module _ (p : Accepted) (s : Segment) (seg : place_in p.tpdu ≡ Some (record { key = key_seen s.group; number = s.number })) (t : ℕ) (g : Groups) where
  number_is : number_in p ≡ s.number
  number_is = ap number_of seg

  lacks : (b : Bool) → is_in s.number (numbers g.present) ≡ b → is_in (number_in p) (numbers g.present) ≡ b
  lacks b e = ap (λ (z : ℕ). is_in z (numbers g.present)) number_is ∙ e

  pub passed : is_in s.number (numbers g.present) ≡ true → grouped t p g ≡ g
  passed e = is_passed t p g (lacks true e)

  pub entered : is_in s.number (numbers g.present) ≡ false → all_in t (numbers (p ∷ g.present)) ≡ false → grouped t p g ≡ record { present = p ∷ g.present; ended = g.ended }
  entered e f = goes_in t p g (lacks false e) f

  pub closed : is_in s.number (numbers g.present) ≡ false → all_in t (numbers (p ∷ g.present)) ≡ true → grouped t p g ≡ record { present = []; ended = (p ∷ g.present) ∷ g.ended }
  closed e f = is_full t p g (lacks false e) f

  -- the numbers after it
  pub numbers_more : (xs : List ℕ) → ((n : ℕ) → is_among n xs ≡ is_in n (numbers g.present)) → (n : ℕ) → is_among n (xs ++ s.number ∷ []) ≡ is_in n (numbers (p ∷ g.present))
  numbers_more xs e n =
      among_push n s.number xs ∙ ap (λ (z : Bool). (s.number == n) || z) (e n) ∙ ap (λ (z : ℕ). (z == n) || is_in n (numbers g.present)) (sym number_is)
      ∙ ap (λ (z : Bool). z || is_in n (numbers g.present)) (turn (number_in p) n)

  module _ (ms : List Entry) (e : Entry) (part : part_number e.message ≡ s.number) (text : carried_part (down_at InData (part_tpdu e.message)) ≡ carried_in p.tpdu) (m : Matches ms None g) (new : is_among s.number (part_numbers ms) ≡ false) where
    pub parts_more : (n : ℕ) → is_among n (part_numbers (ms ++ e ∷ [])) ≡ is_in n (numbers (p ∷ g.present))
    parts_more n =
        ap (λ (z : List ℕ). is_among n z) (numbers_push e ms ∙ ap (λ (z : ℕ). part_numbers ms ++ z ∷ []) part) ∙ numbers_more (part_numbers ms) m.parts n

    found : (b : Bool) (n : ℕ) → entry_part (part_with n ms) ≡ carried_by n g.present → entry_part (cond b (Some e) (part_with n ms)) ≡ cond b (carried_in p.tpdu) (carried_by n g.present)
    found true n q = text
    found false n q = q

    pub texts_more : (n : ℕ) → entry_part (part_with n (ms ++ e ∷ [])) ≡ carried_by n (p ∷ g.present)
    texts_more n =
        ap (λ (z : Option Entry). entry_part z) (with_push n e ms (ap (λ (z : ℕ). is_among z (part_numbers ms)) part ∙ new))
        ∙ found (part_number e.message == n) n (m.texts refl n)
        ∙ ap (λ (z : ℕ). cond (z == n) (carried_in p.tpdu) (carried_by n g.present)) (part ∙ sym number_is)

    -- one more part of the open group
    pub matches_more : Matches (ms ++ e ∷ []) None (record { present = p ∷ g.present; ended = g.ended })
    matches_more = record { parts = parts_more; texts = λ q. texts_more }

  -- nothing is left of it
  pub matches_none : Matches [] None (record { present = []; ended = (p ∷ g.present) ∷ g.ended })
  matches_none = record { parts = λ n. refl; texts = λ q n. refl }

  -- one more number of the discarded group
  pub matches_mark : (ms : List Entry) (k : DiscardedGroup) → Matches ms (Some k) g → Matches ms (Some (record k { seen = k.seen ++ s.number ∷ [] })) (record { present = p ∷ g.present; ended = g.ended })
  matches_mark ms k m = record { parts = numbers_more k.seen m.parts; texts = λ q. absurd cc }

-- ---- the groups after one more accepted TPDU

ended_step : (t : ℕ) (p : Accepted) (g : Groups) → length g.ended ≤ length (grouped t p g).ended
ended_step t p g =
    cond_both (is_in (number_in p) (numbers g.present)) g
    (cond (all_in t (numbers (p ∷ g.present))) (record { present = []; ended = (p ∷ g.present) ∷ g.ended }) (record { present = p ∷ g.present; ended = g.ended }))
    (λ (z : Groups). length g.ended ≤ length z.ended)
    (λ e. omega arith)
    (λ e. cond_both (all_in t (numbers (p ∷ g.present))) (record { present = []; ended = (p ∷ g.present) ∷ g.ended }) (record { present = p ∷ g.present; ended = g.ended })
    (λ (z : Groups). length g.ended ≤ length z.ended) (λ f. let q : length ((p ∷ g.present) ∷ g.ended) ≡ suc (length g.ended) = refl in omega arith) (λ f. omega arith))

ended_grows : (h : List ℕ) (r : ℕ) (octets : List ℕ) (accepted : List Accepted) (k : Key) → length (groups_of h k accepted).ended ≤ length (groups_of h k (pair h r octets ∷ accepted)).ended
ended_grows h r octets accepted k =
    ⊎_elim
    (λ (t : has_key k (place_in (compared octets)) ≡ true).
    subst (λ (z : Groups). length (groups_of h k accepted).ended ≤ length z.ended) (sym (groups_here h r octets accepted k t)) (ended_step k.total (pair h r octets) (groups_of h k accepted)))
    (λ (f : has_key k (place_in (compared octets)) ≡ false).
    subst (λ (z : Groups). length (groups_of h k accepted).ended ≤ length z.ended) (sym (groups_apart h r octets accepted k f)) (let l : length (groups_of h k accepted).ended ≤ length (groups_of h k accepted).ended = omega arith in l))
    (cases_Bool (has_key k (place_in (compared octets))))

pub places_more : (h : List ℕ) (r : ℕ) (octets : List ℕ) (accepted : List Accepted) (joined : List Joined)
    → ((j : Joined) → Among j joined → j.handset ≡ h → j.place < length (groups_of h j.key accepted).ended)
    → (j : Joined) → Among j joined → j.handset ≡ h → j.place < length (groups_of h j.key (pair h r octets ∷ accepted)).ended
places_more h r octets accepted joined f j i e = let x = f j i e in let y = ended_grows h r octets accepted j.key in omega arith

-- the groups of no key change, and neither do the members of any
pub groups_preserved : (h : List ℕ) (r : ℕ) (octets : List ℕ) (es fs : List Entry) (ms : List DiscardedGroup) (accepted : List Accepted) (joined : List Joined) → RefinesGroups h es ms accepted joined
    → ((k : Group) → groups_at h k (pair h r octets ∷ accepted) ≡ groups_at h k accepted) → ((k : Group) → members k fs ≡ members k es) → RefinesGroups h fs ms (pair h r octets ∷ accepted) joined
groups_preserved h r octets es fs ms accepted joined s same own = record {
  keys = λ k. subst (λ (z : Groups). Matches (members k fs) (mark_of k ms) z) (sym (same k))
      (subst (λ (z : List Entry). Matches z (mark_of k ms) (groups_at h k accepted)) (sym (own k)) (s.keys k));
  places = places_more h r octets accepted joined s.places;
}

pub unkeyed : (h : List ℕ) (r : ℕ) (octets : List ℕ) (accepted : List Accepted) → place_in (compared octets) ≡ None → (k : Group) → groups_at h k (pair h r octets ∷ accepted) ≡ groups_at h k accepted
unkeyed h r octets accepted seg k = groups_apart h r octets accepted (key_seen k) (ap (λ (z : Option Place). has_key (key_seen k) z) seg)

module _ (h : List ℕ) (r : ℕ) (octets : List ℕ) (seg : Segment) (is_seg : place_in (compared octets) ≡ Some (record { key = key_seen seg.group; number = seg.number })) (accepted : List Accepted) where
  pub here : groups_at h seg.group (pair h r octets ∷ accepted) ≡ grouped seg.group.total (pair h r octets) (groups_at h seg.group accepted)
  here = groups_here h r octets accepted (key_seen seg.group) (ap (λ (z : Option Place). has_key (key_seen seg.group) z) is_seg ∙ one_group seg.group)

  pub elsewhere : (k : Group) → ¬ (seg.group ≡ k) → groups_at h k (pair h r octets ∷ accepted) ≡ groups_at h k accepted
  elsewhere k ne = groups_apart h r octets accepted (key_seen k) (ap (λ (z : Option Place). has_key (key_seen k) z) is_seg ∙ other_group seg.group k ne)

  -- the number stands in the present group
  pub passing : is_in seg.number (numbers (groups_at h seg.group accepted).present) ≡ true → (k : Group) → groups_at h k (pair h r octets ∷ accepted) ≡ groups_at h k accepted
  passing t k =
      ⊎_elim
      (λ (e : seg.group ≡ k). subst (λ (z : Group). groups_at h z (pair h r octets ∷ accepted) ≡ groups_at h z accepted) e
      (here ∙ passed (pair h r octets) seg is_seg seg.group.total (groups_at h seg.group accepted) t))
      (λ (e : seg.group ≡ k → ⊥). elsewhere k e)
      (cases_group seg.group k)

  -- one group changes, the others keep their members and marks
  pub by_group : (es fs : List Entry) (ms ns : List DiscardedGroup) → ((k : Group) → Matches (members k es) (mark_of k ms) (groups_at h k accepted))
      → Matches (members seg.group fs) (mark_of seg.group ns) (groups_at h seg.group (pair h r octets ∷ accepted))
      → ((k : Group) → ¬ (seg.group ≡ k) → members k fs ≡ members k es) → ((k : Group) → ¬ (seg.group ≡ k) → mark_of k ns ≡ mark_of k ms)
      → (k : Group) → Matches (members k fs) (mark_of k ns) (groups_at h k (pair h r octets ∷ accepted))
  by_group es fs ms ns before at own marks k =
      ⊎_elim
      (λ (e : seg.group ≡ k). subst (λ (z : Group). Matches (members z fs) (mark_of z ns) (groups_at h z (pair h r octets ∷ accepted))) e at)
      (λ (e : seg.group ≡ k → ⊥).
      subst (λ (z : Groups). Matches (members k fs) (mark_of k ns) z) (sym (elsewhere k e))
      (subst (λ (z : List Entry). Matches z (mark_of k ns) (groups_at h k accepted)) (sym (own k e))
      (subst (λ (z : Option DiscardedGroup). Matches (members k es) z (groups_at h k accepted)) (sym (marks k e)) (before k))))
      (cases_group seg.group k)
