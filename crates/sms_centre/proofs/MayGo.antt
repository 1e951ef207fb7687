-- What a centre asks of a message before it forgets it, by the definition's words.
use Rattle.std.proofs.Common.{◌≡◌, ℕ, zero, suc, ◌+◌, ◌-◌, List, [], ◌∷◌, ◌++◌, drop, add-one, Bool, true, false, Option, Some, None, refl, sym, ◌∙◌, ap, subst, inl, inr, ⊎_elim, arith}
use Rattle.std.specs.Prelude.{◌⊎◌, ◌==◌, ◌||◌, slice_get, if◌then◌else◌}
use Rattle.std.proofs.lemmas.Bool.{cases_Bool, eqb-true, or_left, or_right}
use Rattle.sms_base.proofs.Bools.{same_bool}
use Rattle.sms_base.specs.Among.{Among}
use Rattle.sms_base.specs.declared.carried.Carried.{Carried}
use Rattle.sms_base.specs.declared.holder.Holder.{Holder}
use Rattle.sms_base.specs.declared.holder.Holder.TheVariants.{Part, Report, Entry, Memory}
use Rattle.sms_base.specs.Msisdn.{IsMsisdn}
use Rattle.sms_rows.specs.table.Table.{Rises}
use Rattle.sms_rows.proofs.table.Tables.{among_found}
use Rattle.sms_centre_rows.specs.declared.messages.message.MessageRow.{MessageRow}
use Rattle.sms_centre_rows.specs.declared.waiting.handset_link.HandsetLink.{HandsetLink}
use Rattle.sms_centre_rows.specs.messages.Messages.{message_at, message_key}
use Rattle.sms_centre_rows.specs.messages.PartEntries.{Few}
use Rattle.sms_centre_rows.specs.waiting.Links.{link_at, link_of, or_new_link_to}
use Rattle.sms_centre_spec.specs.Draft.{Core}
use Rattle.sms_centre_spec.specs.SoundCore.{IsSentFor, IsSoundCore, IsUnderWay}
use Rattle.sms_centre_spec.specs.forgetting.Forget.{is_carried, is_held_for, is_on_way}
use Rattle.sms_centre_spec.specs.forgetting.Forgetting.{going}
use Rattle.sms_centre_spec.proofs.SoundLinks.{link_found, link_none}
use Rattle.sms_centre_spec.proofs.forgetting.Now.{on_way_there}
use Rattle.sms_centre_draft.proofs.walks.LinksStay.{link_own}
use Rattle.sms_centre.specs.Forgetting.{gone_at}

pub few_parts : (c : Core) → IsSoundCore c → Few c.rows.parts
few_parts c s = record { keys = s.rows.messages.part_keys; numbers = λ p a. let i = s.rows.messages.each_part p a in (i.first, i.few) }

-- ---- whether it is under way

module _ (c : Core) (s : IsSoundCore c) (m : MessageRow) (there : message_at m.id c.rows.messages ≡ Some m) where
  abbrev carried_to : List ℕ → Bool
  carried_to number = is_carried m.id (link_of number c.links).near_end.under_way

  -- a link that is there carries it
  on_link : (number : List ℕ) → carried_to number ≡ true → is_on_way m.id c.links ≡ true
  on_link number e = by (link_at number c.links) refl e
    where
      by : (o : Option HandsetLink) → link_at number c.links ≡ o → is_carried m.id (or_new_link_to number o).near_end.under_way ≡ true → is_on_way m.id c.links ≡ true
      by None q f = let bad : false ≡ true = f in absurd cc
      by (Some l) q f = on_way_there m.id l c.links (link_found number l c.links q).0 f

  record OnLink : Type 0 where
    link : HandsetLink
    among : Among link c.links
    carried : is_carried m.id link.near_end.under_way ≡ true

  found_link : (ls : List HandsetLink) → ((l : HandsetLink) → Among l ls → Among l c.links) → is_on_way m.id ls ≡ true → OnLink
  found_link [] all e = let bad : false ≡ true = e in absurd cc
  found_link (l ∷ ls) all e = ⊎_elim
      (λ (t : is_carried m.id l.near_end.under_way ≡ true). record { link = l; among = all l (inl refl); carried = t })
      (λ (t : is_carried m.id l.near_end.under_way ≡ false).
      found_link ls (λ x a. all x (inr a)) (sym (ap (λ (b : Bool). b || is_on_way m.id ls) t) ∙ e))
      (cases_Bool (is_carried m.id l.near_end.under_way))

  own_message : (w : MessageRow) (n : ℕ) → (n == m.id) ≡ true → message_at n c.rows.messages ≡ Some w → w ≡ m
  own_message w n e found =
      let same : Some w ≡ Some m = sym found ∙ ap (λ (k : ℕ). message_at k c.rows.messages) (eqb-true n m.id e) ∙ there in cc

  for_it : (handset : List ℕ) (reference : ℕ) (tag : Holder) → is_held_for m.id tag ≡ true → IsSentFor handset reference tag c.rows → (m.handset ≡ handset) ⊎ (m.source.digits ≡ handset)
  for_it handset reference (Part n number) e (p, (w, i)) = let same : w ≡ m = own_message w n e i.2 in inl (ap (λ (x : MessageRow). x.handset) (sym same) ∙ i.3)
  for_it handset reference (Report n) e (r, (w, (tpdu, i))) = let same : w ≡ m = own_message w n e i.2 in inr (ap (λ (x : MessageRow). x.source.digits) (sym same) ∙ i.3)
  for_it handset reference (Entry n) e i = let bad : false ≡ true = e in absurd cc
  for_it handset reference (Memory n) e i = let bad : false ≡ true = e in absurd cc

  for_link : (handset : List ℕ) (o : Option Carried) → is_carried m.id o ≡ true → IsUnderWay handset o c.rows → (m.handset ≡ handset) ⊎ (m.source.digits ≡ handset)
  for_link handset None e i = let bad : false ≡ true = e in absurd cc
  for_link handset (Some t) e i = for_it handset t.reference t.tag e i.1

  pub way_by_ends : (carried_to m.handset || carried_to m.source.digits) ≡ is_on_way m.id c.links
  way_by_ends = same_bool (carried_to m.handset || carried_to m.source.digits) (is_on_way m.id c.links)
      (λ e. ⊎_elim
      (λ (t : carried_to m.handset ≡ true). on_link m.handset t)
      (λ (t : carried_to m.handset ≡ false). on_link m.source.digits (sym (ap (λ (b : Bool). b || carried_to m.source.digits) t) ∙ e))
      (cases_Bool (carried_to m.handset)))
      (λ e.
      let f = found_link c.links (λ l a. a) e in
      let l : HandsetLink = f.link in
      let own : link_of l.handset c.links ≡ l = link_own l c.links s.apart f.among in
      let carried : carried_to l.handset ≡ true = ap (λ (x : HandsetLink). is_carried m.id x.near_end.under_way) own ∙ f.carried in
      ⊎_elim
      (λ (q : m.handset ≡ l.handset). or_left (carried_to m.handset) (carried_to m.source.digits) (ap (λ (n : List ℕ). carried_to n) q ∙ carried))
      (λ (q : m.source.digits ≡ l.handset). or_right (carried_to m.handset) (carried_to m.source.digits) (ap (λ (n : List ℕ). carried_to n) q ∙ carried))
      (for_link l.handset l.near_end.under_way f.carried (s.each_link l f.among).under_way))

-- what is no number has no link
pub no_link : (id : ℕ) (number : List ℕ) (links : List HandsetLink) → ((l : HandsetLink) → Among l links → IsMsisdn l.handset) → (IsMsisdn number → ⊥)
    → false ≡ is_carried id (link_of number links).near_end.under_way
no_link id number links digits none =
    sym (ap (λ (o : Option HandsetLink). is_carried id (or_new_link_to number o).near_end.under_way)
    (link_none number links (λ x a e. none (subst (λ (n : List ℕ). IsMsisdn n) e (digits x a)))))

-- ---- one message more is looked at

pub going_more : (goes : MessageRow → Bool) (n : ℕ) (ms : List MessageRow) → going goes (n + 1) ms ≡ going goes n ms ++ gone_at goes (slice_get ms n)
going_more goes n ms = ap (λ (k : ℕ). going goes k ms) (add-one n) ∙ next n ms
  where
    next : (k : ℕ) (xs : List MessageRow) → going goes (suc k) xs ≡ going goes k xs ++ gone_at goes (slice_get xs k)
    next zero [] = refl
    next zero (m ∷ xs) = refl
    next (suc k) [] = refl
    next (suc k) (m ∷ xs) = by (goes m) (next k xs) where
      by : (b : Bool) → going goes (suc k) xs ≡ going goes k xs ++ gone_at goes (slice_get xs k)
          → (if b then m.id ∷ going goes (suc k) xs else going goes (suc k) xs) ≡ (if b then m.id ∷ going goes k xs else going goes k xs) ++ gone_at goes (slice_get xs k)
      by true e = ap (λ (l : List ℕ). m.id ∷ l) e
      by false e = e

pub behind_start : (start n : ℕ) (ms : List MessageRow) → slice_get (drop start ms) n ≡ slice_get ms (start + n)
behind_start zero n ms = ap (λ (k : ℕ). slice_get ms k) (let e : n ≡ 0 + n = omega arith in e)
behind_start (suc start) n [] = refl
behind_start (suc start) n (m ∷ ms) =
    behind_start start n ms ∙ ap (λ (k : ℕ). slice_get (m ∷ ms) k) (let e : suc (start + n) ≡ suc start + n = omega arith in e)

got_among : (ms : List MessageRow) (n : ℕ) (m : MessageRow) → slice_get ms n ≡ Some m → Among m ms
got_among [] n m e = absurd cc
got_among (x ∷ xs) zero m e = let same : x ≡ m = cc in inl (sym same)
got_among (x ∷ xs) (suc n) m e = inr (got_among xs n m e)

pub got_found : (ms : List MessageRow) (n : ℕ) (m : MessageRow) → Rises message_key ms → slice_get ms n ≡ Some m → message_at m.id ms ≡ Some m
got_found ms n m rises e = among_found message_key m ms rises (got_among ms n m e)
