-- What is joined with a part of a long message that was submitted at once is joined with its other parts alone.
use Rattle.std.proofs.Common.{◌≡◌, ℕ, zero, suc, ◌<◌, ◌≤◌, arith, List, length, refl, sym, ◌∙◌, ap, subst, ⊎_elim, Option, Some, None}
use Rattle.std.proofs.lemmas.Bool.{cases_eq}
use Rattle.std.proofs.lemmas.Option.{same_Some}
use Rattle.sms_base.proofs.Lists.{item_at}
use Rattle.sms_base.specs.Among.{Among}
use Rattle.sms_base.specs.declared.holder.Holder.TheVariants.{Part}
use Rattle.sms_centre_rows.specs.messages.Messages.{message_at, message_key, part_at, part_key}
use Rattle.sms_centre_rows.specs.declared.messages.message.MessageRow.{MessageRow}
use Rattle.sms_centre_rows.specs.declared.messages.part.PartRow.{PartRow}
use Rattle.sms_rows.specs.table.Keys.{pair_key}
use Rattle.sms_rows.proofs.table.KeyLaws.{pairs_apart}
use Rattle.sms_rows.proofs.table.Tables.{among_found, found_among, found_key}
use Rattle.sms_tpdu.specs.MoreMessages.{compared}
use Rattle.sms_tpdu.specs.declared.user_data.UserData.{UserData}
use Rattle.sms_play.specs.PlayState.{PlayState}
use Rattle.sms_world_model.specs.Place.{Key, place_in, place_submitted}
use Rattle.sms_world_model.specs.SplitMessages.{IsOf, IsSplit}
use Rattle.sms_world_model.specs.Submission.{HasPart, Submission, part_at as user_data_at}
use Rattle.sms_world_model.specs.World.{Accepted, Allocation, IsRecorded, State, World, pair_given}
use Rattle.sms_world_model.proofs.Alike.{place_alike}
use Rattle.sms_world_model.proofs.Faithful.{part_within}
use Rattle.sms_world_model.proofs.Keys.{bounds, is_for_place, number_placed, place_of_part}
use Rattle.sms_world_model.proofs.Sound.{IsKnown, IsSound}
use Rattle.sms_world_model.proofs.Tables.{same_message}
use Rattle.sms_world.proofs.centres_refine_the_world.ByOctets.{by_octet_is, by_octet_some}
use Rattle.sms_world.specs.centres_refine_the_world.RefinesGiven.{given_part}
use Rattle.sms_world.specs.headline.SeenWorld.{IsRowOf, PartSeen, part_seen, parts_by}
use Rattle.sms_world.specs.headline.Claims.{pair_in_row, IsLongMessage}
use Rattle.sms_world.proofs.scripts_are_runs.Agreeing.{sound_there}
use Rattle.sms_world.specs.scripts_are_runs.PlayRefinement.{PlayRefines}
use Rattle.sms_world.proofs.SeenParts.{small, seen_of, none_seen}

row_seen : (o : Option PartRow) (x : PartSeen) → part_seen o ≡ Some x → (p : PartRow) × ((o ≡ Some p) × (seen_of p ≡ x))
row_seen None x e = absurd (none_seen x e)
row_seen (Some p) x e = (p, (refl, same_Some (seen_of p) x e))

last_part : (n : ℕ) (xs : List UserData) → n ≡ length xs → 0 < n → (x : UserData) × (user_data_at n xs ≡ Some x)
last_part zero xs e l = absurd (omega (arith, l))
last_part (suc n) xs e l = item_at xs n (omega (arith, e))

pub as_many : (a b : ℕ) → a ≤ b → b ≤ a → a ≡ b
as_many a b l m = omega (arith, l, m)

none_or_some : (n : ℕ) → ¬ (n ≡ 0) → 0 < n
none_or_some n ne = omega (arith, ne)

not_above : (a b : ℕ) → a ≡ 0 → a ≤ b
not_above a b e = omega (arith, e)

module _ (c : PlayState) (w : World) (s : PlayRefines c w) where
  sound : IsSound w
  sound = sound_there w s.reached

  -- a part's row, by the number of its message and its own
  row_of : (id n : ℕ) (x : PartSeen) → parts_by c.centre.rows.parts id n ≡ Some x → (p : PartRow) × (Among p c.centre.rows.parts × (p.id ≡ id) × (p.number ≡ n) × (seen_of p ≡ x))
  row_of id n x e =
      let octet = by_octet_some n (part_seen (part_at id n c.centre.rows.parts)) x e in
      let row = row_seen (part_at id n c.centre.rows.parts) x octet.1 in
      let there : Among row.0 c.centre.rows.parts = found_among part_key (pair_key id n) row.0 c.centre.rows.parts row.1.0 in
      let key : pair_key row.0.id row.0.number ≡ pair_key id n = found_key part_key (pair_key id n) row.0 c.centre.rows.parts row.1.0 in
      let own = pairs_apart row.0.id id row.0.number n (small row.0.number ((s.sound.rows.messages.each_part row.0 there).few)) octet.0 key in
      (row.0, (there, own.0, own.1, row.1.1))

  seen_at : (id : ℕ) (p : PartRow) → Among p c.centre.rows.parts → p.id ≡ id → parts_by c.centre.rows.parts id p.number ≡ Some (seen_of p)
  seen_at id p i e =
      let at : part_at id p.number c.centre.rows.parts ≡ Some p = subst (λ (z : ℕ). part_at z p.number c.centre.rows.parts ≡ Some p) e (among_found part_key p c.centre.rows.parts s.sound.rows.messages.part_keys i) in
      by_octet_is p.number (part_seen (part_at id p.number c.centre.rows.parts)) (small p.number ((s.sound.rows.messages.each_part p i).few)) ∙ ap part_seen at

  module _ (m : MessageRow) (i : Among m c.centre.rows.messages) (key : Key) (long : IsLongMessage c m key) where
    there : message_at m.id c.centre.rows.messages ≡ Some m
    there = among_found message_key m c.centre.rows.messages s.sound.rows.messages.message_keys i

    -- a part's pair was given to it
    allocation_of : (p : PartRow) → Among p c.centre.rows.parts → p.id ≡ m.id → (g : Allocation) × (Among g w.down × (g.holder ≡ Part m.id p.number) × (pair_given g ≡ pair_in_row m p))
    allocation_of p j e = let g = s.centre.rows.holders.part m.id p.number m (seen_of p) there (seen_at m.id p j e) in (given_part m p.number (seen_of p) g.0, (g.1, refl, refl))

    module _ (u : Submission) (st : State) (stands : IsRecorded w.table m.id u st) (is : IsRowOf m u)
        (rows : (n : ℕ) (x : PartSeen) → parts_by c.centre.rows.parts m.id n ≡ Some x → (part : UserData) × HasPart u n part)
        (only : (n : ℕ) (part : UserData) → HasPart u n part → (x : PartSeen) × (parts_by c.centre.rows.parts m.id n ≡ Some x)) where
      -- each part stands at its place
      placed_part : (n : ℕ) (part : UserData) → HasPart u n part → place_submitted u part ≡ Some (record { key = key; number = n })
      placed_part n part has =
          let x = only n part has in
          let row = row_of m.id n x.0 x.1 in
          let p : PartRow = row.0 in
          let g = allocation_of p row.1.0 row.1.1 in
          let known : IsKnown w.table w.receipts g.0 (Part m.id p.number) = subst (IsKnown w.table w.receipts g.0) g.1.1 (sound.known g.0 g.1.0) in
          let mine : known.0 ≡ u = (same_message w.table m.id known.0 u known.1 st known.2.0 stands).0 in
          let his : HasPart u n known.2.1.0 = subst (λ (z : Submission × ℕ). HasPart z.0 z.1 known.2.1.0) (λ j. (mine j, row.1.2 j)) known.2.1.1.0 in
          let part_is : known.2.1.0 ≡ part = (let both : Some known.2.1.0 ≡ Some part = sym his ∙ has in cc) in
          let place : place_in g.0.tpdu ≡ place_submitted known.0 known.2.1.0 = place_of_part known.0 known.2.1.0 g.0.moment g.0.tpdu known.2.1.1.1 in
          let octets : g.0.tpdu ≡ compared p.tpdu = ap (λ (z : Accepted). z.tpdu) g.1.2 in
          sym (λ j. place_submitted (mine j) (part_is j)) ∙ sym place ∙ ap (λ (z : List ℕ). place_in z) octets ∙ place_alike p.tpdu ∙ long.placed p row.1.0 row.1.1
          ∙ (λ j. Some (record { key = key; number = row.1.2 j }))

      -- there are as many as the key says
      at_most : length u.parts ≤ key.total
      at_most = ⊎_elim
          (λ (e : length u.parts ≡ 0). not_above (length u.parts) key.total e)
          (λ (ne : length u.parts ≡ 0 → ⊥).
          let n : ℕ = length u.parts in
          let last = last_part n u.parts refl (none_or_some n ne) in
          let x = only n last.0 last.1 in
          let row = row_of m.id n x.0 x.1 in
          let p : PartRow = row.0 in
          let place : place_in (compared p.tpdu) ≡ Some (record { key = key; number = p.number }) = place_alike p.tpdu ∙ long.placed p row.1.0 row.1.1 in
          let inside = bounds m.handset key (pair_in_row m p) (is_for_place m.handset key p.number (pair_in_row m p) refl place) in
          let number = number_placed (pair_in_row m p) key p.number place in
          let own = row.1.2 in
          let high = inside.2 in
          subst (λ (k : ℕ). k ≤ key.total) (number ∙ own) high)
          (cases_eq (length u.parts) 0)

      at_least : key.total ≤ length u.parts
      at_least = ⊎_elim
          (λ (e : key.total ≡ 0). not_above key.total (length u.parts) e)
          (λ (ne : key.total ≡ 0 → ⊥).
          let p = long.each key.total (none_or_some key.total ne) (omega arith) in
          let x = rows p.0.number (seen_of p.0) (seen_at m.id p.0 p.1.0 p.1.1) in
          subst (λ (k : ℕ). k ≤ length u.parts) p.1.2 (part_within u.parts p.0.number x.0 x.1).1)
          (cases_eq key.total 0)

      split : IsSplit u key
      split = (as_many (length u.parts) key.total at_most at_least, placed_part)

    -- a pair that is one of its parts' is that of a part's row
    part_row : (y : Accepted) → IsOf w.down m.id y → (x : PartRow) × (Among x c.centre.rows.parts × (x.id ≡ m.id) × (y ≡ pair_in_row m x))
    part_row y (g, n, of) =
        let a = s.centre.rows.holders.of_part g m.id n of.0 of.1 in
        let both : Some a.0 ≡ Some m = sym a.2.0 ∙ there in
        let mine : a.0 ≡ m = cc in
        let row = row_of m.id n a.1 a.2.1 in
        let is_part : a.1 ≡ seen_of row.0 = sym row.1.3 in (
          row.0,
          (
            row.1.0,
            row.1.1,
            of.2 ∙ ap pair_given a.2.2 ∙ (λ j. record { handset = (mine j).handset; reference = (is_part j).reference; tpdu = (is_part j).tpdu }),
          ),
        )

    -- so it is a message that was split, in the world
    pub long_split : (u : Submission) × (st : State) × (IsRecorded w.table u.id u st × IsSplit u key × (u.handset ≡ m.handset)
        × ((p : PartRow) → Among p c.centre.rows.parts → p.id ≡ m.id → IsOf w.down u.id (pair_in_row m p))
        × ((y : Accepted) → IsOf w.down u.id y → (x : PartRow) × (Among x c.centre.rows.parts × (x.id ≡ m.id) × (y ≡ pair_in_row m x))))
    long_split =
        let t = s.centre.rows.table.there m.id m there in
        let u : Submission = t.0 in
        let id : u.id ≡ m.id = t.2.1.id in (
          u,
          t.1,
          (
            subst (λ (k : ℕ). IsRecorded w.table k u t.1) (sym id) t.2.0,
            split u t.1 t.2.0 t.2.1 t.2.3.there t.2.3.only,
            t.2.1.handset,
            λ p j e. let g = allocation_of p j e in (g.0, p.number, (g.1.0, g.1.1 ∙ ap (λ (k : ℕ). Part k p.number) (sym id), sym g.1.2)),
            λ y of. part_row y (subst (λ (k : ℕ). IsOf w.down k y) id of),
          ),
        )
