-- The parts of a message stay what they are.
use Rattle.std.proofs.Common.{◌≡◌, inl, inr, ℕ, suc, ◌+◌, ◌*◌, ◌<◌, List, [], ◌∷◌, length, Option, Some, refl, sym, ◌∙◌, ap, subst, ⊎_elim, arith}
use Rattle.std.specs.Prelude.{◌==◌}
use Rattle.std.specs.Option.{option_map}
use Rattle.std.proofs.lemmas.Bool.{cases_eq, cond_both}
use Rattle.std.proofs.lemmas.Option.{slice_get_within}
use Rattle.sms_base.specs.Among.{Among}
use Rattle.sms_concat.specs.declared.content.Content.{Content}
use Rattle.sms_rows.specs.table.Keys.{pair_key}
use Rattle.sms_rows.specs.table.Table.{put}
use Rattle.sms_rows.proofs.table.Tables.{among_put, row_at_put_other}
use Rattle.sms_centre_rows.specs.declared.messages.message.MessageRow.{MessageRow}
use Rattle.sms_centre_rows.specs.declared.messages.part.PartRow.{PartRow}
use Rattle.sms_centre_rows.specs.messages.Messages.{part_at, part_key, part_reaching}
use Rattle.sms_centre_rows.specs.declared.waiting.progress.Progress.{Progress}
use Rattle.sms_centre_rows.specs.waiting.Revisions.{amended}
use Rattle.sms_centre_rows.proofs.waiting.Amending.{row_at_amended, row_at_amended_other}
use Rattle.sms_world_model.specs.Place.{carried_in, Place, place_in}
use Rattle.sms_world.specs.headline.SplitClaims.{IsSplitOf, IsSplitUnder, split_key}

-- The parts of that message have the same numbers and octets.
pub record SameParts (id : ℕ) (ps qs : List PartRow) : Type 0 where
  pub there : (n : ℕ) (p : PartRow) → n < 256 → part_at id n ps ≡ Some p → (q : PartRow) × ((part_at id n qs ≡ Some q) × (q.tpdu ≡ p.tpdu))
  pub only : (q : PartRow) → Among q qs → q.id ≡ id → (p : PartRow) × (Among p ps × (p.id ≡ q.id) × (p.number ≡ q.number) × (p.tpdu ≡ q.tpdu))

pub same_parts : (id : ℕ) (ps : List PartRow) → SameParts id ps ps
same_parts id ps = record { there = λ n p few e. (p, (e, refl)); only = λ q a e. (q, (a, refl, refl, refl)) }

pub same_then : (id : ℕ) (ps qs rs : List PartRow) → SameParts id ps qs → SameParts id qs rs → SameParts id ps rs
same_then id ps qs rs a b = record {
  there = λ n p few e.
      let x = a.there n p few e in
      let y = b.there n x.0 few x.1.0 in
      (y.0, (y.1.0, y.1.1 ∙ x.1.1));
  only = λ r i e.
      let y = b.only r i e in
      let x = a.only y.0 y.1.0 (y.1.1 ∙ e) in
      (x.0, (x.1.0, x.1.1 ∙ y.1.1, x.1.2 ∙ y.1.2, x.1.3 ∙ y.1.3));
}

-- ---- a part is so far

among_amended : (n : ℕ) (q : Progress) (y : PartRow) (ps : List PartRow) → Among y (amended part_key part_reaching n q ps) → (x : PartRow) × (Among x ps × (x.id ≡ y.id) × (x.number ≡ y.number) × (x.tpdu ≡ y.tpdu))
among_amended n q y [] i = absurd i
among_amended n q y (x ∷ ps) i = ⊎_elim
    (λ e. (
      x,
      (
        inl refl,
        sym (ap (λ (z : PartRow). z.id) e ∙ cond_both (part_key x == n) (part_reaching q x) x (λ (z : PartRow). z.id ≡ x.id) (λ t. refl) (λ t. refl)),
        sym (ap (λ (z : PartRow). z.number) e ∙ cond_both (part_key x == n) (part_reaching q x) x (λ (z : PartRow). z.number ≡ x.number) (λ t. refl) (λ t. refl)),
        sym (ap (λ (z : PartRow). z.tpdu) e ∙ cond_both (part_key x == n) (part_reaching q x) x (λ (z : PartRow). z.tpdu ≡ x.tpdu) (λ t. refl) (λ t. refl)),
      ),
    ))
    (λ j. let k = among_amended n q y ps j in (k.0, (inr k.1.0, k.1.1, k.1.2, k.1.3)))
    i

pub same_amended : (id k : ℕ) (q : Progress) (ps : List PartRow) → SameParts id ps (amended part_key part_reaching k q ps)
same_amended id k q ps = record {
  there = λ n p few e. ⊎_elim
      (λ (same : k ≡ pair_key id n).
      let found : (x : PartRow) × ((part_at id n (amended part_key part_reaching k q ps) ≡ Some x) × (x.tpdu ≡ p.tpdu)) = (
        part_reaching q p,
        (
          subst (λ (m : ℕ). part_at id n (amended part_key part_reaching m q ps) ≡ Some (part_reaching q p)) (sym same)
              (row_at_amended part_key part_reaching (λ y z. refl) (pair_key id n) q ps ∙ ap (λ (o : Option PartRow). option_map (part_reaching q) o) e),
          refl,
        ),
      ) in found)
      (λ (ne : k ≡ pair_key id n → ⊥).
      let found : (x : PartRow) × ((part_at id n (amended part_key part_reaching k q ps) ≡ Some x) × (x.tpdu ≡ p.tpdu)) =
      (p, (row_at_amended_other part_key part_reaching (λ y z. refl) (pair_key id n) k q ps ne ∙ e, refl)) in found)
      (cases_eq k (pair_key id n));
  only = λ y i e. among_amended k q y ps i;
}

-- ---- a part of another message comes

pub same_put : (id : ℕ) (p : PartRow) (ps : List PartRow) → ¬ (p.id ≡ id) → p.number < 256 → SameParts id ps (put part_key p ps)
same_put id p ps apart few = record {
  there = λ n x small e. (x, (row_at_put_other part_key (pair_key id n) p ps (λ key. apart (alike n small key)) ∙ e, refl));
  only = λ y i e. ⊎_elim
      (λ (q : y ≡ p). absurd (apart (ap (λ (z : PartRow). z.id) (sym q) ∙ e)))
      (λ (o : Among y ps × ¬ (part_key y ≡ part_key p)).
      let found : (x : PartRow) × (Among x ps × (x.id ≡ y.id) × (x.number ≡ y.number) × (x.tpdu ≡ y.tpdu)) = (y, (o.0, refl, refl, refl)) in found)
      (among_put part_key y p ps i);
}
  where
    alike : (n : ℕ) → n < 256 → 256 * p.id + p.number ≡ 256 * id + n → p.id ≡ id
    alike n small key = omega (arith, key, small, few)

-- ---- so a message that was split stays whole

pub under_stays : (m w : MessageRow) (reference total : ℕ) (ps qs : List PartRow) → w.id ≡ m.id → w.source ≡ m.source → IsSplitUnder m reference total ps → SameParts m.id ps qs → IsSplitUnder w reference total qs
under_stays m w reference total ps qs id source u same = record {
  few = u.few;
  each = λ n some within.
      let p = u.each n some within in
      let q = same.there n p.0 (let f = u.few in omega (arith, f, within)) p.1 in
      (q.0, ap (λ (i : ℕ). part_at i n qs) id ∙ q.1.0);
  placed = λ q i e.
      let p = same.only q i (e ∙ id) in
      ap (λ (t : List ℕ). place_in t) (sym p.1.3) ∙ u.placed p.0 p.1.0 (p.1.1 ∙ e ∙ id)
      ∙ (λ j. let x : Option Place = Some (record { key = record { source = sym source j; reference = (split_key m reference total).reference; total = total }; number = p.1.2 j }) in x);
}

pub split_stays : (m w : MessageRow) (content : Content) (reference : ℕ) (ps qs : List PartRow) → w.id ≡ m.id → w.source ≡ m.source → IsSplitOf m content reference ps → SameParts m.id ps qs → IsSplitOf w content reference qs
split_stays m w content reference ps qs id source u same = record {
  pieces = u.pieces;
  long = u.long;
  split = u.split;
  under = under_stays m w reference (length u.pieces) ps qs id source u.under same;
  carried = λ n piece e.
      let p = u.carried n piece e in
      let within : n < length u.pieces = slice_get_within u.pieces n piece e in
      let q = same.there (suc n) p.0 (let f = u.under.few in omega (arith, f, within)) p.1.0 in
      (q.0, (ap (λ (i : ℕ). part_at i (suc n) qs) id ∙ q.1.0, ap (λ (t : List ℕ). carried_in t) q.1.1 ∙ p.1.1));
}
