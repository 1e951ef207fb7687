-- Parts with numbers stay so where one comes and where one is so far.
use Rattle.std.proofs.Common.{◌≡◌, ℕ, ◌<◌, List, [], ◌∷◌, Option, Some, refl, sym, ◌∙◌, ap, subst, inl, inr, ⊎_elim}
use Rattle.std.specs.Option.{option_map}
use Rattle.std.specs.Prelude.{◌==◌, if◌then◌else◌}
use Rattle.std.proofs.lemmas.Bool.{cond_both}
use Rattle.sms_base.specs.Among.{Among}
use Rattle.sms_rows.specs.table.Table.{put, row_at}
use Rattle.sms_rows.proofs.table.Tables.{among_put, rises_put}
use Rattle.sms_centre_rows.specs.declared.messages.part.PartRow.{PartRow}
use Rattle.sms_centre_rows.specs.messages.Messages.{part_key, part_reaching}
use Rattle.sms_centre_rows.specs.messages.OpenParts.{Numbered}
use Rattle.sms_centre_rows.specs.declared.waiting.progress.Progress.{Progress}
use Rattle.sms_centre_rows.specs.waiting.Revisions.{amended}
use Rattle.sms_centre_rows.proofs.waiting.Amending.{rises_amended, row_at_amended, row_at_amended_other}

keeps_key : (q : Progress) (p : PartRow) → part_key (part_reaching q p) ≡ part_key p
keeps_key q p = refl

pub numbered_put : (p : PartRow) (ps : List PartRow) → Numbered ps → 0 < p.number → p.number < 256 → Numbered (put part_key p ps)
numbered_put p ps numbered some small = record {
  keys = rises_put part_key p ps numbered.keys;
  numbers = λ x m. ⊎_elim
      (λ (e : x ≡ p). subst (λ (y : PartRow). (0 < y.number) × (y.number < 256)) (sym e) (some, small))
      (λ (k : Among x ps × ¬ (part_key x ≡ part_key p)). numbered.numbers x k.0)
      (among_put part_key x p ps m);
}

numbers_amended : (n : ℕ) (q : Progress) (ps : List PartRow) → ((p : PartRow) → Among p ps → (0 < p.number) × (p.number < 256)) → (x : PartRow) → Among x (amended part_key part_reaching n q ps) → (0 < x.number) × (x.number < 256)
numbers_amended n q [] f x m = elim m [ ]
numbers_amended n q (p ∷ ps) f x m = ⊎_elim
    (λ (e : x ≡ if part_key p == n then part_reaching q p else p). subst (λ (y : PartRow). (0 < y.number) × (y.number < 256)) (sym e)
    (cond_both (part_key p == n) (part_reaching q p) p (λ (y : PartRow). (0 < y.number) × (y.number < 256)) (λ t. f p (inl refl)) (λ t. f p (inl refl))))
    (λ (r : Among x (amended part_key part_reaching n q ps)). numbers_amended n q ps (λ y k. f y (inr k)) x r)
    m

pub numbered_amended : (n : ℕ) (q : Progress) (ps : List PartRow) → Numbered ps → Numbered (amended part_key part_reaching n q ps)
numbered_amended n q ps numbered = record {
  keys = rises_amended part_key part_reaching keeps_key n q ps numbered.keys;
  numbers = numbers_amended n q ps numbered.numbers;
}

pub part_amended : (p : PartRow) (q : Progress) (ps : List PartRow) → row_at part_key (part_key p) ps ≡ Some p → row_at part_key (part_key p) (amended part_key part_reaching (part_key p) q ps) ≡ Some (part_reaching q p)
part_amended p q ps e = row_at_amended part_key part_reaching keeps_key (part_key p) q ps ∙ ap (λ (o : Option PartRow). option_map (part_reaching q) o) e

pub part_amended_other : (p : PartRow) (q : Progress) (ps : List PartRow) (k : ℕ) → ¬ (part_key p ≡ k) → row_at part_key k (amended part_key part_reaching (part_key p) q ps) ≡ row_at part_key k ps
part_amended_other p q ps k ne = row_at_amended_other part_key part_reaching keeps_key k (part_key p) q ps ne
