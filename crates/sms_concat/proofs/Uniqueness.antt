-- One split for a content.
use Rattle.std.proofs.Common.{◌≡◌, ℕ, ◌≤◌, true, List, length, Ok, sym, ap, ◌∙◌, arith}
use Rattle.std.specs.Prelude.{◌↔◌}
use Rattle.sms_concat.specs.declared.content.Content.{Content}
use Rattle.sms_concat.specs.declared.content.Part.{Part}
use Rattle.sms_concat.specs.UserData.{capacity}
use Rattle.sms_concat.specs.Splitting.{is_compressed, numbered, pieces_of, split_of, IsSplit, IsUncut}
use Rattle.sms_concat.proofs.Numbering.{way, lone, uncut, cut, split_there, split_only, split_alone, split_cut, all_numbered, length_numbered, found_is}

pub there_is_split : (content : Content) (reference : ℕ) → (IsUncut content → ⊥) → (parts : List Part) × IsSplit content reference parts
there_is_split content reference may = split_there content reference fits where
  fits : is_compressed content.coding ≡ true → length content.units ≤ capacity content.coding
  fits c = elim (way content) [
    | lone le ↦ le
    | uncut over d ↦ absurd (may (c, over))
    | cut over d ↦ absurd cc
  ]

pub one_split : (content : Content) (reference : ℕ) (one other : List Part) → IsSplit content reference one → IsSplit content reference other → one ≡ other
one_split content reference one other a b = elim (way content) [
  | lone le ↦ a.fits le ∙ sym (b.fits le)
  | uncut over c ↦ let h = (a.cut over).0 in absurd cc
  | cut over c ↦ (split_only content reference one a).1.1 over ∙ sym ((split_only content reference other b).1.1 over)
]

pub split_is : (content : Content) (reference : ℕ) (parts : List Part) → (split_of content reference ≡ Ok parts) ↔ (IsSplit content reference parts × (length parts ≤ 20))
split_is content reference parts = (found_is content reference parts, back) where
  back : IsSplit content reference parts × (length parts ≤ 20) → split_of content reference ≡ Ok parts
  back k = elim (way content) [
    | lone le ↦ split_alone content reference le ∙ ap Ok (sym (k.0.fits le))
    | uncut over c ↦ let h = (k.0.cut over).0 in absurd cc
    | cut over c ↦
        let ps = pieces_of content.coding content.units in
        let same : parts ≡ numbered content reference (length ps) 1 ps = (split_only content reference parts k.0).1.1 over in
        let few : length ps ≤ 20 = omega (arith, k.1, ap length same, length_numbered content reference (length ps) 1 ps) in
        split_cut content reference over c ∙ all_numbered content reference ps few ∙ ap Ok (sym same)
  ]
