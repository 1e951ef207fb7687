-- What the parts of a text carry, read from their DELIVERs.
use Rattle.std.proofs.Common.{◌≡◌, ℕ, zero, suc, ◌+◌, ◌<◌, ◌≤◌, List, [], ◌∷◌, ◌++◌, length, true, false, Option, Some, None, Result, Ok, Err, refl, sym, ◌∙◌, ap, subst, ⊎_elim, arith}
use Rattle.std.specs.Prelude.{nat_lt, slice_get}
use Rattle.std.proofs.lemmas.Bool.{cases_Bool, cond_both, ltb-true}
use Rattle.sms_base.specs.Address.{IsAddress}
use Rattle.sms_base.specs.TimeStamp.{IsMoment}
use Rattle.sms_alphabet.specs.declared.scheme.Coding.{Coding}
use Rattle.sms_alphabet.specs.declared.scheme.Coding.TheVariants.{Septets, Octets, Ucs2, Compressed}
use Rattle.sms_alphabet.specs.Packing.{packed}
use Rattle.sms_alphabet.specs.UserDataLength.{fill_bits}
use Rattle.sms_alphabet.specs.declared.concat_key.ConcatKey.{ConcatKey}
use Rattle.sms_alphabet.specs.declared.concat_key.ConcatReference.TheVariants.{SixteenBit}
use Rattle.sms_concat.specs.declared.content.Content.{Content}
use Rattle.sms_concat.specs.declared.content.Part.{Part as PartOf}
use Rattle.sms_concat.specs.declared.split_error.SplitError.{SplitError}
use Rattle.sms_concat.specs.declared.split_error.SplitError.TheVariants.{TooManyParts}
use Rattle.sms_concat.specs.Splitting.{is_compressed, numbered, numbered_all, pieces_of}
use Rattle.sms_concat.specs.UserData.{body_octets, capacity, header_of, is_there, part_in}
use Rattle.sms_alphabet.specs.Concatenation.{header_key}
use Rattle.sms_concat.proofs.FieldLaws.{key_again}
use Rattle.sms_concat.proofs.Numbering.{split_cut, split_refused}
use Rattle.sms_tpdu.specs.declared.carrier.Carrier.TheVariants.{InData}
use Rattle.sms_tpdu.specs.declared.down.Down.{Down}
use Rattle.sms_tpdu.specs.declared.down.Down.TheVariants.{Deliver}
use Rattle.sms_tpdu.specs.declared.fault.TpduFault.{TpduFault}
use Rattle.sms_tpdu.specs.TpduReading.{down_at}
use Rattle.sms_intake.specs.declared.submission.SinglePart.{SinglePart}
use Rattle.sms_intake.specs.declared.submission.Submission.{Submission}
use Rattle.sms_intake.specs.declared.submission.Text.{Text}
use Rattle.sms_intake.specs.declared.submission.Text.TheVariants.{Whole, Single}
use Rattle.sms_intake.specs.PartBodies.{bodies_of, bodies_under, body_of, deliver_octets, deliver_of, is_long, parts_or_none}
use Rattle.sms_centre_rows.specs.declared.messages.part.PartRow.{PartRow}
use Rattle.sms_centre_spec.specs.Consistent.{IsBody}
use Rattle.sms_centre_spec.proofs.TpdusRead.{part_reads}
use Rattle.sms_world_model.specs.Place.{carried_in, part_of, part_read, place_in, place_of, place_read}
use Rattle.sms_world.proofs.split_messages_stay.MadeParts.{body_at}

-- ---- a DELIVER as it was made

pub deliver_reads : (moment : ℕ) (u : Submission) (b : SinglePart) → IsMoment moment → IsAddress u.source → IsBody u b → down_at InData (deliver_octets moment u b) ≡ Ok (Deliver (deliver_of moment u b))
deliver_reads moment u b now source body =
    let p : PartRow = record {
      id = 0;
      number = 0;
      reference = 0;
      tpdu = deliver_octets moment u b;
      key = b.key;
      progress = record { is_done = false; attempts = 0; due = 0 };
    } in
    (part_reads 0 0 moment None u b p now source body refl).read

pub place_made : (moment : ℕ) (u : Submission) (b : SinglePart) → IsMoment moment → IsAddress u.source → IsBody u b → place_in (deliver_octets moment u b) ≡ place_of u.source (header_key b.header_indicator b.octets)
unfolding place_in
place_made moment u b now source body = ap (λ (r : Result Down TpduFault). place_read r) (deliver_reads moment u b now source body)

pub carried_made : (moment : ℕ) (u : Submission) (b : SinglePart) → IsMoment moment → IsAddress u.source → IsBody u b
    → carried_in (deliver_octets moment u b) ≡ part_of (part_in b.header_indicator b.data_coding_scheme b.length b.octets)
unfolding carried_in
carried_made moment u b now source body = ap (λ (r : Result Down TpduFault). part_read r) (deliver_reads moment u b now source body)

-- ---- the header of a piece

pub octets_behind : (header : List ℕ) (coding : Coding) (units : List ℕ) → (rest : List ℕ) × (body_octets header coding units ≡ header ++ rest)
octets_behind header Septets units = (packed (fill_bits (length header)) units, refl)
octets_behind header Octets units = (units, refl)
octets_behind header Ucs2 units = (units, refl)
octets_behind header Compressed units = (units, refl)

pub body_key : (p : PartOf) (k : ConcatKey) → p.key ≡ Some k → 0 < k.number → k.number ≤ k.total → let b : SinglePart = body_of p in header_key b.header_indicator b.octets ≡ Some k
body_key p k is low high =
    let header : List ℕ = header_of p.key in
    let o = octets_behind header p.content.coding p.content.units in
    ap (λ (xs : List ℕ). header_key (is_there header) xs) o.1
    ∙ subst (λ (q : Option ConcatKey). header_key (is_there (header_of q)) (header_of q ++ o.0) ≡ Some k) (sym is) (key_again (Some k) o.0 (low, high))

-- the key of the i-th piece from a number on
piece_key : (c : Content) (r total n : ℕ) (xs : List (List ℕ)) (i : ℕ) (b : SinglePart) → 0 < n → n + length xs ≤ total + 1 → slice_get (bodies_of (numbered c r total n xs)) i ≡ Some b
    → header_key b.header_indicator b.octets ≡ Some (record { reference = SixteenBit r; total = total; number = n + i })
piece_key c r total n [] i b some few e = absurd cc
piece_key c r total n (x ∷ xs) zero b some few e =
    let k : ConcatKey = record { reference = SixteenBit r; total = total; number = n } in
    let p : PartOf = record { content = record { coding = c.coding; dcs = c.dcs; units = x }; key = Some k } in
    let same : body_of p ≡ b = cc in
    let number : n ≡ n + 0 = omega arith in
    ap (λ (y : SinglePart). header_key y.header_indicator y.octets) (sym same) ∙ body_key p k refl some (omega (arith, few))
    ∙ (λ j. let z : Option ConcatKey = Some (record { reference = SixteenBit r; total = total; number = number j }) in z)
piece_key c r total n (x ∷ xs) (suc i) b some few e =
    let number : n + 1 + i ≡ n + suc i = omega arith in
    piece_key c r total (n + 1) xs i b (omega arith) (omega (arith, few)) e
    ∙ (λ j. let z : Option ConcatKey = Some (record { reference = SixteenBit r; total = total; number = number j }) in z)

bodies_long : (c : Content) (r total n : ℕ) (xs : List (List ℕ)) → length (bodies_of (numbered c r total n xs)) ≡ length xs
bodies_long c r total n [] = refl
bodies_long c r total n (x ∷ xs) = ap (λ (k : ℕ). suc k) (bodies_long c r total (n + 1) xs)

-- ---- all pieces of a text that is split

-- its bodies are those of its pieces, in order
pub record IsCut (reference : ℕ) (t : Text) : Type 0 where
  pub content : Content
  pub whole : t ≡ Whole content
  pub long : capacity content.coding < length content.units
  pub plain : is_compressed content.coding ≡ false
  pub pieces : List (List ℕ)
  pub divided : pieces ≡ pieces_of content.coding content.units
  pub bodies : bodies_under reference t ≡ bodies_of (numbered content reference (length pieces) 1 pieces)

none_long : {A : Type 0} (bs : List SinglePart) → bs ≡ [] → 0 < length bs → A
none_long bs e some = absurd (let n : length bs ≡ 0 = ap (λ (x : List SinglePart). length x) e in let l : ⊥ = omega (arith, n, some) in l)

cut_of : (reference : ℕ) (c : Content) → capacity c.coding < length c.units → 0 < length (bodies_under reference (Whole c)) → IsCut reference (Whole c)
cut_of reference c long some = ⊎_elim
    (λ (bad : is_compressed c.coding ≡ true).
    none_long (bodies_under reference (Whole c)) (ap (λ (r : Result (List PartOf) SplitError). bodies_of (parts_or_none r)) (split_refused c reference long bad)) some)
    (λ (plain : is_compressed c.coding ≡ false).
    let pieces : List (List ℕ) = pieces_of c.coding c.units in
    let cut = split_cut c reference long plain in
    let is : bodies_under reference (Whole c) ≡ bodies_of (parts_or_none (numbered_all c reference pieces)) = ap (λ (r : Result (List PartOf) SplitError). bodies_of (parts_or_none r)) cut in
    let made : bodies_of (parts_or_none (numbered_all c reference pieces)) ≡ bodies_of (numbered c reference (length pieces) 1 pieces) =
    cond_both (nat_lt 20 (length pieces)) (Err TooManyParts) (Ok (numbered c reference (length pieces) 1 pieces))
    (λ (r : Result (List PartOf) SplitError). 0 < length (bodies_of (parts_or_none r)) → bodies_of (parts_or_none r) ≡ bodies_of (numbered c reference (length pieces) 1 pieces))
    (λ t none. absurd (let l : ⊥ = omega (arith, none) in l)) (λ t there. refl)
    (subst (λ (x : List SinglePart). 0 < length x) is some) in
    record { content = c; whole = refl; long = long; plain = plain; pieces = pieces; divided = refl; bodies = is ∙ made })
    (cases_Bool (is_compressed c.coding))

pub text_cut : (reference : ℕ) (t : Text) → is_long t ≡ true → 0 < length (bodies_under reference t) → IsCut reference t
text_cut reference (Single part) long some = absurd cc
text_cut reference (Whole c) long some = cut_of reference c (ltb-true (capacity c.coding) (length c.units) long) some

pub cut_total : (reference : ℕ) (t : Text) (k : IsCut reference t) → length (bodies_under reference t) ≡ length k.pieces
cut_total reference t k = ap (λ (x : List SinglePart). length x) k.bodies ∙ bodies_long k.content reference (length k.pieces) 1 k.pieces

-- the header of the body of a number
pub cut_key : (reference : ℕ) (t : Text) (k : IsCut reference t) (n : ℕ) (b : SinglePart) → body_at n (bodies_under reference t) ≡ Some b
    → header_key b.header_indicator b.octets ≡ Some (record { reference = SixteenBit reference; total = length k.pieces; number = n })
cut_key reference t k zero b e = absurd cc
cut_key reference t k (suc i) b e =
    let number : 1 + i ≡ suc i = omega arith in
    piece_key k.content reference (length k.pieces) 1 k.pieces i b (omega arith) (omega arith) (ap (λ (x : List SinglePart). slice_get x i) (sym k.bodies) ∙ e)
    ∙ (λ j. let z : Option ConcatKey = Some (record { reference = SixteenBit reference; total = length k.pieces; number = number j }) in z)
