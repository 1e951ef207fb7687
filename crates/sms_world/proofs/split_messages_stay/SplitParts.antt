-- The parts of a text that was split stand under one key, and carry what it was split into.
use Rattle.std.proofs.Common.{◌≡◌, inl, inr, ℕ, zero, suc, ◌+◌, ◌*◌, ◌<◌, List, [], ◌∷◌, length, All, Option, Some, Result, Ok, sym, ◌∙◌, ap, subst, arith}
use Rattle.std.specs.Prelude.{slice_get}
use Rattle.std.proofs.lemmas.List.Elements.{All-head, All-tail}
use Rattle.std.proofs.lemmas.Option.{slice_get_within}
use Rattle.sms_base.specs.Among.{Among}
use Rattle.sms_rows.specs.table.Keys.{pair_key}
use Rattle.sms_rows.proofs.table.Tables.{found_among, found_key}
use Rattle.sms_alphabet.specs.declared.unpacking.UnpackError.{UnpackError}
use Rattle.sms_alphabet.specs.declared.concat_key.ConcatKey.{ConcatKey}
use Rattle.sms_alphabet.specs.declared.concat_key.ConcatReference.TheVariants.{SixteenBit}
use Rattle.sms_concat.specs.declared.content.Part.{Part as PartOf}
use Rattle.sms_concat.specs.Splitting.{IsSplit, numbered}
use Rattle.sms_concat.specs.UserData.{IsPart, header_of, part_in}
use Rattle.sms_concat.proofs.Bodies.{user_data_is}
use Rattle.sms_concat.proofs.FieldLaws.{part_again}
use Rattle.sms_concat.proofs.Numbering.{length_numbered, split_only, split_there}
use Rattle.sms_concat.proofs.Room.{split_read}
use Rattle.sms_intake.specs.declared.submission.SinglePart.{SinglePart}
use Rattle.sms_intake.specs.declared.submission.Submission.{Submission}
use Rattle.sms_intake.specs.PartBodies.{bodies_of, bodies_under, body_of}
use Rattle.sms_centre_rows.specs.declared.messages.message.MessageRow.{MessageRow}
use Rattle.sms_centre_rows.specs.declared.messages.part.PartRow.{PartRow}
use Rattle.sms_centre_rows.specs.messages.Messages.{part_at, part_key}
use Rattle.sms_centre_spec.specs.Consistent.{IsSubmission}
use Rattle.sms_centre_spec.proofs.SmppFits.{IsContent}
use Rattle.sms_world_model.specs.Place.{carried_in, part_of, Place, place_in, place_of}
use Rattle.sms_world.proofs.split_messages_stay.MadeParts.{IsMade, body_at}
use Rattle.sms_world.proofs.split_messages_stay.Places.{IsCut, carried_made, cut_key, cut_total, place_made}
use Rattle.sms_world.specs.headline.SplitClaims.{IsSplitOf, IsSplitUnder, split_key}

among_slice : {A : Type 0} (xs : List A) (i : ℕ) (x : A) → slice_get xs i ≡ Some x → Among x xs
among_slice [] i x e = absurd cc
among_slice (y ∷ ys) zero x e = let same : x ≡ y = cc in inl same
among_slice (y ∷ ys) (suc i) x e = inr (among_slice ys i x e)

all_at : {A : Type 0} (P : A → Type 0) (xs : List A) → All P xs → (i : ℕ) (x : A) → slice_get xs i ≡ Some x → P x
all_at P [] all i x e = absurd cc
all_at P (y ∷ ys) all zero x e = let same : y ≡ x = cc in subst P same (All-head P y ys all)
all_at P (y ∷ ys) all (suc i) x e = all_at P ys (All-tail P y ys all) i x e

pub among_body : (n : ℕ) (bs : List SinglePart) (b : SinglePart) → body_at n bs ≡ Some b → Among b bs
among_body zero bs b e = absurd cc
among_body (suc n) bs b e = among_slice bs n b e

module _ (m : MessageRow) (u : Submission) (reference : ℕ) (parts : List PartRow) (fit : IsSubmission u) (source : m.source ≡ u.source) (few : (p : PartRow) → Among p parts → p.number < 256) (cut : IsCut reference u.text)
    (made : IsMade m.id (1 + length (bodies_under reference u.text)) u (bodies_under reference u.text) parts) where
  abbrev bodies : List SinglePart
  bodies = bodies_under reference u.text

  count : length (bodies_under reference u.text) ≡ length cut.pieces
  count = cut_total reference u.text cut

  placed_part : (p : PartRow) → Among p parts → p.id ≡ m.id → place_in p.tpdu ≡ Some (record { key = split_key m reference (length cut.pieces); number = p.number })
  placed_part p i e =
      let x = made.made p i e in
      let body = fit.bodies reference x.0 (among_body p.number bodies x.0 x.2.1) in
      ap (λ (t : List ℕ). place_in t) x.2.3 ∙ place_made x.1 u x.0 x.2.2 fit.source body
      ∙ ap (λ (o : Option ConcatKey). place_of u.source o) (cut_key reference u.text cut p.number x.0 x.2.1)
      ∙ (λ j. let z : Option Place = Some (record { key = record { source = sym source j; reference = SixteenBit reference; total = length cut.pieces }; number = p.number }) in z)

  pub stands_under : IsSplitUnder m reference (length cut.pieces) parts
  stands_under = record {
    few = let f = fit.few reference in omega (arith, f, count);
    each = λ n some within. made.each n some (omega (arith, within, count));
    placed = placed_part;
  }

  -- ---- what the pieces carry

  module _ (is : IsContent cut.content) where
    abbrev pieces : List PartOf
    pieces = numbered cut.content reference (length cut.pieces) 1 cut.pieces

    split : IsSplit cut.content reference pieces
    split =
        let plain = cut.plain in
        let there = split_there cut.content reference (λ c. absurd cc) in
        let one = (split_only cut.content reference there.0 there.1).1.1 cut.long in
        subst (λ (ps : List PartOf). IsSplit cut.content reference ps) (one ∙ ap (λ (ps : List (List ℕ)). numbered cut.content reference (length ps) 1 ps) (sym cut.divided)) there.1

    part_is : (i : ℕ) (piece : PartOf) → slice_get pieces i ≡ Some piece → IsPart piece
    part_is i piece e = all_at IsPart pieces (split_read cut.content reference pieces is.coding is.units split) i piece e

    body_is : (ps : List PartOf) (i : ℕ) (piece : PartOf) → slice_get ps i ≡ Some piece → slice_get (bodies_of ps) i ≡ Some (body_of piece)
    body_is [] i piece e = absurd cc
    body_is (p ∷ ps) zero piece e = let same : p ≡ piece = cc in ap (λ (x : PartOf). Some (body_of x)) same
    body_is (p ∷ ps) (suc i) piece e = body_is ps i piece e

    carried_piece : (i : ℕ) (piece : PartOf) → slice_get pieces i ≡ Some piece → (p : PartRow) × ((part_at m.id (suc i) parts ≡ Some p) × (carried_in p.tpdu ≡ Some piece))
    carried_piece i piece e =
        let low : i < length pieces = slice_get_within pieces i piece e in
        let long = length_numbered cut.content reference (length cut.pieces) 1 cut.pieces in
        let there = made.each (suc i) (omega arith) (omega (arith, low, long, count)) in
        let p : PartRow = there.0 in
        let key : 256 * p.id + p.number ≡ 256 * m.id + suc i = found_key part_key (pair_key m.id (suc i)) p parts there.1 in
        let among = found_among part_key (pair_key m.id (suc i)) p parts there.1 in
        let small = fit.few reference in
        let its : p.id ≡ m.id = omega (arith, key, few p among, low, long, count, small) in
        let number : p.number ≡ suc i = omega (arith, key, its) in
        let x = made.made p among its in
        let body = fit.bodies reference x.0 (among_body p.number bodies x.0 x.2.1) in
        let at : slice_get bodies i ≡ Some x.0 = ap (λ (n : ℕ). body_at n bodies) (sym number) ∙ x.2.1 in
        let mine : Some x.0 ≡ Some (body_of piece) = sym at ∙ ap (λ (bs : List SinglePart). slice_get bs i) cut.bodies ∙ body_is pieces i piece e in
        let same : x.0 ≡ body_of piece = cc in
        let good = part_is i piece e in
        let read : part_in x.0.header_indicator x.0.data_coding_scheme x.0.length x.0.octets ≡ Ok piece =
        ap (λ (b : SinglePart). part_in b.header_indicator b.data_coding_scheme b.length b.octets) same
        ∙ part_again piece _ good (user_data_is (header_of piece.key) piece.content good.units) in
        (p, (there.1, ap (λ (t : List ℕ). carried_in t) x.2.3 ∙ carried_made x.1 u x.0 x.2.2 fit.source body ∙ ap (λ (r : Result PartOf UnpackError). part_of r) read))

    pub stored_of : IsSplitOf m cut.content reference parts
    stored_of = record {
      pieces = pieces;
      long = cut.long;
      split = split;
      under = subst (λ (n : ℕ). IsSplitUnder m reference n parts) (sym (length_numbered cut.content reference (length cut.pieces) 1 cut.pieces)) stands_under;
      carried = carried_piece;
    }
