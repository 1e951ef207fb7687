-- A message that was split from a content is joined to that content.
use Rattle.std.proofs.Common.{◌≡◌, ℕ, zero, suc, ◌+◌, ◌<◌, List, [], ◌∷◌, ◌++◌, refl, sym, ◌∙◌, ap, subst, ⊎_elim, Option, Some, None, Result, Ok, Err, length, arith}
use Rattle.std.specs.Prelude.{slice_get}
use Rattle.std.proofs.lemmas.Bool.{cases_eq}
use Rattle.std.proofs.lemmas.Option.{same_Some}
use Rattle.sms_base.proofs.Lists.{item_at}
use Rattle.sms_base.specs.declared.holder.Holder.TheVariants.{Part}
use Rattle.sms_alphabet.specs.declared.unpacking.UnpackError.{UnpackError}
use Rattle.sms_concat.specs.Splitting.{numbered}
use Rattle.sms_concat.specs.UserData.{part_in}
use Rattle.sms_alphabet.specs.Concatenation.{header_key}
use Rattle.sms_alphabet.specs.declared.concat_key.ConcatKey.{ConcatKey}
use Rattle.sms_alphabet.specs.declared.concat_key.ConcatReference.TheVariants.{SixteenBit}
use Rattle.sms_concat.specs.declared.content.Content.{Content}
use Rattle.sms_concat.specs.declared.content.Part.{Part as PartOf}
use Rattle.sms_concat.proofs.FieldLaws.{read_says}
use Rattle.sms_concat.proofs.Joined.{split_joins}
use Rattle.sms_concat.proofs.Numbering.{length_numbered}
use Rattle.sms_tpdu.specs.declared.user_data.UserData.{UserData}
use Rattle.sms_world_model.specs.Submission.{Submission, HasPart, part_at}
use Rattle.sms_world_model.specs.Place.{Key, Place, place_of, place_submitted, place_in, part_of, part_submitted, with_part, joined_parts}
use Rattle.sms_world_model.specs.World.{Accepted, World}
use Rattle.sms_world_model.specs.Groups.{number_in, of_key}
use Rattle.sms_world_model.specs.SplitMessages.{IsSplit, carried_of, submitted_to, submitted_content, IsSplitFrom}
use Rattle.sms_world_model.specs.References.{IsForPart}
use Rattle.sms_world_model.specs.Agreement.{SplitsWhole, SplitsJoined}
use Rattle.sms_world_model.proofs.Tables.{same_message}
use Rattle.sms_world_model.proofs.Sound.{IsSound, IsKnown}
use Rattle.sms_world_model.proofs.Faithful.{part_within}
use Rattle.sms_world_model.proofs.Keys.{for_is}
use Rattle.sms_world_model.proofs.Rounds.{within}
use Rattle.sms_world_model.proofs.Places.{IsPlaced, group_ended, among_of_key}
use Rattle.sms_world_model.proofs.Wholes.{split_place}

-- ---- the pieces one by one

pub piece_old : (ps : List PartOf) (p : PartOf) (i : ℕ) → i < length ps → slice_get (ps ++ p ∷ []) i ≡ slice_get ps i
piece_old [] p i l = absurd (omega arith)
piece_old (x ∷ ps) p zero l = refl
piece_old (x ∷ ps) p (suc i) l = piece_old ps p i (omega arith)

pub piece_new : (ps : List PartOf) (p : PartOf) → slice_get (ps ++ p ∷ []) (length ps) ≡ Some p
piece_new [] p = refl
piece_new (x ∷ ps) p = piece_new ps p

pub length_new : (ps : List PartOf) (p : PartOf) → length (ps ++ p ∷ []) ≡ suc (length ps)
length_new [] p = refl
length_new (x ∷ ps) p = let e = length_new ps p in omega (arith, e)

-- each part carries its piece
abbrev Carry : Submission → ℕ → List PartOf → Type 0
Carry s n ps = (length ps ≡ n) × ((i : ℕ) → i < n → carried_of s (part_at (suc i) s.parts) ≡ slice_get ps i)

carry : (s : Submission) (n : ℕ) (ps : List PartOf) → submitted_to n s ≡ Some ps → Carry s n ps
carry s zero ps e = let same : [] ≡ ps = cc in subst (Carry s zero) same (refl, λ i l. absurd (omega arith))
carry s (suc n) ps e = at (submitted_to n s) (carried_of s (part_at (suc n) s.parts)) (λ qs a. carry s n qs a) refl refl e
  where
    at : (o : Option (List PartOf)) (c : Option PartOf) → ((qs : List PartOf) → submitted_to n s ≡ Some qs → Carry s n qs) → submitted_to n s ≡ o → carried_of s (part_at (suc n) s.parts) ≡ c → with_part o c ≡ Some ps → Carry s (suc n) ps
    at None c before a b e = absurd (cc)
    at (Some qs) None before a b e = absurd (cc)
    at (Some qs) (Some p) before a b e =
        let same : qs ++ p ∷ [] ≡ ps = cc in
        let old = before qs a in
        let long = old.0 in
        let grown = length_new qs p in
        subst (Carry s (suc n)) same (
          omega (arith, long, grown),
          (λ i l. ⊎_elim
              (λ (d : i ≡ n). ap (λ k. carried_of s (part_at (suc k) s.parts)) d ∙ b ∙ sym (piece_new qs p) ∙ ap (λ k. slice_get (qs ++ p ∷ []) k) (long ∙ sym d))
              (λ (d : i ≡ n → ⊥). let m : i < n = omega (arith, l, d) in old.1 i m ∙ sym (piece_old qs p i (omega (arith, m, long))))
              (cases_eq i n)),
        )

-- the key of a piece
numbered_key : (c : Content) (r total k : ℕ) (xs : List (List ℕ)) (i : ℕ) (p : PartOf) → slice_get (numbered c r total k xs) i ≡ Some p
    → p.key ≡ Some (record { reference = SixteenBit r; total = total; number = k + i })
numbered_key c r total k [] i p e = absurd (cc)
numbered_key c r total k (x ∷ xs) zero p e =
    let q : PartOf = record { content = record { coding = c.coding; dcs = c.dcs; units = x }; key = Some (record { reference = SixteenBit r; total = total; number = k }) } in
    let same : q ≡ p = cc in
    let n : k ≡ k + 0 = omega arith in
    ap (λ (y : PartOf). y.key) (sym same) ∙ ap (λ m. Some (let z : ConcatKey = record { reference = SixteenBit r; total = total; number = m } in z)) n
numbered_key c r total k (x ∷ xs) (suc i) p e =
    let n : k + 1 + i ≡ k + suc i = omega arith in
    numbered_key c r total (k + 1) xs i p e ∙ ap (λ m. Some (let z : ConcatKey = record { reference = SixteenBit r; total = total; number = m } in z)) n

-- ---- the key of what a part carries

part_key : (s : Submission) (part : UserData) (p : PartOf) → part_submitted s part ≡ Some p → header_key s.user_data_header_indicator part.octets ≡ p.key
part_key s part p e = at (part_in s.user_data_header_indicator s.data_coding_scheme part.length part.octets) refl e
  where
    at : (r : Result PartOf UnpackError) → part_in s.user_data_header_indicator s.data_coding_scheme part.length part.octets ≡ r → part_of r ≡ Some p → header_key s.user_data_header_indicator part.octets ≡ p.key
    at (Ok q) a f = let same : q ≡ p = cc in sym (read_says s.user_data_header_indicator s.data_coding_scheme part.length part.octets p (a ∙ ap (λ (y : PartOf). Ok y) same)).2
    at (Err x) a f = absurd (cc)

-- ---- the message

abbrev split_key : Submission → ℕ → Key
split_key s reference = record { source = s.source; reference = SixteenBit reference; total = length s.parts }

placed_part : (s : Submission) (content : Content) (reference total : ℕ) (xs : List (List ℕ)) (ps : List PartOf) → ps ≡ numbered content reference total 1 xs → length s.parts ≡ total → Carry s (length s.parts) ps
    → (n : ℕ) (part : UserData) → HasPart s n part → place_submitted s part ≡ Some (record { key = split_key s reference; number = n })
placed_part s content reference total xs ps is size all zero part has = absurd (cc)
placed_part s content reference total xs ps is size all (suc i) part has =
    let within = part_within s.parts (suc i) part has in
    let long = all.0 in
    let l : i < length ps = omega (arith, within.1, long) in
    let p = item_at ps i l in
    let mine : part_submitted s part ≡ Some p.0 = ap (λ (o : Option UserData). carried_of s o) (sym has) ∙ all.1 i (omega (arith, within.1)) ∙ p.1 in
    let key = numbered_key content reference total 1 xs i p.0 (ap (λ (qs : List PartOf). slice_get qs i) (sym is) ∙ p.1) in
    let number : 1 + i ≡ suc i = omega arith in
    ap (λ (o : Option ConcatKey). place_of s.source o) (part_key s part p.0 mine ∙ key)
    ∙ (λ j. Some (record { key = record { source = s.source; reference = SixteenBit reference; total = sym size j }; number = number j }))

pub split_parts : (s : Submission) (content : Content) (reference : ℕ) → IsSplitFrom s content reference → IsSplit s (split_key s reference)
split_parts s content reference x =
    let cut = x.split.cut x.long in
    let xs = cut.1.0 in
    let all = carry s (length s.parts) x.pieces x.carried in
    let size : length s.parts ≡ length xs = sym all.0 ∙ ap (λ (ps : List PartOf). length ps) cut.1.2 ∙ length_numbered content reference (length xs) 1 xs in
    (refl, placed_part s content reference (length xs) xs x.pieces cut.1.2 size all)

pub split_content : (s : Submission) (content : Content) (reference : ℕ) → IsSplitFrom s content reference → submitted_content s ≡ Some content
split_content s content reference x =
    ap (λ (o : Option (List PartOf)). joined_parts o) x.carried ∙ split_joins content reference x.pieces x.split

-- ---- the claim

pub one_key_of : (k l : Key) (a b : ℕ) (o : Option Place) → o ≡ Some (record { key = k; number = a }) → o ≡ Some (record { key = l; number = b }) → k ≡ l
one_key_of k l a b o x y = same (record { key = k; number = a }) (record { key = l; number = b }) (sym x ∙ y)
  where
    same : (p q : Place) → Some p ≡ Some q → p.key ≡ q.key
    same p q e = let f : p ≡ q = cc in ap (λ (z : Place). z.key) f

pub splits_joined : (w : World) → IsSound w → IsPlaced w → SplitsWhole w → SplitsJoined w
splits_joined w sound placed whole j i s st content reference is from at x a b =
    let k = split_key s reference in
    let split = split_parts s content reference from in
    let known : IsKnown w.table w.receipts b.0 (Part s.id b.1) = subst (IsKnown w.table w.receipts b.0) b.2.1 (sound.known b.0 b.2.0) in
    let same = same_message w.table s.id known.0 s known.1 st known.2.0 is in
    let mine : IsForPart s b.1 b.0.moment b.0.tpdu = subst (λ (y : Submission). IsForPart y b.1 b.0.moment b.0.tpdu) same.0 known.2.1 in
    let his : place_in x.tpdu ≡ Some (record { key = k; number = b.1 }) = ap (λ (p : Accepted). place_in p.tpdu) b.2.2 ∙ split_place s k b.1 b.0.moment b.0.tpdu split mine in
    let here = among_of_key j.handset j.key x w.accepted ((within j.key.total (of_key j.handset j.key w.accepted)).1 j.group x (group_ended w placed j i) a) in
    let key : k ≡ j.key = one_key_of k j.key b.1 (number_in x) (place_in x.tpdu) his (for_is j.handset j.key x here.1).1 in
    let joined = whole j i s st is (subst (IsSplit s) key split) at x a b in
    same_Some j.content content (sym joined.1 ∙ split_content s content reference from)
