-- Messages that are not the submission, and a text that is not split so.
use Rattle.std.proofs.Common.{arith, ◌≡◌, ℕ, List, [], ◌∷◌, refl, sym, ◌∙◌, ap, inl, inr, Some, None, ◌<◌, length}
use Rattle.sms_base.specs.declared.address.Address.{Address}
use Rattle.sms_base.specs.declared.originator.Originator.TheVariants.{Application, Handset}
use Rattle.sms_base.specs.declared.wish.Wish.TheVariants.{Always, Nothing}
use Rattle.sms_concat.specs.Splitting.{IsDivision, joined, joined_each, numbered, room}
use Rattle.sms_concat.specs.WholeUnits.{whole_units}
use Rattle.sms_concat.specs.declared.content.Part.{Part as PartOf}
use Rattle.sms_intake.specs.declared.submission.SinglePart.{SinglePart}
use Rattle.sms_world.proofs.wrong_reports.Read.{part, parts_read}
use Rattle.sms_world.specs.headline.Origins.{part_numbered}
use Rattle.sms_world.specs.headline.SplitClaims.{IsSplitOf}
use Rattle.sms_world.specs.wrong_plays.Played.{LostPartLaw, LostTextLaw, OnePartMoreLaw, OtherHandsetLaw, OtherLimitLaw, OtherOriginatorLaw, OtherProtocolLaw, OtherSourceLaw, OtherSplitLaw, OtherWishLaw, ShortLaw, long_content}
use Rattle.sms_world.specs.wrong_plays.Plays.{from_application, part_one}
use Rattle.sms_world.specs.wrong_reports.Literals.{name}
use Rattle.std.specs.Prelude.{slice_get}
use Rattle.std.proofs.lemmas.Option.{none-some}

handset_is : Handset 7 ≡ Application name → ⊥
handset_is e = absurd cc

pub other_originator : OtherOriginatorLaw
other_originator s = handset_is s.originator

pub other_source : OtherSourceLaw
other_source s = let q : 11 ≡ 8 = ap (λ (a : Address). length a.digits) s.source in let l : ⊥ = omega (arith, q) in l

pub other_handset : OtherHandsetLaw
other_handset s = let q : 11 ≡ 12 = ap (λ (h : List ℕ). length h) s.handset in let l : ⊥ = omega (arith, q) in l

pub other_protocol : OtherProtocolLaw
other_protocol s = let q : 1 ≡ 0 = s.protocol_identifier in let l : ⊥ = omega (arith, q) in l

wish_is : Nothing ≡ Always → ⊥
wish_is e = absurd cc

pub other_wish : OtherWishLaw
other_wish s = wish_is s.wish

pub other_limit : OtherLimitLaw
other_limit s = let q : 946771201 ≡ 946771200 = s.limit in let l : ⊥ = omega (arith, q) in l

no_reference : (n : ℕ) → Some n ≡ None → ⊥
no_reference n e = absurd cc

pub other_split : OtherSplitLaw
other_split s = no_reference 7 s.split

pub lost_part : LostPartLaw
lost_part s =
    let x = s.each 1 part (ap (λ (ps : List SinglePart). part_numbered 1 ps) (parts_read s.reference)) in none-some x.0 x.1.0

pub one_part_more : OnePartMoreLaw
one_part_more s =
    let x = s.only (record part_one { number = 2 }) (inr (inl refl)) refl in
    none-some x.0 (sym (ap (λ (ps : List SinglePart). part_numbered 2 ps) (parts_read s.reference)) ∙ x.1.0)

pub short : ShortLaw
short s = let q : 160 < 5 = s.long in let l : ⊥ = omega (arith, q) in l

no_unit : (x : List ℕ) (xs : List (List ℕ)) → [] ≡ x ∷ xs → ⊥
no_unit x xs e = absurd cc

-- a long text has a first piece
no_division : (pieces : List (List ℕ)) → pieces ≡ [] → IsDivision (room long_content.coding) (whole_units long_content.coding long_content.units) pieces → ⊥
no_division pieces e d = none d.0 d.2 (d.3 ∙ e)
  where
    none : (parts : List (List (List ℕ))) → joined parts ≡ whole_units long_content.coding long_content.units → joined_each parts ≡ [] → ⊥
    none [] j each = no_unit _ _ j
    none (p ∷ ps) j each = absurd cc

first_of : (pieces : List (List ℕ)) (all : List PartOf) (s : IsSplitOf from_application long_content 7 [])
    → IsDivision (room long_content.coding) (whole_units long_content.coding long_content.units) pieces
    → s.pieces ≡ numbered long_content 7 (length pieces) 1 pieces → ⊥
first_of [] all s d e = no_division [] refl d
first_of (p ∷ ps) all s d e =
    let x = s.carried 0 _ (ap (λ (z : List PartOf). slice_get z 0) e) in none-some x.0 x.1.0

pub lost_text : LostTextLaw
lost_text s = let x = s.split.cut s.long in first_of x.1.0 s.pieces s x.1.1 x.1.2
