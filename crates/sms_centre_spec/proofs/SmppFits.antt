-- A submit_sm that passed all checks is a submission that does.
use Rattle.std.proofs.Common.{◌≡◌, ℕ, ◌+◌, ◌<◌, ◌≤◌, List, [], ◌∷◌, length, true, false, Option, Some, None, Result, Ok, Err, refl, sym, ◌∙◌, ap, subst, inl, inr, ⊎_elim, arith}
use Rattle.std.specs.Prelude.{All, ◌==◌, ◌||◌, nat_le, nat_lt}
use Rattle.std.specs.List.{list_all}
use Rattle.std.proofs.lemmas.Bool.{and_parts, cases_Bool, cases_lt, cond_both, leb-true, ltb-true}
use Rattle.std.proofs.lemmas.List.Elements.{All-cons, All-head, All-nil, All-tail}
use Rattle.sms_alphabet.specs.declared.scheme.Coding.{Coding}
use Rattle.sms_alphabet.specs.declared.scheme.Coding.TheVariants.{Septets, Octets, Ucs2, Compressed}
use Rattle.sms_alphabet.specs.declared.spelling.SpellingError.{SpellingError}
use Rattle.sms_alphabet.specs.DataCodingScheme.{coding_of}
use Rattle.sms_alphabet.specs.Packing.{AreSeptets}
use Rattle.sms_alphabet.specs.Spelling.{spelled}
use Rattle.sms_alphabet.proofs.Spellings.{below}
use Rattle.sms_base.specs.Among.{Among}
use Rattle.sms_base.proofs.Steps.{ok_is}
use Rattle.sms_alphabet.specs.declared.concat_key.ConcatKey.{ConcatKey}
use Rattle.sms_alphabet.specs.declared.concat_key.ConcatReference.TheVariants.{SixteenBit}
use Rattle.sms_concat.specs.declared.content.Content.{Content}
use Rattle.sms_concat.specs.declared.content.Part.{Part}
use Rattle.sms_alphabet.specs.declared.element.Element.{Element}
use Rattle.sms_concat.specs.declared.split_error.SplitError.{SplitError}
use Rattle.sms_alphabet.specs.HeaderGrammar.{written}
use Rattle.sms_concat.specs.Joining.{content_joined}
use Rattle.sms_concat.specs.Splitting.{IsSplit, alone, is_compressed, numbered, pieces_of, split_of}
use Rattle.sms_concat.specs.UserData.{AreUnits, HasRoom, IsPart, capacity, data_length, header_of, key_element}
use Rattle.sms_concat.proofs.Joined.{split_joins}
use Rattle.sms_concat.proofs.Numbering.{all_numbered, split_alone, split_cut, split_refused, too_many}
use Rattle.sms_concat.proofs.Room.{split_read, split_room}
use Rattle.sms_concat.proofs.Uniqueness.{split_is}
use Rattle.smpp_pdu.specs.declared.status.CommandStatus.{CommandStatus}
use Rattle.smpp_pdu.specs.declared.status.CommandStatus.TheVariants.{ESME_RINVMSGLEN, ESME_RSUBMITFAIL}
use Rattle.sms_tpdu.specs.UserDataGrammar.{IsUserData}
use Rattle.sms_intake.specs.declared.submission.SinglePart.{SinglePart}
use Rattle.sms_intake.specs.declared.submission.Text.{Text}
use Rattle.sms_intake.specs.declared.submission.Text.TheVariants.{Whole, Single}
use Rattle.sms_intake.specs.PartBodies.{bodies_of, body_behind, body_of}
use Rattle.sms_intake.specs.SmppIntake.{class_at, content_at, is_ascii, octets_at, septets_at, single_behind, splits, text_at, ucs2_at, whole_of}
use Rattle.sms_concat.specs.TextContent.{content_spelled}
use Rattle.sms_centre_spec.specs.Submitting.{data_coding_of}
use Rattle.sms_intake.specs.PartBodies.{bodies_under, parts_or_none}
use Rattle.sms_centre_spec.proofs.TextFields.{IsHeader, fields_are}

-- ---- contents: septets are below 128, and the data coding scheme names the coding

pub record IsContent (c : Content) : Type 0 where
  pub units : AreUnits c.coding c.units
  pub coding : c.coding ≡ coding_of c.dcs

ascii_septets : (xs : List ℕ) → list_all (λ c. nat_lt c 128) xs ≡ true → AreSeptets xs
ascii_septets [] e = All-nil (λ s. s < 128)
ascii_septets (x ∷ xs) e =
    let both = and_parts (nat_lt x 128) (list_all (λ c. nat_lt c 128) xs) e in All-cons (λ s. s < 128) x xs (ltb-true x 128 both.0) (ascii_septets xs both.1)

said_so : (c d : Content) → IsContent c → (let r : Result Content CommandStatus = Ok c in let w : Result Content CommandStatus = Ok d in r ≡ w) → IsContent d
said_so c d is e = subst (λ (x : Content). IsContent x) (ok_is {E = CommandStatus} c d e) is

septets_fit : (dcs : ℕ) (octets : List ℕ) (c : Content) → coding_of dcs ≡ Septets → septets_at dcs octets ≡ Ok c → IsContent c
septets_fit dcs octets c is e =
    let made : Content = record { coding = Septets; dcs = dcs; units = octets } in
    cond_both (is_ascii octets) (Ok made) (Err ESME_RSUBMITFAIL) (λ r. r ≡ Ok c → IsContent c)
    (λ t f. said_so made c (record { units = ascii_septets octets t; coding = sym is }) f) (λ t f. absurd cc) e

octets_fit : (dcs : ℕ) (octets : List ℕ) (c : Content) → coding_of dcs ≡ Octets → octets_at dcs octets ≡ Ok c → IsContent c
octets_fit dcs octets c is e = said_so (record { coding = Octets; dcs = dcs; units = octets }) c (record { units = tt; coding = sym is }) e

ucs2_fits : (octets : List ℕ) (c : Content) → ucs2_at octets ≡ Ok c → IsContent c
ucs2_fits octets c e = said_so (record { coding = Ucs2; dcs = 8; units = octets }) c (record { units = tt; coding = refl }) e

spelled_fits : (octets : List ℕ) (r : Result (List ℕ) SpellingError) → spelled octets ≡ r → IsContent (content_spelled octets r)
spelled_fits octets (Ok septets) e = record { units = below octets (Ok septets) e; coding = refl }
spelled_fits octets (Err fault) e = record { units = tt; coding = refl }

text_fits : (bound : ℕ) (octets : List ℕ) (c : Content) → text_at bound octets ≡ Ok c → IsContent c
text_fits bound octets c e =
    let made : Content = content_spelled octets (spelled octets) in
    cond_both (list_all (λ x. nat_lt x bound) octets) (Ok made) (Err ESME_RSUBMITFAIL) (λ r. r ≡ Ok c → IsContent c)
    (λ t f. said_so made c (spelled_fits octets (spelled octets) refl) f) (λ t f. absurd cc) e

class_fits : (dcs : ℕ) (k : Coding) (octets : List ℕ) (c : Content) → coding_of dcs ≡ k → class_at dcs k octets ≡ Ok c → IsContent c
class_fits dcs Septets octets c is e = septets_fit dcs octets c is e
class_fits dcs Octets octets c is e = octets_fit dcs octets c is e
class_fits dcs Ucs2 octets c is e = absurd cc
class_fits dcs Compressed octets c is e = absurd cc

pub content_fits : (k : ℕ) (octets : List ℕ) (c : Content) → content_at k octets ≡ Ok c → IsContent c
content_fits k octets c e =
    cond_both (k == 0) _ _ (λ r. r ≡ Ok c → IsContent c) (λ t f. septets_fit 0 octets c refl f)
    (λ t. cond_both (k == 1) _ _ (λ r. r ≡ Ok c → IsContent c) (λ t f. text_fits 128 octets c f)
    (λ t. cond_both ((k == 2) || (k == 4)) _ _ (λ r. r ≡ Ok c → IsContent c) (λ t f. octets_fit 4 octets c refl f)
    (λ t. cond_both (k == 3) _ _ (λ r. r ≡ Ok c → IsContent c) (λ t f. text_fits 256 octets c f)
    (λ t. cond_both (k == 8) _ _ (λ r. r ≡ Ok c → IsContent c) (λ t f. ucs2_fits octets c f)
    (λ t. cond_both (nat_le 240 k) _ _ (λ r. r ≡ Ok c → IsContent c) (λ t f. class_fits k (coding_of k) octets c refl f) (λ t f. absurd cc))))))
    e

-- ---- texts

pub record IsTextBody (t : Text) (b : SinglePart) : Type 0 where
  pub fields : IsUserData (coding_of b.data_coding_scheme) b.header_indicator (record { length = b.length; octets = b.octets })
  pub scheme : b.data_coding_scheme ≡ data_coding_of t

pub record FitsText (t : Text) : Type 0 where
  pub some : (reference : ℕ) → 0 < length (bodies_under reference t)
  pub few : (reference : ℕ) → length (bodies_under reference t) ≤ 20
  pub bodies : (reference : ℕ) (b : SinglePart) → Among b (bodies_under reference t) → IsTextBody t b

-- the user data of a content behind a header
behind_fits : (header : List ℕ) (key : Option ConcatKey) (c : Content) → IsHeader header → IsContent c → data_length c.coding (length header) (length c.units) ≤ capacity c.coding
    → let b : SinglePart = body_behind header key c in IsUserData (coding_of b.data_coding_scheme) b.header_indicator (record { length = b.length; octets = b.octets })
behind_fits header key c is content room =
    let b : SinglePart = body_behind header key c in
    subst (λ (k : Coding). IsUserData k b.header_indicator (record { length = b.length; octets = b.octets })) content.coding (fields_are header c.coding c.units is content.units room)

pub single_fits : (header : List ℕ) (key : Option ConcatKey) (c : Content) (t : Text) → IsHeader header → IsContent c → single_behind header key c ≡ Ok t → FitsText t
single_fits header key c t is content e =
    let b : SinglePart = body_behind header key c in
    cond_both (nat_le (data_length c.coding (length header) (length c.units)) (capacity c.coding)) (Ok (Single b)) (Err ESME_RINVMSGLEN) (λ r. r ≡ Ok t → FitsText t)
    (λ room f.
    let fields = behind_fits header key c is content (leb-true (data_length c.coding (length header) (length c.units)) (capacity c.coding) room) in
    let fits : FitsText (Single b) = record {
      some = λ reference. omega arith;
      few = λ reference. omega arith;
      bodies = λ reference x among. ⊎_elim
          (λ (q : x ≡ b). subst (λ (y : SinglePart). IsTextBody (Single b) y) (sym q) (record { fields = fields; scheme = refl }))
          (λ (n : ⊥). absurd n)
          among;
    } in
    subst (λ (y : Text). FitsText y) (ok_is {E = CommandStatus} (Single b) t f) fits)
    (λ room f. absurd cc) e

-- ---- a content that splits under one reference does under each

record SplitsSo (c : Content) (reference : ℕ) : Type 0 where
  parts : List Part
  are : split_of c reference ≡ Ok parts
  few : length parts ≤ 20
  dcs : (p : Part) → Among p parts → p.content.dcs ≡ c.dcs
  header : (p : Part) → Among p parts → IsHeader (header_of p.key)

pub key_header : (o : Option ConcatKey) → IsHeader (header_of o)
key_header None = inl refl
key_header (Some key) = let found : (elements : List Element) × (header_of (Some key) ≡ written elements) = (key_element key.reference key.total key.number ∷ [], refl) in inr found

numbered_dcs : (c : Content) (reference total n : ℕ) (pieces : List (List ℕ)) (p : Part) → Among p (numbered c reference total n pieces) → p.content.dcs ≡ c.dcs
numbered_dcs c reference total n [] p among = absurd among
numbered_dcs c reference total n (x ∷ xs) p among = ⊎_elim
    (λ (e : p ≡ record { content = record { coding = c.coding; dcs = c.dcs; units = x }; key = Some (record { reference = SixteenBit reference; total = total; number = n }) }). ap (λ (y : Part). y.content.dcs) e)
    (λ (a : Among p (numbered c reference total (n + 1) xs)). numbered_dcs c reference total (n + 1) xs p a)
    among

splits_so : (c : Content) (reference : ℕ) → splits (split_of c 0) ≡ true → SplitsSo c reference
splits_so c reference e = ⊎_elim
    (λ (over : capacity c.coding < length c.units). ⊎_elim
    (λ (t : is_compressed c.coding ≡ true). let bad : true ≡ false = sym e ∙ ap (λ r. splits r) (split_refused c 0 over t) in absurd cc)
    (λ (t : is_compressed c.coding ≡ false).
    let pieces : List (List ℕ) = pieces_of c.coding c.units in
    ⊎_elim
    (λ (many : 20 < length pieces). let bad : true ≡ false = sym e ∙ ap (λ r. splits r) (split_cut c 0 over t ∙ too_many c 0 pieces many) in absurd cc)
    (λ (few : length pieces ≤ 20).
    let are : split_of c reference ≡ Ok (numbered c reference (length pieces) 1 pieces) = split_cut c reference over t ∙ all_numbered c reference pieces few in
    record {
      parts = numbered c reference (length pieces) 1 pieces;
      are = are;
      few = ((split_is c reference (numbered c reference (length pieces) 1 pieces)).0 are).1;
      dcs = λ p among. numbered_dcs c reference (length pieces) 1 pieces p among;
      header = λ p among. key_header p.key;
    })
    (cases_lt 20 (length pieces)))
    (cases_Bool (is_compressed c.coding)))
    (λ (fits : length c.units ≤ capacity c.coding). record {
      parts = alone c;
      are = split_alone c reference fits;
      few = omega arith;
      dcs = λ p among. ⊎_elim (λ (q : p ≡ record { content = c; key = None }). ap (λ (y : Part). y.content.dcs) q) (λ (n : ⊥). absurd n) among;
      header = λ p among. key_header p.key;
    })
    (cases_lt (capacity c.coding) (length c.units))

some_parts : (c : Content) (parts : List Part) → content_joined parts ≡ Some c → 0 < length parts
some_parts c [] e = absurd cc
some_parts c (p ∷ ps) e = omega arith

each_of : (P : Part → Type 0) (p : Part) (ps : List Part) → All P ps → Among p ps → P p
each_of P p [] all among = absurd among
each_of P p (x ∷ xs) all among = ⊎_elim
    (λ (e : p ≡ x). subst P (sym e) (All-head P x xs all))
    (λ (a : Among p xs). each_of P p xs (All-tail P x xs all) a)
    among

length_bodies : (ps : List Part) → length (bodies_of ps) ≡ length ps
length_bodies [] = refl
length_bodies (p ∷ ps) = let rest = length_bodies ps in omega (arith, rest)

body_among : (b : SinglePart) (ps : List Part) → Among b (bodies_of ps) → (p : Part) × (Among p ps × (b ≡ body_of p))
body_among b [] among = absurd among
body_among b (p ∷ ps) among = ⊎_elim
    (λ (e : b ≡ body_of p). let found : (x : Part) × (Among x (p ∷ ps) × (b ≡ body_of x)) = (p, (inl refl, e)) in found)
    (λ (a : Among b (bodies_of ps)). let r = body_among b ps a in let found : (x : Part) × (Among x (p ∷ ps) × (b ≡ body_of x)) = (r.0, (inr r.1.0, r.1.1)) in found)
    among

record FitsUnder (c : Content) (reference : ℕ) : Type 0 where
  some : 0 < length (bodies_under reference (Whole c))
  few : length (bodies_under reference (Whole c)) ≤ 20
  bodies : (b : SinglePart) → Among b (bodies_under reference (Whole c)) → IsTextBody (Whole c) b

under_fits : (c : Content) (reference : ℕ) → IsContent c → SplitsSo c reference → FitsUnder c reference
under_fits c reference is s =
    let same : bodies_under reference (Whole c) ≡ bodies_of s.parts = ap (λ (r : Result (List Part) SplitError). bodies_of (parts_or_none r)) s.are in
    let split : IsSplit c reference s.parts = ((split_is c reference s.parts).0 s.are).0 in
    let count : length (bodies_under reference (Whole c)) ≡ length s.parts = ap (λ (bs : List SinglePart). length bs) same ∙ length_bodies s.parts in
    let some = some_parts c s.parts (split_joins c reference s.parts split) in
    let few = s.few in
    record {
      some = omega (arith, count, some);
      few = omega (arith, count, few);
      bodies = λ b among.
          let from = body_among b s.parts (subst (λ (bs : List SinglePart). Among b bs) same among) in
          let p : Part = from.0 in
          let room = each_of HasRoom p s.parts (split_room c reference s.parts is.units split) from.1.0 in
          let read = each_of IsPart p s.parts (split_read c reference s.parts is.coding is.units split) from.1.0 in
          let content : IsContent p.content = record { units = read.units; coding = read.coding_is } in
          let fields = behind_fits (header_of p.key) p.key p.content (s.header p from.1.0) content room.room in
          let body : IsTextBody (Whole c) (body_of p) = record { fields = fields; scheme = s.dcs p from.1.0 } in
          subst (λ (x : SinglePart). IsTextBody (Whole c) x) (sym from.1.1) body;
    }

pub whole_fits : (c : Content) (t : Text) → IsContent c → whole_of c ≡ Ok t → FitsText t
whole_fits c t is e =
    cond_both (splits (split_of c 0)) (Ok (Whole c)) (Err ESME_RINVMSGLEN) (λ r. r ≡ Ok t → FitsText t)
    (λ s f.
    let fits : FitsText (Whole c) = record {
      some = λ reference. (under_fits c reference is (splits_so c reference s)).some;
      few = λ reference. (under_fits c reference is (splits_so c reference s)).few;
      bodies = λ reference b among. (under_fits c reference is (splits_so c reference s)).bodies b among;
    } in
    subst (λ (y : Text). FitsText y) (ok_is {E = CommandStatus} (Whole c) t f) fits)
    (λ s f. absurd cc) e
