-- Each of two rounds of two parts begins with the first part of the text, which is message 1.
use Rattle.std.proofs.Common.{arith, Bool, ◌≡◌, ◌&&◌, ℕ, zero, suc, List, [], ◌∷◌, true, false, refl, sym, ◌∙◌, ◌+◌, ap, subst, inl, inr, ⊎_elim, Option, Some, None, Ok, Result}
use Rattle.std.proofs.lemmas.Bool.{cases_Bool, cond-false, eqb-true}
use Rattle.std.specs.Prelude.{◌⊎◌, ◌==◌, length}
use Rattle.sms_base.specs.Among.{Among}
use Rattle.sms_base.specs.Reading.{run_in}
use Rattle.sms_alphabet.specs.Concatenation.{key_of}
use Rattle.sms_alphabet.specs.HeaderGrammar.{elements_behind, header_at}
use Rattle.sms_alphabet.specs.declared.concat_key.ConcatKey.{ConcatKey}
use Rattle.sms_alphabet.specs.declared.concat_key.ConcatReference.TheVariants.{EightBit}
use Rattle.sms_alphabet.specs.declared.scheme.Coding.TheVariants.{Octets}
use Rattle.sms_alphabet.specs.declared.unpacking.UnpackError.{UnpackError}
use Rattle.sms_concat.specs.Joining.{bear_from, bears, content_joined, is_same_reference, is_whole, key_or_alone, units_of}
use Rattle.sms_concat.specs.UserDataWriting.{part_in}
use Rattle.sms_concat.specs.declared.content.Content.{Content}
use Rattle.sms_concat.specs.declared.content.Part.{Part as PartOf}
use Rattle.sms_intake.specs.PartTexts.{bodies_under}
use Rattle.sms_intake.specs.SmppText.{headed_text, text_in}
use Rattle.sms_intake.specs.declared.submission.SinglePart.{SinglePart}
use Rattle.sms_intake.specs.declared.submission.Text.{Text}
use Rattle.sms_intake.specs.declared.submission.Text.TheVariants.{Single}
use Rattle.sms_script.specs.Requests.{submit_of}
use Rattle.sms_script.specs.declared.event.Act.TheVariants.{Submit, Write}
use Rattle.sms_script.specs.declared.event.StopPoint.TheVariants.{After}
use Rattle.sms_script.specs.declared.event.Submission.{Submission as ScriptSubmission}
use Rattle.sms_script.specs.declared.event.WorldEvent.{WorldEvent}
use Rattle.sms_script.specs.declared.event.WorldEvent.TheVariants.{Stopped, Whole}
use Rattle.sms_centre_rows.specs.declared.report_lines.ReportedMessage.{ReportedMessage}
use Rattle.sms_world.specs.headline.PlainReport.{AreJoined, HasLine, HaveNoneInCommon, IsJoined, IsOfApplication, IsOfEvent, IsOfOwner, IsPiece, Origin, Piece, contents}
use Rattle.sms_world.specs.headline.PlainScript.{Does}
use Rattle.sms_world.specs.headline.PlainWords.{numbered}
use Rattle.sms_world.specs.wrong_reports.Literals.{joined_row, joined_twice, piece_asked, piece_events, piece_line, piece_reports, setup}
use Rattle.sms_world.specs.wrong_reports.Tried.{JoinedTwiceLaw}
use Rattle.sms_world.proofs.wrong_reports.Read.{inside, answers}

-- ---- what was submitted

abbrev part_with : ℕ → ℕ → SinglePart
part_with number octet = record {
  header_indicator = true;
  data_coding_scheme = 4;
  length = 7;
  octets = 5 ∷ 0 ∷ 3 ∷ 7 ∷ 2 ∷ number ∷ octet ∷ [];
  key = Some (record { reference = EightBit 7; total = 2; number = number });
}

first_text : (t : Text) → answers (text_in (submit_of (piece_asked 1 65))) (Ok t) → Single (part_with 1 65) ≡ t
unfolding headed_text header_at elements_behind key_of run_in
first_text t f = inside (Single (part_with 1 65)) t f

second_text : (t : Text) → answers (text_in (submit_of (piece_asked 2 66))) (Ok t) → Single (part_with 2 66) ≡ t
unfolding headed_text header_at elements_behind key_of run_in
second_text t f = inside (Single (part_with 2 66)) t f

no_write : (k : ℕ) (w : WorldEvent) (h to : List ℕ) (r : Bool) (t : List ℕ) → numbered k piece_events ≡ Some w → Does w (Write h to r t) → ⊥
no_write zero w h to r t e d = absurd cc
no_write (suc zero) w h to r t e d = ⊎_elim (λ (q : w ≡ Whole (Write h to r t)). absurd cc) (λ (q : w ≡ Stopped After (Write h to r t)). absurd cc) d
no_write (suc (suc zero)) w h to r t e d = ⊎_elim (λ (q : w ≡ Whole (Write h to r t)). absurd cc) (λ (q : w ≡ Stopped After (Write h to r t)). absurd cc) d
no_write (suc (suc (suc n))) w h to r t e d = absurd cc

-- the first event or the second
abbrev Which : ℕ → ScriptSubmission → Type 0
Which n s = ((n ≡ 1) × (piece_asked 1 65 ≡ s)) ⊎ ((n ≡ 2) × (piece_asked 2 66 ≡ s))

which : (n : ℕ) (w : WorldEvent) (s : ScriptSubmission) → numbered n piece_events ≡ Some w → Does w (Submit s) → Which n s
which zero w s e d = absurd cc
which (suc zero) w s e d = inl (refl, ⊎_elim (λ (q : w ≡ Whole (Submit s)). cc) (λ (q : w ≡ Stopped After (Submit s)). absurd cc) d)
which (suc (suc zero)) w s e d = inr (refl, ⊎_elim (λ (q : w ≡ Whole (Submit s)). cc) (λ (q : w ≡ Stopped After (Submit s)). absurd cc) d)
which (suc (suc (suc n))) w s e d = absurd cc

-- ---- the part of each message

one_is_not_two : ◌≡◌ {A = ℕ} 1 2 → ⊥
one_is_not_two e = absurd cc

only_first : (id : ℕ) → HasLine id (piece_reports 1).table → 1 ≡ id
only_first id h = ⊎_elim (λ (e : h.0 ≡ piece_line 1). ap (λ (z : ReportedMessage). z.id) (sym e) ∙ h.1.1) (λ (n : ⊥). absurd n) h.1.0

pred_is : (a b : ℕ) → suc a ≡ suc b → a ≡ b
pred_is a b e = omega (arith, e)

module _ (l : ReportedMessage) (o : IsOfEvent setup piece_events piece_reports l) where
  abbrev Own : Type 0
  Own = IsOfApplication setup piece_events piece_reports o.number l.id o.origin

  by_owner : IsOfOwner setup piece_events piece_reports o.number l.id o.origin → ⊥
  by_owner w = no_write o.origin.given_at w.writing w.frame.handset w.to w.report w.text w.written_at w.writes

  parts_of : (a : Own) (s : ScriptSubmission) (p : SinglePart) → s ≡ a.asked → ((t : Text) → answers (text_in (submit_of s)) (Ok t) → Single p ≡ t) → p ∷ [] ≡ o.origin.parts
  parts_of a s p e reads =
      let text : answers (text_in (submit_of s)) (Ok o.origin.submission.text) =
      subst (λ (z : ScriptSubmission). answers (text_in (submit_of z)) (Ok o.origin.submission.text)) (sym e) a.submission.text in
      ap (λ (t : Text). bodies_under a.reference t) (reads o.origin.submission.text text) ∙ sym a.parts

  first_parts : l.id ≡ 1 → part_with 1 65 ∷ [] ≡ o.origin.parts
  first_parts id = ⊎_elim
      (λ (a : Own).
      ⊎_elim
      (λ (one : (o.number ≡ 1) × (piece_asked 1 65 ≡ a.asked)). parts_of a (piece_asked 1 65) (part_with 1 65) one.1 first_text)
      (λ (two : (o.number ≡ 2) × (piece_asked 2 66 ≡ a.asked)).
      let before : 1 ≡ o.appears.before = pred_is 1 o.appears.before (sym two.0 ∙ o.appears.next) in
      absurd (o.appears.new (subst (λ (k : ℕ). HasLine l.id (piece_reports k).table) before (piece_line 1, (inl refl, sym id)))))
      (which o.number a.event a.asked a.at a.does))
      (λ (w : IsOfOwner setup piece_events piece_reports o.number l.id o.origin). absurd (by_owner w))
      o.makes

  second_parts : l.id ≡ 2 → part_with 2 66 ∷ [] ≡ o.origin.parts
  second_parts id = ⊎_elim
      (λ (a : Own).
      ⊎_elim
      (λ (one : (o.number ≡ 1) × (piece_asked 1 65 ≡ a.asked)).
      absurd (one_is_not_two (only_first l.id (subst (λ (k : ℕ). HasLine l.id (piece_reports k).table) one.0 o.appears.there) ∙ id)))
      (λ (two : (o.number ≡ 2) × (piece_asked 2 66 ≡ a.asked)). parts_of a (piece_asked 2 66) (part_with 2 66) two.1 second_text)
      (which o.number a.event a.asked a.at a.does))
      (λ (w : IsOfOwner setup piece_events piece_reports o.number l.id o.origin). absurd (by_owner w))
      o.makes

only_part : (p b : SinglePart) (n : ℕ) → numbered n (p ∷ []) ≡ Some b → (n ≡ 1) × (p ≡ b)
only_part p b zero e = absurd cc
only_part p b (suc zero) e = (refl, cc)
only_part p b (suc (suc n)) e = absurd cc

-- ---- what the second part carries

abbrev carried : PartOf
carried = record {
  content = record { coding = Octets; dcs = 4; units = 66 ∷ [] };
  key = Some (record { reference = EightBit 7; total = 2; number = 2 });
}

abbrev reads_as : Result PartOf UnpackError → Result PartOf UnpackError → Type 0
reads_as a b = a ≡ b

same_part : (a b : PartOf) → reads_as (Ok a) (Ok b) → a ≡ b
same_part a b e = cc

second_carries : (x : PartOf) → reads_as (part_in true 4 7 (5 ∷ 0 ∷ 3 ∷ 7 ∷ 2 ∷ 2 ∷ 66 ∷ [])) (Ok x) → carried ≡ x
unfolding part_in header_at elements_behind key_of run_in
second_carries x e = same_part carried x e

-- ---- a round begins with number 1

first_and : (a b : Bool) → (a && b) ≡ true → a ≡ true
first_and true b e = refl
first_and false b e = absurd cc

second_and : (a b : Bool) → (a && b) ≡ true → b ≡ true
second_and true b e = e
second_and false b e = absurd cc

third_of : (a b c d : Bool) → (a && b && c && d) ≡ true → c ≡ true
third_of true true true d e = refl
third_of true true false d e = absurd cc
third_of true false c d e = absurd cc
third_of false b c d e = absurd cc

abbrev no_content : Option Content
no_content = None

none_joined : (c : Content) → no_content ≡ Some c → ⊥
none_joined c e = absurd cc

begins_with_one : (p : PartOf) (ps : List PartOf) (c : Content) → content_joined (p ∷ ps) ≡ Some c → (key_or_alone p.key).number ≡ 1
begins_with_one p ps c e =
    let k : ConcatKey = key_or_alone p.key in
    let whole : is_whole (p ∷ ps) ≡ true = ⊎_elim
    (λ (t : is_whole (p ∷ ps) ≡ true). t)
    (λ (f : is_whole (p ∷ ps) ≡ false).
    absurd (none_joined c (sym (cond-false (is_whole (p ∷ ps)) (Some (record { coding = p.content.coding; dcs = p.content.dcs; units = units_of (p ∷ ps) })) no_content f) ∙ e)))
    (cases_Bool (is_whole (p ∷ ps))) in
    let from_one : bear_from k.reference k.total p.content.dcs 1 (p ∷ ps) ≡ true =
    second_and (k.total == length (p ∷ ps)) (bear_from k.reference k.total p.content.dcs 1 (p ∷ ps)) whole in
    let first : bears k.reference k.total p.content.dcs 1 p ≡ true =
    first_and (bears k.reference k.total p.content.dcs 1 p) (bear_from k.reference k.total p.content.dcs (1 + 1) ps) from_one in
    eqb-true k.number 1 (third_of (is_same_reference k.reference k.reference) (k.total == k.total) (k.number == 1) (p.content.dcs == p.content.dcs) first)

-- ---- so each round has the part of message 1

abbrev Joins : List Piece → Type 0
Joins g = IsJoined setup piece_events piece_reports joined_twice joined_row g

two_is_not_one : ◌≡◌ {A = ℕ} 2 1 → ⊥
two_is_not_one e = absurd cc

nothing_joins : (c : Content) → content_joined [] ≡ Some c → ⊥
nothing_joins c e = absurd cc

module _ (x : Piece) (p : IsPiece setup piece_events piece_reports joined_twice joined_row x) where
  its_part : (q : SinglePart) → q ∷ [] ≡ p.of_event.origin.parts → (x.number ≡ 1) × (q ≡ x.body)
  its_part q e =
      only_part q x.body x.number (ap (λ (ps : List SinglePart). numbered x.number ps) (e ∙ ap (λ (z : Origin). z.parts) p.origin) ∙ p.body)

  second_number : x.line.id ≡ 2 → (key_or_alone x.content.key).number ≡ 2
  second_number id =
      let body : part_with 2 66 ≡ x.body = (its_part (part_with 2 66) (second_parts x.line p.of_event id)).1 in
      let reads : reads_as (part_in true 4 7 (5 ∷ 0 ∷ 3 ∷ 7 ∷ 2 ∷ 2 ∷ 66 ∷ [])) (Ok x.content) =
      subst (λ (b : SinglePart). reads_as (part_in b.header_indicator b.data_coding_scheme b.length b.octets) (Ok x.content)) (sym body) p.carries in
      ap (λ (c : PartOf). (key_or_alone c.key).number) (sym (second_carries x.content reads))

  -- the piece in front of a round
  in_front : (key_or_alone x.content.key).number ≡ 1 → (x.line.id ≡ 1) × (x.number ≡ 1)
  in_front key = ⊎_elim
      (λ (e : x.line ≡ piece_line 1).
      let id : x.line.id ≡ 1 = ap (λ (z : ReportedMessage). z.id) e in
      (id, (its_part (part_with 1 65) (first_parts x.line p.of_event id)).0))
      (λ (j : Among x.line (piece_line 2 ∷ [])).
      ⊎_elim
      (λ (e : x.line ≡ piece_line 2). absurd (two_is_not_one (sym (second_number (ap (λ (z : ReportedMessage). z.id) e)) ∙ key)))
      (λ (n : ⊥). absurd n) j)
      p.among

abbrev HasFirst : List Piece → Type 0
HasFirst g = (x : Piece) × (Among x g × (x.line.id ≡ 1) × (x.number ≡ 1))

has_first : (g : List Piece) → Joins g → HasFirst g
has_first [] j = absurd (nothing_joins j.content j.joins)
has_first (x ∷ xs) j =
    let f = in_front x (j.each x (inl refl)) (begins_with_one x.content (contents xs) j.content j.joins) in
    (x, (inl refl, f.0, f.1))

both : (rounds : List (List Piece)) → AreJoined setup piece_events piece_reports joined_twice joined_twice.joined rounds → HaveNoneInCommon rounds → ⊥
both [] a h = a
both (g ∷ []) a h = a.1
both (g ∷ k ∷ rest) a h =
    let x = has_first g a.0 in
    let y = has_first k a.1.0 in
    h.0 k x.0 y.0 (inl refl) x.1.0 y.1.0 (x.1.1 ∙ sym y.1.1) (x.1.2 ∙ sym y.1.2)

pub refused : JoinedTwiceLaw
refused j = both j.0 j.1.0 j.1.1
