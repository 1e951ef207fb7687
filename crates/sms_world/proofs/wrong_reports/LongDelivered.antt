-- A text of two parts was delivered: each part was accepted once, under its own reference.
use Rattle.std.proofs.Common.{arith, ◌≡◌, ℕ, zero, suc, ◌≤◌, [], ◌∷◌, true, refl, sym, ap, subst, inl, inr, ⊎_elim, Some, Ok}
use Rattle.sms_alphabet.specs.declared.concat_key.ConcatReference.TheVariants.{SixteenBit}
use Rattle.sms_alphabet.specs.declared.scheme.Coding.TheVariants.{Octets}
use Rattle.sms_base.specs.StampWriting.{clock_at}
use Rattle.sms_base.specs.declared.final_state.FinalState.TheVariants.{Delivered}
use Rattle.sms_base.specs.declared.originator.Originator.TheVariants.{Application}
use Rattle.sms_base.specs.declared.wish.Wish.TheVariants.{Always}
use Rattle.sms_concat.specs.Cutting.{filled, split_of}
use Rattle.sms_concat.specs.declared.content.Content.{Content}
use Rattle.sms_intake.specs.PartTexts.{deliver_octets}
use Rattle.sms_intake.specs.SmppText.{plain_text, text_in}
use Rattle.sms_intake.specs.declared.submission.SinglePart.{SinglePart}
use Rattle.sms_intake.specs.declared.submission.Submission.{Submission}
use Rattle.sms_intake.specs.declared.submission.Text.TheVariants.{Whole as WholeText}
use Rattle.sms_script.specs.declared.event.Act.TheVariants.{Submit}
use Rattle.sms_script.specs.declared.event.WorldEvent.TheVariants.{Whole}
use Rattle.sms_centre_rows.specs.declared.report_lines.MessageState.TheVariants.{Final}
use Rattle.sms_script.specs.declared.report.rows.AcceptedRow.{AcceptedRow}
use Rattle.sms_tpdu.specs.MoreMessages.{compared}
use Rattle.sms_world.specs.headline.PlainReport.{Appears, IsAcceptedOnce, IsOfApplication, IsOfEvent, Origin, compared_line}
use Rattle.sms_world.specs.headline.PlainScript.{IsAskedBy}
use Rattle.sms_world.specs.headline.PlainWords.{numbered}
use Rattle.sms_world.specs.wrong_reports.Literals.{both, both_parts, given, handset, line, long_accepted, long_asked, long_data, long_events, name, second_given, setup, source, zeros}
use Rattle.sms_world.specs.wrong_reports.Tried.{TrueSplitLaw}
use Rattle.sms_world.proofs.wrong_reports.RightReports.{asked_of, submitted}
use Rattle.sms_script.specs.Requests.{submit_of}

abbrev content : Content
content = record { coding = Octets; dcs = 4; units = zeros 141 }

abbrev u : Submission
u = submitted (Application name) source Always content

abbrev piece : ℕ → ℕ → ℕ → SinglePart
piece number size length = record {
  header_indicator = true;
  data_coding_scheme = 4;
  length = length;
  octets = long_data number size;
  key = Some (record { reference = SixteenBit 7; total = 2; number = number });
}

abbrev first : SinglePart
first = piece 1 133 140

abbrev second : SinglePart
second = piece 2 8 15

reads : text_in (submit_of long_asked) ≡ Ok (WholeText content)
unfolding plain_text split_of filled
reads = refl

asked_by : IsAskedBy setup long_asked u
asked_by = asked_of 4 (zeros 141) content reads

abbrev origin : Origin
origin = record { submission = u; parts = first ∷ second ∷ []; given_at = 1 }

of_application : IsOfApplication setup long_events both_parts 1 1 origin
unfolding split_of filled
of_application = record {
  event = Whole (Submit long_asked);
  at = refl;
  asked = long_asked;
  does = inl refl;
  answered = λ e. inl refl;
  submission = asked_by;
  reference = 7;
  parts = refl;
  given_at = refl;
}

one_of_one : 1 ≤ 1
one_of_one = omega arith

appears : Appears both_parts 1 1
appears = record { before = 0; next = refl; new = λ h. absurd h.1.0; there = (line (Final Delivered), (inl refl, refl)) }

abbrev of_event : IsOfEvent setup long_events both_parts (line (Final Delivered))
of_event = record { number = 1; within = one_of_one; appears = appears; origin = origin; makes = inl of_application; from = refl; to = refl }

-- ---- their octets

abbrev row : ℕ → SinglePart → AcceptedRow
row reference b = record { handset = handset; reference = reference; tpdu = deliver_octets 946684800 u b }

first_is : row 0 first ≡ compared_line (long_accepted 0 1 133 140)
unfolding compared clock_at
first_is = refl

second_is : row 1 second ≡ compared_line (long_accepted 1 2 8 15)
unfolding compared clock_at
second_is = refl

apart : ◌≡◌ {A = ℕ} 0 1 → ⊥
apart e = absurd cc

first_once : IsAcceptedOnce both (line (Final Delivered)) 1 u first
first_once = record {
  given = given;
  among = inl refl;
  down = refl;
  holder = refl;
  handset = refl;
  once = inl (first_is, λ i. ⊎_elim (λ (e : row 0 first ≡ compared_line (long_accepted 1 2 8 15)). apart (ap (λ (a : AcceptedRow). a.reference) e)) (λ (n : ⊥). n) i);
}

second_once : IsAcceptedOnce both (line (Final Delivered)) 2 u second
second_once = record {
  given = second_given;
  among = inr (inl refl);
  down = refl;
  holder = refl;
  handset = refl;
  once = inr (λ e. apart (ap (λ (a : AcceptedRow). a.reference) (sym e)), inl (second_is, λ i. absurd i));
}

each : (n : ℕ) (b : SinglePart) → numbered n (first ∷ second ∷ []) ≡ Some b → IsAcceptedOnce both (line (Final Delivered)) n u b
each zero b e = absurd cc
each (suc zero) b e =
    let same : first ≡ b = cc in subst (λ (p : SinglePart). IsAcceptedOnce both (line (Final Delivered)) 1 u p) same first_once
each (suc (suc zero)) b e =
    let same : second ≡ b = cc in subst (λ (p : SinglePart). IsAcceptedOnce both (line (Final Delivered)) 2 u p) same second_once
each (suc (suc (suc n))) b e = absurd cc

pub has_it : TrueSplitLaw
has_it = record { of_event = of_event; each = each }
