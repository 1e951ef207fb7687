use Rattle.std.proofs.Common.{arith, ◌≡◌, ℕ, zero, suc, List, [], ◌∷◌, refl, sym, ◌∙◌, ap, subst, inl, ⊎_elim, Some, ◌<◌}
use Rattle.sms_base.specs.Among.{Among}
use Rattle.sms_centre_rows.specs.declared.report_lines.ReportedMessage.{ReportedMessage}
use Rattle.sms_centre_rows.specs.declared.report_lines.ReceiptRow.{ReceiptRow}
use Rattle.sms_centre_rows.specs.declared.report_lines.MessageState.{MessageState}
use Rattle.sms_centre_rows.specs.declared.report_lines.MessageState.TheVariants.{Enroute, Final}
use Rattle.sms_base.specs.declared.final_state.FinalState.{FinalState}
use Rattle.sms_base.specs.declared.final_state.FinalState.TheVariants.{Delivered, Deleted}
use Rattle.std.specs.Prelude.{◌≤◌}
use Rattle.sms_concat.specs.Cutting.{split_of}
use Rattle.sms_tpdu.specs.MoreMessages.{compared}
use Rattle.sms_world.proofs.wrong_reports.Apart.{only_line, the_one}
use Rattle.sms_world.proofs.wrong_reports.Read.{part, content, octets_are, text_reads}
use Rattle.sms_world.proofs.wrong_reports.RightReports.{asked_of, none_before, submitted}
use Rattle.sms_world.specs.wrong_reports.Literals.{accepted, answer, asked, events, given, good, handed, handset, hello, hello_octets, line, name, nothing, receipt, reports, setup, source, submits, taken}
use Rattle.sms_intake.specs.PartTexts.{deliver_octets}
use Rattle.sms_world.specs.headline.PlainHeadline.{AnswersAreTrue}
use Rattle.sms_world.specs.headline.PlainReport.{Appears, IsAcceptedOnce, IsOfApplication, IsOfEvent, IsPartOf, NamesMessage, Origin, Stays, WasDelivered, compared_line}
use Rattle.sms_world.specs.headline.PlainScript.{IsAskedBy}
use Rattle.sms_world.specs.headline.PlainWords.{numbered}
use Rattle.sms_world.specs.wrong_reports.Tried.{GoodLaw}
use Rattle.sms_base.specs.declared.originator.Originator.TheVariants.{Application}
use Rattle.sms_base.specs.declared.wish.Wish.TheVariants.{Always}
use Rattle.sms_intake.specs.declared.submission.SinglePart.{SinglePart}
use Rattle.sms_intake.specs.declared.submission.Submission.{Submission}
use Rattle.sms_script.specs.declared.report.rows.AcceptedRow.{AcceptedRow}
use Rattle.sms_script.specs.declared.event.Act.TheVariants.{Query, Cancel}
use Rattle.sms_script.specs.declared.report.answers.Answer.{Answer}
use Rattle.sms_script.specs.declared.report.answers.Answered.TheVariants.{Accepted, Status}
use Rattle.smpp_pdu.specs.declared.status.CommandStatus.TheVariants.{ESME_RSYSERR}
use Rattle.sms_script.specs.declared.event.WorldEvent.TheVariants.{Whole}

-- ---- what was submitted

abbrev pub u : Submission
u = submitted (Application name) source Always content

pub asked_by : IsAskedBy setup asked u
asked_by = asked_of 0 hello content text_reads

abbrev pub origin : Origin
origin = record { submission = u; parts = part ∷ []; given_at = 1 }

appears : Appears (reports good) 1 1
appears = record { before = 0; next = refl; new = λ h. absurd h.1.0; there = (line Enroute, (inl refl, refl)) }

of_application : IsOfApplication setup events (reports good) 1 1 origin
unfolding split_of
of_application = record {
  event = submits;
  at = refl;
  asked = asked;
  does = inl refl;
  answered = λ e. inl refl;
  submission = asked_by;
  reference = 0;
  parts = refl;
  given_at = refl;
}

one_of_three : 1 ≤ 3
one_of_three = omega arith

abbrev of_event : (s : MessageState) → IsOfEvent setup events (reports good) (line s)
of_event s = record {
  number = 1;
  within = one_of_three;
  appears = appears;
  origin = origin;
  makes = inl of_application;
  from = refl;
  to = refl;
}

-- ---- reports one after another

hands : Stays taken (handed (accepted hello_octets ∷ []))
hands = record { lines = λ m i. (m, (i, refl, refl, refl)); final = λ m s i e. i; receipts = λ x i. absurd i }

enroute_is_not_final : (s : FinalState) → Enroute ≡ Final s → ⊥
enroute_is_not_final s e = absurd cc

ends : Stays (handed (accepted hello_octets ∷ [])) good
ends = record {
  lines = λ m i. ⊎_elim
      (λ (e : m ≡ line Enroute).
      (line (Final Delivered), (inl refl, ap (λ (z : ReportedMessage). z.id) (sym e), ap (λ (z : ReportedMessage). z.from) (sym e), ap (λ (z : ReportedMessage). z.to) (sym e))))
      (λ (n : ⊥). absurd n) i;
  final = λ m s i e. absurd (enroute_is_not_final s (sym (only_line m Enroute i) ∙ e));
  receipts = λ x i. absurd i;
}

stay : (n : ℕ) → n < 3 → Stays (reports good n) (reports good (suc n))
stay zero h = none_before nothing taken refl refl
stay (suc zero) h = hands
stay (suc (suc zero)) h = ends
stay (suc (suc (suc n))) h = absurd (no h)
  where
    no : suc (suc (suc n)) < 3 → ⊥
    no q = omega arith

-- ---- no query, and no cancellation

no_query : (n : ℕ) (a b : List ℕ) → numbered (suc n) events ≡ Some (Whole (Query a b)) → ⊥
no_query zero a b e = absurd cc
no_query (suc zero) a b e = absurd cc
no_query (suc (suc zero)) a b e = absurd cc
no_query (suc (suc (suc n))) a b e = absurd cc

no_cancel : (n : ℕ) (a b : List ℕ) → numbered (suc n) events ≡ Some (Whole (Cancel a b)) → ⊥
no_cancel zero a b e = absurd cc
no_cancel (suc zero) a b e = absurd cc
no_cancel (suc (suc zero)) a b e = absurd cc
no_cancel (suc (suc (suc n))) a b e = absurd cc

enroute_is_not_deleted : Enroute ≡ Final Deleted → ⊥
enroute_is_not_deleted e = absurd cc

delivered_is_not_deleted : Final Delivered ≡ Final Deleted → ⊥
delivered_is_not_deleted e = absurd cc

none_deleted : (n : ℕ) (m : ReportedMessage) → Among m (reports good (suc n)).table → m.state ≡ Final Deleted → ⊥
none_deleted zero m i e = enroute_is_not_deleted (sym (only_line m Enroute i) ∙ e)
none_deleted (suc zero) m i e = enroute_is_not_deleted (sym (only_line m Enroute i) ∙ e)
none_deleted (suc (suc n)) m i e = delivered_is_not_deleted (sym (only_line m (Final Delivered) i) ∙ e)

-- ---- answers

one_is : (id : ℕ) (a : Answer) → a ≡ answer → a.answered ≡ Accepted id → 1 ≡ id
one_is id a e f = number (ap (λ (z : Answer). z.answered) (sym e) ∙ f)
  where
    number : Accepted 1 ≡ Accepted id → 1 ≡ id
    number q = cc

names : NamesMessage events (reports good) 1 1
names = record { asked = asked; at = refl; appears = appears }

no_status : (a : Answer) → a ≡ answer → a.answered ≡ Status ESME_RSYSERR → ⊥
no_status a e f = no (ap (λ (z : Answer). z.answered) (sym e) ∙ f)
  where
    no : Accepted 1 ≡ Status ESME_RSYSERR → ⊥
    no q = absurd cc

answers : AnswersAreTrue events (reports good) good
answers = record {
  ascend = (λ x i. absurd i, tt);
  named = λ a id i f.
      subst (λ (k : ℕ). NamesMessage events (reports good) a.event k) (one_is id a (the_one answer a i) f)
      (subst (λ (k : ℕ). NamesMessage events (reports good) k 1) (ap (λ (z : Answer). z.event) (sym (the_one answer a i))) names);
  queries = λ n a b s e i. absurd (no_query n a b e);
  cancels = λ n a b e. absurd (no_cancel n a b e);
  deleted = λ n m h i e j. absurd (none_deleted n m i e);
  no_system_error = λ a i f. no_status a (the_one answer a i) f;
}

-- ---- deliveries

first_of : (n : ℕ) (b : SinglePart) → numbered n (part ∷ []) ≡ Some b → (1 ≡ n) × (part ≡ b)
first_of zero b e = absurd cc
first_of (suc zero) b e = (refl, cc)
first_of (suc (suc n)) b e = absurd cc

abbrev row : AcceptedRow
row = record { handset = handset; reference = 0; tpdu = deliver_octets 946684800 u part }

row_is : row ≡ compared_line (accepted hello_octets)
unfolding compared
row_is = ap (λ (z : List ℕ). record { handset = handset; reference = 0; tpdu = z }) (octets_are u 946684800 refl asked_by)

once : IsAcceptedOnce good (line (Final Delivered)) 1 u part
once = record { given = given; among = inl refl; down = refl; holder = refl; handset = refl; once = inl (row_is, λ i. absurd i) }

delivered : WasDelivered setup events (reports good) good (line (Final Delivered))
delivered = record {
  of_event = of_event (Final Delivered);
  each = λ n b e.
      subst (λ (k : ℕ). IsAcceptedOnce good (line (Final Delivered)) k u b) (first_of n b e).0
      (subst (λ (p : SinglePart). IsAcceptedOnce good (line (Final Delivered)) 1 u p) (first_of n b e).1 once);
}

is_part : IsPartOf setup events (reports good) good (accepted hello_octets)
is_part = record {
  line = line (Final Delivered);
  among = inl refl;
  of_event = of_event (Final Delivered);
  number = 1;
  body = part;
  numbered_so = refl;
  given = given;
  given_there = inl refl;
  down = refl;
  holder = refl;
  is = sym row_is;
}

pub has_it : GoodLaw
has_it = record {
  messages = record {
    ascending = (λ x i. absurd i, tt);
    of_events = λ m i. subst (λ (z : ReportedMessage). IsOfEvent setup events (reports good) z) (sym (the_one (line (Final Delivered)) m i)) (of_event (Final Delivered));
    stay = stay;
  };
  receipts = record {
    state = λ x i. (line (Final Delivered), (inl refl, ap (λ (z : ReceiptRow). z.id) (sym (the_one receipt x i)), ap (λ (z : ReceiptRow). Final z.state) (sym (the_one receipt x i))));
    one = (λ y i. absurd i, tt);
    frames = λ f x id i d c k t. absurd i;
  };
  answers = answers;
  references = (λ y i. absurd i, tt);
  deliveries = λ hold. record {
    lines = λ m i s. subst (λ (z : ReportedMessage). WasDelivered setup events (reports good) good z) (sym (the_one (line (Final Delivered)) m i)) delivered;
    receipts = λ x i s. (line (Final Delivered), (inl refl, ap (λ (z : ReceiptRow). z.id) (sym (the_one receipt x i)), delivered));
    accepted = λ a i d. subst (λ (z : AcceptedRow). IsPartOf setup events (reports good) good z) (sym (the_one (accepted hello_octets) a i)) is_part;
    once = (λ d i. absurd i, tt);
    sent = λ x i s. absurd i;
    joined = ([], (tt, tt));
  };
}
