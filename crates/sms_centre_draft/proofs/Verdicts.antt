-- What the rows judge of a submission is what becomes of it.
use Rattle.std.proofs.Common.{◌≡◌, ℕ, ◌≤◌, nat_le, List, [], ◌∷◌, length, Bool, true, false, Option, Some, None, Ok, Err, refl, sym, ◌∙◌, ap, subst, ⊎_elim, cond}
use Rattle.std.specs.Prelude.{◌&&◌, ◌||◌}
use Rattle.std.specs.Option.{option_map}
use Rattle.std.proofs.lemmas.Bool.{and_cases, and_parts, cases_Bool, cond-false, cond-true}
use Rattle.smpp_pdu.specs.declared.status.CommandStatus.TheVariants.{ESME_RMSGQFUL, ESME_RSUBMITFAIL}
use Rattle.sms_base.proofs.Bools.{and_false}
use Rattle.sms_base.specs.declared.holder.Holder.{Holder}
use Rattle.sms_base.specs.declared.originator.Originator.{Originator}
use Rattle.sms_base.specs.declared.originator.Originator.TheVariants.{Application, Handset}
use Rattle.std.specs.Str.{bytes_eq}
use Rattle.sms_centre_rows.specs.declared.messages.message.MessageRow.{MessageRow}
use Rattle.sms_centre_rows.specs.messages.Messages.{is_pending}
use Rattle.sms_centre_rows.specs.messages.SplitReferences.{next_split}
use Rattle.sms_intake.specs.declared.refusal.SubmitRefusal.{SubmitRefusal}
use Rattle.sms_intake.specs.declared.refusal.SubmitRefusal.TheVariants.{Congested, Duplicate, ReferenceTaken}
use Rattle.sms_intake.specs.declared.submission.SinglePart.{SinglePart}
use Rattle.sms_intake.specs.declared.submission.Submission.{Submission}
use Rattle.sms_intake.specs.PartBodies.{bodies_under, is_long}
use Rattle.sms_centre_spec.specs.Consistent.{IsConsistent, IsSubmission}
use Rattle.sms_centre_spec.specs.Draft.{Draft, Store, answer_with, bars_in, in_store, messages_in, parts_in, rows_of, waiting_in}
use Rattle.sms_centre_draft.specs.Judging.{can_be_accepted, judged, parts_for, room_for_parts}
use Rattle.sms_centre_spec.specs.MessageNumbers.{next_number}
use Rattle.sms_centre_spec.specs.Receiving.{confirm, is_duplicate, is_of_reference, is_pending_double, refuse, submit_accepted, submit_received}
use Rattle.sms_centre_spec.specs.Requests.{accepted, refused, submission_received}
use Rattle.sms_centre_spec.specs.Shares.{takes_too_much, unless_too_much}
use Rattle.sms_centre_spec.specs.Submitting.{accept, accept_as, accept_split, accept_under, is_reference_taken}
use Rattle.sms_centre_spec.specs.declared.answer.CentreAnswer.TheVariants.{Submitted}
use Rattle.sms_centre_spec.proofs.NextNumbers.{below_next_number}
use Rattle.sms_centre_draft.specs.Submitting.{IsNewId}
use Rattle.sms_centre_draft.proofs.Judged.{no_room_for, room_for}

-- ---- whether it can be accepted

module _ (u : Submission) (s : Store) (consistent : IsConsistent s) (is : IsSubmission u) where
  below : IsNewId (next_number (rows_of s)) s
  below m among = below_next_number (rows_of s) m consistent.message_keys among

  -- with those parts
  under : (id : ℕ) (split : Option ℕ) (bs : List SinglePart) → IsNewId id s → length bs ≤ 20 → room_for_parts u (Some bs) s ≡ true
      → (e : Store) × (unless_too_much u (accept_under id split bs u s) ≡ Some e)
  under id split bs new few room =
      let g = room_for s id split u bs consistent new is few room in (g.0, ap (λ (o : Option Store). unless_too_much u o) g.1.0 ∙ g.1.1)

  split_under : (id : ℕ) (o : Option ℕ) → IsNewId id s → room_for_parts u (option_map (λ (reference : ℕ). bodies_under reference u.text) o) s ≡ true
      → (e : Store) × (unless_too_much u (accept_split id o u s) ≡ Some e)
  split_under id None new room = absurd cc
  split_under id (Some r) new room = under id (Some r) (bodies_under r u.text) new (is.few r) room

  no_split_under : (id : ℕ) (o : Option ℕ) → IsNewId id s → room_for_parts u (option_map (λ (reference : ℕ). bodies_under reference u.text) o) s ≡ false → unless_too_much u (accept_split id o u s) ≡ None
  no_split_under id None new room = refl
  no_split_under id (Some r) new room = no_room_for s id (Some r) u (bodies_under r u.text) consistent new is (is.few r) room

  accepted_as : (id : ℕ) → IsNewId id s → room_for_parts u (parts_for u s) s ≡ true → (e : Store) × (unless_too_much u (accept_as id u s) ≡ Some e)
  accepted_as id new room =
      let free : Option ℕ = next_split u.source u.handset (bars_in s) (messages_in s) (parts_in s) in
      let long : Option (List SinglePart) = option_map (λ (reference : ℕ). bodies_under reference u.text) free in
      let short : Option (List SinglePart) = Some (bodies_under 0 u.text) in
      ⊎_elim
      (λ (t : is_long u.text ≡ true).
      let g = split_under id free new (ap (λ (o : Option (List SinglePart)). room_for_parts u o s) (sym (cond-true (is_long u.text) long short t)) ∙ room) in
      let found : (e : Store) × (unless_too_much u (accept_as id u s) ≡ Some e) =
      (g.0, ap (λ (o : Option Store). unless_too_much u o) (cond-true (is_long u.text) (accept_split id free u s) (accept_under id None (bodies_under 0 u.text) u s) t) ∙ g.1) in found)
      (λ (t : is_long u.text ≡ false).
      let g = under id None (bodies_under 0 u.text) new (is.few 0) (ap (λ (o : Option (List SinglePart)). room_for_parts u o s) (sym (cond-false (is_long u.text) long short t)) ∙ room) in
      let found : (e : Store) × (unless_too_much u (accept_as id u s) ≡ Some e) =
      (g.0, ap (λ (o : Option Store). unless_too_much u o) (cond-false (is_long u.text) (accept_split id free u s) (accept_under id None (bodies_under 0 u.text) u s) t) ∙ g.1) in found)
      (cases_Bool (is_long u.text))

  not_accepted_as : (id : ℕ) → IsNewId id s → room_for_parts u (parts_for u s) s ≡ false → unless_too_much u (accept_as id u s) ≡ None
  not_accepted_as id new room =
      let free : Option ℕ = next_split u.source u.handset (bars_in s) (messages_in s) (parts_in s) in
      let long : Option (List SinglePart) = option_map (λ (reference : ℕ). bodies_under reference u.text) free in
      let short : Option (List SinglePart) = Some (bodies_under 0 u.text) in
      ⊎_elim
      (λ (t : is_long u.text ≡ true).
      ap (λ (o : Option Store). unless_too_much u o) (cond-true (is_long u.text) (accept_split id free u s) (accept_under id None (bodies_under 0 u.text) u s) t)
      ∙ no_split_under id free new (ap (λ (o : Option (List SinglePart)). room_for_parts u o s) (sym (cond-true (is_long u.text) long short t)) ∙ room))
      (λ (t : is_long u.text ≡ false).
      ap (λ (o : Option Store). unless_too_much u o) (cond-false (is_long u.text) (accept_split id free u s) (accept_under id None (bodies_under 0 u.text) u s) t)
      ∙ no_room_for s id None u (bodies_under 0 u.text) consistent new is (is.few 0) (ap (λ (o : Option (List SinglePart)). room_for_parts u o s) (sym (cond-false (is_long u.text) long short t)) ∙ room))
      (cases_Bool (is_long u.text))

  judged_in : can_be_accepted u s ≡ true → (e : Store) × (unless_too_much u (accept u s) ≡ Some e)
  judged_in can =
      let n : ℕ = next_number (rows_of s) in
      let p = and_parts (nat_le n 9999999999) (room_for_parts u (parts_for u s) s) can in
      let g = accepted_as n below p.1 in
      (g.0, ap (λ (o : Option Store). unless_too_much u o) (cond-true (nat_le n 9999999999) (accept_as n u s) None p.0) ∙ g.1)

  judged_out : can_be_accepted u s ≡ false → unless_too_much u (accept u s) ≡ None
  judged_out can =
      let n : ℕ = next_number (rows_of s) in
      ⊎_elim
      (λ (t : nat_le n 9999999999 ≡ true).
      ap (λ (o : Option Store). unless_too_much u o) (cond-true (nat_le n 9999999999) (accept_as n u s) None t)
      ∙ not_accepted_as n below (⊎_elim
      (λ (f : nat_le n 9999999999 ≡ false). let bad : true ≡ false = sym t ∙ f in absurd cc)
      (λ (f : room_for_parts u (parts_for u s) s ≡ false). f)
      (and_cases (nat_le n 9999999999) (room_for_parts u (parts_for u s) s) can)))
      (λ (t : nat_le n 9999999999 ≡ false). ap (λ (o : Option Store). unless_too_much u o) (cond-false (nat_le n 9999999999) (accept_as n u s) None t))
      (cases_Bool (nat_le n 9999999999))

-- ---- which verdict, by the three tests

abbrev pub Refuses : Bool → Bool → Bool → SubmitRefusal → Type 0
Refuses true b c r = Duplicate ≡ r
Refuses false true c r = ReferenceTaken ≡ r
Refuses false false true r = ⊥
Refuses false false false r = Congested ≡ r

refuses : (a b c : Bool) (n : ℕ) (r : SubmitRefusal) → cond a (Err Duplicate) (cond b (Err ReferenceTaken) (cond c (Ok n) (Err Congested))) ≡ Err r → Refuses a b c r
refuses true b c n r e = cc
refuses false true c n r e = cc
refuses false false true n r e = absurd cc
refuses false false false n r e = cc

accepts : (a b c : Bool) (n id : ℕ) → cond a (Err Duplicate) (cond b (Err ReferenceTaken) (cond c (Ok n) (Err Congested))) ≡ Ok id → (a ≡ false) × (b ≡ false) × (c ≡ true) × (n ≡ id)
accepts true b c n id e = absurd cc
accepts false true c n id e = absurd cc
accepts false false true n id e = (refl, refl, refl, cc)
accepts false false false n id e = absurd cc

-- ---- an application's

no_reference : (account : List ℕ) (o : Originator) → is_of_reference (Application account) o ≡ false
no_reference account (Application a) = refl
no_reference account (Handset m) = refl

-- no application's is a duplicate
pub no_double : (u : Submission) (account : List ℕ) (ms : List MessageRow) → u.originator ≡ Application account → is_pending_double u ms ≡ false
no_double u account [] e = refl
no_double u account (m ∷ ms) e =
    ap (λ (o : Originator). (is_pending m && (is_of_reference o m.originator && (bytes_eq u.source.digits m.source.digits && bytes_eq u.handset m.handset))) || is_pending_double u ms) e
    ∙ ap (λ (b : Bool). (is_pending m && (b && (bytes_eq u.source.digits m.source.digits && bytes_eq u.handset m.handset))) || is_pending_double u ms) (no_reference account m.originator)
    ∙ ap (λ (b : Bool). b || is_pending_double u ms) (and_false (is_pending m))
    ∙ no_double u account ms e

never_double : (u : Submission) (account : List ℕ) (s : Store) → u.originator ≡ Application account → is_duplicate u s ≡ false
never_double u account s e = ap (λ (b : Bool). u.rejects_duplicates && b) (no_double u account (messages_in s) e) ∙ and_false u.rejects_duplicates

pub submission_alone : (u : Submission) (account : List ℕ) (s : Store) → u.originator ≡ Application account → judged u s ≡ Err Duplicate → ⊥
submission_alone u account s from e = other (is_reference_taken u s) (can_be_accepted u s)
    (subst (λ (a : Bool). Refuses a (is_reference_taken u s) (can_be_accepted u s) Duplicate) (never_double u account s from)
    (refuses (is_duplicate u s) (is_reference_taken u s) (can_be_accepted u s) (next_number (rows_of s)) Duplicate e))
  where
    other : (b c : Bool) → Refuses false b c Duplicate → ⊥
    other true c r = absurd cc
    other false true r = r
    other false false r = absurd cc

-- what is not too much was accepted
was_accepted : (u : Submission) (o : Option Store) (e : Store) → unless_too_much u o ≡ Some e → o ≡ Some e
was_accepted u None e is = absurd cc
was_accepted u (Some x) e is = by (takes_too_much u.originator (messages_in x) (waiting_in u.handset x)) is
  where
    by : (b : Bool) → cond b None (Some x) ≡ Some e → Some x ≡ Some e
    by true q = absurd cc
    by false q = q

pub submission_accepted : (u : Submission) (account : List ℕ) (d : Draft) (id : ℕ) → IsConsistent d.store → IsSubmission u → u.originator ≡ Application account → judged u d.store ≡ Ok id
    → (s : Store) × ((accept u d.store ≡ Some s) × (submission_received (Ok u) d ≡ answer_with (Submitted id) (in_store s d)))
submission_accepted u account d id consistent is from e =
    let s : Store = d.store in
    let n : ℕ = next_number (rows_of s) in
    let k = accepts (is_duplicate u s) (is_reference_taken u s) (can_be_accepted u s) n id e in
    let g = judged_in u s consistent is k.2 in
    let answered : submission_received (Ok u) d ≡ answer_with (Submitted id) (in_store g.0 d) =
    ap (λ (b : Bool). cond b (refused ESME_RSUBMITFAIL d) (accepted n (unless_too_much u (accept u s)) d)) k.1
    ∙ ap (λ (o : Option Store). accepted n o d) g.1 ∙ ap (λ (m : ℕ). answer_with (Submitted m) (in_store g.0 d)) k.3 in
    (g.0, (was_accepted u (accept u s) g.0 g.1, answered))

pub submission_taken : (u : Submission) (account : List ℕ) (d : Draft) → IsConsistent d.store → IsSubmission u → u.originator ≡ Application account → judged u d.store ≡ Err ReferenceTaken
    → submission_received (Ok u) d ≡ refused ESME_RSUBMITFAIL d
submission_taken u account d consistent is from e =
    let s : Store = d.store in
    let r = subst (λ (a : Bool). Refuses a (is_reference_taken u s) (can_be_accepted u s) ReferenceTaken) (never_double u account s from)
    (refuses (is_duplicate u s) (is_reference_taken u s) (can_be_accepted u s) (next_number (rows_of s)) ReferenceTaken e) in
    ap (λ (b : Bool). cond b (refused ESME_RSUBMITFAIL d) (accepted (next_number (rows_of s)) (unless_too_much u (accept u s)) d)) (so (is_reference_taken u s) (can_be_accepted u s) r)
  where
    so : (b c : Bool) → Refuses false b c ReferenceTaken → b ≡ true
    so true c r = refl
    so false true r = absurd r
    so false false r = absurd cc

pub submission_congested : (u : Submission) (account : List ℕ) (d : Draft) → IsConsistent d.store → IsSubmission u → u.originator ≡ Application account → judged u d.store ≡ Err Congested
    → submission_received (Ok u) d ≡ refused ESME_RMSGQFUL d
submission_congested u account d consistent is from e =
    let s : Store = d.store in
    let n : ℕ = next_number (rows_of s) in
    let r = subst (λ (a : Bool). Refuses a (is_reference_taken u s) (can_be_accepted u s) Congested) (never_double u account s from)
    (refuses (is_duplicate u s) (is_reference_taken u s) (can_be_accepted u s) n Congested e) in
    let so = tests (is_reference_taken u s) (can_be_accepted u s) r in
    ap (λ (b : Bool). cond b (refused ESME_RSUBMITFAIL d) (accepted n (unless_too_much u (accept u s)) d)) so.0
    ∙ ap (λ (o : Option Store). accepted n o d) (judged_out u s consistent is so.1)
  where
    tests : (b c : Bool) → Refuses false b c Congested → (b ≡ false) × (c ≡ false)
    tests true c r = absurd cc
    tests false true r = absurd r
    tests false false r = (refl, refl)

-- ---- a handset's

-- it has no account that could hold too much
of_handset : (u : Submission) (n : ℕ) (o : Option Store) → u.originator ≡ Handset n → unless_too_much u o ≡ o
of_handset u n None from = refl
of_handset u n (Some e) from =
    cond-false (takes_too_much u.originator (messages_in e) (waiting_in u.handset e)) None (Some e)
    (ap (λ (o : Originator). takes_too_much o (messages_in e) (waiting_in u.handset e)) from)

module _ (handset : List ℕ) (reference : ℕ) (tag : Holder) (d : Draft) where
  refused_by : (a b c : Bool) (r : SubmitRefusal) (x : Draft) → Refuses a b c r → (c ≡ false → x ≡ refuse handset reference tag Congested d)
      → cond a (refuse handset reference tag Duplicate d) (cond b (refuse handset reference tag ReferenceTaken d) x) ≡ refuse handset reference tag r d
  refused_by true b c r x is f = ap (λ (k : SubmitRefusal). refuse handset reference tag k d) is
  refused_by false true c r x is f = ap (λ (k : SubmitRefusal). refuse handset reference tag k d) is
  refused_by false false true r x is f = absurd is
  refused_by false false false r x is f = f refl ∙ ap (λ (k : SubmitRefusal). refuse handset reference tag k d) is

pub submit_refused : (u : Submission) (n reference : ℕ) (handset : List ℕ) (tag : Holder) (d : Draft) (refusal : SubmitRefusal) → IsConsistent d.store → IsSubmission u → u.originator ≡ Handset n
    → judged u d.store ≡ Err refusal → submit_received handset reference tag (Ok u) d ≡ refuse handset reference tag refusal d
submit_refused u n reference handset tag d refusal consistent is from e =
    let s : Store = d.store in
    refused_by handset reference tag d (is_duplicate u s) (is_reference_taken u s) (can_be_accepted u s) refusal (submit_accepted handset reference tag (accept u s) d)
    (refuses (is_duplicate u s) (is_reference_taken u s) (can_be_accepted u s) (next_number (rows_of s)) refusal e)
    (λ c. ap (λ (o : Option Store). submit_accepted handset reference tag o d) (sym (of_handset u n (accept u s) from) ∙ judged_out u s consistent is c))

pub submit_confirmed : (u : Submission) (n reference : ℕ) (handset : List ℕ) (tag : Holder) (d : Draft) (id : ℕ) → IsConsistent d.store → IsSubmission u → u.originator ≡ Handset n → judged u d.store ≡ Ok id
    → (s : Store) × ((accept u d.store ≡ Some s) × (submit_received handset reference tag (Ok u) d ≡ confirm handset reference tag (in_store s d)))
submit_confirmed u n reference handset tag d id consistent is from e =
    let s : Store = d.store in
    let k = accepts (is_duplicate u s) (is_reference_taken u s) (can_be_accepted u s) (next_number (rows_of s)) id e in
    let g = judged_in u s consistent is k.2 in
    let there : accept u s ≡ Some g.0 = sym (of_handset u n (accept u s) from) ∙ g.1 in
    let tested : cond (is_duplicate u s) (refuse handset reference tag Duplicate d) (cond (is_reference_taken u s) (refuse handset reference tag ReferenceTaken d) (submit_accepted handset reference tag (accept u s) d))
    ≡ submit_accepted handset reference tag (accept u s) d =
    ap (λ (a : Bool). cond a (refuse handset reference tag Duplicate d) (cond (is_reference_taken u s) (refuse handset reference tag ReferenceTaken d) (submit_accepted handset reference tag (accept u s) d))) k.0
    ∙ ap (λ (b : Bool). cond b (refuse handset reference tag ReferenceTaken d) (submit_accepted handset reference tag (accept u s) d)) k.1 in
    (g.0, (there, tested ∙ ap (λ (o : Option Store). submit_accepted handset reference tag o d) there))
