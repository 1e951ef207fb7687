-- An account whose submission is accepted leaves half to others.
use Rattle.std.proofs.Common.{◌≡◌, ℕ, ◌+◌, ◌-◌, ◌*◌, ◌≤◌, List, [], ◌∷◌, Bool, true, false, cond, Option, Some, None, Result, Ok, Err, refl, ap, sym, ◌∙◌, subst, arith}
use Rattle.std.specs.Prelude.{not, nat_le, count_by}
use Rattle.std.proofs.lemmas.Bool.{cond_both, ltb-false}
use Rattle.std.proofs.lemmas.List.Sums.{sum_by-cons}
use Rattle.sms_base.proofs.Steps.{bind_ok, ok_is}
use Rattle.sms_base.specs.declared.originator.Originator.TheVariants.{Application}
use Rattle.sms_rows.proofs.table.Tables.{row_at_put}
use Rattle.smpp_pdu.specs.declared.message.Message.{Message}
use Rattle.smpp_pdu.specs.declared.status.CommandStatus.{CommandStatus}
use Rattle.smpp_pdu.specs.declared.status.CommandStatus.TheVariants.{ESME_RSUBMITFAIL}
use Rattle.sms_centre_rows.specs.declared.messages.message.MessageRow.{MessageRow}
use Rattle.sms_centre_rows.specs.messages.Messages.{message_at, message_key}
use Rattle.sms_centre_rows.specs.messages.SplitReferences.{next_split}
use Rattle.sms_centre_rows.specs.declared.waiting.handset.HandsetRow.{HandsetRow}
use Rattle.sms_centre_rows.specs.declared.waiting.queued_part.QueuedPart.{QueuedPart}
use Rattle.sms_centre_rows.specs.waiting.References.{handset_of}
use Rattle.sms_intake.specs.declared.submission.CentreAccount.{CentreAccount}
use Rattle.sms_intake.specs.declared.submission.SinglePart.{SinglePart}
use Rattle.sms_intake.specs.declared.submission.Submission.{Submission}
use Rattle.sms_intake.specs.PartBodies.{bodies_under, is_long}
use Rattle.sms_intake.specs.SmppIntake.{from_pdu, judged_in, submission_for}
use Rattle.sms_centre_spec.specs.declared.answer.CentreAnswer.TheVariants.{Submitted}
use Rattle.sms_centre_spec.specs.declared.event.CentreEvent.TheVariants.{Submit}
use Rattle.sms_centre_spec.specs.CentreEvent.{happened}
use Rattle.sms_centre_spec.specs.Draft.{Core, Draft, Store, bars_in, core_of, draft_of, handsets_in, messages_in, parts_in, rows_of, waiting_in}
use Rattle.sms_centre_spec.specs.MessageNumbers.{next_number}
use Rattle.sms_centre_spec.specs.Requests.{account_at, accepted, refused, submission_received, submit_by}
use Rattle.sms_centre_spec.specs.Shares.{held_by, held_by_others, holds_too_much, is_of_account, takes_too_much, unless_too_much}
use Rattle.sms_centre_spec.specs.Submitting.{accept, accept_as, accept_split, accept_under, enter, give_part, give_parts, is_reference_taken, message_of, part_given, reference_for}
use Rattle.sms_centre_spec.proofs.AcceptedConsistent.{then_there}
use Rattle.sms_centre_spec.proofs.Stages.{IfThere}
use Rattle.sms_world.specs.references_are_shared.Sharing.{HoldsAtMostHalf, LeavesHalf, is_submitted_by}

-- ---- what is held is what is counted

same_owner : (account : List ℕ) (m : Option MessageRow) → is_of_account account m ≡ is_submitted_by account m
same_owner account None = refl
same_owner account (Some m) = refl

one_held : (b c : Bool) (n m : ℕ) → b ≡ c → n ≡ m → cond b (1 + n) n ≡ cond c 1 0 + m
one_held true true n m o e = ap (λ x. 1 + x) e
one_held false false n m o e = omega (arith, e)
one_held true false n m o e = absurd cc
one_held false true n m o e = absurd cc

one_beside : (b c : Bool) (n m : ℕ) → b ≡ c → n ≡ m → cond b n (1 + n) ≡ cond (not c) 1 0 + m
one_beside true true n m o e = omega (arith, e)
one_beside false false n m o e = ap (λ x. 1 + x) e
one_beside true false n m o e = absurd cc
one_beside false true n m o e = absurd cc

module _ (account : List ℕ) (messages : List MessageRow) where
  abbrev is_its : QueuedPart → Bool
  is_its l = is_submitted_by account (message_at l.id messages)

  held_is : (ls : List QueuedPart) → held_by account messages ls ≡ count_by is_its ls
  held_is [] = refl
  held_is (l ∷ ls) =
      one_held (is_of_account account (message_at l.id messages)) (is_its l) (held_by account messages ls) (count_by is_its ls) (same_owner account (message_at l.id messages)) (held_is ls)
      ∙ sym (sum_by-cons (λ x. cond (is_its x) 1 0) l ls)

  beside_is : (ls : List QueuedPart) → held_by_others account messages ls ≡ count_by (λ x. not (is_its x)) ls
  beside_is [] = refl
  beside_is (l ∷ ls) =
      one_beside (is_of_account account (message_at l.id messages)) (is_its l) (held_by_others account messages ls) (count_by (λ x. not (is_its x)) ls) (same_owner account (message_at l.id messages)) (beside_is ls)
      ∙ sym (sum_by-cons (λ x. cond (not (is_its x)) 1 0) l ls)

  half : (ls : List QueuedPart) → holds_too_much account messages ls ≡ false → 2 * count_by is_its ls ≤ 256 - count_by (λ x. not (is_its x)) ls
  half ls e =
      subst (λ (n : ℕ). 2 * n ≤ 256 - count_by (λ x. not (is_its x)) ls) (held_is ls)
      (subst (λ (n : ℕ). 2 * held_by account messages ls ≤ 256 - n) (beside_is ls)
      (ltb-false (256 - held_by_others account messages ls) (2 * held_by account messages ls) e))

-- ---- what an accepted submission enters

-- the message of that number is of who submitted it, and for its handset
abbrev IsEntered : ℕ → Submission → Store → Type 0
IsEntered id u s = (m : MessageRow) × (message_at id (messages_in s) ≡ Some m) × (m.originator ≡ u.originator) × (m.handset ≡ u.handset)

part_there : (id i : ℕ) (w u : Submission) (n : ℕ) (b : SinglePart) (h : HandsetRow) (o : Option ℕ) (s : Store) → IsEntered i w s → IfThere (IsEntered i w) (part_given id u n b h o s)
part_there id i w u n b h None s k = tt
part_there id i w u n b h (Some r) s k = k

parts_there : (id i : ℕ) (w u : Submission) (n : ℕ) (bs : List SinglePart) (s : Store) → IsEntered i w s → IfThere (IsEntered i w) (give_parts id u n bs s)
parts_there id i w u n [] s k = k
parts_there id i w u n (b ∷ bs) s k =
    let h : HandsetRow = handset_of u.handset (handsets_in s) in
    then_there (IsEntered i w) (IsEntered i w) (λ (e : Store). give_parts id u (n + 1) bs e) (give_part id u n b h s) (part_there id i w u n b h (reference_for h s) s k) (λ e g. parts_there id i w u (n + 1) bs e g)

under_there : (id : ℕ) (split : Option ℕ) (bs : List SinglePart) (u : Submission) (s : Store) → IfThere (IsEntered id u) (accept_under id split bs u s)
under_there id split bs u s =
    let m : MessageRow = message_of id s.moment split u in
    parts_there id id u u 1 bs (enter id split u s) (m, row_at_put message_key m (messages_in s), refl, refl)

split_there : (id : ℕ) (o : Option ℕ) (u : Submission) (s : Store) → IfThere (IsEntered id u) (accept_split id o u s)
split_there id None u s = tt
split_there id (Some r) u s = under_there id (Some r) (bodies_under r u.text) u s

accept_there : (u : Submission) (s : Store) → IfThere (IsEntered (next_number (rows_of s)) u) (accept u s)
accept_there u s =
    let id : ℕ = next_number (rows_of s) in
    let split : Option ℕ = next_split u.source u.handset (bars_in s) (messages_in s) (parts_in s) in
    cond_both (nat_le id 9999999999) (accept_as id u s) None (λ o. IfThere (IsEntered id u) o)
    (λ t. cond_both (is_long u.text) (accept_split id split u s) (accept_under id None (bodies_under 0 u.text) u s) (λ o. IfThere (IsEntered id u) o)
    (λ e. split_there id split u s) (λ e. under_there id None (bodies_under 0 u.text) u s))
    (λ t. tt)

-- ---- and what is then held

-- it is entered, and who submitted it takes no more than half
abbrev IsShared : ℕ → Submission → Store → Type 0
IsShared id u s = IsEntered id u s × (takes_too_much u.originator (messages_in s) (waiting_in u.handset s) ≡ false)

shared : (id : ℕ) (u : Submission) (o : Option Store) → IfThere (IsEntered id u) o → IfThere (IsShared id u) (unless_too_much u o)
shared id u None k = tt
shared id u (Some s) k =
    cond_both (takes_too_much u.originator (messages_in s) (waiting_in u.handset s)) None (Some s) (λ o. IfThere (IsShared id u) o) (λ t. tt) (λ t. (k, t))

-- where it is answered with a number, the account leaves half to others
abbrev Leaves : Option CentreAccount → Draft → Type 0
Leaves account d = (id : ℕ) → d.answer ≡ Some (Submitted id) → LeavesHalf account id (rows_of d.store)

leaves : (account : CentreAccount) (id : ℕ) (u : Submission) (s : Store) → u.originator ≡ Application account.name → IsShared id u s → LeavesHalf (Some account) id (rows_of s)
leaves account id u s its k =
    let m : MessageRow = k.0.0 in
    let few : holds_too_much account.name (messages_in s) (waiting_in u.handset s) ≡ false =
    subst (λ o. takes_too_much o (messages_in s) (waiting_in u.handset s) ≡ false) its k.1 in
    (m, k.0.1, k.0.2 ∙ its, subst (λ (h : List ℕ). HoldsAtMostHalf account.name h (rows_of s)) (sym k.0.3) (half account.name (messages_in s) (waiting_in u.handset s) few))

accepted_leaves : (account : CentreAccount) (n : ℕ) (u : Submission) (o : Option Store) (d : Draft) → u.originator ≡ Application account.name → IfThere (IsShared n u) o → Leaves (Some account) (accepted n o d)
accepted_leaves account n u None d its k id e = absurd cc
accepted_leaves account n u (Some s) d its k id e =
    let same : n ≡ id = cc in subst (λ (i : ℕ). LeavesHalf (Some account) i (rows_of s)) same (leaves account n u s its k)

-- the submission is of the account
pub of_account : (account : CentreAccount) (now : ℕ) (m : Message) (u : Submission) → from_pdu account now m ≡ Ok u → u.originator ≡ Application account.name
unfolding from_pdu
of_account account now m u e =
    let judged = bind_ok (judged_in account now m) _ u e in
    ap (λ (x : Submission). x.originator) (sym (ok_is {E = CommandStatus} (submission_for account m judged.0) u judged.2))

arrived_leaves : (account : CentreAccount) (r : Result Submission CommandStatus) (d : Draft) → ((u : Submission) → r ≡ Ok u → u.originator ≡ Application account.name)
    → Leaves (Some account) (submission_received r d)
arrived_leaves account (Err status) d its = λ id e. absurd cc
arrived_leaves account (Ok u) d its =
    let o : Option Store = unless_too_much u (accept u d.store) in
    let n : ℕ = next_number (rows_of d.store) in
    cond_both (is_reference_taken u d.store) (refused ESME_RSUBMITFAIL d) (accepted n o d) (Leaves (Some account))
    (λ t id e. absurd cc) (λ t. accepted_leaves account n u o d (its u refl) (shared n u (accept u d.store) (accept_there u d.store)))

by_leaves : (a : Option CentreAccount) (m : Message) (d : Draft) → Leaves a (submit_by a m d)
by_leaves None m d = λ id e. absurd cc
by_leaves (Some account) m d = arrived_leaves account (from_pdu account d.store.moment m) d (λ u e. of_account account d.store.moment m u e)

pub submit_leaves : (place : ℕ) (m : Message) (c : Core) (id : ℕ) → (happened (Submit place m) c).answer ≡ Some (Submitted id)
    → LeavesHalf (account_at place c.rows.setup.accounts) id (core_of (happened (Submit place m) c)).rows
submit_leaves place m c = by_leaves (account_at place c.rows.setup.accounts) m (draft_of c)
