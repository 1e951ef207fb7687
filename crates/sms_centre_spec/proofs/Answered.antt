-- A submission that is answered with a number stands in the rows under it.
use Rattle.std.proofs.Common.{◌≡◌, ℕ, ◌+◌, List, [], ◌∷◌, Option, Some, None, Result, Ok, Err, subst}
use Rattle.std.specs.Prelude.{nat_le}
use Rattle.std.proofs.lemmas.Bool.{cond_both}
use Rattle.sms_rows.proofs.table.Tables.{row_at_put}
use Rattle.smpp_pdu.specs.declared.message.Message.{Message}
use Rattle.smpp_pdu.specs.declared.status.CommandStatus.{CommandStatus}
use Rattle.smpp_pdu.specs.declared.status.CommandStatus.TheVariants.{ESME_RSUBMITFAIL}
use Rattle.sms_centre_rows.specs.declared.messages.message.MessageRow.{MessageRow}
use Rattle.sms_centre_rows.specs.messages.Messages.{message_at, message_key}
use Rattle.sms_centre_rows.specs.messages.SplitReferences.{next_split}
use Rattle.sms_centre_rows.specs.declared.waiting.handset.HandsetRow.{HandsetRow}
use Rattle.sms_centre_rows.specs.waiting.References.{handset_of}
use Rattle.sms_centre_spec.specs.declared.answer.CentreAnswer.TheVariants.{Submitted}
use Rattle.sms_centre_spec.specs.declared.event.CentreEvent.TheVariants.{Submit}
use Rattle.sms_intake.specs.declared.submission.CentreAccount.{CentreAccount}
use Rattle.sms_intake.specs.declared.submission.SinglePart.{SinglePart}
use Rattle.sms_intake.specs.declared.submission.Submission.{Submission}
use Rattle.sms_centre_spec.specs.CentreEvent.{happened}
use Rattle.sms_centre_spec.specs.Draft.{Core, Draft, Store, bars_in, core_of, draft_of, handsets_in, messages_in, parts_in, rows_of}
use Rattle.sms_centre_spec.specs.MessageNumbers.{next_number}
use Rattle.sms_centre_spec.specs.Requests.{account_at, accepted, refused, submission_received, submit_by}
use Rattle.sms_intake.specs.SmppIntake.{from_pdu}
use Rattle.sms_centre_spec.specs.Shares.{unless_too_much}
use Rattle.sms_centre_spec.specs.Submitting.{accept, accept_as, accept_split, accept_under, enter, give_part, give_parts, is_reference_taken, message_of, part_given, reference_for}
use Rattle.sms_intake.specs.PartBodies.{bodies_under, is_long}
use Rattle.sms_centre_spec.proofs.Stages.{IfThere, unless_kept}
use Rattle.sms_centre_spec.proofs.AcceptedConsistent.{then_there}

-- a message of that number stands there
abbrev IsThere : ℕ → Store → Type 0
IsThere id s = (m : MessageRow) × (message_at id (messages_in s) ≡ Some m)

part_there : (id i : ℕ) (u : Submission) (n : ℕ) (b : SinglePart) (h : HandsetRow) (o : Option ℕ) (s : Store) → IsThere i s → IfThere (IsThere i) (part_given id u n b h o s)
part_there id i u n b h None s k = tt
part_there id i u n b h (Some r) s k = k

parts_there : (id i : ℕ) (u : Submission) (n : ℕ) (bs : List SinglePart) (s : Store) → IsThere i s → IfThere (IsThere i) (give_parts id u n bs s)
parts_there id i u n [] s k = k
parts_there id i u n (b ∷ bs) s k =
    let h : HandsetRow = handset_of u.handset (handsets_in s) in
    then_there (IsThere i) (IsThere i) (λ (e : Store). give_parts id u (n + 1) bs e) (give_part id u n b h s) (part_there id i u n b h (reference_for h s) s k) (λ e g. parts_there id i u (n + 1) bs e g)

under_there : (id : ℕ) (split : Option ℕ) (bs : List SinglePart) (u : Submission) (s : Store) → IfThere (IsThere id) (accept_under id split bs u s)
under_there id split bs u s =
    let m : MessageRow = message_of id s.moment split u in
    parts_there id id u 1 bs (enter id split u s) (m, row_at_put message_key m (messages_in s))

split_there : (id : ℕ) (o : Option ℕ) (u : Submission) (s : Store) → IfThere (IsThere id) (accept_split id o u s)
split_there id None u s = tt
split_there id (Some r) u s = under_there id (Some r) (bodies_under r u.text) u s

accept_there : (u : Submission) (s : Store) → IfThere (IsThere (next_number (rows_of s))) (accept u s)
accept_there u s =
    let id : ℕ = next_number (rows_of s) in
    let split : Option ℕ = next_split u.source u.handset (bars_in s) (messages_in s) (parts_in s) in
    cond_both (nat_le id 9999999999) (accept_as id u s) None (λ o. IfThere (IsThere id) o)
    (λ t. cond_both (is_long u.text) (accept_split id split u s) (accept_under id None (bodies_under 0 u.text) u s) (λ o. IfThere (IsThere id) o)
    (λ e. split_there id split u s) (λ e. under_there id None (bodies_under 0 u.text) u s))
    (λ t. tt)

-- where it is answered with a number, that number stands there
abbrev Names : Draft → Type 0
Names d = (id : ℕ) → d.answer ≡ Some (Submitted id) → IsThere id d.store

accepted_names : (n : ℕ) (o : Option Store) (d : Draft) → IfThere (IsThere n) o → Names (accepted n o d)
accepted_names n None d k id e = absurd cc
accepted_names n (Some s) d k id e = let same : n ≡ id = cc in subst (λ (i : ℕ). IsThere i s) same k

arrived_names : (u : Result Submission CommandStatus) (d : Draft) → Names (submission_received u d)
arrived_names (Err status) d = λ id e. absurd cc
arrived_names (Ok u) d =
    let o : Option Store = accept u d.store in
    let n : ℕ = next_number (rows_of d.store) in
    cond_both (is_reference_taken u d.store) (refused ESME_RSUBMITFAIL d) (accepted n (unless_too_much u o) d) Names
    (λ t id e. absurd cc) (λ t. accepted_names n (unless_too_much u o) d (unless_kept (IfThere (IsThere n)) u o tt (accept_there u d.store)))

by_names : (a : Option CentreAccount) (m : Message) (d : Draft) → Names (submit_by a m d)
by_names None m d = λ id e. absurd cc
by_names (Some a) m d = arrived_names (from_pdu a d.store.moment m) d

pub answer_names : (account : ℕ) (m : Message) (c : Core) (id : ℕ) → (happened (Submit account m) c).answer ≡ Some (Submitted id)
    → (row : MessageRow) × (message_at id (core_of (happened (Submit account m) c)).rows.messages ≡ Some row)
answer_names account m c = by_names (account_at account c.rows.setup.accounts) m (draft_of c)

-- ---- and the number is the next one

abbrev IsNext : ℕ → Draft → Type 0
IsNext n d = (id : ℕ) → d.answer ≡ Some (Submitted id) → id ≡ n

accepted_next : (n : ℕ) (o : Option Store) (d : Draft) → IsNext n (accepted n o d)
accepted_next n None d id e = absurd cc
accepted_next n (Some s) d id e = cc

arrived_next : (u : Result Submission CommandStatus) (d : Draft) → IsNext (next_number (rows_of d.store)) (submission_received u d)
arrived_next (Err status) d = λ id e. absurd cc
arrived_next (Ok u) d =
    let n : ℕ = next_number (rows_of d.store) in
    let o : Option Store = unless_too_much u (accept u d.store) in
    cond_both (is_reference_taken u d.store) (refused ESME_RSUBMITFAIL d) (accepted n o d) (IsNext n) (λ t id e. absurd cc) (λ t. accepted_next n o d)

by_next : (a : Option CentreAccount) (m : Message) (d : Draft) → IsNext (next_number (rows_of d.store)) (submit_by a m d)
by_next None m d = λ id e. absurd cc
by_next (Some a) m d = arrived_next (from_pdu a d.store.moment m) d

pub answer_next : (account : ℕ) (m : Message) (c : Core) (id : ℕ) → (happened (Submit account m) c).answer ≡ Some (Submitted id) → id ≡ next_number c.rows
answer_next account m c = by_next (account_at account c.rows.setup.accounts) m (draft_of c)
