-- How many of the 256 references of a handset (3GPP TS 24.011 8.2.3) an account holds. Each part and each status report that waits for
-- the handset holds one.
use Rattle.std.specs.Prelude.{◌≡◌, ℕ, ◌-◌, ◌*◌, ◌≤◌, List, Bool, false, not, count_by, Option, Some, None}
use Rattle.sms_base.specs.declared.originator.Originator.TheVariants.{Application}
use Rattle.sms_centre_rows.specs.declared.messages.message.MessageRow.{MessageRow}
use Rattle.sms_centre_rows.specs.messages.Messages.{message_at}
use Rattle.sms_centre_rows.specs.reports.Receipts.{is_account}
use Rattle.sms_centre_spec.specs.declared.rows.Rows.{Rows}
use Rattle.sms_centre_spec.specs.SoundRows.{all_for}
use Rattle.sms_intake.specs.declared.submission.CentreAccount.{CentreAccount}

-- whether the account submitted it; a handset's own message, and so its status report, is of no account
abbrev pub is_submitted_by : List ℕ → Option MessageRow → Bool
is_submitted_by account None = false
is_submitted_by account (Some m) = is_account account m.originator

-- how many of the handset's references are taken for messages of the account
abbrev pub held_of : List ℕ → List ℕ → Rows → ℕ
held_of account handset rows = count_by (λ waits. is_submitted_by account (message_at waits.id rows.messages)) (all_for handset rows)

-- how many are taken for anything else
abbrev pub held_beside : List ℕ → List ℕ → Rows → ℕ
held_beside account handset rows = count_by (λ waits. not (is_submitted_by account (message_at waits.id rows.messages))) (all_for handset rows)

-- the account holds at most half of what is free beside others
abbrev pub HoldsAtMostHalf : List ℕ → List ℕ → Rows → Type 0
HoldsAtMostHalf account handset rows = 2 * held_of account handset rows ≤ 256 - held_beside account handset rows

-- The message of that number is the account's, which holds at most half of what is free beside others for its handset.
abbrev pub LeavesHalf : Option CentreAccount → ℕ → Rows → Type 0
LeavesHalf None id rows = ⊥
LeavesHalf (Some account) id rows =
    (row : MessageRow) × (message_at id rows.messages ≡ Some row) × (row.originator ≡ Application account.name)
    × HoldsAtMostHalf account.name row.handset rows
