-- To whom the receipts of a run go.
use Rattle.std.specs.Prelude.{◌≡◌, ◌==◌, ℕ, Bool, true, List, [], ◌∷◌, ◌++◌, Option, Some, None, slice_get, if◌then◌else◌}
use Rattle.sms_base.specs.Among.{Among}
use Rattle.sms_centre_rows.specs.declared.messages.message.MessageRow.{MessageRow}
use Rattle.sms_centre_rows.specs.reports.Receipts.{is_account}
use Rattle.sms_centre_spec.specs.declared.jobs.job.Job.{Job}
use Rattle.sms_centre_spec.specs.declared.jobs.job.Job.TheVariants.{Bound, Unbound, Submit, Query, Cancel, DeliverAnswered, LinkUp, LinkDown, Frame}
use Rattle.sms_centre_spec.specs.declared.jobs.reply.Reply.{Reply}
use Rattle.sms_centre_spec.specs.declared.rows.Rows.{Rows}
use Rattle.sms_intake.specs.declared.submission.CentreAccount.{CentreAccount}
use Rattle.sms_keeper.specs.declared.machine.Fate.{Fate}
use Rattle.sms_keeper.specs.declared.machine.Fate.TheVariants.{Done, NoMemory, Refused}
use Rattle.sms_keeper.specs.declared.machine.Item.{Item}
use Rattle.sms_keeper.specs.declared.machine.Stimulus.{Stimulus}
use Rattle.sms_keeper.specs.declared.machine.Stimulus.TheVariants.{Job as JobOf, Tick, Own}
use Rattle.sms_receipt.specs.declared.final_message.Final.{Final}
use Rattle.smsc_service.specs.Seats.{nobody}
use Rattle.smsc_service.specs.Serving.{Serving, restarted}
use Rattle.smsc_server.specs.AccountsCome.{accounts_behind}
use Rattle.smsc_server.specs.Forgotten.{Behind, message_left}
use Rattle.smsc_server.specs.RunPromises.{receipt_for}

-- ---- who is bound at a seat

-- the place of the account, and whether the session receives
abbrev pub Binding : Type 0
Binding = ℕ × Bool

-- behind a job
abbrev pub bound_by : Job → Option Binding → Option Binding
bound_by (Bound account receives) before = Some (account, receives)
bound_by Unbound before = None
bound_by (Submit account pdu) before = before
bound_by (Query account pdu) before = before
bound_by (Cancel account pdu) before = before
bound_by (DeliverAnswered id is_accepted) before = before
bound_by (LinkUp handset) before = before
bound_by LinkDown before = before
bound_by (Frame octets) before = before

-- only the jobs of a seat change who is bound there
abbrev pub bound_there : ℕ → Stimulus Job → Option Binding → Option Binding
bound_there n (JobOf seat job) before = if n == seat then bound_by job before else before
bound_there n (Tick now) before = before
bound_there n (Own errand) before = before

-- What the centre has no memory for is not done. After a refused write it starts again with whoever is bound then.
abbrev pub if_done : Fate → Option Binding → Option Binding → Option Binding
if_done Done before behind = behind
if_done NoMemory before behind = before
if_done Refused before behind = behind

abbrev pub bound_behind : ℕ → Option Binding → Stimulus Job → Fate → Option Binding
bound_behind n before stimulus fate = if_done fate before (bound_there n stimulus before)

-- behind these items
abbrev pub bound_after : ℕ → Option Binding → List (Item Job Reply) → Option Binding
bound_after n before [] = before
bound_after n before (e ∷ items) = bound_after n (bound_behind n before e.stimulus e.fate) items

-- ---- what is claimed

-- The account that is bound there, in a session that receives, is the one that submitted the message of this receipt. So says the row that
-- the message has behind these items, or had as it was forgotten.
pub record IsOfAccount (accounts : List CentreAccount) (s : Serving) (items : List (Item Job Reply)) (bound : Option Binding) (end : Final) : Type 0 where
  pub place : ℕ
  pub bound_so : bound ≡ Some (place, true)
  pub account : CentreAccount
  pub account_so : slice_get accounts place ≡ Some account
  pub row : MessageRow
  pub row_so : message_left end.id s items ≡ Some row
  pub submitted : is_account account.name row.originator ≡ true

-- Each receipt that a seat got is for the account that is bound there, by the jobs of the seat that were done so far. Which account has that place
-- say the accounts with which the run began, and those that came so far.
abbrev pub GoToAccounts : Rows → List (Item Job Reply) → Type 0
GoToAccounts rows items =
    (one other : List (Item Job Reply)) (e : Item Job Reply) (seat : ℕ) (end : Final) → items ≡ one ++ e ∷ other → Among (receipt_for seat end) e.outs
    → Behind (restarted rows nobody) (one ++ e ∷ [])
    (λ s. IsOfAccount (accounts_behind rows.setup.accounts (one ++ e ∷ [])) s other (bound_after seat None (one ++ e ∷ [])) end)
