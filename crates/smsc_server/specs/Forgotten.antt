-- What a run forgets, and what its rows say of what they do not forget.
use Rattle.std.specs.Prelude.{◌≡◌, ℕ, List, [], ◌∷◌, ◌++◌, Bool, true, false, if◌then◌else◌, Option, Some}
use Rattle.sms_centre_rows.specs.declared.messages.message.MessageRow.{MessageRow}
use Rattle.sms_centre_rows.specs.declared.messages.part.PartRow.{PartRow}
use Rattle.sms_centre_rows.specs.declared.reports.report.ReportRow.{ReportRow}
use Rattle.sms_centre_rows.specs.messages.Messages.{message_at, part_at}
use Rattle.sms_centre_rows.specs.reports.Reports.{report_of}
use Rattle.sms_centre_spec.specs.Keeping.{IsMessageStill, IsPartStill, IsReportStill}
use Rattle.sms_centre_spec.specs.declared.jobs.job.Job.{Job}
use Rattle.sms_centre_spec.specs.declared.jobs.reply.Reply.{Reply}
use Rattle.sms_centre_spec.specs.declared.rows.Rows.{Rows}
use Rattle.sms_centre_spec.specs.forgetting.Forget.{is_going_now}
use Rattle.sms_keeper.specs.declared.machine.Fate.{Fate}
use Rattle.sms_keeper.specs.declared.machine.Fate.TheVariants.{Done, NoMemory, Refused}
use Rattle.sms_keeper.specs.declared.machine.Item.{Item}
use Rattle.sms_keeper.specs.History.{IsHistory}
use Rattle.smsc_service.specs.Asking.{asked_by}
use Rattle.smsc_service.specs.Course.{parts_of}
use Rattle.smsc_service.specs.Serving.{Serving, after, gives}
use Rattle.smsc_service.specs.declared.asking.SeatRequest.{SeatRequest}
use Rattle.smsc_service.specs.declared.asking.SeatRequest.TheVariants.{Event, Nothing, Taken, Forget, Enrol}

-- whether what is asked makes the centre forget the message of that number
abbrev pub forgets_for : SeatRequest → Fate → Serving → ℕ → Bool
forgets_for (Event event) fate s id = false
forgets_for Nothing fate s id = false
forgets_for Taken fate s id = false
forgets_for (Forget before from most) Done s id = is_going_now before from most s.core id
forgets_for (Forget before from most) NoMemory s id = false
forgets_for (Forget before from most) Refused s id = false
forgets_for (Enrol account) fate s id = false

-- whether the item does
abbrev pub forgets : Serving → Item Job Reply → ℕ → Bool
forgets s e id = forgets_for (asked_by s.seats e.stimulus) e.fate s id

-- What is found in the rows behind these items, or was found as the centre forgot the message of that number.
abbrev pub left : {A : Type 0} → (Rows → Option A) → ℕ → Serving → List (Item Job Reply) → Option A
left found id s [] = found s.core.rows
left found id s (e ∷ items) = if forgets s e id then found s.core.rows else left found id (after s e.stimulus e.fate) items

-- the row of the message of this number
abbrev pub message_left : ℕ → Serving → List (Item Job Reply) → Option MessageRow
message_left id s items = left (λ (rows : Rows). message_at id rows.messages) id s items

-- its part of that number; a part names its message
abbrev pub part_left : PartRow → ℕ → ℕ → Serving → List (Item Job Reply) → Option PartRow
part_left p id number s items = left (λ (rows : Rows). part_at id number rows.parts) p.id s items

-- its report
abbrev pub report_left : ℕ → Serving → List (Item Job Reply) → Option ReportRow
report_left id s items = left (λ (rows : Rows). report_of id rows.reports) id s items

-- What the rows have they have behind these items, but for what the centre forgot, which they had until then: no message, part or report is
-- lost otherwise, and a message that had ended is unchanged.
pub record KeepsOrForgets (s : Serving) (items : List (Item Job Reply)) : Type 0 where
  pub messages : (id : ℕ) (m : MessageRow) → message_at id s.core.rows.messages ≡ Some m
      → (x : MessageRow) × ((message_left id s items ≡ Some x) × IsMessageStill m x)
  pub parts : (id number : ℕ) (p : PartRow) → part_at id number s.core.rows.parts ≡ Some p
      → (x : PartRow) × ((part_left p id number s items ≡ Some x) × IsPartStill p x)
  pub reports : (id : ℕ) (r : ReportRow) → report_of id s.core.rows.reports ≡ Some r → (x : ReportRow) × ((report_left id s items ≡ Some x) × IsReportStill r x)

-- behind these items stands a centre of which the claim holds
abbrev pub Behind : Serving → List (Item Job Reply) → (Serving → Type 0) → Type 0
Behind first items Is = (s : Serving) × (IsHistory gives after first items s × Is s)

-- Of each message that the centre forgot by these items the claim holds, as the message was then, with so many parts.
abbrev pub IsSoOfGone : (MessageRow → ℕ → Type 0) → Serving → List (Item Job Reply) → Type 0
IsSoOfGone Is first items = (one other : List (Item Job Reply)) (e : Item Job Reply) (s : Serving) (id : ℕ) (row : MessageRow) → items ≡ one ++ e ∷ other
    → IsHistory gives after first one s → forgets s e id ≡ true → message_at id s.core.rows.messages ≡ Some row → Is row (parts_of id s.core.rows)
