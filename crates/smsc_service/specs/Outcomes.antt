-- What came of an order, as its owner is told.
use Rattle.std.specs.Prelude.{ℕ, ◌==◌, Option, Some, None, if◌then◌else◌}
use Rattle.sms_base.specs.declared.final_state.FinalState.{FinalState}
use Rattle.sms_base.specs.declared.final_state.FinalState.TheVariants.{Delivered, Expired, Deleted as DeletedState, Undeliverable}
use Rattle.smpp_pdu.specs.declared.status.CommandStatus.{CommandStatus}
use Rattle.smpp_pdu.specs.declared.status.CommandStatus.TheVariants.{ESME_RCANCELFAIL, ESME_RINVMSGID}
use Rattle.sms_centre_rows.specs.declared.messages.message.MessageRow.{MessageRow}
use Rattle.sms_centre_rows.specs.messages.Messages.{is_pending}
use Rattle.sms_centre_spec.specs.declared.answer.CentreAnswer.{CentreAnswer}
use Rattle.sms_centre_spec.specs.declared.answer.CentreAnswer.TheVariants.{Cancelled, Queried, Refused}
use Rattle.sms_centre_spec.specs.declared.order.Order.{Order}
use Rattle.sms_centre_spec.specs.declared.order.Order.TheVariants.{Retry, Delete}
use Rattle.sms_keeper.specs.declared.machine.Fate.{Fate}
use Rattle.sms_keeper.specs.declared.machine.Fate.TheVariants.{Done, NoMemory, Refused as RefusedFate}
use Rattle.smsc_service.specs.declared.order_desk.OrderOutcome.{OrderOutcome}
use Rattle.smsc_service.specs.declared.order_desk.OrderOutcome.TheVariants.{Waits, Ended, Deleted, HasEnded, Unknown, Enrolled, Failed}

-- ---- what its owner is to hear, by the message as the order finds it

-- a message that has not ended is tried now
abbrev pub of_state : Option FinalState → OrderOutcome
of_state None = Waits
of_state (Some state) = Ended state

abbrev pub outcome_for : Option MessageRow → Order → OrderOutcome
outcome_for None order = Unknown
outcome_for (Some m) Retry = of_state m.state
outcome_for (Some m) Delete = if is_pending m then Deleted else HasEnded

-- ---- what an answer of the centre tells

-- A cancel_sm of a message that has ended fails with ESME_RCANCELFAIL, and a request of a number that no message has with ESME_RINVMSGID (SMPP v3.4 5.1.3).
abbrev pub of_status : CommandStatus → OrderOutcome
of_status ESME_RCANCELFAIL = HasEnded
of_status ESME_RINVMSGID = Unknown
of_status other = Failed

abbrev pub told_by : Option CentreAnswer → OrderOutcome
told_by None = Failed
told_by (Some (Queried id state _)) = of_state state
told_by (Some Cancelled) = Deleted
told_by (Some (Refused status)) = of_status status
told_by (Some other) = Failed

-- what is told of an account that was to come, by what befell it
abbrev pub told_of_account : Fate → OrderOutcome
told_of_account Done = Enrolled
told_of_account NoMemory = Failed
told_of_account RefusedFate = Failed

-- ---- the numbers of outcomes, in a desk

abbrev pub number_of : OrderOutcome → ℕ
number_of Failed = 0
number_of Waits = 1
number_of Deleted = 2
number_of HasEnded = 3
number_of Unknown = 4
number_of (Ended Delivered) = 5
number_of (Ended Expired) = 6
number_of (Ended DeletedState) = 7
number_of (Ended Undeliverable) = 8
number_of Enrolled = 9

abbrev pub outcome_at : ℕ → OrderOutcome
outcome_at n =
    if n == 1 then Waits
    else (if n == 2 then Deleted
    else (if n == 3 then HasEnded
    else (if n == 4 then Unknown
    else (if n == 5 then Ended Delivered
    else (if n == 6 then Ended Expired
    else (if n == 7 then Ended DeletedState
    else (if n == 8 then Ended Undeliverable
    else (if n == 9 then Enrolled else Failed))))))))
