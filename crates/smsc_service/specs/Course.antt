-- A centre in a run, with what it has forgotten so far, and how long it keeps the rest.
use Rattle.std.specs.Prelude.{ℕ, List, [], ◌∷◌, ◌++◌, Option, if◌then◌else◌}
use Rattle.sms_centre.specs.Archiving.{parts_in}
use Rattle.sms_centre_rows.specs.declared.messages.message.MessageRow.{MessageRow}
use Rattle.sms_centre_rows.specs.messages.SplitReferences.{is_among}
use Rattle.sms_centre_spec.specs.declared.jobs.job.Job.{Job}
use Rattle.sms_centre_spec.specs.declared.jobs.reply.Reply.{Reply}
use Rattle.sms_centre_spec.specs.declared.rows.Rows.{Rows}
use Rattle.sms_centre_spec.specs.forgetting.Forget.{going_now}
use Rattle.sms_keeper.specs.declared.machine.Fate.{Fate}
use Rattle.sms_keeper.specs.declared.machine.Fate.TheVariants.{Done, NoMemory, Refused}
use Rattle.sms_keeper.specs.declared.machine.Stimulus.{Stimulus}
use Rattle.sms_keeper.specs.declared.outs.Out.{Out}
use Rattle.smsc_service.specs.Asking.{asked_by}
use Rattle.smsc_service.specs.Serving.{Serving, after as serving_after, gives as serving_gives}
use Rattle.smsc_service.specs.declared.asking.SeatRequest.{SeatRequest}
use Rattle.smsc_service.specs.declared.asking.SeatRequest.TheVariants.{Event, Nothing, Taken, Forget, Enrol}

-- a message that went, and how many parts it had
pub record Gone : Type 0 where
  pub message : MessageRow
  pub parts : ℕ

pub record Course : Type 0 where
  -- the centre, and who sits where
  pub serving : Serving
  -- the messages that it forgot since the run began, each as it was then
  pub gone : List Gone
  -- for how many seconds it keeps what has ended, if it forgets anything
  pub kept : Option ℕ

-- a run begins
abbrev pub begun : Option ℕ → Serving → Course
begun kept s = record { serving = s; gone = []; kept = kept }

-- how many parts the rows have of the message with this number
abbrev pub parts_of : ℕ → Rows → ℕ
parts_of id rows = parts_in rows id

-- those with one of these numbers
abbrev pub numbered : List ℕ → Rows → List MessageRow → List Gone
numbered ids rows [] = []
numbered ids rows (m ∷ ms) = if is_among m.id ids then record { message = m; parts = parts_of m.id rows } ∷ numbered ids rows ms else numbered ids rows ms

-- what goes by what is asked
abbrev pub went_for : SeatRequest → Fate → Serving → List Gone
went_for (Event event) fate s = []
went_for Nothing fate s = []
went_for Taken fate s = []
went_for (Forget before from most) Done s = numbered (going_now before from most s.core) s.core.rows s.core.rows.messages
went_for (Forget before from most) NoMemory s = []
went_for (Forget before from most) Refused s = []
went_for (Enrol account) fate s = []

abbrev pub went : Serving → Stimulus Job → Fate → List Gone
went s stimulus fate = went_for (asked_by s.seats stimulus) fate s

-- It gives what the centre gives. Nothing changes how long it keeps what has ended.
abbrev pub gives : Course → Stimulus Job → Fate → List (Out Reply)
gives c stimulus fate = serving_gives c.serving stimulus fate

abbrev pub after : Course → Stimulus Job → Fate → Course
after c stimulus fate = record { serving = serving_after c.serving stimulus fate; gone = went c.serving stimulus fate ++ c.gone; kept = c.kept }
