-- What a centre has in the middle of a group, with who sits where.
use Rattle.std.specs.Prelude.{◌≡◌, ◌⊎◌, List}
use Rattle.sms_rows.specs.keep.KeepState.{KeepState}
use Rattle.sms_centre_group.specs.Grouping.{Spans, held_in, store_of}
use Rattle.sms_centre_spec.specs.SoundRows.{IsSound}
use Rattle.sms_centre_spec.specs.declared.jobs.job.Job.{Job}
use Rattle.sms_centre_spec.specs.declared.jobs.reply.Reply.{Reply}
use Rattle.sms_centre_spec.specs.declared.rows.Changes.{Changes}
use Rattle.sms_centre_spec.specs.declared.rows.Rows.{Rows}
use Rattle.sms_keeper.specs.declared.machine.Fate.{Fate}
use Rattle.sms_keeper.specs.declared.machine.Stimulus.{Stimulus}
use Rattle.sms_keeper.specs.declared.outs.Out.{Out}
use Rattle.sms_centre.specs.Enrolling.{accounts_of}
use Rattle.sms_intake.specs.declared.submission.CentreAccount.{CentreAccount}
use Rattle.smsc_service.specs.Accounts.{bare}
use Rattle.smsc_service.specs.declared.asking.SeatRequest.{SeatRequest}
use Rattle.smsc_service.specs.declared.seated_centre.SeatedCentre.{SeatedCentre}
use Rattle.smsc_service.specs.Serving.{IsServing, IsStep, Serves, Serving}
use Rattle.smsc_service.specs.Stepping.{OneRefused}

module _ {K : Type 0} where
  -- what the group changed so far
  abbrev pub held_by : SeatedCentre K → Changes
  held_by seated = held_in seated.machine.keep

  -- the accounts that its centre has in memory
  abbrev pub accounts_in : SeatedCentre K → List CentreAccount
  accounts_in seated = accounts_of seated.machine.centre

  -- between these two a read was refused, and no account came
  abbrev pub RefusedRead : SeatedCentre K → SeatedCentre K → Type 0
  RefusedRead before after =
      OneRefused before.machine.keep.refusals after.machine.keep.refusals × (accounts_in after ≡ accounts_in before)

module _ {K : Type 0} (state : K → KeepState Rows) where
  -- its store has returned what was written, so far
  abbrev pub IsHonest : SeatedCentre K → Type 0
  IsHonest seated = (state (store_of seated.machine.keep)).is_honest

  -- with what the group changed, the store's rows from before it are these, but for their accounts
  abbrev pub Reaches : Rows → SeatedCentre K → Rows → Type 0
  Reaches base seated rows = Spans (state (store_of seated.machine.keep)) (held_by seated) base (bare rows)

  -- the store has the rows from before the group, and its memory has that centre and those seats
  abbrev pub IsMadeBy : Rows → SeatedCentre K → Serving → Type 0
  IsMadeBy base seated s = IsServing (Reaches base seated) seated.machine.centre seated.seat_map s

  -- after a refusal the store has the rows from before the group, or is closed
  abbrev pub IsLeft : Rows → SeatedCentre K → Type 0
  IsLeft base seated = (state (store_of seated.machine.keep)).holds base ⊎ (state (store_of seated.machine.keep)).is_closed

  -- if the store is honest, and it was that before the call, in a group over sound rows
  abbrev pub IfMade : Rows → Serving → SeatedCentre K → SeatedCentre K → Type 0 → Type 0
  IfMade base s before after claim = IsHonest after → IsSound base → IsMadeBy base before s → claim

  -- So it does what a stimulus asks.
  abbrev pub MakingOutcome : Rows → SeatedCentre K → SeatedCentre K → SeatRequest → Serving → Stimulus Job → Fate → List (Out Reply) → Type 0
  MakingOutcome base before after asked s stimulus fate outs =
      IfMade base s before after (Serves (Reaches base after) (IsLeft base after) after.machine.centre after.seat_map asked s stimulus fate outs)

  -- So it does a step, which without memory is answered by its request.
  abbrev pub StepOutcome : Rows → SeatedCentre K → SeatedCentre K → SeatRequest → Serving → Stimulus Job → Fate → List (Out Reply) → Type 0
  StepOutcome base before after asked s stimulus fate outs =
      IfMade base s before after (IsStep (Reaches base after) (IsLeft base after) after.machine.centre after.seat_map asked s stimulus fate outs)
