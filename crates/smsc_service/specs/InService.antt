-- What a service has.
use Rattle.std.specs.Prelude.{◌≡◌, ◌⊎◌, ℕ, true, List, length}
use Rattle.sms_base.specs.Among.{Among}
use Rattle.sms_centre_rows.specs.declared.messages.message.MessageRow.{MessageRow}
use Rattle.sms_rows.specs.declared.keep.refusals.Refusals.{Refusals}
use Rattle.sms_rows.specs.keep.KeepState.{KeepState}
use Rattle.sms_centre_group.specs.Grouping.{store_of}
use Rattle.sms_centre_spec.specs.Draft.{no_changes}
use Rattle.sms_centre_spec.specs.SoundRows.{IsSound}
use Rattle.sms_centre_spec.specs.declared.rows.Rows.{Rows}
use Rattle.smsc_service.specs.Accounts.{ComeBehind, bare}
use Rattle.smsc_service.specs.declared.service.Service.{Service}
use Rattle.smsc_service.specs.Course.{Course, Gone}
use Rattle.smsc_service.specs.InSeated.{IsMadeBy, accounts_in, held_by}
use Rattle.smsc_service.specs.Seats.{seats_in}
use Rattle.smsc_service.specs.Serving.{IsWaiting, Serving, restarted}
use Rattle.smsc_service.specs.Sparing.{archive_of, errands_of, kept_by}

module _ {K A : Type 0} where
  -- the store of its rows
  abbrev pub store_in : Service K A → K
  store_in service = store_of service.seated.machine.keep

  -- the archive of what it forgets
  abbrev pub archive_in : Service K A → A
  archive_in service = archive_of (errands_of service)

  -- the calls that were refused
  abbrev pub refusals_of : Service K A → Refusals
  refusals_of service = service.seated.machine.keep.refusals

  -- the rows could not be read when they were last to be
  abbrev pub IsBroken : Service K A → Type 0
  IsBroken service = service.is_broken ≡ true

  -- its memory has those seats, by which each item is refused
  abbrev pub IsRefusedBy : Service K A → Serving → Type 0
  IsRefusedBy service r = seats_in service.resumed ≡ r.seats

  -- The centre in memory has the accounts of this one, and perhaps some behind them. The service knows how many this one has.
  pub record HasAccounts (service : Service K A) (r : Serving) : Type 0 where
    pub come : ComeBehind r.core.rows.setup.accounts (accounts_in service.seated)
    pub count : service.accounts ≡ length r.core.rows.setup.accounts

module _ {K A : Type 0} (state : K → KeepState Rows) where
  -- its store has returned what was written, so far
  abbrev pub HasHonestStore : Service K A → Type 0
  HasHonestStore service = (state (store_in service)).is_honest

  -- In a group it is the first. If the group is refused it starts again as the second, whose rows the store has.
  pub record IsStanding (service : Service K A) (s r : Serving) : Type 0 where
    pub made : IsMadeBy state (bare r.core.rows) service.seated s
    pub sound : IsSound r.core.rows
    pub seats : seats_in service.resumed ≡ r.seats
    -- nothing happened in the group yet, or the second is what starts again
    pub again : ((held_by service.seated ≡ no_changes) × (s.seats ≡ r.seats)) ⊎ (r ≡ restarted r.core.rows r.seats)
    pub accounts : HasAccounts service r

  -- between two groups its store has the rows, and its memory has that centre and those seats
  abbrev pub IsServedBy : Service K A → Serving → Type 0
  IsServedBy service s = IsStanding service s s

  -- its store has the rows or is closed, its memory has those seats and accounts, and it starts again with all
  pub record IsAwaitedBy (service : Service K A) (r : Serving) : Type 0 where
    pub waiting : IsWaiting (λ rows. (state (store_in service)).holds (bare rows)) (state (store_in service)).is_closed service.resumed r
    pub accounts : HasAccounts service r

  -- if the store is honest, and the service was to start again as that before the call
  abbrev pub IfAwaited : Serving → Service K A → Service K A → Type 0 → Type 0
  IfAwaited r before after claim = HasHonestStore after → IsAwaitedBy before r → claim

module _ {K A : Type 0} (keeps : A → MessageRow → ℕ → Type 0) where
  -- its archive keeps each of these
  abbrev pub HasArchived : Service K A → List Gone → Type 0
  HasArchived service gone = (x : Gone) → Among x gone → keeps (archive_in service) x.message x.parts

module _ {K A : Type 0} (state : K → KeepState Rows) (keeps : A → MessageRow → ℕ → Type 0) where
  -- So it stands in a run. Its archive keeps all that the run forgot, before that is committed.
  pub record IsRunning (service : Service K A) (s r : Course) : Type 0 where
    pub standing : IsStanding state service s.serving r.serving
    pub archived : HasArchived keeps service s.gone
    -- if the group is refused
    pub left : HasArchived keeps service r.gone
    -- it keeps what has ended so long, also if the group is refused
    pub kept : (kept_by service ≡ s.kept) × (kept_by service ≡ r.kept)

  abbrev pub IsRunAs : Service K A → Course → Type 0
  IsRunAs service s = IsRunning service s s
