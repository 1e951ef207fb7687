-- The accounts of a run, one step further.
use Rattle.std.proofs.Common.{◌≡◌, ℕ, Bool, true, false, List, [], ◌∷◌, ◌++◌, length, take, refl, sym, ap, ◌∙◌, append-nil, append_assoc, if◌then◌else◌}
use Rattle.std.proofs.lemmas.Bool.{cond-true}
use Rattle.std.proofs.lemmas.List.{take_at}
use Rattle.sms_centre.specs.Enrolling.{accounts_of, accounts_with}
use Rattle.sms_centre.specs.state.CentreState.{Represents, CentreStateOf}
use Rattle.sms_centre_spec.proofs.Resting.{happened_rests}
use Rattle.sms_centre_spec.proofs.forgetting.Removed.{forget_commits}
use Rattle.sms_centre_spec.specs.CentreEvent.{happened}
use Rattle.sms_centre_spec.specs.Draft.{Core, core_of}
use Rattle.sms_centre_spec.specs.SoundRows.{IsSound}
use Rattle.sms_centre_spec.specs.conditions.RowsTest.{has_address}
use Rattle.sms_centre_spec.specs.declared.event.CentreEvent.{CentreEvent}
use Rattle.sms_centre_spec.specs.declared.jobs.job.Job.{Job}
use Rattle.sms_centre_spec.specs.declared.rows.Rows.{Rows}
use Rattle.sms_centre_spec.specs.declared.setup.Setup.{Setup}
use Rattle.sms_centre_spec.specs.forgetting.Forget.{forget}
use Rattle.sms_intake.specs.declared.submission.CentreAccount.{CentreAccount}
use Rattle.sms_keeper.specs.declared.machine.Fate.{Fate}
use Rattle.sms_keeper.specs.declared.machine.Fate.TheVariants.{Done, NoMemory, Refused}
use Rattle.sms_keeper.specs.declared.machine.Errand.TheVariants.{Enrol as EnrolErrand}
use Rattle.sms_keeper.specs.declared.machine.Stimulus.{Stimulus}
use Rattle.sms_keeper.specs.declared.machine.Stimulus.TheVariants.{Own}
use Rattle.smsc_service.specs.Accounts.{ComeBehind, bare, with_accounts}
use Rattle.smsc_service.specs.Asking.{asked_by}
use Rattle.smsc_service.specs.Serving.{Serving, after, after_for}
use Rattle.smsc_service.specs.declared.asking.SeatRequest.{SeatRequest}
use Rattle.smsc_service.specs.declared.asking.SeatRequest.TheVariants.{Event, Nothing, Taken, Forget, Enrol}

-- ---- rows as a store has them

pub bare_sound : (rows : Rows) → IsSound rows → IsSound (bare rows)
bare_sound rows s = record {
  setup = record { centre = s.setup.centre; start = s.setup.start; accounts = λ a there. absurd there };
  times = s.times;
  messages = s.messages;
  report_addresses = s.report_addresses;
  allocations = s.allocations;
  reports = s.reports;
  waiting = s.waiting;
  splits = s.splits;
  bars = s.bars;
}

-- with their accounts they are what they were
pub bare_again : (rows : Rows) (accounts : List CentreAccount) → rows.setup.accounts ≡ accounts → with_accounts accounts (bare rows) ≡ rows
bare_again rows accounts is = ap (λ (l : List CentreAccount). with_accounts l rows) (sym is)

-- ---- behind those from before

pub none_come : (before now : List CentreAccount) → now ≡ before → ComeBehind before now
none_come before now is = ([], is ∙ sym (append-nil before))

pub come_on : (first middle last : List CentreAccount) → ComeBehind first middle → ComeBehind middle last → ComeBehind first last
come_on first middle last one other =
    (one.0 ++ other.0, other.1 ∙ ap (λ (l : List CentreAccount). l ++ other.0) one.1 ∙ append_assoc first one.0 other.0)

one_comes : (x : CentreAccount) (accounts : List CentreAccount) (test : Bool) → ComeBehind accounts (if test then accounts ++ x ∷ [] else accounts)
one_comes x accounts true = (x ∷ [], refl)
one_comes x accounts false = none_come accounts accounts refl

pub enrolled_comes : (x : CentreAccount) (accounts : List CentreAccount) → ComeBehind accounts (accounts_with x accounts)
enrolled_comes x accounts = one_comes x accounts (has_address x)

-- the first so many are those from before
pub first_are : (before now : List CentreAccount) (count : ℕ) → ComeBehind before now → count ≡ length before → take count now ≡ before
first_are before now count come is = ap (λ (l : List CentreAccount). take count l) come.1 ∙ take_at before come.0 count (sym is)

-- ---- one item more

pub event_leaves : (event : CentreEvent) (c : Core) → (core_of (happened event c)).rows.setup.accounts ≡ c.rows.setup.accounts
event_leaves event c = sym (ap (λ (r : Rows). r.setup.accounts) (happened_rests event c))

pub forget_leaves : (before from most : ℕ) (c : Core) → (core_of (forget before from most c)).rows.setup.accounts ≡ c.rows.setup.accounts
forget_leaves before from most c = sym (ap (λ (x : Core). x.rows.setup.accounts) (forget_commits before from most c))

-- whatever becomes of it, accounts come at the end alone
pub come_after : (a : SeatRequest) (fate : Fate) (s : Serving) (stimulus : Stimulus Job) → ComeBehind s.core.rows.setup.accounts (after_for a fate s stimulus).core.rows.setup.accounts
come_after (Event event) Done s stimulus = none_come _ _ (event_leaves event s.core)
come_after (Event event) NoMemory s stimulus = none_come _ _ refl
come_after (Event event) Refused s stimulus = none_come _ _ refl
come_after Nothing fate s stimulus = none_come _ _ refl
come_after Taken fate s stimulus = none_come _ _ refl
come_after (Forget before from most) Done s stimulus = none_come _ _ (forget_leaves before from most s.core)
come_after (Forget before from most) NoMemory s stimulus = none_come _ _ refl
come_after (Forget before from most) Refused s stimulus = none_come _ _ refl
come_after (Enrol account) Done s stimulus = enrolled_comes account s.core.rows.setup.accounts
come_after (Enrol account) NoMemory s stimulus = none_come _ _ refl
come_after (Enrol account) Refused s stimulus = none_come _ _ refl

pub accounts_stay : (s : Serving) (stimulus : Stimulus Job) (fate : Fate) → ComeBehind s.core.rows.setup.accounts (after s stimulus fate).core.rows.setup.accounts
accounts_stay s stimulus fate = come_after (asked_by s.seats stimulus) fate s stimulus

pub account_comes : (s : Serving) (account : CentreAccount) → has_address account ≡ true
    → after s (Own (EnrolErrand account)) Done ≡ record s { core = record s.core { rows = with_accounts (s.core.rows.setup.accounts ++ account ∷ []) s.core.rows } }
account_comes s account is =
    ap (λ (l : List CentreAccount). record s { core = record s.core { rows = with_accounts l s.core.rows } })
    (cond-true (has_address account) (s.core.rows.setup.accounts ++ account ∷ []) s.core.rows.setup.accounts is)

-- ---- in memory

pub accounts_are : (c : Core) (s : CentreStateOf) → Represents c s → accounts_of s ≡ c.rows.setup.accounts
accounts_are c s k = ap (λ (x : Setup). x.accounts) k.centre.setup_is

-- after an item that was done they are still behind those of the other one
pub come_still : (a : SeatRequest) (fate : Fate) (s : Serving) (stimulus : Stimulus Job) (first : List CentreAccount) (before now : CentreStateOf) → ComeBehind first (accounts_of before)
    → Represents s.core before → Represents (after_for a fate s stimulus).core now → ComeBehind first (accounts_of now)
come_still a fate s stimulus first before now come was is =
    come_on first (accounts_of before) (accounts_of now) come
    (let c = come_after a fate s stimulus in
    (c.0, accounts_are (after_for a fate s stimulus).core now is ∙ c.1 ∙ ap (λ (l : List CentreAccount). l ++ c.0) (sym (accounts_are s.core before was))))
