-- The accounts of a run behind some items.
use Rattle.std.proofs.Common.{◌≡◌, ◌∙◌, ℕ, List, [], ◌∷◌, ◌++◌, Some, zero, suc, refl, ap}
use Rattle.std.specs.Prelude.{slice_get}
use Rattle.std.proofs.lemmas.Option.{none-some}
use Rattle.sms_centre.specs.Enrolling.{accounts_with}
use Rattle.sms_centre_spec.specs.declared.event.CentreEvent.{CentreEvent}
use Rattle.sms_centre_spec.specs.declared.event.CentreEvent.TheVariants.{Ordered as OrderedOf, Tick as TickOf}
use Rattle.sms_centre_spec.specs.declared.order.Order.TheVariants.{Retry as RetryOf, Delete as DeleteOf}
use Rattle.sms_centre_spec.specs.declared.jobs.job.Job.{Job}
use Rattle.sms_centre_spec.specs.declared.jobs.reply.Reply.{Reply}
use Rattle.sms_intake.specs.declared.submission.CentreAccount.{CentreAccount}
use Rattle.sms_keeper.specs.declared.machine.Errand.TheVariants.{Forget as ForgetErrand, Retry, Delete, Enrol as EnrolErrand}
use Rattle.sms_keeper.specs.declared.machine.Fate.{Fate}
use Rattle.sms_keeper.specs.declared.machine.Fate.TheVariants.{Done, NoMemory, Refused}
use Rattle.sms_keeper.specs.declared.machine.Item.{Item}
use Rattle.sms_keeper.specs.declared.machine.Stimulus.{Stimulus}
use Rattle.sms_keeper.specs.declared.machine.Stimulus.TheVariants.{Job as JobOf, Tick, Own}
use Rattle.sms_keeper.specs.History.{IsHistory}
use Rattle.smsc_service.specs.Accounts.{ComeBehind}
use Rattle.smsc_service.specs.Asking.{asked_by}
use Rattle.smsc_service.specs.Serving.{Serving, after, after_for, gives}
use Rattle.smsc_service.specs.declared.asking.SeatRequest.{SeatRequest}
use Rattle.smsc_service.specs.declared.asking.SeatRequest.TheVariants.{Event, Nothing, Taken, Forget, Enrol}
use Rattle.smsc_service.proofs.AccountsCome.{enrolled_comes, event_leaves, forget_leaves}
use Rattle.smsc_server.specs.AccountsCome.{accounts_behind, come_by}
use Rattle.smsc_server.proofs.ForgetAsked.{Keeps, seat_keeps}

-- ---- one item

abbrev accounts_of : Serving → List CentreAccount
accounts_of s = s.core.rows.setup.accounts

event_stays : (event : CentreEvent) (fate : Fate) (s : Serving) (stimulus : Stimulus Job) → accounts_of (after_for (Event event) fate s stimulus) ≡ accounts_of s
event_stays event Done s stimulus = event_leaves event s.core
event_stays event NoMemory s stimulus = refl
event_stays event Refused s stimulus = refl

forget_stays : (before from most : ℕ) (fate : Fate) (s : Serving) (stimulus : Stimulus Job) → accounts_of (after_for (Forget before from most) fate s stimulus) ≡ accounts_of s
forget_stays before from most Done s stimulus = forget_leaves before from most s.core
forget_stays before from most NoMemory s stimulus = refl
forget_stays before from most Refused s stimulus = refl

-- no seat lets an account come
seat_stays : (a : SeatRequest) (fate : Fate) (s : Serving) (stimulus : Stimulus Job) → Keeps a → accounts_of (after_for a fate s stimulus) ≡ accounts_of s
seat_stays (Event event) fate s stimulus keeps = event_stays event fate s stimulus
seat_stays Nothing fate s stimulus keeps = refl
seat_stays Taken fate s stimulus keeps = refl
seat_stays (Forget before from most) fate s stimulus keeps = absurd keeps
seat_stays (Enrol account) fate s stimulus keeps = absurd keeps

pub accounts_then : (s : Serving) (stimulus : Stimulus Job) (fate : Fate) → accounts_of (after s stimulus fate) ≡ come_by stimulus fate (accounts_of s)
accounts_then s (JobOf seat job) fate = seat_stays (asked_by s.seats (JobOf seat job)) fate s (JobOf seat job) (seat_keeps s.seats seat job)
accounts_then s (Tick now) fate = event_stays (TickOf now) fate s (Tick now)
accounts_then s (Own (ForgetErrand before from most)) fate = forget_stays before from most fate s (Own (ForgetErrand before from most))
accounts_then s (Own (Retry id)) fate = event_stays (OrderedOf RetryOf id) fate s (Own (Retry id))
accounts_then s (Own (Delete id)) fate = event_stays (OrderedOf DeleteOf id) fate s (Own (Delete id))
accounts_then s (Own (EnrolErrand account)) Done = refl
accounts_then s (Own (EnrolErrand account)) NoMemory = refl
accounts_then s (Own (EnrolErrand account)) Refused = refl

-- ---- some items

pub run_accounts : (items : List (Item Job Reply)) (s t : Serving) → IsHistory gives after s items t → accounts_of t ≡ accounts_behind (accounts_of s) items
run_accounts [] s t h = ap accounts_of h
run_accounts (e ∷ items) s t h =
    run_accounts items (after s e.stimulus e.fate) t h.1 ∙ ap (λ (l : List CentreAccount). accounts_behind l items) (accounts_then s e.stimulus e.fate)

-- ---- an account at its place

in_front : (accounts more : List CentreAccount) (place : ℕ) (account : CentreAccount) → slice_get accounts place ≡ Some account → slice_get (accounts ++ more) place ≡ Some account
in_front [] more place account e = absurd (none-some account e)
in_front (a ∷ accounts) more zero account e = e
in_front (a ∷ accounts) more (suc place) account e = in_front accounts more place account e

-- it keeps that, whoever comes
pub keeps_place : (x : CentreAccount) (accounts : List CentreAccount) (place : ℕ) (account : CentreAccount) → slice_get accounts place ≡ Some account
    → slice_get (accounts_with x accounts) place ≡ Some account
keeps_place x accounts place account e =
    let come : ComeBehind accounts (accounts_with x accounts) = enrolled_comes x accounts in
    ap (λ (l : List CentreAccount). slice_get l place) come.1 ∙ in_front accounts come.0 place account e
