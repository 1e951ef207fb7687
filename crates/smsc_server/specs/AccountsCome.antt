-- The accounts of a run, and those that come while it goes on.
use Rattle.std.specs.Prelude.{List, [], ◌∷◌}
use Rattle.sms_centre.specs.Enrolling.{accounts_with}
use Rattle.sms_centre_spec.specs.declared.jobs.job.Job.{Job}
use Rattle.sms_centre_spec.specs.declared.jobs.reply.Reply.{Reply}
use Rattle.sms_intake.specs.declared.submission.CentreAccount.{CentreAccount}
use Rattle.sms_keeper.specs.declared.machine.Errand.{Errand}
use Rattle.sms_keeper.specs.declared.machine.Errand.TheVariants.{Forget, Retry, Delete, Enrol}
use Rattle.sms_keeper.specs.declared.machine.Fate.{Fate}
use Rattle.sms_keeper.specs.declared.machine.Fate.TheVariants.{Done, NoMemory, Refused}
use Rattle.sms_keeper.specs.declared.machine.Item.{Item}
use Rattle.sms_keeper.specs.declared.machine.Stimulus.{Stimulus}
use Rattle.sms_keeper.specs.declared.machine.Stimulus.TheVariants.{Job as JobOf, Tick, Own}

-- an account comes by an errand that is done, as the last one
abbrev pub come_by_errand : Errand → Fate → List CentreAccount → List CentreAccount
come_by_errand (Forget before from most) fate accounts = accounts
come_by_errand (Retry id) fate accounts = accounts
come_by_errand (Delete id) fate accounts = accounts
come_by_errand (Enrol account) Done accounts = accounts_with account accounts
come_by_errand (Enrol account) NoMemory accounts = accounts
come_by_errand (Enrol account) Refused accounts = accounts

-- and by nothing else
abbrev pub come_by : Stimulus Job → Fate → List CentreAccount → List CentreAccount
come_by (JobOf seat job) fate accounts = accounts
come_by (Tick now) fate accounts = accounts
come_by (Own errand) fate accounts = come_by_errand errand fate accounts

-- those behind some items: the ones from before at their places, and then those that came, in order
abbrev pub accounts_behind : List CentreAccount → List (Item Job Reply) → List CentreAccount
accounts_behind accounts [] = accounts
accounts_behind accounts (e ∷ items) = accounts_behind (come_by e.stimulus e.fate accounts) items
