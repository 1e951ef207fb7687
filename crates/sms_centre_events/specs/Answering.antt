-- What becomes of a submission that passed the checks of its own octets.
use Rattle.std.specs.Prelude.{◌≡◌, ℕ, Option, Some, None}
use Rattle.sms_base.specs.declared.originator.Originator.{Originator}
use Rattle.sms_base.specs.declared.originator.Originator.TheVariants.{Application, Handset}
use Rattle.sms_centre_spec.specs.Draft.{Draft, Store, in_store}
use Rattle.sms_centre_draft.specs.CentreDraft.{Represents, CentreDraftOf}

-- It is the message of that number now, and the draft with it is represented. Or it can't be accepted, and nothing has changed.
abbrev pub AcceptsAs : ℕ → Option Store → Draft → CentreDraftOf → Option ℕ → Type 0
AcceptsAs number None d w None = Represents d w
AcceptsAs number None d w (Some id) = ⊥
AcceptsAs number (Some s) d w None = ⊥
AcceptsAs number (Some s) d w (Some id) = (id ≡ number) × Represents (in_store s d) w

-- a handset submitted it
abbrev pub IsOfHandset : Originator → Type 0
IsOfHandset (Application account) = ⊥
IsOfHandset (Handset reference) = Unit {0}
