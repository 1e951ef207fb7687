-- Giving references: to parts and status reports by the centre, to entries and RP-SMMAs by a handset.
use Rattle.std.specs.Prelude.{◌≡◌, ℕ, suc, ◌<◌, List, [], ◌∷◌}
use Rattle.sms_base.specs.declared.holder.Holder.{Holder}
use Rattle.sms_base.specs.declared.holder.Holder.TheVariants.{Part, Report, Entry, Memory}
use Rattle.sms_tpdu.specs.declared.user_data.UserData.{UserData}
use Rattle.sms_world_model.specs.World.{Allocation, IsHeld, IsHeldUp, OutEntry, World, give}
use Rattle.sms_world_model.specs.Submission.{HasPart, Submission, IsDeliverOf}

-- a reference, and the TPDU that is offered under it, as TPDUs are compared
pub record Ticket : Type 0 where
  pub reference : ℕ
  pub tpdu : List ℕ

-- no part and no status report holds the reference at the handset
abbrev pub IsFree : World → List ℕ → ℕ → Type 0
IsFree w handset reference = (g : Allocation) → IsHeld w g → g.handset ≡ handset → g.reference ≡ reference → ⊥

-- Every earlier giving of it there is of an earlier second, so that a reference and a time stamp name one giving.
abbrev pub IsEarlier : List Allocation → List ℕ → ℕ → ℕ → Type 0
IsEarlier [] handset reference moment = Unit {0}
IsEarlier (g ∷ older) handset reference moment =
    (g.handset ≡ handset → g.reference ≡ reference → g.moment < moment) × IsEarlier older handset reference moment

-- the centre may give the reference at the handset
abbrev pub CanGive : World → List ℕ → ℕ → ℕ → Type 0
CanGive w handset reference moment = (reference < 256) × IsFree w handset reference × IsEarlier w.down handset reference moment

-- what is given to a part, a report, an entry and an RP-SMMA
abbrev pub part_allocation : Submission → ℕ → ℕ → Ticket → Allocation
part_allocation s moment n t = record { handset = s.handset; reference = t.reference; holder = Part s.id n; moment = moment; tpdu = t.tpdu }

abbrev pub report_allocation : Submission → ℕ → Ticket → Allocation
report_allocation s moment t =
    record { handset = s.source.digits; reference = t.reference; holder = Report s.id; moment = moment; tpdu = t.tpdu }

abbrev pub entry_allocation : OutEntry → ℕ → ℕ → Allocation
entry_allocation e moment reference =
    record { handset = e.handset; reference = reference; holder = Entry e.number; moment = moment; tpdu = [] }

abbrev pub memory_allocation : List ℕ → ℕ → ℕ → ℕ → Allocation
memory_allocation handset number moment reference =
    record { handset = handset; reference = reference; holder = Memory number; moment = moment; tpdu = [] }

-- the TPDU is a DELIVER of the part of that number
abbrev pub IsForPart : Submission → ℕ → ℕ → List ℕ → Type 0
IsForPart s n moment tpdu = (part : UserData) × (HasPart s n part × IsDeliverOf s part moment tpdu)

-- part n and those after it take these references, one after the other
abbrev pub CanGiveParts : World → Submission → ℕ → ℕ → List Ticket → Type 0
CanGiveParts w s moment n [] = Unit {0}
CanGiveParts w s moment n (t ∷ ts) =
    CanGive w s.handset t.reference moment × IsForPart s n moment t.tpdu
    × CanGiveParts (give w (part_allocation s moment n t)) s moment (suc n) ts

abbrev pub given_parts : Submission → ℕ → ℕ → List Ticket → List Allocation → List Allocation
given_parts s moment n [] down = down
given_parts s moment n (t ∷ ts) down = given_parts s moment (suc n) ts (part_allocation s moment n t ∷ down)

-- no unfinished entry of the handset holds the reference
abbrev pub IsFreeUp : World → List ℕ → ℕ → Type 0
IsFreeUp w handset reference = (g : Allocation) (e : OutEntry) → IsHeldUp w g e → g.handset ≡ handset → g.reference ≡ reference → ⊥

-- the handset has given no reference to that holder
abbrev pub IsNewHolder : List Allocation → List ℕ → Holder → Type 0
IsNewHolder [] handset holder = Unit {0}
IsNewHolder (g ∷ older) handset holder = ¬ ((g.handset ≡ handset) × (g.holder ≡ holder)) × IsNewHolder older handset holder
