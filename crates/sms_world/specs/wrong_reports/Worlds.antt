-- A world in which a frame comes late, and one in which a concatenation reference is used again too early.
use Rattle.std.specs.Prelude.{ℕ, List, [], ◌∷◌}
use Rattle.sms_base.specs.declared.carried.Kind.TheVariants.{Data}
use Rattle.sms_base.specs.declared.holder.Holder.TheVariants.{Part}
use Rattle.sms_world.specs.wrong_reports.Literals.{handset}
use Rattle.sms_world_model.specs.Premises.{IsTimely, MayBegin}
use Rattle.sms_world_model.specs.World.{Accepted, Allocation, Down, Frame, World, empty}

-- ---- timely frames

-- the centre gave reference 0 to that part
abbrev pub given_to : ℕ → Allocation
given_to id = record { handset = handset; reference = 0; holder = Part id 1; moment = 946684800; tpdu = [] }

-- first to message 1, then to message 2
abbrev pub regiven : World
regiven = record empty { down = given_to 2 ∷ given_to 1 ∷ [] }

abbrev pub frame_for : ℕ → Frame
frame_for id = record { number = 1; handset = handset; line = Down; kind = Data; reference = 0; tpdu = []; tag = Part id 1 }

-- the frame of message 1 is late there, and that of message 2 is not
abbrev pub LateLaw : Type 0
LateLaw = ¬ IsTimely regiven (frame_for 1)

abbrev pub InTimeLaw : Type 0
InTimeLaw = IsTimely regiven (frame_for 2)

-- ---- fresh references

-- a DELIVER from 447700900001 with 8-bit data: part 1 of 2 under the 8-bit reference 42 (3GPP TS 23.040 9.2.3.24.1)
abbrev pub first_of_two : List ℕ
first_of_two = 100 ∷ 12 ∷ 145 ∷ 68 ∷ 119 ∷ 0 ∷ 9 ∷ 0 ∷ 16 ∷ 0 ∷ 4 ∷ 66 ∷ 32 ∷ 146 ∷ 50 ∷ 149 ∷ 133 ∷ 0 ∷ 7 ∷ 5 ∷ 0 ∷ 3 ∷ 42 ∷ 2 ∷ 1 ∷ 97 ∷ []

abbrev pub first_given : Allocation
first_given = record { handset = handset; reference = 0; holder = Part 1 1; moment = 1709251198; tpdu = first_of_two }

abbrev pub again_given : Accepted
again_given = record { handset = handset; reference = 1; tpdu = first_of_two }

-- the handset accepted none of the two parts, and the first comes again
abbrev pub ReusedLaw : Type 0
ReusedLaw = ¬ MayBegin (first_given ∷ []) [] again_given

-- where none was submitted before, it may come
abbrev pub FreshLaw : Type 0
FreshLaw = MayBegin [] [] again_given
