-- A time stamp field (3GPP TS 23.040 9.2.3.11) from left to right.
use Rattle.std.specs.Prelude.{ℕ, List, [], ◌∷◌, Result, Ok, ok_or, get_or}
use Rattle.sms_base.specs.Reading.{◌>>=◌, run_in}
use Rattle.sms_base.specs.TimeStamp.{scts_in}
use Rattle.sms_tpdu.specs.declared.fault.TpduFault.{TpduFault}
use Rattle.sms_tpdu.specs.declared.fault.TpduFault.TheVariants.{Truncated, BadTime}

-- The seven octets that are there, completed by those of the first second of January. A stamp that ends too early is
-- judged by the octets that are there.
abbrev pub completed : List ℕ → List ℕ
completed octets =
    get_or octets 0 0 ∷ get_or octets 1 16 ∷ get_or octets 2 16
    ∷ get_or octets 3 0 ∷ get_or octets 4 0 ∷ get_or octets 5 0 ∷ get_or octets 6 0 ∷ []

unfoldable pub time_in : List ℕ → Result (ℕ × List ℕ) TpduFault
time_in octets = do
  moment ← ok_or (scts_in (completed octets)) BadTime
  stamp ← run_in Truncated 7 octets
  Ok (moment, stamp.1)
