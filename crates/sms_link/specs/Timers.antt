-- The timer of the layer above a link (3GPP TS 24.011 6.3.3 and 10): TRAM has an RP-SMMA that was not acknowledged sent
-- again. The length is this project's profile.
use Rattle.std.specs.Prelude.{ℕ}

-- seconds
abbrev pub tram : ℕ
tram = 30
