-- The places of handsets among those of a script.
use Rattle.std.specs.Prelude.{◌≡◌, ℕ, ◌+◌, zero, suc, List, [], ◌∷◌, false, Option, Some, None, if◌then◌else◌}
use Rattle.std.specs.Str.{bytes_eq}
use Rattle.sms_play.specs.PlayState.{Party}

-- the place of the first handset of that number, from a place on
abbrev pub place_from : ℕ → List ℕ → List Party → Option ℕ
place_from place number [] = None
place_from place number (p ∷ ps) = if bytes_eq p.number number then Some place else place_from (place + 1) number ps

-- it is there, and none of its number before it
abbrev pub IsFirstAt : ℕ → Party → List Party → Type 0
IsFirstAt place party [] = ⊥
IsFirstAt zero party (p ∷ ps) = p ≡ party
IsFirstAt (suc place) party (p ∷ ps) = (bytes_eq p.number party.number ≡ false) × IsFirstAt place party ps
