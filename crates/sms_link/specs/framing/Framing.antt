-- The octets of a link: frames, each behind two octets that count its length, the high one first. The framing is this
-- project's own.
use Rattle.std.specs.Prelude.{◌≡◌, ℕ, ◌+◌, ◌*◌, ◌/◌, ◌%◌, ◌<◌, ◌≤◌, ◌==◌, List, [], ◌∷◌, ◌++◌, length, take, nat_le, nat_lt, Option, Some, None, Result, Ok}
use Rattle.std.specs.Prelude.{Err, if◌then◌else◌}
use Rattle.std.specs.List.{AllByRecursion}
use Rattle.sms_link.specs.declared.framing.fault.FramingFault.{FramingFault}
use Rattle.sms_link.specs.declared.framing.fault.FramingFault.TheVariants.{Empty, TooLong}

-- The longest frame is CP-DATA with 248 octets of user data behind its three (3GPP TS 24.011 8.1.4.1).
abbrev pub longest_frame : ℕ
longest_frame = 251

pub record IsFrame (frame : List ℕ) : Type 0 where
  pub some : 0 < length frame
  pub short : length frame ≤ longest_frame

-- a frame behind its length
abbrev pub framed : List ℕ → List ℕ
framed frame = (length frame / 256) ∷ (length frame % 256) ∷ frame

-- ---- a stream

abbrev pub joined : List (List ℕ) → List ℕ
joined [] = []
joined (frame ∷ frames) = framed frame ++ joined frames

abbrev pub BeginsWithFrame : List ℕ → List ℕ → Type 0
BeginsWithFrame octets frame = IsFrame frame × ((rest : List ℕ) × (octets ≡ framed frame ++ rest))

-- A stream is its frames and a rest that begins with none.
pub record IsStream (octets : List ℕ) (frames : List (List ℕ)) (rest : List ℕ) : Type 0 where
  pub parts : octets ≡ joined frames ++ rest
  pub each : AllByRecursion IsFrame frames
  pub no_more : (frame : List ℕ) → BeginsWithFrame rest frame → ⊥

-- ---- what is at the front

-- behind the length
abbrev pub sized_of : ℕ → List ℕ → Result (Option (List ℕ)) FramingFault
sized_of size octets =
    if size == 0 then Err Empty
    else (if nat_lt longest_frame size then Err TooLong
    else (if nat_le size (length octets) then Ok (Some (take size octets)) else Ok None))

-- A length is judged once its two octets are there; none where more has to arrive.
abbrev pub front_of : List ℕ → Result (Option (List ℕ)) FramingFault
front_of (high ∷ low ∷ octets) = sized_of (256 * high + low) octets
front_of (high ∷ []) = Ok None
front_of [] = Ok None
