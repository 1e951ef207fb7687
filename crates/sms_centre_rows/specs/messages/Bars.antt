-- What is kept of a message that lays claim to a reference (3GPP TS 23.040 9.2.3.24.8) once the message itself is forgotten. A handset may
-- hold some of its parts for good, so the reference stays barred.
use Rattle.std.specs.Prelude.{ℕ, ◌+◌, ◌==◌, ◌&&◌, List, [], ◌∷◌, ◌++◌, Bool, true, false, if◌then◌else◌, Option, Some, None}
use Rattle.sms_rows.specs.table.Since.{Since, put_in, rows_of}
use Rattle.sms_rows.specs.table.Table.{put}
use Rattle.sms_centre_rows.specs.declared.messages.bar.BarRow.{BarRow}
use Rattle.sms_centre_rows.specs.declared.messages.claim.Claim.{Claim}
use Rattle.sms_centre_rows.specs.declared.messages.message.MessageRow.{MessageRow}
use Rattle.sms_centre_rows.specs.declared.messages.part.PartRow.{PartRow}
use Rattle.sms_centre_rows.specs.messages.SplitReferences.{is_among, is_delivered, own_bars, unless_split, wide_in}

-- ---- what a message lays claim to

-- to the reference that the centre gave, where not all of it was delivered
abbrev pub claims_of_split : MessageRow → Option ℕ → List Claim
claims_of_split m None = []
claims_of_split m (Some reference) =
    if is_delivered m.state then [] else record { source = m.source; handset = m.handset; reference = reference; is_own = false } ∷ []

-- to the 16-bit reference of the header that came with it
abbrev pub claims_of_header : MessageRow → Option ℕ → List Claim
claims_of_header m None = []
claims_of_header m (Some reference) = record { source = m.source; handset = m.handset; reference = reference; is_own = true } ∷ []

-- by each of its parts
abbrev pub claims_of_parts : MessageRow → List PartRow → List Claim
claims_of_parts m [] = []
claims_of_parts m (p ∷ ps) =
    (if p.id == m.id then claims_of_header m (unless_split m.split_reference (wide_in p.key)) else []) ++ claims_of_parts m ps

abbrev pub claims_of : MessageRow → List PartRow → List Claim
claims_of m ps = claims_of_split m m.split_reference ++ claims_of_parts m ps

-- ---- a claim that is kept as a bar

abbrev pub bar_key : BarRow → ℕ
bar_key b = b.place

-- one more than the place of the last one
abbrev pub place_behind : ℕ → List BarRow → ℕ
place_behind n [] = n
place_behind n (b ∷ bs) = place_behind (b.place + 1) bs

abbrev pub next_bar : List BarRow → ℕ
next_bar bars = place_behind 1 bars

abbrev pub bar_of : Claim → ℕ → BarRow
bar_of c place = record { place = place; source = c.source; handset = c.handset; reference = c.reference; is_own = c.is_own }

-- a bar of a header stands for every header that had the reference
abbrev pub is_barred : Claim → List BarRow → Bool
is_barred c bars = c.is_own && is_among c.reference (own_bars c.source c.handset bars)

abbrev pub with_bar : Claim → List BarRow → List BarRow
with_bar c bars = if is_barred c bars then bars else put bar_key (bar_of c (next_bar bars)) bars

abbrev pub with_bars : List Claim → List BarRow → List BarRow
with_bars [] bars = bars
with_bars (c ∷ cs) bars = with_bars cs (with_bar c bars)

-- ---- in the middle of an event

abbrev pub bars_of : Since BarRow → List BarRow
bars_of t = rows_of bar_key t

abbrev pub put_bar : Claim → Since BarRow → Since BarRow
put_bar c t = if is_barred c (bars_of t) then t else put_in (bar_of c (next_bar (bars_of t))) t

abbrev pub put_bars : List Claim → Since BarRow → Since BarRow
put_bars [] t = t
put_bars (c ∷ cs) t = put_bars cs (put_bar c t)
