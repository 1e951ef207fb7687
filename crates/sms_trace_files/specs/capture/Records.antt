-- A capture file (the format of libpcap, version 2.4, link type 101: Internet packets without anything before them). Its own numbers
-- are written with the low octet first.
use Rattle.std.specs.Prelude.{ℕ, ◌+◌, ◌/◌, ◌%◌, List, [], ◌∷◌, ◌++◌, length, Bool}
use Rattle.sms_trace_files.specs.capture.Packets.{frame_head, segment_head, way_of}

abbrev pub file_32 : ℕ → List ℕ
file_32 n = (n % 256) ∷ (n / 256 % 256) ∷ (n / 65536 % 256) ∷ (n / 16777216 % 256) ∷ []

-- the mark of the format, its version, universal time, exact, packets up to 65,535 octets, the link type
abbrev pub file_head : List ℕ
file_head =
    212 ∷ 195 ∷ 178 ∷ 161 ∷ 2 ∷ 0 ∷ 4 ∷ 0 ∷ 0 ∷ 0 ∷ 0 ∷ 0 ∷ 0 ∷ 0 ∷ 0 ∷ 0 ∷ 255 ∷ 255 ∷ 0 ∷ 0 ∷ 101 ∷ 0 ∷ 0 ∷ 0 ∷ []

-- before each packet: its second, counted from 1970, no part of a second, and how long it is, twice
abbrev pub record_head : ℕ → ℕ → List ℕ
record_head moment size = file_32 moment ++ file_32 0 ++ file_32 size ++ file_32 size

abbrev pub frame_record : ℕ → ℕ → Bool → List ℕ → List ℕ
frame_record moment handset is_up octets = record_head moment (44 + length octets) ++ frame_head handset is_up (length octets) ++ octets

abbrev pub pdu_record : ℕ → ℕ → Bool → ℕ → ℕ → List ℕ → List ℕ
pdu_record moment application is_up sent received octets =
    record_head moment (40 + length octets) ++ segment_head (way_of application is_up sent received) octets ++ octets
