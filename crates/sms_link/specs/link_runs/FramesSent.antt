-- How often one end of a link sends a frame over a list of calls. It sends one because the layer above has it sent, and
-- because TC1* fires (3GPP TS 24.011 5.3.2.1).
use Rattle.std.specs.Prelude.{ℕ, ◌+◌, List, [], ◌∷◌, if◌then◌else◌}
use Rattle.std.specs.Str.{bytes_eq}
use Rattle.sms_link.specs.declared.link.LinkOut.{LinkOut}
use Rattle.sms_link.specs.declared.outgoing.Outgoing.{Outgoing}
use Rattle.sms_link.specs.LinkCalls.{LinkCall, Begin, Reply, Take, Fire, turn}
use Rattle.sms_link.specs.LinkTurn.{LinkOf}

-- how often these octets are among the frames, whatever they carry
abbrev pub times : List ℕ → List Outgoing → ℕ
times octets [] = 0
times octets (f ∷ fs) = (if bytes_eq octets f.octets then 1 else 0) + times octets fs

-- the layer above has it sent: it begins a transaction, or answers in one
abbrev pub sent_by : List ℕ → LinkCall → LinkOut → ℕ
sent_by octets (Begin now reference tag unit) out = times octets out.frames
sent_by octets (Reply now kind reference tag unit) out = times octets out.frames
sent_by octets (Take frame) out = 0
sent_by octets (Fire now) out = 0

-- TC1* sends it again
abbrev pub repeated_by : List ℕ → LinkCall → LinkOut → ℕ
repeated_by octets (Begin now reference tag unit) out = 0
repeated_by octets (Reply now kind reference tag unit) out = 0
repeated_by octets (Take frame) out = 0
repeated_by octets (Fire now) out = times octets out.frames

-- ---- over the calls

abbrev pub sendings : List ℕ → List LinkCall → LinkOf → ℕ
sendings octets [] l = 0
sendings octets (c ∷ cs) l = sent_by octets c (turn c l).out + sendings octets cs (turn c l).link

abbrev pub repeats : List ℕ → List LinkCall → LinkOf → ℕ
repeats octets [] l = 0
repeats octets (c ∷ cs) l = repeated_by octets c (turn c l).out + repeats octets cs (turn c l).link
