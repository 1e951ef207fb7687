-- What contracts see of the two ends of the queue of a connection's pieces.
use Rattle.std.specs.Prelude.{ℕ, List, Option}
use Rattle.crossbeam_channel.specs.Claims.{view}
use Rattle.smsc_arrivals.specs.declared.pieces.ends.PieceSender.{PieceSender}
use Rattle.smsc_arrivals.specs.declared.pieces.ends.PieceReceiver.{PieceReceiver}
use Rattle.smsc_arrivals.specs.Pieces.{left_behind}

-- what the stream was to give when the queue was opened, where it states that
abbrev pub source_of : PieceSender → Option (List ℕ)
source_of s = (view s.pass).source

-- the octets that the reader gave
abbrev pub given_by : PieceSender → List ℕ
given_by s = (view s.pass).given

-- what the stream was to give then, behind the octets that the seat took
abbrev pub left_at : PieceReceiver → Option (List ℕ)
left_at r = left_behind (view r.pass).taken (view r.pass).source
