-- Whether an endpoint stays whose octets the wire took, as far as it did.
use Rattle.std.specs.Prelude.{◌==◌, ◌&&◌, ℕ, Bool, not, nat_lt, if◌then◌else◌}
use Rattle.smsc_loop.specs.declared.note.LeaveReason.TheVariants.{Closed, Over, Stalled}
use Rattle.smsc_loop.specs.declared.turn_end.TurnEnd.{TurnEnd}
use Rattle.smsc_loop.specs.declared.turn_end.TurnEnd.TheVariants.{Stays, Leaves}

-- So many octets may wait to be sent. Beyond them the connection is given up, also where it takes some in every turn.
abbrev pub most_waiting : ℕ
most_waiting = 1048576

-- no octet waits to be sent, and each request that was taken is answered
abbrev pub is_answered : ℕ → Bool → Bool
is_answered waiting owing = (waiting == 0) && not owing

-- the end of the turn of an endpoint that is answered: by whether it is over, and whether the other side has ended
abbrev pub answered_end : Bool → Bool → TurnEnd
answered_end over ended = if over then Leaves Over else (if ended then Leaves Closed else Stays)

-- the end of a turn, by how many octets still wait
abbrev pub flowing_end : ℕ → Bool → Bool → Bool → TurnEnd
flowing_end waiting owing over ended =
    if nat_lt most_waiting waiting then Leaves Stalled else (if is_answered waiting owing then answered_end over ended else Stays)
