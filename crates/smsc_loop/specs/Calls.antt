-- The calls by which the loop uses an endpoint, and what it does at the seat by itself.
use Rattle.std.specs.Prelude.{ℕ, List, [], ◌∷◌, ◌++◌, Bool, true, false, Option, Some, ⊤}
use Rattle.sms_centre_spec.specs.declared.jobs.job.Job.{Job}
use Rattle.sms_centre_spec.specs.declared.jobs.reply.Reply.{Reply}
use Rattle.smsc_loop.specs.declared.note.Note.{Note}

-- A call that can be refused memory says at last whether it went.
pub data Call : Type 0 where
  -- it is told the time
  Timed : ℕ → Bool → Call
  -- it is told which accounts are full, by their places
  Told : List Bool → Call
  -- it takes octets that arrived
  Took : List ℕ → Bool → Call
  -- it takes a reply of its seat
  Heard : Reply → Bool → Call
  -- it is told that it did not say who it is in time
  GaveUp : Bool → Call
  -- it is asked whether it is there
  AskedLink : Bool → Call
  -- it is asked to leave; first whether it was sent so
  AskedToLeave : Bool → Bool → Call
  -- it says what happened
  Noted : Option Note → Call
  -- these of its octets were written
  Sent : List ℕ → Call
  -- it hands a job out, and the seat puts it
  Put : Job → Call
  -- it hands a job out and takes it back; first whether it is to be put again
  PutBack : Job → Bool → Bool → Call
  -- the connection has ended; its last job
  Left : Option Job → Call
  -- the seat puts that last job
  PutLast : Job → Call
  -- the seat puts a request of the loop
  PutOwn : Job → Call
  -- the loop takes a reply, which nobody gets
  Dropped : Reply → Call
  -- The seat takes a reply, and has taken more answers by then than it put requests. Nobody gets the reply.
  Refused : Reply → Call

-- what is said of a call only where it went
abbrev pub Goes : Bool → Type 0 → Type 0
Goes true said = said
Goes false said = ⊤

-- the octets that arrived, in order
abbrev pub octets_taken : List Call → List ℕ
octets_taken [] = []
octets_taken (Took octets went ∷ calls) = octets ++ octets_taken calls
octets_taken (call ∷ calls) = octets_taken calls

-- the octets that were written, in order
abbrev pub octets_sent : List Call → List ℕ
octets_sent [] = []
octets_sent (Sent octets ∷ calls) = octets ++ octets_sent calls
octets_sent (call ∷ calls) = octets_sent calls

-- the replies that the seat took, in order
abbrev pub replies_taken : List Call → List Reply
replies_taken [] = []
replies_taken (Heard reply went ∷ calls) = reply ∷ replies_taken calls
replies_taken (Dropped reply ∷ calls) = reply ∷ replies_taken calls
replies_taken (Refused reply ∷ calls) = reply ∷ replies_taken calls
replies_taken (call ∷ calls) = replies_taken calls

-- the jobs that the seat put, in order
abbrev pub jobs_put : List Call → List (Option Job)
jobs_put [] = []
jobs_put (Put job ∷ calls) = Some job ∷ jobs_put calls
jobs_put (PutLast job ∷ calls) = Some job ∷ jobs_put calls
jobs_put (PutOwn job ∷ calls) = Some job ∷ jobs_put calls
jobs_put (call ∷ calls) = jobs_put calls
