-- The link of a handset at a seat, as contracts see it.
use Rattle.std.specs.Prelude.{ℕ, List, [], Option, None, Bool, false}
use Rattle.smsc_loop.specs.declared.note.Counts.{Counts}
use Rattle.smsc_loop.specs.declared.note.Note.{Note}
use Rattle.smsc_endpoint.specs.declared.link_access.LinkAccess.{LinkAccess}
use Rattle.smsc_endpoint.specs.declared.link_stage.Stage.{Stage}
use Rattle.smsc_endpoint.specs.declared.link_stage.Stage.TheVariants.{Unnamed}
use Rattle.smsc_endpoint.specs.EsmeView.{none_counted}
use Rattle.smsc_endpoint.specs.Outbox.{OutboxView, nothing_waits}

pub record LinkView : Type 0 where
  -- who may have the link of a number
  pub access : LinkAccess
  -- octets that arrived and are not cut off yet
  pub unread : List ℕ
  pub handset : Option (List ℕ)
  pub stage : Stage
  pub is_over : Bool
  pub outbox : OutboxView
  -- what happened that an operator may want to know and was not told, in order
  pub notes : List Note
  pub counts : Counts
  -- so many jobs may be done before the next that has an answer
  pub before_mark : ℕ
  -- that answer is not there yet
  pub is_marked : Bool
  -- in milliseconds
  pub time : ℕ
  -- since when the other link of the handset is waited for
  pub since : ℕ
  -- how often the handset may still be named
  pub tries : ℕ

-- At most eight jobs are with the keeper: seven, and one that has an answer.
abbrev pub most_unmarked : ℕ
most_unmarked = 7

abbrev pub most_tries : ℕ
most_tries = 100

-- a link on a connection that was just opened
abbrev pub opened : LinkAccess → LinkView
opened access = record {
  access = access;
  unread = [];
  handset = None;
  stage = Unnamed;
  is_over = false;
  outbox = nothing_waits;
  notes = [];
  counts = none_counted;
  before_mark = most_unmarked;
  is_marked = false;
  time = 0;
  since = 0;
  tries = most_tries;
}
