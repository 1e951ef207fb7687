-- The session of an application at a seat, as contracts see it.
use Rattle.std.specs.Prelude.{ℕ, List, [], Option, None}
use Rattle.smpp_session.specs.declared.account.Account.{Account}
use Rattle.smpp_session.specs.Sessions.{SessionView, opened as opened_session}
use Rattle.smsc_loop.specs.declared.note.Counts.{Counts}
use Rattle.smsc_loop.specs.declared.note.Note.{Note}
use Rattle.smsc_endpoint.specs.declared.pending.PendingRequest.{PendingRequest}
use Rattle.smsc_endpoint.specs.declared.pending.SentReceipt.{SentReceipt}
use Rattle.smsc_endpoint.specs.Outbox.{OutboxView, nothing_waits}

pub record EsmeView : Type 0 where
  pub session : SessionView
  -- the place of the account that is bound
  pub account : Option ℕ
  -- requests without an answer, in the order in which they were passed up
  pub waiting : List PendingRequest
  -- how many of them the keeper has
  pub with_keeper : ℕ
  pub receipts : List SentReceipt
  pub outbox : OutboxView
  -- what happened that an operator may want to know and was not told, in order
  pub notes : List Note
  pub counts : Counts
  -- in milliseconds
  pub time : ℕ
  -- so many wrong binds more end the session
  pub wrong_binds : ℕ
  -- nothing is sent before this moment
  pub held : Option ℕ

abbrev pub none_counted : Counts
none_counted = record { requests = 0; submits = 0; receipts = 0; received = 0; sent = 0 }

-- the third wrong bind ends a session
abbrev pub most_wrong_binds : ℕ
most_wrong_binds = 3

-- a session on a connection that was just opened
abbrev pub opened : List Account → EsmeView
opened accounts = record {
  session = opened_session accounts;
  account = None;
  waiting = [];
  with_keeper = 0;
  receipts = [];
  outbox = nothing_waits;
  notes = [];
  counts = none_counted;
  time = 0;
  wrong_binds = most_wrong_binds;
  held = None;
}
