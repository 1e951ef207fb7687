-- What the connections of a seat read, in a run of the server.
use Rattle.std.specs.Prelude.{◌≡◌, ℕ, List, [], ◌∷◌, ◌++◌, Option, ⊤}
use Rattle.sms_centre_spec.specs.declared.jobs.job.Job.{Job}
use Rattle.sms_centre_spec.specs.declared.jobs.reply.Reply.{Reply}
use Rattle.sms_keeper.specs.declared.machine.Item.{Item}
use Rattle.sms_keeper.specs.History.{IsHistory}
use Rattle.smsc_service.specs.Serving.{Serving, after, gives}
use Rattle.smsc_server.specs.CentresAnswers.{ReadsAnswers}
use Rattle.smsc_server.specs.Exchanges.{AreExchanged, AreLastExchanged, Exchange, exchanges}
use Rattle.smsc_server.specs.WhatALinkReads.{IsLinkRead}
use Rattle.smsc_server.specs.serving.Connections.{Admitted, Connection, Session, Link, TurnedAway, calls_of}

module _ {S : Type 0} (remaining contents : S → Option (List ℕ)) (admitted : Admitted) where
  -- A session read the answers of these exchanges, and what else a session reads. A link read the frames that the centre gave.
  abbrev pub ReadsOwn : Connection remaining contents admitted → List Exchange → Type 0
  ReadsOwn (Session accounts may visit) own = ReadsAnswers accounts (calls_of remaining contents admitted (Session accounts may visit)) own
  ReadsOwn (Link visit) own = IsLinkRead admitted.access (calls_of remaining contents admitted (Link visit))
  ReadsOwn (TurnedAway arrival) own = ⊤

  -- The history falls into stretches, one for each connection of the seat. In each the connection has the answers to its own requests, and
  -- reads those. The last may have left some.
  abbrev pub HaveRead : ℕ → Serving → List (Connection remaining contents admitted) → List (Item Job Reply) → Type 0
  HaveRead seat s [] items = ⊤
  HaveRead seat s (c ∷ []) items = AreLastExchanged seat s (calls_of remaining contents admitted c) items × ReadsOwn c (exchanges seat s items)
  HaveRead seat s (c ∷ next ∷ cs) items =
      (own : List (Item Job Reply)) × (later : List (Item Job Reply)) × (between : Serving) × (items ≡ own ++ later)
      × IsHistory gives after s own between × AreExchanged seat s (calls_of remaining contents admitted c) own × ReadsOwn c (exchanges seat s own)
      × HaveRead seat between (next ∷ cs) later
