-- What each connection of a seat hears is its own, whatever memory the centre had to end the one before it.
use Rattle.std.specs.Prelude.{◌≡◌, ◌⊎◌, ℕ, List, [], ◌∷◌, ◌++◌, Option, None, ⊤}
use Rattle.sms_base.specs.Among.{Among}
use Rattle.sms_centre_spec.specs.declared.jobs.job.Job.{Job}
use Rattle.sms_centre_spec.specs.declared.jobs.job.Job.TheVariants.{LinkUp}
use Rattle.sms_centre_spec.specs.declared.jobs.reply.Reply.{Reply}
use Rattle.sms_centre_spec.specs.declared.rows.Rows.{Rows}
use Rattle.sms_keeper.specs.declared.machine.Item.{Item}
use Rattle.sms_keeper.specs.declared.machine.Stimulus.TheVariants.{Job as JobOf}
use Rattle.sms_receipt.specs.declared.final_message.Final.{Final}
use Rattle.smsc_service.specs.Seats.{nobody}
use Rattle.smsc_service.specs.Serving.{Serving, restarted}
use Rattle.smsc_server.specs.AccountsCome.{accounts_behind}
use Rattle.smsc_server.specs.Forgotten.{Behind}
use Rattle.smsc_server.specs.FramesGiven.{IsLinked, IsOfHandset, frame_for}
use Rattle.smsc_server.specs.ReceiptsGiven.{IsOfAccount, bound_after}
use Rattle.smsc_server.specs.RunPromises.{receipt_for}
use Rattle.smsc_server.specs.serving.Connections.{Admitted, Connection, calls_of}
use Rattle.smsc_server.specs.serving.Stretches.{IsLastStretch, IsStretch}

-- Each receipt that the seat got in these items is for the account that is bound there by the jobs of these items alone.
abbrev pub GoToOwnAccount : ℕ → Rows → List (Item Job Reply) → List (Item Job Reply) → List (Item Job Reply) → Type 0
GoToOwnAccount seat rows before own later =
    (one other : List (Item Job Reply)) (e : Item Job Reply) (end : Final) → own ≡ one ++ e ∷ other → Among (receipt_for seat end) e.outs
    → Behind (restarted rows nobody) (before ++ (one ++ e ∷ []))
    (λ s. IsOfAccount (accounts_behind rows.setup.accounts (before ++ (one ++ e ∷ []))) s (other ++ later) (bound_after seat None (one ++ e ∷ [])) end)

-- The frame goes to the handset whose link came up at the seat in these items.
pub record IsOfOwnHandset (first : Serving) (before one : List (Item Job Reply)) (e : Item Job Reply) (seat : ℕ) (octets : List ℕ) : Type 0 where
  pub goes : IsOfHandset first (before ++ one) e seat octets
  pub own : IsLinked seat goes.handset one ⊎ (e.stimulus ≡ JobOf seat (LinkUp goes.handset))

abbrev pub GoToOwnHandset : ℕ → Serving → List (Item Job Reply) → List (Item Job Reply) → Type 0
GoToOwnHandset seat first before own =
    (one other : List (Item Job Reply)) (e : Item Job Reply) (octets : List ℕ) → own ≡ one ++ e ∷ other → Among (frame_for seat octets) e.outs
    → IsOfOwnHandset first before one e seat octets

-- `before` are the items before these, and `later` those behind them.
pub record HearsOwn (seat : ℕ) (rows : Rows) (before own later : List (Item Job Reply)) : Type 0 where
  pub receipts : GoToOwnAccount seat rows before own later
  pub frames : GoToOwnHandset seat (restarted rows nobody) before own

module _ {S : Type 0} (remaining contents : S → Option (List ℕ)) (admitted : Admitted) where
  -- The history falls into stretches, one for each connection of the seat, and each hears its own.
  abbrev pub HearTheirOwn : ℕ → Rows → List (Item Job Reply) → List (Connection remaining contents admitted) → List (Item Job Reply) → Type 0
  HearTheirOwn seat rows before [] items = ⊤
  HearTheirOwn seat rows before (c ∷ []) items = IsLastStretch seat (calls_of remaining contents admitted c) items × HearsOwn seat rows before items []
  HearTheirOwn seat rows before (c ∷ next ∷ cs) items =
      (own : List (Item Job Reply)) × (later : List (Item Job Reply)) × (items ≡ own ++ later)
      × IsStretch seat (calls_of remaining contents admitted c) own × HearsOwn seat rows before own later
      × HearTheirOwn seat rows (before ++ own) (next ∷ cs) later
