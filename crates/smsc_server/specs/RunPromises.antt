-- What a run of the centre keeps, whatever its connections ask.
use Rattle.std.specs.Prelude.{◌≡◌, ◌≤◌, ℕ, List, [], ◌∷◌, ◌++◌, length, Some, true, ⊤}
use Rattle.sms_base.specs.Among.{Among}
use Rattle.sms_base.specs.Reading.{AreOctets}
use Rattle.sms_base.specs.TimeStamp.{IsMoment}
use Rattle.sms_centre_rows.specs.declared.messages.message.MessageRow.{MessageRow}
use Rattle.sms_centre_rows.specs.messages.Messages.{message_at}
use Rattle.sms_centre_spec.specs.Finals.{final_of}
use Rattle.sms_centre_spec.specs.SoundCore.{IsSoundCore}
use Rattle.sms_centre_spec.specs.forgetting.Forget.{may_go_now}
use Rattle.sms_centre_spec.specs.declared.answer.CentreAnswer.TheVariants.{Submitted}
use Rattle.sms_centre_spec.specs.declared.jobs.job.Job.{Job}
use Rattle.sms_centre_spec.specs.declared.jobs.job.Job.TheVariants.{Bound, Unbound, Submit, Query, Cancel, DeliverAnswered, LinkUp, LinkDown, Frame}
use Rattle.sms_centre_spec.specs.declared.jobs.reply.Reply.{Reply}
use Rattle.sms_centre_spec.specs.declared.jobs.reply.Reply.TheVariants.{Receipt}
use Rattle.sms_keeper.specs.declared.machine.Errand.TheVariants.{Forget}
use Rattle.sms_keeper.specs.declared.machine.Item.{Item}
use Rattle.sms_keeper.specs.declared.machine.Stimulus.{Stimulus}
use Rattle.sms_keeper.specs.declared.machine.Stimulus.TheVariants.{Job as JobOf, Tick, Own}
use Rattle.sms_keeper.specs.declared.outs.Out.{Out}
use Rattle.sms_keeper.specs.History.{IsHistory}
use Rattle.sms_receipt.specs.declared.final_message.Final.{Final}
use Rattle.smsc_service.specs.Replies.{answer_for}
use Rattle.smsc_service.specs.Serving.{Serving, after, gives}
use Rattle.smsc_server.specs.AccountsCome.{accounts_behind}
use Rattle.smsc_server.specs.Forgotten.{Behind, KeepsOrForgets, forgets, message_left}

-- ---- what the types of a program have of a job and of a tick

-- octets are octets, and the number of a handset has at most 20 digits
abbrev pub IsJob : Job → Type 0
IsJob (Bound account receives) = ⊤
IsJob Unbound = ⊤
IsJob (Submit account pdu) = ⊤
IsJob (Query account pdu) = ⊤
IsJob (Cancel account pdu) = ⊤
IsJob (DeliverAnswered id is_accepted) = ⊤
IsJob (LinkUp handset) = length handset ≤ 20
IsJob LinkDown = ⊤
IsJob (Frame octets) = AreOctets octets

-- moments are of the years that time stamps write
abbrev pub IsAsked : Stimulus Job → Type 0
IsAsked (JobOf seat job) = IsJob job
IsAsked (Tick now) = IsMoment now
IsAsked (Own errand) = ⊤

abbrev pub AreAsked : List (Item Job Reply) → Type 0
AreAsked [] = ⊤
AreAsked (e ∷ items) = IsAsked e.stimulus × AreAsked items

-- ---- what is kept

abbrev pub receipt_for : ℕ → Final → Out Reply
receipt_for seat end = record { seat = seat; out = Receipt end }

-- The row that a message of this number has behind these items, or had as it was forgotten. It ended in the state and at the moment
-- that were reported, and what was reported is of it.
abbrev pub IsReported : List (Item Job Reply) → Final → Serving → Type 0
IsReported items end s =
    (id : ℕ) × (row : MessageRow) × (message_left id s items ≡ Some row) × (row.state ≡ Some end.state) × (row.done ≡ Some end.done)
    × (end ≡ final_of end.state end.done row)

-- so it is from some moment of the run on
abbrev pub WasReported : Serving → List (Item Job Reply) → Final → Type 0
WasReported first items end =
    (one : List (Item Job Reply)) × (other : List (Item Job Reply)) × (items ≡ one ++ other) × Behind first one (IsReported other end)

-- Of a run of these items, from the one centre to the other.
pub record KeepsPromises (first : Serving) (items : List (Item Job Reply)) (last : Serving) : Type 0 where
  -- At each moment the centre is sound: what is under way to handsets is of the rows, under references that are apart.
  pub sound : (one other : List (Item Job Reply)) (s : Serving) → items ≡ one ++ other → IsHistory gives after first one s → IsSoundCore s.core
  -- The accounts at each moment are those from the start, each at its place, and behind them those that came so far.
  pub accounts : (one other : List (Item Job Reply)) (s : Serving) → items ≡ one ++ other → IsHistory gives after first one s
      → s.core.rows.setup.accounts ≡ accounts_behind first.core.rows.setup.accounts one
  -- What the rows have at any moment they have at the end, but for what the centre forgot. Nothing else is lost, and a message that had ended is
  -- unchanged.
  pub kept : (one other : List (Item Job Reply)) (s : Serving) → items ≡ one ++ other → IsHistory gives after first one s → KeepsOrForgets s other
  -- What it forgot had ended before the moment that it was asked of, and may go: it was reported, and nothing of it is under way or unanswered.
  pub forgotten : (one other : List (Item Job Reply)) (e : Item Job Reply) (s : Serving) (id : ℕ) (row : MessageRow) → items ≡ one ++ e ∷ other
      → IsHistory gives after first one s → forgets s e id ≡ true → message_at id s.core.rows.messages ≡ Some row
      → (before : ℕ) × (from : ℕ) × (most : ℕ) × (e.stimulus ≡ Own (Forget before from most)) × (may_go_now before s.core row ≡ true)
  -- A submit_sm that was answered by a number is a message of that number in the rows at the end, unless it ended and was forgotten.
  pub confirmed : (one other : List (Item Job Reply)) (e : Item Job Reply) (seat account asked id : ℕ) (pdu : List ℕ) → items ≡ one ++ e ∷ other
      → e.stimulus ≡ JobOf seat (Submit account pdu) → Among (answer_for asked (Submitted id)) e.outs
      → (asked ≡ seat) × Behind first (one ++ e ∷ []) (λ s. (row : MessageRow) × (message_left id s other ≡ Some row))
  -- Each receipt that a seat got is that of a message. It says the state in which that message is at the end, or was as it was forgotten, when
  -- it ended, and its addresses.
  pub receipts : (one other : List (Item Job Reply)) (e : Item Job Reply) (seat : ℕ) (end : Final) → items ≡ one ++ e ∷ other
      → Among (receipt_for seat end) e.outs → Behind first (one ++ e ∷ []) (IsReported other end)
