-- What a link sends is octets, where its units are and what it may send again is.
use Rattle.std.proofs.Common.{ℕ, ◌+◌, ◌%◌, ◌<◌, ◌≤◌, arith, List, [], ◌∷◌, ◌++◌, length, Option, Some, None, Result, Ok, Err}
use Rattle.std.specs.Prelude.{is_none, ◌&&◌, is_some}
use Rattle.std.specs.Option.{option_map}
use Rattle.std.specs.List.{AllByRecursion}
use Rattle.sms_base.specs.Reading.{AreOctets}
use Rattle.sms_base.specs.declared.carried.Carried.{Carried}
use Rattle.sms_base.specs.declared.carried.Kind.{Kind}
use Rattle.sms_base.specs.declared.carried.Kind.TheVariants.{Data}
use Rattle.sms_base.specs.declared.holder.Holder.{Holder}
use Rattle.sms_control.specs.declared.fault.CpFault.{CpFault}
use Rattle.sms_control.specs.declared.link_state.Answer.{Answer}
use Rattle.sms_control.specs.declared.link_state.Begun.{Begun}
use Rattle.sms_control.specs.declared.link_state.LinkState.{LinkState}
use Rattle.sms_control.specs.declared.link_state.Opened.{Opened}
use Rattle.sms_control.specs.declared.message.Cp.{Cp}
use Rattle.sms_control.specs.declared.message.Cp.TheVariants.{DataUnit, AckUnit, ErrorUnit}
use Rattle.sms_control.specs.declared.out.Up.{Up}
use Rattle.sms_control.specs.declared.out.Up.TheVariants.{Unit as UnitUp, Failed}
use Rattle.sms_control.specs.declared.transaction.Transaction.{Transaction}
use Rattle.sms_control.specs.declared.transaction.TransactionFlag.{TransactionFlag}
use Rattle.sms_control.specs.declared.transaction.TransactionFlag.TheVariants.{FromOriginator, ToOriginator}
use Rattle.sms_control.specs.ControlGrammar.{flag_value, head_octet, spelled, turned}
use Rattle.sms_control.specs.ControlReading.{cp_at}
use Rattle.sms_control.specs.LinkStep.{Step, ack_taken, acknowledgement, answer_frames, answer_of, answer_taken, answered, begin_step, begun_fired, begun_frames, data_taken, error_taken, failed_by, fire_step, frame_taken, frames_of, has_begun, has_opened, if_again, in_transaction, is_busy, is_same, opened_fired, opening_of, opening_taken, quiet, rejection, reply_in, reply_step, started as links_started, take_step}
use Rattle.sms_control.specs.Timers.{begun_firing, opened_firing, sent_again}
use Rattle.sms_control.proofs.FiringCases.{firing_cases}
use Rattle.sms_control.proofs.LinkLaws.{either}
use Rattle.sms_relay.specs.RelayReading.{down_at}
use Rattle.sms_link.specs.declared.ending.Ending.{Ending}
use Rattle.sms_link.specs.declared.ending.Side.{Side}
use Rattle.sms_link.specs.declared.ending.Upward.{Upward}
use Rattle.sms_link.specs.declared.ending.Upward.TheVariants.{Opened as OpenedUp, Ended}
use Rattle.sms_link.specs.declared.outgoing.Outgoing.{Outgoing}
use Rattle.sms_link.specs.LinkTurn.{LinkOf, Turn, answering, begun, passed_up, carrying, fired, from_links, of_kind, replied, started, still, taken}
use Rattle.sms_link.proofs.Known.{by_test}
use Rattle.sms_world.specs.handsets_send_octets.Arriving.{BringsInOctets, ArrivesInOctets, IsAnsweredInOctet}
use Rattle.sms_world.specs.handsets_send_octets.Keeping.{AnswerInOctets, BegunInOctets, LinkInOctets, OpenedInOctets, SentInOctets}

-- each frame of the list is octets
abbrev FramesInOctets : List (List ℕ) → Type 0
FramesInOctets frames = AllByRecursion (λ (f : List ℕ). AreOctets f) frames

both_frames : (xs ys : List (List ℕ)) → FramesInOctets xs → FramesInOctets ys → FramesInOctets (xs ++ ys)
both_frames [] ys a b = b
both_frames (x ∷ xs) ys a b = (a.0, both_frames xs ys a.1 b)

pub both_sent : (xs ys : List Outgoing) → SentInOctets xs → SentInOctets ys → SentInOctets (xs ++ ys)
both_sent [] ys a b = b
both_sent (x ∷ xs) ys a b = (a.0, both_sent xs ys a.1 b)

-- ---- frames of the control layer

flag_small : (f : TransactionFlag) → flag_value f ≤ 128
flag_small FromOriginator = omega arith
flag_small ToOriginator = omega arith

head_fits : (t : Transaction) → t.identifier < 7 → head_octet t < 256
head_fits t l = omega (arith, l, flag_small t.flag)

-- a unit that a frame may carry
pub record UnitFits (unit : List ℕ) : Type 0 where
  pub octets : AreOctets unit
  pub short : length unit < 256

data_fits : (t : Transaction) (unit : List ℕ) → t.identifier < 7 → UnitFits unit → AreOctets (spelled (DataUnit t unit))
data_fits t unit l u = (head_fits t l, (let k : 1 < 256 = omega arith in k, (u.short, u.octets)))

ack_fits : (t : Transaction) → t.identifier < 7 → AreOctets (acknowledgement t)
ack_fits t l = (head_fits (in_transaction (turned t.flag) t.identifier) l, (let k : 4 < 256 = omega arith in k, tt))

rejection_fits : (t : Transaction) → t.identifier < 7 → AreOctets (rejection t)
rejection_fits t l = (head_fits (in_transaction (turned t.flag) t.identifier) l, (let k : 16 < 256 = omega arith in k, (let j : 81 < 256 = omega arith in j, tt)))

-- ---- a step

-- a unit that goes up and opens a transaction is answered under a reference of one octet
abbrev UpFits : Option Up → Type 0
UpFits None = Unit {0}
UpFits (Some (UnitUp FromOriginator unit)) = IsAnsweredInOctet unit (down_at unit)
UpFits (Some (UnitUp ToOriginator unit)) = Unit {0}
UpFits (Some Failed) = Unit {0}

record StepFits (s : Step) : Type 0 where
  state : LinkInOctets s.state
  frames : FramesInOctets s.out.frames
  up : UpFits s.out.up

quiet_fits : (s : LinkState) → LinkInOctets s → StepFits (quiet s)
quiet_fits s l = record { state = l; frames = tt; up = tt }

begin_fits : (now : ℕ) (unit : List ℕ) (s : LinkState) → UnitFits unit → LinkInOctets s → StepFits (begin_step now unit s)
unfolding begin_step
begin_fits now unit s u l =
    let frame : List ℕ = spelled (DataUnit (in_transaction FromOriginator s.next_identifier) unit) in
    let octets : AreOctets frame = data_fits (in_transaction FromOriginator s.next_identifier) unit l.next u in
    either (λ (z : Step). StepFits z) (is_busy s) (quiet s) (links_started now frame s) (quiet_fits s l)
    (record { state = record { next = (let k : (s.next_identifier + 1) % 7 < 7 = omega arith in k); begun = octets; opened = l.opened }; frames = (octets, tt); up = tt })

reply_fits_in : (now : ℕ) (unit : List ℕ) (s : LinkState) (o : Option Opened) → UnitFits unit → LinkInOctets s → OpenedInOctets o → StepFits (reply_in now unit s o)
reply_fits_in now unit s None u l p = quiet_fits s l
reply_fits_in now unit s (Some o) u l p =
    let octets : AreOctets (spelled (DataUnit (in_transaction ToOriginator o.identifier) unit)) = data_fits (in_transaction ToOriginator o.identifier) unit p.0 u in
    either (λ (z : Step). StepFits z) (is_none o.answer) (answered now unit s o) (quiet s)
    (record { state = record { next = l.next; begun = l.begun; opened = (p.0, octets) }; frames = (octets, tt); up = tt }) (quiet_fits s l)

reply_fits : (now : ℕ) (unit : List ℕ) (s : LinkState) → UnitFits unit → LinkInOctets s → StepFits (reply_step now unit s)
unfolding reply_step
reply_fits now unit s u l = reply_fits_in now unit s s.opened u l l.opened

-- ---- a frame that comes

without_begun : (s : LinkState) (last : Option (List ℕ)) → LinkInOctets s → LinkInOctets (record s { begun = None; last_answer = last })
without_begun s last l = record { next = l.next; begun = tt; opened = l.opened }

answers_fit : (a : Option Answer) → AnswerInOctets a → FramesInOctets (frames_of a)
answers_fit None h = tt
answers_fit (Some a) h = (h, tt)

opened_answers_fit : (o : Option Opened) → OpenedInOctets o → FramesInOctets (answer_frames o)
opened_answers_fit None h = tt
opened_answers_fit (Some o) h = answers_fit o.answer h.1

module _ (s : LinkState) (l : LinkInOctets s) where
  answer_taken_fits : (frame unit : List ℕ) (t : Transaction) → t.identifier < 7 → StepFits (answer_taken frame unit t s)
  answer_taken_fits frame unit t i =
      either (λ (z : Step). StepFits z) (has_begun t.identifier s.begun) _ _ (record { state = without_begun s (Some frame) l; frames = (ack_fits t i, tt); up = tt })
      (either (λ (z : Step). StepFits z) (is_same frame s.last_answer) _ _ (record { state = l; frames = (ack_fits t i, tt); up = tt }) (record { state = l; frames = (rejection_fits t i, tt); up = tt }))

  opening_taken_fits : (frame unit : List ℕ) (t : Transaction) → t.identifier < 7 → IsAnsweredInOctet unit (down_at unit) → StepFits (opening_taken frame unit t s)
  opening_taken_fits frame unit t i a =
      either (λ (z : Step). StepFits z) (is_same frame (opening_of s.opened)) _ _ (record { state = l; frames = (ack_fits t i, opened_answers_fit s.opened l.opened); up = tt })
      (either (λ (z : Step). StepFits z) (is_same frame s.last_opening) _ _ (record { state = l; frames = (ack_fits t i, tt); up = tt })
      (record { state = record { next = l.next; begun = l.begun; opened = (i, tt) }; frames = (ack_fits t i, tt); up = a }))

  data_taken_fits : (f : TransactionFlag) (frame unit : List ℕ) (t : Transaction) → t.identifier < 7 → IsAnsweredInOctet unit (down_at unit) → StepFits (data_taken f frame unit t s)
  data_taken_fits ToOriginator frame unit t i a = answer_taken_fits frame unit t i
  data_taken_fits FromOriginator frame unit t i a = opening_taken_fits frame unit t i a

  unrepeated : (b : Option Begun) → BegunInOctets b → BegunInOctets (option_map (λ (x : Begun). record x { repetition = None }) b)
  unrepeated None h = tt
  unrepeated (Some b) h = h

  ack_taken_fits : (f : TransactionFlag) (i : ℕ) → StepFits (ack_taken f i s)
  ack_taken_fits ToOriginator i =
      either (λ (z : Step). StepFits z) (has_begun i s.begun) _ _
      (record { state = record { next = l.next; begun = unrepeated s.begun l.begun; opened = l.opened }; frames = tt; up = tt }) (quiet_fits s l)
  ack_taken_fits FromOriginator i =
      either (λ (z : Step). StepFits z) (has_opened i s.opened && is_some (answer_of s.opened)) _ _
      (record { state = record { next = l.next; begun = l.begun; opened = tt }; frames = tt; up = tt }) (quiet_fits s l)

  error_taken_fits : (f : TransactionFlag) (i : ℕ) → StepFits (error_taken f i s)
  error_taken_fits ToOriginator i =
      either (λ (z : Step). StepFits z) (has_begun i s.begun) _ _ (record { state = record { next = l.next; begun = tt; opened = l.opened }; frames = tt; up = tt }) (quiet_fits s l)
  error_taken_fits FromOriginator i =
      either (λ (z : Step). StepFits z) (has_opened i s.opened) _ _ (record { state = record { next = l.next; begun = l.begun; opened = tt }; frames = tt; up = tt }) (quiet_fits s l)

  frame_taken_fits : (frame : List ℕ) (r : Result Cp CpFault) → BringsInOctets r → StepFits (frame_taken frame s r)
  frame_taken_fits frame (Err fault) c = quiet_fits s l
  frame_taken_fits frame (Ok (DataUnit t unit)) c = data_taken_fits t.flag frame unit t c.0 c.1
  frame_taken_fits frame (Ok (AckUnit t)) c = ack_taken_fits t.flag t.identifier
  frame_taken_fits frame (Ok (ErrorUnit t cause)) c = error_taken_fits t.flag t.identifier

  take_fits : (frame : List ℕ) → ArrivesInOctets frame → StepFits (take_step frame s)
  unfolding take_step
  take_fits frame c = frame_taken_fits frame (cp_at frame) c

  -- ---- timers

  begun_again : (now : ℕ) (b : Option Begun) → BegunInOctets b → BegunInOctets (option_map (λ (x : Begun). record x { repetition = option_map (sent_again now) x.repetition }) b)
  begun_again now None h = tt
  begun_again now (Some b) h = h

  answer_again : (now : ℕ) (a : Option Answer) → AnswerInOctets a → AnswerInOctets (option_map (λ (x : Answer). record x { repetition = sent_again now x.repetition }) a)
  answer_again now None h = tt
  answer_again now (Some a) h = h

  opened_again : (now : ℕ) (o : Option Opened) → OpenedInOctets o
      → OpenedInOctets (option_map (λ (x : Opened). record x { answer = option_map (λ (a : Answer). record a { repetition = sent_again now a.repetition }) x.answer }) o)
  opened_again now None h = tt
  opened_again now (Some o) h = (h.0, answer_again now o.answer h.1)

  begun_frames_fit : (b : Option Begun) → BegunInOctets b → FramesInOctets (begun_frames b)
  begun_frames_fit None h = tt
  begun_frames_fit (Some b) h = (h, tt)

  fire_fits : (now : ℕ) → StepFits (fire_step now s)
  unfolding fire_step
  fire_fits now =
      let mine = begun_firing now s.begun in
      let theirs = opened_firing now s.opened in
      record {
        state = record {
          next = l.next;
          begun = firing_cases (λ f. BegunInOctets (begun_fired now f s.begun)) l.begun (begun_again now s.begun l.begun) tt mine;
          opened = firing_cases (λ f. OpenedInOctets (opened_fired now f s.opened)) l.opened (opened_again now s.opened l.opened) tt theirs;
        };
        frames = both_frames (if_again mine (begun_frames s.begun)) (if_again theirs (answer_frames s.opened))
            (firing_cases (λ f. FramesInOctets (if_again f (begun_frames s.begun))) tt (begun_frames_fit s.begun l.begun) tt mine)
            (firing_cases (λ f. FramesInOctets (if_again f (answer_frames s.opened))) tt (opened_answers_fit s.opened l.opened) tt theirs);
        up = firing_cases (λ f. UpFits (failed_by f)) tt tt tt mine;
      }

-- ---- turns

abbrev pub UpwardFits : Option Upward → Type 0
UpwardFits None = Unit {0}
UpwardFits (Some (OpenedUp unit)) = IsAnsweredInOctet unit (down_at unit)
UpwardFits (Some (Ended transfer ending)) = Unit {0}

pub record TurnFits (t : Turn) : Type 0 where
  pub link : LinkInOctets t.link.links
  pub frames : SentInOctets t.out.frames
  pub up : UpwardFits t.out.up

ended_fits : (f : Carried → Ending) (u : Option Carried) → UpwardFits (option_map (λ (t : Carried). Ended t (f t)) u)
ended_fits f None = tt
ended_fits f (Some t) = tt

arrived_up_fits : (side : Side) (u : Option Carried) (up : Option Up) → UpFits up → UpwardFits (passed_up side u up)
arrived_up_fits side u None h = tt
arrived_up_fits side u (Some (UnitUp FromOriginator unit)) h = h
arrived_up_fits side u (Some (UnitUp ToOriginator unit)) h = ended_fits _ u
arrived_up_fits side u (Some Failed) h = ended_fits _ u

carrying_fits : (c : Option Carried) (frames : List (List ℕ)) → FramesInOctets frames → SentInOctets (carrying c frames)
carrying_fits c [] h = tt
carrying_fits c (f ∷ fs) h = (h.0, carrying_fits c fs h.1)

from_links_fits : (u a : Option Carried) (frames : List (List ℕ)) → FramesInOctets frames → SentInOctets (from_links u a frames)
from_links_fits u a [] h = tt
from_links_fits u a (f ∷ fs) h = (h.0, from_links_fits u a fs h.1)

still_fits : (l : LinkOf) → LinkInOctets l.links → TurnFits (still l)
still_fits l h = record { link = h; frames = tt; up = tt }

pub begun_fits : (now reference : ℕ) (tag : Holder) (unit : List ℕ) (l : LinkOf) → UnitFits unit → LinkInOctets l.links → TurnFits (begun now reference tag unit l)
begun_fits now reference tag unit l u h =
    let step = begin_fits now unit l.links u h in
    by_test (λ (z : Turn). TurnFits z) (is_busy l.links) (still l) (started (of_kind Data reference tag) (begin_step now unit l.links) l) (λ t. still_fits l h)
    (λ t. record { link = step.state; frames = carrying_fits (Some (of_kind Data reference tag)) (begin_step now unit l.links).out.frames step.frames; up = tt })

pub replied_fits : (now : ℕ) (kind : Kind) (reference : ℕ) (tag : Holder) (unit : List ℕ) (l : LinkOf) → UnitFits unit → LinkInOctets l.links → TurnFits (replied now kind reference tag unit l)
replied_fits now kind reference tag unit l u h =
    let step = reply_fits now unit l.links u h in
    by_test (λ (z : Turn). TurnFits z) _ (answering (of_kind kind reference tag) (reply_step now unit l.links) l) (still l)
    (λ t. record { link = step.state; frames = carrying_fits (Some (of_kind kind reference tag)) (reply_step now unit l.links).out.frames step.frames; up = tt }) (λ t. still_fits l h)

pub taken_fits : (frame : List ℕ) (l : LinkOf) → ArrivesInOctets frame → LinkInOctets l.links → TurnFits (taken frame l)
taken_fits frame l c h =
    let step = take_fits l.links h frame c in record { link = step.state; frames = from_links_fits l.under_way l.answered (take_step frame l.links).out.frames step.frames; up = arrived_up_fits l.side l.under_way (take_step frame l.links).out.up step.up }

pub fired_fits : (now : ℕ) (l : LinkOf) → LinkInOctets l.links → TurnFits (fired now l)
fired_fits now l h =
    let step = fire_fits l.links h now in record { link = step.state; frames = from_links_fits l.under_way l.answered (fire_step now l.links).out.frames step.frames; up = arrived_up_fits l.side l.under_way (fire_step now l.links).out.up step.up }
