-- What a link sends of its own accord says what was sent before: data for an entry of the outbox carry what that entry has.
use Rattle.std.proofs.Common.{◌≡◌, ℕ, ◌<◌, List, [], ◌∷◌, ◌++◌, Option, Some, None, Result, Ok, Err, sym, ◌∙◌, ap, subst}
use Rattle.std.specs.Prelude.{is_none, ◌&&◌, is_some}
use Rattle.std.proofs.lemmas.Option.{same_Some}
use Rattle.sms_base.specs.declared.carried.Carried.{Carried}
use Rattle.sms_base.specs.declared.carried.Kind.TheVariants.{Data}
use Rattle.sms_base.specs.declared.holder.Holder.{Holder}
use Rattle.sms_base.specs.declared.holder.Holder.TheVariants.{Entry, Memory, Part, Report}
use Rattle.sms_control.specs.declared.fault.CpFault.{CpFault}
use Rattle.sms_control.specs.declared.link_state.Answer.{Answer}
use Rattle.sms_control.specs.declared.link_state.Begun.{Begun}
use Rattle.sms_control.specs.declared.link_state.LinkState.{LinkState}
use Rattle.sms_control.specs.declared.link_state.Opened.{Opened}
use Rattle.sms_control.specs.declared.message.Cp.{Cp}
use Rattle.sms_control.specs.declared.message.Cp.TheVariants.{DataUnit, AckUnit, ErrorUnit}
use Rattle.sms_control.specs.declared.transaction.Transaction.{Transaction}
use Rattle.sms_control.specs.declared.transaction.TransactionFlag.{TransactionFlag}
use Rattle.sms_control.specs.declared.transaction.TransactionFlag.TheVariants.{FromOriginator, ToOriginator}
use Rattle.sms_control.specs.ControlReading.{cp_at}
use Rattle.sms_control.specs.LinkStep.{Step, ack_taken, acknowledgement, answer_frames, answer_of, answer_taken, answered, begun_frames, data_taken, error_taken, fire_step, frame_taken, frames_of, has_begun, has_opened, if_again, is_same, opening_of, opening_taken, quiet, rejection, reply_in, reply_step, take_step}
use Rattle.sms_control.specs.Timers.{begun_firing, opened_firing}
use Rattle.sms_control.proofs.FiringCases.{firing_cases}
use Rattle.sms_control.proofs.LinkLaws.{either}
use Rattle.sms_link.specs.declared.outgoing.Outgoing.{Outgoing}
use Rattle.sms_link.specs.LinkTurn.{LinkOf, Turn, carried_in, carrying, fired, from_links, taken}
use Rattle.sms_world.specs.headline.SeenFrames.{frame_tpdu}
use Rattle.sms_world.proofs.frames_pass_between_sides.Linking.{ack_read, rejection_read}

-- CP-DATA that arrives is in a transaction that has an identifier
abbrev pub Brings : Result Cp CpFault → Type 0
Brings (Ok (DataUnit t unit)) = t.identifier < 7
Brings (Ok (AckUnit t)) = Unit {0}
Brings (Ok (ErrorUnit t cause)) = Unit {0}
Brings (Err fault) = Unit {0}

-- no new transaction is begun
pub reply_next : (now : ℕ) (unit : List ℕ) (s : LinkState) → s.next_identifier < 7 → (reply_step now unit s).state.next_identifier < 7
unfolding reply_step
reply_next now unit s l = of_opened s.opened
  where
    of_opened : (o : Option Opened) → (reply_in now unit s o).state.next_identifier < 7
    of_opened None = l
    of_opened (Some o) = either (λ (z : Step). z.state.next_identifier < 7) (is_none o.answer) (answered now unit s o) (quiet s) l l

module _ (Known : ℕ → List ℕ → Type 0) where
  -- what data for an entry carry is what that entry has; RP-SMMA carries nothing; a handset sends data for nothing else
  abbrev pub HolderSays : Holder → List ℕ → Type 0
  HolderSays (Entry e) tpdu = Known e tpdu
  HolderSays (Memory n) tpdu = tpdu ≡ []
  HolderSays (Part id n) tpdu = ⊥
  HolderSays (Report id) tpdu = ⊥

  abbrev pub Says : Option Carried → List ℕ → Type 0
  Says c octets = (x : Carried) → c ≡ Some x → x.kind ≡ Data → HolderSays x.tag (frame_tpdu (cp_at octets))

  abbrev pub AllSay : List Outgoing → Type 0
  AllSay [] = Unit {0}
  AllSay (f ∷ fs) = Says f.carried f.octets × AllSay fs

  pub both_say : (xs ys : List Outgoing) → AllSay xs → AllSay ys → AllSay (xs ++ ys)
  both_say [] ys a b = b
  both_say (x ∷ xs) ys a b = (a.0, both_say xs ys a.1 b)

  pub nothing_says : (octets : List ℕ) → Says None octets
  nothing_says octets x is kind = absurd cc

  -- what carries no data
  pub quiet_frames : (c : Carried) (fs : List (List ℕ)) → (c.kind ≡ Data → ⊥) → AllSay (carrying (Some c) fs)
  quiet_frames c [] never = tt
  quiet_frames c (f ∷ fs) never = (λ x is kind. absurd (never (ap (λ (z : Carried). z.kind) (same_Some c x is) ∙ kind)), quiet_frames c fs never)

  -- ---- the links' own

  module _ (u a : Option Carried) where
    abbrev pub FrameSays : List ℕ → Type 0
    FrameSays f = Says (carried_in (cp_at f) u a) f

    abbrev FramesSay : List (List ℕ) → Type 0
    FramesSay [] = Unit {0}
    FramesSay (f ∷ fs) = FrameSays f × FramesSay fs

    both_frames : (xs ys : List (List ℕ)) → FramesSay xs → FramesSay ys → FramesSay (xs ++ ys)
    both_frames [] ys k l = l
    both_frames (x ∷ xs) ys k l = (k.0, both_frames xs ys k.1 l)

    from_links_say : (fs : List (List ℕ)) → FramesSay fs → AllSay (from_links u a fs)
    from_links_say [] k = tt
    from_links_say (f ∷ fs) k = (k.0, from_links_say fs k.1)

    abbrev pub BegunSays : Option Begun → Type 0
    BegunSays None = Unit {0}
    BegunSays (Some b) = FrameSays b.frame

    abbrev pub AnswerSays : Option Answer → Type 0
    AnswerSays None = Unit {0}
    AnswerSays (Some x) = FrameSays x.frame

    abbrev pub OpenedSays : Option Opened → Type 0
    OpenedSays None = Unit {0}
    OpenedSays (Some o) = AnswerSays o.answer

    pub record LinkSays (s : LinkState) : Type 0 where
      pub next : s.next_identifier < 7
      pub begun : BegunSays s.begun
      pub opened : OpenedSays s.opened

    record StepSays (z : Step) : Type 0 where
      next : z.state.next_identifier < 7
      frames : FramesSay z.out.frames

    ack_says : (t : Transaction) → t.identifier < 7 → FrameSays (acknowledgement t)
    ack_says t l =
        subst (λ (r : Result Cp CpFault). Says (carried_in r u a) (acknowledgement t)) (sym (ack_read t l)) (nothing_says (acknowledgement t))

    rejection_says : (t : Transaction) → t.identifier < 7 → FrameSays (rejection t)
    rejection_says t l =
        subst (λ (r : Result Cp CpFault). Says (carried_in r u a) (rejection t)) (sym (rejection_read t l)) (nothing_says (rejection t))

    answer_says : (x : Option Answer) → AnswerSays x → FramesSay (frames_of x)
    answer_says None k = tt
    answer_says (Some x) k = (k, tt)

    opened_says : (o : Option Opened) → OpenedSays o → FramesSay (answer_frames o)
    opened_says None k = tt
    opened_says (Some o) k = answer_says o.answer k

    begun_says : (b : Option Begun) → BegunSays b → FramesSay (begun_frames b)
    begun_says None k = tt
    begun_says (Some b) k = (k, tt)

    module _ (s : LinkState) (l : LinkSays s) where
      quiet_says : StepSays (quiet s)
      quiet_says = record { next = l.next; frames = tt }

      answer_taken_says : (frame unit : List ℕ) (t : Transaction) → t.identifier < 7 → StepSays (answer_taken frame unit t s)
      answer_taken_says frame unit t i =
          either (λ (z : Step). StepSays z) (has_begun t.identifier s.begun) _ _ (record { next = l.next; frames = (ack_says t i, tt) })
          (either (λ (z : Step). StepSays z) (is_same frame s.last_answer) _ _ (record { next = l.next; frames = (ack_says t i, tt) }) (record { next = l.next; frames = (rejection_says t i, tt) }))

      opening_taken_says : (frame unit : List ℕ) (t : Transaction) → t.identifier < 7 → StepSays (opening_taken frame unit t s)
      opening_taken_says frame unit t i =
          either (λ (z : Step). StepSays z) (is_same frame (opening_of s.opened)) _ _ (record { next = l.next; frames = (ack_says t i, opened_says s.opened l.opened) })
          (either (λ (z : Step). StepSays z) (is_same frame s.last_opening) _ _ (record { next = l.next; frames = (ack_says t i, tt) }) (record { next = l.next; frames = (ack_says t i, tt) }))

      data_taken_says : (f : TransactionFlag) (frame unit : List ℕ) (t : Transaction) → t.identifier < 7 → StepSays (data_taken f frame unit t s)
      data_taken_says ToOriginator frame unit t i = answer_taken_says frame unit t i
      data_taken_says FromOriginator frame unit t i = opening_taken_says frame unit t i

      ack_taken_says : (f : TransactionFlag) (i : ℕ) → StepSays (ack_taken f i s)
      ack_taken_says ToOriginator i = either (λ (z : Step). StepSays z) (has_begun i s.begun) _ _ (record { next = l.next; frames = tt }) quiet_says
      ack_taken_says FromOriginator i = either (λ (z : Step). StepSays z) (has_opened i s.opened && is_some (answer_of s.opened)) _ _ (record { next = l.next; frames = tt }) quiet_says

      error_taken_says : (f : TransactionFlag) (i : ℕ) → StepSays (error_taken f i s)
      error_taken_says ToOriginator i = either (λ (z : Step). StepSays z) (has_begun i s.begun) _ _ (record { next = l.next; frames = tt }) quiet_says
      error_taken_says FromOriginator i = either (λ (z : Step). StepSays z) (has_opened i s.opened) _ _ (record { next = l.next; frames = tt }) quiet_says

      frame_taken_says : (frame : List ℕ) (r : Result Cp CpFault) → Brings r → StepSays (frame_taken frame s r)
      frame_taken_says frame (Err fault) b = quiet_says
      frame_taken_says frame (Ok (DataUnit t unit)) b = data_taken_says t.flag frame unit t b
      frame_taken_says frame (Ok (AckUnit t)) b = ack_taken_says t.flag t.identifier
      frame_taken_says frame (Ok (ErrorUnit t cause)) b = error_taken_says t.flag t.identifier

      take_says : (frame : List ℕ) → Brings (cp_at frame) → StepSays (take_step frame s)
      unfolding take_step
      take_says frame b = frame_taken_says frame (cp_at frame) b

      fire_says : (now : ℕ) → StepSays (fire_step now s)
      unfolding fire_step
      fire_says now =
          let mine = begun_firing now s.begun in
          let theirs = opened_firing now s.opened in
          record {
            next = l.next;
            frames = both_frames (if_again mine (begun_frames s.begun)) (if_again theirs (answer_frames s.opened))
                (firing_cases (λ f. FramesSay (if_again f (begun_frames s.begun))) tt (begun_says s.begun l.begun) tt mine)
                (firing_cases (λ f. FramesSay (if_again f (answer_frames s.opened))) tt (opened_says s.opened l.opened) tt theirs);
          }

  -- ---- turns

  pub record TurnSays (t : Turn) : Type 0 where
    pub next : t.link.links.next_identifier < 7
    pub frames : AllSay t.out.frames

  pub taken_says : (frame : List ℕ) (l : LinkOf) → Brings (cp_at frame) → LinkSays l.under_way l.answered l.links → TurnSays (taken frame l)
  taken_says frame l b k =
      let z = take_says l.under_way l.answered l.links k frame b in
      record { next = z.next; frames = from_links_say l.under_way l.answered (take_step frame l.links).out.frames z.frames }

  pub fired_says : (now : ℕ) (l : LinkOf) → LinkSays l.under_way l.answered l.links → TurnSays (fired now l)
  fired_says now l k =
      let z = fire_says l.under_way l.answered l.links k now in
      record { next = z.next; frames = from_links_say l.under_way l.answered (fire_step now l.links).out.frames z.frames }
