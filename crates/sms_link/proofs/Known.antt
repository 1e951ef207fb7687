-- What a link sends of its own accord is a copy of what was sent before, with what it carries, or is bare.
use Rattle.std.proofs.Common.{◌≡◌, ◌⊎◌, ℕ, zero, suc, ◌<◌, ◌≤◌, arith, List, [], ◌∷◌, ◌++◌, Bool, true, false, cond, refl, sym, ◌∙◌, ap, subst, inl, inr, Option, Some, None, Result, Ok, Err, length, is_some, is_none}
use Rattle.std.specs.Prelude.{◌&&◌, IfOk}
use Rattle.std.specs.Option.{option_map}
use Rattle.std.specs.List.{AllByRecursion}
use Rattle.std.proofs.lemmas.Bool.{cond-true, cond-false}
use Rattle.sms_base.proofs.Lists.{among_back}
use Rattle.sms_base.proofs.OctetLaws.{IsBytes}
use Rattle.sms_base.specs.Among.{Among}
use Rattle.sms_base.specs.declared.holder.Holder.{Holder}
use Rattle.sms_control.specs.declared.cause.CpCause.TheVariants.{InvalidTransactionIdentifier}
use Rattle.sms_control.specs.declared.fault.CpFault.{CpFault}
use Rattle.sms_control.specs.declared.link_state.Answer.{Answer}
use Rattle.sms_control.specs.declared.link_state.Begun.{Begun}
use Rattle.sms_control.specs.declared.link_state.Opened.{Opened}
use Rattle.sms_control.specs.declared.link_state.LinkState.{LinkState}
use Rattle.sms_control.specs.declared.message.Cp.{Cp}
use Rattle.sms_control.specs.declared.message.Cp.TheVariants.{DataUnit, AckUnit, ErrorUnit}
use Rattle.sms_control.specs.declared.transaction.Transaction.{Transaction}
use Rattle.sms_control.specs.declared.transaction.TransactionFlag.{TransactionFlag}
use Rattle.sms_control.specs.declared.transaction.TransactionFlag.TheVariants.{FromOriginator, ToOriginator}
use Rattle.sms_control.specs.ControlGrammar.{IsCp, spelled, turned}
use Rattle.sms_control.specs.ControlReading.{cp_at}
use Rattle.sms_control.specs.Timers.{sent_again, begun_firing, opened_firing}
use Rattle.sms_control.specs.LinkStep.{Step, quiet, in_transaction, acknowledgement, rejection, is_busy, started as links_started, begin_step, answer_of, frames_of, reply_step, is_same, has_begun, has_opened, opening_of, answer_frames, answer_taken, opening_taken, data_taken, ack_taken, error_taken, frame_taken, take_step, begun_fired, opened_fired, begun_frames, if_again, failed_by, fire_step}
use Rattle.sms_control.proofs.ControlFrames.{cp_found, spelled_again}
use Rattle.sms_control.proofs.LinkLaws.{either}
use Rattle.sms_control.proofs.FiringCases.{firing_cases}
use Rattle.sms_base.specs.declared.carried.Kind.{Kind}
use Rattle.sms_base.specs.declared.carried.Kind.TheVariants.{Data}
use Rattle.sms_base.specs.declared.carried.Carried.{Carried}
use Rattle.sms_link.specs.declared.outgoing.Outgoing.{Outgoing}
use Rattle.sms_link.specs.declared.ending.Side.{Side}
use Rattle.sms_link.specs.LinkTurn.{LinkOf, Turn, new_link, still, of_kind, started, begun, answering, replied, carried_by, carried_in, of_links, from_links, still_under_way, heard, taken, fired}
use Rattle.sms_link.specs.LinkCalls.{LinkCall, Begin, Reply, Take, Fire, AreCalls, first_sending, IsNewFrame, IsCopy, IsControl, IsBare, AllSend}

-- ---- what holds between calls

-- the octets are CP-DATA with that flag
abbrev pub ReadsData : TransactionFlag → Result Cp CpFault → Type 0
ReadsData flag (Ok (DataUnit t unit)) = t.flag ≡ flag
ReadsData flag (Ok (AckUnit t)) = ⊥
ReadsData flag (Ok (ErrorUnit t cause)) = ⊥
ReadsData flag (Err fault) = ⊥

-- it was sent with that flag, and carried what is known of its transaction
pub record WasSent (flag : TransactionFlag) (before : List Outgoing) (c : Option Carried) (frame : List ℕ) : Type 0 where
  pub carried : Carried
  pub carries : c ≡ Some carried
  pub first : Among (first_sending frame carried) before
  pub reads : ReadsData flag (cp_at frame)

abbrev pub HoldsBegun : List Outgoing → Option Carried → Option Begun → Type 0
HoldsBegun before c None = Unit {0}
HoldsBegun before c (Some b) = WasSent FromOriginator before c b.frame

abbrev pub HoldsAnswer : List Outgoing → Option Carried → Option Answer → Type 0
HoldsAnswer before c None = Unit {0}
HoldsAnswer before c (Some a) = WasSent ToOriginator before c a.frame

abbrev pub HoldsOpened : List Outgoing → Option Carried → Option Opened → Type 0
HoldsOpened before c None = Unit {0}
HoldsOpened before c (Some o) = (o.identifier < 7) × HoldsAnswer before c o.answer

pub record Holds (before : List Outgoing) (l : LinkOf) : Type 0 where
  pub next : l.links.next_identifier < 7
  pub begun : HoldsBegun before l.under_way l.links.begun
  pub opened : HoldsOpened before l.answered l.links.opened

-- ---- while more is sent

sent_more : (flag : TransactionFlag) (fs before : List Outgoing) (c : Option Carried) (frame : List ℕ) → WasSent flag before c frame → WasSent flag (fs ++ before) c frame
sent_more flag fs before c frame h = record { carried = h.carried; carries = h.carries; first = among_back (first_sending frame h.carried) fs before h.first; reads = h.reads }

begun_more : (fs before : List Outgoing) (c : Option Carried) (b : Option Begun) → HoldsBegun before c b → HoldsBegun (fs ++ before) c b
begun_more fs before c None h = tt
begun_more fs before c (Some b) h = sent_more FromOriginator fs before c b.frame h

answer_more : (fs before : List Outgoing) (c : Option Carried) (a : Option Answer) → HoldsAnswer before c a → HoldsAnswer (fs ++ before) c a
answer_more fs before c None h = tt
answer_more fs before c (Some a) h = sent_more ToOriginator fs before c a.frame h

opened_more : (fs before : List Outgoing) (c : Option Carried) (o : Option Opened) → HoldsOpened before c o → HoldsOpened (fs ++ before) c o
opened_more fs before c None h = tt
opened_more fs before c (Some o) h = (h.0, answer_more fs before c o.answer h.1)

holds_more : (fs before : List Outgoing) (l : LinkOf) → Holds before l → Holds (fs ++ before) l
holds_more fs before l h = record {
  next = h.next;
  begun = begun_more fs before l.under_way l.links.begun h.begun;
  opened = opened_more fs before l.answered l.links.opened h.opened;
}

-- ---- frames of the links' own

carried_begun : (r : Result Cp CpFault) (u a : Option Carried) → ReadsData FromOriginator r → carried_in r u a ≡ u
carried_begun (Ok (DataUnit t unit)) u a h = ap (λ (f : TransactionFlag). carried_by f u a) h
carried_begun (Ok (AckUnit t)) u a h = absurd h
carried_begun (Ok (ErrorUnit t cause)) u a h = absurd h
carried_begun (Err fault) u a h = absurd h

carried_answer : (r : Result Cp CpFault) (u a : Option Carried) → ReadsData ToOriginator r → carried_in r u a ≡ a
carried_answer (Ok (DataUnit t unit)) u a h = ap (λ (f : TransactionFlag). carried_by f u a) h
carried_answer (Ok (AckUnit t)) u a h = absurd h
carried_answer (Ok (ErrorUnit t cause)) u a h = absurd h
carried_answer (Err fault) u a h = absurd h

module _ (before : List Outgoing) (u a : Option Carried) where
  abbrev read_out : List ℕ → Outgoing
  read_out frame = of_links frame (carried_in (cp_at frame) u a)

  abbrev IsKnown : Outgoing → Type 0
  IsKnown sent = IsCopy before sent ⊎ IsBare sent

  abbrev AreKnown : List (List ℕ) → Type 0
  AreKnown frames = AllByRecursion IsKnown (from_links u a frames)

  abbrev AreCopies : List (List ℕ) → Type 0
  AreCopies frames = AllByRecursion (IsCopy before) (from_links u a frames)

  copy_of : (flag : TransactionFlag) (frame : List ℕ) (c : Option Carried) → carried_in (cp_at frame) u a ≡ c → WasSent flag before c frame → IsCopy before (read_out frame)
  copy_of flag frame c e w =
      let carries : carried_in (cp_at frame) u a ≡ Some w.carried = e ∙ w.carries in
      record { carried = w.carried; carries = carries; is_again = ap (λ (x : Option Carried). is_some x) carries; first = w.first }

  begun_again : (frame : List ℕ) → WasSent FromOriginator before u frame → IsCopy before (read_out frame)
  begun_again frame w = copy_of FromOriginator frame u (carried_begun (cp_at frame) u a w.reads) w

  answer_again : (frame : List ℕ) → WasSent ToOriginator before a frame → IsCopy before (read_out frame)
  answer_again frame w = copy_of ToOriginator frame a (carried_answer (cp_at frame) u a w.reads) w

  bare : (frame : List ℕ) (cp : Cp) → cp_at frame ≡ Ok cp → carried_in (Ok cp) u a ≡ None → IsControl (Ok cp) → IsKnown (read_out frame)
  bare frame cp e nothing control =
      let none : carried_in (cp_at frame) u a ≡ None = ap (λ (r : Result Cp CpFault). carried_in r u a) e ∙ nothing in
      inr (record {
        carries_nothing = none;
        is_first = ap (λ (x : Option Carried). is_some x) none;
        is_control = subst (λ (r : Result Cp CpFault). IsControl r) (sym e) control;
      })

  ack_bare : (t : Transaction) → t.identifier < 7 → IsKnown (read_out (acknowledgement t))
  ack_bare t l =
      let cp : Cp = AckUnit (in_transaction (turned t.flag) t.identifier) in bare (acknowledgement t) cp (spelled_again cp l) refl tt

  rejection_bare : (t : Transaction) → t.identifier < 7 → IsKnown (read_out (rejection t))
  rejection_bare t l =
      let cp : Cp = ErrorUnit (in_transaction (turned t.flag) t.identifier) InvalidTransactionIdentifier in bare (rejection t) cp (spelled_again cp (l, tt)) refl tt

  begun_copied : (b : Option Begun) → HoldsBegun before u b → AreCopies (begun_frames b)
  begun_copied None h = tt
  begun_copied (Some b) h = (begun_again b.frame h, tt)

  frames_copied : (x : Option Answer) → HoldsAnswer before a x → AreCopies (frames_of x)
  frames_copied None h = tt
  frames_copied (Some x) h = (answer_again x.frame h, tt)

  answer_copied : (o : Option Opened) → HoldsOpened before a o → AreCopies (answer_frames o)
  answer_copied None h = tt
  answer_copied (Some o) h = frames_copied o.answer h.1

  copies_known : (xs : List (List ℕ)) → AreCopies xs → AreKnown xs
  copies_known [] h = tt
  copies_known (x ∷ xs) h = (inl h.0, copies_known xs h.1)

  both_copied : (xs ys : List (List ℕ)) → AreCopies xs → AreCopies ys → AreCopies (xs ++ ys)
  both_copied [] ys h k = k
  both_copied (x ∷ xs) ys h k = (h.0, both_copied xs ys h.1 k)

-- ---- what timers and CP-ACK leave

begun_quiet : (before : List Outgoing) (c : Option Carried) (b : Option Begun) → HoldsBegun before c b → HoldsBegun before c (option_map (λ (b : Begun). record b { repetition = None }) b)
begun_quiet before c None h = tt
begun_quiet before c (Some b) h = h

begun_repeats : (before : List Outgoing) (c : Option Carried) (now : ℕ) (b : Option Begun) → HoldsBegun before c b
    → HoldsBegun before c (option_map (λ (b : Begun). record b { repetition = option_map (sent_again now) b.repetition }) b)
begun_repeats before c now None h = tt
begun_repeats before c now (Some b) h = h

answer_repeats : (before : List Outgoing) (c : Option Carried) (now : ℕ) (x : Option Answer) → HoldsAnswer before c x
    → HoldsAnswer before c (option_map (λ (a : Answer). record a { repetition = sent_again now a.repetition }) x)
answer_repeats before c now None h = tt
answer_repeats before c now (Some x) h = h

opened_repeats : (before : List Outgoing) (c : Option Carried) (now : ℕ) (o : Option Opened) → HoldsOpened before c o
    → HoldsOpened before c (option_map (λ (o : Opened). record o { answer = option_map (λ (a : Answer). record a { repetition = sent_again now a.repetition }) o.answer }) o)
opened_repeats before c now None h = tt
opened_repeats before c now (Some o) h = (h.0, answer_repeats before c now o.answer h.1)

-- ---- the links' own steps

-- what a step of the links' own sends is known, and what it leaves holds
abbrev Fine : List Outgoing → LinkOf → Step → Type 0
Fine before l step = AllByRecursion (λ sent. IsCopy before sent ⊎ IsBare sent) (heard step l).out.frames × Holds before (heard step l).link

module _ (before : List Outgoing) (l : LinkOf) (h : Holds before l) where
  abbrev s : LinkState
  s = l.links

  same : Holds before (heard (quiet s) l).link
  same = record { next = h.next; begun = h.begun; opened = h.opened }

  quiet_fine : Fine before l (quiet s)
  quiet_fine = (tt, same)

  ack_of : (t : Transaction) → t.identifier < 7 → IsKnown before l.under_way l.answered (read_out before l.under_way l.answered (acknowledgement t))
  ack_of t lt = ack_bare before l.under_way l.answered t lt

  answer_fine : (frame unit : List ℕ) (t : Transaction) → t.identifier < 7 → Fine before l (answer_taken frame unit t s)
  answer_fine frame unit t lt =
      either (Fine before l) (has_begun t.identifier s.begun) _ _ ((ack_of t lt, tt), record { next = h.next; begun = tt; opened = h.opened })
      (either (Fine before l) (is_same frame s.last_answer) _ _ ((ack_of t lt, tt), same) ((rejection_bare before l.under_way l.answered t lt, tt), same))

  opening_fine : (frame unit : List ℕ) (t : Transaction) → t.identifier < 7 → Fine before l (opening_taken frame unit t s)
  opening_fine frame unit t lt =
      either (Fine before l) (is_same frame (opening_of s.opened)) _ _ ((ack_of t lt, copies_known before l.under_way l.answered (answer_frames s.opened) (answer_copied before l.under_way l.answered s.opened h.opened)), same)
      (either (Fine before l) (is_same frame s.last_opening) _ _ ((ack_of t lt, tt), same)
      ((ack_of t lt, tt), record { next = h.next; begun = h.begun; opened = (lt, tt) }))

  data_fine : (flag : TransactionFlag) (frame unit : List ℕ) (t : Transaction) → t.identifier < 7 → Fine before l (data_taken flag frame unit t s)
  data_fine ToOriginator frame unit t lt = answer_fine frame unit t lt
  data_fine FromOriginator frame unit t lt = opening_fine frame unit t lt

  ack_fine : (flag : TransactionFlag) (i : ℕ) → Fine before l (ack_taken flag i s)
  ack_fine ToOriginator i =
      either (Fine before l) (has_begun i s.begun) _ _ (tt, record { next = h.next; begun = begun_quiet before l.under_way s.begun h.begun; opened = h.opened }) quiet_fine
  ack_fine FromOriginator i =
      either (Fine before l) (has_opened i s.opened && is_some (answer_of s.opened)) _ _ (tt, record { next = h.next; begun = h.begun; opened = tt }) quiet_fine

  error_fine : (flag : TransactionFlag) (i : ℕ) → Fine before l (error_taken flag i s)
  error_fine ToOriginator i = either (Fine before l) (has_begun i s.begun) _ _ (tt, record { next = h.next; begun = tt; opened = h.opened }) quiet_fine
  error_fine FromOriginator i = either (Fine before l) (has_opened i s.opened) _ _ (tt, record { next = h.next; begun = h.begun; opened = tt }) quiet_fine

  frame_fine : (frame : List ℕ) (r : Result Cp CpFault) → IfOk r (λ (cp : Cp). IsCp frame cp) → Fine before l (frame_taken frame s r)
  frame_fine frame (Err fault) i = quiet_fine
  frame_fine frame (Ok (DataUnit t unit)) i = data_fine t.flag frame unit t i.value.0
  frame_fine frame (Ok (AckUnit t)) i = ack_fine t.flag t.identifier
  frame_fine frame (Ok (ErrorUnit t cause)) i = error_fine t.flag t.identifier

  take_fine : (frame : List ℕ) → IsBytes frame → Fine before l (take_step frame s)
  unfolding take_step
  take_fine frame bytes = frame_fine frame (cp_at frame) (cp_found frame (cp_at frame) bytes refl)

  fire_fine : (now : ℕ) → AllByRecursion (IsCopy before) (heard (fire_step now s) l).out.frames × Holds before (heard (fire_step now s) l).link
  unfolding fire_step
  fire_fine now = (
    both_copied before l.under_way l.answered (if_again (begun_firing now s.begun) (begun_frames s.begun)) (if_again (opened_firing now s.opened) (answer_frames s.opened))
        (firing_cases (λ f. AreCopies before l.under_way l.answered (if_again f (begun_frames s.begun))) tt (begun_copied before l.under_way l.answered s.begun h.begun) tt (begun_firing now s.begun))
        (firing_cases (λ f. AreCopies before l.under_way l.answered (if_again f (answer_frames s.opened))) tt (answer_copied before l.under_way l.answered s.opened h.opened) tt (opened_firing now s.opened)),
    record {
      next = h.next;
      begun = firing_cases (λ f. HoldsBegun before (still_under_way (failed_by f) l.under_way) (begun_fired now f s.begun)) h.begun (begun_repeats before l.under_way now s.begun h.begun) tt (begun_firing now s.begun);
      opened = firing_cases (λ f. HoldsOpened before l.answered (opened_fired now f s.opened)) h.opened (opened_repeats before l.answered now s.opened h.opened) tt (opened_firing now s.opened);
    },
  )

-- ---- this side's own

-- what a call of this side sends is new and carries that, and what it leaves holds
abbrev Fresh : List Outgoing → TransactionFlag → List ℕ → Carried → Turn → Type 0
Fresh before flag unit carried t = AllByRecursion (IsNewFrame flag unit carried) t.out.frames × Holds (t.out.frames ++ before) t.link

pub by_test : (P : Turn → Type 0) (b : Bool) (x y : Turn) → (b ≡ true → P x) → (b ≡ false → P y) → P (cond b x y)
by_test P true x y f g = f refl
by_test P false x y f g = g refl

still_fresh : (before : List Outgoing) (flag : TransactionFlag) (unit : List ℕ) (carried : Carried) (l : LinkOf) → Holds before l → Fresh before flag unit carried (still l)
still_fresh before flag unit carried l h = (tt, h)

reads_unit : (flag : TransactionFlag) (i : ℕ) (unit : List ℕ) → i < 7 → 0 < length unit → length unit ≤ 248
    → cp_at (spelled (DataUnit (in_transaction flag i) unit)) ≡ Ok (DataUnit (in_transaction flag i) unit)
reads_unit flag i unit lt some fits = spelled_again (DataUnit (in_transaction flag i) unit) (lt, some, fits)

-- the first sending of it
sent_first : (flag : TransactionFlag) (i : ℕ) (unit : List ℕ) (carried : Carried) (before : List Outgoing) → i < 7 → 0 < length unit → length unit ≤ 248
    → (let frame = spelled (DataUnit (in_transaction flag i) unit) in WasSent flag (first_sending frame carried ∷ before) (Some carried) frame)
sent_first flag i unit carried before lt some fits = record {
  carried = carried;
  carries = refl;
  first = inl refl;
  reads = subst (λ (r : Result Cp CpFault). ReadsData flag r) (sym (reads_unit flag i unit lt some fits)) refl;
}

is_new : (flag : TransactionFlag) (i : ℕ) (unit : List ℕ) (carried : Carried) → i < 7 → 0 < length unit → length unit ≤ 248
    → IsNewFrame flag unit carried (first_sending (spelled (DataUnit (in_transaction flag i) unit)) carried)
is_new flag i unit carried lt some fits = record { identifier = i; reads = reads_unit flag i unit lt some fits; carries = refl; is_first = refl }

pub begin_is : (now : ℕ) (unit : List ℕ) (s : LinkState) → is_busy s ≡ false → begin_step now unit s ≡ links_started now (spelled (DataUnit (in_transaction FromOriginator s.next_identifier) unit)) s
unfolding begin_step
begin_is now unit s e = cond-false (is_busy s) (quiet s) (links_started now (spelled (DataUnit (in_transaction FromOriginator s.next_identifier) unit)) s) e

begin_fresh : (before : List Outgoing) (l : LinkOf) (now reference : ℕ) (tag : Holder) (unit : List ℕ) → Holds before l → 0 < length unit → length unit ≤ 248
    → Fresh before FromOriginator unit (of_kind Data reference tag) (begun now reference tag unit l)
begin_fresh before l now reference tag unit h some fits =
    let carried = of_kind Data reference tag in
    let i = l.links.next_identifier in
    let frame = spelled (DataUnit (in_transaction FromOriginator i) unit) in
    let P : Turn → Type 0 = Fresh before FromOriginator unit carried in
    by_test P (is_busy l.links) (still l) (started carried (begin_step now unit l.links) l) (λ e. still_fresh before FromOriginator unit carried l h)
    (λ e. subst (λ (step : Step). P (started carried step l)) (sym (begin_is now unit l.links e)) (
      (is_new FromOriginator i unit carried h.next some fits, tt),
      record {
        next = omega arith;
        begun = sent_first FromOriginator i unit carried before h.next some fits;
        opened = opened_more (first_sending frame carried ∷ []) before l.answered l.links.opened h.opened;
      },
    ))

reply_at : (before : List Outgoing) (side : Side) (n : ℕ) (b : Option Begun) (o : Option Opened) (x p : Option (List ℕ)) (u a : Option Carried) (now : ℕ) (kind : Kind) (reference : ℕ) (tag : Holder) (unit : List ℕ)
    → (let l : LinkOf = record { side = side; links = record { next_identifier = n; begun = b; opened = o; last_answer = x; last_opening = p }; under_way = u; answered = a } in
    Holds before l → 0 < length unit → length unit ≤ 248 → Fresh before ToOriginator unit (of_kind kind reference tag) (replied now kind reference tag unit l))
unfolding reply_step
reply_at before side n b None x p u a now kind reference tag unit h some fits =
    let l : LinkOf = record { side = side; links = record { next_identifier = n; begun = b; opened = None; last_answer = x; last_opening = p }; under_way = u; answered = a } in
    still_fresh before ToOriginator unit (of_kind kind reference tag) l h
reply_at before side n b (Some o) x p u a now kind reference tag unit h some fits =
    let l : LinkOf = record { side = side; links = record { next_identifier = n; begun = b; opened = Some o; last_answer = x; last_opening = p }; under_way = u; answered = a } in
    let carried = of_kind kind reference tag in
    let frame = spelled (DataUnit (in_transaction ToOriginator o.identifier) unit) in
    let P : Turn → Type 0 = Fresh before ToOriginator unit carried in
    by_test P (is_none o.answer) (answering carried (reply_step now unit l.links) l) (still l)
    (λ e. subst (λ (step : Step). P (answering carried step l)) (sym (cond-true (is_none o.answer) _ (quiet l.links) e)) (
      (is_new ToOriginator o.identifier unit carried h.opened.0 some fits, tt),
      record {
        next = h.next;
        begun = begun_more (first_sending frame carried ∷ []) before u b h.begun;
        opened = (h.opened.0, sent_first ToOriginator o.identifier unit carried before h.opened.0 some fits);
      },
    ))
    (λ e. still_fresh before ToOriginator unit carried l h)

-- ---- runs

octets_are : (bytes : List ℕ) → AllByRecursion (λ (octet : ℕ). octet < 256) bytes → IsBytes bytes
octets_are [] h i = omega arith
octets_are (b ∷ bs) h zero = h.0
octets_are (b ∷ bs) h (suc i) = octets_are bs h.1 i

pub all_send : (calls : List LinkCall) (before : List Outgoing) (l : LinkOf) → AreCalls calls → Holds before l → AllSend calls l before
all_send [] before l c h = tt
all_send (Begin now reference tag unit ∷ cs) before l c h =
    let f = begin_fresh before l now reference tag unit h c.0.0 c.0.1 in
    (f.0, all_send cs ((begun now reference tag unit l).out.frames ++ before) (begun now reference tag unit l).link c.1 f.1)
all_send (Reply now kind reference tag unit ∷ cs) before l c h =
    let f : Fresh before ToOriginator unit (of_kind kind reference tag) (replied now kind reference tag unit l) =
    reply_at before l.side l.links.next_identifier l.links.begun l.links.opened l.links.last_answer l.links.last_opening l.under_way l.answered now kind reference tag unit h c.0.0 c.0.1 in
    (f.0, all_send cs ((replied now kind reference tag unit l).out.frames ++ before) (replied now kind reference tag unit l).link c.1 f.1)
all_send (Take frame ∷ cs) before l c h =
    let f = take_fine before l h frame (octets_are frame c.0) in
    (f.0, all_send cs ((taken frame l).out.frames ++ before) (taken frame l).link c.1 (holds_more (taken frame l).out.frames before (taken frame l).link f.1))
all_send (Fire now ∷ cs) before l c h =
    let f = fire_fine before l h now in
    (f.0, all_send cs ((fired now l).out.frames ++ before) (fired now l).link c.1 (holds_more (fired now l).out.frames before (fired now l).link f.1))

pub new_holds : (side : Side) → Holds [] (new_link side)
new_holds side = record { next = omega arith; begun = tt; opened = tt }
