-- The links of a centre and its sessions stay sound over rows that stand, whatever a stage does to them.
use Rattle.std.proofs.Common.{◌≡◌, ℕ, List, [], ◌∷◌, true, false, Option, Some, None, Result, Ok, Err, refl, sym, ◌∙◌, ap, subst, inl, inr, ⊎_elim}
use Rattle.std.specs.Prelude.{◌⊎◌, ◌==◌}
use Rattle.std.specs.Str.{bytes_eq}
use Rattle.std.proofs.lemmas.Bool.{cases_Bool, cond-false, cond-true, cond_both}
use Rattle.std.proofs.lemmas.Slice.Eq.{bytes_eq-Decides}
use Rattle.sms_base.proofs.Lists.{among_parts}
use Rattle.sms_base.specs.Among.{Among}
use Rattle.sms_base.specs.declared.carried.Carried.{Carried}
use Rattle.sms_base.specs.declared.carried.Kind.{Kind}
use Rattle.sms_base.specs.declared.carried.Kind.TheVariants.{Ack, Data, Error}
use Rattle.sms_base.specs.declared.holder.Holder.{Holder}
use Rattle.sms_control.specs.declared.out.Up.{Up}
use Rattle.sms_control.specs.declared.out.Up.TheVariants.{Unit as UnitUp, Failed}
use Rattle.sms_control.specs.declared.fault.CpFault.{CpFault}
use Rattle.sms_control.specs.declared.message.Cp.{Cp}
use Rattle.sms_control.specs.declared.message.Cp.TheVariants.{DataUnit, AckUnit, ErrorUnit}
use Rattle.sms_control.specs.declared.transaction.TransactionFlag.{TransactionFlag}
use Rattle.sms_control.specs.declared.transaction.TransactionFlag.TheVariants.{FromOriginator, ToOriginator}
use Rattle.sms_control.specs.ControlReading.{cp_at}
use Rattle.sms_control.specs.LinkStep.{Step, awaits_reply, reply_step}
use Rattle.sms_link.specs.declared.outgoing.Outgoing.{Outgoing}
use Rattle.sms_link.specs.LinkTurn.{Turn, answering, carried_by, carried_in, carrying, from_links, heard, of_kind, of_links, replied, still, still_under_way}
use Rattle.sms_rows.specs.table.Table.{Rises}
use Rattle.sms_rows.proofs.table.Tables.{among_put, among_without, rises_put, rises_without}
use Rattle.sms_centre_rows.specs.declared.reports.delivery.Delivery.{Delivery}
use Rattle.sms_centre_rows.specs.reports.Receipts.{Bindings, Session, answered_in, put_session, remove_session, session_key, without_id}
use Rattle.sms_centre_rows.specs.declared.waiting.handset_link.HandsetLink.{HandsetLink}
use Rattle.sms_centre_rows.specs.declared.waiting.handset_link.Sent.{Sent}
use Rattle.sms_centre_rows.specs.waiting.Links.{Links, link_at, link_of, or_new_link_to, put_link, to_handset, turn_link, turned, with_link}
use Rattle.sms_centre_rows.specs.waiting.SoundAllocations.{IsNumber}
use Rattle.sms_centre_spec.specs.declared.rows.Rows.{Rows}
use Rattle.sms_centre_spec.specs.SoundCore.{AreLinks, Brings, BringsKind, IsAnswer, IsAnswerKind, IsLink, IsReceiptRow, IsSession, IsUnderWay}

-- ---- links by their handsets

pub link_found : (number : List ℕ) (l : HandsetLink) (ls : List HandsetLink) → link_at number ls ≡ Some l → Among l ls × (l.handset ≡ number)
link_found number l [] e = absurd cc
link_found number l (x ∷ xs) e =
    cond_both (bytes_eq x.handset number) (Some x) (link_at number xs) (λ (o : Option HandsetLink). o ≡ Some l → Among l (x ∷ xs) × (l.handset ≡ number))
    (λ t f. let same : l ≡ x = cc in (inl same, ap (λ (y : HandsetLink). y.handset) same ∙ (bytes_eq-Decides x.handset number).0 t))
    (λ t f. let rest = link_found number l xs f in (inr rest.0, rest.1))
    e

pub link_none : (number : List ℕ) (ls : List HandsetLink) → ((x : HandsetLink) → Among x ls → ¬ (x.handset ≡ number)) → link_at number ls ≡ None
link_none number ls f = none (link_at number ls) refl
  where
    none : (o : Option HandsetLink) → link_at number ls ≡ o → link_at number ls ≡ None
    none None e = e
    none (Some l) e = let at = link_found number l ls e in absurd (f l at.0 at.1)

none_link : (number : List ℕ) (x : HandsetLink) (ls : List HandsetLink) → link_at number ls ≡ None → Among x ls → x.handset ≡ number → ⊥
none_link number x [] none among own = among
none_link number x (l ∷ ls) none among own = ⊎_elim
    (λ (t : bytes_eq l.handset number ≡ true). let bad : Some l ≡ None = sym (cond-true (bytes_eq l.handset number) (Some l) (link_at number ls) t) ∙ none in absurd cc)
    (λ (t : bytes_eq l.handset number ≡ false). ⊎_elim
    (λ (e : x ≡ l).
    let is : bytes_eq l.handset number ≡ true = (bytes_eq-Decides l.handset number).1 (ap (λ (y : HandsetLink). y.handset) (sym e) ∙ own) in
    let bad : true ≡ false = sym is ∙ t in absurd cc)
    (λ (a : Among x ls). none_link number x ls (sym (cond-false (bytes_eq l.handset number) (Some l) (link_at number ls) t) ∙ none) a own)
    among)
    (cases_Bool (bytes_eq l.handset number))

-- ---- a link takes its place

pub among_with : (x link : HandsetLink) (ls : List HandsetLink) → Among x (with_link link ls) → (x ≡ link) ⊎ Among x ls
among_with x link [] among = among
among_with x link (l ∷ ls) among =
    cond_both (bytes_eq l.handset link.handset) (link ∷ ls) (l ∷ with_link link ls) (λ (ys : List HandsetLink). Among x ys → (x ≡ link) ⊎ Among x (l ∷ ls))
    (λ t a. ⊎_elim (λ (e : x ≡ link). inl e) (λ (b : Among x ls). inr (inr b)) a)
    (λ t a. ⊎_elim
    (λ (e : x ≡ l). inr (inl e))
    (λ (b : Among x (with_link link ls)). ⊎_elim (λ (e : x ≡ link). inl e) (λ (d : Among x ls). inr (inr d)) (among_with x link ls b))
    a)
    among

apart_with : (link : HandsetLink) (ls : List HandsetLink) → AreLinks ls → AreLinks (with_link link ls)
apart_with link [] apart = (refl, tt)
apart_with link (l ∷ ls) apart =
    cond_both (bytes_eq l.handset link.handset) (link ∷ ls) (l ∷ with_link link ls) AreLinks
    (λ t. (subst (λ (n : List ℕ). link_at n ls ≡ None) ((bytes_eq-Decides l.handset link.handset).0 t) apart.0, apart.1))
    (λ t. (
      link_none l.handset (with_link link ls) (λ x among e. ⊎_elim
          (λ (q : x ≡ link).
          let is : bytes_eq l.handset link.handset ≡ true = (bytes_eq-Decides l.handset link.handset).1 (sym e ∙ ap (λ (y : HandsetLink). y.handset) q) in
          let bad : true ≡ false = sym is ∙ t in absurd cc)
          (λ (a : Among x ls). none_link l.handset x ls apart.0 a e)
          (among_with x link ls among)),
      apart_with link ls apart.1,
    ))

-- ---- links that are sound over rows

pub record SoundLinks (rows : Rows) (links : Links) : Type 0 where
  pub each : (l : HandsetLink) → Among l links.all → IsLink rows l
  pub apart : AreLinks links.all
  -- what was sent so far
  pub sent : (f : Sent) → Among f links.frames → Brings f.handset f.frame.carried rows

pub link_sound : (rows : Rows) (number : List ℕ) (links : Links) → SoundLinks rows links → IsNumber number → IsLink rows (link_of number links.all)
link_sound rows number links s is = at (link_at number links.all) refl
  where
    at : (o : Option HandsetLink) → link_at number links.all ≡ o → IsLink rows (or_new_link_to number o)
    at None e = record { handset = is; side = refl; under_way = tt; answered = tt }
    at (Some l) e = s.each l (link_found number l links.all e).0

pub put_sound : (rows : Rows) (link : HandsetLink) (links : Links) → SoundLinks rows links → IsLink rows link → SoundLinks rows (put_link link links)
put_sound rows link links s is = record {
  each = λ l among. ⊎_elim (λ (e : l ≡ link). subst (λ (x : HandsetLink). IsLink rows x) (sym e) is) (λ (a : Among l links.all). s.each l a) (among_with l link links.all among);
  apart = apart_with link links.all s.apart;
  sent = s.sent;
}

-- the frames of a turn, to the handset of the link
abbrev pub AllBring : Rows → List ℕ → List Outgoing → Type 0
AllBring rows handset frames = (f : Outgoing) → Among f frames → Brings handset f.carried rows

to_handset_among : (handset : List ℕ) (x : Sent) (fs : List Outgoing) → Among x (to_handset handset fs) → (f : Outgoing) × (Among f fs × (x ≡ record { handset = handset; frame = f }))
to_handset_among handset x [] among = absurd among
to_handset_among handset x (f ∷ fs) among = ⊎_elim
    (λ (e : x ≡ record { handset = handset; frame = f }). let found : (g : Outgoing) × (Among g (f ∷ fs) × (x ≡ record { handset = handset; frame = g })) = (f, (inl refl, e)) in found)
    (λ (a : Among x (to_handset handset fs)).
    let r = to_handset_among handset x fs a in
    let found : (g : Outgoing) × (Among g (f ∷ fs) × (x ≡ record { handset = handset; frame = g })) = (r.0, (inr r.1.0, r.1.1)) in found)
    among

pub turn_sound : (rows : Rows) (link : HandsetLink) (turn : Turn) (links : Links) → SoundLinks rows links → IsLink rows (turned turn link) → AllBring rows link.handset turn.out.frames → SoundLinks rows (turn_link link turn links)
turn_sound rows link turn links s is bring = record {
  each = λ l among. ⊎_elim (λ (e : l ≡ turned turn link). subst (λ (x : HandsetLink). IsLink rows x) (sym e) is) (λ (a : Among l links.all). s.each l a) (among_with l (turned turn link) links.all among);
  apart = apart_with (turned turn link) links.all s.apart;
  sent = λ f among. ⊎_elim
      (λ (a : Among f links.frames). s.sent f a)
      (λ (a : Among f (to_handset link.handset turn.out.frames)).
      let r = to_handset_among link.handset f turn.out.frames a in
      subst (λ (x : Sent). Brings x.handset x.frame.carried rows) (sym r.1.1) (bring r.0 r.1.0))
      (among_parts f links.frames (to_handset link.handset turn.out.frames) among);
}

-- ---- what frames of a turn bring

pub brings_under_way : (rows : Rows) (handset : List ℕ) (o : Option Carried) → IsUnderWay handset o rows → Brings handset o rows
brings_under_way rows handset None is = tt
brings_under_way rows handset (Some t) is = subst (λ (k : Kind). BringsKind k handset t rows) (sym is.0) is.1

brings_answer : (rows : Rows) (handset : List ℕ) (o : Option Carried) → IsAnswer o → Brings handset o rows
brings_answer rows handset None is = tt
brings_answer rows handset (Some t) is = by_kind t.kind t is
  where
    by_kind : (k : Kind) (t : Carried) → IsAnswerKind k → BringsKind k handset t rows
    by_kind Data t is = absurd is
    by_kind Ack t is = tt
    by_kind Error t is = tt

pub carrying_bring : (rows : Rows) (handset : List ℕ) (o : Option Carried) (fs : List (List ℕ)) → Brings handset o rows → AllBring rows handset (carrying o fs)
carrying_bring rows handset o [] is f among = absurd among
carrying_bring rows handset o (x ∷ xs) is f among = ⊎_elim
    (λ (e : f ≡ record { octets = x; carried = o; is_copy = false }). subst (λ (y : Outgoing). Brings handset y.carried rows) (sym e) is)
    (λ (a : Among f (carrying o xs)). carrying_bring rows handset o xs is f a)
    among

by_flag : (rows : Rows) (handset : List ℕ) (flag : TransactionFlag) (u a : Option Carried) → Brings handset u rows → Brings handset a rows → Brings handset (carried_by flag u a) rows
by_flag rows handset FromOriginator u a is are = is
by_flag rows handset ToOriginator u a is are = are

in_links : (rows : Rows) (handset : List ℕ) (r : Result Cp CpFault) (u a : Option Carried) → Brings handset u rows → Brings handset a rows → Brings handset (carried_in r u a) rows
in_links rows handset (Ok (DataUnit t unit)) u a is are = by_flag rows handset t.flag u a is are
in_links rows handset (Ok (AckUnit t)) u a is are = tt
in_links rows handset (Ok (ErrorUnit t cause)) u a is are = tt
in_links rows handset (Err fault) u a is are = tt

links_bring : (rows : Rows) (handset : List ℕ) (u a : Option Carried) (fs : List (List ℕ)) → Brings handset u rows → Brings handset a rows → AllBring rows handset (from_links u a fs)
links_bring rows handset u a [] is are f among = absurd among
links_bring rows handset u a (x ∷ xs) is are f among = ⊎_elim
    (λ (e : f ≡ of_links x (carried_in (cp_at x) u a)). subst (λ (y : Outgoing). Brings handset y.carried rows) (sym e) (in_links rows handset (cp_at x) u a is are))
    (λ (b : Among f (from_links u a xs)). links_bring rows handset u a xs is are f b)
    among

pub heard_brings : (rows : Rows) (step : Step) (l : HandsetLink) → IsLink rows l → AllBring rows l.handset (heard step l.near_end).out.frames
heard_brings rows step l is =
    links_bring rows l.handset l.near_end.under_way l.near_end.answered step.out.frames (brings_under_way rows l.handset l.near_end.under_way is.under_way) (brings_answer rows l.handset l.near_end.answered is.answered)

pub replied_brings : (rows : Rows) (now : ℕ) (kind : Kind) (reference : ℕ) (tag : Holder) (unit : List ℕ) (l : HandsetLink) → IsAnswerKind kind → AllBring rows l.handset (replied now kind reference tag unit l.near_end).out.frames
replied_brings rows now kind reference tag unit l is =
    cond_both (awaits_reply l.near_end.links) (answering (of_kind kind reference tag) (reply_step now unit l.near_end.links) l.near_end) (still l.near_end) (λ (t : Turn). AllBring rows l.handset t.out.frames)
    (λ t. carrying_bring rows l.handset (Some (of_kind kind reference tag)) (reply_step now unit l.near_end.links).out.frames (brings_answer rows l.handset (Some (of_kind kind reference tag)) is))
    (λ t f among. absurd among)

-- ---- turns that begin nothing

pub heard_link : (rows : Rows) (step : Step) (l : HandsetLink) → IsLink rows l → IsLink rows (turned (heard step l.near_end) l)
heard_link rows step l is = record { handset = is.handset; side = is.side; under_way = after step.out.up; answered = is.answered }
  where
    after : (o : Option Up) → IsUnderWay l.handset (still_under_way o l.near_end.under_way) rows
    after None = is.under_way
    after (Some (UnitUp FromOriginator unit)) = is.under_way
    after (Some (UnitUp ToOriginator unit)) = tt
    after (Some Failed) = tt

pub replied_link : (rows : Rows) (now : ℕ) (kind : Kind) (reference : ℕ) (tag : Holder) (unit : List ℕ) (l : HandsetLink) → IsAnswerKind kind → IsLink rows l → IsLink rows (turned (replied now kind reference tag unit l.near_end) l)
replied_link rows now kind reference tag unit l answer is =
    cond_both (awaits_reply l.near_end.links) (answering (of_kind kind reference tag) (reply_step now unit l.near_end.links) l.near_end) (still l.near_end) (λ (t : Turn). IsLink rows (turned t l))
    (λ t. record { handset = is.handset; side = is.side; under_way = is.under_way; answered = answer }) (λ t. record { handset = is.handset; side = is.side; under_way = is.under_way; answered = is.answered })

-- ---- sessions that are sound over rows

pub record SoundBindings (rows : Rows) (bindings : Bindings) : Type 0 where
  pub keys : Rises session_key bindings.sessions
  pub each : (s : Session) → Among s bindings.sessions → IsSession rows s
  -- what was sent so far
  pub sent : (x : Delivery) → Among x bindings.deliveries → IsReceiptRow rows x.id

pub session_put : (rows : Rows) (s : Session) (bindings : Bindings) → SoundBindings rows bindings → IsSession rows s → SoundBindings rows (put_session s bindings)
session_put rows s bindings k is = record {
  keys = rises_put session_key s bindings.sessions k.keys;
  each = λ x among. ⊎_elim
      (λ (e : x ≡ s). subst (λ (y : Session). IsSession rows y) (sym e) is)
      (λ (a : Among x bindings.sessions × ¬ (x.number ≡ s.number)). k.each x a.0)
      (among_put session_key x s bindings.sessions among);
  sent = k.sent;
}

pub session_removed : (rows : Rows) (number : ℕ) (bindings : Bindings) → SoundBindings rows bindings → SoundBindings rows (remove_session number bindings)
session_removed rows number bindings k = record {
  keys = rises_without session_key number bindings.sessions k.keys;
  each = λ x among. k.each x (among_without session_key x number bindings.sessions among).0;
  sent = k.sent;
}

among_without_id : (x id : ℕ) (ns : List ℕ) → Among x (without_id id ns) → Among x ns
among_without_id x id [] among = among
among_without_id x id (n ∷ ns) among =
    cond_both (n == id) (without_id id ns) (n ∷ without_id id ns) (λ (ys : List ℕ). Among x ys → Among x (n ∷ ns))
    (λ t a. inr (among_without_id x id ns a))
    (λ t a. ⊎_elim (λ (e : x ≡ n). inl e) (λ (b : Among x (without_id id ns)). inr (among_without_id x id ns b)) a)
    among

pub session_answered : (rows : Rows) (id : ℕ) (s : Session) (bindings : Bindings) → SoundBindings rows bindings → IsSession rows s → SoundBindings rows (answered_in id s bindings)
session_answered rows id s bindings k is =
    session_put rows (record s { unanswered = without_id id s.unanswered }) bindings k
    (record { unanswered = λ n among. is.unanswered n (among_without_id n id s.unanswered among) })
