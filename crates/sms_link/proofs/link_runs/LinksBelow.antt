-- A call of one end of a link is a call of the links below it, which send the same octets.
use Rattle.std.proofs.Common.{◌≡◌, ℕ, List, [], ◌∷◌, refl, sym, ◌∙◌, ap, subst, Option, Some, None, is_none}
use Rattle.std.proofs.lemmas.Bool.{cond-true, cond-false}
use Rattle.sms_base.specs.declared.carried.Carried.{Carried}
use Rattle.sms_base.specs.declared.carried.Kind.{Kind}
use Rattle.sms_base.specs.declared.carried.Kind.TheVariants.{Data}
use Rattle.sms_base.specs.declared.holder.Holder.{Holder}
use Rattle.sms_control.specs.declared.link_state.Begun.{Begun}
use Rattle.sms_control.specs.declared.link_state.LinkState.{LinkState}
use Rattle.sms_control.specs.declared.link_state.Opened.{Opened}
use Rattle.sms_control.specs.declared.transaction.TransactionFlag.TheVariants.{FromOriginator}
use Rattle.sms_control.specs.declared.message.Cp.TheVariants.{DataUnit}
use Rattle.sms_control.specs.ControlGrammar.{spelled}
use Rattle.sms_control.specs.LinkRuns.{Call, Begin as LinksBegin, Reply as LinksReply, Take as LinksTake, Fire as LinksFire, step, run as links_run}
use Rattle.sms_control.specs.LinkStep.{Step, quiet, in_transaction, is_busy, started as links_started, begin_step, answered as links_answered, reply_step}
use Rattle.sms_control.proofs.LinkLaws.{state_of}
use Rattle.sms_link.specs.declared.ending.Side.{Side}
use Rattle.sms_link.specs.declared.outgoing.Outgoing.{Outgoing}
use Rattle.sms_link.specs.LinkCalls.{LinkCall, Begin, Reply, Take, Fire, turn, run}
use Rattle.sms_link.specs.LinkTurn.{LinkOf, Turn, still, carrying, of_kind, started, begun, answering, replied, from_links}
use Rattle.sms_link.proofs.Known.{by_test}

-- ---- the call below

abbrev pub call_of : LinkCall → Call
call_of (Begin now reference tag unit) = LinksBegin now unit
call_of (Reply now kind reference tag unit) = LinksReply now unit
call_of (Take frame) = LinksTake frame
call_of (Fire now) = LinksFire now

abbrev pub calls_of : List LinkCall → List Call
calls_of [] = []
calls_of (c ∷ cs) = call_of c ∷ calls_of cs

abbrev pub octets_of : List Outgoing → List (List ℕ)
octets_of [] = []
octets_of (f ∷ fs) = f.octets ∷ octets_of fs

-- the links are left as that step leaves them, and what goes out are its octets
abbrev pub Follows : Turn → Step → Type 0
Follows t s = (t.link.links ≡ s.state) × (octets_of t.out.frames ≡ s.out.frames)

-- ---- each call

carried_octets : (c : Option Carried) (fs : List (List ℕ)) → octets_of (carrying c fs) ≡ fs
carried_octets c [] = refl
carried_octets c (f ∷ fs) = ap (λ (xs : List (List ℕ)). f ∷ xs) (carried_octets c fs)

links_octets : (u a : Option Carried) (fs : List (List ℕ)) → octets_of (from_links u a fs) ≡ fs
links_octets u a [] = refl
links_octets u a (f ∷ fs) = ap (λ (xs : List (List ℕ)). f ∷ xs) (links_octets u a fs)

begin_follows : (now reference : ℕ) (tag : Holder) (unit : List ℕ) (l : LinkOf) → Follows (begun now reference tag unit l) (begin_step now unit l.links)
unfolding begin_step
begin_follows now reference tag unit l =
    let carried = of_kind Data reference tag in
    let frame = spelled (DataUnit (in_transaction FromOriginator l.links.next_identifier) unit) in
    by_test (λ t. Follows t (begin_step now unit l.links)) (is_busy l.links) (still l) (started carried (begin_step now unit l.links) l)
    (λ e. subst (Follows (still l)) (sym (cond-true (is_busy l.links) (quiet l.links) (links_started now frame l.links) e)) (refl, refl))
    (λ e. (refl, carried_octets (Some carried) (begin_step now unit l.links).out.frames))

reply_follows : (now : ℕ) (kind : Kind) (reference : ℕ) (tag : Holder) (unit : List ℕ) (side : Side) (n : ℕ) (b : Option Begun) (o : Option Opened) (x p : Option (List ℕ)) (u a : Option Carried)
    → (let l : LinkOf = record { side = side; links = state_of n b o x p; under_way = u; answered = a } in Follows (replied now kind reference tag unit l) (reply_step now unit l.links))
unfolding reply_step
reply_follows now kind reference tag unit side n b None x p u a = (refl, refl)
reply_follows now kind reference tag unit side n b (Some o) x p u a =
    let l : LinkOf = record { side = side; links = state_of n b (Some o) x p; under_way = u; answered = a } in
    let carried = of_kind kind reference tag in
    by_test (λ t. Follows t (reply_step now unit l.links)) (is_none o.answer) (answering carried (reply_step now unit l.links) l) (still l)
    (λ e. (refl, carried_octets (Some carried) (reply_step now unit l.links).out.frames))
    (λ e. subst (Follows (still l)) (sym (cond-false (is_none o.answer) (links_answered now unit l.links o) (quiet l.links) e)) (refl, refl))

pub turn_follows : (c : LinkCall) (l : LinkOf) → Follows (turn c l) (step (call_of c) l.links)
turn_follows (Begin now reference tag unit) l = begin_follows now reference tag unit l
turn_follows (Reply now kind reference tag unit) l =
    reply_follows now kind reference tag unit l.side l.links.next_identifier l.links.begun l.links.opened l.links.last_answer l.links.last_opening l.under_way l.answered
turn_follows (Take frame) l = (refl, links_octets l.under_way l.answered (step (LinksTake frame) l.links).out.frames)
turn_follows (Fire now) l = (refl, links_octets l.under_way l.answered (step (LinksFire now) l.links).out.frames)

-- ---- runs

pub run_follows : (cs : List LinkCall) (l : LinkOf) → (run cs l).links ≡ links_run (calls_of cs) l.links
run_follows [] l = refl
run_follows (c ∷ cs) l = run_follows cs (turn c l).link ∙ ap (λ (s : LinkState). links_run (calls_of cs) s) (turn_follows c l).0
