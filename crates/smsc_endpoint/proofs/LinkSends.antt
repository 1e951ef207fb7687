-- A link sends the frames that it was given.
use Rattle.std.proofs.Common.{◌≡◌, ◌&&◌, inl, inr, ℕ, ◌-◌, Bool, true, false, cond, eqb, leb, ltb, List, [], ◌∷◌, ◌++◌, length, map, take, drop, Option, Some, None, Result, Ok, Err, refl, sym, ap, ◌∙◌, subst, arith, append_assoc, append-nil}
use Rattle.std.proofs.lemmas.Bool.Decides.{leb_tells}
use Rattle.std.proofs.lemmas.List.{map-append, take-append-drop}
use Rattle.std.specs.Prelude.{MatchBool}
use Rattle.sms_link.specs.declared.framing.fault.FramingFault.{FramingFault}
use Rattle.sms_link.specs.framing.Framing.{framed, front_of, joined}
use Rattle.sms_centre_spec.specs.declared.jobs.job.Job.{Job}
use Rattle.sms_centre_spec.specs.declared.jobs.job.Job.TheVariants.{Bound, Unbound, Submit, Query, Cancel, DeliverAnswered, LinkUp, LinkDown, Frame}
use Rattle.sms_centre_spec.specs.declared.jobs.reply.Reply.{Reply}
use Rattle.sms_centre_spec.specs.declared.jobs.reply.Reply.TheVariants.{Answer, Receipt, Frame as FrameReply, Taken as TakenReply}
use Rattle.smsc_endpoint.specs.declared.link_stage.Stage.{Stage}
use Rattle.smsc_endpoint.specs.declared.link_stage.Stage.TheVariants.{Unnamed, Named, Taken, Later, Up}
use Rattle.smsc_endpoint.specs.declared.link_access.LinkAccess.{LinkAccess}
use Rattle.smsc_loop.specs.declared.note.Note.{Note}
use Rattle.smsc_loop.specs.declared.note.Note.TheVariants.{LinkUp as LinkUpNote, NotReplaced, NoFrames}
use Rattle.smsc_endpoint.specs.FirstFrame.{given_by as number_given, refused_by}
use Rattle.smsc_endpoint.specs.LinkView.{LinkView}
use Rattle.smsc_endpoint.specs.LinkCalls.{HearsFrame, HearsMarkAt, Hears, ReadsAt, ReadsFirst, ReadsFrames, ReadsOn}
use Rattle.smsc_endpoint.specs.LinkCalls.{at_time, first_note, handed_back, handed_out, handing, mark, named_again, named_by, naming, next_note, noting}
use Rattle.smsc_endpoint.specs.LinkCalls.{over_by, over_with, sending, taken_by, unmarked, waiting_on, with_frames, with_sent, with_unread}
use Rattle.smsc_endpoint.specs.LinkRuns.{LinkCall, LinkProgress}
use Rattle.smsc_endpoint.specs.LinkRuns.{put_back_by, put_by, taken_back}
use Rattle.smsc_endpoint.specs.LinkRuns.{At, Take, Hear, GiveUp, Send, Put, PutBack, Close, Tell}
use Rattle.smsc_endpoint.specs.LinkSends.{HasSent, LinkSends, SaidFrame, SendRun, SendStep, begun, frame_given, frame_of, given_among, given_by, sent_in}
use Rattle.smsc_endpoint.specs.LinkSends.{Given, Congestion, ProtocolError}
use Rattle.smsc_endpoint.specs.Outbox.{OutboxView, next_among, with_octets}
use Rattle.sms_link.proofs.framing.Streams.{joined_append}

abbrev pub octets_of : List SaidFrame → List ℕ
octets_of said = joined (map frame_of said)

given_append : (xs ys : List SaidFrame) → given_among (xs ++ ys) ≡ given_among xs ++ given_among ys
given_append [] ys = refl
given_append (Given frame ∷ xs) ys = ap (λ (fs : List (List ℕ)). frame ∷ fs) (given_append xs ys)
given_append (Congestion ∷ xs) ys = given_append xs ys
given_append (ProtocolError ∷ xs) ys = given_append xs ys

said_append : (xs ys : List SaidFrame) → octets_of (xs ++ ys) ≡ octets_of xs ++ octets_of ys
said_append xs ys = ap joined (map-append frame_of xs ys) ∙ joined_append (map frame_of xs) (map frame_of ys)

-- ---- what an outbox has more

-- More frames wait, these of them given. A closed outbox takes none.
pub record Says (v w : OutboxView) (given : List (List ℕ)) : Type 0 where
  pub closed : w.is_closed ≡ v.is_closed
  pub more : List SaidFrame
  pub among : given_among more ≡ given
  pub octets : v.is_closed ≡ false → w.octets ≡ v.octets ++ octets_of more

quiet : (v w : OutboxView) → w.octets ≡ v.octets → w.is_closed ≡ v.is_closed → Says v w []
quiet v w e c = record { closed = c; more = []; among = refl; octets = λ is_open. e ∙ sym (append-nil v.octets) }

mute : (v : OutboxView) → Says v v []
mute v = quiet v v refl refl

behind : (v u w : OutboxView) (given : List (List ℕ)) → u.octets ≡ v.octets → u.is_closed ≡ v.is_closed → Says u w given → Says v w given
behind v u w given e c s = record {
  closed = s.closed ∙ c;
  more = s.more;
  among = s.among;
  octets = λ is_open. s.octets (c ∙ is_open) ∙ ap (λ (o : List ℕ). o ++ octets_of s.more) e;
}

box_closed : (octets : List ℕ) (w : OutboxView) (b : Bool) → w.is_closed ≡ b → (with_octets octets w).is_closed ≡ w.is_closed
box_closed octets w true e = rw e refl
box_closed octets w false e = rw e refl

box_octets : (octets : List ℕ) (w : OutboxView) → w.is_closed ≡ false → (with_octets octets w).octets ≡ w.octets ++ octets
box_octets octets w e = rw e refl

says_one : (said : SaidFrame) (v w : OutboxView) (given : List (List ℕ)) → given_among (said ∷ []) ≡ given → w ≡ with_octets (framed (frame_of said)) v → Says v w given
says_one said v w given among e = record {
  closed = ap (λ (o : OutboxView). o.is_closed) e ∙ box_closed (framed (frame_of said)) v v.is_closed refl;
  more = said ∷ [];
  among = among;
  octets = λ is_open.
      ap (λ (o : OutboxView). o.octets) e
      ∙ (box_octets (framed (frame_of said)) v is_open ∙ ap (λ (o : List ℕ). v.octets ++ o) (sym (append-nil (framed (frame_of said)))));
}

says_by : (l m n : LinkView) (given : List (List ℕ)) → n ≡ m → Says l.outbox m.outbox given → Says l.outbox n.outbox given
says_by l m n given e s = subst (λ (k : LinkView). Says l.outbox k.outbox given) (sym e) s

over_if : (said : SaidFrame) (b : Bool) (l : LinkView) → given_among (said ∷ []) ≡ []
    → Says l.outbox (cond b l (with_sent (framed (frame_of said)) (record l { is_over = true }))).outbox []
over_if said true l own = mute l.outbox
over_if said false l own = says_one said l.outbox (with_octets (framed (frame_of said)) l.outbox) [] own refl

over_says : (note : Note) (said : SaidFrame) (l : LinkView) → given_among (said ∷ []) ≡ [] → Says l.outbox (over_with note (frame_of said) l).outbox []
over_says note said l own = over_if said l.is_over l own

-- ---- time, and what is read

again_if : (b : Bool) (handset : List ℕ) (l : LinkView) → Says l.outbox (cond b (naming handset l) l).outbox []
again_if true handset l = quiet l.outbox (naming handset l).outbox refl refl
again_if false handset l = mute l.outbox

again_says : (now : ℕ) (stage : Stage) (handset : Option (List ℕ)) (l : LinkView) → Says l.outbox (named_again now stage handset l).outbox []
again_says now Later (Some handset) l = again_if (leb 50 (now - l.since)) handset l
again_says now Later None l = mute l.outbox
again_says now Unnamed handset l = mute l.outbox
again_says now Named handset l = mute l.outbox
again_says now Taken handset l = mute l.outbox
again_says now Up handset l = mute l.outbox

named_says : (refusal : Note) (number : Option (List ℕ)) (l : LinkView) → Says l.outbox (named_by refusal number l).outbox []
named_says refusal None l = over_says refusal ProtocolError l refl
named_says refusal (Some handset) l = quiet l.outbox (named_by refusal (Some handset) l).outbox refl refl

first_says : (front : Result (Option (List ℕ)) FramingFault) (l m : LinkView) → ReadsFirst front l m → Says l.outbox m.outbox []
first_says (Err fault) l m e = says_by l (over_with NoFrames (frame_of ProtocolError) l) m [] e (over_says NoFrames ProtocolError l refl)
first_says (Ok None) l m e = says_by l l m [] e (mute l.outbox)
first_says (Ok (Some frame)) l m e =
    let k = record l { unread = e.0 } in
    let refusal = refused_by l.access frame in
    says_by l (named_by refusal (number_given l.access frame) k) m [] e.2 (named_says refusal (number_given l.access frame) k)

over_by_says : (front : Result (Option (List ℕ)) FramingFault) (l : LinkView) → Says l.outbox (over_by front l).outbox []
over_by_says (Err fault) l = over_says NoFrames ProtocolError l refl
over_by_says (Ok front) l = mute l.outbox

frames_say : (l m : LinkView) → ReadsFrames l m → Says l.outbox m.outbox []
frames_say l m r =
    let k = with_frames r.0 r.1 l in
    says_by l (over_by (front_of r.1) k) m [] r.3
    (behind l.outbox k.outbox (over_by (front_of r.1) k).outbox [] refl refl (over_by_says (front_of r.1) k))

reads_say : (stage : Stage) (l m : LinkView) → ReadsAt stage l m → Says l.outbox m.outbox []
reads_say Unnamed l m r = first_says (front_of l.unread) l m r
reads_say Up l m r = frames_say l m r
reads_say Named l m r = says_by l l m [] r (mute l.outbox)
reads_say Taken l m r = says_by l l m [] r (mute l.outbox)
reads_say Later l m r = says_by l l m [] r (mute l.outbox)

reads_if : (over : Bool) (l m : LinkView) → MatchBool over (m ≡ l) (ReadsAt l.stage l m) → Says l.outbox m.outbox []
reads_if true l m e = says_by l l m [] e (mute l.outbox)
reads_if false l m r = reads_say l.stage l m r

reads_on_says : (l m : LinkView) → ReadsOn l m → Says l.outbox m.outbox []
reads_on_says l m r = reads_if l.is_over l m r

-- ---- replies

waiting_if : (b : Bool) (handset : List ℕ) (l : LinkView)
    → Says l.outbox (cond b (record l { stage = Later; since = l.time }) (over_with (NotReplaced handset) (frame_of Congestion) (record l { handset = None; stage = Unnamed }))).outbox []
waiting_if true handset l = mute l.outbox
waiting_if false handset l = over_says (NotReplaced handset) Congestion (record l { handset = None; stage = Unnamed }) refl

taken_says : (handset : Option (List ℕ)) (l : LinkView) → Says l.outbox (taken_by handset l).outbox []
taken_says None l = mute l.outbox
taken_says (Some handset) l = mute l.outbox

told_says : (notes : List Note) (l : LinkView) → Says l.outbox (first_note notes l).1.outbox []
told_says [] l = mute l.outbox
told_says (note ∷ notes) l = mute l.outbox

mark_says : (stage : Stage) (handset : Option (List ℕ)) (l m : LinkView) → HearsMarkAt stage handset l m → Says l.outbox m.outbox []
mark_says Named (Some handset) l m r = reads_on_says (noting (LinkUpNote handset) (record l { stage = Up })) m r
mark_says Taken (Some handset) l m r = says_by l (waiting_on handset l) m [] r (waiting_if (ltb 0 l.tries) handset l)
mark_says Named None l m r = says_by l l m [] r (mute l.outbox)
mark_says Taken None l m r = says_by l l m [] r (mute l.outbox)
mark_says Unnamed handset l m r = says_by l l m [] r (mute l.outbox)
mark_says Later handset l m r = says_by l l m [] r (mute l.outbox)
mark_says Up handset l m r = says_by l l m [] r (mute l.outbox)

given_if : (frame : List ℕ) (l m : LinkView) (some short : Bool) → leb 1 (length frame) ≡ some → leb (length frame) 251 ≡ short
    → Says l.outbox m.outbox (cond (some && short) (frame ∷ []) []) → Says l.outbox m.outbox (frame_given frame)
given_if frame l m some short e f s =
    subst (λ (given : List (List ℕ)). Says l.outbox m.outbox given)
    (ap (λ (b : Bool). cond (b && short) (frame ∷ []) []) (sym e) ∙ ap (λ (b : Bool). cond (leb 1 (length frame) && b) (frame ∷ []) []) (sym f)) s

frame_says : (frame : List ℕ) (l m : LinkView) → HearsFrame frame l m → Says l.outbox m.outbox (frame_given frame)
frame_says frame l m h = elim (leb_tells 1 (length frame)) [
  | inl some ↦ elim (leb_tells (length frame) 251) [
    | inl short ↦ given_if frame l m true true some.0 short.0
        (says_by l (sending frame l) m (frame ∷ []) (h.0 (record { some = some.1; short = short.1 }))
        (says_one (Given frame) l.outbox (sending frame l).outbox (frame ∷ []) refl refl))
    | inr long ↦ given_if frame l m true false some.0 long.0 (says_by l l m [] (h.1 (λ is. omega (arith, long.1, is.short))) (mute l.outbox))
  ]
  | inr none ↦ given_if frame l m false (leb (length frame) 251) none.0 refl (says_by l l m [] (h.1 (λ is. omega (arith, none.1, is.some))) (mute l.outbox))
]

hears_says : (reply : Reply) (l m : LinkView) → Hears reply l m → Says l.outbox m.outbox (given_by reply)
hears_says (Answer answer) l m r = mark_says l.stage l.handset (unmarked l) m r
hears_says (Receipt end) l m r = says_by l l m [] r (mute l.outbox)
hears_says (FrameReply octets) l m r = frame_says octets l m r
hears_says TakenReply l m r = says_by l (taken_by l.handset l) m [] r (taken_says l.handset l)

-- ---- jobs that go

put_says : (marked due : Bool) (jobs : List Job) (c : LinkProgress)
    → Says c.link.outbox (put_by (cond marked (None, c.link) (cond due (Some mark, record c.link { is_marked = true }) (handing (next_among jobs c.link.outbox) c.link))) c).link.outbox []
put_says true due jobs c = mute c.link.outbox
put_says false true jobs c = mute c.link.outbox
put_says false false [] c = mute c.link.outbox
put_says false false (job ∷ jobs) c = quiet c.link.outbox (record c.link.outbox { jobs = jobs }) refl refl

back_says : (job : Job) (c : LinkProgress) (m : LinkView) → m.outbox.octets ≡ c.link.outbox.octets → m.outbox.is_closed ≡ c.link.outbox.is_closed
    → Says c.link.outbox (taken_back job (handed_back job m) c).link.outbox []
back_says (Frame octets) c m e f = quiet c.link.outbox (taken_back (Frame octets) (handed_back (Frame octets) m) c).link.outbox e f
back_says (Query account pdu) c m e f = quiet c.link.outbox (taken_back (Query account pdu) (handed_back (Query account pdu) m) c).link.outbox e f
back_says (LinkUp handset) c m e f = quiet c.link.outbox (taken_back (LinkUp handset) (handed_back (LinkUp handset) m) c).link.outbox e f
back_says (Bound account receives) c m e f = quiet c.link.outbox (taken_back (Bound account receives) (handed_back (Bound account receives) m) c).link.outbox e f
back_says Unbound c m e f = quiet c.link.outbox (taken_back Unbound (handed_back Unbound m) c).link.outbox e f
back_says (Submit account pdu) c m e f = quiet c.link.outbox (taken_back (Submit account pdu) (handed_back (Submit account pdu) m) c).link.outbox e f
back_says (Cancel account pdu) c m e f = quiet c.link.outbox (taken_back (Cancel account pdu) (handed_back (Cancel account pdu) m) c).link.outbox e f
back_says (DeliverAnswered id is_accepted) c m e f =
    quiet c.link.outbox (taken_back (DeliverAnswered id is_accepted) (handed_back (DeliverAnswered id is_accepted) m) c).link.outbox e f
back_says LinkDown c m e f = quiet c.link.outbox (taken_back LinkDown (handed_back LinkDown m) c).link.outbox e f

put_back_says : (marked due : Bool) (jobs : List Job) (c : LinkProgress)
    → Says c.link.outbox (put_back_by (cond marked (None, c.link) (cond due (Some mark, record c.link { is_marked = true }) (handing (next_among jobs c.link.outbox) c.link))) c).link.outbox []
put_back_says true due jobs c = mute c.link.outbox
put_back_says false true jobs c = mute c.link.outbox
put_back_says false false [] c = mute c.link.outbox
put_back_says false false (job ∷ jobs) c = back_says job c (handing (next_among (job ∷ jobs) c.link.outbox) c.link).1 refl refl

-- ---- any calls

goes_on : (s t : LinkSends) (given : List (List ℕ)) → HasSent s → t.given ≡ s.given ++ given → t.sent ≡ s.sent ++ [] → s.progress.link.outbox.is_closed ≡ false
    → Says s.progress.link.outbox t.progress.link.outbox given → HasSent t
goes_on s t given h g sent is_open says =
    let before = s.progress.link.outbox.octets in
    let after = t.progress.link.outbox.octets in record {
      said = h.said ++ says.more;
      octets = ap (λ (o : List ℕ). o ++ after) (sent ∙ append-nil s.sent)
          ∙ (ap (λ (o : List ℕ). s.sent ++ o) (says.octets is_open)
          ∙ (sym (append_assoc s.sent before (octets_of says.more))
          ∙ (ap (λ (o : List ℕ). o ++ octets_of says.more) h.octets ∙ sym (said_append h.said says.more))));
      given = given_append h.said says.more
          ∙ (ap (λ (gs : List (List ℕ)). gs ++ given_among says.more) h.given ∙ (ap (λ (gs : List (List ℕ)). s.given ++ gs) says.among ∙ sym g));
    }

some_sent : (b : Bool) (count : ℕ) (octets : List ℕ) (w : OutboxView) → w.octets ≡ octets
    → cond b (take count octets) [] ++ (cond b (record w { octets = drop count w.octets }) w).octets ≡ octets
some_sent true count octets w e = ap (λ (o : List ℕ). take count octets ++ drop count o) e ∙ take-append-drop count octets
some_sent false count octets w e = e

sent_goes_on : (count : ℕ) (s t : LinkSends) → HasSent s → t.given ≡ s.given ++ [] → t.sent ≡ s.sent ++ sent_in (Send count) s.progress.link.outbox.octets
    → (s.sent ++ (sent_in (Send count) s.progress.link.outbox.octets ++ t.progress.link.outbox.octets)) ≡ s.sent ++ s.progress.link.outbox.octets → HasSent t
sent_goes_on count s t h g sent all = record {
  said = h.said;
  octets = ap (λ (o : List ℕ). o ++ t.progress.link.outbox.octets) sent
      ∙ (append_assoc s.sent (sent_in (Send count) s.progress.link.outbox.octets) t.progress.link.outbox.octets ∙ (all ∙ h.octets));
  given = h.given ∙ sym (g ∙ append-nil s.given);
}

sent_closed : (b : Bool) (count : ℕ) (w : OutboxView) → (cond b (record w { octets = drop count w.octets }) w).is_closed ≡ w.is_closed
sent_closed true count w = refl
sent_closed false count w = refl

says_progress : (c d e : LinkProgress) (given : List (List ℕ)) → d ≡ e → Says c.link.outbox e.link.outbox given → Says c.link.outbox d.link.outbox given
says_progress c d e given is s = subst (λ (k : LinkProgress). Says c.link.outbox k.link.outbox given) (sym is) s

says_with : (c d : LinkProgress) (m : LinkView) (given : List (List ℕ)) → d.link ≡ m → Says c.link.outbox m.outbox given → Says c.link.outbox d.link.outbox given
says_with c d m given is s = subst (λ (k : LinkView). Says c.link.outbox k.outbox given) (sym is) s

goes_by : (s t : LinkSends) (given : List (List ℕ)) → t.given ≡ s.given ++ given → t.sent ≡ s.sent ++ [] → t.progress.link.outbox.is_closed ≡ false
    → (s.progress.link.outbox.is_closed ≡ false → HasSent s) → Says s.progress.link.outbox t.progress.link.outbox given → HasSent t
goes_by s t given g sent is_open f says = let was = sym says.closed ∙ is_open in goes_on s t given (f was) g sent was says

-- A link that is not closed was not closed before.
step_sends : (call : LinkCall) (s t : LinkSends) → SendStep call s t → t.progress.link.outbox.is_closed ≡ false → (s.progress.link.outbox.is_closed ≡ false → HasSent s) → HasSent t
step_sends (At now) s t step is_open f =
    let l = s.progress.link in
    goes_by s t [] step.given step.sent is_open f
    (says_with s.progress t.progress (at_time now l) [] (ap (λ (c : LinkProgress). c.link) step.step) (again_says now l.stage l.handset (record l { time = now })))
step_sends (Take octets) s t step is_open f =
    let l = s.progress.link in
    let r = step.step in
    goes_by s t [] step.given step.sent is_open f
    (says_with s.progress t.progress r.0 [] (ap (λ (c : LinkProgress). c.link) r.2) (reads_on_says (with_unread octets l) r.0 r.1))
step_sends (Hear reply) s t step is_open f =
    let r = step.step in
    goes_by s t (given_by reply) step.given step.sent is_open f
    (says_with s.progress t.progress r.0 (given_by reply) (ap (λ (c : LinkProgress). c.link) r.2) (hears_says reply s.progress.link r.0 r.1))
step_sends GiveUp s t step is_open f =
    let l = s.progress.link in
    let m = sending (frame_of Congestion) l in
    goes_by s t [] step.given step.sent is_open f
    (says_with s.progress t.progress m [] (ap (λ (c : LinkProgress). c.link) step.step) (says_one Congestion l.outbox m.outbox [] refl refl))
step_sends (Send count) s t step is_open f =
    let w = s.progress.link.outbox in
    let b = leb count (length w.octets) in
    let closed = ap (λ (c : LinkProgress). c.link.outbox.is_closed) step.step in
    let was : w.is_closed ≡ false = sym (sent_closed b count w) ∙ (sym closed ∙ is_open) in
    sent_goes_on count s t (f was) step.given step.sent
    (ap (λ (k : LinkProgress). s.sent ++ (sent_in (Send count) w.octets ++ k.link.outbox.octets)) step.step
    ∙ ap (λ (o : List ℕ). s.sent ++ o) (some_sent b count w.octets w refl))
step_sends Put s t step is_open f =
    let l = s.progress.link in
    goes_by s t [] step.given step.sent is_open f
    (says_progress s.progress t.progress (put_by (handed_out l) s.progress) [] step.step (put_says l.is_marked (eqb l.before_mark 0) l.outbox.jobs s.progress))
step_sends PutBack s t step is_open f =
    let l = s.progress.link in
    goes_by s t [] step.given step.sent is_open f
    (says_progress s.progress t.progress (put_back_by (handed_out l) s.progress) [] step.step (put_back_says l.is_marked (eqb l.before_mark 0) l.outbox.jobs s.progress))
step_sends Tell s t step is_open f =
    let l = s.progress.link in
    goes_by s t [] step.given step.sent is_open f
    (says_with s.progress t.progress (next_note l).1 [] (ap (λ (c : LinkProgress). c.link) step.step) (told_says l.notes l))
step_sends Close s t step is_open f =
    let no : true ≡ false = sym (ap (λ (c : LinkProgress). c.link.outbox.is_closed) step.step) ∙ is_open in absurd cc

pub run_sends : (calls : List LinkCall) (s t : LinkSends) → SendRun s calls t → t.progress.link.outbox.is_closed ≡ false → (s.progress.link.outbox.is_closed ≡ false → HasSent s) → HasSent t
run_sends [] s t r is_open f = subst HasSent (sym r) (f (ap (λ (u : LinkSends). u.progress.link.outbox.is_closed) (sym r) ∙ is_open))
run_sends (call ∷ calls) s t r is_open f = run_sends calls r.0 t r.2 is_open (λ still. step_sends call s r.0 r.1 still f)

pub begins : (access : LinkAccess) → HasSent (begun access)
begins access = record { said = []; octets = refl; given = refl }
