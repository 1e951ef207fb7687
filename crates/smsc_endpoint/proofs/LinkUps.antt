-- A link that is up has a handset.
use Rattle.std.proofs.Common.{◌≡◌, inl, inr, ℕ, ◌-◌, Bool, true, false, cond, leb, ltb, List, [], ◌∷◌, length, Option, Some, None, Result, Ok, Err, refl, sym, ap, ◌∙◌, subst}
use Rattle.std.specs.Prelude.{MatchBool}
use Rattle.sms_link.specs.declared.framing.fault.FramingFault.{FramingFault}
use Rattle.sms_link.specs.framing.Framing.{front_of}
use Rattle.sms_centre_spec.specs.declared.jobs.job.Job.{Job}
use Rattle.sms_centre_spec.specs.declared.jobs.job.Job.TheVariants.{Frame}
use Rattle.sms_centre_spec.specs.declared.jobs.reply.Reply.{Reply}
use Rattle.sms_centre_spec.specs.declared.jobs.reply.Reply.TheVariants.{Answer, Receipt, Frame as FrameReply, Taken as TakenReply}
use Rattle.smsc_endpoint.specs.declared.link_access.LinkAccess.{LinkAccess}
use Rattle.smsc_endpoint.specs.declared.link_stage.Stage.{Stage}
use Rattle.smsc_endpoint.specs.declared.link_stage.Stage.TheVariants.{Unnamed, Named, Taken, Later, Up}
use Rattle.smsc_loop.specs.declared.note.Note.{Note}
use Rattle.smsc_loop.specs.declared.note.Note.TheVariants.{LinkUp as LinkUpNote, NotReplaced, NoFrames}
use Rattle.smsc_endpoint.specs.FirstFrame.{given_by, refused_by}
use Rattle.smsc_endpoint.specs.LinkView.{LinkView}
use Rattle.smsc_endpoint.specs.LinkCalls.{HearsMarkAt, Hears, ReadsAt, ReadsFirst, ReadsOn, congestion, first_note, handed_back, handed_out, named_again, named_by, naming, next_note, noting, over_by}
use Rattle.smsc_endpoint.specs.LinkCalls.{over_with, protocol_error, sending, taken_by, unmarked, with_frames, with_unread}
use Rattle.smsc_endpoint.specs.LinkRuns.{LinkCall, LinkProgress, LinkRun, LinkStep, put_back_by, put_by, started, taken_back, with_link}
use Rattle.smsc_endpoint.specs.LinkRuns.{At, Take, Hear, GiveUp, Send, Put, PutBack, Close, Tell}
use Rattle.smsc_endpoint.specs.Outbox.{with_octets}
use Rattle.smsc_endpoint.proofs.LinkRuns.{IsHanded, IsSameLink, handed_is, is_frame, over_of}

abbrev pub IsNamedUp : LinkView → Type 0
IsNamedUp l = l.stage ≡ Up → (handset : List ℕ) × (l.handset ≡ Some handset)

alike : (l m : LinkView) → m.stage ≡ l.stage → m.handset ≡ l.handset → IsNamedUp l → IsNamedUp m
alike l m stage handset n up = let was = n (sym stage ∙ up) in (was.0, handset ∙ was.1)

same : (l m : LinkView) → m ≡ l → IsNamedUp l → IsNamedUp m
same l m e n = subst IsNamedUp (sym e) n

over_named : (note : Note) (frame : List ℕ) (l : LinkView) → IsNamedUp l → IsNamedUp (over_with note frame l)
over_named note frame l n = let o = over_of l.access note frame l in alike l (over_with note frame l) o.stage o.handset n

-- ---- what is read

name_named : (refusal : Note) (number : Option (List ℕ)) (l : LinkView) → IsNamedUp l → IsNamedUp (named_by refusal number l)
name_named refusal None l n = over_named refusal protocol_error l n
name_named refusal (Some handset) l n = λ up. let no : Named ≡ Up = up in absurd cc

first_named : (front : Result (Option (List ℕ)) FramingFault) (l m : LinkView) → IsNamedUp l → ReadsFirst front l m → IsNamedUp m
first_named (Err fault) l m n e = same (over_with NoFrames protocol_error l) m e (over_named NoFrames protocol_error l n)
first_named (Ok None) l m n e = same l m e n
first_named (Ok (Some frame)) l m n e =
    let k = record l { unread = e.0 } in
    let refusal = refused_by l.access frame in
    same (named_by refusal (given_by l.access frame) k) m e.2 (name_named refusal (given_by l.access frame) k (alike l k refl refl n))

over_by_named : (front : Result (Option (List ℕ)) FramingFault) (l : LinkView) → IsNamedUp l → IsNamedUp (over_by front l)
over_by_named (Err fault) l n = over_named NoFrames protocol_error l n
over_by_named (Ok front) l n = n

reads_named : (stage : Stage) (l m : LinkView) → IsNamedUp l → ReadsAt stage l m → IsNamedUp m
reads_named Unnamed l m n r = first_named (front_of l.unread) l m n r
reads_named Up l m n r =
    let k = with_frames r.0 r.1 l in
    same (over_by (front_of r.1) k) m r.3 (over_by_named (front_of r.1) k (alike l k refl refl n))
reads_named Named l m n r = same l m r n
reads_named Taken l m n r = same l m r n
reads_named Later l m n r = same l m r n

reads_if : (over : Bool) (l m : LinkView) → IsNamedUp l → MatchBool over (m ≡ l) (ReadsAt l.stage l m) → IsNamedUp m
reads_if true l m n e = same l m e n
reads_if false l m n r = reads_named l.stage l m n r

reads_on_named : (l m : LinkView) → IsNamedUp l → ReadsOn l m → IsNamedUp m
reads_on_named l m n r = reads_if l.is_over l m n r

-- ---- time and replies

again_if : (b : Bool) (handset : List ℕ) (l : LinkView) → IsNamedUp l → IsNamedUp (cond b (naming handset l) l)
again_if true handset l n = λ up. let no : Named ≡ Up = up in absurd cc
again_if false handset l n = n

again_named : (now : ℕ) (stage : Stage) (handset : Option (List ℕ)) (l : LinkView) → IsNamedUp l → IsNamedUp (named_again now stage handset l)
again_named now Later (Some handset) l n = again_if (leb 50 (now - l.since)) handset l n
again_named now Later None l n = n
again_named now Unnamed handset l n = n
again_named now Named handset l n = n
again_named now Taken handset l n = n
again_named now Up handset l n = n

waiting_if : (b : Bool) (handset : List ℕ) (l : LinkView)
    → IsNamedUp (cond b (record l { stage = Later; since = l.time }) (over_with (NotReplaced handset) congestion (record l { handset = None; stage = Unnamed })))
waiting_if true handset l = λ up. let no : Later ≡ Up = up in absurd cc
waiting_if false handset l = over_named (NotReplaced handset) congestion (record l { handset = None; stage = Unnamed }) (λ up. let no : Unnamed ≡ Up = up in absurd cc)

taken_named : (handset : Option (List ℕ)) (l : LinkView) → IsNamedUp (taken_by handset l)
taken_named None l = λ up. let no : Taken ≡ Up = up in absurd cc
taken_named (Some handset) l = λ up. let no : Taken ≡ Up = up in absurd cc

told_named : (notes : List Note) (l : LinkView) → IsNamedUp l → IsNamedUp (first_note notes l).1
told_named [] l n = n
told_named (note ∷ notes) l n = n

mark_named : (stage : Stage) (handset : Option (List ℕ)) (l m : LinkView) → l.handset ≡ handset → IsNamedUp l → HearsMarkAt stage handset l m → IsNamedUp m
mark_named Named (Some handset) l m is n r = reads_on_named (noting (LinkUpNote handset) (record l { stage = Up })) m (λ up. (handset, is)) r
mark_named Taken (Some handset) l m is n r = subst IsNamedUp (sym r) (waiting_if (ltb 0 l.tries) handset l)
mark_named Named None l m is n r = same l m r n
mark_named Taken None l m is n r = same l m r n
mark_named Unnamed handset l m is n r = same l m r n
mark_named Later handset l m is n r = same l m r n
mark_named Up handset l m is n r = same l m r n

hears_named : (reply : Reply) (l m : LinkView) → IsNamedUp l → Hears reply l m → IsNamedUp m
hears_named (Answer answer) l m n r = mark_named l.stage l.handset (unmarked l) m refl (alike l (unmarked l) refl refl n) r
hears_named (Receipt end) l m n r = same l m r n
hears_named (FrameReply frame) l m n r = elim (is_frame frame) [
  | inl is ↦ same (sending frame l) m (r.0 is) (alike l (sending frame l) refl refl n)
  | inr none ↦ same l m (r.1 none) n
]
hears_named TakenReply l m n r = same (taken_by l.handset l) m r (taken_named l.handset l)

-- ---- jobs that go

put_named : (c : LinkProgress) (o : Option Job × LinkView) → IsNamedUp c.link → IsHanded c.link o → IsNamedUp (put_by o c).link
put_named c (None, m) n s = alike c.link m s.0.stage s.0.handset n
put_named c (Some job, m) n s = alike c.link m s.0.stage s.0.handset n

back_named : (c : LinkProgress) (job : Job) (m : LinkView) → IsNamedUp m → IsNamedUp (taken_back job (handed_back job m) c).link
back_named c (Frame octets) m n = n
back_named c _ m n = n

put_back_named : (c : LinkProgress) (o : Option Job × LinkView) → IsNamedUp c.link → IsHanded c.link o → IsNamedUp (put_back_by o c).link
put_back_named c (None, m) n s = alike c.link m s.0.stage s.0.handset n
put_back_named c (Some job, m) n s = back_named c job m (alike c.link m s.0.stage s.0.handset n)

-- ---- any calls

linked : (c d : LinkProgress) (m : LinkView) → d ≡ with_link m c → IsNamedUp m → IsNamedUp d.link
linked c d m e n = subst (λ (p : LinkProgress). IsNamedUp p.link) (sym e) n

step_named : (call : LinkCall) (c d : LinkProgress) → IsNamedUp c.link → LinkStep call c d → IsNamedUp d.link
step_named (At now) c d n s =
    subst (λ (p : LinkProgress). IsNamedUp p.link) (sym s)
    (again_named now c.link.stage c.link.handset (record c.link { time = now }) (alike c.link (record c.link { time = now }) refl refl n))
step_named (Take octets) c d n s =
    subst (λ (p : LinkProgress). IsNamedUp p.link) (sym s.2)
    (reads_on_named (with_unread octets c.link) s.0 (alike c.link (with_unread octets c.link) refl refl n) s.1)
step_named (Hear reply) c d n s = linked c d s.0 s.2 (hears_named reply c.link s.0 n s.1)
step_named GiveUp c d n s = linked c d (sending congestion c.link) s (alike c.link (sending congestion c.link) refl refl n)
step_named (Send count) c d n s = subst (λ (p : LinkProgress). IsNamedUp p.link) (sym s) n
step_named Put c d n s = subst (λ (p : LinkProgress). IsNamedUp p.link) (sym s) (put_named c (handed_out c.link) n (handed_is c.link))
step_named PutBack c d n s = subst (λ (p : LinkProgress). IsNamedUp p.link) (sym s) (put_back_named c (handed_out c.link) n (handed_is c.link))
step_named Tell c d n s = linked c d (next_note c.link).1 s (told_named c.link.notes c.link n)
step_named Close c d n s = subst (λ (p : LinkProgress). IsNamedUp p.link) (sym s) (λ up. let no : Unnamed ≡ Up = up in absurd cc)

pub run_named : (calls : List LinkCall) (c d : LinkProgress) → IsNamedUp c.link → LinkRun c calls d → IsNamedUp d.link
run_named [] c d n r = subst (λ (p : LinkProgress). IsNamedUp p.link) (sym r) n
run_named (call ∷ calls) c d n r = run_named calls r.0 d (step_named call c r.0 n r.1) r.2

pub none_up : (access : LinkAccess) → IsNamedUp (started access).link
none_up access up = let no : Unnamed ≡ Up = up in absurd cc
