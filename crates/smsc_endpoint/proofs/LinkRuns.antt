-- What holds of a link over any calls.
use Rattle.std.proofs.Common.{◌≡◌, ◌⊎◌, inl, inr, ℕ, ◌-◌, Bool, true, false, cond, eqb, leb, ltb, List, [], ◌∷◌, ◌++◌, length, map, Option, Some, None, Result, Ok, Err, refl, sym, ap, ◌∙◌, subst, arith, append_assoc, append-nil}
use Rattle.std.specs.List.{AllByRecursion}
use Rattle.std.specs.Prelude.{MatchBool}
use Rattle.std.proofs.lemmas.Bool.Decides.{leb_tells}
use Rattle.sms_base.proofs.Lists.{all_append}
use Rattle.sms_link.specs.declared.framing.fault.FramingFault.{FramingFault}
use Rattle.sms_link.specs.framing.Framing.{BeginsWithFrame, IsFrame, IsStream, framed, front_of, joined}
use Rattle.sms_centre_spec.specs.declared.jobs.job.Job.{Job}
use Rattle.sms_centre_spec.specs.declared.jobs.job.Job.TheVariants.{Bound, Unbound, Submit, Query, Cancel, DeliverAnswered, LinkUp, LinkDown, Frame}
use Rattle.sms_centre_spec.specs.declared.jobs.reply.Reply.{Reply}
use Rattle.sms_centre_spec.specs.declared.jobs.reply.Reply.TheVariants.{Answer, Receipt, Frame as FrameReply, Taken as TakenReply}
use Rattle.smsc_endpoint.specs.declared.link_stage.Stage.{Stage}
use Rattle.smsc_endpoint.specs.declared.link_stage.Stage.TheVariants.{Unnamed, Named, Taken, Later, Up}
use Rattle.smsc_endpoint.specs.declared.link_access.LinkAccess.{LinkAccess}
use Rattle.smsc_loop.specs.declared.note.Note.{Note}
use Rattle.smsc_loop.specs.declared.note.Note.TheVariants.{LinkUp as LinkUpNote, NotReplaced, NoFrames}
use Rattle.smsc_endpoint.specs.FirstFrame.{given_by, refused_by}
use Rattle.smsc_endpoint.specs.LinkView.{LinkView}
use Rattle.smsc_endpoint.specs.LinkCalls.{HearsFrame, HearsMarkAt, Hears, ReadsAt, ReadsFirst, ReadsFrames, ReadsOn}
use Rattle.smsc_endpoint.specs.LinkCalls.{at_time, congestion, ended, first_note, handed_back, handed_out, handing, mark, named_again, named_by, naming, next_note, noting}
use Rattle.smsc_endpoint.specs.LinkCalls.{over_by, over_saying, over_with, protocol_error, sending, sent_off, taken_by, unmarked, waiting_on, with_frames, with_sent, with_unread}
use Rattle.smsc_endpoint.specs.LinkRuns.{LinkCall, LinkProgress, LinkRun, LinkStep, IsCutUp, IsLinkProgress, IsGiven, IsLinkJob, IsReadUp, IsWaitingJob}
use Rattle.smsc_endpoint.specs.LinkRuns.{all_jobs, frames_of, put_back_by, put_by, started, taken_back, with_left, with_link}
use Rattle.smsc_endpoint.specs.LinkRuns.{At, Take, Hear, GiveUp, Send, Put, PutBack, Close, Tell}
use Rattle.smsc_endpoint.specs.Outbox.{OutboxView, next_among, with_next, with_octets, without_octets}
use Rattle.sms_link.proofs.framing.Streams.{joined_append}

-- ---- lists

pub frames_append : (xs ys : List Job) → frames_of (xs ++ ys) ≡ frames_of xs ++ frames_of ys
frames_append [] ys = refl
frames_append (Frame octets ∷ xs) ys = ap (λ (fs : List (List ℕ)). octets ∷ fs) (frames_append xs ys)
frames_append (Bound account receives ∷ xs) ys = frames_append xs ys
frames_append (Unbound ∷ xs) ys = frames_append xs ys
frames_append (Submit account pdu ∷ xs) ys = frames_append xs ys
frames_append (Query account pdu ∷ xs) ys = frames_append xs ys
frames_append (Cancel account pdu ∷ xs) ys = frames_append xs ys
frames_append (DeliverAnswered id is_accepted ∷ xs) ys = frames_append xs ys
frames_append (LinkUp handset ∷ xs) ys = frames_append xs ys
frames_append (LinkDown ∷ xs) ys = frames_append xs ys

abbrev frame_jobs : List (List ℕ) → List Job
frame_jobs frames = map (λ frame. Frame frame) frames

frames_back : (frames : List (List ℕ)) → frames_of (frame_jobs frames) ≡ frames
frames_back [] = refl
frames_back (frame ∷ frames) = ap (λ (fs : List (List ℕ)). frame ∷ fs) (frames_back frames)

-- ---- changes that read nothing

-- what is read and who is named
pub record IsSameLink (l m : LinkView) : Type 0 where
  pub access : m.access ≡ l.access
  pub unread : m.unread ≡ l.unread
  pub over : m.is_over ≡ l.is_over
  pub stage : m.stage ≡ l.stage
  pub handset : m.handset ≡ l.handset

-- Nothing is read: the jobs are those before, or the handset is named; the link does not begin again, nor come up.
pub record IsQuiet (l m : LinkView) : Type 0 where
  pub access : m.access ≡ l.access
  pub unread : m.unread ≡ l.unread
  pub jobs : (m.outbox.jobs ≡ l.outbox.jobs) ⊎ ((handset : List ℕ) × (l.handset ≡ Some handset) × (m.outbox.jobs ≡ l.outbox.jobs ++ LinkUp handset ∷ []))
  pub unnamed : m.is_over ≡ false → m.stage ≡ Unnamed → (l.is_over ≡ false) × (l.stage ≡ Unnamed) × (m.outbox.jobs ≡ l.outbox.jobs)
  pub handset : (handset : List ℕ) → m.handset ≡ Some handset → l.handset ≡ Some handset

-- and it is not up
pub record IsStill (l m : LinkView) : Type 0 where
  pub quiet : IsQuiet l m
  pub up : m.is_over ≡ false → m.stage ≡ Up → (l.is_over ≡ false) × (l.stage ≡ Up)

same_frames : (c : LinkProgress) (m : LinkView) → m.outbox.jobs ≡ c.link.outbox.jobs → all_jobs (with_link m c) ≡ all_jobs c
same_frames c m e = ap (λ (js : List Job). c.left ++ js) e

quiet_frames : (c : LinkProgress) (m : LinkView) → (m.outbox.jobs ≡ c.link.outbox.jobs) ⊎ ((handset : List ℕ) × (c.link.handset ≡ Some handset) × (m.outbox.jobs ≡ c.link.outbox.jobs ++ LinkUp handset ∷ []))
    → frames_of (all_jobs (with_link m c)) ≡ frames_of (all_jobs c)
quiet_frames c m (inl e) = ap frames_of (same_frames c m e)
quiet_frames c m (inr h) =
    ap frames_of (ap (λ (js : List Job). c.left ++ js) h.2 ∙ sym (append_assoc c.left c.link.outbox.jobs (LinkUp h.0 ∷ [])))
    ∙ (frames_append (c.left ++ c.link.outbox.jobs) (LinkUp h.0 ∷ []) ∙ append-nil (frames_of (all_jobs c)))

-- what ends a link leaves what is read
pub record IsOver (l m : LinkView) : Type 0 where
  pub access : m.access ≡ l.access
  pub unread : m.unread ≡ l.unread
  pub jobs : m.outbox.jobs ≡ l.outbox.jobs
  pub over : m.is_over ≡ true
  pub stage : m.stage ≡ l.stage
  pub handset : m.handset ≡ l.handset

-- another time, another count of jobs before the next mark
pub record IsSameBut (l m : LinkView) : Type 0 where
  pub same : IsSameLink l m
  pub outbox : m.outbox ≡ l.outbox

-- the octets that arrived begin with the frame, which is no job
record IsBegun (access : LinkAccess) (c : LinkProgress) (frame rest : List ℕ) : Type 0 where
  pub same : c.link.access ≡ access
  pub arrived : c.arrived ≡ framed frame ++ rest
  pub frames : frames_of (all_jobs c) ≡ []
  pub left : AllByRecursion (IsLinkJob access []) c.left
  pub waiting : AllByRecursion (IsWaitingJob access []) c.link.outbox.jobs

pub is_frame : (frame : List ℕ) → IsFrame frame ⊎ (IsFrame frame → ⊥)
is_frame frame = elim (leb_tells 1 (length frame)) [
  | inl some ↦ elim (leb_tells (length frame) 251) [
    | inl short ↦ inl (record { some = omega (arith, some.1); short = short.1 })
    | inr long ↦ inr (λ h. omega (arith, long.1, h.short))
  ]
  | inr none ↦ inr (λ h. omega (arith, none.1, h.some))
]

-- ---- jobs that are handed out

-- the job is the next that waits, or a mark
abbrev pub IsHanded : LinkView → Option Job × LinkView → Type 0
IsHanded l (None, m) = IsSameLink l m × (m.outbox.jobs ≡ l.outbox.jobs)
IsHanded l (Some job, m) = IsSameLink l m × (((job ≡ mark) × (m.outbox.jobs ≡ l.outbox.jobs)) ⊎ (l.outbox.jobs ≡ job ∷ m.outbox.jobs))

handed_if : (marked due : Bool) (jobs : List Job) (l : LinkView) → l.outbox.jobs ≡ jobs
    → IsHanded l (cond marked (None, l) (cond due (Some mark, record l { is_marked = true }) (handing (next_among jobs l.outbox) l)))
handed_if true due jobs l e = (record { access = refl; unread = refl; over = refl; stage = refl; handset = refl }, refl)
handed_if false true jobs l e = (record { access = refl; unread = refl; over = refl; stage = refl; handset = refl }, inl (refl, refl))
handed_if false false [] l e = (record { access = refl; unread = refl; over = refl; stage = refl; handset = refl }, refl)
handed_if false false (job ∷ jobs) l e = (record { access = refl; unread = refl; over = refl; stage = refl; handset = refl }, inr e)

pub handed_is : (l : LinkView) → IsHanded l (handed_out l)
handed_is l = handed_if l.is_marked (eqb l.before_mark 0) l.outbox.jobs l refl

-- ---- over a link of that access

module _ (access : LinkAccess) where
  quiet_waiting : (first : List (List ℕ)) (l m : LinkView) → ((handset : List ℕ) → l.handset ≡ Some handset → IsGiven access first handset)
      → (m.outbox.jobs ≡ l.outbox.jobs) ⊎ ((handset : List ℕ) × (l.handset ≡ Some handset) × (m.outbox.jobs ≡ l.outbox.jobs ++ LinkUp handset ∷ []))
      → AllByRecursion (IsWaitingJob access first) l.outbox.jobs → AllByRecursion (IsWaitingJob access first) m.outbox.jobs
  quiet_waiting first l m names (inl e) h = subst (λ (js : List Job). AllByRecursion (IsWaitingJob access first) js) (sym e) h
  quiet_waiting first l m names (inr g) h =
      subst (λ (js : List Job). AllByRecursion (IsWaitingJob access first) js) (sym g.2)
      (all_append (IsWaitingJob access first) l.outbox.jobs (LinkUp g.0 ∷ []) h (names g.0 g.1, tt))

  pub quiet_cut : (c : LinkProgress) (m : LinkView) → IsCutUp access c → IsQuiet c.link m → IsCutUp access (with_link m c)
  quiet_cut c m h q =
      let frames = quiet_frames c m q.jobs in record {
        same = q.access ∙ h.same;
        first = h.first;
        at_most_one = h.at_most_one;
        parts = h.parts
            ∙ (ap (λ (u : List ℕ). joined (h.first ++ frames_of (all_jobs c)) ++ u) (sym q.unread)
            ∙ ap (λ (fs : List (List ℕ)). joined (h.first ++ fs) ++ m.unread) (sym frames));
        each = subst (λ (fs : List (List ℕ)). AllByRecursion IsFrame (h.first ++ fs)) (sym frames) h.each;
        left = h.left;
        waiting = quiet_waiting h.first c.link m h.names q.jobs h.waiting;
        none_yet = λ over stage. let was = q.unnamed over stage in ap (λ (fs : List (List ℕ)). h.first ++ fs) frames ∙ h.none_yet was.0 was.1;
        names = λ handset e. h.names handset (q.handset handset e);
      }

  pub still_progress : (c : LinkProgress) (m : LinkView) → IsLinkProgress access c → IsStill c.link m → IsLinkProgress access (with_link m c)
  still_progress c m h s = (
    quiet_cut c m h.0 s.quiet,
    λ over stage frame b.
        let was = s.up over stage in
        h.1 was.0 was.1 frame (subst (λ (u : List ℕ). BeginsWithFrame u frame) s.quiet.unread b),
  )

  same_still : (l m : LinkView) → IsSameLink l m → m.outbox.jobs ≡ l.outbox.jobs → IsStill l m
  same_still l m s e = record {
    quiet = record {
      access = s.access;
      unread = s.unread;
      jobs = inl e;
      unnamed = λ over stage. (sym s.over ∙ over, sym s.stage ∙ stage, e);
      handset = λ handset is. sym s.handset ∙ is;
    };
    up = λ over stage. (sym s.over ∙ over, sym s.stage ∙ stage);
  }

  -- a link that is over
  over_still : (l m : LinkView) → m.access ≡ l.access → m.unread ≡ l.unread → m.outbox.jobs ≡ l.outbox.jobs → m.is_over ≡ true
      → ((handset : List ℕ) → m.handset ≡ Some handset → l.handset ≡ Some handset) → IsStill l m
  over_still l m a u e o h = record {
    quiet = record {
      access = a;
      unread = u;
      jobs = inl e;
      unnamed = λ over stage. let no : true ≡ false = sym o ∙ over in absurd cc;
      handset = h;
    };
    up = λ over stage. let no : true ≡ false = sym o ∙ over in absurd cc;
  }

  octets_jobs : (octets : List ℕ) (w : OutboxView) (b : Bool) → w.is_closed ≡ b → (with_octets octets w).jobs ≡ w.jobs
  octets_jobs octets w true e = rw e refl
  octets_jobs octets w false e = rw e refl

  sent_jobs : (octets : List ℕ) (l : LinkView) → (with_sent octets l).outbox.jobs ≡ l.outbox.jobs
  sent_jobs octets l = octets_jobs octets l.outbox l.outbox.is_closed refl

  sent_still : (octets : List ℕ) (l : LinkView) → IsStill l (with_sent octets l)
  sent_still octets l = same_still l (with_sent octets l) (record { access = refl; unread = refl; over = refl; stage = refl; handset = refl }) (sent_jobs octets l)

  over_is : (note : Note) (octets : List ℕ) (l : LinkView) (b : Bool) → l.is_over ≡ b → IsOver l (over_saying note octets l)
  over_is note octets l true e = rw e (record { access = refl; unread = refl; jobs = refl; over = refl; stage = refl; handset = refl })
  over_is note octets l false e = rw e (record { access = refl; unread = refl; jobs = sent_jobs octets (record l { is_over = true }); over = refl; stage = refl; handset = refl })

  pub over_of : (note : Note) (frame : List ℕ) (l : LinkView) → IsOver l (over_with note frame l)
  over_of note frame l = over_is note (framed frame) l l.is_over refl

  over_with_still : (note : Note) (frame : List ℕ) (l : LinkView) → IsStill l (over_with note frame l)
  over_with_still note frame l =
      let o = over_of note frame l in
      over_still l (over_with note frame l) o.access o.unread o.jobs o.over (λ handset e. sym o.handset ∙ e)

  -- ---- time, and a handset that is named again

  naming_still : (handset : List ℕ) (l : LinkView) → l.handset ≡ Some handset → IsStill l (naming handset l)
  naming_still handset l e = record {
    quiet = record {
      access = refl;
      unread = refl;
      jobs = inr (handset, e, refl);
      unnamed = λ over stage. let no : Named ≡ Unnamed = stage in absurd cc;
      handset = λ h is. is;
    };
    up = λ over stage. let no : Named ≡ Up = stage in absurd cc;
  }

  refl_still : (l : LinkView) → IsStill l l
  refl_still l = same_still l l (record { access = refl; unread = refl; over = refl; stage = refl; handset = refl }) refl

  again_if : (b : Bool) (handset : List ℕ) (l : LinkView) → l.handset ≡ Some handset → IsStill l (cond b (naming handset l) l)
  again_if true handset l e = naming_still handset l e
  again_if false handset l e = refl_still l

  again_still : (now : ℕ) (stage : Stage) (handset : Option (List ℕ)) (l : LinkView) → l.handset ≡ handset → IsStill l (named_again now stage handset l)
  again_still now Later (Some handset) l e = again_if (leb 50 (now - l.since)) handset l e
  again_still now Later None l e = refl_still l
  again_still now Unnamed handset l e = refl_still l
  again_still now Named handset l e = refl_still l
  again_still now Taken handset l e = refl_still l
  again_still now Up handset l e = refl_still l

  behind_still : (l m n : LinkView) → IsSameBut l m → IsStill m n → IsStill l n
  behind_still l m n s h = record {
    quiet = record {
      access = h.quiet.access ∙ s.same.access;
      unread = h.quiet.unread ∙ s.same.unread;
      jobs = jobs_behind h.quiet.jobs;
      unnamed = λ over stage. let was = h.quiet.unnamed over stage in (sym s.same.over ∙ was.0, sym s.same.stage ∙ was.1, was.2 ∙ same_jobs);
      handset = λ handset e. sym s.same.handset ∙ h.quiet.handset handset e;
    };
    up = λ over stage. let was = h.up over stage in (sym s.same.over ∙ was.0, sym s.same.stage ∙ was.1);
  } where
    same_jobs : m.outbox.jobs ≡ l.outbox.jobs
    same_jobs = ap (λ (w : OutboxView). w.jobs) s.outbox

    jobs_behind : (n.outbox.jobs ≡ m.outbox.jobs) ⊎ ((handset : List ℕ) × (m.handset ≡ Some handset) × (n.outbox.jobs ≡ m.outbox.jobs ++ LinkUp handset ∷ []))
        → (n.outbox.jobs ≡ l.outbox.jobs) ⊎ ((handset : List ℕ) × (l.handset ≡ Some handset) × (n.outbox.jobs ≡ l.outbox.jobs ++ LinkUp handset ∷ []))
    jobs_behind (inl e) = inl (e ∙ same_jobs)
    jobs_behind (inr g) = inr (g.0, sym s.same.handset ∙ g.1, g.2 ∙ ap (λ (js : List Job). js ++ LinkUp g.0 ∷ []) same_jobs)

  pub time_still : (now : ℕ) (l : LinkView) → IsStill l (at_time now l)
  time_still now l =
      behind_still l (record l { time = now }) (at_time now l) (record { same = record { access = refl; unread = refl; over = refl; stage = refl; handset = refl }; outbox = refl })
      (again_still now l.stage l.handset (record l { time = now }) refl)

  -- ---- another link of the handset

  waiting_if : (b : Bool) (handset : List ℕ) (l : LinkView)
      → IsStill l (cond b (record l { stage = Later; since = l.time }) (over_with (NotReplaced handset) congestion (record l { handset = None; stage = Unnamed })))
  waiting_if true handset l = record {
    quiet = record {
      access = refl;
      unread = refl;
      jobs = inl refl;
      unnamed = λ over stage. let no : Later ≡ Unnamed = stage in absurd cc;
      handset = λ handset e. e;
    };
    up = λ over stage. let no : Later ≡ Up = stage in absurd cc;
  }
  waiting_if false handset l =
      let o = over_of (NotReplaced handset) congestion (record l { handset = None; stage = Unnamed }) in
      over_still l (over_with (NotReplaced handset) congestion (record l { handset = None; stage = Unnamed })) o.access o.unread o.jobs o.over
      (λ other e. let no : None ≡ Some other = sym o.handset ∙ e in absurd cc)

  waiting_still : (handset : List ℕ) (l : LinkView) → IsStill l (waiting_on handset l)
  waiting_still handset l = waiting_if (ltb 0 l.tries) handset l

  away_still : (l m : LinkView) → m.access ≡ l.access → m.unread ≡ l.unread → m.outbox ≡ l.outbox → m.stage ≡ Taken → m.handset ≡ l.handset → IsStill l m
  away_still l m a u o t h = record {
    quiet = record {
      access = a;
      unread = u;
      jobs = inl (ap (λ (w : OutboxView). w.jobs) o);
      unnamed = λ over stage. let no : Taken ≡ Unnamed = sym t ∙ stage in absurd cc;
      handset = λ handset e. sym h ∙ e;
    };
    up = λ over stage. let no : Taken ≡ Up = sym t ∙ stage in absurd cc;
  }

  taken_still : (handset : Option (List ℕ)) (l : LinkView) → IsStill l (taken_by handset l)
  taken_still None l = away_still l (taken_by None l) refl refl refl refl refl
  taken_still (Some handset) l = away_still l (taken_by (Some handset) l) refl refl refl refl refl

  -- ---- what is told

  told_still : (notes : List Note) (l : LinkView) → IsStill l (first_note notes l).1
  told_still [] l = refl_still l
  told_still (note ∷ notes) l = same_still l (first_note (note ∷ notes) l).1 (record { access = refl; unread = refl; over = refl; stage = refl; handset = refl }) refl

  -- ---- reading

  framed_one : (frame rest : List ℕ) → joined (frame ∷ []) ++ rest ≡ framed frame ++ rest
  framed_one frame rest = ap (λ (o : List ℕ). o ++ rest) (append-nil (framed frame))

  no_frames : (first frames : List (List ℕ)) → first ++ frames ≡ [] → (first ≡ []) × (frames ≡ [])
  no_frames [] frames e = (refl, e)
  no_frames (x ∷ first) frames e = absurd cc

  begun : (c : LinkProgress) (frame rest : List ℕ) → IsCutUp access c → c.link.is_over ≡ false → c.link.stage ≡ Unnamed → c.link.unread ≡ framed frame ++ rest → IsBegun access c frame rest
  begun c frame rest h over stage parts =
      let none = no_frames h.first (frames_of (all_jobs c)) (h.none_yet over stage) in
      record {
        same = h.same;
        arrived = h.parts ∙ (ap (λ (fs : List (List ℕ)). joined fs ++ c.link.unread) (h.none_yet over stage) ∙ parts);
        frames = none.1;
        left = subst (λ (first : List (List ℕ)). AllByRecursion (IsLinkJob access first) c.left) none.0 h.left;
        waiting = subst (λ (first : List (List ℕ)). AllByRecursion (IsWaitingJob access first) c.link.outbox.jobs) none.0 h.waiting;
      }

  -- no job of a link without a name is one that a name allows alone
  waiting_more : (first : List (List ℕ)) (job : Job) → IsWaitingJob access [] job → IsWaitingJob access first job
  waiting_more first (LinkUp handset) h = let no : [] ≡ h.0 ∷ [] = h.1 in absurd cc
  waiting_more first (Frame octets) h = tt
  waiting_more first (Bound account receives) h = absurd h
  waiting_more first Unbound h = absurd h
  waiting_more first (Submit account pdu) h = absurd h
  waiting_more first (Query account pdu) h = absurd h
  waiting_more first (Cancel account pdu) h = absurd h
  waiting_more first (DeliverAnswered id is_accepted) h = absurd h
  waiting_more first LinkDown h = absurd h

  left_more : (first : List (List ℕ)) (job : Job) → IsLinkJob access [] job → IsLinkJob access first job
  left_more first (LinkUp handset) h = let no : [] ≡ h.0 ∷ [] = h.1 in absurd cc
  left_more first (Frame octets) h = tt
  left_more first (Bound account receives) h = absurd h
  left_more first Unbound h = absurd h
  left_more first (Submit account pdu) h = absurd h
  left_more first (Query account pdu) h = h
  left_more first (Cancel account pdu) h = absurd h
  left_more first (DeliverAnswered id is_accepted) h = absurd h
  left_more first LinkDown h = absurd h

  all_more : {A : Type 0} (P Q : A → Type 0) → ((x : A) → P x → Q x) → (xs : List A) → AllByRecursion P xs → AllByRecursion Q xs
  all_more P Q f [] h = tt
  all_more P Q f (x ∷ xs) h = (f x h.0, all_more P Q f xs h.1)

  -- the frame is cut off, and ends the link
  ended_by_first : (c : LinkProgress) (frame rest : List ℕ) (m : LinkView) → IsBegun access c frame rest → IsFrame frame → c.link.handset ≡ None
      → IsOver (record c.link { unread = rest }) m → IsCutUp access (with_link m c)
  ended_by_first c frame rest m h is nobody o =
      let frames : frames_of (all_jobs (with_link m c)) ≡ [] = ap frames_of (same_frames c m o.jobs) ∙ h.frames in record {
        same = o.access ∙ h.same;
        first = frame ∷ [];
        at_most_one = omega arith;
        parts = h.arrived
            ∙ (sym (framed_one frame rest)
            ∙ (ap (λ (u : List ℕ). joined (frame ∷ []) ++ u) (sym o.unread)
            ∙ ap (λ (fs : List (List ℕ)). joined (frame ∷ fs) ++ m.unread) (sym frames)));
        each = (is, subst (λ (fs : List (List ℕ)). AllByRecursion IsFrame fs) (sym frames) tt);
        left = all_more (IsLinkJob access []) (IsLinkJob access (frame ∷ [])) (left_more (frame ∷ [])) c.left h.left;
        waiting = subst (λ (js : List Job). AllByRecursion (IsWaitingJob access (frame ∷ [])) js) (sym o.jobs)
            (all_more (IsWaitingJob access []) (IsWaitingJob access (frame ∷ [])) (waiting_more (frame ∷ [])) c.link.outbox.jobs h.waiting);
        none_yet = λ over stage. let no : true ≡ false = sym o.over ∙ over in absurd cc;
        names = λ handset e. let no : None ≡ Some handset = sym nobody ∙ (sym o.handset ∙ e) in absurd cc;
      }

  -- the frame is cut off, and is given the link of the handset
  named_by_first : (c : LinkProgress) (frame rest handset : List ℕ) → IsBegun access c frame rest → IsFrame frame → given_by access frame ≡ Some handset
      → IsCutUp access (with_link (naming handset (record c.link { unread = rest; handset = Some handset })) c)
  named_by_first c frame rest handset h is given =
      let m = naming handset (record c.link { unread = rest; handset = Some handset }) in
      let frames : frames_of (all_jobs (with_link m c)) ≡ [] =
      ap frames_of (sym (append_assoc c.left c.link.outbox.jobs (LinkUp handset ∷ [])))
      ∙ (frames_append (c.left ++ c.link.outbox.jobs) (LinkUp handset ∷ []) ∙ (append-nil (frames_of (all_jobs c)) ∙ h.frames)) in record {
        same = h.same;
        first = frame ∷ [];
        at_most_one = omega arith;
        parts = h.arrived ∙ (sym (framed_one frame rest) ∙ ap (λ (fs : List (List ℕ)). joined (frame ∷ fs) ++ rest) (sym frames));
        each = (is, subst (λ (fs : List (List ℕ)). AllByRecursion IsFrame fs) (sym frames) tt);
        left = all_more (IsLinkJob access []) (IsLinkJob access (frame ∷ [])) (left_more (frame ∷ [])) c.left h.left;
        waiting = all_append (IsWaitingJob access (frame ∷ [])) c.link.outbox.jobs (LinkUp handset ∷ [])
            (all_more (IsWaitingJob access []) (IsWaitingJob access (frame ∷ [])) (waiting_more (frame ∷ [])) c.link.outbox.jobs h.waiting) ((frame, refl, given), tt);
        none_yet = λ over stage. let no : Named ≡ Unnamed = stage in absurd cc;
        names = λ other e. (frame, refl, given ∙ e);
      }

  up_if_over : (l : LinkView) → l.is_over ≡ true → IsReadUp l
  up_if_over l o over stage frame b = let no : true ≡ false = sym o ∙ over in absurd cc

  first_if : (refusal : Note) (given : Option (List ℕ)) (c : LinkProgress) (frame rest : List ℕ) → given_by access frame ≡ given → IsBegun access c frame rest
      → IsFrame frame → c.link.handset ≡ None → IsLinkProgress access (with_link (named_by refusal given (record c.link { unread = rest })) c)
  first_if refusal (Some handset) c frame rest given h is nobody = (named_by_first c frame rest handset h is given, λ over stage f b. let no : Named ≡ Up = stage in absurd cc)
  first_if refusal None c frame rest given h is nobody =
      let m = over_with refusal protocol_error (record c.link { unread = rest }) in
      let o = over_of refusal protocol_error (record c.link { unread = rest }) in
      (ended_by_first c frame rest m h is nobody o, up_if_over m o.over)

  up_of : (l m : LinkView) → m ≡ l → IsReadUp l → IsReadUp m
  up_of l m e h = subst IsReadUp (sym e) h

  nobody_if : (handset : Option (List ℕ)) → ((h : List ℕ) → handset ≡ Some h → ⊥) → handset ≡ None
  nobody_if None f = refl
  nobody_if (Some handset) f = absurd (f handset refl)

  nobody_yet : (c : LinkProgress) → IsCutUp access c → c.link.is_over ≡ false → c.link.stage ≡ Unnamed → c.link.handset ≡ None
  nobody_yet c h over stage =
      let none = no_frames h.first (frames_of (all_jobs c)) (h.none_yet over stage) in
      nobody_if c.link.handset (λ handset e. let g = h.names handset e in let no : [] ≡ g.0 ∷ [] = sym none.0 ∙ g.1 in absurd cc)

  -- the link names nobody until the first frame is there
  reads_first : (found : (o f : List ℕ) → front_of o ≡ Ok (Some f) → BeginsWithFrame o f) (front : Result (Option (List ℕ)) FramingFault) (c : LinkProgress) (m : LinkView)
      → front_of c.link.unread ≡ front → IsCutUp access c → c.link.is_over ≡ false → c.link.stage ≡ Unnamed → ReadsFirst front c.link m → IsLinkProgress access (with_link m c)
  reads_first found (Err fault) c m is h over stage e =
      let m' = over_with NoFrames protocol_error c.link in
      let o = over_of NoFrames protocol_error c.link in
      subst (λ (k : LinkView). IsLinkProgress access (with_link k c)) (sym e)
      (quiet_cut c m' h (over_with_still NoFrames protocol_error c.link).quiet, up_if_over m' o.over)
  reads_first found (Ok None) c m is h over stage e =
      subst (λ (k : LinkView). IsLinkProgress access (with_link k c)) (sym e)
      (h, λ o s f b. let no : Unnamed ≡ Up = sym stage ∙ s in absurd cc)
  reads_first found (Ok (Some frame)) c m is h over stage e =
      let rest = e.0 in
      let b = begun c frame rest h over stage e.1 in
      subst (λ (k : LinkView). IsLinkProgress access (with_link k c)) (sym e.2)
      (first_if (refused_by c.link.access frame) (given_by c.link.access frame) c frame rest (ap (λ (a : LinkAccess). given_by a frame) (sym b.same)) b (found c.link.unread frame is).0 (nobody_yet c h over stage))

  -- ---- a link that is up

  frames_more : (c : LinkProgress) (frames : List (List ℕ)) (rest : List ℕ) → frames_of (all_jobs (with_link (with_frames frames rest c.link) c)) ≡ frames_of (all_jobs c) ++ frames
  frames_more c frames rest =
      ap frames_of (sym (append_assoc c.left c.link.outbox.jobs (frame_jobs frames)))
      ∙ (frames_append (c.left ++ c.link.outbox.jobs) (frame_jobs frames)
      ∙ ap (λ (fs : List (List ℕ)). frames_of (all_jobs c) ++ fs) (frames_back frames))

  frames_wait : (first frames : List (List ℕ)) → AllByRecursion (IsWaitingJob access first) (frame_jobs frames)
  frames_wait first [] = tt
  frames_wait first (frame ∷ frames) = (tt, frames_wait first frames)

  with_frames_cut : (c : LinkProgress) (frames : List (List ℕ)) (rest : List ℕ) → IsCutUp access c → IsStream c.link.unread frames rest → c.link.stage ≡ Up
      → IsCutUp access (with_link (with_frames frames rest c.link) c)
  with_frames_cut c frames rest h s up =
      let all : h.first ++ frames_of (all_jobs (with_link (with_frames frames rest c.link) c)) ≡ (h.first ++ frames_of (all_jobs c)) ++ frames =
      ap (λ (fs : List (List ℕ)). h.first ++ fs) (frames_more c frames rest) ∙ sym (append_assoc h.first (frames_of (all_jobs c)) frames) in record {
        same = h.same;
        first = h.first;
        at_most_one = h.at_most_one;
        parts = h.parts
            ∙ (ap (λ (u : List ℕ). joined (h.first ++ frames_of (all_jobs c)) ++ u) s.parts
            ∙ (sym (append_assoc (joined (h.first ++ frames_of (all_jobs c))) (joined frames) rest)
            ∙ (ap (λ (o : List ℕ). o ++ rest) (sym (joined_append (h.first ++ frames_of (all_jobs c)) frames))
            ∙ ap (λ (fs : List (List ℕ)). joined fs ++ rest) (sym all))));
        each = subst (λ (fs : List (List ℕ)). AllByRecursion IsFrame fs) (sym all) (all_append IsFrame (h.first ++ frames_of (all_jobs c)) frames h.each s.each);
        left = h.left;
        waiting = all_append (IsWaitingJob access h.first) c.link.outbox.jobs (frame_jobs frames) h.waiting (frames_wait h.first frames);
        none_yet = λ over stage. let no : Up ≡ Unnamed = sym up ∙ stage in absurd cc;
        names = h.names;
      }

  over_by_progress : (front : Result (Option (List ℕ)) FramingFault) (c : LinkProgress) → IsCutUp access c → IsReadUp c.link → IsLinkProgress access (with_link (over_by front c.link) c)
  over_by_progress (Err fault) c h u =
      let m = over_with NoFrames protocol_error c.link in
      let o = over_of NoFrames protocol_error c.link in
      (quiet_cut c m h (over_with_still NoFrames protocol_error c.link).quiet, up_if_over m o.over)
  over_by_progress (Ok front) c h u = (h, u)

  reads_frames : (c : LinkProgress) (m : LinkView) → IsCutUp access c → c.link.stage ≡ Up → ReadsFrames c.link m → IsLinkProgress access (with_link m c)
  reads_frames c m h up r =
      let after = with_frames r.0 r.1 c.link in
      subst (λ (k : LinkView). IsLinkProgress access (with_link k c)) (sym r.3)
      (over_by_progress (front_of r.1) (with_link after c) (with_frames_cut c r.0 r.1 h r.2 up) (λ over stage frame b. r.2.no_more frame b))

  unread_progress : (c : LinkProgress) (m : LinkView) (stage : Stage) → c.link.stage ≡ stage → IsCutUp access c → m ≡ c.link → (stage ≡ Up → ⊥) → IsLinkProgress access (with_link m c)
  unread_progress c m stage is h e down =
      subst (λ (k : LinkView). IsLinkProgress access (with_link k c)) (sym e) (h, λ over up frame b. absurd (down (sym is ∙ up)))

  reads_at : (found : (o f : List ℕ) → front_of o ≡ Ok (Some f) → BeginsWithFrame o f) (stage : Stage) (c : LinkProgress) (m : LinkView)
      → c.link.stage ≡ stage → c.link.is_over ≡ false → IsCutUp access c → ReadsAt stage c.link m → IsLinkProgress access (with_link m c)
  reads_at found Unnamed c m is over h r = reads_first found (front_of c.link.unread) c m refl h over is r
  reads_at found Up c m is over h r = reads_frames c m h is r
  reads_at found Named c m is over h r = unread_progress c m Named is h r (λ e. let no : Named ≡ Up = e in absurd cc)
  reads_at found Taken c m is over h r = unread_progress c m Taken is h r (λ e. let no : Taken ≡ Up = e in absurd cc)
  reads_at found Later c m is over h r = unread_progress c m Later is h r (λ e. let no : Later ≡ Up = e in absurd cc)

  reads_if : (found : (o f : List ℕ) → front_of o ≡ Ok (Some f) → BeginsWithFrame o f) (over : Bool) (c : LinkProgress) (m : LinkView)
      → c.link.is_over ≡ over → IsCutUp access c → MatchBool over (m ≡ c.link) (ReadsAt c.link.stage c.link m) → IsLinkProgress access (with_link m c)
  reads_if found true c m o h e = subst (λ (k : LinkView). IsLinkProgress access (with_link k c)) (sym e) (h, up_if_over c.link o)
  reads_if found false c m o h r = reads_at found c.link.stage c m refl o h r

  pub reads_on : (found : (o f : List ℕ) → front_of o ≡ Ok (Some f) → BeginsWithFrame o f) (c : LinkProgress) (m : LinkView) → IsCutUp access c → ReadsOn c.link m → IsLinkProgress access (with_link m c)
  reads_on found c m h r = reads_if found c.link.is_over c m refl h r

  -- ---- the calls

  with_unread_cut : (c : LinkProgress) (octets : List ℕ) → IsCutUp access c → IsCutUp access (record { link = with_unread octets c.link; arrived = c.arrived ++ octets; left = c.left })
  with_unread_cut c octets h = record {
    same = h.same;
    first = h.first;
    at_most_one = h.at_most_one;
    parts = ap (λ (o : List ℕ). o ++ octets) h.parts ∙ append_assoc (joined (h.first ++ frames_of (all_jobs c))) c.link.unread octets;
    each = h.each;
    left = h.left;
    waiting = h.waiting;
    none_yet = h.none_yet;
    names = h.names;
  }

  hears_frame : (c : LinkProgress) (frame : List ℕ) (m : LinkView) → IsLinkProgress access c → HearsFrame frame c.link m → IsLinkProgress access (with_link m c)
  hears_frame c frame m h r = elim (is_frame frame) [
    | inl is ↦ subst (λ (k : LinkView). IsLinkProgress access (with_link k c)) (sym (r.0 is)) (still_progress c (sending frame c.link) h (sent_still (framed frame) c.link))
    | inr none ↦ subst (λ (k : LinkView). IsLinkProgress access (with_link k c)) (sym (r.1 none)) h
  ]

  unmarked_cut : (note : Note) (c : LinkProgress) → IsCutUp access c → (stage : Stage) → (stage ≡ Unnamed → ⊥)
      → IsCutUp access (with_link (noting note (record (unmarked c.link) { stage = stage })) c)
  unmarked_cut note c h stage named = record {
    same = h.same;
    first = h.first;
    at_most_one = h.at_most_one;
    parts = h.parts;
    each = h.each;
    left = h.left;
    waiting = h.waiting;
    none_yet = λ over e. absurd (named e);
    names = h.names;
  }

  unmarked_still : (l : LinkView) → IsStill l (unmarked l)
  unmarked_still l = same_still l (unmarked l) (record { access = refl; unread = refl; over = refl; stage = refl; handset = refl }) refl

  hears_mark : (found : (o f : List ℕ) → front_of o ≡ Ok (Some f) → BeginsWithFrame o f) (stage : Stage) (handset : Option (List ℕ)) (c : LinkProgress) (m : LinkView)
      → IsLinkProgress access c → HearsMarkAt stage handset (unmarked c.link) m → IsLinkProgress access (with_link m c)
  hears_mark found Named (Some handset) c m h r =
      reads_on found (with_link (noting (LinkUpNote handset) (record (unmarked c.link) { stage = Up })) c) m
      (unmarked_cut (LinkUpNote handset) c h.0 Up (λ e. let no : Up ≡ Unnamed = e in absurd cc)) r
  hears_mark found Taken (Some handset) c m h r =
      subst (λ (k : LinkView). IsLinkProgress access (with_link k c)) (sym r)
      (still_progress (with_link (unmarked c.link) c) (waiting_on handset (unmarked c.link)) (still_progress c (unmarked c.link) h (unmarked_still c.link))
      (waiting_still handset (unmarked c.link)))
  hears_mark found Named None c m h r = subst (λ (k : LinkView). IsLinkProgress access (with_link k c)) (sym r) (still_progress c (unmarked c.link) h (unmarked_still c.link))
  hears_mark found Taken None c m h r = subst (λ (k : LinkView). IsLinkProgress access (with_link k c)) (sym r) (still_progress c (unmarked c.link) h (unmarked_still c.link))
  hears_mark found Unnamed handset c m h r = subst (λ (k : LinkView). IsLinkProgress access (with_link k c)) (sym r) (still_progress c (unmarked c.link) h (unmarked_still c.link))
  hears_mark found Later handset c m h r = subst (λ (k : LinkView). IsLinkProgress access (with_link k c)) (sym r) (still_progress c (unmarked c.link) h (unmarked_still c.link))
  hears_mark found Up handset c m h r = subst (λ (k : LinkView). IsLinkProgress access (with_link k c)) (sym r) (still_progress c (unmarked c.link) h (unmarked_still c.link))

  hears : (found : (o f : List ℕ) → front_of o ≡ Ok (Some f) → BeginsWithFrame o f) (reply : Reply) (c : LinkProgress) (m : LinkView) → IsLinkProgress access c → Hears reply c.link m → IsLinkProgress access (with_link m c)
  hears found (Answer answer) c m h r = hears_mark found c.link.stage c.link.handset c m h r
  hears found (Receipt end) c m h r = subst (λ (k : LinkView). IsLinkProgress access (with_link k c)) (sym r) h
  hears found (FrameReply octets) c m h r = hears_frame c octets m h r
  hears found TakenReply c m h r = subst (λ (k : LinkView). IsLinkProgress access (with_link k c)) (sym r) (still_progress c (taken_by c.link.handset c.link) h (taken_still c.link.handset c.link))

  -- ---- jobs that go

  waiting_left : (first : List (List ℕ)) (job : Job) → IsWaitingJob access first job → IsLinkJob access first job
  waiting_left first (LinkUp handset) h = h
  waiting_left first (Frame octets) h = h
  waiting_left first (Bound account receives) h = absurd h
  waiting_left first Unbound h = absurd h
  waiting_left first (Submit account pdu) h = absurd h
  waiting_left first (Query account pdu) h = absurd h
  waiting_left first (Cancel account pdu) h = absurd h
  waiting_left first (DeliverAnswered id is_accepted) h = absurd h
  waiting_left first LinkDown h = absurd h

  -- the job has gone, and what it was is among the jobs
  gone : (c : LinkProgress) (job : Job) (m : LinkView) → IsLinkProgress access c → IsHanded c.link (Some job, m) → IsLinkProgress access (with_left job m c)
  gone c job m h (s, inl mark_is) = (
    record {
      same = s.access ∙ h.0.same;
      first = h.0.first;
      at_most_one = h.0.at_most_one;
      parts = h.0.parts
          ∙ (ap (λ (u : List ℕ). joined (h.0.first ++ frames_of (all_jobs c)) ++ u) (sym s.unread)
          ∙ ap (λ (fs : List (List ℕ)). joined (h.0.first ++ fs) ++ m.unread) (sym frames));
      each = subst (λ (fs : List (List ℕ)). AllByRecursion IsFrame (h.0.first ++ fs)) (sym frames) h.0.each;
      left = all_append (IsLinkJob access h.0.first) c.left (job ∷ []) h.0.left (subst (IsLinkJob access h.0.first) (sym mark_is.0) refl, tt);
      waiting = subst (λ (js : List Job). AllByRecursion (IsWaitingJob access h.0.first) js) (sym mark_is.1) h.0.waiting;
      none_yet = λ over stage. ap (λ (fs : List (List ℕ)). h.0.first ++ fs) frames ∙ h.0.none_yet (sym s.over ∙ over) (sym s.stage ∙ stage);
      names = λ handset e. h.0.names handset (sym s.handset ∙ e);
    },
    λ over stage frame b. h.1 (sym s.over ∙ over) (sym s.stage ∙ stage) frame (subst (λ (u : List ℕ). BeginsWithFrame u frame) s.unread b),
  ) where
    frames : frames_of (all_jobs (with_left job m c)) ≡ frames_of (all_jobs c)
    frames =
        frames_append (c.left ++ job ∷ []) m.outbox.jobs
        ∙ (ap (λ (fs : List (List ℕ)). fs ++ frames_of m.outbox.jobs) (frames_append c.left (job ∷ []))
        ∙ (ap (λ (j : Job). (frames_of c.left ++ frames_of (j ∷ [])) ++ frames_of m.outbox.jobs) mark_is.0
        ∙ (ap (λ (fs : List (List ℕ)). fs ++ frames_of m.outbox.jobs) (append-nil (frames_of c.left))
        ∙ (ap (λ (js : List Job). frames_of c.left ++ frames_of js) mark_is.1 ∙ sym (frames_append c.left c.link.outbox.jobs)))))
  gone c job m h (s, inr next) = (
    record {
      same = s.access ∙ h.0.same;
      first = h.0.first;
      at_most_one = h.0.at_most_one;
      parts = h.0.parts
          ∙ (ap (λ (u : List ℕ). joined (h.0.first ++ frames_of (all_jobs c)) ++ u) (sym s.unread)
          ∙ ap (λ (js : List Job). joined (h.0.first ++ frames_of js) ++ m.unread) (sym jobs));
      each = subst (λ (js : List Job). AllByRecursion IsFrame (h.0.first ++ frames_of js)) (sym jobs) h.0.each;
      left = all_append (IsLinkJob access h.0.first) c.left (job ∷ []) h.0.left (waiting_left h.0.first job waits.0, tt);
      waiting = waits.1;
      none_yet = λ over stage. ap (λ (js : List Job). h.0.first ++ frames_of js) jobs ∙ h.0.none_yet (sym s.over ∙ over) (sym s.stage ∙ stage);
      names = λ handset e. h.0.names handset (sym s.handset ∙ e);
    },
    λ over stage frame b. h.1 (sym s.over ∙ over) (sym s.stage ∙ stage) frame (subst (λ (u : List ℕ). BeginsWithFrame u frame) s.unread b),
  ) where
    jobs : all_jobs (with_left job m c) ≡ all_jobs c
    jobs = append_assoc c.left (job ∷ []) m.outbox.jobs ∙ ap (λ (js : List Job). c.left ++ js) (sym next)

    waits : AllByRecursion (IsWaitingJob access h.0.first) (job ∷ m.outbox.jobs)
    waits = subst (λ (js : List Job). AllByRecursion (IsWaitingJob access h.0.first) js) next h.0.waiting

  put_progress : (c : LinkProgress) (o : Option Job × LinkView) → IsLinkProgress access c → IsHanded c.link o → IsLinkProgress access (put_by o c)
  put_progress c (None, m) h s = still_progress c m h (same_still c.link m s.0 s.1)
  put_progress c (Some job, m) h s = gone c job m h s

  -- a job that is put again leaves all as it was
  again_progress : (c : LinkProgress) (job : Job) (m : LinkView) → IsLinkProgress access c → IsSameLink c.link m → c.link.outbox.jobs ≡ m.outbox.jobs → IsLinkProgress access (with_link m c)
  again_progress c job m h s e = still_progress c m h (same_still c.link m s (sym e))

  same_before : (l m : LinkView) (before : ℕ) (is_marked : Bool) (outbox : OutboxView) → IsSameLink l m → IsSameLink l (record m { before_mark = before; is_marked = is_marked; outbox = outbox })
  same_before l m before is_marked outbox s = record { access = s.access; unread = s.unread; over = s.over; stage = s.stage; handset = s.handset }

  back_progress : (c : LinkProgress) (job : Job) (m : LinkView) → IsLinkProgress access c → IsHanded c.link (Some job, m) → IsLinkProgress access (taken_back job (handed_back job m) c)
  back_progress c (Frame octets) m h s = gone c (Frame octets) m h s
  back_progress c (Query account pdu) m h (s, inl e) =
      still_progress c (record m { is_marked = false }) h (same_still c.link (record m { is_marked = false }) (record { access = s.access; unread = s.unread; over = s.over; stage = s.stage; handset = s.handset }) e.1)
  back_progress c (Query account pdu) m h (s, inr e) =
      let no : AllByRecursion (IsWaitingJob access h.0.first) (Query account pdu ∷ m.outbox.jobs) = subst (λ (js : List Job). AllByRecursion (IsWaitingJob access h.0.first) js) e h.0.waiting in
      absurd no.0
  back_progress c (LinkUp handset) m h (s, inl e) = let no : LinkUp handset ≡ mark = e.0 in absurd cc
  back_progress c (LinkUp handset) m h (s, inr e) =
      let n = record m { before_mark = 7; outbox = with_next (LinkUp handset) m.outbox } in
      again_progress c (LinkUp handset) n h (record { access = s.access; unread = s.unread; over = s.over; stage = s.stage; handset = s.handset }) e
  back_progress c (Bound account receives) m h (s, inl e) = let no : Bound account receives ≡ mark = e.0 in absurd cc
  back_progress c (Bound account receives) m h (s, inr e) =
      again_progress c (Bound account receives) (record m { before_mark = 7; outbox = with_next (Bound account receives) m.outbox }) h (record { access = s.access; unread = s.unread; over = s.over; stage = s.stage; handset = s.handset }) e
  back_progress c Unbound m h (s, inl e) = let no : Unbound ≡ mark = e.0 in absurd cc
  back_progress c Unbound m h (s, inr e) =
      again_progress c Unbound (record m { before_mark = 7; outbox = with_next Unbound m.outbox }) h (record { access = s.access; unread = s.unread; over = s.over; stage = s.stage; handset = s.handset }) e
  back_progress c (Submit account pdu) m h (s, inl e) = let no : Submit account pdu ≡ mark = e.0 in absurd cc
  back_progress c (Submit account pdu) m h (s, inr e) =
      again_progress c (Submit account pdu) (record m { before_mark = 7; outbox = with_next (Submit account pdu) m.outbox }) h (record { access = s.access; unread = s.unread; over = s.over; stage = s.stage; handset = s.handset }) e
  back_progress c (Cancel account pdu) m h (s, inl e) = let no : Cancel account pdu ≡ mark = e.0 in absurd cc
  back_progress c (Cancel account pdu) m h (s, inr e) =
      again_progress c (Cancel account pdu) (record m { before_mark = 7; outbox = with_next (Cancel account pdu) m.outbox }) h (record { access = s.access; unread = s.unread; over = s.over; stage = s.stage; handset = s.handset }) e
  back_progress c (DeliverAnswered id is_accepted) m h (s, inl e) = let no : DeliverAnswered id is_accepted ≡ mark = e.0 in absurd cc
  back_progress c (DeliverAnswered id is_accepted) m h (s, inr e) =
      again_progress c (DeliverAnswered id is_accepted) (record m { before_mark = 7; outbox = with_next (DeliverAnswered id is_accepted) m.outbox }) h (record { access = s.access; unread = s.unread; over = s.over; stage = s.stage; handset = s.handset }) e
  back_progress c LinkDown m h (s, inl e) = let no : LinkDown ≡ mark = e.0 in absurd cc
  back_progress c LinkDown m h (s, inr e) =
      again_progress c LinkDown (record m { before_mark = 7; outbox = with_next LinkDown m.outbox }) h (record { access = s.access; unread = s.unread; over = s.over; stage = s.stage; handset = s.handset }) e

  put_back_progress : (c : LinkProgress) (o : Option Job × LinkView) → IsLinkProgress access c → IsHanded c.link o → IsLinkProgress access (put_back_by o c)
  put_back_progress c (None, m) h s = still_progress c m h (same_still c.link m s.0 s.1)
  put_back_progress c (Some job, m) h s = back_progress c job m h s

  -- ---- any calls

  octets_less : (count : ℕ) (w : OutboxView) (b : Bool) → leb count (length w.octets) ≡ b → (without_octets count w).jobs ≡ w.jobs
  octets_less count w true e = rw e refl
  octets_less count w false e = rw e refl

  ended_still : (l : LinkView) → IsStill l (ended l)
  ended_still l = over_still l (ended l) refl refl refl refl (λ handset e. let no : None ≡ Some handset = e in absurd cc)

  one_step : (found : (o f : List ℕ) → front_of o ≡ Ok (Some f) → BeginsWithFrame o f) (call : LinkCall) (c d : LinkProgress) → IsLinkProgress access c → LinkStep call c d → IsLinkProgress access d
  one_step found (At now) c d h s = subst (IsLinkProgress access) (sym s) (still_progress c (at_time now c.link) h (time_still now c.link))
  one_step found (Take octets) c d h s =
      subst (IsLinkProgress access) (sym s.2)
      (reads_on found (record { link = with_unread octets c.link; arrived = c.arrived ++ octets; left = c.left }) s.0 (with_unread_cut c octets h.0) s.1)
  one_step found (Hear reply) c d h s = subst (IsLinkProgress access) (sym s.2) (hears found reply c s.0 h s.1)
  one_step found GiveUp c d h s = subst (IsLinkProgress access) (sym s) (still_progress c (sending congestion c.link) h (sent_still (framed congestion) c.link))
  one_step found (Send count) c d h s =
      let m = sent_off count c.link in
      subst (IsLinkProgress access) (sym s)
      (still_progress c m h
      (same_still c.link m (record { access = refl; unread = refl; over = refl; stage = refl; handset = refl })
      (octets_less count c.link.outbox (leb count (length c.link.outbox.octets)) refl)))
  one_step found Put c d h s = subst (IsLinkProgress access) (sym s) (put_progress c (handed_out c.link) h (handed_is c.link))
  one_step found PutBack c d h s = subst (IsLinkProgress access) (sym s) (put_back_progress c (handed_out c.link) h (handed_is c.link))
  one_step found Close c d h s = subst (IsLinkProgress access) (sym s) (still_progress c (ended c.link) h (ended_still c.link))
  one_step found Tell c d h s = subst (IsLinkProgress access) (sym s) (still_progress c (next_note c.link).1 h (told_still c.link.notes c.link))

  pub run_holds : (found : (o f : List ℕ) → front_of o ≡ Ok (Some f) → BeginsWithFrame o f) (calls : List LinkCall) (c d : LinkProgress) → IsLinkProgress access c → LinkRun c calls d → IsLinkProgress access d
  run_holds found [] c d h r = subst (IsLinkProgress access) (sym r) h
  run_holds found (call ∷ calls) c d h r = run_holds found calls r.0 d (one_step found call c r.0 h r.1) r.2

  pub begins : IsLinkProgress access (started access)
  begins = (
    record {
      same = refl;
      first = [];
      at_most_one = omega arith;
      parts = refl;
      each = tt;
      left = tt;
      waiting = tt;
      none_yet = λ over stage. refl;
      names = λ handset e. let no : None ≡ Some handset = e in absurd cc;
    },
    λ over stage frame b. let no : Unnamed ≡ Up = stage in absurd cc,
  )
