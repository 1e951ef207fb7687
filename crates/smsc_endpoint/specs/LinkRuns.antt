-- A link at a seat over any calls.
use Rattle.std.specs.Prelude.{◌≡◌, ℕ, ◌≤◌, List, [], ◌∷◌, ◌++◌, length, Option, Some, None, Bool, true, false, if◌then◌else◌}
use Rattle.std.specs.List.{AllByRecursion}
use Rattle.sms_link.specs.framing.Framing.{BeginsWithFrame, IsFrame, framed, joined}
use Rattle.sms_centre_spec.specs.declared.jobs.job.Job.{Job}
use Rattle.sms_centre_spec.specs.declared.jobs.job.Job.TheVariants.{Bound, Unbound, Submit, Query, Cancel, DeliverAnswered, LinkUp, LinkDown, Frame}
use Rattle.sms_centre_spec.specs.declared.jobs.reply.Reply.{Reply}
use Rattle.sms_centre_spec.specs.jobs.Requests.{is_request}
use Rattle.smsc_endpoint.specs.declared.link_access.LinkAccess.{LinkAccess}
use Rattle.smsc_endpoint.specs.declared.link_access.LinkSecret.{LinkSecret}
use Rattle.smsc_endpoint.specs.declared.link_stage.Stage.TheVariants.{Unnamed, Up}
use Rattle.smsc_endpoint.specs.FirstFrame.{given_by, is_number, is_secret_of}
use Rattle.smsc_endpoint.specs.LinkView.{LinkView, opened}
use Rattle.smsc_endpoint.specs.LinkCalls.{ReadsOn, Hears, at_time, congestion, ended, handed_back, handed_out, mark, next_note, sending, sent_off, with_unread}

pub data LinkCall : Type 0 where
  At : ℕ → LinkCall
  -- these octets arrived
  Take : List ℕ → LinkCall
  Hear : Reply → LinkCall
  GiveUp : LinkCall
  -- so many octets were sent
  Send : ℕ → LinkCall
  -- a job is handed out, and the seat puts it
  Put : LinkCall
  -- a job is handed out, and handed back since there is no room for it
  PutBack : LinkCall
  Close : LinkCall
  -- it says what happened
  Tell : LinkCall

-- a link, all octets that arrived, and all jobs that it handed out and did not take back
pub record LinkProgress : Type 0 where
  pub link : LinkView
  pub arrived : List ℕ
  pub left : List Job

abbrev pub started : LinkAccess → LinkProgress
started access = record { link = opened access; arrived = []; left = [] }

abbrev pub with_link : LinkView → LinkProgress → LinkProgress
with_link l c = record c { link = l }

abbrev pub with_left : Job → LinkView → LinkProgress → LinkProgress
with_left job l c = record c { link = l; left = c.left ++ job ∷ [] }

abbrev pub put_by : Option Job × LinkView → LinkProgress → LinkProgress
put_by (None, l) c = with_link l c
put_by (Some job, l) c = with_left job l c

-- what is not handed out again is lost
abbrev pub taken_back : Job → Bool × LinkView → LinkProgress → LinkProgress
taken_back job (true, l) c = with_link l c
taken_back job (false, l) c = with_left job l c

abbrev pub put_back_by : Option Job × LinkView → LinkProgress → LinkProgress
put_back_by (None, l) c = with_link l c
put_back_by (Some job, l) c = taken_back job (handed_back job l) c

-- one call
abbrev pub LinkStep : LinkCall → LinkProgress → LinkProgress → Type 0
LinkStep (At now) c d = d ≡ with_link (at_time now c.link) c
LinkStep (Take octets) c d = (l : LinkView) × ReadsOn (with_unread octets c.link) l × (d ≡ record c { link = l; arrived = c.arrived ++ octets })
LinkStep (Hear reply) c d = (l : LinkView) × Hears reply c.link l × (d ≡ with_link l c)
LinkStep GiveUp c d = d ≡ with_link (sending congestion c.link) c
LinkStep (Send count) c d = d ≡ with_link (sent_off count c.link) c
LinkStep Put c d = d ≡ put_by (handed_out c.link) c
LinkStep PutBack c d = d ≡ put_back_by (handed_out c.link) c
LinkStep Close c d = d ≡ with_link (ended c.link) c
LinkStep Tell c d = d ≡ with_link (next_note c.link).1 c

-- calls one after the other
abbrev pub LinkRun : LinkProgress → List LinkCall → LinkProgress → Type 0
LinkRun c [] d = d ≡ c
LinkRun c (call ∷ calls) d = (e : LinkProgress) × LinkStep call c e × LinkRun e calls d

-- ---- what is claimed

-- all jobs of a link: those that it handed out, and those that wait
abbrev pub all_jobs : LinkProgress → List Job
all_jobs c = c.left ++ c.link.outbox.jobs

-- the frames among jobs
abbrev pub frames_of : List Job → List (List ℕ)
frames_of [] = []
frames_of (Frame octets ∷ jobs) = octets ∷ frames_of jobs
frames_of (Bound account receives ∷ jobs) = frames_of jobs
frames_of (Unbound ∷ jobs) = frames_of jobs
frames_of (Submit account pdu ∷ jobs) = frames_of jobs
frames_of (Query account pdu ∷ jobs) = frames_of jobs
frames_of (Cancel account pdu ∷ jobs) = frames_of jobs
frames_of (DeliverAnswered id is_accepted ∷ jobs) = frames_of jobs
frames_of (LinkUp handset ∷ jobs) = frames_of jobs
frames_of (LinkDown ∷ jobs) = frames_of jobs

-- there is a first frame, and it is given the link of the handset
abbrev pub IsGiven : LinkAccess → List (List ℕ) → List ℕ → Type 0
IsGiven access first handset = (frame : List ℕ) × (first ≡ frame ∷ []) × (given_by access frame ≡ Some handset)

-- A job that waits: the handset of the first frame is named, or a frame is passed up.
abbrev pub IsWaitingJob : LinkAccess → List (List ℕ) → Job → Type 0
IsWaitingJob access first (LinkUp handset) = IsGiven access first handset
IsWaitingJob access first (Frame octets) = Unit {0}
IsWaitingJob access first job = ⊥

-- a job that was handed out: one of those, or the one that asks nothing and has an answer
abbrev pub IsLinkJob : LinkAccess → List (List ℕ) → Job → Type 0
IsLinkJob access first (Query account pdu) = Query account pdu ≡ mark
IsLinkJob access first job = IsWaitingJob access first job

-- The octets that arrived are cut into frames by their lengths. The first is the one that names the handset, if it is there. Then
-- there are those of the jobs, in order and each once, and what is unread. No other job is handed out but the handset's name and
-- marks.
pub record IsCutUp (access : LinkAccess) (c : LinkProgress) : Type 0 where
  pub same : c.link.access ≡ access
  pub first : List (List ℕ)
  pub at_most_one : length first ≤ 1
  pub parts : c.arrived ≡ joined (first ++ frames_of (all_jobs c)) ++ c.link.unread
  pub each : AllByRecursion IsFrame (first ++ frames_of (all_jobs c))
  pub left : AllByRecursion (IsLinkJob access first) c.left
  pub waiting : AllByRecursion (IsWaitingJob access first) c.link.outbox.jobs
  pub none_yet : c.link.is_over ≡ false → c.link.stage ≡ Unnamed → first ++ frames_of (all_jobs c) ≡ []
  pub names : (handset : List ℕ) → c.link.handset ≡ Some handset → IsGiven access first handset

-- a link that is up has no whole frame unread
abbrev pub IsReadUp : LinkView → Type 0
IsReadUp l = l.is_over ≡ false → l.stage ≡ Up → (frame : List ℕ) → BeginsWithFrame l.unread frame → ⊥

abbrev pub IsLinkProgress : LinkAccess → LinkProgress → Type 0
IsLinkProgress access c = IsCutUp access c × IsReadUp c.link

-- ---- secrets

-- The octets begin with a frame that is the number, a space and the secret of the number.
pub record GaveSecret (secrets : List LinkSecret) (handset octets : List ℕ) : Type 0 where
  pub secret : List ℕ
  pub rest : List ℕ
  pub begins : octets ≡ framed (handset ++ 0x20 ∷ secret) ++ rest
  pub is_number : is_number handset ≡ true
  pub is_its : is_secret_of handset secret secrets ≡ true

-- the job names no handset whose secret was not given
abbrev pub IsBySecret : List LinkSecret → List ℕ → Job → Type 0
IsBySecret secrets octets (LinkUp handset) = GaveSecret secrets handset octets
IsBySecret secrets octets job = Unit {0}

-- A link is up, has a handset, and names one to the keeper, only by the secret that the first frame gave.
pub record HasGivenSecret (secrets : List LinkSecret) (c : LinkProgress) : Type 0 where
  pub up : c.link.stage ≡ Up → (handset : List ℕ) × (c.link.handset ≡ Some handset)
  pub handset : (handset : List ℕ) → c.link.handset ≡ Some handset → GaveSecret secrets handset c.arrived
  pub jobs : AllByRecursion (IsBySecret secrets c.arrived) (all_jobs c)

-- ---- the end

-- the jobs that are no marks
abbrev pub without_marks : List Job → List Job
without_marks [] = []
without_marks (job ∷ jobs) = if is_request job then without_marks jobs else job ∷ without_marks jobs

-- Nothing is added to the jobs that a link had at its end, and nothing is sent any more.
pub record IsAfterEnd (before c : LinkProgress) : Type 0 where
  pub jobs : without_marks (all_jobs c) ≡ without_marks (all_jobs before)
  pub octets : c.link.outbox.octets ≡ []
