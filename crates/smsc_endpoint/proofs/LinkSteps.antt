-- A link reads the frames of what arrived.
use Rattle.std.proofs.Common.{◌≡◌, ℕ, ◌+◌, ◌<◌, arith, length, length-append, List, [], ◌∷◌, ◌++◌, map, Option, Some, None, Result, Ok, Err, refl, sym, ap, ◌∙◌, append_assoc, append-nil}
use Rattle.std.specs.List.{AllByRecursion}
use Rattle.sms_link.specs.declared.framing.fault.FramingFault.{FramingFault}
use Rattle.sms_link.specs.framing.Framing.{IsFrame, BeginsWithFrame, framed, front_of, joined}
use Rattle.sms_centre_spec.specs.declared.jobs.job.Job.{Job}
use Rattle.sms_centre_spec.specs.declared.jobs.job.Job.TheVariants.{Frame}
use Rattle.smsc_loop.specs.declared.note.Counts.{Counts}
use Rattle.smsc_endpoint.specs.LinkView.{LinkView}
use Rattle.smsc_endpoint.specs.LinkCalls.{CutsFront, ReadsFrames, frames_counted, one_frame, over_by, with_frame, with_frames}

-- ---- one cut

pub record IsCut (l : LinkView) (frame : List ℕ) (m : LinkView) : Type 0 where
  pub rest : List ℕ
  pub is_front : front_of l.unread ≡ Ok (Some frame)
  pub parts : l.unread ≡ framed frame ++ rest
  pub behind : m ≡ record l { unread = rest }

abbrev of_frame : List ℕ → Result (Option (List ℕ)) FramingFault
of_frame frame = Ok (Some frame)

cut_at : (front : Result (Option (List ℕ)) FramingFault) (l m : LinkView) (octets : List ℕ) → CutsFront front l (Some octets) m
    → (front ≡ Ok (Some octets)) × ((rest : List ℕ) × (l.unread ≡ framed octets ++ rest) × (m ≡ record l { unread = rest }))
cut_at (Err fault) l m octets h = let no : Some octets ≡ None = h.0 in absurd cc
cut_at (Ok None) l m octets h = let no : Some octets ≡ None = h.0 in absurd cc
cut_at (Ok (Some frame)) l m octets h =
    let whole : Some octets ≡ Some frame = h.0 in
    let same : octets ≡ frame = cc in
    (ap of_frame (sym same), (h.1.0, h.1.1 ∙ ap (λ (o : List ℕ). framed o ++ h.1.0) (sym same), h.1.2))

pub cut_of : (l m : LinkView) (octets : List ℕ) → CutsFront (front_of l.unread) l (Some octets) m → IsCut l octets m
cut_of l m octets h =
    let cut = cut_at (front_of l.unread) l m octets h in
    record { rest = cut.1.0; is_front = cut.0; parts = cut.1.1; behind = cut.1.2 }

no_cut : (front : Result (Option (List ℕ)) FramingFault) (l m : LinkView) → CutsFront front l None m
    → (m ≡ over_by front l) × ((frame : List ℕ) → front ≡ Ok (Some frame) → ⊥)
no_cut (Err fault) l m h = (h.1, λ frame e. let no : Err fault ≡ Ok (Some frame) = e in absurd cc)
no_cut (Ok None) l m h = (h.1, λ frame e. let no : Ok None ≡ Ok (Some frame) = e in absurd cc)
no_cut (Ok (Some frame)) l m h = let no : None ≡ Some frame = h.0 in absurd cc

-- ---- frames so far

-- these frames were cut off, and each is a job
pub record AreRead (l : LinkView) (frames : List (List ℕ)) (m : LinkView) : Type 0 where
  pub parts : l.unread ≡ joined frames ++ m.unread
  pub each : AllByRecursion IsFrame frames
  pub jobs : m ≡ with_frames frames m.unread l

abbrev frame_jobs : List (List ℕ) → List Job
frame_jobs frames = map (λ frame. Frame frame) frames

joined_more : (frames : List (List ℕ)) (frame rest : List ℕ) → joined (frames ++ frame ∷ []) ++ rest ≡ joined frames ++ (framed frame ++ rest)
joined_more [] frame rest = ap (λ (o : List ℕ). o ++ rest) (append-nil (framed frame))
joined_more (first ∷ frames) frame rest =
    append_assoc (framed first) (joined (frames ++ frame ∷ [])) rest
    ∙ (ap (λ (o : List ℕ). framed first ++ o) (joined_more frames frame rest)
    ∙ sym (append_assoc (framed first) (joined frames) (framed frame ++ rest)))

each_more : (frames : List (List ℕ)) (frame : List ℕ) → AllByRecursion IsFrame frames → IsFrame frame → AllByRecursion IsFrame (frames ++ frame ∷ [])
each_more [] frame h g = (g, tt)
each_more (first ∷ frames) frame h g = (h.0, each_more frames frame h.1 g)

jobs_more : (frames : List (List ℕ)) (frame : List ℕ) → frame_jobs (frames ++ frame ∷ []) ≡ frame_jobs frames ++ Frame frame ∷ []
jobs_more [] frame = refl
jobs_more (first ∷ frames) frame = ap (λ (js : List Job). Frame first ∷ js) (jobs_more frames frame)

counted_more : (frames : List (List ℕ)) (frame : List ℕ) (counts : Counts) → frames_counted (frames ++ frame ∷ []) counts ≡ one_frame (frames_counted frames counts)
counted_more [] frame counts = refl
counted_more (first ∷ frames) frame counts = counted_more frames frame (one_frame counts)

abbrev with_jobs : LinkView → List ℕ → List Job → Counts → LinkView
with_jobs l rest jobs counts = record l { unread = rest; outbox = record l.outbox { jobs = jobs }; counts = counts }

pub none_read : (l : LinkView) → AreRead l [] l
none_read l = record {
  parts = refl;
  each = tt;
  jobs = ap (λ (js : List Job). with_jobs l l.unread js l.counts) (sym (append-nil l.outbox.jobs));
}

with_one : (l : LinkView) (frames : List (List ℕ)) (frame before rest : List ℕ)
    → with_frame frame (record (with_frames frames before l) { unread = rest }) ≡ with_frames (frames ++ frame ∷ []) rest l
with_one l frames frame before rest =
    ap (λ (js : List Job). with_jobs l rest js (one_frame (frames_counted frames l.counts)))
    (append_assoc l.outbox.jobs (frame_jobs frames) (Frame frame ∷ [])
    ∙ ap (λ (js : List Job). l.outbox.jobs ++ js) (sym (jobs_more frames frame)))
    ∙ ap (with_jobs l rest (l.outbox.jobs ++ frame_jobs (frames ++ frame ∷ []))) (sym (counted_more frames frame l.counts))

pub one_read : (l m n o : LinkView) (frames : List (List ℕ)) (frame : List ℕ) → AreRead l frames m → IsCut m frame n → IsFrame frame
    → o ≡ with_frame frame n → AreRead l (frames ++ frame ∷ []) o
one_read l m n o frames frame h cut is put =
    let whole : o ≡ with_frames (frames ++ frame ∷ []) cut.rest l =
    put
    ∙ (ap (with_frame frame) (cut.behind ∙ ap (λ (k : LinkView). record k { unread = cut.rest }) h.jobs)
    ∙ with_one l frames frame m.unread cut.rest) in
    let left : o.unread ≡ cut.rest = ap (λ (k : LinkView). k.unread) whole in
    record {
      parts = h.parts
          ∙ (ap (λ (r : List ℕ). joined frames ++ r) cut.parts
          ∙ (sym (joined_more frames frame cut.rest)
          ∙ ap (λ (r : List ℕ). joined (frames ++ frame ∷ []) ++ r) (sym left)));
      each = each_more frames frame h.each is;
      jobs = whole ∙ ap (λ (r : List ℕ). with_frames (frames ++ frame ∷ []) r l) (sym left);
    }

-- a frame at the front is a frame
pub frame_is : (octets frame : List ℕ) → ((o f : List ℕ) → front_of o ≡ Ok (Some f) → BeginsWithFrame o f) → front_of octets ≡ Ok (Some frame) → IsFrame frame
frame_is octets frame found h = (found octets frame h).0

pub shorter : (m n o : LinkView) (frame : List ℕ) → IsCut m frame n → o ≡ with_frame frame n → length o.unread < length m.unread
shorter m n o frame cut put =
    let left : o.unread ≡ cut.rest = ap (λ (k : LinkView). k.unread) put ∙ ap (λ (k : LinkView). k.unread) cut.behind in
    let before : length m.unread ≡ length (framed frame) + length cut.rest = ap (λ (r : List ℕ). length r) cut.parts ∙ length-append (framed frame) cut.rest in
    omega (arith, before, ap (λ (r : List ℕ). length r) left)

pub all_read : (l m n : LinkView) (frames : List (List ℕ)) → ((o f : List ℕ) → BeginsWithFrame o f → front_of o ≡ Ok (Some f))
    → AreRead l frames m → CutsFront (front_of m.unread) m None n → ReadsFrames l n
all_read l m n frames only h cut =
    let no = no_cut (front_of m.unread) m n cut in (
      frames,
      m.unread,
      record { parts = h.parts; each = h.each; no_more = λ frame b. no.1 frame (only m.unread frame b) },
      no.0 ∙ ap (over_by (front_of m.unread)) h.jobs,
    )
