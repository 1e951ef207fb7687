-- The history of a run falls into stretches, one for each connection of a seat.
use Rattle.std.proofs.Common.{◌≡◌, ◌==◌, ◌+◌, ◌⊎◌, ◌∙◌, inl, inr, ℕ, zero, suc, Bool, true, false, true≢false, List, [], ◌∷◌, ◌++◌, Option, Some, None, if◌then◌else◌, refl, sym, ap, subst, append_assoc, append-nil, zero-add, arith}
use Rattle.std.specs.Prelude.{⊤}
use Rattle.std.proofs.lemmas.Bool.{eqb-true}
use Rattle.smpp_pdu.specs.declared.status.CommandStatus.{CommandStatus}
use Rattle.smpp_pdu.specs.declared.status.CommandStatus.TheVariants.{ESME_RINVMSGID, ESME_RSYSERR}
use Rattle.sms_centre_spec.specs.declared.answer.CentreAnswer.{CentreAnswer}
use Rattle.sms_centre_spec.specs.declared.answer.CentreAnswer.TheVariants.{Submitted, Queried, Cancelled, Refused}
use Rattle.sms_centre_spec.specs.declared.jobs.job.Job.{Job}
use Rattle.sms_centre_spec.specs.declared.jobs.reply.Reply.{Reply}
use Rattle.sms_centre_spec.specs.declared.jobs.reply.Reply.TheVariants.{Answer, Receipt, Frame, Taken}
use Rattle.sms_centre_spec.specs.jobs.Requests.{is_request}
use Rattle.sms_seats.specs.Jobs.{jobs_among}
use Rattle.sms_keeper.specs.declared.machine.Fate.{Fate}
use Rattle.sms_keeper.specs.declared.machine.Item.{Item}
use Rattle.sms_keeper.specs.declared.machine.Stimulus.{Stimulus}
use Rattle.sms_keeper.specs.declared.machine.Stimulus.TheVariants.{Job as JobOf, Tick, Own}
use Rattle.sms_keeper.specs.declared.outs.Out.{Out}
use Rattle.sms_keeper.specs.History.{IsHistory, answers_in as replies_in, asked, asked_by, for_seat, jobs_of, outs_to}
use Rattle.smsc_loop.specs.Calls.{Call, jobs_put, replies_taken}
use Rattle.smsc_loop.specs.Owing.{IsCleared, answers_in, asks_nothing, ends_answered, ends_asked, ends_vacant, is_answer, is_asking_nothing, is_vacancy, requests_in}
use Rattle.smsc_loop.proofs.Counting.{ends_with, vacant_with}
use Rattle.smsc_service.specs.Replies.{vacancy}
use Rattle.smsc_service.specs.Seats.{is_vacant}
use Rattle.smsc_service.specs.Serving.{Serving, after, gives}
use Rattle.smsc_server.specs.serving.Connections.{Admitted, Connection, calls_of}
use Rattle.smsc_server.specs.serving.Sittings.{InTurn, jobs_by, replies_to}
use Rattle.smsc_server.specs.serving.Stretches.{HaveStretches, HaveVacated, IsLastStretch, IsStretch}
use Rattle.smsc_server.proofs.serving.OneAnswer.{answers_join, nothing_after, nothing_given, one_given, one_if, requests_of}
use Rattle.smsc_server.proofs.serving.Sat.{jobs_join}

-- ---- what counts in two parts

abbrev counted : Bool → ℕ → ℕ
counted b n = if b then suc n else n

counted_plus : (b : Bool) (m n : ℕ) → counted b (m + n) ≡ counted b m + n
counted_plus true m n = omega arith
counted_plus false m n = refl

requests_join : (a b : List (Option Job)) → requests_in (a ++ b) ≡ requests_in a + requests_in b
requests_join [] b = sym (zero-add (requests_in b))
requests_join (None ∷ a) b = requests_join a b
requests_join (Some job ∷ a) b = ap (counted (is_request job)) (requests_join a b) ∙ counted_plus (is_request job) (requests_in a) (requests_in b)

ends_behind : (a b : List Reply) → ends_answered (a ++ b) ≡ true → ends_answered b ≡ true
ends_behind [] b h = h
ends_behind (x ∷ []) [] h = refl
ends_behind (x ∷ []) (y ∷ b) h = h
ends_behind (x ∷ y ∷ a) b h = ends_behind (y ∷ a) b h

vacant_behind : (a b : List Reply) → ends_vacant (a ++ b) ≡ true → ends_vacant b ≡ true
vacant_behind [] b h = h
vacant_behind (x ∷ []) [] h = refl
vacant_behind (x ∷ []) (y ∷ b) h = h
vacant_behind (x ∷ y ∷ a) b h = vacant_behind (y ∷ a) b h

asked_behind : (a b : List (Option Job)) → ends_asked (a ++ b) ≡ true → ends_asked b ≡ true
asked_behind [] b h = h
asked_behind (x ∷ []) [] h = refl
asked_behind (x ∷ []) (y ∷ b) h = h
asked_behind (x ∷ y ∷ a) b h = asked_behind (y ∷ a) b h

-- a connection behind a seat that was cleared, which leaves it cleared
cleared_behind : (put more : List (Option Job)) (taken others : List Reply) → IsCleared put taken → IsCleared (put ++ more) (taken ++ others) → IsCleared more others
cleared_behind put more taken others h k = (
  (let a = requests_join put more in let b = answers_join taken others in let c = h.0 in let d = k.0 in omega arith),
  asked_behind put more k.1,
  ends_behind taken others k.2,
  vacant_behind taken others k.3,
)

-- ---- two beginnings of one list that end with an answer and have as many answers are the same

no_more : (l : List Reply) → ends_answered l ≡ true → answers_in l ≡ 0 → l ≡ []
no_more [] h e = refl
no_more (Answer answer ∷ l) h e = absurd (omega (arith, e))
no_more (Receipt end ∷ []) h e = absurd (true≢false (sym h))
no_more (Frame octets ∷ []) h e = absurd (true≢false (sym h))
no_more (Taken ∷ []) h e = absurd (true≢false (sym h))
no_more (Receipt end ∷ next ∷ l) h e = absurd (none_left (no_more (next ∷ l) h e))
  where
    none_left : next ∷ l ≡ [] → ⊥
    none_left f = cc
no_more (Frame octets ∷ next ∷ l) h e = absurd (none_left (no_more (next ∷ l) h e))
  where
    none_left : next ∷ l ≡ [] → ⊥
    none_left f = cc
no_more (Taken ∷ next ∷ l) h e = absurd (none_left (no_more (next ∷ l) h e))
  where
    none_left : next ∷ l ≡ [] → ⊥
    none_left f = cc

ends_next : (x : Reply) (l : List Reply) → ends_answered (x ∷ l) ≡ true → ends_answered l ≡ true
ends_next x [] h = refl
ends_next x (y ∷ l) h = h

abbrev counts : Reply → ℕ
counts reply = answers_in (reply ∷ [])

counts_first : (x : Reply) (l : List Reply) → answers_in (x ∷ l) ≡ counts x + answers_in l
counts_first x l = answers_join (x ∷ []) l

first_of : Reply → List Reply → Reply
first_of d [] = d
first_of d (x ∷ l) = x

rest_of : List Reply → List Reply
rest_of [] = []
rest_of (x ∷ l) = l

pub same_beginning : (a b x y : List Reply) → a ++ x ≡ b ++ y → ends_answered a ≡ true → ends_answered b ≡ true → answers_in a ≡ answers_in b → a ≡ b
unfolding first_of rest_of
same_beginning [] b x y e h k c = sym (no_more b k (sym c))
same_beginning (s ∷ a) [] x y e h k c = no_more (s ∷ a) h c
same_beginning (s ∷ a) (t ∷ b) x y e h k c =
    let first : s ≡ t = ap (first_of s) e in
    let rest : a ++ x ≡ b ++ y = ap rest_of e in
    let same : answers_in a ≡ answers_in b =
    (let f = counts_first s a in let g = counts_first t b in let d : counts s ≡ counts t = ap counts first in omega arith) in
    ap (λ (r : Reply). r ∷ a) first ∙ ap (λ (l : List Reply). t ∷ l) (same_beginning a b x y rest (ends_next s a h) (ends_next t b k) same)

cut_off : (a x y : List Reply) → a ++ x ≡ a ++ y → x ≡ y
unfolding rest_of
cut_off [] x y e = e
cut_off (r ∷ a) x y e = cut_off a x y (ap rest_of e)

-- ---- the jobs of a seat in a part of the history

for_join : (n : ℕ) (a b : List (ℕ × Job)) → for_seat n (a ++ b) ≡ for_seat n a ++ for_seat n b
for_join n [] b = refl
for_join n (p ∷ a) b = ap (λ (l : List Job). if n == p.0 then p.1 ∷ l else l) (for_join n a b) ∙ behind (n == p.0) p.1 (for_seat n a) (for_seat n b)
  where
    behind : (at : Bool) (x : Job) (l m : List Job) → (if at then x ∷ (l ++ m) else l ++ m) ≡ (if at then x ∷ l else l) ++ m
    behind true x l m = refl
    behind false x l m = refl

-- what an item is of a seat
abbrev own_jobs : ℕ → Stimulus Job → List Job
own_jobs n stimulus = for_seat n (asked_by stimulus)

pub jobs_first : (n : ℕ) (e : Item Job Reply) (es : List (Item Job Reply)) → jobs_of n (e ∷ es) ≡ own_jobs n e.stimulus ++ jobs_of n es
jobs_first n e es = for_join n (asked_by e.stimulus) (asked es)

abbrev requests_among : List Job → ℕ
requests_among [] = 0
requests_among (job ∷ jobs) = counted (is_request job) (requests_among jobs)

requests_so : (put : List (Option Job)) → requests_in put ≡ requests_among (jobs_among put)
requests_so [] = refl
requests_so (None ∷ put) = requests_so put
requests_so (Some job ∷ put) = ap (counted (is_request job)) (requests_so put)

-- what was put ends with a job that asks nothing
record EndsAsked (jobs : List Job) : Type 0 where
  pub before : List Job
  pub last : Job
  pub jobs_so : jobs ≡ before ++ last ∷ []
  pub asks : asks_nothing last ≡ true

ends_among : (x : Option Job) (put : List (Option Job)) → ends_asked (x ∷ put) ≡ true → EndsAsked (jobs_among (x ∷ put))
ends_among None [] h = absurd (true≢false (sym h))
ends_among (Some job) [] h = record { before = []; last = job; jobs_so = refl; asks = h }
ends_among None (y ∷ put) h = ends_among y put h
ends_among (Some job) (y ∷ put) h =
    let r = ends_among y put h in record { before = job ∷ r.before; last = r.last; jobs_so = ap (λ (l : List Job). job ∷ l) r.jobs_so; asks = r.asks }

-- ---- the history is cut behind a job of the seat that asks nothing

own_counts : (n : ℕ) (stimulus : Stimulus Job) (jobs : List Job) → requests_among (own_jobs n stimulus ++ jobs) ≡ requests_of n stimulus + requests_among jobs
own_counts n (JobOf seat job) jobs = by_seat (n == seat)
  where
    by_kind : (b : Bool) (m : ℕ) → counted b m ≡ (if b then 1 else 0) + m
    by_kind true m = omega arith
    by_kind false m = sym (zero-add m)

    by_seat : (at : Bool) → requests_among ((if at then job ∷ [] else []) ++ jobs) ≡ one_if at (is_request job) + requests_among jobs
    by_seat true = by_kind (is_request job) (requests_among jobs)
    by_seat false = sym (zero-add (requests_among jobs))
own_counts n (Tick now) jobs = sym (zero-add (requests_among jobs))
own_counts n (Own errand) jobs = sym (zero-add (requests_among jobs))

record Cut (n : ℕ) (s : Serving) (items : List (Item Job Reply)) (t : Serving) (jobs : List Job) : Type 0 where
  pub own : List (Item Job Reply)
  pub later : List (Item Job Reply)
  pub between : Serving
  pub split : items ≡ own ++ later
  pub first : IsHistory gives after s own between
  pub next : IsHistory gives after between later t
  pub jobs_so : jobs_of n own ≡ jobs
  pub counts_so : answers_in (replies_in n own) ≡ requests_among jobs
  pub before : List Reply
  pub answer : CentreAnswer
  pub ends : replies_in n own ≡ before ++ Answer answer ∷ []
  -- its answer says whether anybody is at the seat
  pub vacant : answer ≡ Refused ESME_RINVMSGID → is_vacant n between.seats ≡ true

module _ (n : ℕ) (s : Serving) (e : Item Job Reply) (es : List (Item Job Reply)) (t : Serving) (outs : e.outs ≡ gives s e.stimulus e.fate) where
  given_count : answers_in (outs_to n e.outs) ≡ requests_of n e.stimulus
  given_count = ap (λ (l : List (Out Reply)). answers_in (outs_to n l)) outs ∙ one_given s n e.stimulus e.fate

  cut_longer : (jobs more : List Job) → more ≡ own_jobs n e.stimulus ++ jobs → Cut n (after s e.stimulus e.fate) es t jobs → Cut n s (e ∷ es) t more
  cut_longer jobs more is c = record {
    own = e ∷ c.own;
    later = c.later;
    between = c.between;
    split = ap (λ (l : List (Item Job Reply)). e ∷ l) c.split;
    first = (outs, c.first);
    next = c.next;
    jobs_so = jobs_first n e c.own ∙ (ap (λ (l : List Job). own_jobs n e.stimulus ++ l) c.jobs_so ∙ sym is);
    counts_so = answers_join (outs_to n e.outs) (replies_in n c.own)
        ∙ (ap (λ (m : ℕ). m + answers_in (replies_in n c.own)) given_count
        ∙ (ap (λ (m : ℕ). requests_of n e.stimulus + m) c.counts_so
        ∙ (sym (own_counts n e.stimulus jobs) ∙ ap requests_among (sym is))));
    before = outs_to n e.outs ++ c.before;
    answer = c.answer;
    ends = ap (λ (l : List Reply). outs_to n e.outs ++ l) c.ends ∙ sym (append_assoc (outs_to n e.outs) c.before (Answer c.answer ∷ []));
    vacant = c.vacant;
  }

  -- the item itself is that job
  cut_here : (job : Job) (answer : CentreAnswer) → own_jobs n e.stimulus ≡ job ∷ [] → outs_to n e.outs ≡ Answer answer ∷ []
      → (answer ≡ Refused ESME_RINVMSGID → is_vacant n (after s e.stimulus e.fate).seats ≡ true)
      → IsHistory gives after (after s e.stimulus e.fate) es t → Cut n s (e ∷ es) t (job ∷ [])
  cut_here job answer is given empty h = record {
    own = e ∷ [];
    later = es;
    between = after s e.stimulus e.fate;
    split = refl;
    first = (outs, refl);
    next = h;
    jobs_so = jobs_first n e [] ∙ (append-nil (own_jobs n e.stimulus) ∙ is);
    counts_so = ap answers_in (append-nil (outs_to n e.outs))
        ∙ (given_count ∙ (sym (plain (requests_of n e.stimulus)) ∙ (sym (own_counts n e.stimulus []) ∙ ap requests_among (append-nil (own_jobs n e.stimulus) ∙ is))));
    before = [];
    answer = answer;
    ends = append-nil (outs_to n e.outs) ∙ given;
    vacant = empty;
  }
    where
      plain : (m : ℕ) → m + 0 ≡ m
      plain m = omega arith

job_or : Job → List Job → Job
job_or d [] = d
job_or d (x ∷ l) = x

jobs_rest : List Job → List Job
jobs_rest [] = []
jobs_rest (x ∷ l) = l

first_job : (a b : Job) (l m : List Job) → a ∷ l ≡ b ∷ m → a ≡ b
unfolding job_or
first_job a b l m e = ap (job_or a) e

other_jobs : (a b : Job) (l m : List Job) → a ∷ l ≡ b ∷ m → l ≡ m
unfolding jobs_rest
other_jobs a b l m e = ap jobs_rest e

none_is : (before : List Job) (last : Job) (rest : List Job) → [] ≡ (before ++ last ∷ []) ++ rest → ⊥
none_is [] last rest e = cc
none_is (x ∷ before) last rest e = cc

-- an item of another seat, or of a job of this one
abbrev IsKind : ℕ → Stimulus Job → Type 0
IsKind n stimulus = (own_jobs n stimulus ≡ []) ⊎ ((job : Job) × (stimulus ≡ JobOf n job) × (own_jobs n stimulus ≡ job ∷ []))

kind : (n : ℕ) (stimulus : Stimulus Job) → IsKind n stimulus
kind n (Tick now) = inl refl
kind n (Own errand) = inl refl
kind n (JobOf seat job) = by_seat (n == seat) refl
  where
    by_seat : (b : Bool) → (n == seat) ≡ b → IsKind n (JobOf seat job)
    by_seat true q = inr (job, ap (λ (m : ℕ). JobOf m job) (sym (eqb-true n seat q)), ap (λ (b : Bool). if b then job ∷ [] else []) q)
    by_seat false q = inl (ap (λ (b : Bool). if b then job ∷ [] else []) q)

said_vacant : (b : Bool) → Refused (if b then ESME_RINVMSGID else ESME_RSYSERR) ≡ Refused ESME_RINVMSGID → b ≡ true
said_vacant true e = refl
said_vacant false e = absurd cc

-- the history can be cut behind each such job
abbrev Cuts : ℕ → Serving → List (Item Job Reply) → Serving → Type 0
Cuts n s items t =
    (before : List Job) (last : Job) (rest : List Job) → asks_nothing last ≡ true → jobs_of n items ≡ (before ++ last ∷ []) ++ rest
    → Cut n s items t (before ++ last ∷ [])

module _ (n : ℕ) (s : Serving) (e : Item Job Reply) (es : List (Item Job Reply)) (t : Serving) (outs : e.outs ≡ gives s e.stimulus e.fate)
    (next : IsHistory gives after (after s e.stimulus e.fate) es t) (cuts : Cuts n (after s e.stimulus e.fate) es t) where
  given_one : (job : Job) → e.stimulus ≡ JobOf n job → asks_nothing job ≡ true → outs_to n e.outs ≡ Answer (Refused (vacancy n s.seats)) ∷ []
  given_one job is asks =
      ap (outs_to n) (outs ∙ ap (λ (stimulus : Stimulus Job). gives s stimulus e.fate) is) ∙ nothing_given s n job e.fate asks

  empty_then : (job : Job) → e.stimulus ≡ JobOf n job → asks_nothing job ≡ true → Refused (vacancy n s.seats) ≡ Refused ESME_RINVMSGID
      → is_vacant n (after s e.stimulus e.fate).seats ≡ true
  empty_then job is asks said =
      ap (λ (stimulus : Stimulus Job). is_vacant n (after s stimulus e.fate).seats) is
      ∙ (ap (λ (x : Serving). is_vacant n x.seats) (nothing_after s n job e.fate asks) ∙ said_vacant (is_vacant n s.seats) said)

  cut_own : (job : Job) → e.stimulus ≡ JobOf n job → own_jobs n e.stimulus ≡ job ∷ [] → Cuts n s (e ∷ es) t
  cut_own job is one [] last rest asks k =
      let all : job ∷ jobs_of n es ≡ last ∷ rest = sym (jobs_first n e es ∙ ap (λ (l : List Job). l ++ jobs_of n es) one) ∙ k in
      let same : job ≡ last = first_job job last (jobs_of n es) rest all in
      cut_here n s e es t outs last (Refused (vacancy n s.seats)) (one ∙ ap (λ (j : Job). j ∷ []) same)
      (given_one job is (ap asks_nothing same ∙ asks)) (empty_then job is (ap asks_nothing same ∙ asks)) next
  cut_own job is one (first ∷ before) last rest asks k =
      let all : job ∷ jobs_of n es ≡ first ∷ ((before ++ last ∷ []) ++ rest) = sym (jobs_first n e es ∙ ap (λ (l : List Job). l ++ jobs_of n es) one) ∙ k in
      let same : job ≡ first = first_job job first (jobs_of n es) ((before ++ last ∷ []) ++ rest) all in
      cut_longer n s e es t outs (before ++ last ∷ []) (first ∷ (before ++ last ∷ []))
      (ap (λ (l : List Job). l ++ (before ++ last ∷ [])) (sym (one ∙ ap (λ (j : Job). j ∷ []) same)))
      (cuts before last rest asks (other_jobs job first (jobs_of n es) ((before ++ last ∷ []) ++ rest) all))

  cut_other : own_jobs n e.stimulus ≡ [] → Cuts n s (e ∷ es) t
  cut_other none before last rest asks k =
      cut_longer n s e es t outs (before ++ last ∷ []) (before ++ last ∷ []) (ap (λ (l : List Job). l ++ (before ++ last ∷ [])) (sym none))
      (cuts before last rest asks (sym (jobs_first n e es ∙ ap (λ (l : List Job). l ++ jobs_of n es) none) ∙ k))

  cut_by : IsKind n e.stimulus → Cuts n s (e ∷ es) t
  cut_by (inl none) = cut_other none
  cut_by (inr own) = cut_own own.0 own.1 own.2

cut : (n : ℕ) (s : Serving) (items : List (Item Job Reply)) (t : Serving) → IsHistory gives after s items t → Cuts n s items t
cut n s [] t h before last rest asks k = absurd (none_is before last rest k)
cut n s (e ∷ es) t h before last rest asks k =
    cut_by n s e es t h.0 h.1 (cut n (after s e.stimulus e.fate) es t h.1) (kind n e.stimulus) before last rest asks k

-- ---- all connections

replies_join : (n : ℕ) (a b : List (Item Job Reply)) → replies_in n (a ++ b) ≡ replies_in n a ++ replies_in n b
replies_join n [] b = refl
replies_join n (e ∷ a) b = ap (λ (l : List Reply). outs_to n e.outs ++ l) (replies_join n a b) ∙ sym (append_assoc (outs_to n e.outs) (replies_in n a) (replies_in n b))

asked_join : (a b : List (Item Job Reply)) → asked (a ++ b) ≡ asked a ++ asked b
asked_join [] b = refl
asked_join (e ∷ a) b = ap (λ (l : List (ℕ × Job)). asked_by e.stimulus ++ l) (asked_join a b) ∙ sym (append_assoc (asked_by e.stimulus) (asked a) (asked b))

jobs_parts : (n : ℕ) (a b : List (Item Job Reply)) → jobs_of n (a ++ b) ≡ jobs_of n a ++ jobs_of n b
jobs_parts n a b = ap (for_seat n) (asked_join a b) ∙ for_join n (asked a) (asked b)

off_jobs : (a x y : List Job) → a ++ x ≡ a ++ y → x ≡ y
off_jobs [] x y e = e
off_jobs (j ∷ a) x y e = off_jobs a x y (other_jobs j j (a ++ x) (a ++ y) e)

status_is : (status : CommandStatus) → is_vacancy (Answer (Refused status)) ≡ true → status ≡ ESME_RINVMSGID
status_is ESME_RINVMSGID h = refl
status_is status h = absurd (true≢false (sym h))

-- the last answer says that nobody is at the seat
vacancy_is : (answer : CentreAnswer) → is_vacancy (Answer answer) ≡ true → answer ≡ Refused ESME_RINVMSGID
vacancy_is (Submitted id) h = absurd (true≢false (sym h))
vacancy_is (Queried id state moment) h = absurd (true≢false (sym h))
vacancy_is Cancelled h = absurd (true≢false (sym h))
vacancy_is (Refused status) h = ap (λ (s : CommandStatus). Refused s) (status_is status h)

vacant_so : (l before : List Reply) (answer : CentreAnswer) → l ≡ before ++ Answer answer ∷ [] → ends_vacant l ≡ true → answer ≡ Refused ESME_RINVMSGID
vacant_so l before answer e h = vacancy_is answer (sym (vacant_with before (Answer answer)) ∙ (sym (ap ends_vacant e) ∙ h))

ends_so : (l before : List Reply) (answer : CentreAnswer) → l ≡ before ++ Answer answer ∷ [] → ends_answered l ≡ true
ends_so l before answer e = ap ends_answered e ∙ ends_with before (Answer answer)

module _ {S : Type 0} (remaining contents : S → Option (List ℕ)) (admitted : Admitted) (n : ℕ) where
  shift : (put more : List (Option Job)) (taken others : List Reply) (cs : List (Connection remaining contents admitted)) → IsCleared put taken
      → InTurn remaining contents admitted (put ++ more) (taken ++ others) cs → InTurn remaining contents admitted more others cs
  shift put more taken others [] h k = tt
  shift put more taken others (c ∷ cs) h k =
      let calls = calls_of remaining contents admitted c in (
        cleared_behind put more taken others h k.0,
        shift put (more ++ jobs_put calls) taken (others ++ replies_taken calls) cs h
            (subst (λ (l : List Reply). InTurn remaining contents admitted (put ++ (more ++ jobs_put calls)) l cs) (append_assoc taken others (replies_taken calls))
            (subst (λ (l : List (Option Job)). InTurn remaining contents admitted l ((taken ++ others) ++ replies_taken calls) cs) (append_assoc put more (jobs_put calls)) k.1)),
      )

  from_here : (put : List (Option Job)) (taken : List Reply) (cs : List (Connection remaining contents admitted)) → IsCleared put taken
      → InTurn remaining contents admitted put taken cs → InTurn remaining contents admitted [] [] cs
  from_here put taken cs h k =
      shift put [] taken [] cs h
      (subst (λ (l : List Reply). InTurn remaining contents admitted (put ++ []) l cs) (sym (append-nil taken))
      (subst (λ (l : List (Option Job)). InTurn remaining contents admitted l taken cs) (sym (append-nil put)) k))

  abbrev Stretched : List (Connection remaining contents admitted) → Type 0
  Stretched cs =
      (s : Serving) (items : List (Item Job Reply)) (t : Serving) (untaken : List Reply) → IsHistory gives after s items t
      → InTurn remaining contents admitted [] [] cs → jobs_of n items ≡ jobs_among (jobs_by remaining contents admitted cs)
      → replies_in n items ≡ replies_to remaining contents admitted cs ++ untaken → HaveVacated remaining contents admitted n s cs items

  last_stretch : (c : Connection remaining contents admitted) → Stretched (c ∷ [])
  last_stretch c s items t untaken h turn jobs replies =
      let calls = calls_of remaining contents admitted c in record {
        jobs = jobs ∙ ap jobs_among (append-nil (jobs_put calls));
        left = untaken;
        replies = replies ∙ ap (λ (l : List Reply). l ++ untaken) (append-nil (replies_taken calls));
      }

  -- a connection that put nothing took nothing
  empty_stretch : (c next : Connection remaining contents admitted) (cs : List (Connection remaining contents admitted)) → Stretched (next ∷ cs)
      → jobs_put (calls_of remaining contents admitted c) ≡ [] → Stretched (c ∷ next ∷ cs)
  empty_stretch c next cs later none s items t untaken h turn jobs replies =
      let calls = calls_of remaining contents admitted c in
      let cleared = turn.1.0 in
      let nothing : replies_taken calls ≡ [] = no_more (replies_taken calls) cleared.2 (sym cleared.0 ∙ ap requests_in none) in (
        [],
        items,
        s,
        refl,
        record { jobs = sym (ap jobs_among none); replies = sym nothing },
        refl,
        λ v. v,
        later s items t untaken h (from_here (jobs_put calls) (replies_taken calls) (next ∷ cs) cleared turn.1)
            (jobs ∙ ap (λ (l : List (Option Job)). jobs_among (l ++ jobs_by remaining contents admitted (next ∷ cs))) none)
            (replies ∙ ap (λ (l : List Reply). (l ++ replies_to remaining contents admitted (next ∷ cs)) ++ untaken) nothing),
      )

  own_stretch : (c next : Connection remaining contents admitted) (cs : List (Connection remaining contents admitted)) → Stretched (next ∷ cs)
      → EndsAsked (jobs_among (jobs_put (calls_of remaining contents admitted c))) → Stretched (c ∷ next ∷ cs)
  own_stretch c next cs later ends s items t untaken h turn jobs replies =
      let calls = calls_of remaining contents admitted c in
      let put = jobs_put calls in
      let taken = replies_taken calls in
      let others = jobs_among (jobs_by remaining contents admitted (next ∷ cs)) in
      let replies_then = replies_to remaining contents admitted (next ∷ cs) in
      let cleared = turn.1.0 in
      let whole : jobs_of n items ≡ (ends.before ++ ends.last ∷ []) ++ others =
      jobs ∙ (jobs_join put (jobs_by remaining contents admitted (next ∷ cs)) ∙ ap (λ (l : List Job). l ++ others) ends.jobs_so) in
      let x = cut n s items t h ends.before ends.last others ends.asks whole in
      let own_jobs_so : jobs_of n x.own ≡ jobs_among put = x.jobs_so ∙ sym ends.jobs_so in
      let count : answers_in (replies_in n x.own) ≡ answers_in taken =
      x.counts_so ∙ (ap requests_among (sym ends.jobs_so) ∙ (sym (requests_so put) ∙ cleared.0)) in
      let both : replies_in n x.own ++ replies_in n x.later ≡ taken ++ (replies_then ++ untaken) =
      sym (ap (replies_in n) x.split ∙ replies_join n x.own x.later) ∙ (replies ∙ append_assoc taken replies_then untaken) in
      let same : replies_in n x.own ≡ taken =
      same_beginning (replies_in n x.own) taken (replies_in n x.later) (replies_then ++ untaken) both
      (ends_so (replies_in n x.own) x.before x.answer x.ends) cleared.2 count in
      let empty : is_vacant n x.between.seats ≡ true =
      x.vacant (vacant_so (replies_in n x.own) x.before x.answer x.ends (ap ends_vacant same ∙ cleared.3)) in
      let parts : jobs_of n x.own ++ jobs_of n x.later ≡ jobs_of n x.own ++ others =
      sym (ap (jobs_of n) x.split ∙ jobs_parts n x.own x.later) ∙ (whole ∙ ap (λ (l : List Job). l ++ others) (sym x.jobs_so)) in (
        x.own,
        x.later,
        x.between,
        x.split,
        record { jobs = own_jobs_so; replies = same },
        x.first,
        λ v. empty,
        later x.between x.later t untaken x.next (from_here put taken (next ∷ cs) cleared turn.1)
            (off_jobs (jobs_of n x.own) (jobs_of n x.later) others parts)
            (cut_off taken (replies_in n x.later) (replies_then ++ untaken) (ap (λ (l : List Reply). l ++ replies_in n x.later) (sym same) ∙ both)),
      )

  next_stretch : (c next : Connection remaining contents admitted) (cs : List (Connection remaining contents admitted)) → Stretched (next ∷ cs)
      → (put : List (Option Job)) → jobs_put (calls_of remaining contents admitted c) ≡ put → Stretched (c ∷ next ∷ cs)
  next_stretch c next cs later [] is s items t untaken h turn = empty_stretch c next cs later is s items t untaken h turn
  next_stretch c next cs later (job ∷ put) is s items t untaken h turn =
      own_stretch c next cs later
      (subst (λ (l : List (Option Job)). EndsAsked (jobs_among l)) (sym is) (ends_among job put (ap ends_asked (sym is) ∙ turn.1.0.1)))
      s items t untaken h turn

  pub vacated : (cs : List (Connection remaining contents admitted)) → Stretched cs
  vacated [] s items t untaken h turn jobs replies = tt
  vacated (c ∷ []) s items t untaken h turn jobs replies = last_stretch c s items t untaken h turn jobs replies
  vacated (c ∷ next ∷ cs) s items t untaken h turn jobs replies =
      next_stretch c next cs (vacated (next ∷ cs)) (jobs_put (calls_of remaining contents admitted c)) refl s items t untaken h turn jobs replies

  kept : (s : Serving) (cs : List (Connection remaining contents admitted)) (items : List (Item Job Reply)) → HaveVacated remaining contents admitted n s cs items
      → HaveStretches remaining contents admitted n cs items
  kept s [] items h = tt
  kept s (c ∷ []) items h = h
  kept s (c ∷ next ∷ cs) items h = (h.0, h.1, h.3, h.4, kept h.2 (next ∷ cs) h.1 h.7)

  pub stretched : (cs : List (Connection remaining contents admitted)) (s : Serving) (items : List (Item Job Reply)) (t : Serving) (untaken : List Reply)
      → IsHistory gives after s items t → InTurn remaining contents admitted [] [] cs → jobs_of n items ≡ jobs_among (jobs_by remaining contents admitted cs)
      → replies_in n items ≡ replies_to remaining contents admitted cs ++ untaken → HaveStretches remaining contents admitted n cs items
  stretched cs s items t untaken h turn jobs replies = kept s cs items (vacated cs s items t untaken h turn jobs replies)
