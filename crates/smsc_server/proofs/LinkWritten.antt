-- What the loop does with a link is a run of its calls.
use Rattle.std.proofs.Common.{◌≡◌, ◌⊎◌, inl, inr, ℕ, ◌≤◌, Bool, true, false, cond, leb, le-leb, min, arith, List, [], ◌∷◌, ◌++◌, length, length-take, take, Option, Some, None, refl, sym, ap, subst, ◌∙◌, append_assoc, append-nil}
use Rattle.sms_centre_spec.specs.declared.jobs.job.Job.{Job}
use Rattle.sms_centre_spec.specs.declared.jobs.reply.Reply.{Reply}
use Rattle.smsc_loop.specs.Calls.{Call, Timed, Told, Took, Heard, GaveUp, AskedLink, AskedToLeave, Noted, Sent, Put, PutBack, Left, PutLast, PutOwn, Dropped, Refused, octets_sent, octets_taken, replies_taken}
use Rattle.smsc_loop.specs.Courses.{Did, LeadsTo, Runs, Standing}
use Rattle.smsc_loop.specs.declared.note.Note.{Note}
use Rattle.smsc_loop.specs.Phases.{Phase, Serves, Leaves, Ends, Asks, Moves}
use Rattle.smsc_endpoint.specs.declared.link_access.LinkAccess.{LinkAccess}
use Rattle.smsc_endpoint.specs.LinkCalls.{at_time, congestion, handed_back, handed_out, next_note, sending, sent_off}
use Rattle.smsc_endpoint.specs.LinkDoes.{LinkDoes}
use Rattle.smsc_endpoint.specs.LinkRuns.{LinkCall, LinkProgress, LinkRun, LinkStep, IsLinkProgress, put_back_by, put_by, started, taken_back, with_left, with_link}
use Rattle.smsc_endpoint.specs.LinkRuns.{At, Take, Hear, GiveUp, Send, Put as HandOut, PutBack as HandOutAndBack, Tell}
use Rattle.smsc_endpoint.specs.LinkSends.{HasSent, LinkSends, SendRun, SendStep, begun, given_by, given_in, sent_in}
use Rattle.smsc_endpoint.specs.LinkView.{LinkView, opened}
use Rattle.smsc_endpoint.proofs.LoopCourses.{fails, is_serving, moves_away, sent_first, taken_first}
use Rattle.smsc_server.specs.WhatALinkReads.{IsLinkRead, frames_heard, link_call_of, link_calls_of}
use Rattle.smsc_server.proofs.PartsWritten.{sent_away, sent_last}
use Rattle.smsc_loop.proofs.Joins.{longer}

-- ---- lists

runs_append : (xs ys : List LinkCall) (s t u : LinkSends) → SendRun s xs t → SendRun t ys u → SendRun s (xs ++ ys) u
runs_append [] ys s t u p q = subst (λ (x : LinkSends). SendRun x ys u) p q
runs_append (x ∷ xs) ys s t u p q = (p.0, p.1, runs_append xs ys p.0 t u p.2 q)

run_of : (calls : List LinkCall) (s t : LinkSends) → SendRun s calls t → LinkRun s.progress calls t.progress
run_of [] s t r = ap (λ (x : LinkSends). x.progress) r
run_of (call ∷ calls) s t r = (r.0.progress, r.1.step, run_of calls r.0 t r.2)

heard_append : (xs ys : List Reply) → frames_heard (xs ++ ys) ≡ frames_heard xs ++ frames_heard ys
heard_append [] ys = refl
heard_append (x ∷ xs) ys =
    ap (λ (fs : List (List ℕ)). given_by x ++ fs) (heard_append xs ys) ∙ sym (append_assoc (given_by x) (frames_heard xs) (frames_heard ys))

heard_first : (call : Call) (calls : List Call) → frames_heard (replies_taken (call ∷ calls)) ≡ frames_heard (replies_taken (call ∷ [])) ++ frames_heard (replies_taken calls)
heard_first (Heard reply went) calls = ap (λ (fs : List (List ℕ)). fs ++ frames_heard (replies_taken calls)) (sym (append-nil (given_by reply)))
heard_first (Dropped reply) calls = ap (λ (fs : List (List ℕ)). fs ++ frames_heard (replies_taken calls)) (sym (append-nil (given_by reply)))
heard_first (Refused reply) calls = ap (λ (fs : List (List ℕ)). fs ++ frames_heard (replies_taken calls)) (sym (append-nil (given_by reply)))
heard_first call calls = refl

-- ---- one call

-- these calls of the loop lead from there to this link
record LinkCourse (s : LinkSends) (calls : List Call) (m : LinkView) : Type 0 where
  then_at : LinkSends
  run : SendRun s (link_calls_of calls) then_at
  link : then_at.progress.link ≡ m
  arrived : then_at.progress.arrived ≡ s.progress.arrived ++ octets_taken calls
  given : then_at.given ≡ s.given ++ frames_heard (replies_taken calls)
  sent : then_at.sent ≡ s.sent ++ octets_sent calls

-- a call that is none of the link
no_call : (s : LinkSends) (call : Call) (m : LinkView) → link_calls_of (call ∷ []) ≡ [] → octets_taken (call ∷ []) ≡ [] → frames_heard (replies_taken (call ∷ [])) ≡ []
    → octets_sent (call ∷ []) ≡ [] → m ≡ s.progress.link → LinkCourse s (call ∷ []) m
no_call s call m c a g w e = record {
  then_at = s;
  run = subst (λ (calls : List LinkCall). SendRun s calls s) (sym c) refl;
  link = sym e;
  arrived = sym (append-nil s.progress.arrived) ∙ ap (λ (os : List ℕ). s.progress.arrived ++ os) (sym a);
  given = sym (append-nil s.given) ∙ ap (λ (fs : List (List ℕ)). s.given ++ fs) (sym g);
  sent = sym (append-nil s.sent) ∙ ap (λ (os : List ℕ). s.sent ++ os) (sym w);
}

-- one that is
one_call : (s : LinkSends) (call : Call) (made : LinkCall) (d : LinkProgress) (m : LinkView) → link_calls_of (call ∷ []) ≡ made ∷ [] → LinkStep made s.progress d → d.link ≡ m
    → d.arrived ≡ s.progress.arrived ++ octets_taken (call ∷ []) → given_in made ≡ frames_heard (replies_taken (call ∷ []))
    → sent_in made s.progress.link.outbox.octets ≡ octets_sent (call ∷ []) → LinkCourse s (call ∷ []) m
one_call s call made d m c step e a g w =
    let t : LinkSends = record { progress = d; given = s.given ++ given_in made; sent = s.sent ++ sent_in made s.progress.link.outbox.octets } in record {
      then_at = t;
      run = subst (λ (calls : List LinkCall). SendRun s calls t) (sym c) (t, record { step = step; given = refl; sent = refl }, refl);
      link = e;
      arrived = a;
      given = ap (λ (fs : List (List ℕ)). s.given ++ fs) g;
      sent = ap (λ (os : List ℕ). s.sent ++ os) w;
    }

-- nothing arrives
kept : (s : LinkSends) (d : LinkProgress) → d.arrived ≡ s.progress.arrived → d.arrived ≡ s.progress.arrived ++ []
kept s d e = e ∙ sym (append-nil s.progress.arrived)

-- the octets that were written are the first of those that wait
part_is : (octets os : List ℕ) → octets ≡ take (length octets) os → cond (leb (length octets) (length os)) (take (length octets) os) [] ≡ octets
part_is octets os e =
    let same : length octets ≡ min (length octets) (length os) = ap (λ (xs : List ℕ). length xs) e ∙ length-take (length octets) os in
    let fits : length octets ≤ length os = omega (arith, same) in
    ap (λ (b : Bool). cond b (take (length octets) os) []) (le-leb _ _ fits) ∙ sym e

put_arrived : (q : Option Job × LinkView) (c : LinkProgress) → (put_by q c).arrived ≡ c.arrived
put_arrived (None, l) c = refl
put_arrived (Some job, l) c = refl

back_link : (job : Job) (again : Bool) (m : LinkView) (c : LinkProgress) → (taken_back job (again, m) c).link ≡ m
back_link job true m c = refl
back_link job false m c = refl

back_arrived : (job : Job) (again : Bool) (m : LinkView) (c : LinkProgress) → (taken_back job (again, m) c).arrived ≡ c.arrived
back_arrived job true m c = refl
back_arrived job false m c = refl

one_step : (call : Call) (s : LinkSends) (m : LinkView) (o : Phase) → LeadsTo LinkDoes call s.progress.link m → Moves call Serves o → o ≡ Serves → LinkCourse s (call ∷ []) m
one_step (Timed now true) s m o l v e =
    let d = with_link (at_time now s.progress.link) s.progress in
    one_call s (Timed now true) (At now) d m refl refl (sym l) (kept s d refl) refl refl
one_step (Timed now false) s m o l v e = absurd (fails o v.1 e)
one_step (Told full) s m o l v e = no_call s (Told full) m refl refl refl refl l
one_step (Took octets true) s m o l v e =
    let d : LinkProgress = record s.progress { link = m; arrived = s.progress.arrived ++ octets } in
    one_call s (Took octets true) (Take octets) d m refl (m, l, refl) refl (ap (λ (os : List ℕ). s.progress.arrived ++ os) (sym (append-nil octets))) refl refl
one_step (Took octets false) s m o l v e = absurd (fails o v.1 e)
one_step (Heard reply true) s m o l v e =
    let d = with_link m s.progress in
    one_call s (Heard reply true) (Hear reply) d m refl (m, l, refl) refl (kept s d refl) (sym (append-nil (given_by reply))) refl
one_step (Heard reply false) s m o l v e = absurd (fails o v.1 e)
one_step (GaveUp true) s m o l v e =
    let d = with_link (sending congestion s.progress.link) s.progress in
    one_call s (GaveUp true) GiveUp d m refl refl (sym l) (kept s d refl) refl refl
one_step (GaveUp false) s m o l v e = absurd (fails o v.1 e)
one_step (AskedLink went) s m o l v e = no_call s (AskedLink went) m refl refl refl refl l
one_step (AskedToLeave asked went) s m o l v e = no_call s (AskedToLeave asked went) m refl refl refl refl l.1
one_step (Noted said) s m o l v e =
    let d = with_link (next_note s.progress.link).1 s.progress in
    one_call s (Noted said) Tell d m refl refl (sym (ap (λ (q : Option Note × LinkView). q.1) l)) (kept s d refl) refl refl
one_step (Sent octets) s m o l v e =
    let d = with_link (sent_off (length octets) s.progress.link) s.progress in
    one_call s (Sent octets) (Send (length octets)) d m refl refl (sym l.1) (kept s d refl) refl (part_is octets s.progress.link.outbox.octets l.0 ∙ sym (append-nil octets))
one_step (Put job) s m o l v e =
    let d = put_by (handed_out s.progress.link) s.progress in
    let is : d ≡ with_left job m s.progress = ap (λ (q : Option Job × LinkView). put_by q s.progress) (sym l) in
    one_call s (Put job) HandOut d m refl refl (ap (λ (c : LinkProgress). c.link) is) (kept s d (put_arrived (handed_out s.progress.link) s.progress)) refl refl
one_step (PutBack job again true) s m o l v e =
    let d = put_back_by (handed_out s.progress.link) s.progress in
    let is : d ≡ taken_back job (again, m) s.progress =
    ap (λ (q : Option Job × LinkView). put_back_by q s.progress) (sym l.1) ∙ ap (λ (q : Bool × LinkView). taken_back job q s.progress) (sym l.2) in
    one_call s (PutBack job again true) HandOutAndBack d m refl refl (ap (λ (c : LinkProgress). c.link) is ∙ back_link job again m s.progress)
    (kept s d (ap (λ (c : LinkProgress). c.arrived) is ∙ back_arrived job again m s.progress)) refl refl
one_step (PutBack job again false) s m o l v e = absurd (fails o v.1 e)
one_step (Left last) s m o l v e = let never : Leaves last ≡ Serves = sym v.1 ∙ e in absurd cc
one_step (PutLast job) s m o l v e = let never : Ends ≡ Serves = sym v.1 ∙ e in absurd cc
one_step (PutOwn job) s m o l v e = let never : Asks ≡ Serves = sym v.1 ∙ e in absurd cc
one_step (Dropped reply) s m o l v e = absurd v.0
one_step (Refused reply) s m o l v e = absurd (fails o v.1 e)

-- ---- calls one after the other

joined_course : (s : LinkSends) (call : Call) (calls : List Call) (u w : LinkView) (one : LinkCourse s (call ∷ []) u) → LinkCourse one.then_at calls w → LinkCourse s (call ∷ calls) w
joined_course s call calls u w one rest = record {
  then_at = rest.then_at;
  run = runs_append (link_call_of call) (link_calls_of calls) s one.then_at rest.then_at
      (subst (λ (made : List LinkCall). SendRun s made one.then_at) (append-nil (link_call_of call)) one.run) rest.run;
  link = rest.link;
  arrived = longer s.progress.arrived one.then_at.progress.arrived rest.then_at.progress.arrived (octets_taken (call ∷ [])) (octets_taken calls) (octets_taken (call ∷ calls))
      one.arrived rest.arrived (taken_first call calls);
  given = longer s.given one.then_at.given rest.then_at.given (frames_heard (replies_taken (call ∷ []))) (frames_heard (replies_taken calls)) (frames_heard (replies_taken (call ∷ calls)))
      one.given rest.given (heard_first call calls);
  sent = longer s.sent one.then_at.sent rest.then_at.sent (octets_sent (call ∷ [])) (octets_sent calls) (octets_sent (call ∷ calls)) one.sent rest.sent (sent_first call calls);
}

-- ---- where the connection was served

none_sent : (calls : List Call) (v w : LinkView) (p q : Phase) → Runs LinkDoes v p calls w q → (p ≡ Serves → ⊥) → octets_sent calls ≡ []
none_sent [] v w p q r away = refl
none_sent (call ∷ calls) v w p q r away = sent_away call calls p r.1 r.3 away ∙ none_sent calls r.0 w r.1 q r.4 (moves_away call p r.1 r.3 away)

record WasServed (s : LinkSends) (calls : List Call) : Type 0 where
  one : List Call
  other : List Call
  parts : calls ≡ one ++ other
  last : LinkView
  course : LinkCourse s one last
  none : octets_sent other ≡ []

stays : (s : LinkSends) → LinkCourse s [] s.progress.link
stays s = record {
  then_at = s;
  run = refl;
  link = refl;
  arrived = sym (append-nil s.progress.arrived);
  given = sym (append-nil s.given);
  sent = sym (append-nil s.sent);
}

served_next : (call : Call) (calls : List Call) (s : LinkSends) (w : LinkView) (q : Phase) (r : Runs LinkDoes s.progress.link Serves (call ∷ calls) w q)
    → ((t : LinkSends) → Runs LinkDoes t.progress.link Serves calls w q → WasServed t calls) → (r.1 ≡ Serves) ⊎ (r.1 ≡ Serves → ⊥) → WasServed s (call ∷ calls)
served_next call calls s w q r rest (inl e) =
    let one = one_step call s r.0 r.1 r.2 r.3 e in
    let h = rest one.then_at (subst (λ (v : LinkView). Runs LinkDoes v Serves calls w q) (sym one.link) (subst (λ (p : Phase). Runs LinkDoes r.0 p calls w q) e r.4)) in record {
      one = call ∷ h.one;
      other = h.other;
      parts = ap (λ (l : List Call). call ∷ l) h.parts;
      last = h.last;
      course = joined_course s call h.one r.0 h.last one h.course;
      none = h.none;
    }
served_next call calls s w q r rest (inr away) = record {
  one = [];
  other = call ∷ calls;
  parts = refl;
  last = s.progress.link;
  course = stays s;
  none = sent_last call calls r.1 r.3 away ∙ none_sent calls r.0 w r.1 q r.4 away;
}

was_served : (calls : List Call) (s : LinkSends) (w : LinkView) (q : Phase) → Runs LinkDoes s.progress.link Serves calls w q → WasServed s calls
was_served [] s w q r = record { one = []; other = []; parts = refl; last = s.progress.link; course = stays s; none = refl }
was_served (call ∷ calls) s w q r = served_next call calls s w q r (λ t k. was_served calls t w q k) (is_serving r.1)

runs_both : (u v w : LinkView) (n o p : Phase) (one other : List Call) → Runs LinkDoes u n one v o → Runs LinkDoes v o other w p → Runs LinkDoes u n (one ++ other) w p
runs_both u v w n o p [] other r k =
    subst (λ (x : LinkView). Runs LinkDoes x n other w p) r.0 (subst (λ (y : Phase). Runs LinkDoes v y other w p) r.1 k)
runs_both u v w n o p (call ∷ one) other r k = (r.0, r.1, r.2, r.3, runs_both r.0 v w r.1 o p one other r.4 k)

-- ---- what is read

module _ (jobs : (access : LinkAccess) (calls : List LinkCall) (progress : LinkProgress) → LinkRun (started access) calls progress → IsLinkProgress access progress)
    (frames : (access : LinkAccess) (calls : List LinkCall) (sends : LinkSends) → SendRun (begun access) calls sends → sends.progress.link.outbox.is_closed ≡ false → HasSent sends) where
  read_of : (access : LinkAccess) (calls : List Call) → WasServed (begun access) calls → IsLinkRead access calls
  read_of access calls h =
      let c = h.course in (
        h.one,
        h.other,
        h.parts,
        h.none,
        (
          c.then_at,
          record {
            run = c.run;
            arrived = c.arrived;
            given = c.given;
            sent = c.sent;
            jobs = jobs access (link_calls_of h.one) c.then_at.progress (run_of (link_calls_of h.one) (begun access) c.then_at c.run);
            frames = frames access (link_calls_of h.one) c.then_at c.run;
          },
        ),
      )

  -- a link that was served, and then left its seat
  pub is_link_read : (access : LinkAccess) (s t u : Standing LinkView) → s.view ≡ opened access → s.phase ≡ Serves → (served : Did LinkDoes s t) (left : Did LinkDoes t u)
      → IsLinkRead access (served.calls ++ left.calls)
  is_link_read access s t u v p served left =
      let whole = runs_both s.view t.view u.view s.phase t.phase u.phase served.calls left.calls served.runs left.runs in
      read_of access (served.calls ++ left.calls)
      (was_served (served.calls ++ left.calls) (begun access) u.view u.phase
      (subst (λ (l : LinkView). Runs LinkDoes l Serves (served.calls ++ left.calls) u.view u.phase) v
      (subst (λ (q : Phase). Runs LinkDoes s.view q (served.calls ++ left.calls) u.view u.phase) p whole)))
