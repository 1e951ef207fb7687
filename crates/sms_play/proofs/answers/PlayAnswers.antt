-- No answer that a course collects is ESME_RSYSERR.
use Rattle.std.proofs.Common.{◌≡◌, inl, inr, ℕ, zero, suc, ◌+◌, List, [], ◌∷◌, ◌++◌, true, Option, Some, None, Result, Ok, Err, refl, sym, ◌∙◌, ap, subst, ⊎_elim}
use Rattle.std.specs.Prelude.{◌⊎◌}
use Rattle.std.proofs.lemmas.Bool.{cond_both}
use Rattle.sms_base.specs.Among.{Among}
use Rattle.sms_base.specs.Reading.{◌>>=◌}
use Rattle.smpp_pdu.specs.declared.status.CommandStatus.{CommandStatus}
use Rattle.smpp_pdu.specs.declared.status.CommandStatus.TheVariants.{ESME_RSYSERR}
use Rattle.sms_centre_rows.specs.declared.reports.delivery.Delivery.{Delivery}
use Rattle.sms_script.specs.declared.report.answers.Answer.{Answer}
use Rattle.sms_script.specs.declared.report.answers.Answered.{Answered}
use Rattle.sms_script.specs.declared.report.answers.Answered.TheVariants.{Done, Refused as AnsweredRefused, Status, Stopped as AnsweredStopped}
use Rattle.sms_script.specs.declared.report.Report.{Report}
use Rattle.sms_script.specs.declared.report.rows.Direction.{Direction}
use Rattle.sms_script.specs.declared.report.rows.Direction.TheVariants.{Up, Down}
use Rattle.sms_script.specs.declared.report.rows.FrameRow.{FrameRow}
use Rattle.sms_script.specs.declared.event.Act.{Act}
use Rattle.sms_script.specs.declared.event.Act.TheVariants.{Submit, Query, Cancel, Write, Delete, Discard, Deliver, Tick}
use Rattle.sms_script.specs.declared.event.EventSide.TheVariants.{Centre, Handset}
use Rattle.sms_script.specs.declared.event.StopPoint.{StopPoint}
use Rattle.sms_script.specs.declared.event.StopPoint.TheVariants.{After, Before}
use Rattle.sms_script.specs.declared.event.WorldEvent.{WorldEvent}
use Rattle.sms_script.specs.declared.event.WorldEvent.TheVariants.{Whole, Stopped, Restart}
use Rattle.sms_script.specs.declared.setup.Setup.{Setup}
use Rattle.sms_centre_spec.specs.declared.answer.CentreAnswer.{CentreAnswer}
use Rattle.sms_centre_spec.specs.declared.answer.CentreAnswer.TheVariants.{Submitted, Queried, Cancelled, Refused}
use Rattle.sms_centre_spec.specs.declared.event.CentreEvent.{CentreEvent}
use Rattle.sms_centre_spec.specs.declared.event.CentreEvent.TheVariants.{Cancel as CentreCancel, DeliverAnswered, Query as CentreQuery, Submit as CentreSubmit}
use Rattle.sms_centre_spec.specs.CentreEvent.{happened as centre_happened}
use Rattle.sms_centre_spec.specs.Draft.{Draft as CentreDraft, draft_of}
use Rattle.sms_centre_spec.specs.Requests.{account_at}
use Rattle.sms_handset.specs.FaultCodes.{refusal_code}
use Rattle.sms_handset.specs.declared.event.HandsetEvent.{HandsetEvent}
use Rattle.sms_handset.specs.declared.refusal.Refusal.{Refusal}
use Rattle.sms_handset_draft.specs.Draft.{Draft}
use Rattle.sms_script.specs.declared.play_fault.PlayFault.{PlayFault}
use Rattle.sms_script.specs.declared.play_fault.PlayFault.TheVariants.{BadSetup}
use Rattle.sms_play.specs.CentreSide.{accepted_after, answered_as, centre_meets, done as centre_done, with_answer as centre_told, whole as centre_whole}
use Rattle.sms_play.specs.PlayState.{PlayState, Party, answer, frame_at, party_at}
use Rattle.sms_play.specs.HandsetSide.{handset_meets, happened, is_owners, with_answer, whole}
use Rattle.sms_play.specs.Meeting.{AtCentre, AtHandset, Meeting, account_from, by_account, by_handset, delivered, handed_over, is_answered, meeting_of, tag_in}
use Rattle.sms_script.specs.Requests.{cancel_of, query_of, submit_of}
use Rattle.sms_play.specs.PlayedEvent.{handset_stored, handset_restarted, handset_restarts, stored, met, played, restarted, stopped}
use Rattle.sms_play.specs.Playing.{play_state_of, played_on, report_of}
use Rattle.sms_play.specs.Setups.{beginning, can_be_played}
use Rattle.sms_play.specs.answers.AnswerLaws.{HaveNoSystemError, IsNoSystemError, NoSystemErrorLaw}
use Rattle.sms_play.proofs.answers.CentreAnswers.{IsOtherAnswer, account_there, cancel_other, query_other, submit_other}
use Rattle.sms_centre_spec.proofs.Unanswered.{frame_unanswered, tick_unanswered}

abbrev Fine : PlayState → Type 0
Fine c = HaveNoSystemError c.answers

abbrev pub ok_play : PlayState → Result PlayState PlayFault
ok_play c = Ok c

pub same_play : (x d : PlayState) → ok_play x ≡ ok_play d → x ≡ d
same_play x d e = cc

-- ---- one answer more

pub either_part : (a : Answer) (xs : List Answer) (y : Answer) → Among a (xs ++ y ∷ []) → Among a xs ⊎ (a ≡ y)
either_part a [] y i = ⊎_elim (λ (e : a ≡ y). inr e) (λ (none : ⊥). absurd none) i
either_part a (x ∷ xs) y i = ⊎_elim (λ (e : a ≡ x). inl (inl e)) (λ (j : Among a (xs ++ y ∷ [])). ⊎_elim (λ (k : Among a xs). inl (inr k)) (λ (e : a ≡ y). inr e) (either_part a xs y j)) i

answer_fine : (n : ℕ) (x : Answered) (c : PlayState) → ¬ (x ≡ Status ESME_RSYSERR) → Fine c → Fine (answer n x c)
answer_fine n x c other fine a i = ⊎_elim
    (λ (j : Among a c.answers). fine a j)
    (λ (e : a ≡ record { event = n; answered = x }). let no : IsNoSystemError a = λ q. other (ap (λ (z : Answer). z.answered) (sym e) ∙ q) in no)
    (either_part a c.answers (record { event = n; answered = x }) i)

said_other : (a : CentreAnswer) → IsOtherAnswer (Some a) → answered_as a ≡ Status ESME_RSYSERR → ⊥
said_other (Submitted id) other e = cc
said_other (Queried id state moment) other e = cc
said_other Cancelled other e = cc
said_other (Refused status) other e = let same : status ≡ ESME_RSYSERR = cc in other (ap (λ (s : CommandStatus). Some (Refused s)) same)

-- ---- the centre

accepted_fine : (d : CentreDraft) (most : ℕ) (waiting : List Delivery) (c : PlayState) → Fine c → Fine (accepted_after d most waiting c)
accepted_fine d zero waiting c fine = fine
accepted_fine d (suc most) [] c fine = fine
accepted_fine d (suc most) (x ∷ waiting) c fine =
    let e : CentreDraft = centre_happened (DeliverAnswered x.session x.id true) c.centre in accepted_fine e most (waiting ++ e.bindings.deliveries) (centre_done e c) fine

told_fine : (n : ℕ) (o : Option CentreAnswer) (c : PlayState) → IsOtherAnswer o → Fine c → Fine (centre_told n o c)
told_fine n None c other fine = fine
told_fine n (Some a) c other fine = answer_fine n (answered_as a) c (said_other a other) fine

centre_fine : (n : ℕ) (e : CentreEvent) (c : PlayState) → IsOtherAnswer (centre_happened e c.centre).answer → Fine c → Fine (centre_meets n e c)
centre_fine n e c other fine =
    let d : CentreDraft = centre_happened e c.centre in told_fine n d.answer (centre_whole d c) other (accepted_fine d _ d.bindings.deliveries (centre_done d c) fine)

-- ---- a handset

whole_fine : (p : Party) (r : Result Draft Refusal) (c : PlayState) → Fine c → Fine (whole p r c)
whole_fine p (Ok d) c fine = fine
whole_fine p (Err refusal) c fine = fine

owner_fine : (n : ℕ) (r : Result Draft Refusal) (c : PlayState) → Fine c → Fine (with_answer n r c)
owner_fine n (Ok d) c fine = answer_fine n Done c (λ e. cc e) fine
owner_fine n (Err refusal) c fine = answer_fine n (AnsweredRefused (refusal_code refusal)) c (λ e. cc e) fine

handset_fine : (n : ℕ) (p : Party) (e : HandsetEvent) (c : PlayState) → Fine c → Fine (handset_meets n p e c)
handset_fine n p e c fine =
    let r : Result Draft Refusal = happened e p.core in
    let w : Fine (whole p r c) = whole_fine p r c fine in
    cond_both (is_owners e) (with_answer n r (whole p r c)) (whole p r c) (λ (z : PlayState). Fine z) (λ t. owner_fine n r (whole p r c) w) (λ t. w)

-- ---- what an act is to its side

-- an event of the centre is not answered that
abbrev IsFineMeeting : PlayState → Meeting → Type 0
IsFineMeeting c (AtCentre e) = IsOtherAnswer (centre_happened e c.centre).answer
IsFineMeeting c (AtHandset p e) = Unit {0}

abbrev IfMet : PlayState → Result Meeting PlayFault → Type 0
IfMet c (Ok m) = IsFineMeeting c m
IfMet c (Err fault) = Unit {0}

unanswered : (o : Option CentreAnswer) → o ≡ None → IsOtherAnswer o
unanswered None e q = cc
unanswered (Some a) e q = cc

asked_fine : (n : ℕ) (request : ℕ → CentreEvent) (c : PlayState) (o : Option ℕ) → ((place : ℕ) → o ≡ Some place → IsOtherAnswer (centre_happened (request place) c.centre).answer) → IfMet c (by_account n request o)
asked_fine n request c None g = tt
asked_fine n request c (Some place) g = g place refl

by_fine : (e : HandsetEvent) (n : ℕ) (c : PlayState) (o : Option Party) → IfMet c (by_handset e n o)
by_fine e n c None = tt
by_fine e n c (Some p) = tt

over_fine : (n : ℕ) (d : Direction) (f : FrameRow) (c : PlayState) → IfMet c (handed_over n d f c)
over_fine n Up f c = unanswered _ (frame_unanswered f.handset f.octets (tag_in f.carried) c.centre)
over_fine n Down f c = by_fine _ n c (party_at f.handset c.parties)

delivered_fine : (n : ℕ) (o : Option FrameRow) (c : PlayState) → IfMet c (delivered n o c)
delivered_fine n None c = tt
delivered_fine n (Some f) c = over_fine n f.direction f c

meeting_fine : (n : ℕ) (act : Act) (c : PlayState) → IfMet c (meeting_of n act c)
meeting_fine n (Submit s) c = asked_fine n (λ (place : ℕ). CentreSubmit place (submit_of s)) c (account_from 0 s.name c.centre.rows.setup.accounts)
    (λ place e. let a = account_there place s.name c.centre.rows.setup.accounts e in submit_other (account_at place c.centre.rows.setup.accounts) a.0 (submit_of s) (draft_of c.centre) a.1)
meeting_fine n (Query name id) c = asked_fine n (λ (place : ℕ). CentreQuery place (query_of id)) c (account_from 0 name c.centre.rows.setup.accounts)
    (λ place e. let a = account_there place name c.centre.rows.setup.accounts e in query_other (account_at place c.centre.rows.setup.accounts) a.0 (query_of id) (draft_of c.centre) a.1)
meeting_fine n (Cancel name id) c = asked_fine n (λ (place : ℕ). CentreCancel place (cancel_of id)) c (account_from 0 name c.centre.rows.setup.accounts)
    (λ place e. let a = account_there place name c.centre.rows.setup.accounts e in cancel_other (account_at place c.centre.rows.setup.accounts) a.0 (cancel_of id) (draft_of c.centre) a.1)
meeting_fine n (Write handset to report text) c = by_fine _ n c (party_at handset c.parties)
meeting_fine n (Delete handset entry) c = by_fine _ n c (party_at handset c.parties)
meeting_fine n (Discard handset entry) c = by_fine _ n c (party_at handset c.parties)
meeting_fine n (Deliver number) c = delivered_fine n (frame_at number c.bag) c
meeting_fine n (Tick Centre now) c = unanswered _ (tick_unanswered now c.centre)
meeting_fine n (Tick (Handset number) now) c = by_fine _ n c (party_at number c.parties)

-- ---- an event

met_fine : (n : ℕ) (m : Meeting) (c : PlayState) → IsFineMeeting c m → Fine c → Fine (met n m c)
met_fine n (AtCentre e) c is fine = centre_fine n e c is fine
met_fine n (AtHandset p e) c is fine = handset_fine n p e c fine

handset_left : (p : Party) (r : Result Draft Refusal) (c : PlayState) → Fine c → Fine (handset_stored p r c)
handset_left p (Ok d) c fine = fine
handset_left p (Err refusal) c fine = fine

preserved_fine : (stop : StopPoint) (m : Meeting) (c : PlayState) → Fine c → Fine (stored stop m c)
preserved_fine Before m c fine = fine
preserved_fine After (AtCentre e) c fine = fine
preserved_fine After (AtHandset p e) c fine = handset_left p (happened e p.core) c fine

party_back : (o : Option Party) (c : PlayState) → Fine c → Fine (handset_restarted o c)
party_back None c fine = fine
party_back (Some p) c fine = fine

restarted_fine : (m : Meeting) (c : PlayState) → Fine c → Fine (restarted m c)
restarted_fine (AtCentre e) c fine = fine
restarted_fine (AtHandset p e) c fine = party_back (party_at p.number c.parties) c fine

stopped_fine : (n : ℕ) (act : Act) (stop : StopPoint) (m : Meeting) (c : PlayState) → Fine c → Fine (stopped n act stop m c)
stopped_fine n act stop m c fine =
    let d : PlayState = restarted m (stored stop m c) in
    let o : Fine d = restarted_fine m (stored stop m c) (preserved_fine stop m c fine) in
    cond_both (is_answered act) (answer n AnsweredStopped d) d (λ (z : PlayState). Fine z) (λ t. answer_fine n AnsweredStopped d (λ e. cc e) o) (λ t. o)

then_fine : (c d : PlayState) (r : Result Meeting PlayFault) (f : Meeting → PlayState) → IfMet c r → ((m : Meeting) → IsFineMeeting c m → Fine (f m)) → (r >>= λ (m : Meeting). ok_play (f m)) ≡ ok_play d → Fine d
then_fine c d (Ok m) f is g e = subst (λ (z : PlayState). Fine z) (same_play (f m) d e) (g m is)
then_fine c d (Err fault) f is g e = absurd cc

handset_back : (n : ℕ) (o : Option Party) (c d : PlayState) → Fine c → handset_restarts n o c ≡ Ok d → Fine d
handset_back n None c d fine q = absurd cc
handset_back n (Some p) c d fine q = subst (λ (z : PlayState). Fine z) (same_play _ d q) fine

event_fine : (n : ℕ) (e : WorldEvent) (c d : PlayState) → Fine c → played n e c ≡ ok_play d → Fine d
event_fine n (Whole act) c d fine q = then_fine c d (meeting_of n act c) (λ m. met n m c) (meeting_fine n act c) (λ m is. met_fine n m c is fine) q
event_fine n (Stopped stop act) c d fine q = then_fine c d (meeting_of n act c) (λ m. stopped n act stop m c) (meeting_fine n act c) (λ m is. stopped_fine n act stop m c fine) q
event_fine n (Restart Centre) c d fine q = subst (λ (z : PlayState). Fine z) (same_play _ d q) fine
event_fine n (Restart (Handset h)) c d fine q = handset_back n (party_at h c.parties) c d fine q

-- ---- all of them

after_fine : (n : ℕ) (e : WorldEvent) (c d : PlayState) (r : Result PlayState PlayFault) (more : PlayState → Result PlayState PlayFault) → Fine c → played n e c ≡ r → ((x : PlayState) → Fine x → more x ≡ ok_play d → Fine d)
    → (r >>= λ (x : PlayState). more x) ≡ ok_play d → Fine d
after_fine n e c d (Ok x) more fine is go q = go x (event_fine n e c x fine is) q
after_fine n e c d (Err fault) more fine is go q = absurd cc

all_fine : (n : ℕ) (es : List WorldEvent) (c d : PlayState) → Fine c → played_on n es c ≡ ok_play d → Fine d
all_fine n [] c d fine q = subst (λ (z : PlayState). Fine z) (same_play c d q) fine
all_fine n (e ∷ es) c d fine q = after_fine n e c d (played n e c) (λ x. played_on (n + 1) es x) fine refl (λ x f p. all_fine (n + 1) es x d f p) q

play_fine : (s : Setup) (es : List WorldEvent) (c : PlayState) → play_state_of s es ≡ ok_play c → Fine c
play_fine s es c e =
    cond_both (can_be_played s) (played_on 1 es (beginning s)) (Err BadSetup) (λ (r : Result PlayState PlayFault). r ≡ ok_play c → Fine c)
    (λ t q. all_fine 1 es (beginning s) c (λ a i. absurd i) q) (λ t q. absurd cc) e

reported : (r : Result PlayState PlayFault) (report : Report) → ((c : PlayState) → r ≡ ok_play c → Fine c) → (r >>= λ (c : PlayState). (let x : Result Report PlayFault = Ok (report_of c) in x)) ≡ Ok report → HaveNoSystemError report.answers
reported (Ok c) report fine e =
    let same : report_of c ≡ report = cc in subst (λ (x : Report). HaveNoSystemError x.answers) same (fine c refl)
reported (Err fault) report fine e = absurd cc

pub no_system_error : NoSystemErrorLaw
no_system_error s events report e = reported (play_state_of s events) report (λ c q. play_fine s events c q) e
