-- Events that change nothing that waits offer nothing.
use Rattle.std.proofs.Common.{◌≡◌, ℕ, List, [], ◌∷◌, Bool, false, refl, sym, ◌∙◌, ap, inl, inr, Option, Some, None}
use Rattle.std.specs.Prelude.{◌==◌, ◌&&◌, not, if◌then◌else◌}
use Rattle.std.proofs.lemmas.Bool.{cond_both, cond-false, eqb-true}
use Rattle.std.specs.Str.{bytes_eq}
use Rattle.std.proofs.lemmas.Option.{same_Some}
use Rattle.sms_base.specs.Among.{Among}
use Rattle.smpp_pdu.specs.declared.query.QuerySm.{QuerySm}
use Rattle.sms_intake.specs.declared.submission.CentreAccount.{CentreAccount}
use Rattle.sms_centre_rows.specs.messages.Messages.{message_at}
use Rattle.sms_centre_rows.specs.messages.OpenParts.{parts_waiting}
use Rattle.sms_centre_rows.specs.messages.SplitReferences.{is_among}
use Rattle.sms_centre_rows.specs.declared.messages.message.MessageRow.{MessageRow}
use Rattle.sms_centre_rows.specs.reports.Receipts.{Session, answered_in, receipt_ended, receipt_tried, session_key}
use Rattle.sms_centre_rows.specs.reports.Reports.{is_status, report_key, report_of, report_reaching}
use Rattle.sms_centre_rows.specs.reports.Waiting.{report_queued, reports_to, with_reports as with_queued}
use Rattle.sms_centre_rows.specs.declared.reports.report.ReportRow.{ReportRow}
use Rattle.sms_centre_rows.proofs.reports.AllWaiting.{report_found}
use Rattle.sms_centre_rows.proofs.waiting.LinksRepresented.{link_of_handset}
use Rattle.sms_centre_rows.proofs.reports.ReportKinds.{no_status}
use Rattle.sms_rows.specs.table.Table.{Rises, put, row_at}
use Rattle.sms_rows.proofs.table.Tables.{among_found, found_among}
use Rattle.sms_centre_rows.specs.waiting.Keys.{queued_key}
use Rattle.sms_centre_rows.specs.waiting.Links.{Links, is_ready, link_of}
use Rattle.sms_centre_rows.specs.waiting.Revisions.{amended}
use Rattle.sms_centre_rows.specs.waiting.Trying.{finished}
use Rattle.sms_centre_rows.specs.waiting.Waiting.{next}
use Rattle.sms_centre_rows.specs.declared.waiting.handset.HandsetRow.{HandsetRow}
use Rattle.sms_centre_rows.specs.declared.waiting.handset_link.HandsetLink.{HandsetLink}
use Rattle.sms_centre_rows.specs.declared.waiting.queued_part.QueuedPart.{QueuedPart}
use Rattle.sms_centre_rows.specs.declared.waiting.progress.Progress.{Progress}
use Rattle.sms_centre_spec.proofs.forgetting.Runs.{among_so}
use Rattle.sms_centre_spec.specs.CentreEvent.{follow}
use Rattle.sms_centre_spec.specs.Draft.{Core, Draft, Store, draft_of, handsets_in, messages_in, priorities_in, parts_in, reports_in, waiting_in, with_reports}
use Rattle.sms_centre_spec.specs.Offering.{offer_all, offer_among, offer_queued, offer_to}
use Rattle.sms_centre_spec.specs.Requests.{account_at, queried, query, query_by}
use Rattle.sms_centre_spec.specs.Sessions.{answered_by, receipt_answered}
use Rattle.sms_centre_spec.specs.SoundCore.{IsReceiptRow, IsSoundCore}
use Rattle.sms_world.specs.centre_runs_are_steps.Offered.{IsOffered}
use Rattle.sms_world.specs.centre_runs_are_steps.OfferedLaws.{AnsweredLaw, QueryLaw}

-- ---- where all was offered, nothing is

nothing_to : (number : List ℕ) (s : Store) (links : Links) → IsOffered s links.all → offer_to number s links ≡ links
nothing_to number s links k =
    let link : HandsetLink = link_of number links.all in
    let own : link.handset ≡ number = link_of_handset number links.all in
    cond_both (is_ready link) (offer_among link (waiting_in link.handset s) s links) links (λ (a : Links). a ≡ links)
    (λ t. ap (λ (o : Option QueuedPart). offer_queued link (waiting_in link.handset s) o s links) (ap (λ (n : List ℕ). next s.moment (waiting_in n s)) own ∙ k number t))
    (λ t. refl)

pub nothing_offered : (hs : List HandsetRow) (s : Store) (links : Links) → IsOffered s links.all → offer_all hs s links ≡ links
nothing_offered [] s links k = refl
nothing_offered (h ∷ hs) s links k = ap (λ (a : Links). offer_all hs s a) (nothing_to h.number s links k) ∙ nothing_offered hs s links k

-- ---- a question

queried_store : (m : Option MessageRow) (d : Draft) → (queried m d).store ≡ d.store
queried_store None d = refl
queried_store (Some m) d = refl

queried_links : (m : Option MessageRow) (d : Draft) → (queried m d).links ≡ d.links
queried_links None d = refl
queried_links (Some m) d = refl

asked : (a : Option CentreAccount) (q : QuerySm) (d : Draft) → ((query_by a q d).store ≡ d.store) × ((query_by a q d).links ≡ d.links)
asked None q d = (refl, refl)
asked (Some a) q d = (queried_store _ d, queried_links _ d)

-- what changes neither the rows nor the links
unchanged : (x d : Draft) → x.store ≡ d.store → x.links ≡ d.links → IsOffered d.store d.links.all → (follow x).links ≡ d.links
unchanged x d e f k =
    ap (λ (s : Store). offer_all (handsets_in s) s x.links) e ∙ ap (λ (a : Links). offer_all (handsets_in d.store) d.store a) f ∙ nothing_offered (handsets_in d.store) d.store d.links k

pub query_nothing : QueryLaw
query_nothing account q c k =
    let d : Draft = draft_of c in
    let x = asked (account_at account c.rows.setup.accounts) q d in
    unchanged (query account q d) d x.0 x.1 k

-- ---- an answer to a receipt

-- a report that is no status report never waits for a handset
never_waits : (handset : List ℕ) (r : ReportRow) (o : Option MessageRow) → is_status r.kind ≡ false → reports_to handset r o ≡ false
never_waits handset r None e = refl
never_waits handset r (Some m) e = ap (λ (b : Bool). (b && not r.progress.is_done) && bytes_eq m.source.digits handset) e

waits_alike : (handset : List ℕ) (ms : List MessageRow) (key : ℕ) (q : Progress) (rs : List ReportRow) (all_queued : List QueuedPart)
    → ((r : ReportRow) → Among r rs → report_key r ≡ key → is_status r.kind ≡ false)
    → with_queued handset ms (amended report_key report_reaching key q rs) all_queued ≡ with_queued handset ms rs all_queued
waits_alike handset ms key q [] all_queued f = refl
waits_alike handset ms key q (r ∷ rs) all_queued f =
    let rest = waits_alike handset ms key q rs all_queued (λ x i e. f x (inr i) e) in
    let more : ReportRow → List QueuedPart → List QueuedPart = λ x ls. if reports_to handset x (message_at x.id ms) then put queued_key (report_queued x) ls else ls in
    let head : (ls : List QueuedPart) → more (if report_key r == key then report_reaching q r else r) ls ≡ more r ls = λ ls.
    cond_both (report_key r == key) (report_reaching q r) r (λ (x : ReportRow). more x ls ≡ more r ls)
    (λ t.
    let plain : is_status r.kind ≡ false = f r (inl refl) (eqb-true (report_key r) key t) in
    cond-false (reports_to handset (report_reaching q r) (message_at r.id ms)) (put queued_key (report_queued (report_reaching q r)) ls) ls (never_waits handset (report_reaching q r) (message_at r.id ms) plain)
    ∙ sym (cond-false (reports_to handset r (message_at r.id ms)) (put queued_key (report_queued r) ls) ls (never_waits handset r (message_at r.id ms) plain)))
    (λ t. refl) in
    head (with_queued handset ms (amended report_key report_reaching key q rs) all_queued) ∙ ap (λ (ls : List QueuedPart). more r ls) rest

-- what was sent in a session is a receipt
pub receipt_there : (c : Core) (session : Session) (number : ℕ) → IsSoundCore c → row_at session_key number c.sessions ≡ Some session → (n : ℕ) → Among n session.unanswered
    → (r : ReportRow) → report_of n c.rows.reports ≡ Some r → is_status r.kind ≡ false
receipt_there c session number sound e n i r q =
    let x : IsReceiptRow c.rows n = (sound.each_session session (found_among session_key number session c.sessions e)).unanswered n i in
    ap (λ (z : ReportRow). is_status z.kind) (sym (same_Some x.0 r (sym x.1.0 ∙ q))) ∙ no_status x.0.kind x.1.1

-- what waits is as before
ended_offered : (accepted : Bool) (n id : ℕ) (o : Option ReportRow) (s : Store) (links : List HandsetLink) → Rises report_key (reports_in s) → report_of id (reports_in s) ≡ o → ((r : ReportRow) → o ≡ Some r → is_status r.kind ≡ false)
    → IsOffered s links → IsOffered (with_reports (receipt_ended accepted n o s.reports) s) links
ended_offered accepted n id None s links keys there f k = k
ended_offered accepted n id (Some r) s links keys there f k = λ number ready.
    let q : Progress = if accepted then finished r.progress else receipt_tried n r.progress in
    let rs : List ReportRow = reports_in s in
    let own : row_at report_key (report_key r) rs ≡ Some r = among_found report_key r rs keys (report_found id r rs there).0 in
    let same : waiting_in number (with_reports (receipt_ended accepted n (Some r) s.reports) s) ≡ waiting_in number s =
    waits_alike number (messages_in s) (report_key r) q rs (parts_waiting number (messages_in s) (priorities_in s) (parts_in s))
    (λ x i e.
    let both : Some x ≡ Some r = sym (among_found report_key x rs keys i) ∙ ap (λ (key : ℕ). row_at report_key key rs) e ∙ own in
    ap (λ (y : ReportRow). is_status y.kind) (same_Some x r both) ∙ f r refl) in
    ap (λ (ls : List QueuedPart). next s.moment ls) same ∙ k number ready

answered_offered : (id : ℕ) (accepted : Bool) (o : Option Session) (d : Draft) → ((session : Session) → o ≡ Some session → (n : ℕ) → Among n session.unanswered → (r : ReportRow) → report_of n (reports_in d.store) ≡ Some r → is_status r.kind ≡ false)
    → Rises report_key (reports_in d.store) → IsOffered d.store d.links.all → (follow (answered_by id accepted o d)).links ≡ d.links
answered_offered id accepted None d f keys k = nothing_offered (handsets_in d.store) d.store d.links k
answered_offered id accepted (Some session) d f keys k =
    let e : Draft = record d { store = receipt_answered id accepted d.store; bindings = answered_in id session d.bindings } in
    cond_both (is_among id session.unanswered) e d (λ (x : Draft). (follow x).links ≡ d.links)
    (λ t. nothing_offered (handsets_in d.store) (receipt_answered id accepted d.store) d.links
    (ended_offered accepted d.store.moment id (report_of id (reports_in d.store)) d.store d.links.all keys refl (λ r q. f session refl id (among_so id session.unanswered t) r q) k))
    (λ t. nothing_offered (handsets_in d.store) d.store d.links k)

pub answered_nothing : AnsweredLaw
answered_nothing session id accepted c sound k =
    let d : Draft = draft_of c in
    answered_offered id accepted (row_at session_key session c.sessions) d (λ x e n i r q. receipt_there c x session sound e n i r q) sound.rows.reports.keys k
