-- The calls of a session and of a link are the loop's.
use Rattle.std.proofs.Common.{◌≡◌, ℕ, ◌≤◌, length, take, Bool, true, false, Result, Ok, Err, sym, ap, subst}
use Rattle.std.specs.Prelude.{IfOk, MatchResult}
use Rattle.std.proofs.lemmas.List.{length-take-le}
use Rattle.sms_centre_spec.specs.declared.jobs.job.Job.{Job}
use Rattle.smsc_loop.specs.Calls.{Sent, Put, PutBack, AskedToLeave}
use Rattle.smsc_endpoint.specs.EsmeCalls.{asked_to_leave, octets_of, handed_back as esme_back, sent as esme_sent}
use Rattle.smsc_endpoint.specs.EsmeDoes.{EsmeDoes}
use Rattle.smsc_endpoint.specs.EsmeView.{EsmeView}
use Rattle.smsc_endpoint.specs.LinkCalls.{handed_back as link_back, sent_off}
use Rattle.smsc_endpoint.specs.LinkDoes.{LinkDoes}
use Rattle.smsc_endpoint.specs.LinkView.{LinkView}

-- ---- a link

pub link_sent : (l m : LinkView) (count : ℕ) → count ≤ length l.outbox.octets → m ≡ sent_off count l
    → LinkDoes (Sent (take count l.outbox.octets)) l m
link_sent l m count fits e =
    let same : length (take count l.outbox.octets) ≡ count = length-take-le count l.outbox.octets fits in
    (ap (λ (n : ℕ). take n l.outbox.octets) (sym same), subst (λ (n : ℕ). m ≡ sent_off n l) (sym same) e)

pub link_puts_back : (l m : LinkView) (job : Job) {E : Type 0} (result : Result Bool E) → IfOk result (λ again. (again, m) ≡ link_back job l)
    → (k : LinkView) → LinkDoes (Put job) k l → MatchResult result (λ again. LinkDoes (PutBack job again true) k m) (λ error. LinkDoes (PutBack job false false) k m)
link_puts_back l m job (Ok again) e k h = (l, h, e)
link_puts_back l m job (Err error) e k h = (l, h, tt)

-- ---- a session

pub esme_is_sent : (e f : EsmeView) (count : ℕ) → count ≤ length (octets_of e) → f ≡ esme_sent count e → EsmeDoes (Sent (take count (octets_of e))) e f
esme_is_sent e f count fits p =
    let same : length (take count (octets_of e)) ≡ count = length-take-le count (octets_of e) fits in
    (ap (λ (n : ℕ). take n (octets_of e)) (sym same), subst (λ (n : ℕ). f ≡ esme_sent n e) (sym same) p)

pub esme_puts_back : (e f : EsmeView) (job : Job) {E : Type 0} (result : Result Bool E) → IfOk result (λ again. (again, f) ≡ esme_back job e)
    → (d : EsmeView) → EsmeDoes (Put job) d e → MatchResult result (λ again. EsmeDoes (PutBack job again true) d f) (λ error. EsmeDoes (PutBack job false false) d f)
esme_puts_back e f job (Ok again) p d h = (e, h, p)
esme_puts_back e f job (Err error) p d h = (e, h, tt)

pub esme_asked : (e f : EsmeView) {E : Type 0} (result : Result Bool E) → IfOk result (λ is_asked. (is_asked, f) ≡ asked_to_leave e)
    → MatchResult result (λ asked. EsmeDoes (AskedToLeave asked true) e f) (λ error. EsmeDoes (AskedToLeave false false) e f)
esme_asked e f (Ok asked) p = p
esme_asked e f (Err error) p = tt
