-- How many jobs have an answer.
use Rattle.std.proofs.Common.{◌≡◌, ℕ, suc, ◌+◌, ◌<◌, ◌≤◌, min, Bool, true, false, cond, List, [], ◌∷◌, ◌++◌, length, refl, ap, ◌∙◌, arith}
use Rattle.sms_centre_spec.specs.declared.jobs.job.Job.{Job}
use Rattle.sms_centre_spec.specs.jobs.Requests.{is_request}
use Rattle.smsc_endpoint.specs.Outbox.{requests_among}

abbrev pub counted_in : Bool → ℕ → ℕ
counted_in is n = cond is (suc n) n

swap_counts : (a b : Bool) (n : ℕ) → counted_in a (counted_in b n) ≡ counted_in b (counted_in a n)
swap_counts true true n = refl
swap_counts true false n = refl
swap_counts false true n = refl
swap_counts false false n = refl

pub one_behind : (jobs : List Job) (job : Job) → requests_among (jobs ++ job ∷ []) ≡ counted_in (is_request job) (requests_among jobs)
one_behind [] job = refl
one_behind (first ∷ jobs) job =
    ap (counted_in (is_request first)) (one_behind jobs job) ∙ swap_counts (is_request first) (is_request job) (requests_among jobs)

at_most_one : (is : Bool) (n m : ℕ) → n ≤ m → counted_in is n ≤ suc m
at_most_one true n m h = omega (arith, h)
at_most_one false n m h = omega (arith, h)

pub few : (jobs : List Job) → requests_among jobs ≤ length jobs
few [] = omega arith
few (job ∷ jobs) = at_most_one (is_request job) (requests_among jobs) (length jobs) (few jobs)

-- one more is counted, since a queue has fewer than 2^63 jobs
pub one_more : (jobs new : List Job) (job : Job) (requests sum len cap : ℕ) → requests ≡ requests_among jobs → len ≡ length jobs → len ≤ cap
    → cap < 9223372036854775808 → requests_among new ≡ counted_in (is_request job) (requests_among jobs) → is_request job ≡ true
    → sum ≡ min (requests + 1) 18446744073709551615 → sum ≡ requests_among new
one_more jobs new job requests sum len cap counts is fits small more t s =
    let count : requests_among new ≡ suc (requests_among jobs) = more ∙ ap (λ (b : Bool). counted_in b (requests_among jobs)) t in
    omega (arith, count, few jobs, counts, is, fits, small, s)

pub no_more : (jobs new : List Job) (job : Job) (requests : ℕ) → requests ≡ requests_among jobs
    → requests_among new ≡ counted_in (is_request job) (requests_among jobs) → is_request job ≡ false → requests ≡ requests_among new
no_more jobs new job requests counts more f =
    let count : requests_among new ≡ requests_among jobs = more ∙ ap (λ (b : Bool). counted_in b (requests_among jobs)) f in
    omega (arith, count, counts)

pub behind : (jobs new : List Job) (job : Job) → new ≡ jobs ++ job ∷ [] → requests_among new ≡ counted_in (is_request job) (requests_among jobs)
behind jobs new job e = ap requests_among e ∙ one_behind jobs job

pub before : (jobs new : List Job) (job : Job) → new ≡ job ∷ jobs → requests_among new ≡ counted_in (is_request job) (requests_among jobs)
before jobs new job e = ap requests_among e
