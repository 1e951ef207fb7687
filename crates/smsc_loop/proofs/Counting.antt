-- How many answers a seat has still to get.
use Rattle.std.proofs.Common.{◌≡◌, ◌<◌, ◌≤◌, ◌==◌, ◌⊎◌, inl, inr, ℕ, zero, suc, ◌+◌, ◌-◌, List, [], ◌∷◌, ◌++◌, Option, Some, None, Bool, true, false, if◌then◌else◌, nat_lt, refl, sym, ap, subst, ◌∙◌, true≢false, arith}
use Rattle.std.proofs.lemmas.Bool.{cases_lt, le-ltb, lt-ltb, ne_eqb}
use Rattle.sms_centre_spec.specs.declared.answer.CentreAnswer.{CentreAnswer}
use Rattle.sms_centre_spec.specs.declared.jobs.job.Job.{Job}
use Rattle.sms_centre_spec.specs.declared.jobs.reply.Reply.{Reply}
use Rattle.sms_centre_spec.specs.declared.jobs.reply.Reply.TheVariants.{Answer, Receipt, Frame, Taken}
use Rattle.sms_centre_spec.specs.jobs.Requests.{is_request}
use Rattle.smsc_loop.specs.Owing.{TakesTurns, ahead_after, answers_in, asks_nothing, awaited_after, awaited_with, ends_answered, ends_asked, ends_vacant, is_ahead, is_answer, is_vacancy, most_in_queue, requests_in}

abbrev counted_in : Bool → ℕ → ℕ
counted_in b n = if b then suc n else n

-- one job more is one request more, if it has an answer
pub requests_next : (put : List (Option Job)) (job : Job) → requests_in (put ++ Some job ∷ []) ≡ counted_in (is_request job) (requests_in put)
requests_next [] job = refl
requests_next (None ∷ put) job = requests_next put job
requests_next (Some first ∷ put) job =
    ap (counted_in (is_request first)) (requests_next put job) ∙ twice (is_request first) (is_request job) (requests_in put)
  where
    twice : (a b : Bool) (n : ℕ) → counted_in a (counted_in b n) ≡ counted_in b (counted_in a n)
    twice true true n = refl
    twice true false n = refl
    twice false true n = refl
    twice false false n = refl

-- one answer more
pub answers_more : (taken : List Reply) (answer : CentreAnswer) → answers_in (taken ++ Answer answer ∷ []) ≡ suc (answers_in taken)
answers_more [] answer = refl
answers_more (Answer first ∷ taken) answer = ap suc (answers_more taken answer)
answers_more (Receipt end ∷ taken) answer = answers_more taken answer
answers_more (Frame octets ∷ taken) answer = answers_more taken answer
answers_more (Taken ∷ taken) answer = answers_more taken answer

-- any other reply is none
pub answers_same : (taken : List Reply) (reply : Reply) → is_answer reply ≡ false → answers_in (taken ++ reply ∷ []) ≡ answers_in taken
answers_same [] (Answer answer) e = absurd (true≢false e)
answers_same [] (Receipt end) e = refl
answers_same [] (Frame octets) e = refl
answers_same [] Taken e = refl
answers_same (Answer first ∷ taken) reply e = ap suc (answers_same taken reply e)
answers_same (Receipt end ∷ taken) reply e = answers_same taken reply e
answers_same (Frame octets ∷ taken) reply e = answers_same taken reply e
answers_same (Taken ∷ taken) reply e = answers_same taken reply e

-- what was taken ends with the reply that was taken last
pub ends_with : (taken : List Reply) (reply : Reply) → ends_answered (taken ++ reply ∷ []) ≡ is_answer reply
ends_with [] reply = refl
ends_with (first ∷ []) reply = refl
ends_with (first ∷ next ∷ taken) reply = ends_with (next ∷ taken) reply

-- and what was put with the job that was put last
pub ends_in : (put : List (Option Job)) (job : Job) → ends_asked (put ++ Some job ∷ []) ≡ asks_nothing job
ends_in [] job = refl
ends_in (first ∷ []) job = refl
ends_in (first ∷ next ∷ put) job = ends_in (next ∷ put) job

pub last_job : (put put_then : List (Option Job)) (job : Job) (is : Bool) → is ≡ asks_nothing job → put_then ≡ put ++ Some job ∷ []
    → is ≡ true → ends_asked put_then ≡ true
last_job put put_then job is e f so = ap ends_asked f ∙ (ends_in put job ∙ (sym e ∙ so))

pub asked_kept : (put put_then : List (Option Job)) (is : Bool) → (is ≡ true → ends_asked put ≡ true) → put_then ≡ put
    → is ≡ true → ends_asked put_then ≡ true
asked_kept put put_then is known e so = ap ends_asked e ∙ known so

pub last_reply : (taken taken_then : List Reply) (reply : Reply) (is : Bool) → is ≡ is_answer reply → taken_then ≡ taken ++ reply ∷ []
    → is ≡ true → ends_answered taken_then ≡ true
last_reply taken taken_then reply is e f so = ap ends_answered f ∙ (ends_with taken reply ∙ (sym e ∙ so))

pub answered_kept : (taken taken_then : List Reply) (is : Bool) → (is ≡ true → ends_answered taken ≡ true) → taken_then ≡ taken
    → is ≡ true → ends_answered taken_then ≡ true
answered_kept taken taken_then is known e so = ap ends_answered e ∙ known so

pub vacant_with : (taken : List Reply) (reply : Reply) → ends_vacant (taken ++ reply ∷ []) ≡ is_vacancy reply
vacant_with [] reply = refl
vacant_with (first ∷ []) reply = refl
vacant_with (first ∷ next ∷ taken) reply = vacant_with (next ∷ taken) reply

pub last_vacancy : (taken taken_then : List Reply) (reply : Reply) (is : Bool) → is ≡ is_vacancy reply → taken_then ≡ taken ++ reply ∷ []
    → is ≡ true → ends_vacant taken_then ≡ true
last_vacancy taken taken_then reply is e f so = ap ends_vacant f ∙ (vacant_with taken reply ∙ (sym e ∙ so))

pub vacant_kept : (taken taken_then : List Reply) (is : Bool) → (is ≡ true → ends_vacant taken ≡ true) → taken_then ≡ taken
    → is ≡ true → ends_vacant taken_then ≡ true
vacant_kept taken taken_then is known e so = ap ends_vacant e ∙ known so

-- ---- the count of a seat

one_more : (b : Bool) (r h a w : ℕ) → r + h ≡ a + w → counted_in b r + h ≡ a + counted_in b w
one_more true r h a w e = omega arith
one_more false r h a w e = e

one_less : (r h a w : ℕ) → r + h ≡ a + w → r + (if w == 0 then suc h else h) ≡ suc a + (w - 1)
one_less r h a zero e = let now : r + suc h ≡ suc a + 0 = omega arith in now
one_less r h a (suc w) e =
    let some : (suc w == 0) ≡ false = ne_eqb (suc w) 0 (λ z. omega (arith, z)) in
    let is : (if suc w == 0 then suc h else h) ≡ h = ap (λ (b : Bool). if b then suc h else h) some in
    omega (arith, e, is)

module _ (put put_then : List (Option Job)) (taken taken_then : List Reply) (awaited ahead : ℕ)
    (counted : requests_in put + ahead ≡ answers_in taken + awaited) where
  -- a job is put
  pub counted_job : (job : Job) (left : ℕ) → left ≡ awaited_with job awaited → put_then ≡ put ++ Some job ∷ [] → taken_then ≡ taken
      → requests_in put_then + ahead ≡ answers_in taken_then + left
  counted_job job left d e f =
      let requests : requests_in put_then ≡ counted_in (is_request job) (requests_in put) = ap requests_in e ∙ requests_next put job in
      let answers : answers_in taken_then ≡ answers_in taken = ap answers_in f in
      ap (λ (n : ℕ). n + ahead) requests ∙ (one_more (is_request job) (requests_in put) ahead (answers_in taken) awaited counted
      ∙ (ap (λ (n : ℕ). n + counted_in (is_request job) awaited) (sym answers) ∙ ap (λ (n : ℕ). answers_in taken_then + n) (sym d)))

  -- and the seat takes its turns
  pub turns_job : (job : Job) (left : ℕ) → left ≡ awaited_with job awaited → put_then ≡ put ++ Some job ∷ [] → taken_then ≡ taken
      → left ≤ most_in_queue → TakesTurns put_then taken_then
  turns_job job left d e f few =
      at_most (requests_in put_then) ahead (answers_in taken_then) left most_in_queue (counted_job job left d e f) few
    where
      at_most : (r h a w most : ℕ) → r + h ≡ a + w → w ≤ most → r ≤ a + most
      at_most r h a w most e l = omega arith

  counted_among : (reply : Reply) → requests_in put + ahead_after reply awaited ahead ≡ answers_in (taken ++ reply ∷ []) + awaited_after reply awaited
  counted_among (Answer answer) =
      one_less (requests_in put) ahead (answers_in taken) awaited counted ∙ ap (λ (n : ℕ). n + (awaited - 1)) (sym (answers_more taken answer))
  counted_among (Receipt end) = counted ∙ ap (λ (n : ℕ). n + awaited) (sym (answers_same taken (Receipt end) refl))
  counted_among (Frame octets) = counted ∙ ap (λ (n : ℕ). n + awaited) (sym (answers_same taken (Frame octets) refl))
  counted_among Taken = counted ∙ ap (λ (n : ℕ). n + awaited) (sym (answers_same taken Taken refl))

  -- a reply is taken
  pub counted_reply : (reply : Reply) (left more : ℕ) → left ≡ awaited_after reply awaited → more ≡ ahead_after reply awaited ahead
      → put_then ≡ put → taken_then ≡ taken ++ reply ∷ [] → requests_in put_then + more ≡ answers_in taken_then + left
  counted_reply reply left more d m e f =
      let requests : requests_in put_then ≡ requests_in put = ap requests_in e in
      let answers : answers_in taken_then ≡ answers_in (taken ++ reply ∷ []) = ap answers_in f in
      let known = counted_among reply in
      omega arith

-- more answers than requests
pub ahead_is : (put : List (Option Job)) (taken : List Reply) (awaited ahead : ℕ) → requests_in put + ahead ≡ answers_in taken + awaited
    → nat_lt awaited ahead ≡ is_ahead put taken
ahead_is put taken awaited ahead counted = less (requests_in put) ahead (answers_in taken) awaited counted (cases_lt (requests_in put) (answers_in taken))
  where
    less : (r h a w : ℕ) → r + h ≡ a + w → (r < a) ⊎ (a ≤ r) → nat_lt w h ≡ nat_lt r a
    less r h a w e (inl l) = lt-ltb w h (omega (arith, e, l)) ∙ sym (lt-ltb r a l)
    less r h a w e (inr l) = le-ltb w h (omega (arith, e, l)) ∙ sym (le-ltb r a l)

-- ---- turns

fewer : (n most : ℕ) → n ≤ most → n - 1 ≤ most
fewer zero most h = h
fewer (suc n) most h = omega arith

few_among : (reply : Reply) (awaited : ℕ) → awaited ≤ most_in_queue → awaited_after reply awaited ≤ most_in_queue
few_among (Answer answer) awaited h = fewer awaited most_in_queue h
few_among (Receipt end) awaited h = h
few_among (Frame octets) awaited h = h
few_among Taken awaited h = h

pub few_after : (reply : Reply) (awaited left : ℕ) → left ≡ awaited_after reply awaited → awaited ≤ most_in_queue → left ≤ most_in_queue
few_after reply awaited left e h = subst (λ (n : ℕ). n ≤ most_in_queue) (sym e) (few_among reply awaited h)

-- ---- whether an answer is due

pub due_as : (put put_then : List (Option Job)) (taken taken_then : List Reply) (reply : Reply) (is known : Bool) → is ≡ is_ahead put_then taken_then
    → put_then ≡ put → taken_then ≡ taken ++ reply ∷ [] → is ≡ known → is_ahead put (taken ++ reply ∷ []) ≡ known
due_as put put_then taken taken_then reply is known d e f so =
    ap (λ (l : List (Option Job)). is_ahead l (taken ++ reply ∷ [])) (sym e) ∙ (ap (λ (l : List Reply). is_ahead put_then l) (sym f) ∙ (sym d ∙ so))
