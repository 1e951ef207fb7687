-- Each request of a seat has one answer of the centre, and a connection takes the answers to its own.
use Rattle.std.proofs.Common.{◌≡◌, ◌==◌, ◌+◌, ◌∙◌, ℕ, zero, suc, Bool, true, false, List, [], ◌∷◌, ◌++◌, length, map, Option, if◌then◌else◌, refl, sym, ap, subst, append_assoc, zero-add, arith}
use Rattle.std.specs.Prelude.{⊤}
use Rattle.std.proofs.lemmas.List.{map-append}
use Rattle.sms_base.proofs.Lists.{no_items}
use Rattle.sms_centre_spec.specs.declared.answer.CentreAnswer.{CentreAnswer}
use Rattle.sms_centre_spec.specs.declared.jobs.job.Job.{Job}
use Rattle.sms_centre_spec.specs.declared.jobs.reply.Reply.{Reply}
use Rattle.sms_centre_spec.specs.declared.jobs.reply.Reply.TheVariants.{Answer, Receipt, Frame, Taken}
use Rattle.sms_centre_spec.specs.jobs.Requests.{is_request}
use Rattle.sms_seats.specs.Jobs.{jobs_among}
use Rattle.sms_keeper.specs.declared.machine.Item.{Item}
use Rattle.sms_keeper.specs.declared.machine.Stimulus.{Stimulus}
use Rattle.sms_keeper.specs.declared.machine.Stimulus.TheVariants.{Job as JobOf, Tick, Own}
use Rattle.sms_keeper.specs.declared.outs.Out.{Out}
use Rattle.sms_keeper.specs.History.{IsHistory, answers_in as replies_in, asked_by, for_seat, jobs_of, outs_to}
use Rattle.smsc_loop.specs.Calls.{Call, jobs_put, replies_taken}
use Rattle.smsc_loop.specs.Owing.{answers_in}
use Rattle.smsc_service.specs.Serving.{Serving, after, gives}
use Rattle.smsc_server.specs.Exchanges.{Exchange, AreExchanged, AreLastExchanged, HaveExchanges, answered_in, answers_among, asked_in, exchange, exchanges, exchanges_at, requests_among}
use Rattle.smsc_server.specs.serving.Connections.{Admitted, Connection, calls_of}
use Rattle.smsc_server.specs.serving.Stretches.{HaveStretches, IsLastStretch, IsStretch}
use Rattle.smsc_server.proofs.serving.OneAnswer.{one_given, one_if, requests_of}
use Rattle.smsc_server.proofs.serving.Stretched.{jobs_first}
use Rattle.smsc_server.proofs.RunKept.{between}

-- ---- lists

pub requests_join : (a b : List Job) → requests_among (a ++ b) ≡ requests_among a ++ requests_among b
requests_join [] b = refl
requests_join (job ∷ a) b = by_kind (is_request job) (requests_join a b)
  where
    by_kind : (is : Bool) → requests_among (a ++ b) ≡ requests_among a ++ requests_among b
        → (if is then job ∷ requests_among (a ++ b) else requests_among (a ++ b)) ≡ (if is then job ∷ requests_among a else requests_among a) ++ requests_among b
    by_kind true e = ap (λ (l : List Job). job ∷ l) e
    by_kind false e = e

pub answers_join : (a b : List Reply) → answers_among (a ++ b) ≡ answers_among a ++ answers_among b
answers_join [] b = refl
answers_join (Answer answer ∷ a) b = ap (λ (l : List CentreAnswer). answer ∷ l) (answers_join a b)
answers_join (Receipt end ∷ a) b = answers_join a b
answers_join (Frame octets ∷ a) b = answers_join a b
answers_join (Taken ∷ a) b = answers_join a b

answers_count : (l : List Reply) → length (answers_among l) ≡ answers_in l
answers_count [] = refl
answers_count (Answer answer ∷ l) = ap suc (answers_count l)
answers_count (Receipt end ∷ l) = answers_count l
answers_count (Frame octets ∷ l) = answers_count l
answers_count (Taken ∷ l) = answers_count l

zero_suc : (n : ℕ) → 0 ≡ suc n → ⊥
zero_suc n e = omega (arith, e)

-- ---- one item

record IsExchangedAt (n : ℕ) (stimulus : Stimulus Job) (answers : List CentreAnswer) : Type 0 where
  pub asked : map asked_in (exchanges_at n stimulus answers) ≡ requests_among (for_seat n (asked_by stimulus))
  pub answered : map answered_in (exchanges_at n stimulus answers) ≡ answers

one_asked : (job : Job) (answers : List CentreAnswer) → length answers ≡ 1 → map asked_in (map (exchange job) answers) ≡ job ∷ []
one_asked job [] e = absurd (zero_suc zero e)
one_asked job (answer ∷ []) e = refl
one_asked job (answer ∷ next ∷ answers) e = absurd (omega (arith, e))

one_answered : (job : Job) (answers : List CentreAnswer) → map answered_in (map (exchange job) answers) ≡ answers
one_answered job [] = refl
one_answered job (answer ∷ answers) = ap (λ (l : List CentreAnswer). answer ∷ l) (one_answered job answers)

asked_at : (job : Job) (answers : List CentreAnswer) (at is : Bool) → length answers ≡ one_if at is
    → map asked_in (if at then (if is then map (exchange job) answers else []) else []) ≡ (if at then (if is then job ∷ [] else []) else [])
asked_at job answers true true e = one_asked job answers e
asked_at job answers true false e = refl
asked_at job answers false is e = refl

answered_at : (job : Job) (answers : List CentreAnswer) (at is : Bool) → length answers ≡ one_if at is
    → map answered_in (if at then (if is then map (exchange job) answers else []) else []) ≡ answers
answered_at job answers true true e = one_answered job answers
answered_at job answers true false e = sym (no_items answers e)
answered_at job answers false is e = sym (no_items answers e)

requests_if : (job : Job) (at : Bool) → (if at then (if is_request job then job ∷ [] else []) else []) ≡ requests_among (if at then job ∷ [] else [])
requests_if job true = refl
requests_if job false = refl

exchanged_at : (n : ℕ) (stimulus : Stimulus Job) (answers : List CentreAnswer) → length answers ≡ requests_of n stimulus → IsExchangedAt n stimulus answers
exchanged_at n (JobOf seat job) answers e = record {
  asked = asked_at job answers (n == seat) (is_request job) e ∙ requests_if job (n == seat);
  answered = answered_at job answers (n == seat) (is_request job) e;
}
exchanged_at n (Tick now) answers e = record { asked = refl; answered = sym (no_items answers e) }
exchanged_at n (Own errand) answers e = record { asked = refl; answered = sym (no_items answers e) }

-- ---- a part of the history

module _ (n : ℕ) where
  abbrev given : Serving → Item Job Reply → List CentreAnswer
  given s e = answers_among (outs_to n (gives s e.stimulus e.fate))

  given_count : (s : Serving) (e : Item Job Reply) → length (given s e) ≡ requests_of n e.stimulus
  given_count s e = answers_count (outs_to n (gives s e.stimulus e.fate)) ∙ one_given s n e.stimulus e.fate

  pub all_asked : (s : Serving) (items : List (Item Job Reply)) → map asked_in (exchanges n s items) ≡ requests_among (jobs_of n items)
  all_asked s [] = refl
  all_asked s (e ∷ items) =
      map-append asked_in (exchanges_at n e.stimulus (given s e)) (exchanges n (after s e.stimulus e.fate) items)
      ∙ (ap (λ (l : List Job). l ++ map asked_in (exchanges n (after s e.stimulus e.fate) items)) (exchanged_at n e.stimulus (given s e) (given_count s e)).asked
      ∙ (ap (λ (l : List Job). requests_among (for_seat n (asked_by e.stimulus)) ++ l) (all_asked (after s e.stimulus e.fate) items)
      ∙ (sym (requests_join (for_seat n (asked_by e.stimulus)) (jobs_of n items)) ∙ ap requests_among (sym (jobs_first n e items)))))

  pub all_answered : (s : Serving) (items : List (Item Job Reply)) (t : Serving) → IsHistory gives after s items t
      → map answered_in (exchanges n s items) ≡ answers_among (replies_in n items)
  all_answered s [] t h = refl
  all_answered s (e ∷ items) t h =
      map-append answered_in (exchanges_at n e.stimulus (given s e)) (exchanges n (after s e.stimulus e.fate) items)
      ∙ (ap (λ (l : List CentreAnswer). l ++ map answered_in (exchanges n (after s e.stimulus e.fate) items)) (exchanged_at n e.stimulus (given s e) (given_count s e)).answered
      ∙ (ap (λ (l : List CentreAnswer). given s e ++ l) (all_answered (after s e.stimulus e.fate) items t h.1)
      ∙ (ap (λ (l : List (Out Reply)). answers_among (outs_to n l) ++ answers_among (replies_in n items)) (sym h.0)
      ∙ sym (answers_join (outs_to n e.outs) (replies_in n items)))))

-- ---- the connections of a seat

module _ {S : Type 0} (remaining contents : S → Option (List ℕ)) (admitted : Admitted) (n : ℕ) where
  own_exchanged : (s : Serving) (items : List (Item Job Reply)) (t : Serving) (calls : List Call) → IsHistory gives after s items t → IsStretch n calls items
      → AreExchanged n s calls items
  own_exchanged s items t calls h k = record {
    requests = all_asked n s items ∙ ap requests_among k.jobs;
    answers = all_answered n s items t h ∙ ap answers_among k.replies;
  }

  last_exchanged : (s : Serving) (items : List (Item Job Reply)) (t : Serving) (calls : List Call) → IsHistory gives after s items t → IsLastStretch n calls items
      → AreLastExchanged n s calls items
  last_exchanged s items t calls h k = record {
    requests = all_asked n s items ∙ ap requests_among k.jobs;
    left = answers_among k.left;
    answers = all_answered n s items t h ∙ (ap answers_among k.replies ∙ answers_join (replies_taken calls) k.left);
  }

  pub exchanged : (cs : List (Connection remaining contents admitted)) (s : Serving) (items : List (Item Job Reply)) (t : Serving) → IsHistory gives after s items t
      → HaveStretches remaining contents admitted n cs items → HaveExchanges remaining contents admitted n s cs items
  exchanged [] s items t h k = tt
  exchanged (c ∷ []) s items t h k = last_exchanged s items t (calls_of remaining contents admitted c) h k
  exchanged (c ∷ next ∷ cs) s items t h k =
      let p = between k.0 k.1 s t (subst (λ (l : List (Item Job Reply)). IsHistory gives after s l t) k.2 h) in (
        k.0,
        k.1,
        p.0,
        k.2,
        p.1,
        own_exchanged s k.0 p.0 (calls_of remaining contents admitted c) p.1 k.3,
        exchanged (next ∷ cs) p.0 k.1 t p.2 k.4,
      )
