-- The session with the fewest unanswered, found from left to right.
use Rattle.std.proofs.Common.{◌≡◌, ℕ, ◌<◌, ◌≤◌, List, [], ◌∷◌, Bool, true, false, Option, Some, None, refl, sym, ◌∙◌, ap, drop, length, ⊎_elim, arith}
use Rattle.std.specs.Option.{option_map}
use Rattle.std.specs.Prelude.{nat_le, if◌then◌else◌}
use Rattle.std.proofs.lemmas.List.{drop_all}
use Rattle.std.proofs.lemmas.Bool.{cases_Bool, cases_lt, cond-true, cond-false, le-leb, leb-true}
use Rattle.sms_centre_rows.specs.reports.Receipts.{Session, fewer_unanswered, fewest_unanswered}
use Rattle.sms_centre_reports.specs.open_reports.Serving.{receives_as, serving}
use Rattle.sms_centre_reports.specs.declared.sessions.serving.Candidate.{Candidate}
use Rattle.sms_centre_reports.specs.sessions.SessionReceipts.{candidate_of, fewer}

abbrev one : Candidate → Candidate → Candidate
one a b = if nat_le a.unanswered b.unanswered then a else b

first_one : (a b : Candidate) → a.unanswered ≤ b.unanswered → one a b ≡ a
first_one a b l = cond-true (nat_le a.unanswered b.unanswered) a b (le-leb a.unanswered b.unanswered l)

other_one : (a b : Candidate) → b.unanswered < a.unanswered → one a b ≡ b
other_one a b l = ⊎_elim
    (λ (t : nat_le a.unanswered b.unanswered ≡ true). let k = leb-true a.unanswered b.unanswered t in absurd (omega (arith, k, l)))
    (λ (t : nat_le a.unanswered b.unanswered ≡ false). cond-false (nat_le a.unanswered b.unanswered) a b t)
    (cases_Bool (nat_le a.unanswered b.unanswered))

one_of_three : (a b c : Candidate) → one (one a b) c ≡ one a (one b c)
one_of_three a b c = ⊎_elim
    (λ (l : b.unanswered < a.unanswered).
    ap (λ (x : Candidate). one x c) (other_one a b l) ∙ ⊎_elim
    (λ (k : c.unanswered < b.unanswered). other_one b c k ∙ sym (ap (λ (x : Candidate). one a x) (other_one b c k) ∙ other_one a c (omega (arith, k, l))))
    (λ (k : b.unanswered ≤ c.unanswered). first_one b c k ∙ sym (ap (λ (x : Candidate). one a x) (first_one b c k) ∙ other_one a b l))
    (cases_lt c.unanswered b.unanswered))
    (λ (l : a.unanswered ≤ b.unanswered).
    ap (λ (x : Candidate). one x c) (first_one a b l) ∙ ⊎_elim
    (λ (k : c.unanswered < b.unanswered). sym (ap (λ (x : Candidate). one a x) (other_one b c k)))
    (λ (k : b.unanswered ≤ c.unanswered). first_one a c (omega (arith, k, l)) ∙ sym (ap (λ (x : Candidate). one a x) (first_one b c k) ∙ first_one a b l))
    (cases_lt c.unanswered b.unanswered))
    (cases_lt b.unanswered a.unanswered)

of_three : (a b c : Option Candidate) → fewer (fewer a b) c ≡ fewer a (fewer b c)
of_three None b c = refl
of_three (Some a) None c = refl
of_three (Some a) (Some b) None = refl
of_three (Some a) (Some b) (Some c) = ap (λ (x : Candidate). Some x) (one_of_three a b c)

or_none : (a : Option Candidate) → fewer a None ≡ a
or_none None = refl
or_none (Some a) = refl

of_two : (s : Session) (o : Option Session) → Some (candidate_of (fewer_unanswered s o)) ≡ fewer (Some (candidate_of s)) (option_map candidate_of o)
of_two s None = refl
of_two s (Some t) = ⊎_elim
    (λ (c : nat_le (length s.unanswered) (length t.unanswered) ≡ true).
    ap (λ (x : Session). Some (candidate_of x)) (cond-true (nat_le (length s.unanswered) (length t.unanswered)) s t c)
    ∙ sym (ap (λ (x : Candidate). Some x) (cond-true (nat_le (length s.unanswered) (length t.unanswered)) (candidate_of s) (candidate_of t) c)))
    (λ (c : nat_le (length s.unanswered) (length t.unanswered) ≡ false).
    ap (λ (x : Session). Some (candidate_of x)) (cond-false (nat_le (length s.unanswered) (length t.unanswered)) s t c)
    ∙ sym (ap (λ (x : Candidate). Some x) (cond-false (nat_le (length s.unanswered) (length t.unanswered)) (candidate_of s) (candidate_of t) c)))
    (cases_Bool (nat_le (length s.unanswered) (length t.unanswered)))

abbrev pub serves_as : List ℕ → List Session → Option Candidate
serves_as name ss = option_map candidate_of (serving name ss)

abbrev here : List ℕ → Session → Option Candidate
here name s = if receives_as name s then Some (candidate_of s) else None

one_more : (name : List ℕ) (s : Session) (ss : List Session) → serves_as name (s ∷ ss) ≡ fewer (here name s) (serves_as name ss)
one_more name s ss = ⊎_elim
    (λ (t : receives_as name s ≡ true).
    ap (λ (o : Option Session). option_map candidate_of o) (cond-true (receives_as name s) (Some (fewer_unanswered s (serving name ss))) (serving name ss) t)
    ∙ of_two s (serving name ss)
    ∙ sym (ap (λ (o : Option Candidate). fewer o (serves_as name ss)) (cond-true (receives_as name s) (Some (candidate_of s)) None t)))
    (λ (t : receives_as name s ≡ false).
    ap (λ (o : Option Session). option_map candidate_of o) (cond-false (receives_as name s) (Some (fewer_unanswered s (serving name ss))) (serving name ss) t)
    ∙ sym (ap (λ (o : Option Candidate). fewer o (serves_as name ss)) (cond-false (receives_as name s) (Some (candidate_of s)) None t)))
    (cases_Bool (receives_as name s))

-- one more session was looked at
pub best_on : (name : List ℕ) (best now : Option Candidate) (s : Session) (ss : List Session) → now ≡ fewer best (if receives_as name s then Some (candidate_of s) else None)
    → fewer now (serves_as name ss) ≡ fewer best (serves_as name (s ∷ ss))
best_on name best now s ss is =
    ap (λ (o : Option Candidate). fewer o (serves_as name ss)) is
    ∙ of_three best (here name s) (serves_as name ss)
    ∙ ap (λ (o : Option Candidate). fewer best o) (sym (one_more name s ss))

-- all were looked at
pub all_seen : (name : List ℕ) (ss : List Session) (i : ℕ) (best : Option Candidate) → length ss ≤ i → fewer best (serves_as name (drop i ss)) ≡ serves_as name ss → best ≡ serves_as name ss
all_seen name ss i best l is = sym (or_none best) ∙ ap (λ (rest : List Session). fewer best (serves_as name rest)) (sym (drop_all i ss l)) ∙ is

-- its number
pub number_of : (o : Option Session) → option_map (λ (c : Candidate). c.number) (option_map candidate_of o) ≡ option_map (λ (s : Session). s.number) o
number_of None = refl
number_of (Some s) = refl
