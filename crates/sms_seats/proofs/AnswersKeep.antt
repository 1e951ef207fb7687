-- Each step keeps the rule of the answers.
use Rattle.std.proofs.Common.{◌≡◌, ◌≢◌, ℕ, true, true≢false, List, [], ◌∷◌, ◌++◌, length, set, sym, refl, ap, ◌∙◌, ⊎_elim, append_assoc}
use mathlib.Core.Option.{some}
use lib.ListN.{get_elem?}
use Rattle.crossbeam_queue.specs.Fifo.{Pushes, Pops, Forks, Merges, Learns}
use Rattle.crossbeam_queue.proofs.Lists.{at_set}
use Rattle.sms_seats.specs.declared.answers.AnswersView.{AnswersView}
use Rattle.sms_seats.specs.Answers.{giver_view, taker_view, joined_view, spent_view, MatchesLog, Relayed}
use Rattle.sms_seats.proofs.Places.{At, at_one, set_at, snoc_at}

module _ {O : Type 0} where
  pub begins : Relayed [] (joined_view {O = O} [] [] ∷ [])
  begins = (0, 0, [], [], refl, at_one (MatchesLog 0 0 [] []) (joined_view [] []) ((λ _. (refl, refl)), λ _. (refl, refl)))

  pub gives : (n port : ℕ) (v : AnswersView O) (x : O) → v.gives ≡ true → Pushes Relayed n port v x (λ w. w ≡ giver_view (v.given ++ x ∷ []))
  gives n port v x may items views _ h at = let w : AnswersView O = giver_view (v.given ++ x ∷ []) in let mine = (h.5 port v at).0 may in let given = h.2 ++ x ∷ [] in (
    w,
    (
      h.0,
      h.1,
      given,
      h.3,
      ap (λ l. l ++ x ∷ []) h.4 ∙ append_assoc h.3 items (x ∷ []),
      set_at (MatchesLog h.0 h.1 given h.3) views port w ((λ _. (mine.0, ap (λ l. l ++ x ∷ []) mine.1)), λ p. absurd (true≢false (sym p)))
          (λ j u other e. ((λ p. absurd (other (((h.5 j u e).0 p).0 ∙ sym mine.0))), (h.5 j u e).1)),
    ),
    refl,
  )

  -- a pop by the pass that takes, whose other fields become a and given'
  pub takes : (port : ℕ) (v : AnswersView O) → v.takes ≡ true → Pops Relayed port v (λ x w. w ≡ taker_view (v.taken ++ x ∷ []))
  takes port v may x items views h at = let w : AnswersView O = taker_view (v.taken ++ x ∷ []) in let mine = (h.5 port v at).1 may in let taken = h.3 ++ x ∷ [] in (
    w,
    (
      h.0,
      h.1,
      h.2,
      taken,
      h.4 ∙ sym (append_assoc h.3 (x ∷ []) items),
      set_at (MatchesLog h.0 h.1 h.2 taken) views port w ((λ p. absurd (true≢false (sym p))), λ _. (mine.0, ap (λ l. l ++ x ∷ []) mine.1))
          (λ j u other e. ((h.5 j u e).0, λ p. absurd (other (((h.5 j u e).1 p).0 ∙ sym mine.0)))),
    ),
    refl,
  )

  pub takes_rest : (port : ℕ) (v : AnswersView O) → v.gives ≡ true → v.takes ≡ true → Pops Relayed port v (λ x w. w ≡ joined_view v.given (v.taken ++ x ∷ []))
  takes_rest port v a may x items views h at = let w : AnswersView O = joined_view v.given (v.taken ++ x ∷ []) in let mine = (h.5 port v at).1 may in let taken = h.3 ++ x ∷ [] in (
    w,
    (
      h.0,
      h.1,
      h.2,
      taken,
      h.4 ∙ sym (append_assoc h.3 (x ∷ []) items),
      set_at (MatchesLog h.0 h.1 h.2 taken) views port w ((λ _. (h.5 port v at).0 a), λ _. (mine.0, ap (λ l. l ++ x ∷ []) mine.1))
          (λ j u other e. ((h.5 j u e).0, λ p. absurd (other (((h.5 j u e).1 p).0 ∙ sym mine.0)))),
    ),
    refl,
  )

  pub totals : (port : ℕ) (v : AnswersView O) → v.gives ≡ true → v.takes ≡ true → Learns Relayed port v (λ items. v.given ≡ v.taken ++ items)
  totals port v a b items views h at = let mine = h.5 port v at in (mine.0 a).1 ∙ h.4 ∙ ap (λ l. l ++ items) (sym (mine.1 b).1)

  pub forks : (port : ℕ) (v : AnswersView O) → v.gives ≡ true → v.takes ≡ true → Forks Relayed port v (giver_view v.given) (taker_view v.taken)
  forks port v a b items views h at = let l : AnswersView O = giver_view v.given in let r : AnswersView O = taker_view v.taken in let mine = h.5 port v at in let vs : List (AnswersView O) = set views port l in
      let F : ℕ → AnswersView O → Type 0 = MatchesLog h.0 (length vs) h.2 h.3 in (
        h.0,
        length vs,
        h.2,
        h.3,
        h.4,
        snoc_at F vs r (set_at F views port l ((λ _. mine.0 a), λ p. absurd (true≢false (sym p))) (λ j u other e. ((h.5 j u e).0, λ p. absurd (other (((h.5 j u e).1 p).0 ∙ sym (mine.1 b).0)))))
            ((λ p. absurd (true≢false (sym p))), λ _. (refl, (mine.1 b).1)),
      )

  -- the keeper's pass takes in the seat's
  pub merges : (port : ℕ) (v : AnswersView O) (other : ℕ) (u : AnswersView O) → v.gives ≡ true → u.takes ≡ true → Merges Relayed port v other u (joined_view v.given u.taken) spent_view
  merges port v other u a b items views h at two at' = let both : AnswersView O = joined_view v.given u.taken in let mine = (h.5 port v at).0 a in let vs : List (AnswersView O) = set views port both in
      let was : get_elem? views other ≡ some u = ⊎_elim (λ x. absurd (two x.0)) (λ x. x.1) (at_set views port other both u at') in let theirs = (h.5 other u was).1 b in
      let G : ℕ → AnswersView O → Type 0 = λ j y. j ≢ other → MatchesLog h.0 port h.2 h.3 j y in
      let now : At G vs = set_at G views port both (λ _. ((λ _. mine), λ _. (refl, theirs.1))) (λ j y away e apart. ((h.5 j y e).0, λ p. absurd (apart (((h.5 j y e).1 p).0 ∙ sym theirs.0)))) in
      (h.0, port, h.2, h.3, h.4, set_at (MatchesLog h.0 port h.2 h.3) vs other spent_view ((λ p. absurd (true≢false (sym p))), λ p. absurd (true≢false (sym p))) (λ j y apart e. now j y e apart))
