-- Each step keeps the rule of the jobs.
use Rattle.std.proofs.Common.{◌≡◌, ◌≢◌, ◌==◌, ℕ, ◌+◌, ◌≤◌, Bool, true, false, true≢false, if◌then◌else◌, List, [], ◌∷◌, ◌++◌, length, set, sym, refl, ap, ◌∙◌, ⊎_elim, append_assoc, append-nil, Option, arith}
use Rattle.std.proofs.lemmas.Bool.{eq-eqb, ne_eqb}
use Rattle.std.proofs.lemmas.Bool.Decides.{eqb_tells}
use mathlib.Core.Option.{some}
use lib.ListN.{get_elem?}
use Rattle.crossbeam_queue.specs.Fifo.{Pushes, Pops, Forks, Merges, Learns}
use Rattle.crossbeam_queue.proofs.Lists.{at_set}
use Rattle.sms_seats.specs.declared.jobs.Letter.{Letter}
use Rattle.sms_seats.specs.declared.jobs.JobsView.{JobsView}
use Rattle.sms_seats.specs.Jobs.{of, keeper_view, seat_view, both_view, spent_view, FitsSeat, FitsKeeper, Ordered}
use Rattle.sms_seats.proofs.Places.{At, at_one, set_at, snoc_at, upd, upd_here, upd_else}

module _ {J : Type 0} where
  of_split : (b : Bool) (j : Option J) (us bs : List (Option J)) → (if b then j ∷ (us ++ bs) else us ++ bs) ≡ (if b then j ∷ us else us) ++ bs
  of_split true j us bs = refl
  of_split false j us bs = refl

  pub of-append : (s : ℕ) (xs ys : List (Letter J)) → of s (xs ++ ys) ≡ of s xs ++ of s ys
  of-append s [] ys = refl
  of-append s (x ∷ xs) ys = ap (λ l. if s == x.seat then x.job ∷ l else l) (of-append s xs ys) ∙ of_split (s == x.seat) x.job (of s xs) (of s ys)

  pub of_here : (s : ℕ) (x : Letter J) → s ≡ x.seat → of s (x ∷ []) ≡ x.job ∷ []
  of_here s x e = ap (λ b. if b then x.job ∷ [] else []) (eq-eqb s x.seat e)

  pub of_else : (s : ℕ) (x : Letter J) → s ≢ x.seat → of s (x ∷ []) ≡ []
  of_else s x n = ap (λ b. if b then x.job ∷ [] else []) (ne_eqb s x.seat n)

  pub begins : Ordered [] (keeper_view {J = J} 0 [] ∷ [])
  begins = (0, (λ s. 0), (λ s. []), [], (λ s. refl), at_one (λ j u. FitsSeat (λ s. 0) (λ s. []) j u × FitsKeeper 0 (λ s. 0) (λ s. []) [] j u) (keeper_view 0 []) ((λ p. absurd (true≢false (sym p))), λ p. (refl, refl, λ s m. (refl, refl))))

  -- a push of seat k adds to what it sent, and to its part of the queue
  adds : (sent : ℕ → List (Option J)) (ran items : List (Letter J)) (k : ℕ) (x : Letter J) (put : List (Option J)) → ((s : ℕ) → sent s ≡ of s ran ++ of s items) → x.seat ≡ k → put ≡ sent k
      → (s : ℕ) → upd sent k (put ++ x.job ∷ []) s ≡ of s ran ++ of s (items ++ x ∷ [])
  adds sent ran items k x put h is all s = ⊎_elim
      (λ here. let e : s ≡ k = here.1 in upd_here sent k (put ++ x.job ∷ []) s e ∙ ap (λ l. l ++ x.job ∷ []) (all ∙ ap sent (sym e) ∙ h s) ∙ append_assoc (of s ran) (of s items) (x.job ∷ [])
      ∙ ap (λ l. of s ran ++ (of s items ++ l)) (sym (of_here s x (e ∙ sym is))) ∙ ap (λ l. of s ran ++ l) (sym (of-append s items (x ∷ []))))
      (λ no. let n : s ≢ k = no.1 in upd_else sent k (put ++ x.job ∷ []) s n ∙ h s ∙ ap (λ l. of s ran ++ l) (sym (append-nil (of s items)) ∙ ap (λ l. of s items ++ l) (sym (of_else s x (λ e. n (e ∙ is)))) ∙ sym (of-append s items (x ∷ []))))
      (eqb_tells s k)

  pub puts : (n port : ℕ) (v : JobsView J) (x : Letter J) → v.puts ≡ true → x.seat ≡ v.seat → Pushes Ordered n port v x (λ w. w ≡ seat_view v.seat (v.put ++ x.job ∷ []))
  puts n port v x may is items views _ h at = let w : JobsView J = seat_view v.seat (v.put ++ x.job ∷ []) in let mine = (h.5 port v at).0 may in let sent : ℕ → List (Option J) = upd h.2 v.seat (v.put ++ x.job ∷ []) in (
    w,
    (
      h.0,
      h.1,
      sent,
      h.3,
      adds h.2 h.3 items v.seat x v.put h.4 is mine.1,
      set_at (λ j u. FitsSeat h.1 sent j u × FitsKeeper h.0 h.1 sent h.3 j u) views port w ((λ _. (mine.0, sym (upd_here h.2 v.seat (v.put ++ x.job ∷ []) v.seat refl))), λ p. absurd (true≢false (sym p)))
          (λ j u other e. let theirs = h.5 j u e in (
            (λ p. let t = theirs.0 p in (t.0, t.1 ∙ sym (upd_else h.2 v.seat (v.put ++ x.job ∷ []) u.seat (λ same. other (t.0 ∙ ap h.1 same ∙ sym mine.0))))),
            (λ p. let t = theirs.1 p in (t.0, t.1, λ s m. ((t.2 s m).0, upd_else h.2 v.seat (v.put ++ x.job ∷ []) s (λ same. other (t.0 ∙ sym (t.2 s m).0 ∙ ap h.1 same ∙ sym mine.0)) ∙ (t.2 s m).1))),
          )),
    ),
    refl,
  )

  pub runs : (port : ℕ) (v : JobsView J) → v.runs ≡ true → Pops Ordered port v (λ x w. w ≡ keeper_view v.made (v.ran ++ x ∷ []))
  runs port v may x items views h at = let w : JobsView J = keeper_view v.made (v.ran ++ x ∷ []) in let mine = (h.5 port v at).1 may in let ran : List (Letter J) = h.3 ++ x ∷ [] in (
    w,
    (
      h.0,
      h.1,
      h.2,
      ran,
      (λ s. h.4 s ∙ ap (λ l. of s h.3 ++ l) (of-append s (x ∷ []) items) ∙ sym (append_assoc (of s h.3) (of s (x ∷ [])) (of s items)) ∙ ap (λ l. l ++ of s items) (sym (of-append s h.3 (x ∷ [])))),
      set_at (λ j u. FitsSeat h.1 h.2 j u × FitsKeeper h.0 h.1 h.2 ran j u) views port w ((λ p. absurd (true≢false (sym p))), λ _. (mine.0, ap (λ l. l ++ x ∷ []) mine.1, mine.2))
          (λ j u other e. ((h.5 j u e).0, λ p. absurd (other (((h.5 j u e).1 p).0 ∙ sym mine.0)))),
    ),
    refl,
  )

  pub forks : (port : ℕ) (v : JobsView J) → v.runs ≡ true → Forks Ordered port v (keeper_view (v.made + 1) v.ran) (seat_view v.made [])
  forks port v may items views h at = let l : JobsView J = keeper_view (v.made + 1) v.ran in let r : JobsView J = seat_view v.made [] in let mine = (h.5 port v at).1 may in let vs : List (JobsView J) = set views port l in
      let new : ℕ = length vs in let owner : ℕ → ℕ = upd h.1 v.made new in let first = mine.2 v.made (omega arith) in
      let F : ℕ → JobsView J → Type 0 = λ j u. FitsSeat owner h.2 j u × FitsKeeper h.0 owner h.2 h.3 j u in (
        h.0,
        owner,
        h.2,
        h.3,
        h.4,
        snoc_at F vs r (set_at F views port l ((λ p. absurd (true≢false (sym p))), λ _. (mine.0, mine.1, λ s m. (upd_else h.1 v.made new s (λ e. absurd (omega arith)) ∙ (mine.2 s (omega arith)).0, (mine.2 s (omega arith)).1)))
            (λ j u other e. (
              (λ p. let t = (h.5 j u e).0 p in (t.0 ∙ sym (upd_else h.1 v.made new u.seat (λ same. other (t.0 ∙ ap h.1 same ∙ first.0 ∙ sym mine.0))), t.1)),
              λ p. absurd (other (((h.5 j u e).1 p).0 ∙ sym mine.0)),
            )))
            ((λ _. (sym (upd_here h.1 v.made new v.made refl), sym first.1)), λ p. absurd (true≢false (sym p))),
      )

  pub merges : (port : ℕ) (v : JobsView J) (other : ℕ) (w : JobsView J) → v.runs ≡ true → w.puts ≡ true → Merges Ordered port v other w (both_view v w) spent_view
  merges port v other w a b items views h at two at' = let both : JobsView J = both_view v w in let mine = (h.5 port v at).1 a in let vs : List (JobsView J) = set views port both in
      let was : get_elem? views other ≡ some w = ⊎_elim (λ x. absurd (two x.0)) (λ x. x.1) (at_set views port other both w at') in let theirs = (h.5 other w was).0 b in
      let owner : ℕ → ℕ = upd h.1 w.seat port in
      let F : ℕ → JobsView J → Type 0 = λ j u. FitsSeat owner h.2 j u × FitsKeeper h.0 owner h.2 h.3 j u in
      let G : ℕ → JobsView J → Type 0 = λ j u. j ≢ other → F j u in
      let now : At G vs = set_at G views port both
      (λ _. (
        (λ _. (sym (upd_here h.1 w.seat port w.seat refl), theirs.1)),
        λ _. (mine.0, mine.1, λ s m. (⊎_elim (λ here. upd_here h.1 w.seat port s here.1 ∙ mine.0) (λ no. upd_else h.1 w.seat port s no.1 ∙ (mine.2 s m).0) (eqb_tells s w.seat), (mine.2 s m).1)),
      ))
      (λ j u away e apart. (
        (λ p. let t = (h.5 j u e).0 p in (t.0 ∙ sym (upd_else h.1 w.seat port u.seat (λ same. apart (t.0 ∙ ap h.1 same ∙ sym theirs.0))), t.1)),
        λ p. absurd (away (((h.5 j u e).1 p).0 ∙ sym mine.0)),
      )) in
      (h.0, owner, h.2, h.3, h.4, set_at F vs other spent_view ((λ p. absurd (true≢false (sym p))), λ p. absurd (true≢false (sym p))) (λ j u apart e. now j u e apart))

  -- the keeper's pass lets go of what it took in
  pub leaves : (port : ℕ) (v : JobsView J) → v.runs ≡ true → Forks Ordered port v (keeper_view v.made v.ran) spent_view
  leaves port v may items views h at = let l : JobsView J = keeper_view v.made v.ran in let mine = (h.5 port v at).1 may in let vs : List (JobsView J) = set views port l in
      let F : ℕ → JobsView J → Type 0 = λ j u. FitsSeat h.1 h.2 j u × FitsKeeper h.0 h.1 h.2 h.3 j u in (
        h.0,
        h.1,
        h.2,
        h.3,
        h.4,
        snoc_at F vs spent_view (set_at F views port l ((λ p. absurd (true≢false (sym p))), λ _. mine) (λ j u other e. h.5 j u e))
            ((λ p. absurd (true≢false (sym p))), λ p. absurd (true≢false (sym p))),
      )

  pub compares : (port : ℕ) (v : JobsView J) → v.runs ≡ true → v.puts ≡ true → Learns Ordered port v (λ items. v.put ≡ of v.seat v.ran ++ of v.seat items)
  compares port v a b items views h at = let mine = h.5 port v at in (mine.0 b).1 ∙ h.4 v.seat ∙ ap (λ l. of v.seat l ++ of v.seat items) (sym (mine.1 a).1)

  front_nil : (us bs : List (Option J)) → us ++ bs ≡ [] → us ≡ []
  front_nil [] bs e = refl
  front_nil (x ∷ xs) bs e = absurd (let l : length (x ∷ xs ++ bs) ≡ 0 = ap length e in omega arith)

  pub no_others : (port : ℕ) (v : JobsView J) → v.runs ≡ true → Learns Ordered port v (λ items. (s : ℕ) → v.made ≤ s → of s v.ran ≡ [])
  no_others port v may items views h at s past = let mine = (h.5 port v at).1 may in ap (of s) mine.1 ∙ front_nil (of s h.3) (of s items) (sym (h.4 s) ∙ (mine.2 s past).1)
