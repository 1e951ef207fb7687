-- Each step keeps the rule of what is shared out.
use Rattle.std.proofs.Common.{◌≡◌, ◌≢◌, ◌==◌, ◌⊎◌, ℕ, zero, suc, ◌+◌, ◌<◌, ◌≤◌, Bool, true, false, true≢false, if◌then◌else◌, List, [], ◌∷◌, ◌++◌, length, set, slice_get, Some, sym, refl, ap, subst, ◌∙◌, inl, inr, ⊎_elim, append_assoc, append-nil, arith}
use Rattle.std.proofs.lemmas.Bool.{eq-eqb, ne_eqb}
use Rattle.std.proofs.lemmas.Bool.Decides.{eqb_tells}
use Rattle.std.proofs.lemmas.Option.{none-some}
use mathlib.Core.Option.{some, some-injective, some-ne-none}
use lib.ListN.{get_elem?}
use Rattle.crossbeam_channel.specs.Fifo.{Held, Pushes, Pops, Forks, Merges, Learns}
use Rattle.sms_seats.proofs.Places.{At, at_one, length_nil, set_at, slice_get_snoc, snoc_at, upd, upd_here, upd_else}
use Rattle.smsc_arrivals.specs.declared.sharing.SharesView.{SharesView}
use Rattle.smsc_arrivals.specs.Sharing.{of, items_of, giver_view, taker_view, settled_view, spent_view, AreShared, FitsGiver, FitsTaker, Shared}

module _ {T : Type 0} where
  of_split : (b : Bool) (j : T) (us bs : List T) → (if b then j ∷ (us ++ bs) else us ++ bs) ≡ (if b then j ∷ us else us) ++ bs
  of_split true j us bs = refl
  of_split false j us bs = refl

  pub of_join : (s : ℕ) (xs ys : List (ℕ × T)) → of s (xs ++ ys) ≡ of s xs ++ of s ys
  of_join s [] ys = refl
  of_join s (x ∷ xs) ys = ap (λ (l : List T). if s == x.0 then x.1 ∷ l else l) (of_join s xs ys) ∙ of_split (s == x.0) x.1 (of s xs) (of s ys)

  pub of_here : (s : ℕ) (n : ℕ) (x : T) → s ≡ n → of s ((n, x) ∷ []) ≡ x ∷ []
  of_here s n x e = ap (λ (b : Bool). if b then x ∷ [] else []) (eq-eqb s n e)

  pub of_else : (s : ℕ) (n : ℕ) (x : T) → s ≢ n → of s ((n, x) ∷ []) ≡ []
  of_else s n x e = ap (λ (b : Bool). if b then x ∷ [] else []) (ne_eqb s n e)

  pub items_join : (xs ys : List (ℕ × T)) → items_of (xs ++ ys) ≡ items_of xs ++ items_of ys
  items_join [] ys = refl
  items_join (x ∷ xs) ys = ap (λ (l : List T). x.1 ∷ l) (items_join xs ys)

  -- one more was taken
  of_more : (s n : ℕ) (x : T) (handed : List (ℕ × T)) → s ≡ n → of s (handed ++ (n, x) ∷ []) ≡ of s handed ++ x ∷ []
  of_more s n x handed e = of_join s handed ((n, x) ∷ []) ∙ ap (λ (l : List T). of s handed ++ l) (of_here s n x e)

  of_other : (s n : ℕ) (x : T) (handed : List (ℕ × T)) → s ≢ n → of s (handed ++ (n, x) ∷ []) ≡ of s handed
  of_other s n x handed e = of_join s handed ((n, x) ∷ []) ∙ (ap (λ (l : List T). of s handed ++ l) (of_else s n x e) ∙ append-nil (of s handed))

  items_more : (n : ℕ) (x : T) (given : List T) (handed : List (ℕ × T)) (items : List T) → given ≡ items_of handed ++ x ∷ items
      → given ≡ items_of (handed ++ (n, x) ∷ []) ++ items
  items_more n x given handed items e =
      e ∙ (sym (append_assoc (items_of handed) (x ∷ []) items) ∙ ap (λ (l : List T). l ++ items) (sym (items_join handed ((n, x) ∷ []))))

  at_other : (views : List (SharesView T)) (port other : ℕ) (both w : SharesView T) → other ≢ port → get_elem? (set views port both) other ≡ some w
      → get_elem? views other ≡ some w
  at_other [] port other both w apart e = e
  at_other (v ∷ views) zero zero both w apart e = absurd (apart refl)
  at_other (v ∷ views) zero (suc other) both w apart e = e
  at_other (v ∷ views) (suc port) zero both w apart e = e
  at_other (v ∷ views) (suc port) (suc other) both w apart e = at_other views port other both w (λ same. apart (ap suc same)) e

  abbrev Fits : ℕ → (ℕ → ℕ) → List T → List (ℕ × T) → ℕ → SharesView T → Type 0
  Fits giver owner given handed j u = FitsTaker owner handed j u × FitsGiver giver owner given handed j u

  pub begins : Shared [] (giver_view {T = T} 0 [] [] [] ∷ [])
  begins = (
    0,
    (λ s. 0),
    [],
    [],
    refl,
    at_one (Fits 0 (λ s. 0) [] []) (giver_view 0 [] [] []) ((λ p. absurd (true≢false (sym p))), λ p. (refl, refl, refl, (λ s less. refl), (λ s most. refl), λ s ts e. absurd (none-some ts e))),
  )

  -- no seat whose pass came back is the next one
  abbrev pub AreBefore : SharesView T → Type 0
  AreBefore v = (s : ℕ) (ts : List T) → slice_get v.settled s ≡ Some ts → s < v.made

  pub gives : (n port : ℕ) (v : SharesView T) (x : T) → v.gives ≡ true → Pushes Shared n port v x (λ w. w ≡ giver_view v.made (v.given ++ x ∷ []) v.settled v.returned)
  gives n port v x may items views _ h at =
      let w : SharesView T = giver_view v.made (v.given ++ x ∷ []) v.settled v.returned in
      let mine = (h.5 port v at).1 may in
      let given : List T = h.2 ++ x ∷ [] in (
        w,
        (
          h.0,
          h.1,
          given,
          h.3,
          ap (λ (l : List T). l ++ x ∷ []) h.4 ∙ append_assoc (items_of h.3) items (x ∷ []),
          set_at (Fits h.0 h.1 given h.3) views port w
              ((λ p. absurd (true≢false (sym p))), λ _. (mine.0, ap (λ (l : List T). l ++ x ∷ []) mine.1, mine.2, mine.3, mine.4, mine.5))
              (λ j u other e. ((h.5 j u e).0, λ p. absurd (other (((h.5 j u e).1 p).0 ∙ sym mine.0)))),
        ),
        refl,
      )

  pub takes : (port : ℕ) (v : SharesView T) → v.takes ≡ true → Pops Shared port v (λ x w. w ≡ taker_view v.seat (v.taken ++ x ∷ []))
  takes port v may x items views h at =
      let w : SharesView T = taker_view v.seat (v.taken ++ x ∷ []) in
      let mine = (h.5 port v at).0 may in
      let handed : List (ℕ × T) = h.3 ++ (v.seat, x) ∷ [] in (
        w,
        (
          h.0,
          h.1,
          h.2,
          handed,
          items_more v.seat x h.2 h.3 items h.4,
          set_at (Fits h.0 h.1 h.2 handed) views port w
              ((λ _. (mine.0, ap (λ (l : List T). l ++ x ∷ []) mine.1 ∙ sym (of_more v.seat v.seat x h.3 refl))), λ p. absurd (true≢false (sym p)))
              (λ j u other e. let theirs = h.5 j u e in (
                (λ p. let t = theirs.0 p in
                    (t.0, t.1 ∙ sym (of_other u.seat v.seat x h.3 (λ same. other (t.0 ∙ (ap h.1 same ∙ sym mine.0)))))),
                (λ p. let t = theirs.1 p in
                    let apart : (s : ℕ) → h.1 s ≡ h.0 → s ≢ v.seat = λ s own same. other (t.0 ∙ (sym own ∙ (ap h.1 same ∙ sym mine.0))) in (
                      t.0,
                      t.1,
                      of_other u.made v.seat x h.3 (apart u.made (t.4 u.made (omega arith))) ∙ t.2,
                      (λ s less. of_other s v.seat x h.3 (apart s (t.4 s (omega (arith, less)))) ∙ t.3 s less),
                      t.4,
                      (λ s ts there. ((t.5 s ts there).0, of_other s v.seat x h.3 (apart s (t.5 s ts there).0) ∙ (t.5 s ts there).1)),
                    )),
              )),
        ),
        refl,
      )

  pub takes_back : (port : ℕ) (v : SharesView T) → v.gives ≡ true → AreBefore v
      → Pops Shared port v (λ x w. w ≡ giver_view v.made v.given v.settled (v.returned ++ x ∷ []))
  takes_back port v may before x items views h at =
      let w : SharesView T = giver_view v.made v.given v.settled (v.returned ++ x ∷ []) in
      let mine = (h.5 port v at).1 may in
      let handed : List (ℕ × T) = h.3 ++ (v.made, x) ∷ [] in (
        w,
        (
          h.0,
          h.1,
          h.2,
          handed,
          items_more v.made x h.2 h.3 items h.4,
          set_at (Fits h.0 h.1 h.2 handed) views port w (
            (λ p. absurd (true≢false (sym p))),
            λ _. (
              mine.0,
              mine.1,
              of_more v.made v.made x h.3 refl ∙ ap (λ (l : List T). l ++ x ∷ []) mine.2,
              (λ s less. of_other s v.made x h.3 (λ same. absurd (omega (arith, less, same))) ∙ mine.3 s less),
              mine.4,
              (λ s ts there. let b = before s ts there in
                  ((mine.5 s ts there).0, of_other s v.made x h.3 (λ same. absurd (omega (arith, b, same))) ∙ (mine.5 s ts there).1)),
            ),
          )
              (λ j u other e. let theirs = h.5 j u e in (
                (λ p. let t = theirs.0 p in
                    (t.0, t.1 ∙ sym (of_other u.seat v.made x h.3 (λ same. other (t.0 ∙ (ap h.1 same ∙ (mine.4 v.made (omega arith) ∙ sym mine.0))))))),
                λ p. absurd (other ((theirs.1 p).0 ∙ sym mine.0)),
              )),
        ),
        refl,
      )

  pub forks : (port : ℕ) (v : SharesView T) → v.gives ≡ true → v.returned ≡ [] → AreBefore v
      → Forks Shared port v (giver_view (v.made + 1) v.given v.settled []) (taker_view v.made [])
  forks port v may none before items views h at =
      let l : SharesView T = giver_view (v.made + 1) v.given v.settled [] in
      let r : SharesView T = taker_view v.made [] in
      let mine = (h.5 port v at).1 may in
      let vs : List (SharesView T) = set views port l in
      let new : ℕ = length vs in
      let owner : ℕ → ℕ = upd h.1 v.made new in (
        h.0,
        owner,
        h.2,
        h.3,
        h.4,
        snoc_at (Fits h.0 owner h.2 h.3) vs r
            (set_at (Fits h.0 owner h.2 h.3) views port l (
              (λ p. absurd (true≢false (sym p))),
              λ _. (
                mine.0,
                mine.1,
                mine.3 (v.made + 1) (omega arith),
                (λ s less. mine.3 s (omega (arith, less))),
                (λ s most. upd_else h.1 v.made new s (λ e. absurd (omega (arith, most, e))) ∙ mine.4 s (omega (arith, most))),
                (λ s ts there. let b = before s ts there in
                    (upd_else h.1 v.made new s (λ e. absurd (omega (arith, b, e))) ∙ (mine.5 s ts there).0, (mine.5 s ts there).1)),
              ),
            )
            (λ j u other e. (
              (λ p. let t = (h.5 j u e).0 p in
                  (t.0 ∙ sym (upd_else h.1 v.made new u.seat (λ same. other (t.0 ∙ (ap h.1 same ∙ (mine.4 v.made (omega arith) ∙ sym mine.0))))), t.1)),
              λ p. absurd (other (((h.5 j u e).1 p).0 ∙ sym mine.0)),
            )))
            ((λ _. (sym (upd_here h.1 v.made new v.made refl), sym (mine.2 ∙ none))), λ p. absurd (true≢false (sym p))),
      )

  pub merges : (port : ℕ) (v : SharesView T) (other : ℕ) (w : SharesView T) → v.gives ≡ true → w.takes ≡ true → w.seat ≡ length v.settled → w.seat < v.made
      → Merges Shared port v other w (settled_view v w) spent_view
  merges port v other w a b next less items views h at two at' =
      let both : SharesView T = settled_view v w in
      let mine = (h.5 port v at).1 a in
      let vs : List (SharesView T) = set views port both in
      let was : get_elem? views other ≡ some w = at_other views port other both w two at' in
      let theirs = (h.5 other w was).0 b in
      let owner : ℕ → ℕ = upd h.1 w.seat port in
      let F : ℕ → SharesView T → Type 0 = Fits h.0 owner h.2 h.3 in
      let G : ℕ → SharesView T → Type 0 = λ j u. j ≢ other → F j u in
      let own : (s : ℕ) → h.1 s ≡ h.0 → owner s ≡ h.0 =
      λ s old. ⊎_elim (λ here. upd_here h.1 w.seat port s here.1 ∙ mine.0) (λ no. upd_else h.1 w.seat port s no.1 ∙ old) (eqb_tells s w.seat) in
      let now : At G vs = set_at G views port both
      (λ _. (
        (λ p. absurd (true≢false (sym p))),
        (λ _. (
          mine.0,
          mine.1,
          mine.2,
          mine.3,
          (λ s most. own s (mine.4 s most)),
          (λ s ts there. ⊎_elim
              (λ (old : slice_get v.settled s ≡ Some ts). (own s (mine.5 s ts old).0, (mine.5 s ts old).1))
              (λ (last : (s ≡ length v.settled) × (w.taken ≡ ts)). let e : s ≡ w.seat = last.0 ∙ sym next in
              (upd_here h.1 w.seat port s e ∙ mine.0, ap (λ (n : ℕ). of n h.3) e ∙ (sym theirs.1 ∙ last.1)))
              (slice_get_snoc v.settled w.taken ts s there)),
        )),
      ))
      (λ j u away e apart. (
        (λ p. let t = (h.5 j u e).0 p in
            (t.0 ∙ sym (upd_else h.1 w.seat port u.seat (λ same. apart (t.0 ∙ (ap h.1 same ∙ sym theirs.0)))), t.1)),
        λ p. absurd (away (((h.5 j u e).1 p).0 ∙ sym mine.0)),
      )) in (
        h.0,
        owner,
        h.2,
        h.3,
        h.4,
        set_at F vs other spent_view ((λ p. absurd (true≢false (sym p))), λ p. absurd (true≢false (sym p))) (λ j u apart e. now j u e apart),
      )

  pub learns : (port : ℕ) (v : SharesView T) → v.gives ≡ true → Learns Shared port v (λ items. AreShared v items)
  learns port v may items views h at =
      let mine = (h.5 port v at).1 may in (h.3, mine.1 ∙ h.4, mine.2, mine.3, λ s ts there. (mine.5 s ts there).1)

  -- where the queue was empty at one moment, all that was given was taken then
  pub none_left : (v w : SharesView T) → w ≡ v → Held 0 (λ items. AreShared v items) → AreShared w []
  none_left v w e h =
      subst (λ (u : SharesView T). AreShared u []) (sym e) (subst (λ (l : List T). AreShared v l) (length_nil h.0 h.1) h.2)

  slice_less : (xs : List (List T)) (s : ℕ) (ts : List T) → slice_get xs s ≡ Some ts → s < length xs
  slice_less [] s ts e = absurd (none-some ts e)
  slice_less (x ∷ xs) zero ts e = omega arith
  slice_less (x ∷ xs) (suc s) ts e = let l = slice_less xs s ts e in omega (arith, l)

  pub are_before : (v : SharesView T) → length v.settled ≤ v.made → AreBefore v
  are_before v few s ts e = let l = slice_less v.settled s ts e in omega (arith, few, l)
