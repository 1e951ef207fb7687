-- Each step keeps the rule of a connection's pieces.
use Rattle.std.proofs.Common.{◌≡◌, ◌≢◌, ℕ, true, true≢false, List, [], ◌∷◌, ◌++◌, Option, Some, None, Result, Ok, Err, drop, length, set, sym, refl, ap, subst, ◌∙◌, append_assoc, append-nil}
use Rattle.std.specs.Prelude.{MatchResult}
use Rattle.std.specs.Io.{StartsWith}
use Rattle.std.specs.Io.KnownBytes.{Consumes, IsAtEnd}
use Rattle.std.proofs.KnownBytes.{starts_with_rest}
use Rattle.std.proofs.Transfers.{starts_with_of_append, starts_with_trans}
use Rattle.std.proofs.Math.Seq.{drop-append_seam}
use Rattle.crossbeam_channel.specs.Fifo.{Pushes, Pops, Forks}
use Rattle.sms_seats.proofs.Places.{at_one, set_at, snoc_at}
use Rattle.smsc_arrivals.specs.declared.pieces.Piece.{Piece}
use Rattle.smsc_arrivals.specs.declared.pieces.PiecesView.{PiecesView}
use Rattle.smsc_arrivals.specs.Pieces.{is_mark, octets_of, octets_in, left_behind, giver_view, taker_view, joined_view, AreAll, EndSo, FitsPass, IsGivenOf, IsReadSo, Crosses}

octets_last : (items : List Piece) (x : Piece) → octets_in (items ++ x ∷ []) ≡ octets_in items ++ octets_of x
octets_last [] x = append-nil (octets_of x)
octets_last (item ∷ items) x =
    ap (λ (os : List ℕ). octets_of item ++ os) (octets_last items x) ∙ sym (append_assoc (octets_of item) (octets_in items) (octets_of x))

-- the first of what is the first of a stream's octets
first_of : (source : Option (List ℕ)) (a b : List ℕ) → IsGivenOf source (a ++ b) → IsGivenOf source a
first_of source a b h = λ all e. starts_with_trans all (a ++ b) a (h all e) (starts_with_of_append (a ++ b) a b refl)

pub none_of : (source : Option (List ℕ)) → IsGivenOf source []
none_of source = λ all e. starts_with_of_append all [] all refl

-- ---- what the reader reads

next_read : (all given octets : List ℕ) (behind : Option (List ℕ)) → StartsWith all given → Consumes (Some (drop (length given) all)) behind octets
    → StartsWith all (given ++ octets) × (behind ≡ Some (drop (length (given ++ octets)) all))
next_read all given octets None h k = absurd k
next_read all given octets (Some rest) h k =
    let is : all ≡ (given ++ octets) ++ rest =
    starts_with_rest all given h ∙ (ap (λ (os : List ℕ). given ++ os) k ∙ sym (append_assoc given octets rest)) in (
      starts_with_of_append all (given ++ octets) rest is,
      ap Some (sym (drop-append_seam (given ++ octets) rest) ∙ ap (drop (length (given ++ octets))) (sym is)),
    )

-- what a read gives follows what was given before
pub read_next : (source before behind : Option (List ℕ)) (given octets : List ℕ) → IsReadSo source given before → Consumes before behind octets
    → IsReadSo source (given ++ octets) behind
read_next source before behind given octets h k = λ all e.
    next_read all given octets behind (h all e).0 (subst (λ (rest : Option (List ℕ)). Consumes rest behind octets) (h all e).1 k)

pub given_of : (source rest : Option (List ℕ)) (octets : List ℕ) → IsReadSo source octets rest → IsGivenOf source octets
given_of source rest octets h = λ all e. (h all e).0

-- a piece is given
pub gave_next : (source source_then before behind : Option (List ℕ)) (given given_then octets : List ℕ) → IsReadSo source given before → Consumes before behind octets
    → source_then ≡ source → given_then ≡ given ++ octets → IsReadSo source_then given_then behind
gave_next source source_then before behind given given_then octets h k e f =
    subst (λ (s : Option (List ℕ)). IsReadSo s given_then behind) (sym e)
    (subst (λ (os : List ℕ). IsReadSo source os behind) (sym f) (read_next source before behind given octets h k))

-- ---- the end mark

none_left : (all given : List ℕ) → StartsWith all given → IsAtEnd (Some (drop (length given) all)) → all ≡ given
none_left all given h end = starts_with_rest all given h ∙ (ap (λ (os : List ℕ). given ++ os) end ∙ append-nil given)

-- what was given is all, where the stream has nothing left
all_given : (source before behind : Option (List ℕ)) (given : List ℕ) → IsReadSo source given before → Consumes before behind [] → IsAtEnd behind
    → AreAll source given
all_given source before behind given h k end = λ all e.
    let so = next_read all given [] behind (h all e).0 (subst (λ (rest : Option (List ℕ)). Consumes rest behind []) (h all e).1 k) in
    let same : given ++ [] ≡ given = append-nil given in
    none_left all given (h all e).0
    (subst (λ (os : List ℕ). IsAtEnd (Some (drop (length os) all))) same (subst IsAtEnd so.1 end))

-- so it is with the end mark behind it
pub given_marked : (source before behind : Option (List ℕ)) (given octets : List ℕ) → IsReadSo source given before → Consumes before behind [] → octets ≡ []
    → IsGivenOf source (given ++ octets)
given_marked source before behind given octets h k none = subst (λ (os : List ℕ). IsGivenOf source (given ++ os)) (sym none)
    (given_of source behind (given ++ []) (read_next source before behind given [] h k))

pub all_marked : (source before behind : Option (List ℕ)) (given octets : List ℕ) → IsReadSo source given before → Consumes before behind [] → IsAtEnd behind
    → octets ≡ [] → AreAll source (given ++ octets)
all_marked source before behind given octets h k end none = subst (λ (os : List ℕ). AreAll source (given ++ os)) (sym none)
    (subst (λ (os : List ℕ). AreAll source os) (sym (append-nil given)) (all_given source before behind given h k end))

-- the mark comes behind all
end_last : (source : Option (List ℕ)) (octets : List ℕ) (items : List Piece) (x : Piece) → EndSo source octets items
    → (is_mark x ≡ true → AreAll source ((octets ++ octets_in items) ++ octets_of x)) → EndSo source octets (items ++ x ∷ [])
end_last source octets [] x h k = ((λ m. subst (λ (os : List ℕ). AreAll source (os ++ octets_of x)) (append-nil octets) (k m)), tt)
end_last source octets (item ∷ items) x h k = (
  h.0,
  end_last source (octets ++ octets_of item) items x h.1
      (λ m. subst (λ (os : List ℕ). AreAll source (os ++ octets_of x)) (sym (append_assoc octets (octets_of item) (octets_in items))) (k m)),
)

end_at_none : (source : Option (List ℕ)) (octets : List ℕ) (items : List Piece) → items ≡ [] → EndSo source octets items
end_at_none source octets items none = subst (λ (l : List Piece). EndSo source octets l) (sym none) tt

-- all is taken, so nothing is left
left_none : (source : Option (List ℕ)) (taken : List ℕ) → AreAll source taken → IsAtEnd (left_behind taken source)
left_none None taken h = tt
left_none (Some all) taken h =
    ap (λ (os : List ℕ). drop (length taken) os) (h all refl ∙ sym (append-nil taken)) ∙ drop-append_seam taken []

-- ---- what is left of a stream

-- octets that the seat takes are the next of those that are left
pub left_next : (source : Option (List ℕ)) (taken octets : List ℕ) → IsGivenOf source (taken ++ octets)
    → Consumes (left_behind taken source) (left_behind (taken ++ octets) source) octets
left_next None taken octets h = tt
left_next (Some all) taken octets h =
    let rest = drop (length (taken ++ octets)) all in
    ap (drop (length taken)) (starts_with_rest all (taken ++ octets) (h all refl) ∙ append_assoc taken octets rest) ∙ drop-append_seam taken (octets ++ rest)

-- what the seat's pass knows
abbrev left_by : PiecesView → Option (List ℕ)
left_by v = left_behind v.taken v.source

pub take_next : {E : Type 0} (r : Result Piece E) (v w : PiecesView) (H : E → Type 0)
    → MatchResult r (λ x. (w ≡ taker_view v.source (v.taken ++ octets_of x)) × IsGivenOf v.source (v.taken ++ octets_of x)
    × (is_mark x ≡ true → AreAll v.source (v.taken ++ octets_of x))) (λ e. (w ≡ v) × H e)
    → MatchResult r (λ x. Consumes (left_by v) (left_by w) (octets_of x) × (is_mark x ≡ true → IsAtEnd (left_by w))) (λ e. left_by w ≡ left_by v)
take_next (Ok x) v w H h = (
  subst (λ (rest : Option (List ℕ)). Consumes (left_by v) rest (octets_of x)) (sym (ap left_by h.0)) (left_next v.source v.taken (octets_of x) h.1),
  λ m. subst IsAtEnd (sym (ap left_by h.0)) (left_none v.source (v.taken ++ octets_of x) (h.2 m)),
)
take_next (Err e) v w H h = ap left_by h.0

-- ---- steps

pub begins : Crosses [] (joined_view ∷ [])
begins = (
  0,
  0,
  None,
  [],
  [],
  refl,
  none_of None,
  tt,
  at_one (FitsPass [] 0 0 None [] []) joined_view ((λ _. (refl, refl, refl)), (λ _. (refl, refl, refl)), λ _ _. refl),
)

pub gives : (n port : ℕ) (v : PiecesView) (x : Piece) → v.gives ≡ true → IsGivenOf v.source (v.given ++ octets_of x)
    → (is_mark x ≡ true → AreAll v.source (v.given ++ octets_of x)) → Pushes Crosses n port v x (λ w. w ≡ giver_view v.source (v.given ++ octets_of x))
gives n port v x may next all items views _ h at =
    let w : PiecesView = giver_view v.source (v.given ++ octets_of x) in
    let mine = (h.8 port v at).0 may in
    let given = h.3 ++ octets_of x in
    let known : v.given ++ octets_of x ≡ given = ap (λ (os : List ℕ). os ++ octets_of x) mine.2 in
    let behind : given ≡ (h.4 ++ octets_in items) ++ octets_of x = ap (λ (os : List ℕ). os ++ octets_of x) h.5 in (
      w,
      (
        h.0,
        h.1,
        h.2,
        given,
        h.4,
        ap (λ (os : List ℕ). os ++ octets_of x) h.5 ∙ (append_assoc h.4 (octets_in items) (octets_of x) ∙ ap (λ (os : List ℕ). h.4 ++ os) (sym (octets_last items x))),
        subst (λ (source : Option (List ℕ)). IsGivenOf source given) mine.1 (subst (λ (os : List ℕ). IsGivenOf v.source os) known next),
        end_last h.2 h.4 items x h.7
            (λ m. subst (λ (os : List ℕ). AreAll h.2 os) (known ∙ behind) (subst (λ (source : Option (List ℕ)). AreAll source (v.given ++ octets_of x)) mine.1 (all m))),
        set_at (FitsPass (items ++ x ∷ []) h.0 h.1 h.2 given h.4) views port w
            ((λ _. (mine.0, mine.1, known)), (λ p. absurd (true≢false (sym p))), λ _ p. absurd (true≢false (sym p)))
            (λ j u other e. let fits = h.8 j u e in
            let never = λ (p : u.gives ≡ true). other ((fits.0 p).0 ∙ sym mine.0) in ((λ p. absurd (never p)), fits.1, λ p q. absurd (never p))),
      ),
      refl,
    )

pub takes : (port : ℕ) (v : PiecesView) → v.takes ≡ true
    → Pops Crosses port v (λ x w. (w ≡ taker_view v.source (v.taken ++ octets_of x)) × IsGivenOf v.source (v.taken ++ octets_of x)
    × (is_mark x ≡ true → AreAll v.source (v.taken ++ octets_of x)))
takes port v may x items views h at =
    let w : PiecesView = taker_view v.source (v.taken ++ octets_of x) in
    let mine = (h.8 port v at).1 may in
    let taken = h.4 ++ octets_of x in
    let known : v.taken ++ octets_of x ≡ taken = ap (λ (os : List ℕ). os ++ octets_of x) mine.2 in
    let is : h.3 ≡ taken ++ octets_in items = h.5 ∙ sym (append_assoc h.4 (octets_of x) (octets_in items)) in
    let first : IsGivenOf h.2 taken = first_of h.2 taken (octets_in items) (subst (λ (os : List ℕ). IsGivenOf h.2 os) is h.6) in (
      w,
      (
        h.0,
        h.1,
        h.2,
        h.3,
        taken,
        is,
        h.6,
        h.7.1,
        set_at (FitsPass items h.0 h.1 h.2 h.3 taken) views port w
            ((λ p. absurd (true≢false (sym p))), (λ _. (mine.0, mine.1, known)), λ p. absurd (true≢false (sym p)))
            (λ j u other e. let fits = h.8 j u e in
            let never = λ (p : u.takes ≡ true). other ((fits.1 p).0 ∙ sym mine.0) in (fits.0, (λ p. absurd (never p)), λ p q. absurd (never q))),
      ),
      (
        refl,
        subst (λ (source : Option (List ℕ)). IsGivenOf source (v.taken ++ octets_of x)) (sym mine.1) (subst (λ (os : List ℕ). IsGivenOf h.2 os) (sym known) first),
        λ m. subst (λ (source : Option (List ℕ)). AreAll source (v.taken ++ octets_of x)) (sym mine.1) (subst (λ (os : List ℕ). AreAll h.2 os) (sym known) (h.7.0 m)),
      ),
    )

-- a new queue is named after a stream
pub forks : (port : ℕ) (v : PiecesView) (source : Option (List ℕ)) → v ≡ joined_view → Forks Crosses port v (giver_view source []) (taker_view source [])
forks port v source new items views h at =
    let l : PiecesView = giver_view source [] in
    let r : PiecesView = taker_view source [] in
    let is_giver = ap (λ (u : PiecesView). u.gives) new in
    let is_taker = ap (λ (u : PiecesView). u.takes) new in
    let gives = (h.8 port v at).0 is_giver in
    let takes = (h.8 port v at).1 is_taker in
    let empty : items ≡ [] = (h.8 port v at).2 is_giver is_taker in
    let none_given : h.3 ≡ [] = sym gives.2 ∙ ap (λ (u : PiecesView). u.given) new in
    let none_taken : h.4 ≡ [] = sym takes.2 ∙ ap (λ (u : PiecesView). u.taken) new in
    let vs : List PiecesView = set views port l in
    let F : ℕ → PiecesView → Type 0 = FitsPass items h.0 (length vs) source h.3 h.4 in (
      h.0,
      length vs,
      source,
      h.3,
      h.4,
      h.5,
      subst (λ (os : List ℕ). IsGivenOf source os) (sym none_given) (none_of source),
      end_at_none source h.4 items empty,
      snoc_at F vs r (set_at F views port l ((λ _. (gives.0, refl, sym none_given)), (λ p. absurd (true≢false (sym p))), λ _ _. empty)
          (λ j u other e. let fits = h.8 j u e in (
            (λ p. absurd (other ((fits.0 p).0 ∙ sym gives.0))),
            (λ p. absurd (other ((fits.1 p).0 ∙ sym takes.0))),
            λ _ _. empty,
          )))
          ((λ p. absurd (true≢false (sym p))), (λ _. (refl, refl, sym none_taken)), λ _ _. empty),
    )
