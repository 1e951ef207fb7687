-- What handsets accepted, one handset after another.
use Rattle.std.proofs.Common.{◌≡◌, ℕ, zero, suc, ◌<◌, ◌≤◌, arith, List, [], ◌∷◌, ◌++◌, length, drop, Bool, true, false, refl, sym, ◌∙◌, ap, ⊎_elim, nat_eq}
use Rattle.std.specs.Prelude.{◌||◌, if◌then◌else◌, slice_index}
use Rattle.std.proofs.lemmas.List.{get_or_past}
use Rattle.std.proofs.lemmas.Bool.{cases_eq, cond-false, cond-true, eq-eqb, ne_eqb}
use Rattle.sms_base.proofs.Bools.{or_turned}
use Rattle.sms_base.proofs.Lists.{drop_behind}
use Rattle.sms_play.specs.PlayState.{Party}
use Rattle.sms_play.specs.Premises.{all_pairs, has_pair, is_same_pair, pairs_of}
use Rattle.sms_script.specs.declared.report.rows.AcceptedRow.{AcceptedRow}
use Rattle.sms_world_model.specs.World.{Accepted}
use Rattle.sms_play.specs.growth.Growth.{AcceptMore}
use Rattle.sms_play.specs.judging.Premises.{NoneAccepted, accepted_at}
use Rattle.sms_play.specs.judging.Judging.{AreCounts, looked}
use Rattle.sms_play.specs.judging.Watching.{HasAccepted, pair_accepted, pair_in}
use Rattle.sms_play.specs.declared.judging.watch.Pair.{Pair}
use Rattle.sms_play.proofs.judging.Looking.{none_below, one_less}

-- ---- pairs among others

or_joined : (a b c : Bool) → ((a || b) || c) ≡ (a || (b || c))
or_joined true b c = refl
or_joined false b c = refl

or_behind : (r s h : Bool) → (r || (s || h)) ≡ ((r || (s || false)) || h)
or_behind true s h = refl
or_behind false true h = refl
or_behind false false h = refl

has_over : (x : Accepted) (ps qs : List Accepted) → has_pair x (ps ++ qs) ≡ (has_pair x ps || has_pair x qs)
has_over x [] qs = refl
has_over x (p ∷ ps) qs = ap (λ (b : Bool). is_same_pair x p || b) (has_over x ps qs) ∙ sym (or_joined (is_same_pair x p) (has_pair x ps) (has_pair x qs))

has_rows : (x : Accepted) (ps : List Accepted) (rows : List AcceptedRow) → has_pair x (pairs_of ps rows) ≡ (has_pair x (pairs_of [] rows) || has_pair x ps)
has_rows x ps [] = refl
has_rows x ps (a ∷ rows) =
    has_rows x (pair_accepted a ∷ ps) rows ∙ or_behind (has_pair x (pairs_of [] rows)) (is_same_pair x (pair_accepted a)) (has_pair x ps)
    ∙ ap (λ (b : Bool). b || has_pair x ps) (sym (has_rows x (pair_accepted a ∷ []) rows))

pub rows_over : (ps : List Accepted) (xs ys : List AcceptedRow) → pairs_of ps (xs ++ ys) ≡ pairs_of (pairs_of ps xs) ys
rows_over ps [] ys = refl
rows_over ps (x ∷ xs) ys = rows_over (pair_accepted x ∷ ps) xs ys

-- the same pairs, however they stand
pub accepted_as : (ps qs : List Accepted) (entries : List (Pair × Unit {0})) → ((x : Accepted) → has_pair x ps ≡ has_pair x qs) → HasAccepted ps entries → HasAccepted qs entries
accepted_as ps qs entries same has p = has p ∙ same (pair_in p)

-- ---- handsets up to a place

pub same_length : (ps qs : List Party) → AcceptMore ps qs → length qs ≡ length ps
same_length [] [] more = refl
same_length [] (q ∷ qs) more = absurd more
same_length (p ∷ ps) [] more = absurd more
same_length (p ∷ ps) (q ∷ qs) more = ap suc (same_length ps qs more.1)

pub at_end : (ps qs : List Party) → AcceptMore ps qs → looked (length ps) ps qs ≡ qs
at_end [] [] more = refl
at_end [] (q ∷ qs) more = absurd more
at_end (p ∷ ps) [] more = absurd more
at_end (p ∷ ps) (q ∷ qs) more = ap (λ (z : List Party). q ∷ z) (at_end ps qs more.1)

-- from the place on they are as before
still_there : (i : ℕ) (ps qs : List Party) → AcceptMore ps qs → accepted_at i (looked i ps qs) ≡ accepted_at i ps
still_there zero ps qs more = refl
still_there (suc i) [] [] more = refl
still_there (suc i) [] (q ∷ qs) more = absurd more
still_there (suc i) (p ∷ ps) [] more = absurd more
still_there (suc i) (p ∷ ps) (q ∷ qs) more = still_there i ps qs more.1

module _ (x : Accepted) where
  -- one place more
  pairs_on : (i : ℕ) (ps qs : List Party) → AcceptMore ps qs → i < length ps
      → has_pair x (pairs_of (all_pairs (looked i ps qs)) (drop (length (accepted_at i ps)) (accepted_at i qs))) ≡ has_pair x (all_pairs (looked (suc i) ps qs))
  pairs_on i [] qs more l = absurd (none_below i l)
  pairs_on i (p ∷ ps) [] more l = absurd more
  pairs_on zero (p ∷ ps) (q ∷ qs) more l =
      let rows : List AcceptedRow = more.0.0 in
      let new : drop (length p.accepted) q.accepted ≡ rows = ap (λ (z : List AcceptedRow). drop (length p.accepted) z) more.0.1 ∙ drop_behind p.accepted rows in
      let m : Bool = has_pair x (pairs_of [] rows) in
      let was : Bool = has_pair x (pairs_of [] p.accepted) in
      let rest : Bool = has_pair x (all_pairs ps) in
      let all : has_pair x (pairs_of [] q.accepted) ≡ (m || was) =
      ap (λ (z : List AcceptedRow). has_pair x (pairs_of [] z)) more.0.1 ∙ ap (λ (z : List Accepted). has_pair x z) (rows_over [] p.accepted rows) ∙ has_rows x (pairs_of [] p.accepted) rows in
      ap (λ (z : List AcceptedRow). has_pair x (pairs_of (pairs_of [] p.accepted ++ all_pairs ps) z)) new
      ∙ has_rows x (pairs_of [] p.accepted ++ all_pairs ps) rows
      ∙ ap (λ (b : Bool). m || b) (has_over x (pairs_of [] p.accepted) (all_pairs ps))
      ∙ sym (or_joined m was rest)
      ∙ ap (λ (b : Bool). b || rest) (sym all)
      ∙ sym (has_over x (pairs_of [] q.accepted) (all_pairs ps))
  pairs_on (suc i) (p ∷ ps) (q ∷ qs) more l =
      let rows : List AcceptedRow = drop (length (accepted_at i ps)) (accepted_at i qs) in
      let own : List Accepted = pairs_of [] q.accepted in
      let before : List Accepted = all_pairs (looked i ps qs) in
      let after : List Accepted = all_pairs (looked (suc i) ps qs) in
      has_rows x (own ++ before) rows
      ∙ ap (λ (b : Bool). has_pair x (pairs_of [] rows) || b) (has_over x own before)
      ∙ or_turned (has_pair x (pairs_of [] rows)) (has_pair x own) (has_pair x before)
      ∙ ap (λ (b : Bool). has_pair x own || b) (sym (has_rows x before rows) ∙ pairs_on i ps qs more.1 (one_less i (length ps) l))
      ∙ sym (has_over x own after)

  -- by how much was looked at
  pub pairs_next : (i n : ℕ) (ps qs : List Party) → AcceptMore ps qs → i < length ps → n ≡ length (accepted_at i (looked i ps qs))
      → has_pair x (pairs_of (all_pairs (looked i ps qs)) (drop n (accepted_at i qs))) ≡ has_pair x (all_pairs (looked (suc i) ps qs))
  pairs_next i n ps qs more l e =
      ap (λ (k : ℕ). has_pair x (pairs_of (all_pairs (looked i ps qs)) (drop k (accepted_at i qs)))) (e ∙ ap (λ (z : List AcceptedRow). length z) (still_there i ps qs more))
      ∙ pairs_on i ps qs more l

-- ---- counts

here_now : (i : ℕ) (ps qs : List Party) → AcceptMore ps qs → i < length ps → accepted_at i (looked (suc i) ps qs) ≡ accepted_at i qs
here_now i [] qs more l = absurd (none_below i l)
here_now i (p ∷ ps) [] more l = absurd more
here_now zero (p ∷ ps) (q ∷ qs) more l = refl
here_now (suc i) (p ∷ ps) (q ∷ qs) more l = here_now i ps qs more.1 (one_less i (length ps) l)

others : (i k : ℕ) (ps qs : List Party) → AcceptMore ps qs → i < length ps → ¬ (i ≡ k) → accepted_at k (looked (suc i) ps qs) ≡ accepted_at k (looked i ps qs)
others i k [] qs more l ne = absurd (none_below i l)
others i k (p ∷ ps) [] more l ne = absurd more
others zero zero (p ∷ ps) (q ∷ qs) more l ne = absurd (ne refl)
others zero (suc k) (p ∷ ps) (q ∷ qs) more l ne = refl
others (suc i) zero (p ∷ ps) (q ∷ qs) more l ne = refl
others (suc i) (suc k) (p ∷ ps) (q ∷ qs) more l ne = others i k ps qs more.1 (one_less i (length ps) l) (λ e. ne (ap suc e))

pub counts_on : (i : ℕ) (ps qs : List Party) (old new : List ℕ) → AcceptMore ps qs → i < length ps → AreCounts old (looked i ps qs)
    → ((k : ℕ) → slice_index new k ≡ (if nat_eq i k then length (accepted_at i qs) else slice_index old k)) → AreCounts new (looked (suc i) ps qs)
counts_on i ps qs old new more l was put k = ⊎_elim
    (λ (e : i ≡ k).
    put k ∙ cond-true (nat_eq i k) (length (accepted_at i qs)) (slice_index old k) (eq-eqb i k e)
    ∙ ap (λ (z : List AcceptedRow). length z) (sym (here_now i ps qs more l)) ∙ ap (λ (z : ℕ). length (accepted_at z (looked (suc i) ps qs))) e)
    (λ (ne : i ≡ k → ⊥).
    put k ∙ cond-false (nat_eq i k) (length (accepted_at i qs)) (slice_index old k) (ne_eqb i k ne)
    ∙ was k ∙ ap (λ (z : List AcceptedRow). length z) (sym (others i k ps qs more l ne)))
    (cases_eq i k)

-- ---- nothing was accepted yet

pub no_pairs : (ps : List Party) → NoneAccepted ps → all_pairs ps ≡ []
no_pairs [] none = refl
no_pairs (p ∷ ps) none = (λ j. pairs_of [] (none.0 j) ++ all_pairs ps) ∙ no_pairs ps none.1

no_count : (ps : List Party) → NoneAccepted ps → (k : ℕ) → 0 ≡ length (accepted_at k ps)
no_count [] none zero = refl
no_count [] none (suc k) = refl
no_count (p ∷ ps) none zero = ap (λ (z : List AcceptedRow). length z) (sym none.0)
no_count (p ∷ ps) none (suc k) = no_count ps none.1 k

pub no_counts : (ps : List Party) → NoneAccepted ps → AreCounts [] ps
no_counts ps none k = get_or_past [] k 0 (none_at_most k) ∙ no_count ps none k
  where
    none_at_most : (k : ℕ) → 0 ≤ k
    none_at_most k = omega arith
