-- What seats were given, where one line changes or is added.
use Rattle.std.proofs.Common.{◌≡◌, ◌≢◌, ◌==◌, ◌<◌, ◌≤◌, ℕ, zero, suc, if◌then◌else◌, List, [], ◌∷◌, ◌++◌, length, set, get_or, sym, refl, ap, ◌∙◌, ⊎_elim, append-nil, arith}
use Rattle.std.proofs.lemmas.Bool.{eq-eqb, ne_eqb}
use Rattle.std.proofs.lemmas.Bool.Decides.{eqb_tells}
use Rattle.std.proofs.Math.Seq.{map-set_same}
use Rattle.std.proofs.lemmas.List.{length-map}
use Rattle.crossbeam_queue.specs.Passes.{view}
use Rattle.sms_seats.specs.declared.queues.SeatChannel.{SeatChannel}
use Rattle.sms_seats.specs.Queues.{given_at, IsSameLines}

module _ {O : Type 0} where
  given_here : (ls : List (SeatChannel O)) (i : ℕ) (l : SeatChannel O) → i < length ls → given_at (set ls i l) i ≡ (view l.pass).given
  given_here [] i l h = absurd (omega arith)
  given_here (x ∷ xs) zero l h = refl
  given_here (x ∷ xs) (suc i) l h = given_here xs i l (omega arith)

  given_else : (ls : List (SeatChannel O)) (i k : ℕ) (l : SeatChannel O) → k ≢ i → given_at (set ls i l) k ≡ given_at ls k
  given_else [] i k l n = refl
  given_else (x ∷ xs) zero zero l n = absurd (n refl)
  given_else (x ∷ xs) zero (suc k) l n = refl
  given_else (x ∷ xs) (suc i) zero l n = refl
  given_else (x ∷ xs) (suc i) (suc k) l n = given_else xs i k l (λ e. n (ap suc e))

  pub given_get : (ls : List (SeatChannel O)) (i : ℕ) (l : SeatChannel O) → i < length ls → l ≡ get_or ls i l → given_at ls i ≡ (view l.pass).given
  given_get [] i l h e = absurd (omega arith)
  given_get (x ∷ xs) zero l h e = ap (λ (y : SeatChannel O). (view y.pass).given) (sym e)
  given_get (x ∷ xs) (suc i) l h e = given_get xs i l (omega arith) e

  pub given_snoc : (ls : List (SeatChannel O)) (l : SeatChannel O) (k : ℕ) → (view l.pass).given ≡ [] → given_at (ls ++ l ∷ []) k ≡ given_at ls k
  given_snoc [] l zero e = e
  given_snoc [] l (suc k) e = refl
  given_snoc (x ∷ xs) l zero e = refl
  given_snoc (x ∷ xs) l (suc k) e = given_snoc xs l k e

  pub same_length : (us bs : List (SeatChannel O)) → IsSameLines us bs → length bs ≡ length us
  same_length us bs e = sym (length-map bs (λ (l : SeatChannel O). l.pass.table_id)) ∙ ap length e ∙ length-map us (λ (l : SeatChannel O). l.pass.table_id)

  pub same_set : (us bs : List (SeatChannel O)) (i : ℕ) (l m : SeatChannel O) → IsSameLines us bs → l ≡ get_or bs i l → m.pass.table_id ≡ l.pass.table_id → IsSameLines us (set bs i m)
  same_set us bs i l m same at e = map-set_same (λ (l : SeatChannel O). l.pass.table_id) bs i m l (e ∙ ap (λ (l : SeatChannel O). l.pass.table_id) at) ∙ same

  -- a line that was given one answer
  pub given_one : (us : List (SeatChannel O)) (i : ℕ) (l m : SeatChannel O) (x : O) → i < length us → l ≡ get_or us i l → (view m.pass).given ≡ (view l.pass).given ++ x ∷ []
      → (k : ℕ) → given_at (set us i m) k ≡ given_at us k ++ (if k == i then x ∷ [] else [])
  given_one us i l m x within at added k = ⊎_elim
      (λ here. ap (given_at (set us i m)) here.1 ∙ given_here us i m within ∙ added ∙ ap (λ g. g ++ x ∷ []) (sym (given_get us i l within at) ∙ ap (given_at us) (sym here.1))
      ∙ ap (λ b. given_at us k ++ (if b then x ∷ [] else [])) (sym (eq-eqb k i here.1)))
      (λ no. given_else us i k m no.1 ∙ sym (append-nil (given_at us k)) ∙ ap (λ b. given_at us k ++ (if b then x ∷ [] else [])) (sym (ne_eqb k i no.1)))
      (eqb_tells k i)

  -- an answer for a seat that is not there
  pub given_past : (us : List (SeatChannel O)) (i : ℕ) (x : O) → length us ≤ i → (k : ℕ) → k < length us → given_at us k ≡ given_at us k ++ (if k == i then x ∷ [] else [])
  given_past us i x past k less = sym (append-nil (given_at us k)) ∙ ap (λ b. given_at us k ++ (if b then x ∷ [] else [])) (sym (ne_eqb k i (λ e. absurd (omega arith))))

  -- a line that was not given anything
  pub given_unset : (us : List (SeatChannel O)) (i : ℕ) (l m : SeatChannel O) → i < length us → l ≡ get_or us i l → (view m.pass).given ≡ (view l.pass).given → (k : ℕ) → given_at (set us i m) k ≡ given_at us k
  given_unset us i l m within at e k = ⊎_elim
      (λ here. ap (given_at (set us i m)) here.1 ∙ given_here us i m within ∙ e ∙ sym (given_get us i l within at) ∙ ap (given_at us) (sym here.1))
      (λ no. given_else us i k m no.1)
      (eqb_tells k i)
