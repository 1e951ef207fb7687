-- What waits stays sound where a reference is given for one more, where one is put off, and where some wait no more.
use Rattle.std.proofs.Common.{◌≡◌, ℕ, zero, suc, ◌<◌, List, [], ◌∷◌, Bool, true, false, Option, Some, None, refl, sym, ◌∙◌, ap, subst, inl, inr, ⊎_elim, eq-eqb, arith}
use Rattle.std.specs.Prelude.{◌==◌, ◌||◌, not}
use Rattle.std.proofs.lemmas.Bool.{cases_Bool, cases_eq, cond-true, cond-false, and_parts}
use Rattle.sms_base.specs.Among.{Among}
use Rattle.sms_rows.specs.table.Keys.{pair_key}
use Rattle.sms_rows.specs.table.Table.{put, row_at, without}
use Rattle.sms_rows.proofs.table.Tables.{among_put, among_without, rises_put, rises_without, row_at_put, row_at_put_other}
use Rattle.sms_centre_rows.specs.declared.waiting.handset.HandsetRow.{HandsetRow}
use Rattle.sms_centre_rows.specs.declared.waiting.queued_part.QueuedPart.{QueuedPart}
use Rattle.sms_centre_rows.specs.declared.waiting.reference.ReferenceRow.{ReferenceRow}
use Rattle.sms_centre_rows.specs.waiting.Keys.{queued_key, reference_key}
use Rattle.sms_centre_rows.specs.waiting.References.{first_passing, following, given_row, is_free, is_held, is_late, mentioned, next_reference}
use Rattle.sms_centre_rows.specs.waiting.SoundAllocations.{reference_at}
use Rattle.sms_centre_rows.specs.waiting.SoundWaiting.{SoundWaiting, WasGiven}
use Rattle.sms_centre_rows.specs.waiting.Waiting.{all_at_once, at_once, is_part_of, withdrawn}
use Rattle.sms_centre_rows.proofs.waiting.Dues.{rises_at_once}
use Rattle.sms_centre_rows.proofs.waiting.Withdrawing.{rises_withdrawn}

-- ---- the reference that is given next is free

pub passing_is : (passes : ℕ → Bool) (turns r k : ℕ) → r < 256 → first_passing passes turns r ≡ Some k → (passes k ≡ true) × (k < 256)
unfolding first_passing
passing_is passes zero r k small e = absurd cc
passing_is passes (suc turns) r k small e = ⊎_elim
    (λ (t : passes r ≡ true).
    let same : Some r ≡ Some k = sym (cond-true (passes r) (Some r) (first_passing passes turns (following r)) t) ∙ e in
    let is : r ≡ k = cc in
    (ap passes (sym is) ∙ t, omega (arith, is, small)))
    (λ (t : passes r ≡ false).
    let next : following r < 256 = omega arith in
    passing_is passes turns (following r) k next (sym (cond-false (passes r) (Some r) (first_passing passes turns (following r)) t) ∙ e))
    (cases_Bool (passes r))

pub next_is_free : (h : HandsetRow) (waiting : List QueuedPart) (rs : List ReferenceRow) (now k : ℕ) → next_reference h waiting rs now ≡ Some k → (is_free h waiting rs now k ≡ true) × (k < 256)
next_is_free h waiting rs now k e =
    let first : following h.last_reference < 256 = omega arith in
    passing_is (is_free h waiting rs now) 256 (following h.last_reference) k first e

-- none that waits holds it
pub none_holds : (k : ℕ) (ls : List QueuedPart) (l : QueuedPart) → is_held k ls ≡ false → Among l ls → l.reference ≡ k → ⊥
none_holds k [] l e m q = elim m [ ]
none_holds k (x ∷ xs) l e m q = ⊎_elim
    (λ (f : l ≡ x).
    let held : is_held k (x ∷ xs) ≡ true = ap (λ (b : Bool). b || is_held k xs) (eq-eqb x.reference k (ap (λ (y : QueuedPart). y.reference) (sym f) ∙ q)) in
    absurd cc)
    (λ (r : Among l xs). none_holds k xs l (or_rest (x.reference == k) (is_held k xs) e) r q)
    m
  where
    or_rest : (a b : Bool) → (a || b) ≡ false → b ≡ false
    or_rest true b e = absurd cc
    or_rest false b e = e

pub not_held : (h : HandsetRow) (waiting : List QueuedPart) (rs : List ReferenceRow) (now k : ℕ) → is_free h waiting rs now k ≡ true → is_held k waiting ≡ false
not_held h waiting rs now k e = not_true (is_held k waiting) (and_parts (not (is_held k waiting)) (not (is_late now (reference_at h.place k rs))) e).0 where
  not_true : (b : Bool) → not b ≡ true → b ≡ false
  not_true true e = absurd cc
  not_true false e = refl

-- ---- one more waits, under the reference that is given for it

-- a reference that was given stays so where another is given
given_more : (row : Option HandsetRow) (h : HandsetRow) (rs : List ReferenceRow) (k now r : ℕ) → ((g : HandsetRow) → row ≡ Some g → g.place ≡ h.place) → WasGiven row rs r → r < 256 → k < 256
    → WasGiven (Some (mentioned h k)) (put reference_key (given_row h k now) rs) r
given_more None h rs k now r same given small few = absurd given
given_more (Some g) h rs k now r same given small few = ⊎_elim
    (λ (e : k ≡ r).
    let there : reference_at h.place r (put reference_key (given_row h k now) rs) ≡ Some (given_row h k now) =
    subst (λ (n : ℕ). reference_at h.place n (put reference_key (given_row h k now) rs) ≡ Some (given_row h k now)) e (row_at_put reference_key (given_row h k now) rs) in
    let found : (x : ReferenceRow) × (reference_at h.place r (put reference_key (given_row h k now) rs) ≡ Some x) = (given_row h k now, there) in found)
    (λ (e : k ≡ r → ⊥).
    let apart : ¬ (pair_key h.place k ≡ pair_key h.place r) = λ q. e (omega (arith, q)) in
    let was : reference_at h.place r rs ≡ Some given.0 = ap (λ (p : ℕ). reference_at p r rs) (sym (same g refl)) ∙ given.1 in
    let found : (x : ReferenceRow) × (reference_at h.place r (put reference_key (given_row h k now) rs) ≡ Some x) = (given.0, row_at_put_other reference_key (pair_key h.place r) (given_row h k now) rs apart ∙ was) in found)
    (cases_eq k r)

pub waits_under : (row : Option HandsetRow) (h : HandsetRow) (rs : List ReferenceRow) (waiting : List QueuedPart) (l : QueuedPart) (now : ℕ) → SoundWaiting row rs waiting → ((g : HandsetRow) → row ≡ Some g → g.place ≡ h.place)
    → next_reference h waiting rs now ≡ Some l.reference
    → SoundWaiting (Some (mentioned h l.reference)) (put reference_key (given_row h l.reference now) rs) (put queued_key l waiting)
waits_under row h rs waiting l now sound same next =
    let free = next_is_free h waiting rs now l.reference next in
    let unheld = not_held h waiting rs now l.reference free.0 in
    record {
      keys = rises_put queued_key l waiting sound.keys;
      small = λ x m. ⊎_elim
          (λ (e : x ≡ l). subst (λ (y : QueuedPart). y.reference < 256) (sym e) free.1)
          (λ (k : Among x waiting × ¬ (queued_key x ≡ queued_key l)). sound.small x k.0)
          (among_put queued_key x l waiting m);
      given = λ x m. ⊎_elim
          (λ (e : x ≡ l).
          let found : (r : ReferenceRow) × (reference_at h.place l.reference (put reference_key (given_row h l.reference now) rs) ≡ Some r) =
          (given_row h l.reference now, row_at_put reference_key (given_row h l.reference now) rs) in
          subst (λ (y : QueuedPart). WasGiven (Some (mentioned h l.reference)) (put reference_key (given_row h l.reference now) rs) y.reference) (sym e) found)
          (λ (k : Among x waiting × ¬ (queued_key x ≡ queued_key l)).
          given_more row h rs l.reference now x.reference same (sound.given x k.0) (sound.small x k.0) free.1)
          (among_put queued_key x l waiting m);
      apart = λ x y m n e. ⊎_elim
          (λ (p : x ≡ l). ⊎_elim
          (λ (q : y ≡ l). ap queued_key (p ∙ sym q))
          (λ (q : Among y waiting × ¬ (queued_key y ≡ queued_key l)).
          absurd (none_holds l.reference waiting y unheld q.0 (sym e ∙ ap (λ (z : QueuedPart). z.reference) p)))
          (among_put queued_key y l waiting n))
          (λ (p : Among x waiting × ¬ (queued_key x ≡ queued_key l)). ⊎_elim
          (λ (q : y ≡ l). absurd (none_holds l.reference waiting x unheld p.0 (e ∙ ap (λ (z : QueuedPart). z.reference) q)))
          (λ (q : Among y waiting × ¬ (queued_key y ≡ queued_key l)). sound.apart x y p.0 q.0 e)
          (among_put queued_key y l waiting n))
          (among_put queued_key x l waiting m);
    }

-- ---- one that waits is put off, under its reference

pub put_off_sound : (row : Option HandsetRow) (rs : List ReferenceRow) (waiting : List QueuedPart) (was l : QueuedPart) → SoundWaiting row rs waiting → Among was waiting → queued_key was ≡ queued_key l → was.reference ≡ l.reference
    → SoundWaiting row rs (put queued_key l waiting)
put_off_sound row rs waiting was l sound there key reference = record {
  keys = rises_put queued_key l waiting sound.keys;
  small = λ x m. ⊎_elim
      (λ (e : x ≡ l). subst (λ (n : ℕ). n < 256) (reference ∙ ap (λ (y : QueuedPart). y.reference) (sym e)) (sound.small was there))
      (λ (k : Among x waiting × ¬ (queued_key x ≡ queued_key l)). sound.small x k.0)
      (among_put queued_key x l waiting m);
  given = λ x m. ⊎_elim
      (λ (e : x ≡ l). subst (λ (n : ℕ). WasGiven row rs n) (reference ∙ ap (λ (y : QueuedPart). y.reference) (sym e)) (sound.given was there))
      (λ (k : Among x waiting × ¬ (queued_key x ≡ queued_key l)). sound.given x k.0)
      (among_put queued_key x l waiting m);
  apart = λ x y m n e. ⊎_elim
      (λ (p : x ≡ l). ⊎_elim
      (λ (q : y ≡ l). ap queued_key (p ∙ sym q))
      (λ (q : Among y waiting × ¬ (queued_key y ≡ queued_key l)). ap queued_key p ∙ sym key ∙ sound.apart was y there q.0 (reference ∙ ap (λ (z : QueuedPart). z.reference) (sym p) ∙ e))
      (among_put queued_key y l waiting n))
      (λ (p : Among x waiting × ¬ (queued_key x ≡ queued_key l)). ⊎_elim
      (λ (q : y ≡ l). sound.apart x was p.0 there (e ∙ ap (λ (z : QueuedPart). z.reference) q ∙ sym reference) ∙ key ∙ ap queued_key (sym q))
      (λ (q : Among y waiting × ¬ (queued_key y ≡ queued_key l)). sound.apart x y p.0 q.0 e)
      (among_put queued_key y l waiting n))
      (among_put queued_key x l waiting m);
}

-- ---- some wait no more

fewer_sound : (row : Option HandsetRow) (rs : List ReferenceRow) (waiting fewer : List QueuedPart) → SoundWaiting row rs waiting → Rattle.sms_rows.specs.table.Table.Rises queued_key fewer → ((l : QueuedPart) → Among l fewer → Among l waiting)
    → SoundWaiting row rs fewer
fewer_sound row rs waiting fewer sound rises back = record {
  keys = rises;
  small = λ l m. sound.small l (back l m);
  given = λ l m. sound.given l (back l m);
  apart = λ l k m n e. sound.apart l k (back l m) (back k n) e;
}

pub without_sound : (row : Option HandsetRow) (rs : List ReferenceRow) (waiting : List QueuedPart) (key : ℕ) → SoundWaiting row rs waiting → SoundWaiting row rs (without queued_key key waiting)
without_sound row rs waiting key sound =
    fewer_sound row rs waiting (without queued_key key waiting) sound (rises_without queued_key key waiting sound.keys) (λ l m. (among_without queued_key l key waiting m).0)

among_withdrawn : (id : ℕ) (ls : List QueuedPart) (l : QueuedPart) → Among l (withdrawn id ls) → Among l ls
among_withdrawn id [] l m = m
among_withdrawn id (x ∷ xs) l m = ⊎_elim
    (λ (t : is_part_of id x ≡ true). inr (among_withdrawn id xs l (subst (λ (r : List QueuedPart). Among l r) (cond-true (is_part_of id x) (withdrawn id xs) (x ∷ withdrawn id xs) t) m)))
    (λ (t : is_part_of id x ≡ false). ⊎_elim
    (λ (e : l ≡ x). inl e)
    (λ (r : Among l (withdrawn id xs)). inr (among_withdrawn id xs l r))
    (subst (λ (r : List QueuedPart). Among l r) (cond-false (is_part_of id x) (withdrawn id xs) (x ∷ withdrawn id xs) t) m))
    (cases_Bool (is_part_of id x))

pub withdrawn_sound : (row : Option HandsetRow) (rs : List ReferenceRow) (waiting : List QueuedPart) (id : ℕ) → SoundWaiting row rs waiting → SoundWaiting row rs (withdrawn id waiting)
withdrawn_sound row rs waiting id sound =
    fewer_sound row rs waiting (withdrawn id waiting) sound (rises_withdrawn id waiting sound.keys) (λ l m. among_withdrawn id waiting l m)

-- ---- all of it is due at once

among_at_once : (now : ℕ) (ls : List QueuedPart) (l : QueuedPart) → Among l (all_at_once now ls) → (x : QueuedPart) × (Among x ls × (l ≡ at_once now x))
among_at_once now [] l m = elim m [ ]
among_at_once now (x ∷ xs) l m = ⊎_elim
    (λ (e : l ≡ at_once now x). (x, (inl refl, e)))
    (λ (r : Among l (all_at_once now xs)). let g = among_at_once now xs l r in (g.0, (inr g.1.0, g.1.1)))
    m

pub at_once_sound : (row : Option HandsetRow) (rs : List ReferenceRow) (waiting : List QueuedPart) (now : ℕ) → SoundWaiting row rs waiting → SoundWaiting row rs (all_at_once now waiting)
at_once_sound row rs waiting now sound = record {
  keys = rises_at_once now waiting sound.keys;
  small = λ l m. let g = among_at_once now waiting l m in subst (λ (y : QueuedPart). y.reference < 256) (sym g.1.1) (sound.small g.0 g.1.0);
  given = λ l m. let g = among_at_once now waiting l m in subst (λ (y : QueuedPart). WasGiven row rs y.reference) (sym g.1.1) (sound.given g.0 g.1.0);
  apart = λ l k m n e.
      let f = among_at_once now waiting l m in
      let g = among_at_once now waiting k n in
      ap queued_key f.1.1 ∙ sound.apart f.0 g.0 f.1.0 g.1.0 (ap (λ (z : QueuedPart). z.reference) (sym f.1.1) ∙ e ∙ ap (λ (z : QueuedPart). z.reference) g.1.1) ∙ ap queued_key (sym g.1.1);
}
