-- What a reading that stops tells: where octets end too early, some may follow with which they are read to their end, and
-- octets that are left over are no fault of a part. A crate that reads a format gives its two faults, and puts its reading
-- together of these parts.
use Rattle.std.proofs.Common.{◌≡◌, ℕ, zero, suc, ◌-◌, ◌<◌, ◌⊎◌, inl, inr, Bool, true, false, cond, ltb, List, [], ◌∷◌, ◌++◌, length, take, drop, Result, Ok, Err, refl, sym, ap, subst, ◌∙◌, arith, append_assoc}
use Rattle.std.proofs.lemmas.Bool.{ltb-true}
use Rattle.std.proofs.lemmas.List.{append-nil, length-append}
use Rattle.sms_base.specs.Reading.{◌>>=◌, only_if, octet_in, run_in, end_in, AreOctets}
use Rattle.sms_base.proofs.Steps.{bind_ok, bind_err, err_is, ok_is, run_takes, run_again}

-- the faults of octets that end too early, and of octets that are left over
pub record Ends (E : Type 0) : Type 0 where
  pub short : E
  pub spare : E
  pub apart : short ≡ spare → ⊥

-- ---- what is asked of a reading

abbrev pub Reads : Type 0 → Type 0 → Type 0
Reads E X = List ℕ → Result (X × List ℕ) E

-- What is taken stands at the front, and is taken whatever stands behind it.
abbrev pub TakesFront : {E X : Type 0} → Reads E X → Type 0
TakesFront {E} {X} read = (xs : List ℕ) (z : X × List ℕ) → read xs ≡ Ok z → (front : List ℕ) × (xs ≡ front ++ z.1) × ((rest : List ℕ) → read (front ++ rest) ≡ Ok (z.0, rest))

-- What is taken stands at the front, and is taken where nothing stands behind it.
abbrev pub TakesAlone : {E X : Type 0} → Reads E X → Type 0
TakesAlone {E} {X} read = (xs : List ℕ) (z : X × List ℕ) → read xs ≡ Ok z → (front : List ℕ) × (xs ≡ front ++ z.1) × (read front ≡ Ok (z.0, []))

-- that is read to its end
abbrev pub IsRead : {E X : Type 0} → Reads E X → List ℕ → Type 0
IsRead {E} {X} read xs = (x : X) × (read xs ≡ Ok (x, []))

-- octets that follow, with which they are read to their end
abbrev pub CanReadFurther : {E X : Type 0} → Reads E X → List ℕ → Type 0
CanReadFurther read xs = (more : List ℕ) × AreOctets more × IsRead read (xs ++ more)

-- Where octets end too early, some may follow.
abbrev pub Completes : {E X : Type 0} → Ends E → Reads E X → Type 0
Completes f read = (xs : List ℕ) → AreOctets xs → read xs ≡ Err f.short → CanReadFurther read xs

-- Octets left over are none of its faults.
abbrev pub LeavesNone : {E X : Type 0} → Ends E → Reads E X → Type 0
LeavesNone f read = (xs : List ℕ) → read xs ≡ Err f.spare → ⊥

-- No octets are nothing wrong: they end too early, or are all there is.
abbrev pub Starts : {E X : Type 0} → Ends E → Reads E X → Type 0
Starts f read = (read [] ≡ Err f.short) ⊎ IsRead read []

-- a part of a value, and the last part of one
abbrev pub IsPart : {E X : Type 0} → Ends E → Reads E X → Type 0
IsPart f read = TakesFront read × Completes f read × LeavesNone f read

abbrev pub IsLast : {E X : Type 0} → Ends E → Reads E X → Type 0
IsLast f read = TakesAlone read × Completes f read × LeavesNone f read

-- ---- octets

pub octets_back : (xs ys zs : List ℕ) → zs ≡ xs ++ ys → AreOctets zs → AreOctets xs × AreOctets ys
octets_back [] ys zs e h = (tt, subst (λ (l : List ℕ). AreOctets l) e h)
octets_back (x ∷ xs) ys zs e h =
    let g : AreOctets (x ∷ (xs ++ ys)) = subst (λ (l : List ℕ). AreOctets l) e h in
    let both = octets_back xs ys (xs ++ ys) refl g.1 in
    ((g.0, both.0), both.1)

pub octets_both : (xs ys : List ℕ) → AreOctets xs → AreOctets ys → AreOctets (xs ++ ys)
octets_both [] ys h k = k
octets_both (x ∷ xs) ys h k = (h.0, octets_both xs ys h.1 k)

-- ---- parts

alone : {E X : Type 0} (r : Reads E X) → TakesFront r → TakesAlone r
alone r h xs z e = let f = h xs z e in (f.0, f.1, ap r (sym (append-nil f.0)) ∙ f.2 [])

pub part_last : {E X : Type 0} (f : Ends E) (r : Reads E X) → IsPart f r → IsLast f r
part_last f r h = (alone r h.0, h.1, h.2)

-- what is read, read with more behind it
pub longer : {E X : Type 0} (r : Reads E X) (xs : List ℕ) (x : X) (rest ys : List ℕ) → TakesFront r → r xs ≡ Ok (x, rest) → r (xs ++ ys) ≡ Ok (x, rest ++ ys)
longer r xs x rest ys h e =
    let f = h xs (x, rest) e in
    ap r (ap (λ (l : List ℕ). l ++ ys) f.1 ∙ append_assoc f.0 rest ys) ∙ f.2 (rest ++ ys)

-- one reading behind another
module _ {E X Y : Type 0} (f : Ends E) (r : Reads E X) (k : X × List ℕ → Result (Y × List ℕ) E) where
  abbrev Then : Reads E Y
  Then xs = r xs >>= k

  abbrev Behind : X → Reads E Y
  Behind x rest = k (x, rest)

  front_bind : TakesFront r → ((x : X) → TakesFront (Behind x)) → TakesFront Then
  front_bind h hk xs z e =
      let a = bind_ok (r xs) k z e in
      let one = h xs a.0 a.1 in
      let g = hk a.0.0 a.0.1 z a.2 in
      let whole : xs ≡ (one.0 ++ g.0) ++ z.1 = one.1 ∙ ap (λ (l : List ℕ). one.0 ++ l) g.1 ∙ sym (append_assoc one.0 g.0 z.1) in (
        one.0 ++ g.0,
        whole,
        λ rest.
            ap (λ (l : List ℕ). r l >>= k) (append_assoc one.0 g.0 rest)
            ∙ ap (λ (m : Result (X × List ℕ) E). m >>= k) (one.2 (g.0 ++ rest))
            ∙ g.2 rest,
      )

  alone_bind : TakesFront r → ((x : X) → TakesAlone (Behind x)) → TakesAlone Then
  alone_bind h hk xs z e =
      let a = bind_ok (r xs) k z e in
      let one = h xs a.0 a.1 in
      let g = hk a.0.0 a.0.1 z a.2 in
      let whole : xs ≡ (one.0 ++ g.0) ++ z.1 = one.1 ∙ ap (λ (l : List ℕ). one.0 ++ l) g.1 ∙ sym (append_assoc one.0 g.0 z.1) in
      (one.0 ++ g.0, whole, ap (λ (m : Result (X × List ℕ) E). m >>= k) (one.2 g.0) ∙ g.2)

  -- the first part goes on, and the next from where it ends
  behind_reads_further : (xs : List ℕ) (x : X) (rest : List ℕ) → TakesFront r → r xs ≡ Ok (x, rest) → CanReadFurther (Behind x) rest → CanReadFurther Then xs
  behind_reads_further xs x rest h e g =
      (g.0, g.1, (g.2.0, ap (λ (m : Result (X × List ℕ) E). m >>= k) (longer r xs x rest g.0 h e) ∙ g.2.1))

  begins : (x : X) → Starts f (Behind x) → Completes f (Behind x) → CanReadFurther (Behind x) []
  begins x (inl short) c = c [] tt short
  begins x (inr read) c = ([], tt, read)

  completes_bind : TakesFront r → Completes f r → ((x : X) → Starts f (Behind x)) → ((x : X) → Completes f (Behind x)) → Completes f Then
  completes_bind h c s d xs octets e = elim (bind_err (r xs) k f.short e) [
    | inl short ↦
        let g = c xs octets short in
        let x = g.2.0 in
        let n = behind_reads_further (xs ++ g.0) x [] h g.2.1 (begins x (s x) (d x)) in
        (g.0 ++ n.0, octets_both g.0 n.0 g.1 n.1, (n.2.0, ap (λ (l : List ℕ). r l >>= k) (sym (append_assoc xs g.0 n.0)) ∙ n.2.1))
    | inr later ↦
        let x = later.0.0 in
        let one = h xs later.0 later.1 in
        let rest = (octets_back one.0 later.0.1 xs one.1 octets).1 in
        behind_reads_further xs x later.0.1 h later.1 (d x later.0.1 rest later.2)
  ]

  leaves_bind : LeavesNone f r → ((x : X) → LeavesNone f (Behind x)) → LeavesNone f Then
  leaves_bind h hk xs e = elim (bind_err (r xs) k f.spare e) [ inl first ↦ h xs first | inr later ↦ hk later.0.0 later.0.1 later.2 ]

  pub part_bind : IsPart f r → ((x : X) → IsPart f (Behind x)) → ((x : X) → Starts f (Behind x)) → IsPart f Then
  part_bind h hk s = (front_bind h.0 (λ x. (hk x).0), completes_bind h.0 h.1 s (λ x. (hk x).1), leaves_bind h.2 (λ x. (hk x).2))

  pub last_bind : IsPart f r → ((x : X) → IsLast f (Behind x)) → ((x : X) → Starts f (Behind x)) → IsLast f Then
  last_bind h hk s = (alone_bind h.0 (λ x. (hk x).0), completes_bind h.0 h.1 s (λ x. (hk x).1), leaves_bind h.2 (λ x. (hk x).2))

-- ---- a value, a fault, a test

pub pure_part : {E X : Type 0} (f : Ends E) (x : X) → IsPart {X = X} f (λ xs. Ok (x, xs))
pure_part {E} {X} f x = (
  (λ xs z e. subst (λ (y : X × List ℕ). (front : List ℕ) × (xs ≡ front ++ y.1) × ((rest : List ℕ) → (let s : Result (X × List ℕ) E = Ok (x, front ++ rest) in s ≡ Ok (y.0, rest))))
      (ok_is {E = E} (x, xs) z e) ([], refl, λ rest. refl)),
  (λ xs octets e. absurd cc),
  (λ xs e. absurd cc),
)

-- a fault that is neither of the two
pub bad_part : {E X : Type 0} (f : Ends E) (bad : E) → (bad ≡ f.short → ⊥) → (bad ≡ f.spare → ⊥) → IsPart {X = X} f (λ xs. Err bad)
bad_part {E} {X} f bad no_short no_spare = ((λ xs z e. absurd cc), (λ xs octets e. absurd (no_short (err_is {A = X × List ℕ} bad f.short e))), (λ xs e. no_spare (err_is {A = X × List ℕ} bad f.spare e)))

pub test_part : {E X : Type 0} (f : Ends E) (b : Bool) (bad : E) (r : Reads E X) → (bad ≡ f.short → ⊥) → (bad ≡ f.spare → ⊥) → IsPart f r → IsPart f (λ xs. only_if b bad >>= (λ u. r xs))
test_part f true bad r no_short no_spare h = h
test_part f false bad r no_short no_spare h = bad_part f bad no_short no_spare

-- ---- an octet

octet_front : {E : Type 0} (short : E) → TakesFront (octet_in short)
octet_front short [] z e = absurd cc
octet_front {E} short (o ∷ xs) z e =
    subst (λ (y : ℕ × List ℕ). (front : List ℕ) × (o ∷ xs ≡ front ++ y.1) × ((rest : List ℕ) → octet_in short (front ++ rest) ≡ Ok (y.0, rest)))
    (ok_is {E = E} (o, xs) z e) (o ∷ [], refl, λ rest. refl)

octet_completes : {E : Type 0} (f : Ends E) → Completes f (octet_in f.short)
octet_completes f [] octets e = (0 ∷ [], (omega arith, tt), (0, refl))
octet_completes f (o ∷ xs) octets e = absurd cc

octet_leaves : {E : Type 0} (f : Ends E) → LeavesNone f (octet_in f.short)
octet_leaves f [] e = f.apart (err_is {A = ℕ × List ℕ} f.short f.spare e)
octet_leaves f (o ∷ xs) e = absurd cc

pub octet_part : {E : Type 0} (f : Ends E) → IsPart f (octet_in f.short)
octet_part f = (octet_front f.short, octet_completes f, octet_leaves f)

-- an octet and what stands behind it, where some octets are read to their end
module _ {E Y : Type 0} (f : Ends E) (k : ℕ × List ℕ → Result (Y × List ℕ) E) where
  abbrev From : Reads E Y
  From xs = octet_in f.short xs >>= k

  octet_reads_further : CanReadFurther From [] → ((o : ℕ) → Completes f (λ rest. k (o, rest))) → Completes f From
  octet_reads_further some h [] octets e = some
  octet_reads_further some h (o ∷ xs) octets e = h o xs octets.1 e

  pub from_octet : CanReadFurther From [] → ((o : ℕ) → IsPart f (λ rest. k (o, rest))) → IsPart f From
  from_octet some h = (
    front_bind f (octet_in f.short) k (octet_front f.short) (λ o. (h o).0),
    octet_reads_further some (λ o. (h o).1),
    leaves_bind f (octet_in f.short) k (octet_leaves f) (λ o. (h o).2),
  )

  pub last_from_octet : CanReadFurther From [] → ((o : ℕ) → IsLast f (λ rest. k (o, rest))) → IsLast f From
  last_from_octet some h = (
    alone_bind f (octet_in f.short) k (octet_front f.short) (λ o. (h o).0),
    octet_reads_further some (λ o. (h o).1),
    leaves_bind f (octet_in f.short) k (octet_leaves f) (λ o. (h o).2),
  )

-- ---- a run of octets

abbrev pub zeros : ℕ → List ℕ
zeros zero = []
zeros (suc n) = 0 ∷ zeros n

pub zeros_octets : (n : ℕ) → AreOctets (zeros n)
zeros_octets zero = tt
zeros_octets (suc n) = (omega arith, zeros_octets n)

pub zeros_length : (n : ℕ) → length (zeros n) ≡ n
zeros_length zero = refl
zeros_length (suc n) = ap (λ (m : ℕ). suc m) (zeros_length n)

run_front : {E : Type 0} (short : E) (n : ℕ) → TakesFront (run_in short n)
run_front short n xs z e = let t = run_takes short n xs z e in (z.0, t.0, λ rest. run_again short n z.0 rest t.1)

run_completes : {E : Type 0} (f : Ends E) (n : ℕ) → Completes f (run_in f.short n)
unfolding run_in
run_completes {E} f n xs octets e = more (ltb (length xs) n) refl e where
  filled : ltb (length xs) n ≡ true → CanReadFurther (run_in f.short n) xs
  filled t =
      let short : length xs < n = ltb-true (length xs) n t in
      let m = n - length xs in
      let len : length (xs ++ zeros m) ≡ n = omega (arith, length-append xs (zeros m), zeros_length m) in
      (zeros m, zeros_octets m, (xs ++ zeros m, ap (λ (l : List ℕ). run_in f.short n l) (sym (append-nil (xs ++ zeros m))) ∙ run_again f.short n (xs ++ zeros m) [] len))

  more : (b : Bool) → ltb (length xs) n ≡ b → cond {A = Result (List ℕ × List ℕ) E} b (Err f.short) (Ok (take n xs, drop n xs)) ≡ Err f.short → CanReadFurther (run_in f.short n) xs
  more true t h = filled t
  more false t h = absurd cc

run_leaves : {E : Type 0} (f : Ends E) (n : ℕ) → LeavesNone f (run_in f.short n)
unfolding run_in
run_leaves {E} f n xs e = more (ltb (length xs) n) e where
  more : (b : Bool) → cond {A = Result (List ℕ × List ℕ) E} b (Err f.short) (Ok (take n xs, drop n xs)) ≡ Err f.spare → ⊥
  more true h = f.apart (err_is {A = List ℕ × List ℕ} f.short f.spare h)
  more false h = absurd cc

pub run_part : {E : Type 0} (f : Ends E) (n : ℕ) → IsPart f (run_in f.short n)
run_part f n = (run_front f.short n, run_completes f n, run_leaves f n)

-- ---- whole lists: a last part, and nothing behind it

module _ {E X : Type 0} (f : Ends E) (read : Reads E X) (h : IsLast f read) where
  abbrev ends : X × List ℕ → Result X E
  ends x = end_in f.spare x.1 >>= (λ done. Ok x.0)

  not_short : (x : X) (rest : List ℕ) → ends (x, rest) ≡ Err f.short → ⊥
  not_short x [] e = absurd cc
  not_short x (o ∷ rest) e = f.apart (sym (err_is {A = X} f.spare f.short e))

  some_left : (x : X) (rest : List ℕ) → ends (x, rest) ≡ Err f.spare → rest ≡ [] → ⊥
  some_left x [] e none = absurd cc
  some_left x (o ∷ rest) e none = absurd cc

  pub whole_goes : (xs : List ℕ) → AreOctets xs → (read xs >>= ends) ≡ Err f.short → (more : List ℕ) × AreOctets more × ((x : X) × ((read (xs ++ more) >>= ends) ≡ Ok x))
  whole_goes xs octets e = elim (bind_err (read xs) ends f.short e) [
    | inl short ↦ let g = h.1 xs octets short in (g.0, g.1, (g.2.0, ap (λ (m : Result (X × List ℕ) E). m >>= ends) g.2.1))
    | inr later ↦ absurd (not_short later.0.0 later.0.1 later.2)
  ]

  pub whole_front : (xs : List ℕ) → (read xs >>= ends) ≡ Err f.spare → (front : List ℕ) × (rest : List ℕ) × (xs ≡ front ++ rest) × (rest ≡ [] → ⊥) × ((x : X) × ((read front >>= ends) ≡ Ok x))
  whole_front xs e = elim (bind_err (read xs) ends f.spare e) [
    | inl first ↦ absurd (h.2 xs first)
    | inr later ↦
        let one = h.0 xs later.0 later.1 in
        (one.0, later.0.1, one.1, some_left later.0.0 later.0.1 later.2, (later.0.0, ap (λ (m : Result (X × List ℕ) E). m >>= ends) one.2))
  ]
