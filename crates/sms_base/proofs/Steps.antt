-- Laws of reading, for the crates that read a format.
use Rattle.std.proofs.Common.{◌≡◌, ℕ, ◌≤◌, Bool, true, false, cond, ltb, List, [], ◌∷◌, ◌++◌, length, take, drop, Result, Ok, Err, ◌⊎◌, inl, inr, refl, sym, subst, arith}
use Rattle.std.proofs.lemmas.Bool.{ltb-false, le-ltb}
use Rattle.std.proofs.lemmas.List.{take_at, drop_at, take-append-drop, length-append, length-take}
use Rattle.sms_base.specs.Reading.{◌>>=◌, only_if, octet_in, run_in, end_in}

-- ---- steps

-- a reading that went on read something first
pub bind_ok : {A B E : Type 0} (r : Result A E) (f : A → Result B E) (y : B) → (r >>= f) ≡ Ok y → (x : A) × (r ≡ Ok x) × (f x ≡ Ok y)
bind_ok (Ok x) f y e = (x, refl, e)
bind_ok (Err d) f y e = absurd cc

-- a fault of a reading that goes on is that of its first part, or of what follows
pub bind_err : {A B E : Type 0} (r : Result A E) (f : A → Result B E) (e : E) → (r >>= f) ≡ Err e → (r ≡ Err e) ⊎ ((x : A) × (r ≡ Ok x) × (f x ≡ Err e))
bind_err (Ok x) f e h = inr (x, refl, h)
bind_err (Err d) f e h = inl cc

pub err_is : {A E : Type 0} (x y : E) → (let r : Result A E = Err x in let s : Result A E = Err y in r ≡ s) → x ≡ y
err_is x y e = cc

-- a test that let pass held
pub passes : {E : Type 0} (b : Bool) (f : E) (x : Unit {0}) → only_if b f ≡ Ok x → b ≡ true
passes true f x e = refl
passes false f x e = absurd cc

pub ok_is : {A E : Type 0} (x y : A) → (let r : Result A E = Ok x in let s : Result A E = Ok y in r ≡ s) → x ≡ y
ok_is x y e = cc

-- ---- one octet, a run of octets, the end

pub octet_takes : {E : Type 0} (f : E) (xs : List ℕ) (x : ℕ × List ℕ) → octet_in f xs ≡ Ok x → xs ≡ x.0 ∷ x.1
octet_takes f [] x e = absurd cc
octet_takes {E} f (o ∷ xs) x e = let g = ok_is {E = E} (o, xs) x e in rw (← g) refl

pub run_takes : {E : Type 0} (f : E) (n : ℕ) (xs : List ℕ) (x : List ℕ × List ℕ) → run_in f n xs ≡ Ok x → (xs ≡ x.0 ++ x.1) × (length x.0 ≡ n)
unfolding run_in
run_takes {E} f n xs x e = more (ltb (length xs) n) refl e where
  more : (b : Bool) → ltb (length xs) n ≡ b → cond b (Err f) (Ok (take n xs, drop n xs)) ≡ Ok x → (xs ≡ x.0 ++ x.1) × (length x.0 ≡ n)
  more true t h = absurd cc
  more false t h =
      let g = ok_is {E = E} (take n xs, drop n xs) x h in
      let long : n ≤ length xs = ltb-false _ _ t in
      let len : length (take n xs) ≡ n = omega (arith, length-take n xs) in
      subst (λ (y : List ℕ × List ℕ). (xs ≡ y.0 ++ y.1) × (length y.0 ≡ n)) g (sym (take-append-drop n xs), len)

pub run_again : {E : Type 0} (f : E) (n : ℕ) (text rest : List ℕ) → length text ≡ n → run_in f n (text ++ rest) ≡ Ok (text, rest)
unfolding run_in
run_again f n text rest len =
    let long : ltb (length (text ++ rest)) n ≡ false = le-ltb (length (text ++ rest)) n (omega (arith, length-append text rest)) in
    rw (long, take_at text rest n len, drop_at text rest n len) refl

pub end_takes : {E : Type 0} (f : E) (xs : List ℕ) (x : Unit {0}) → end_in f xs ≡ Ok x → xs ≡ []
end_takes f [] x e = refl
end_takes f (o ∷ xs) x e = absurd cc
