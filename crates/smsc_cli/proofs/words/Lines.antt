-- The lines of a file, one after the other.
use Rattle.std.proofs.Common.{Result, Ok, Err, OnOk, OnErr, ◌≡◌, ◌<◌, ◌+◌, ℕ, suc, Bool, true, false, cond, ◌&&◌, eqb, List, [], ◌∷◌, ◌++◌, length, refl, sym, true≢false, ap, ◌∙◌, subst, arith}
use Rattle.std.proofs.lemmas.Bool.{eqb-true, ne_eqb}
use Rattle.std.specs.Str.Iter.{LacksByte}
use denote.Ref.{Bor}
use Rattle.smsc_cli.specs.words.Accounts.{IsCutAt, bare_of, begins_with_feed, in_front, lines_of}
use Rattle.smsc_cli.specs.words.Several.{AddsEach, StopsAtOne}

-- ---- a carriage return at the end

pub bare_line : (line : List ℕ) → bare_of (line ++ 13 ∷ []) ≡ line
unfolding bare_of
bare_line [] = refl
bare_line (c ∷ []) = refl
bare_line (c ∷ d ∷ ds) = ap (λ l. c ∷ l) (bare_line (d ∷ ds))

pub bare_already : (text : List ℕ) → ((front : List ℕ) → text ≡ front ++ 13 ∷ [] → ⊥) → bare_of text ≡ text
unfolding bare_of
bare_already [] none = refl
bare_already (c ∷ []) none = rw (ne_eqb c 13 (λ e. none [] (ap (λ x. x ∷ []) e))) refl
bare_already (c ∷ d ∷ ds) none = ap (λ l. c ∷ l) (bare_already (d ∷ ds) (λ front e. none (c ∷ front) (ap (λ l. c ∷ l) e)))

pub stripped : (text : List ℕ) (x : Bor (List ℕ)) → text ≡ x.now ++ 13 ∷ [] → x.now ≡ bare_of text
stripped text x e = sym (ap bare_of e ∙ bare_line x.now)

-- ---- the first line

first_lacks : (c x : ℕ) (xs : List ℕ) → LacksByte c (x ∷ xs) → x ≡ c → ⊥
first_lacks c x xs h e = h 0 (omega arith) e

others_lack : (c x : ℕ) (xs : List ℕ) → LacksByte c (x ∷ xs) → LacksByte c xs
others_lack c x xs h k l = h (suc k) (omega (arith, l))

no_feed : {A : Type 0} (b : Bool) (x y : A) → cond (b && false) x y ≡ y
no_feed true x y = refl
no_feed false x y = refl

at_feed : (c : ℕ) (b : Bool) (lines : List (List ℕ)) → cond (b && true) ([] ∷ lines) (in_front c ([] ∷ lines)) ≡ cond b [] (c ∷ []) ∷ lines
at_feed c true lines = refl
at_feed c false lines = refl

nothing : lines_of [] ≡ []
unfolding lines_of
nothing = refl

ends_here : (rest : List ℕ) → lines_of (10 ∷ rest) ≡ [] ∷ lines_of rest
unfolding lines_of
ends_here rest = refl

ends_next : (c : ℕ) (rest : List ℕ) → (c ≡ 10 → ⊥) → lines_of (c ∷ 10 ∷ rest) ≡ bare_of (c ∷ []) ∷ lines_of rest
unfolding lines_of bare_of
ends_next c rest other = rw (ne_eqb c 10 other) (at_feed c (eqb c 13) (lines_of rest))

goes_on : (c : ℕ) (cs : List ℕ) → (c ≡ 10 → ⊥) → begins_with_feed cs ≡ false → lines_of (c ∷ cs) ≡ in_front c (lines_of cs)
unfolding lines_of
goes_on c cs other further = rw (ne_eqb c 10 other, further) (no_feed (eqb c 13) (lines_of cs) (in_front c (lines_of cs)))

pub first_line : (text rest : List ℕ) → LacksByte 10 text → lines_of (text ++ 10 ∷ rest) ≡ bare_of text ∷ lines_of rest
unfolding bare_of
first_line [] rest h = ends_here rest
first_line (c ∷ []) rest h = ends_next c rest (first_lacks 10 c [] h)
first_line (c ∷ d ∷ ds) rest h =
    let more = others_lack 10 c (d ∷ ds) h in
    goes_on c (d ∷ ds ++ 10 ∷ rest) (first_lacks 10 c (d ∷ ds) h) (ne_eqb d 10 (first_lacks 10 d ds more)) ∙ ap (in_front c) (first_line (d ∷ ds) rest more)

pub last_line : (file : List ℕ) → 0 < length file → LacksByte 10 file → lines_of file ≡ file ∷ []
last_line [] some h = absurd (omega (arith, some))
last_line (c ∷ []) some h = goes_on c [] (first_lacks 10 c [] h) refl ∙ ap (in_front c) nothing
last_line (c ∷ d ∷ ds) some h =
    let more = others_lack 10 c (d ∷ ds) h in
    goes_on c (d ∷ ds) (first_lacks 10 c (d ∷ ds) h) (ne_eqb d 10 (first_lacks 10 d ds more)) ∙ ap (in_front c) (last_line (d ∷ ds) (omega arith) more)

pub no_lines : (file : List ℕ) → eqb (length file) 0 ≡ true → lines_of file ≡ []
unfolding lines_of
no_lines [] e = refl
no_lines (c ∷ cs) e = absurd (let none = eqb-true (length (c ∷ cs)) 0 e in omega (arith, none))

pub some_octets : (file : List ℕ) → eqb (length file) 0 ≡ false → 0 < length file
some_octets [] e = absurd (true≢false e)
some_octets (c ∷ cs) e = omega arith

-- ---- what holds of a result

pub on_ok : {A E X Y : Type 0} (r : Result A E) → (X → Y) → OnOk r X → OnOk r Y
on_ok (Ok a) f x = f x
on_ok (Err e) f x = tt

pub at_err : {A E X : Type 0} (r : Result A E) (e : E) → r ≡ Err e → OnErr r X → X
at_err (Ok a) e is x = absurd cc
at_err (Err f) e is x = x

-- ---- what lines add

module _ {A : Type 0} (Adds : List ℕ → List A → List A → Type 0) where
  pub none_added : (file : List ℕ) (old : List A) → eqb (length file) 0 ≡ true → AddsEach Adds (lines_of file) old old
  none_added file old e = subst (λ lines. AddsEach Adds lines old old) (sym (no_lines file e)) refl

module _ {A : Type 0} (Adds : List ℕ → List A → List A → Type 0) (AddsNothing : List ℕ → List A → Type 0) where
  module _ (file line rest bare : List ℕ) (cut : IsCutAt 10 file line rest) (is : bare ≡ bare_of line) where
    cut_lines : lines_of file ≡ bare ∷ lines_of rest
    cut_lines = ap lines_of cut.parts ∙ first_line line rest cut.first ∙ ap (λ l. l ∷ lines_of rest) (sym is)

    pub more_added : (old mid new : List A) → Adds bare old mid → AddsEach Adds (lines_of rest) mid new → AddsEach Adds (lines_of file) old new
    more_added old mid new one all = subst (λ lines. AddsEach Adds lines old new) (sym cut_lines) (mid, one, all)

    pub later_stop : (bad number : ℕ) (old mid new : List A) → Adds bare old mid
        → (place : ℕ) × (bad ≡ place + (number + 1)) × StopsAtOne Adds AddsNothing place (lines_of rest) mid new
        → (place : ℕ) × (bad ≡ place + number) × StopsAtOne Adds AddsNothing place (lines_of file) old new
    later_stop bad number old mid new one s =
        let e = s.1 in
        (suc s.0, omega (arith, e), subst (λ lines. StopsAtOne Adds AddsNothing (suc s.0) lines old new) (sym cut_lines) (mid, one, s.2))

    pub first_stop : (bad number : ℕ) (old new : List A) → (bad ≡ number) × AddsNothing bare old → new ≡ old
        → (place : ℕ) × (bad ≡ place + number) × StopsAtOne Adds AddsNothing place (lines_of file) old new
    first_stop bad number old new s same =
        let e = s.0 in
        (0, omega (arith, e), subst (λ lines. StopsAtOne Adds AddsNothing 0 lines old new) (sym cut_lines) (s.1, same))

  module _ (file : List ℕ) (some : 0 < length file) (endless : LacksByte 10 file) where
    pub last_added : (old new : List A) → Adds file old new → AddsEach Adds (lines_of file) old new
    last_added old new one = subst (λ lines. AddsEach Adds lines old new) (sym (last_line file some endless)) (new, one, refl)

    pub last_stop : (bad number : ℕ) (old new : List A) → (bad ≡ number) × AddsNothing file old → new ≡ old
        → (place : ℕ) × (bad ≡ place + number) × StopsAtOne Adds AddsNothing place (lines_of file) old new
    last_stop bad number old new s same =
        let e = s.0 in
        (0, omega (arith, e), subst (λ lines. StopsAtOne Adds AddsNothing 0 lines old new) (sym (last_line file some endless)) (s.1, same))
