-- The elements of a header: what is read was spelled so, and what is spelled is read so.
use Rattle.std.proofs.Common.{◌≡◌, ℕ, zero, suc, ◌<◌, ◌≤◌, Bool, true, false, cond, ltb, List, [], ◌∷◌, ◌++◌, length, take, drop, Result, Ok, Err, Option, Some, None, refl, sym, ap, subst, ◌∙◌, arith}
use Rattle.std.specs.Option.{option_or}
use Rattle.std.proofs.lemmas.Bool.{ltb-true, ltb-false, lt-ltb, le-ltb}
use Rattle.std.proofs.lemmas.List.{take_at, take-append-drop, length-append, length-take-le}
use Rattle.sms_base.specs.Reading.{◌>>=◌, octet_in, run_in}
use Rattle.sms_base.proofs.Steps.{bind_ok, ok_is, octet_takes, run_takes, run_again}
use Rattle.sms_alphabet.specs.declared.element.Element.{Element}
use Rattle.sms_alphabet.specs.declared.concat_key.ConcatKey.{ConcatKey}
use Rattle.sms_alphabet.specs.declared.header_error.HeaderError.{HeaderError}
use Rattle.sms_alphabet.specs.declared.header_error.HeaderError.TheVariants.{Truncated, BadLength}
use Rattle.sms_alphabet.specs.HeaderGrammar.{spelled, written, BeginsWith, HeaderIs, elements_behind, elements_in, header_at, element_in, elements_of, AreElements}
use Rattle.sms_alphabet.specs.Concatenation.{key_of, element_key, later}

-- ---- what is spelled is read

behind_append : (octets ys : List ℕ) → elements_behind (length octets) (octets ++ ys) ≡ elements_behind 0 ys
unfolding elements_behind
behind_append [] ys = refl
behind_append (x ∷ xs) ys = behind_append xs ys

pub spelled_is_read : (es : List Element) → elements_in (spelled es) ≡ Ok es
unfolding elements_behind
spelled_is_read [] = refl
spelled_is_read (e ∷ es) =
    let long : ltb (length (e.octets ++ spelled es)) (length e.octets) ≡ false = le-ltb _ _ (let h : length e.octets ≤ length (e.octets ++ spelled es) = omega (arith, length-append e.octets (spelled es)) in h) in
    let rest : elements_behind (length e.octets) (e.octets ++ spelled es) ≡ Ok es = behind_append e.octets (spelled es) ∙ spelled_is_read es in
    rw (long, rest, take_at e.octets (spelled es) (length e.octets) refl) refl

pub written_is_read : (es : List Element) (rest : List ℕ) → header_at (written es ++ rest) ≡ Ok es
unfolding header_at
written_is_read es rest = rw (run_again {E = HeaderError} Truncated (length (spelled es)) (spelled es) rest refl) (spelled_is_read es)

-- ---- what is read was spelled

pub behind_takes : (n : ℕ) (xs : List ℕ) (es : List Element) → elements_behind n xs ≡ Ok es → (spelled es ≡ drop n xs) × (n ≤ length xs)
unfolding elements_behind
behind_takes zero [] es e = (ap spelled (sym (ok_is {E = HeaderError} [] es e)), omega arith)
behind_takes zero (i ∷ []) es e = absurd cc
behind_takes zero (i ∷ size ∷ rest) es e = more (λ (inner : List Element) (p : elements_behind size rest ≡ Ok inner). behind_takes size rest inner p) (ltb (length rest) size) refl e where
  more : ((inner : List Element) → elements_behind size rest ≡ Ok inner → (spelled inner ≡ drop size rest) × (size ≤ length rest)) → (b : Bool) → ltb (length rest) size ≡ b → cond b (Err BadLength) (elements_behind size rest >>= (λ elements. Ok (record { identifier = i; octets = take size rest } ∷ elements))) ≡ Ok es → (spelled es ≡ i ∷ size ∷ rest) × (0 ≤ length (i ∷ size ∷ rest))
  more tail true t h = absurd cc
  more tail false t h =
      let a = bind_ok (elements_behind size rest) (λ elements. Ok (record { identifier = i; octets = take size rest } ∷ elements)) es h in
      let inner = tail a.0 a.1 in
      let first : Element = record { identifier = i; octets = take size rest } in
      let len : length (take size rest) ≡ size = length-take-le size rest inner.1 in
      let whole : take size rest ++ spelled a.0 ≡ rest = ap (λ (l : List ℕ). take size rest ++ l) inner.0 ∙ take-append-drop size rest in
      let one : spelled (first ∷ a.0) ≡ i ∷ size ∷ rest = ap (λ (n : ℕ). i ∷ n ∷ (take size rest ++ spelled a.0)) len ∙ ap (λ (l : List ℕ). i ∷ size ∷ l) whole in
      (ap spelled (sym (ok_is {E = HeaderError} (first ∷ a.0) es a.2)) ∙ one, omega arith)
behind_takes (suc n) [] es e = absurd cc
behind_takes (suc n) (x ∷ rest) es e = let h = behind_takes n rest es e in (h.0, omega (arith, h.1))

pub read_was_spelled : (xs : List ℕ) (es : List Element) → elements_in xs ≡ Ok es → spelled es ≡ xs
read_was_spelled xs es e = (behind_takes 0 xs es e).0

pub read_was_written : (xs : List ℕ) (es : List Element) → header_at xs ≡ Ok es → BeginsWith xs es
unfolding header_at
read_was_written xs es e =
    let a = bind_ok (octet_in Truncated xs) (λ (size : ℕ × List ℕ). run_in Truncated size.0 size.1 >>= (λ (elements : List ℕ × List ℕ). elements_in elements.0)) es e in
    let b = bind_ok (run_in Truncated a.0.0 a.0.1) (λ (elements : List ℕ × List ℕ). elements_in elements.0) es a.2 in
    let first : xs ≡ a.0.0 ∷ a.0.1 = octet_takes Truncated xs a.0 a.1 in
    let second = run_takes Truncated a.0.0 a.0.1 b.0 b.1 in
    let text : spelled es ≡ b.0.0 = read_was_spelled b.0.0 es b.2 in
    let len : a.0.0 ≡ length (spelled es) = sym (ap length text ∙ second.1) in
    let tail : a.0.1 ≡ spelled es ++ b.0.1 = second.0 ∙ ap (λ (l : List ℕ). l ++ b.0.1) (sym text) in
    (b.0.1, first ∙ ap (λ (n : ℕ). n ∷ a.0.1) len ∙ ap (λ (l : List ℕ). length (spelled es) ∷ l) tail)

-- ---- element by element

behind_drop : (n : ℕ) (xs : List ℕ) → n ≤ length xs → elements_behind n xs ≡ elements_behind 0 (drop n xs)
unfolding elements_behind
behind_drop zero xs le = refl
behind_drop (suc n) [] le = absurd (omega arith)
behind_drop (suc n) (x ∷ xs) le = behind_drop n xs (omega arith)

abbrev found : ℕ → List ℕ × List ℕ → Result (Element × List ℕ) HeaderError
found i body = Ok (record { identifier = i; octets = body.0 }, body.1)

err_is : {A : Type 0} (x y : HeaderError) → (let r : Result A HeaderError = Err x in r ≡ Err y) → x ≡ y
err_is x y e = cc

pub one_more : (xs : List ℕ) (z : Element × List ℕ) → element_in xs ≡ Ok z → (elements_in xs ≡ (elements_in z.1 >>= (λ es. Ok (z.0 ∷ es)))) × (length z.1 < length xs)
unfolding element_in elements_behind run_in
one_more [] z e = absurd cc
one_more (i ∷ []) z e = absurd cc
one_more (i ∷ size ∷ rest) z e = more (ltb (length rest) size) refl e where
  more : (b : Bool) → ltb (length rest) size ≡ b → (cond b (Err BadLength) (Ok (take size rest, drop size rest)) >>= found i) ≡ Ok z
      → (elements_in (i ∷ size ∷ rest) ≡ (elements_in z.1 >>= (λ es. Ok (z.0 ∷ es)))) × (length z.1 < length (i ∷ size ∷ rest))
  more true t h = absurd cc
  more false t h =
      let first : Element = record { identifier = i; octets = take size rest } in
      let long : size ≤ length rest = ltb-false _ _ t in
      let step : elements_in (i ∷ size ∷ rest) ≡ (elements_in (drop size rest) >>= (λ es. Ok (first ∷ es))) = rw (t, behind_drop size rest long) refl in
      let short : length (drop size rest) < length (i ∷ size ∷ rest) = omega (arith, ap length (take-append-drop size rest), length-append (take size rest) (drop size rest)) in
      subst (λ (y : Element × List ℕ). (elements_in (i ∷ size ∷ rest) ≡ (elements_in y.1 >>= (λ es. Ok (y.0 ∷ es)))) × (length y.1 < length (i ∷ size ∷ rest))) (ok_is {E = HeaderError} (first, drop size rest) z h) (step, short)

pub one_fault : (xs : List ℕ) (f : HeaderError) → (xs ≡ [] → ⊥) → element_in xs ≡ Err f → elements_in xs ≡ Err f
unfolding element_in elements_behind run_in
one_fault [] f some e = absurd (some refl)
one_fault (i ∷ []) f some e = ap Err (err_is {A = Element × List ℕ} BadLength f e)
one_fault (i ∷ size ∷ rest) f some e = more (ltb (length rest) size) refl e where
  more : (b : Bool) → ltb (length rest) size ≡ b → (cond b (Err BadLength) (Ok (take size rest, drop size rest)) >>= found i) ≡ Err f
      → elements_in (i ∷ size ∷ rest) ≡ Err f
  more true t h = rw t (ap Err (err_is {A = Element × List ℕ} BadLength f h))
  more false t h = absurd cc

-- ---- the walk of the test: what is read of the rest is part of what is read of all

pub Continues : List ℕ → List ℕ → Type 0
Continues octets rest = (grow : List Element → List Element) × (elements_in octets ≡ (elements_in rest >>= (λ es. Ok (grow es))))

same_bind : (r : Result (List Element) HeaderError) → r ≡ (r >>= (λ es. Ok es))
same_bind (Ok es) = refl
same_bind (Err e) = refl

pub continues_at : (octets xs : List ℕ) → xs ≡ octets → Continues octets xs
unfolding Continues
continues_at octets xs e = ((λ es. es), ap (λ (l : List ℕ). elements_in l) (sym e) ∙ same_bind (elements_in xs))

bind_twice : (r : Result (List Element) HeaderError) (f g : List Element → List Element) → ((r >>= (λ es. Ok (f es))) >>= (λ es. Ok (g es))) ≡ (r >>= (λ es. Ok (g (f es))))
bind_twice (Ok es) f g = refl
bind_twice (Err e) f g = refl

pub continues_more : (octets xs : List ℕ) (first : Element) (rest : List ℕ) → Continues octets xs → element_in xs ≡ Ok (first, rest) → Continues octets rest
unfolding Continues
continues_more octets xs first rest c e =
    let h = one_more xs (first, rest) e in
    ((λ es. c.0 (first ∷ es)), c.1 ∙ ap (λ (r : Result (List Element) HeaderError). r >>= (λ es. Ok (c.0 es))) h.0 ∙ bind_twice (elements_in rest) (λ es. first ∷ es) c.0)

pub continues_fault : (octets xs : List ℕ) (f : HeaderError) → Continues octets xs → (xs ≡ [] → ⊥) → element_in xs ≡ Err f → elements_in octets ≡ Err f
unfolding Continues
continues_fault octets xs f c some e = c.1 ∙ ap (λ (r : Result (List Element) HeaderError). r >>= (λ es. Ok (c.0 es))) (one_fault xs f some e)

pub continues_end : (octets xs : List ℕ) → Continues octets xs → xs ≡ [] → (es : List Element) × (elements_in octets ≡ Ok es)
unfolding Continues elements_behind
continues_end octets xs c e = (c.0 [], c.1 ∙ ap (λ (l : List ℕ). elements_in l >>= (λ es. Ok (c.0 es))) e)

-- ---- the walk of the key: the key so far, and those behind it

pub KeySoFar : List Element → List ℕ → Option ConcatKey → Type 0
KeySoFar elements rest key = (es : List Element) × (elements_in rest ≡ Ok es) × (key_of elements ≡ later key (key_of es))

none_first : (k : Option ConcatKey) → k ≡ later None k
none_first None = refl
none_first (Some k) = refl

later_twice : (a b c : Option ConcatKey) → later a (later b c) ≡ later (later a b) c
later_twice a b None = refl
later_twice a b (Some k) = refl

pub key_init : (elements : List Element) (octets rest : List ℕ) → AreElements octets → elements_of octets ≡ elements → rest ≡ octets → KeySoFar elements rest None
unfolding KeySoFar
key_init elements octets rest h view same =
    let read : elements_in octets ≡ Ok (elements_of octets) = subst (λ (l : List ℕ). elements_in l ≡ Ok (elements_of octets)) h.filled (spelled_is_read (elements_of octets)) in
    (elements_of octets, ap (λ (l : List ℕ). elements_in l) same ∙ read, ap key_of (sym view) ∙ none_first (key_of (elements_of octets)))

or_later : (new old : Option ConcatKey) → option_or new old ≡ later old new
or_later None old = refl
or_later (Some k) old = refl

pub key_more : (elements : List Element) (xs : List ℕ) (key : Option ConcatKey) (first : Element) (rest : List ℕ) (key' : Option ConcatKey) → KeySoFar elements xs key → element_in xs ≡ Ok (first, rest) → key' ≡ option_or (element_key first) key → KeySoFar elements rest key'
unfolding KeySoFar key_of
key_more elements xs key first rest key' k e is =
    let h = one_more xs (first, rest) e in
    let a = bind_ok (elements_in rest) (λ es. Ok (first ∷ es)) k.0 (sym h.0 ∙ k.1) in
    let new : later key (element_key first) ≡ key' = sym (is ∙ or_later (element_key first) key) in
    (a.0, a.1, k.2 ∙ ap (λ (es : List Element). later key (key_of es)) (sym (ok_is {E = HeaderError} (first ∷ a.0) k.0 a.2)) ∙ later_twice key (element_key first) (key_of a.0) ∙ ap (λ (x : Option ConcatKey). later x (key_of a.0)) new)

not_empty : (xs : List ℕ) (es : List Element) (f : HeaderError) → elements_in xs ≡ Ok es → element_in xs ≡ Err f → xs ≡ []
not_empty [] es f h e = refl
not_empty (x ∷ xs) es f h e = let g = one_fault (x ∷ xs) f (λ p. absurd cc) e in absurd cc

pub key_end : (elements : List Element) (xs : List ℕ) (key : Option ConcatKey) (f : HeaderError) → KeySoFar elements xs key → element_in xs ≡ Err f → key ≡ key_of elements
unfolding KeySoFar elements_behind key_of
key_end elements xs key f k e =
    let empty : xs ≡ [] = not_empty xs k.0 f k.1 e in
    let none : [] ≡ k.0 = ok_is {E = HeaderError} [] k.0 (ap (λ (l : List ℕ). elements_in l) (sym empty) ∙ k.1) in
    sym (k.2 ∙ ap (λ (es : List Element). later key (key_of es)) (sym none))

-- ---- what a header holds

pub filled : (octets : List ℕ) → length octets < 256 → (es : List Element) × (elements_in octets ≡ Ok es) → AreElements octets
filled octets few t = record { few = few; filled = rw t.1 (read_was_spelled octets t.0 t.1) }

pub read_of : (octets : List ℕ) → (es : List Element) × (elements_in octets ≡ Ok es) → Ok (elements_of octets) ≡ elements_in octets
read_of octets t = rw t.1 refl

-- ---- what a header is

elements_fault : (n : ℕ) (xs : List ℕ) (f : HeaderError) → elements_behind n xs ≡ Err f → f ≡ BadLength
unfolding elements_behind
elements_fault zero [] f e = absurd cc
elements_fault zero (i ∷ []) f e = cc
elements_fault zero (i ∷ size ∷ rest) f e = more (λ p. elements_fault size rest f p) (ltb (length rest) size) (elements_behind size rest) refl e
  where
    more : (elements_behind size rest ≡ Err f → f ≡ BadLength) → (b : Bool) (r : Result (List Element) HeaderError) → elements_behind size rest ≡ r → cond b (Err BadLength) (r >>= (λ elements. Ok (record { identifier = i; octets = take size rest } ∷ elements))) ≡ Err f → f ≡ BadLength
    more inner true r t h = cc
    more inner false (Ok es) t h = absurd cc
    more inner false (Err g) t h = let same : g ≡ f = cc in inner (t ∙ ap Err same)
elements_fault (suc n) [] f e = cc
elements_fault (suc n) (x ∷ rest) f e = elements_fault n rest f e

no_elements : (xs : List ℕ) (f : HeaderError) → elements_in xs ≡ Err f → (es : List Element) → spelled es ≡ xs → ⊥
no_elements xs f e es s = let read : elements_in xs ≡ Ok es = ap (λ (l : List ℕ). elements_in l) (sym s) ∙ spelled_is_read es in absurd cc

truncated_not : Truncated ≡ BadLength → ⊥
truncated_not e = absurd cc

pub header_is : (octets : List ℕ) (answer : Result (List Element) HeaderError) → header_at octets ≡ answer → HeaderIs octets answer
unfolding header_at run_in
header_is octets (Ok es) e = read_was_written octets es e
header_is [] (Err Truncated) e = tt
header_is [] (Err BadLength) e = absurd cc
header_is (size ∷ rest) (Err f) e = by (ltb (length rest) size) refl f e
  where
    by : (b : Bool) → ltb (length rest) size ≡ b → (f : HeaderError) → (cond b (Err Truncated) (Ok (take size rest, drop size rest)) >>= (λ (elements : List ℕ × List ℕ). elements_in elements.0)) ≡ Err f → HeaderIs (size ∷ rest) (Err f)
    by true t Truncated e = ltb-true _ _ t
    by true t BadLength e = absurd cc
    by false t Truncated e = absurd (truncated_not (elements_fault 0 (take size rest) Truncated e))
    by false t BadLength e = (ltb-false _ _ t, no_elements (take size rest) BadLength e)

-- no elements fill the octets
none_fill : (xs : List ℕ) (r : Result (List Element) HeaderError) → elements_in xs ≡ r → ((es : List Element) → spelled es ≡ xs → ⊥) → r ≡ Err BadLength
none_fill xs (Ok es) e none = absurd (none es (read_was_spelled xs es e))
none_fill xs (Err f) e none = ap Err (elements_fault 0 xs f e)

pub header_says : (octets : List ℕ) (answer : Result (List Element) HeaderError) → HeaderIs octets answer → header_at octets ≡ answer
unfolding header_at run_in
header_says octets (Ok es) h = ap header_at h.1 ∙ written_is_read es h.0
header_says [] (Err Truncated) h = refl
header_says [] (Err BadLength) h = absurd h
header_says (size ∷ rest) (Err Truncated) h = rw (lt-ltb (length rest) size h) refl
header_says (size ∷ rest) (Err BadLength) h = rw (le-ltb (length rest) size h.0) (none_fill (take size rest) (elements_in (take size rest)) refl h.1)
