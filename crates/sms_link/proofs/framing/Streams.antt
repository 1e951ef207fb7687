-- Streams and their frames.
use Rattle.std.proofs.Common.{◌≡◌, ℕ, ◌+◌, ◌*◌, ◌/◌, ◌%◌, ◌<◌, ◌≤◌, Bool, true, false, cond, eqb, ltb, leb, List, [], ◌∷◌, ◌++◌, length, take, drop, Option, Some, None, Result, Ok, Err, refl, sym, ap, ◌∙◌, arith, append_assoc}
use Rattle.std.specs.List.{AllByRecursion}
use Rattle.std.proofs.lemmas.Bool.{le-ltb, ltb-false, le-leb, leb-true, ne_eqb, eqb-false}
use Rattle.std.proofs.lemmas.List.{append_cancel_left, take_at, take-append-drop, length-append, length-take-le}
use Rattle.sms_link.specs.framing.Framing.{longest_frame, IsFrame, framed, joined, BeginsWithFrame, IsStream, sized_of, front_of}
use Rattle.sms_link.specs.declared.framing.fault.FramingFault.{FramingFault}
use Rattle.sms_link.specs.declared.framing.fault.FramingFault.TheVariants.{Empty, TooLong}

-- ---- the front

sized_frame : (p m : List ℕ) → IsFrame p → sized_of (length p) (p ++ m) ≡ Ok (Some p)
sized_frame p m h =
    let some : eqb (length p) 0 ≡ false = ne_eqb _ _ (λ e. omega (arith, h.some)) in
    let short : ltb longest_frame (length p) ≡ false = le-ltb longest_frame (length p) h.short in
    let there : leb (length p) (length (p ++ m)) ≡ true = le-leb _ _ (omega (arith, length-append p m)) in
    rw (some, short, there) (ap (λ (l : List ℕ). let r : Result (Option (List ℕ)) FramingFault = Ok (Some l) in r) (take_at p m (length p) refl))

size_is : (n : ℕ) → 256 * (n / 256) + n % 256 ≡ n
size_is n = omega arith

front_framed : (p m : List ℕ) → IsFrame p → front_of (framed p ++ m) ≡ Ok (Some p)
front_framed p m h = ap (λ (n : ℕ). sized_of n (p ++ m)) (size_is (length p)) ∙ sized_frame p m h

begins_at : (high low : ℕ) (os frame : List ℕ) → ¬ (256 * high + low ≡ 0) → 256 * high + low ≤ longest_frame → 256 * high + low ≤ length os → take (256 * high + low) os ≡ frame → BeginsWithFrame (high ∷ low ∷ os) frame
begins_at high low os frame some short there e =
    let size : length frame ≡ 256 * high + low = ap length (sym e) ∙ length-take-le (256 * high + low) os there in
    let joins : frame ++ drop (256 * high + low) os ≡ os = ap (λ (l : List ℕ). l ++ drop (256 * high + low) os) (sym e) ∙ take-append-drop (256 * high + low) os in
    let first : high ≡ length frame / 256 = omega (arith, size, short) in
    let second : low ≡ length frame % 256 = omega (arith, size, short) in
    let positive : 0 < length frame = omega (arith, size, some) in (
      record { some = positive; short = omega (arith, size, short) },
      (drop (256 * high + low) os, rw (sym first, sym second, joins) refl),
    )

pub front_found : (octets frame : List ℕ) → front_of octets ≡ Ok (Some frame) → BeginsWithFrame octets frame
front_found [] frame e = absurd cc
front_found (x ∷ []) frame e = absurd cc
front_found (high ∷ low ∷ os) frame e = by_tests (eqb (256 * high + low) 0) (ltb longest_frame (256 * high + low)) (leb (256 * high + low) (length os)) refl refl refl e where
  by_tests : (a b c : Bool) → eqb (256 * high + low) 0 ≡ a → ltb longest_frame (256 * high + low) ≡ b → leb (256 * high + low) (length os) ≡ c
      → (let r : Result (Option (List ℕ)) FramingFault = cond a (Err Empty) (cond b (Err TooLong) (cond c (Ok (Some (take (256 * high + low) os))) (Ok None))) in r) ≡ Ok (Some frame) → BeginsWithFrame (high ∷ low ∷ os) frame
  by_tests true b c p q r e = absurd cc
  by_tests false true c p q r e = absurd cc
  by_tests false false false p q r e = absurd cc
  by_tests false false true p q r e =
      begins_at high low os frame (eqb-false _ _ p) (ltb-false _ _ q) (leb-true _ _ r) cc

-- ---- one cut

behind : (p q m n : List ℕ) → p ≡ q → framed p ++ m ≡ framed q ++ n → m ≡ n
behind p q m n same e = append_cancel_left (framed p) m n (e ∙ ap (λ (l : List ℕ). framed l ++ n) (sym same))

same_frame : (p q m n : List ℕ) → IsFrame p → IsFrame q → framed p ++ m ≡ framed q ++ n → (p ≡ q) × (m ≡ n)
same_frame p q m n hp hq e =
    let fronts : Ok (Some p) ≡ Ok (Some q) = sym (front_framed p m hp) ∙ (ap front_of e ∙ front_framed q n hq) in
    let same : p ≡ q = cc in
    (same, behind p q m n same e)

cuts_are_one : (ps qs : List (List ℕ)) (r s : List ℕ) → AllByRecursion IsFrame ps → AllByRecursion IsFrame qs → ((frame : List ℕ) → BeginsWithFrame r frame → ⊥) → ((frame : List ℕ) → BeginsWithFrame s frame → ⊥) → joined ps ++ r ≡ joined qs ++ s → (ps ≡ qs) × (r ≡ s)
cuts_are_one [] [] r s hp hq nr ns e = (refl, e)
cuts_are_one [] (q ∷ qs) r s hp hq nr ns e = absurd (nr q (hq.0, (joined qs ++ s, e ∙ append_assoc (framed q) (joined qs) s)))
cuts_are_one (p ∷ ps) [] r s hp hq nr ns e = absurd (ns p (hp.0, (joined ps ++ r, sym e ∙ append_assoc (framed p) (joined ps) r)))
cuts_are_one (p ∷ ps) (q ∷ qs) r s hp hq nr ns e =
    let both = same_frame p q (joined ps ++ r) (joined qs ++ s) hp.0 hq.0 (sym (append_assoc (framed p) (joined ps) r) ∙ (e ∙ append_assoc (framed q) (joined qs) s)) in
    let rest = cuts_are_one ps qs r s hp.1 hq.1 nr ns both.1 in
    (ap (λ (x : List ℕ). x ∷ ps) both.0 ∙ ap (λ (xs : List (List ℕ)). q ∷ xs) rest.0, rest.1)

pub one_cut : (octets : List ℕ) (ps qs : List (List ℕ)) (r s : List ℕ) → IsStream octets ps r → IsStream octets qs s → (ps ≡ qs) × (r ≡ s)
one_cut octets ps qs r s h g = cuts_are_one ps qs r s h.each g.each h.no_more g.no_more (sym h.parts ∙ g.parts)

-- ---- pieces

pub joined_append : (ps qs : List (List ℕ)) → joined (ps ++ qs) ≡ joined ps ++ joined qs
joined_append [] qs = refl
joined_append (p ∷ ps) qs = ap (λ (l : List ℕ). framed p ++ l) (joined_append ps qs) ∙ sym (append_assoc (framed p) (joined ps) (joined qs))

each_append : (ps qs : List (List ℕ)) → AllByRecursion IsFrame ps → AllByRecursion IsFrame qs → AllByRecursion IsFrame (ps ++ qs)
each_append [] qs hp hq = hq
each_append (p ∷ ps) qs hp hq = (hp.0, each_append ps qs hp.1 hq)

pub pieces_are_one : (first second : List ℕ) (one other : List (List ℕ)) (rest left : List ℕ) → IsStream first one rest → IsStream (rest ++ second) other left → IsStream (first ++ second) (one ++ other) left
pieces_are_one first second one other rest left h g = record {
  parts = ap (λ (l : List ℕ). l ++ second) h.parts
      ∙ (append_assoc (joined one) rest second
      ∙ (ap (λ (l : List ℕ). joined one ++ l) g.parts
      ∙ (sym (append_assoc (joined one) (joined other) left) ∙ ap (λ (l : List ℕ). l ++ left) (sym (joined_append one other)))));
  each = each_append one other h.each g.each;
  no_more = g.no_more;
}
