-- Text in UTF-8, cut where a front of it is text.
use Rattle.std.proofs.Common.{◌≡◌, ℕ, zero, suc, ◌+◌, ◌-◌, ◌*◌, ◌%◌, ◌<◌, ◌≤◌, true, false, List, [], ◌∷◌, ◌++◌, length, take, drop, refl, sym, ap, ◌∙◌, subst, arith, ⊎_elim, Some, None}
use Rattle.std.specs.Prelude.{min}
use Rattle.std.specs.Str.{IsUtf8, is_utf8, encode_utf8_all}
use Rattle.std.specs.Char.{len_utf8, encode_utf8}
use Rattle.std.proofs.lemmas.Bool.{cases_Bool, and_parts}
use Rattle.std.proofs.lemmas.Str.{IsUtf8-nil, IsUtf8-append, IsUtf8-drop, IsUtf8-encode, IsUtf8-from_is_utf8, is_utf8-from_IsUtf8, IsCharBoundary-from_take, length-encode, len_utf8_bounds}
use Rattle.std.proofs.lemmas.List.{take-append-drop, take-take, length-append, length-take, length-drop}
use Rattle.std.proofs.Math.Seq.{take-append_seam}
use Rattle.std.proofs.Math.Utf8.{scalar, scalars}
use Rattle.sms_base.proofs.Bools.{same_bool}
use Rattle.sms_script.specs.Hexadecimal.{spelled}
use Rattle.sms_script.specs.TextCuts.{ContinuesText}

-- behind a front that is text, the rest is text exactly where the whole is
rest_is_text : (octets : List ℕ) (n : ℕ) → n ≤ length octets → IsUtf8 (take n octets) → is_utf8 octets ≡ is_utf8 (drop n octets)
rest_is_text octets n le front =
    same_bool (is_utf8 octets) (is_utf8 (drop n octets))
    (λ e. let whole = IsUtf8-from_is_utf8 octets e in
    is_utf8-from_IsUtf8 (drop n octets) (IsUtf8-drop octets n whole (IsCharBoundary-from_take octets n whole le front)))
    (λ e. is_utf8-from_IsUtf8 octets (subst (λ l. IsUtf8 l) (take-append-drop n octets) (IsUtf8-append (take n octets) (drop n octets) front (IsUtf8-from_is_utf8 (drop n octets) e))))

-- what a window of four octets has in front
in_window : (octets : List ℕ) (n : ℕ) → n ≤ 4 → take n (take 4 octets) ≡ take n octets
in_window octets n le = take-take n 4 octets le

-- the text that the digits behind the first n octets spell
pub spelled_behind : (n : ℕ) (digits : List ℕ) → drop n (spelled digits) ≡ spelled (drop (2 * n) digits)
spelled_behind zero digits = refl
spelled_behind (suc n) [] = let e : 2 * suc n ≡ suc (suc (2 * n)) = omega arith in rw e refl
spelled_behind (suc n) (digit ∷ []) = let e : 2 * suc n ≡ suc (suc (2 * n)) = omega arith in rw e refl
spelled_behind (suc n) (high ∷ low ∷ digits) = let e : 2 * suc n ≡ suc (suc (2 * n)) = omega arith in rw e (spelled_behind n digits)

-- text that is not empty begins with a character of at most four octets
begins : (octets : List ℕ) → IsUtf8 octets → 0 < length octets → (n : ℕ) × ((0 < n) × (n ≤ 4) × (n ≤ length octets) × IsUtf8 (take n octets))
begins octets ([], (s, e)) some = absurd (subst (λ l. ¬ (0 < length l)) e (λ h. omega arith) some)
begins octets (c ∷ cs, (s, e)) some =
    let ok : scalar c ≡ true = (and_parts (scalar c) (scalars cs) s).0 in
    let bounds = len_utf8_bounds c in
    let size : length (encode_utf8 c) ≡ len_utf8 c = length-encode c in
    let front : take (len_utf8 c) octets ≡ encode_utf8 c =
    subst (λ l. take (len_utf8 c) l ≡ encode_utf8 c) e (subst (λ n. take n (encode_utf8 c ++ encode_utf8_all cs) ≡ encode_utf8 c) size (take-append_seam (encode_utf8 c) (encode_utf8_all cs))) in
    let long : length octets ≡ length (encode_utf8 c) + length (encode_utf8_all cs) = ap (λ (l : List ℕ). length l) (sym e) ∙ length-append (encode_utf8 c) (encode_utf8_all cs) in
    (len_utf8 c, (omega arith, bounds.1, omega arith, subst (λ l. IsUtf8 l) (sym front) (IsUtf8-encode c ok)))

-- a window that begins with no text tells that there is none
pub no_text : (octets : List ℕ) → 0 < length octets → ((n : ℕ) → 0 < n → n ≤ length (take 4 octets) → ¬ IsUtf8 (take n (take 4 octets))) → is_utf8 octets ≡ false
no_text octets some none =
    ⊎_elim
    (λ (e : is_utf8 octets ≡ true).
    let b = begins octets (IsUtf8-from_is_utf8 octets e) some in
    let size : length (take 4 octets) ≡ min 4 (length octets) = length-take 4 octets in
    absurd (none b.0 b.1.0 (omega arith) (subst (λ l. IsUtf8 l) (sym (in_window octets b.0 b.1.1)) b.1.3)))
    (λ (e : is_utf8 octets ≡ false). e)
    (cases_Bool (is_utf8 octets))

-- a window that begins with text is passed
pub text_on : (digits : List ℕ) (n : ℕ) → n ≤ length (take 4 (spelled digits)) → IsUtf8 (take n (take 4 (spelled digits))) → is_utf8 (spelled digits) ≡ is_utf8 (spelled (drop (2 * n) digits))
text_on digits n le front =
    let octets : List ℕ = spelled digits in
    let size : length (take 4 octets) ≡ min 4 (length octets) = length-take 4 octets in
    let few : n ≤ 4 = omega arith in
    rest_is_text octets n (omega arith) (subst (λ l. IsUtf8 l) (in_window octets n few) front) ∙ ap (λ (l : List ℕ). is_utf8 l) (spelled_behind n digits)

pub some_spelled : (digits : List ℕ) → length digits % 2 ≡ 0 → ¬ (length digits ≡ 0) → 0 < length (spelled digits)
some_spelled [] even some = absurd (some refl)
some_spelled (digit ∷ []) even some = absurd (omega arith)
some_spelled (high ∷ low ∷ digits) even some = omega arith

pub passed : (digits window rest : List ℕ) (count n : ℕ) → length digits % 2 ≡ 0 → take count window ≡ take 4 (spelled digits) → 2 * count ≤ length digits → n ≤ length (take count window) → ¬ (n ≡ 0) →
    IsUtf8 (take n (take count window)) → rest ≡ drop (2 * n) digits → ContinuesText digits (Some rest)
passed digits window rest count n even e room le some front r =
    let le' : n ≤ length (take 4 (spelled digits)) = subst (λ l. n ≤ length l) e le in
    let front' : IsUtf8 (take n (take 4 (spelled digits))) = subst (λ l. IsUtf8 (take n l)) e front in
    let size : length (take count window) ≡ min count (length window) = length-take count window in
    let left : length rest ≡ length digits - 2 * n = ap (λ (l : List ℕ). length l) r ∙ length-drop (2 * n) digits in
    (omega arith, omega arith, text_on digits n le' front' ∙ ap (λ (l : List ℕ). is_utf8 (spelled l)) (sym r))

pub stuck : (digits window : List ℕ) (count n : ℕ) → length digits % 2 ≡ 0 → ¬ (length digits ≡ 0) → take count window ≡ take 4 (spelled digits) → n ≡ 0 →
    ((m : ℕ) → n < m → m ≤ length (take count window) → ¬ IsUtf8 (take m (take count window))) → ContinuesText digits None
stuck digits window count n even some e nothing longest =
    no_text (spelled digits) (some_spelled digits even some)
    (λ m more le u. longest m (omega arith) (subst (λ l. m ≤ length l) (sym e) le) (subst (λ l. IsUtf8 (take m l)) (sym e) u))

pub nothing_is_text : (digits : List ℕ) → length digits ≡ 0 → is_utf8 (spelled digits) ≡ true
nothing_is_text [] e = is_utf8-from_IsUtf8 [] IsUtf8-nil
nothing_is_text (digit ∷ digits) e = absurd (omega arith)
