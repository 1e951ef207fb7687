-- The elements of an array, written one behind another.
use Rattle.std.proofs.Common.{◌≡◌, ◌<◌, ◌≤◌, ◌+◌, ◌-◌, ℕ, zero, suc, List, [], ◌∷◌, ◌++◌, length, get_or, drop, take, add-one, append-nil, append_assoc, refl, ap, ◌∙◌, arith}
use Rattle.std.specs.Prelude.{codes, flat_map, reverse, String, string_bytes}
use Rattle.std.proofs.lemmas.Grind.{flat_map-append}
use Rattle.std.proofs.lemmas.List.{get_or-reverse, length-reverse, take_more}
use Rattle.smsc_status.specs.Charts.{height, point_text, points_text}
use Rattle.smsc_status.specs.Commits.{counted}
use Rattle.smsc_status.specs.Json.{comma, elements, first_places, place_text}
use Rattle.smsc_status.specs.Metrics.{behind, bucket, first_buckets, line_text, lines_text}
use Rattle.smsc_status.specs.Page.{event_item, tile_text, tiles_end, tiles_text}
use Rattle.smsc_status.specs.declared.metrics.Line.{Line}
use Rattle.smsc_status.specs.declared.page.Tile.{Tile}
use Rattle.smsc_status.specs.declared.commits.TheConstants.{LIMITS}

-- what is still to be written of the elements from that place on
abbrev pub left : {A : Type 0} → (A → List ℕ) → List A → ℕ → List ℕ
left text xs zero = elements text xs
left text xs (suc place) = flat_map (λ y. codes "," ++ text y) (drop (suc place) xs)

dropped : {A : Type 0} (xs : List A) (place : ℕ) (d : A) → place < length xs → drop place xs ≡ get_or xs place d ∷ drop (suc place) xs
dropped [] place d h = absurd (omega arith)
dropped (x ∷ xs) zero d h = refl
dropped (x ∷ xs) (suc place) d h = dropped xs place d (omega arith)

pub one_more : {A : Type 0} (text : A → List ℕ) (xs : List A) (place : ℕ) (d : A) → place < length xs →
    left text xs place ≡ comma place ++ (text (get_or xs place d) ++ left text xs (suc place))
one_more text [] place d h = absurd (omega arith)
one_more text (x ∷ xs) zero d h = refl
one_more text (x ∷ xs) (suc place) d h =
    ap (λ l. flat_map (λ y. codes "," ++ text y) l) (dropped (x ∷ xs) (suc place) d h)

none_after : {A : Type 0} (text : A → List ℕ) (ys : List A) (n : ℕ) → length ys ≤ n → flat_map (λ y. codes "," ++ text y) (drop n ys) ≡ []
none_after text [] zero h = refl
none_after text [] (suc n) h = refl
none_after text (y ∷ ys) zero h = absurd (omega arith)
none_after text (y ∷ ys) (suc n) h = none_after text ys n (omega arith)

pub none_left : {A : Type 0} (text : A → List ℕ) (xs : List A) (place : ℕ) → length xs ≤ place → left text xs place ≡ []
none_left text [] zero h = refl
none_left text [] (suc place) h = refl
none_left text (x ∷ xs) zero h = absurd (omega arith)
none_left text (x ∷ xs) (suc place) h = none_after text xs place (omega arith)

-- ---- the latest first

pub one_more_back : {A : Type 0} (text : A → List ℕ) (xs : List A) (i : ℕ) (d : A) → i < length xs →
    flat_map text (take (i + 1) (reverse xs)) ≡ flat_map text (take i (reverse xs)) ++ text (get_or xs (length xs - 1 - i) d)
one_more_back text xs i d h =
    let l : length (reverse xs) ≡ length xs = length-reverse xs in
    ap (flat_map text) (take_more (reverse xs) i d (omega (arith, l)))
    ∙ flat_map-append text (take i (reverse xs)) (get_or (reverse xs) i d ∷ [])
    ∙ ap (λ y. flat_map text (take i (reverse xs)) ++ y) (append-nil (text (get_or (reverse xs) i d)))
    ∙ ap (λ y. flat_map text (take i (reverse xs)) ++ text y) (get_or-reverse xs i d h)

pub one_more_event : {Z : Type 0} (events : List (String Z)) (i : ℕ) (d : String Z) → i < length events →
    flat_map (λ event. event_item (string_bytes event)) (take (i + 1) (reverse events))
    ≡ flat_map (λ event. event_item (string_bytes event)) (take i (reverse events)) ++ event_item (string_bytes (get_or events (length events - 1 - i) d))
one_more_event events i d h = one_more_back (λ event. event_item (string_bytes event)) events i d h

-- ---- tiles and lines

-- tiles, and behind them what ends them
pub followed_is : (tiles : List Tile) → flat_map tile_text tiles ++ tiles_end ≡ tiles_text tiles
followed_is [] = refl
followed_is (some ∷ tiles) = append_assoc (tile_text some) (flat_map tile_text tiles) tiles_end ∙ ap (λ l. tile_text some ++ l) (followed_is tiles)

behind_is : (text : List ℕ) (lines : List Line) → text ++ flat_map line_text lines ≡ behind text lines
behind_is text [] = append-nil text
behind_is text (line ∷ lines) = ap (λ l. text ++ l) (behind_is (line_text line) lines)

pub lines_are : (lines : List Line) → flat_map line_text lines ≡ lines_text lines
lines_are [] = refl
lines_are (line ∷ lines) = behind_is (line_text line) lines

-- ---- places and buckets

pub one_more_place : (counts : List ℕ) (place : ℕ) →
    first_places counts (place + 1) ≡ first_places counts place ++ place_text (get_or LIMITS place 0) (get_or counts place 0)
unfolding first_places
one_more_place counts place = rw (add-one place) refl

pub no_place : (counts : List ℕ) → first_places counts 0 ≡ []
unfolding first_places
no_place counts = refl

pub one_more_bucket : (counts : List ℕ) (place : ℕ) →
    first_buckets counts (place + 1) ≡ first_buckets counts place ++ bucket (get_or LIMITS place 0) (counted (take (place + 1) counts))
unfolding first_buckets
one_more_bucket counts place = rw (add-one place) refl

pub no_bucket : (counts : List ℕ) → first_buckets counts 0 ≡ []
unfolding first_buckets
no_bucket counts = refl

-- ---- points

pub one_more_point : (x greatest : ℕ) (values : List ℕ) (place : ℕ) → place < length values →
    points_text x greatest (drop place values) ≡ point_text x (height (get_or values place 0) greatest) ++ points_text (x + 1) greatest (drop (place + 1) values)
one_more_point x greatest values place h = rw (add-one x, add-one place) (ap (points_text x greatest) (dropped values place 0 h))
