-- What crosses from the reader of a connection to its seat: octets, in order, each once.
use Rattle.std.specs.Prelude.{◌≡◌, ◌==◌, ℕ, Bool, true, false, List, [], ◌∷◌, ◌++◌, Option, Some, None, drop, length, take, ⊤}
use mathlib.Core.Option.{some}
use lib.ListN.{get_elem?}
use Rattle.std.specs.Io.{StartsWith}
use Rattle.std.specs.Option.{ForSome}
use Rattle.smsc_arrivals.specs.declared.pieces.Piece.{Piece}
use Rattle.smsc_arrivals.specs.declared.pieces.PiecesView.{PiecesView}

abbrev pub octets_of : Piece → List ℕ
octets_of piece = take piece.count piece.octets

-- the octets of the pieces, one after the other
abbrev pub octets_in : List Piece → List ℕ
octets_in [] = []
octets_in (piece ∷ pieces) = octets_of piece ++ octets_in pieces

-- A piece without octets is the end mark: the stream has no more.
abbrev pub is_mark : Piece → Bool
is_mark piece = piece.count == 0

-- the octets are all those that a stream was to give, where it states them
abbrev pub AreAll : Option (List ℕ) → List ℕ → Type 0
AreAll source octets = ForSome source (λ all. all ≡ octets)

-- Behind these octets the pieces cross. Where one of them is the end mark, those before it are all.
abbrev pub EndSo : Option (List ℕ) → List ℕ → List Piece → Type 0
EndSo source octets [] = ⊤
EndSo source octets (piece ∷ pieces) =
    (is_mark piece ≡ true → AreAll source (octets ++ octets_of piece)) × EndSo source (octets ++ octets_of piece) pieces

-- the octets are the first of those that a stream was to give, where it states them
abbrev pub IsGivenOf : Option (List ℕ) → List ℕ → Type 0
IsGivenOf source octets = ForSome source (λ all. StartsWith all octets)

-- the octets were given, and the stream has the others still to give
abbrev pub IsReadSo : Option (List ℕ) → List ℕ → Option (List ℕ) → Type 0
IsReadSo source octets rest = ForSome source (λ all. StartsWith all octets × (rest ≡ Some (drop (length octets) all)))

-- what a stream has still to give behind these octets, where it states that
abbrev pub left_behind : List ℕ → Option (List ℕ) → Option (List ℕ)
left_behind octets None = None
left_behind octets (Some source) = Some (drop (length octets) source)

abbrev pub log : Bool → Bool → Option (List ℕ) → List ℕ → List ℕ → PiecesView
log gives takes source given taken = record { gives = gives; takes = takes; source = source; given = given; taken = taken }

abbrev pub giver_view : Option (List ℕ) → List ℕ → PiecesView
giver_view source given = log true false source given []

abbrev pub taker_view : Option (List ℕ) → List ℕ → PiecesView
taker_view source taken = log false true source [] taken

-- nothing was given yet, and no stream is named
abbrev pub joined_view : PiecesView
joined_view = log true true None [] []

-- The pass of the reader, of which there is one, knows what was given, and that of the seat what was taken. Both know the stream. Where
-- they are one still, nothing was given.
abbrev pub FitsPass : List Piece → ℕ → ℕ → Option (List ℕ) → List ℕ → List ℕ → ℕ → PiecesView → Type 0
FitsPass items giver taker source given taken port v =
    (v.gives ≡ true → (port ≡ giver) × (v.source ≡ source) × (v.given ≡ given))
    × (v.takes ≡ true → (port ≡ taker) × (v.source ≡ source) × (v.taken ≡ taken))
    × (v.gives ≡ true → v.takes ≡ true → items ≡ [])

-- What the reader gave is what the seat took, and then the queue. It is the first of what the stream was to give, and all of it before
-- an end mark.
abbrev pub Crosses : List Piece → List PiecesView → Type 0
Crosses items views =
    (giver : ℕ) × (taker : ℕ) × (source : Option (List ℕ)) × (given : List ℕ) × (taken : List ℕ)
    × (given ≡ taken ++ octets_in items) × IsGivenOf source given × EndSo source taken items
    × ((port : ℕ) (v : PiecesView) → get_elem? views port ≡ some v → FitsPass items giver taker source given taken port v)
