-- A session over the octets that arrive, and over a list of calls.
use Rattle.std.specs.Prelude.{ℕ, List, [], ◌∷◌, ◌++◌}
use Rattle.smpp_session.specs.declared.account.Account.{Account}
use Rattle.smpp_session.specs.declared.front.Front.{Front}
use Rattle.smpp_session.specs.declared.front.Front.TheVariants.{Waiting, Whole, BadLength, Dropped}
use Rattle.smpp_session.specs.declared.conversation.SessionState.{SessionState}
use Rattle.smpp_session.specs.declared.conversation.SessionState.TheVariants.{Opened, BoundTx, BoundRx, BoundTrx, Unbinding, Finishing, Broken, Closed}
use Rattle.smpp_session.specs.declared.turn.SessionStep.{SessionStep}
use Rattle.smpp_session.specs.Stream.{front_of}
use Rattle.smpp_session.specs.SessionTable.{treated, bad_length}

-- A turn, and the octets that aren't treated yet.
abbrev pub StreamProgress : Type 0
StreamProgress = SessionStep × List ℕ

-- what becomes of octets that begin so
abbrev pub fronted : List Account → Front → SessionStep → List ℕ → StreamProgress
fronted accounts Waiting turn octets = (turn, octets)
fronted accounts (Whole len) turn octets = (treated accounts octets turn, [])
fronted accounts BadLength turn octets = (bad_length octets turn, [])
fronted accounts Dropped turn octets = (turn, [])

-- One octet more. A PDU is treated when its last octet arrives, a bad length when the last octet of its header arrives.
unfoldable pub one_more : List Account → StreamProgress → ℕ → StreamProgress
one_more accounts progress octet =
    fronted accounts (front_of progress.0.conversation.state (progress.1 ++ octet ∷ [])) progress.0 (progress.1 ++ octet ∷ [])

-- Octets one after the other.
unfoldable pub stream : List Account → StreamProgress → List ℕ → StreamProgress
stream accounts progress [] = progress
stream accounts progress (octet ∷ octets) = stream accounts (one_more accounts progress octet) octets

-- ---- the same by pieces

-- a session that is broken or closed drops a piece, any other treats it
abbrev pub piece_in : List Account → SessionState → List ℕ → SessionStep → SessionStep
piece_in accounts Closed piece turn = turn
piece_in accounts Broken piece turn = turn
piece_in accounts Opened piece turn = treated accounts piece turn
piece_in accounts BoundTx piece turn = treated accounts piece turn
piece_in accounts BoundRx piece turn = treated accounts piece turn
piece_in accounts BoundTrx piece turn = treated accounts piece turn
piece_in accounts Unbinding piece turn = treated accounts piece turn
piece_in accounts Finishing piece turn = treated accounts piece turn

-- the pieces of a stream one after the other, and then its rest
abbrev pub by_pieces : List Account → SessionStep → List (List ℕ) → List ℕ → StreamProgress
by_pieces accounts turn [] rest = fronted accounts (front_of turn.conversation.state rest) turn rest
by_pieces accounts turn (piece ∷ pieces) rest = by_pieces accounts (piece_in accounts turn.conversation.state piece turn) pieces rest
