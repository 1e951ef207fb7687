-- Streams and their pieces.
use Rattle.std.proofs.Common.{◌≡◌, ◌⊎◌, inl, inr, ℕ, ◌+◌, ◌<◌, ◌≤◌, List, [], ◌∷◌, ◌++◌, length, take, drop, refl, sym, ap, ◌∙◌, arith, append_assoc}
use Rattle.std.specs.List.{AllByRecursion}
use Rattle.std.proofs.lemmas.List.{take_at, drop_at, take-append-drop, length-append, length-take}
use Rattle.smpp_session.specs.declared.account.Account.{Account}
use Rattle.smpp_session.specs.declared.front.Front.{Front}
use Rattle.smpp_session.specs.declared.front.Front.TheVariants.{Waiting, Whole, BadLength, Dropped}
use Rattle.smpp_session.specs.declared.conversation.SessionState.{SessionState}
use Rattle.smpp_session.specs.declared.conversation.SessionState.TheVariants.{Opened, BoundTx, BoundRx, BoundTrx, Unbinding, Finishing, Broken, Closed}
use Rattle.smpp_session.specs.declared.turn.SessionStep.{SessionStep}
use Rattle.smpp_session.specs.Stream.{number_at, IsPiece, BeginsWithPiece, joined, IsStream, front_of}
use Rattle.smpp_session.specs.SessionTable.{treated}
use Rattle.smpp_session.specs.SessionRun.{fronted, stream, piece_in, by_pieces}
use Rattle.smpp_session.proofs.Cutting.{Facts, whole, facts_at, number_front, IsOpen, IsDeaf, open_or_deaf, dropped, piece_treated, bad_ends, waiting_preserved, closed_drops}

stated : (piece more : List ℕ) → IsPiece piece → number_at 0 (piece ++ more) ≡ length piece
stated piece more h =
    let long : 0 + 3 < length piece = omega (arith, h.header) in
    number_front 0 piece more long ∙ h.stated

-- ---- one cut

same_piece : (p q m n : List ℕ) → IsPiece p → IsPiece q → p ++ m ≡ q ++ n → (p ≡ q) × (m ≡ n)
same_piece p q m n hp hq e =
    let len : length p ≡ length q = sym (stated p m hp) ∙ (ap (number_at 0) e ∙ stated q n hq) in (
      sym (take_at p m (length p) refl) ∙ (ap (take (length p)) e ∙ take_at q n (length p) (sym len)),
      sym (drop_at p m (length p) refl) ∙ (ap (drop (length p)) e ∙ drop_at q n (length p) (sym len)),
    )

cuts_are_one : (ps qs : List (List ℕ)) (r s : List ℕ) → AllByRecursion IsPiece ps → AllByRecursion IsPiece qs → (BeginsWithPiece r → ⊥) → (BeginsWithPiece s → ⊥) → joined ps ++ r ≡ joined qs ++ s → (ps ≡ qs) × (r ≡ s)
cuts_are_one [] [] r s hp hq nr ns e = (refl, e)
cuts_are_one [] (q ∷ qs) r s hp hq nr ns e = absurd (nr (q, joined qs ++ s, hq.0, e ∙ append_assoc q (joined qs) s))
cuts_are_one (p ∷ ps) [] r s hp hq nr ns e = absurd (ns (p, joined ps ++ r, hp.0, sym e ∙ append_assoc p (joined ps) r))
cuts_are_one (p ∷ ps) (q ∷ qs) r s hp hq nr ns e =
    let both = same_piece p q (joined ps ++ r) (joined qs ++ s) hp.0 hq.0 (sym (append_assoc p (joined ps) r) ∙ (e ∙ append_assoc q (joined qs) s)) in
    let rest = cuts_are_one ps qs r s hp.1 hq.1 nr ns both.1 in
    (ap (λ (x : List ℕ). x ∷ ps) both.0 ∙ ap (λ (xs : List (List ℕ)). q ∷ xs) rest.0, rest.1)

pub one_cut : (octets : List ℕ) (ps qs : List (List ℕ)) (r s : List ℕ) → IsStream octets ps r → IsStream octets qs s → (ps ≡ qs) × (r ≡ s)
one_cut octets ps qs r s h g = cuts_are_one ps qs r s h.each g.each h.no_more g.no_more (sym h.parts ∙ g.parts)

-- ---- by pieces

piece_front : (state : SessionState) (piece more : List ℕ) → IsOpen state → IsPiece piece → front_of state (piece ++ more) ≡ Whole (length piece)
piece_front state piece more o h =
    let says : number_at 0 (piece ++ more) ≡ length piece = stated piece more h in
    let len : length (piece ++ more) ≡ length piece + length more = length-append piece more in
    let low : 16 ≤ number_at 0 (piece ++ more) = omega (arith, says, h.header) in
    let high : number_at 0 (piece ++ more) ≤ 65536 = omega (arith, says, h.short) in
    let fits : number_at 0 (piece ++ more) ≤ length (piece ++ more) = omega (arith, says, len) in
    o (piece ++ more) ∙ (whole (length (piece ++ more)) (number_at 0 (piece ++ more)) low high fits ∙ ap Whole says)

begins : (xs : List ℕ) (len : ℕ) → Facts (length xs) (number_at 0 xs) (Whole len) → BeginsWithPiece xs
begins xs len h =
    let fits : len ≤ length xs = omega (arith, h.0, h.3) in
    let same : length (take len xs) ≡ len = omega (arith, length-take len xs) in
    let joins : take len xs ++ drop len xs ≡ xs = take-append-drop len xs in
    let long : 0 + 3 < length (take len xs) = omega (arith, h.0, h.1) in
    let says : number_at 0 (take len xs) ≡ number_at 0 xs = sym (number_front 0 (take len xs) (drop len xs) long) ∙ ap (number_at 0) joins in
    let low : 16 ≤ length (take len xs) = omega (arith, h.0, h.1) in
    let high : length (take len xs) ≤ 65536 = omega (arith, h.0, h.2) in
    (take len xs, drop len xs, record { header = low; short = high; stated = says ∙ (sym h.0 ∙ sym same) }, sym joins)

rest_is : (accounts : List Account) (turn : SessionStep) (rest : List ℕ) → (BeginsWithPiece rest → ⊥) → stream accounts (turn, []) rest ≡ fronted accounts (front_of turn.conversation.state rest) turn rest
rest_is accounts turn rest none = by_front (front_of turn.conversation.state rest) refl where
  whole_never : (len : ℕ) → front_of turn.conversation.state rest ≡ Whole len → IsOpen turn.conversation.state ⊎ IsDeaf turn.conversation.state → ⊥
  whole_never len e (inl o) = none (begins rest len (facts_at rest (Whole len) (sym (o rest) ∙ e)))
  whole_never len e (inr c) =
      let never : Dropped ≡ Whole len = sym (c rest) ∙ e in
      absurd cc

  by_front : (f : Front) → front_of turn.conversation.state rest ≡ f → stream accounts (turn, []) rest ≡ fronted accounts f turn rest
  by_front Waiting e = waiting_preserved accounts turn rest e
  by_front (Whole len) e = absurd (whole_never len e (open_or_deaf turn.conversation.state))
  by_front BadLength e = bad_ends accounts turn rest e
  by_front Dropped e = closed_drops accounts turn rest e

treats : (accounts : List Account) (state : SessionState) (piece : List ℕ) (turn : SessionStep) → IsOpen state → piece_in accounts state piece turn ≡ treated accounts piece turn
treats accounts Opened piece turn o = refl
treats accounts BoundTx piece turn o = refl
treats accounts BoundRx piece turn o = refl
treats accounts BoundTrx piece turn o = refl
treats accounts Unbinding piece turn o = refl
treats accounts Finishing piece turn o = refl
treats accounts Broken piece turn o =
    let never : front_of Broken [] ≡ Waiting = o [] in
    absurd cc
treats accounts Closed piece turn o =
    let never : front_of Closed [] ≡ Waiting = o [] in
    absurd cc

drops : (accounts : List Account) (state : SessionState) (piece : List ℕ) (turn : SessionStep) → IsDeaf state → piece_in accounts state piece turn ≡ turn
drops accounts Opened piece turn c =
    let never : Waiting ≡ Dropped = c [] in
    absurd cc
drops accounts BoundTx piece turn c =
    let never : Waiting ≡ Dropped = c [] in
    absurd cc
drops accounts BoundRx piece turn c =
    let never : Waiting ≡ Dropped = c [] in
    absurd cc
drops accounts BoundTrx piece turn c =
    let never : Waiting ≡ Dropped = c [] in
    absurd cc
drops accounts Unbinding piece turn c =
    let never : Waiting ≡ Dropped = c [] in
    absurd cc
drops accounts Finishing piece turn c =
    let never : Waiting ≡ Dropped = c [] in
    absurd cc
drops accounts Broken piece turn c = refl
drops accounts Closed piece turn c = refl

one_piece : (accounts : List Account) (turn : SessionStep) (piece more : List ℕ) → IsPiece piece → IsOpen turn.conversation.state ⊎ IsDeaf turn.conversation.state
    → stream accounts (turn, []) (piece ++ more) ≡ stream accounts (piece_in accounts turn.conversation.state piece turn, []) more
one_piece accounts turn piece more h (inl o) =
    piece_treated accounts turn (piece ++ more) (length piece) (piece_front turn.conversation.state piece more o h)
    ∙ (ap (λ (xs : List ℕ). stream accounts (treated accounts xs turn, []) (drop (length piece) (piece ++ more))) (take_at piece more (length piece) refl)
    ∙ (ap (λ (xs : List ℕ). stream accounts (treated accounts piece turn, []) xs) (drop_at piece more (length piece) refl)
    ∙ ap (λ (t : SessionStep). stream accounts (t, []) more) (sym (treats accounts turn.conversation.state piece turn o))))
one_piece accounts turn piece more h (inr c) =
    let same : piece_in accounts turn.conversation.state piece turn ≡ turn = drops accounts turn.conversation.state piece turn c in
    dropped accounts turn (piece ++ more) c
    ∙ (sym (dropped accounts turn more c) ∙ ap (λ (t : SessionStep). stream accounts (t, []) more) (sym same))

pieces_are : (accounts : List Account) (turn : SessionStep) (pieces : List (List ℕ)) (rest : List ℕ) → AllByRecursion IsPiece pieces → (BeginsWithPiece rest → ⊥) → stream accounts (turn, []) (joined pieces ++ rest) ≡ by_pieces accounts turn pieces rest
pieces_are accounts turn [] rest each none = rest_is accounts turn rest none
pieces_are accounts turn (piece ∷ pieces) rest each none =
    ap (stream accounts (turn, [])) (append_assoc piece (joined pieces) rest)
    ∙ (one_piece accounts turn piece (joined pieces ++ rest) each.0 (open_or_deaf turn.conversation.state)
    ∙ pieces_are accounts (piece_in accounts turn.conversation.state piece turn) pieces rest each.1 none)

pub by_pieces_is : (accounts : List Account) (turn : SessionStep) (octets : List ℕ) (pieces : List (List ℕ)) (rest : List ℕ) → IsStream octets pieces rest → stream accounts (turn, []) octets ≡ by_pieces accounts turn pieces rest
by_pieces_is accounts turn octets pieces rest h = ap (stream accounts (turn, [])) h.parts ∙ pieces_are accounts turn pieces rest h.each h.no_more
