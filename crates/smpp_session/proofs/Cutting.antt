-- Octets that are fed one after the other, where they are cut.
use Rattle.std.proofs.Common.{◌≡◌, ◌⊎◌, inl, inr, ℕ, zero, suc, ◌+◌, ◌<◌, ◌≤◌, Bool, true, false, ◌&&◌, cond, ltb, leb, List, [], ◌∷◌, ◌++◌, length, get_or, take, drop, refl, sym, ap, subst, ◌∙◌, arith, append_assoc, drop-drop}
use Rattle.std.proofs.lemmas.Bool.{ltb-true, ltb-false, leb-true, leb-false}
use Rattle.std.proofs.lemmas.Bool.Decides.{leb_tells}
use Rattle.std.proofs.Math.ListN.{get_or-append}
use Rattle.std.proofs.Math.Seq.{drop-cons, take-suc}
use Rattle.std.proofs.lemmas.List.{append-nil, take-append-drop, length-append, length-take, drop_all}
use Rattle.smpp_session.specs.declared.account.Account.{Account}
use Rattle.smpp_session.specs.declared.front.Front.{Front}
use Rattle.smpp_session.specs.declared.front.Front.TheVariants.{Waiting, Whole, BadLength, Dropped}
use Rattle.smpp_session.specs.declared.conversation.SessionState.{SessionState}
use Rattle.smpp_session.specs.declared.conversation.SessionState.TheVariants.{Opened, BoundTx, BoundRx, BoundTrx, Unbinding, Finishing, Broken, Closed}
use Rattle.smpp_session.specs.declared.turn.SessionStep.{SessionStep}
use Rattle.smpp_session.specs.Stream.{number_at, header_at, front_at, front_of}
use Rattle.smpp_pdu.specs.declared.body.Body.TheVariants.{GenericNack}
use Rattle.smpp_pdu.specs.declared.status.CommandStatus.TheVariants.{ESME_RINVCMDLEN}
use Rattle.smpp_session.specs.SessionTable.{treated, bad_length, broken, broken_by, sent}
use Rattle.smpp_session.specs.SessionRun.{StreamProgress, fronted, one_more, stream}

-- ---- what octets begin with, by their number and the length that they state

abbrev pub front_by : ℕ → ℕ → Front
front_by l n = cond (ltb l 16) Waiting (cond (leb 16 n && leb n 65536) (cond (ltb l n) Waiting (Whole n)) BadLength)

abbrev pub Facts : ℕ → ℕ → Front → Type 0
Facts l n Waiting = (l < 16) ⊎ ((16 ≤ n) × (n ≤ 65536) × (l < n))
Facts l n (Whole len) = (len ≡ n) × (16 ≤ n) × (n ≤ 65536) × (n ≤ l)
Facts l n BadLength = (16 ≤ l) × ((n < 16) ⊎ (65536 < n))
Facts l n Dropped = ⊥

pub facts : (l n : ℕ) → Facts l n (front_by l n)
facts l n = first (ltb l 16) refl where
  third : (a : Bool) → 16 ≤ n → n ≤ 65536 → ltb l n ≡ a → Facts l n (cond a Waiting (Whole n))
  third true low high e = inr (low, high, ltb-true _ _ e)
  third false low high e = (refl, low, high, ltb-false _ _ e)

  second : (a b : Bool) → 16 ≤ l → leb 16 n ≡ a → leb n 65536 ≡ b → Facts l n (cond (a && b) (cond (ltb l n) Waiting (Whole n)) BadLength)
  second true true long d e = third (ltb l n) (leb-true _ _ d) (leb-true _ _ e) refl
  second true false long d e = (long, inr (leb-false _ _ e))
  second false b long d e = (long, inl (leb-false _ _ d))

  first : (a : Bool) → ltb l 16 ≡ a → Facts l n (cond a Waiting (cond (leb 16 n && leb n 65536) (cond (ltb l n) Waiting (Whole n)) BadLength))
  first true e = inl (ltb-true _ _ e)
  first false e = second (leb 16 n) (leb n 65536) (ltb-false _ _ e) refl refl

waits_by : (l n : ℕ) (f : Front) → Facts l n f → Facts l n Waiting → f ≡ Waiting
waits_by l n Waiting g h = refl
waits_by l n (Whole len) g (inl h) = absurd (omega (arith, g.1, g.3))
waits_by l n (Whole len) g (inr h) = absurd (omega (arith, g.3, h.2))
waits_by l n BadLength (g, inl d) (inl h) = absurd (omega arith)
waits_by l n BadLength (g, inr d) (inl h) = absurd (omega arith)
waits_by l n BadLength (g, inl d) (inr h) = absurd (omega (arith, h.0))
waits_by l n BadLength (g, inr d) (inr h) = absurd (omega (arith, h.1))
waits_by l n Dropped g h = absurd g

pub waits : (l n : ℕ) → Facts l n Waiting → front_by l n ≡ Waiting
waits l n h = waits_by l n (front_by l n) (facts l n) h

whole_by : (l n : ℕ) (f : Front) → Facts l n f → 16 ≤ n → n ≤ 65536 → n ≤ l → f ≡ Whole n
whole_by l n Waiting (inl g) low high fits = absurd (omega arith)
whole_by l n Waiting (inr g) low high fits = absurd (omega (arith, g.2))
whole_by l n (Whole len) g low high fits = ap Whole g.0
whole_by l n BadLength (g, inl d) low high fits = absurd (omega arith)
whole_by l n BadLength (g, inr d) low high fits = absurd (omega arith)
whole_by l n Dropped g low high fits = absurd g

pub whole : (l n : ℕ) → 16 ≤ n → n ≤ 65536 → n ≤ l → front_by l n ≡ Whole n
whole l n low high fits = whole_by l n (front_by l n) (facts l n) low high fits

bad_by : (l n : ℕ) (f : Front) → Facts l n f → 16 ≤ l → (n < 16) ⊎ (65536 < n) → f ≡ BadLength
bad_by l n Waiting (inl g) long h = absurd (omega arith)
bad_by l n Waiting (inr g) long (inl h) = absurd (omega (arith, g.0))
bad_by l n Waiting (inr g) long (inr h) = absurd (omega (arith, g.1))
bad_by l n (Whole len) g long (inl h) = absurd (omega (arith, g.1))
bad_by l n (Whole len) g long (inr h) = absurd (omega (arith, g.2))
bad_by l n BadLength g long h = refl
bad_by l n Dropped g long h = absurd g

pub bad : (l n : ℕ) → 16 ≤ l → (n < 16) ⊎ (65536 < n) → front_by l n ≡ BadLength
bad l n long h = bad_by l n (front_by l n) (facts l n) long h

-- what an equation says
pub facts_at : (xs : List ℕ) (f : Front) → front_at xs ≡ f → Facts (length xs) (number_at 0 xs) f
facts_at xs f e = subst (λ (g : Front). Facts (length xs) (number_at 0 xs) g) e (facts (length xs) (number_at 0 xs))

-- ---- a front of the octets states what they state

pub number_front : (place : ℕ) (front more : List ℕ) → place + 3 < length front → number_at place (front ++ more) ≡ number_at place front
number_front place front more fits =
    let a = get_or-append front more 0 place (omega arith) in
    let b = get_or-append front more 0 (place + 1) (omega arith) in
    let c = get_or-append front more 0 (place + 2) (omega arith) in
    let d = get_or-append front more 0 (place + 3) fits in
    rw (a, b, c, d) refl

pub waits_front : (front more : List ℕ) → front_at (front ++ more) ≡ Waiting → front_at front ≡ Waiting
waits_front front more e = by_facts (facts_at (front ++ more) Waiting e) (leb_tells 16 (length front)) where
  short : length front ≤ length (front ++ more)
  short = omega (arith, length-append front more)

  by_facts : Facts (length (front ++ more)) (number_at 0 (front ++ more)) Waiting → ((leb 16 (length front) ≡ true) × (16 ≤ length front)) ⊎ ((leb 16 (length front) ≡ false) × (length front < 16)) → front_at front ≡ Waiting
  by_facts (inl h) t = waits (length front) (number_at 0 front) (inl (omega (arith, short)))
  by_facts (inr h) (inr t) = waits (length front) (number_at 0 front) (inl t.1)
  by_facts (inr h) (inl t) =
      let same : number_at 0 (front ++ more) ≡ number_at 0 front = number_front 0 front more (omega (arith, t.1)) in
      waits (length front) (number_at 0 front) (inr (rw same at h.0, rw same at h.1, omega (arith, short, rw same at h.2)))

-- ---- by the state

-- a session that cuts octets into PDUs, and one that drops them
abbrev pub IsOpen : SessionState → Type 0
IsOpen state = (xs : List ℕ) → front_of state xs ≡ front_at xs

abbrev pub IsDeaf : SessionState → Type 0
IsDeaf state = (xs : List ℕ) → front_of state xs ≡ Dropped

pub open_or_deaf : (state : SessionState) → IsOpen state ⊎ IsDeaf state
open_or_deaf Opened = inl (λ xs. refl)
open_or_deaf BoundTx = inl (λ xs. refl)
open_or_deaf BoundRx = inl (λ xs. refl)
open_or_deaf BoundTrx = inl (λ xs. refl)
open_or_deaf Unbinding = inl (λ xs. refl)
open_or_deaf Finishing = inl (λ xs. refl)
open_or_deaf Broken = inr (λ xs. refl)
open_or_deaf Closed = inr (λ xs. refl)

pub closed_deaf : (state : SessionState) → state ≡ Closed → IsDeaf state
closed_deaf state e = λ xs. ap (λ (s : SessionState). front_of s xs) e

pub broken_deaf : (owed : List ℕ) (turn : SessionStep) → IsDeaf (broken_by owed turn).conversation.state
broken_deaf [] turn = λ xs. refl
broken_deaf (number ∷ numbers) turn = λ xs. refl

-- ---- octets one after the other

pub stream-append : (accounts : List Account) (c : StreamProgress) (xs ys : List ℕ) → stream accounts c (xs ++ ys) ≡ stream accounts (stream accounts c xs) ys
unfolding stream
stream-append accounts c [] ys = refl
stream-append accounts c (x ∷ xs) ys = stream-append accounts (one_more accounts c x) xs ys

pub step_is : (accounts : List Account) (turn : SessionStep) (before : List ℕ) (octet : ℕ) (f : Front) → front_of turn.conversation.state (before ++ octet ∷ []) ≡ f → one_more accounts (turn, before) octet ≡ fronted accounts f turn (before ++ octet ∷ [])
unfolding one_more
step_is accounts turn before octet f e = ap (λ (g : Front). fronted accounts g turn (before ++ octet ∷ [])) e

-- octets that are waited for are kept
pub walks : (accounts : List Account) (turn : SessionStep) (before more : List ℕ) → IsOpen turn.conversation.state → front_at (before ++ more) ≡ Waiting → stream accounts (turn, before) more ≡ (turn, before ++ more)
unfolding stream
walks accounts turn before [] o h = ap (λ (ys : List ℕ). (turn, ys)) (sym (append-nil before))
walks accounts turn before (x ∷ xs) o h =
    let same : (before ++ x ∷ []) ++ xs ≡ before ++ x ∷ xs = append_assoc before (x ∷ []) xs in
    let later : front_at ((before ++ x ∷ []) ++ xs) ≡ Waiting = subst (λ (ys : List ℕ). front_at ys ≡ Waiting) (sym same) h in
    let now : front_of turn.conversation.state (before ++ x ∷ []) ≡ Waiting = o (before ++ x ∷ []) ∙ waits_front (before ++ x ∷ []) xs later in
    ap (λ (c : StreamProgress). stream accounts c xs) (step_is accounts turn before x Waiting now)
    ∙ (walks accounts turn (before ++ x ∷ []) xs o later ∙ ap (λ (ys : List ℕ). (turn, ys)) same)

-- a broken or closed session drops what comes
pub dropped : (accounts : List Account) (turn : SessionStep) (more : List ℕ) → IsDeaf turn.conversation.state → stream accounts (turn, []) more ≡ (turn, [])
unfolding stream
dropped accounts turn [] e = refl
dropped accounts turn (x ∷ xs) e =
    let now : front_of turn.conversation.state (x ∷ []) ≡ Dropped = e (x ∷ []) in
    ap (λ (c : StreamProgress). stream accounts c xs) (step_is accounts turn [] x Dropped now) ∙ dropped accounts turn xs e

-- the last octet of a PDU
piece_at : (accounts : List Account) (turn : SessionStep) (front : List ℕ) (x : ℕ) (more : List ℕ) → IsOpen turn.conversation.state → 16 ≤ length front + 1 → length front + 1 ≤ 65536 → number_at 0 (front ++ x ∷ []) ≡ length front + 1
    → stream accounts (turn, []) (front ++ x ∷ more) ≡ stream accounts (treated accounts (front ++ x ∷ []) turn, []) more
unfolding stream
piece_at accounts turn front x more o low high stated =
    let len : length (front ++ x ∷ []) ≡ length front + 1 = length-append front (x ∷ []) in
    let same : number_at 0 (front ++ x ∷ []) ≡ number_at 0 front = number_front 0 front (x ∷ []) (omega arith) in
    let before : front_at front ≡ Waiting = waits (length front) (number_at 0 front) (short (leb_tells 16 (length front)) (sym same ∙ stated)) in
    let now : front_of turn.conversation.state (front ++ x ∷ []) ≡ Whole (number_at 0 (front ++ x ∷ [])) =
    o (front ++ x ∷ []) ∙ whole (length (front ++ x ∷ [])) (number_at 0 (front ++ x ∷ [])) (omega arith) (omega arith) (omega arith)
    in
    stream-append accounts (turn, []) front (x ∷ more)
    ∙ (ap (λ (c : StreamProgress). stream accounts c (x ∷ more)) (walks accounts turn [] front o before)
    ∙ ap (λ (c : StreamProgress). stream accounts c more) (step_is accounts turn front x (Whole (number_at 0 (front ++ x ∷ []))) now)) where
      short : ((leb 16 (length front) ≡ true) × (16 ≤ length front)) ⊎ ((leb 16 (length front) ≡ false) × (length front < 16)) → number_at 0 front ≡ length front + 1 → Facts (length front) (number_at 0 front) Waiting
      short (inl t) e = inr (omega arith, omega arith, omega arith)
      short (inr t) e = inl t.1

-- the last octet of a header that states no good length
bad_at : (accounts : List Account) (turn : SessionStep) (front : List ℕ) (x : ℕ) (more : List ℕ) → IsOpen turn.conversation.state → length front ≡ 15 → (number_at 0 (front ++ x ∷ []) < 16) ⊎ (65536 < number_at 0 (front ++ x ∷ []))
    → stream accounts (turn, []) (front ++ x ∷ more) ≡ (bad_length (front ++ x ∷ []) turn, [])
unfolding stream bad_length
bad_at accounts turn front x more o len out =
    let long : length (front ++ x ∷ []) ≡ length front + 1 = length-append front (x ∷ []) in
    let before : front_at front ≡ Waiting = waits (length front) (number_at 0 front) (inl (omega arith)) in
    let now : front_of turn.conversation.state (front ++ x ∷ []) ≡ BadLength =
    o (front ++ x ∷ []) ∙ bad (length (front ++ x ∷ [])) (number_at 0 (front ++ x ∷ [])) (omega arith) out
    in
    stream-append accounts (turn, []) front (x ∷ more)
    ∙ (ap (λ (c : StreamProgress). stream accounts c (x ∷ more)) (walks accounts turn [] front o before)
    ∙ (ap (λ (c : StreamProgress). stream accounts c more) (step_is accounts turn front x BadLength now)
    ∙ dropped accounts (bad_length (front ++ x ∷ []) turn) more (broken_deaf (sent GenericNack ESME_RINVCMDLEN (header_at (front ++ x ∷ [])).sequence_number turn).conversation.owed (sent GenericNack ESME_RINVCMDLEN (header_at (front ++ x ∷ [])).sequence_number turn))))

-- ---- the octets at a place, and what stands round it

split_at : (xs : List ℕ) (k : ℕ) → k < length xs → xs ≡ take k xs ++ get_or xs k 0 ∷ drop (suc k) xs
split_at xs k fits = sym (take-append-drop k xs) ∙ ap (λ (ys : List ℕ). take k xs ++ ys) (drop-cons xs k 0 fits)

pub piece_treated : (accounts : List Account) (turn : SessionStep) (xs : List ℕ) (len : ℕ) → front_of turn.conversation.state xs ≡ Whole len
    → stream accounts (turn, []) xs ≡ stream accounts (treated accounts (take len xs) turn, []) (drop len xs)
piece_treated accounts turn xs len e = by_state (open_or_deaf turn.conversation.state) where
  at_last : (k : ℕ) → len ≡ suc k → IsOpen turn.conversation.state → Facts (length xs) (number_at 0 xs) (Whole len) → stream accounts (turn, []) xs ≡ stream accounts (treated accounts (take len xs) turn, []) (drop len xs)
  at_last k is o h =
      let fits : k < length xs = omega (arith, is, h.0, h.3) in
      let parts = split_at xs k fits in
      let last : take (suc k) xs ≡ take k xs ++ get_or xs k 0 ∷ [] = take-suc xs k 0 fits in
      let short : length (take k xs) ≡ k = omega (arith, length-take k xs) in
      let whole_len : length (take (suc k) xs) ≡ suc k = omega (arith, length-take (suc k) xs) in
      let same : number_at 0 (take (suc k) xs ++ drop (suc k) xs) ≡ number_at 0 (take (suc k) xs) = number_front 0 (take (suc k) xs) (drop (suc k) xs) (omega (arith, is, h.0, h.1)) in
      let stated : number_at 0 (take (suc k) xs) ≡ suc k = sym same ∙ (ap (number_at 0) (take-append-drop (suc k) xs) ∙ (sym h.0 ∙ is)) in
      let low : 16 ≤ length (take k xs) + 1 = omega (arith, is, h.0, h.1) in
      let high : length (take k xs) + 1 ≤ 65536 = omega (arith, is, h.0, h.2) in
      let stated_here : number_at 0 (take k xs ++ get_or xs k 0 ∷ []) ≡ length (take k xs) + 1 = ap (number_at 0) (sym last) ∙ (stated ∙ omega arith) in
      let treated_here = piece_at accounts turn (take k xs) (get_or xs k 0) (drop (suc k) xs) o low high stated_here in
      ap (stream accounts (turn, [])) parts
      ∙ (treated_here
      ∙ (ap (λ (ys : List ℕ). stream accounts (treated accounts ys turn, []) (drop (suc k) xs)) (sym last)
      ∙ ap (λ (n : ℕ). stream accounts (treated accounts (take n xs) turn, []) (drop n xs)) (sym is)))

  at_len : (n : ℕ) → len ≡ n → IsOpen turn.conversation.state → Facts (length xs) (number_at 0 xs) (Whole len) → stream accounts (turn, []) xs ≡ stream accounts (treated accounts (take len xs) turn, []) (drop len xs)
  at_len zero is o h = absurd (omega (arith, is, h.0, h.1))
  at_len (suc k) is o h = at_last k is o h

  by_state : IsOpen turn.conversation.state ⊎ IsDeaf turn.conversation.state → stream accounts (turn, []) xs ≡ stream accounts (treated accounts (take len xs) turn, []) (drop len xs)
  by_state (inl o) = at_len len refl o (facts_at xs (Whole len) (sym (o xs) ∙ e))
  by_state (inr c) =
      let never : Dropped ≡ Whole len = sym (c xs) ∙ e in
      absurd cc

pub bad_ends : (accounts : List Account) (turn : SessionStep) (xs : List ℕ) → front_of turn.conversation.state xs ≡ BadLength → stream accounts (turn, []) xs ≡ (bad_length xs turn, [])
unfolding bad_length
bad_ends accounts turn xs e = by_state (open_or_deaf turn.conversation.state) where
  at_header : IsOpen turn.conversation.state → Facts (length xs) (number_at 0 xs) BadLength → stream accounts (turn, []) xs ≡ (bad_length xs turn, [])
  at_header o h =
      let fits : 15 < length xs = omega (arith, h.0) in
      let parts = split_at xs 15 fits in
      let last : take 16 xs ≡ take 15 xs ++ get_or xs 15 0 ∷ [] = take-suc xs 15 0 fits in
      let short : length (take 15 xs) ≡ 15 = omega (arith, length-take 15 xs) in
      let whole_len : length (take 16 xs) ≡ 16 = omega (arith, length-take 16 xs) in
      let joins : take 16 xs ++ drop 16 xs ≡ xs = take-append-drop 16 xs in
      let first : number_at 0 xs ≡ number_at 0 (take 15 xs ++ get_or xs 15 0 ∷ []) =
      ap (number_at 0) (sym joins) ∙ (number_front 0 (take 16 xs) (drop 16 xs) (omega arith) ∙ ap (number_at 0) last)
      in
      let fourth : number_at 12 (take 15 xs ++ get_or xs 15 0 ∷ []) ≡ number_at 12 xs =
      ap (number_at 12) (sym last) ∙ (sym (number_front 12 (take 16 xs) (drop 16 xs) (omega arith)) ∙ ap (number_at 12) joins)
      in
      ap (stream accounts (turn, [])) parts
      ∙ (bad_at accounts turn (take 15 xs) (get_or xs 15 0) (drop 16 xs) o short (out first h.1)
      ∙ ap (λ (n : ℕ). (ended n, [])) fourth) where
        out : number_at 0 xs ≡ number_at 0 (take 15 xs ++ get_or xs 15 0 ∷ []) → (number_at 0 xs < 16) ⊎ (65536 < number_at 0 xs) → (number_at 0 (take 15 xs ++ get_or xs 15 0 ∷ []) < 16) ⊎ (65536 < number_at 0 (take 15 xs ++ get_or xs 15 0 ∷ []))
        out same (inl h) = inl (omega arith)
        out same (inr h) = inr (omega arith)

        ended : ℕ → SessionStep
        ended n = broken (sent GenericNack ESME_RINVCMDLEN n turn)

  by_state : IsOpen turn.conversation.state ⊎ IsDeaf turn.conversation.state → stream accounts (turn, []) xs ≡ (bad_length xs turn, [])
  by_state (inl o) = at_header o (facts_at xs BadLength (sym (o xs) ∙ e))
  by_state (inr c) =
      let never : Dropped ≡ BadLength = sym (c xs) ∙ e in
      absurd cc

pub waiting_preserved : (accounts : List Account) (turn : SessionStep) (xs : List ℕ) → front_of turn.conversation.state xs ≡ Waiting → stream accounts (turn, []) xs ≡ (turn, xs)
waiting_preserved accounts turn xs e = by_state (open_or_deaf turn.conversation.state) where
  by_state : IsOpen turn.conversation.state ⊎ IsDeaf turn.conversation.state → stream accounts (turn, []) xs ≡ (turn, xs)
  by_state (inl o) = walks accounts turn [] xs o (sym (o xs) ∙ e)
  by_state (inr c) =
      let never : Dropped ≡ Waiting = sym (c xs) ∙ e in
      absurd cc

pub closed_drops : (accounts : List Account) (turn : SessionStep) (xs : List ℕ) → front_of turn.conversation.state xs ≡ Dropped → stream accounts (turn, []) xs ≡ (turn, [])
closed_drops accounts turn xs e = by_state (open_or_deaf turn.conversation.state) where
  by_state : IsOpen turn.conversation.state ⊎ IsDeaf turn.conversation.state → stream accounts (turn, []) xs ≡ (turn, [])
  by_state (inl o) = absurd (facts_at xs Dropped (sym (o xs) ∙ e))
  by_state (inr c) = dropped accounts turn xs c

-- ---- as the walk over them goes

pub whole_fits : (state : SessionState) (xs : List ℕ) (len : ℕ) → Whole len ≡ front_of state xs → (16 ≤ len) × (len ≤ length xs)
whole_fits state xs len e = by_state (open_or_deaf state) where
  by_facts : Facts (length xs) (number_at 0 xs) (Whole len) → (16 ≤ len) × (len ≤ length xs)
  by_facts h = (omega (arith, h.0, h.1), omega (arith, h.0, h.3))

  by_state : IsOpen state ⊎ IsDeaf state → (16 ≤ len) × (len ≤ length xs)
  by_state (inl o) = by_facts (facts_at xs (Whole len) (sym (o xs) ∙ sym e))
  by_state (inr c) =
      let never : Whole len ≡ Dropped = e ∙ c xs in
      absurd cc

pub bad_long : (state : SessionState) (xs : List ℕ) → BadLength ≡ front_of state xs → 16 ≤ length xs
bad_long state xs e = by_state (open_or_deaf state) where
  by_facts : Facts (length xs) (number_at 0 xs) BadLength → 16 ≤ length xs
  by_facts h = h.0

  by_state : IsOpen state ⊎ IsDeaf state → 16 ≤ length xs
  by_state (inl o) = by_facts (facts_at xs BadLength (sym (o xs) ∙ sym e))
  by_state (inr c) =
      let never : BadLength ≡ Dropped = e ∙ c xs in
      absurd cc

pub walks_on : (accounts : List Account) (turn next : SessionStep) (xs piece rest : List ℕ) (len : ℕ) → Whole len ≡ front_of turn.conversation.state xs → piece ≡ take len xs → rest ≡ drop len xs → next ≡ treated accounts piece turn
    → stream accounts (turn, []) xs ≡ stream accounts (next, []) rest
walks_on accounts turn next xs piece rest len e is_piece is_rest is_next =
    piece_treated accounts turn xs len (sym e)
    ∙ (ap (λ (ys : List ℕ). stream accounts (treated accounts ys turn, []) (drop len xs)) (sym is_piece)
    ∙ (ap (λ (t : SessionStep). stream accounts (t, []) (drop len xs)) (sym is_next)
    ∙ ap (λ (ys : List ℕ). stream accounts (next, []) ys) (sym is_rest)))

pub ends_bad : (accounts : List Account) (turn next : SessionStep) (xs : List ℕ) → BadLength ≡ front_of turn.conversation.state xs → next ≡ bad_length xs turn → stream accounts (turn, []) xs ≡ (next, [])
ends_bad accounts turn next xs e is_next = bad_ends accounts turn xs (sym e) ∙ ap (λ (t : SessionStep). with_none t) (sym is_next) where
  with_none : SessionStep → StreamProgress
  with_none t = (t, [])

-- ---- in a list of which the front is done with

pub waits_behind : (accounts : List Account) (turn : SessionStep) (xs rest : List ℕ) (done : ℕ) → rest ≡ drop done xs → Waiting ≡ front_of turn.conversation.state rest
    → stream accounts (turn, []) (drop done xs) ≡ (turn, drop done xs)
waits_behind accounts turn xs rest done is e = waiting_preserved accounts turn (drop done xs) (ap (front_of turn.conversation.state) (sym is) ∙ sym e)

none_left : (turn : SessionStep) (xs : List ℕ) → (let c : StreamProgress = (turn, []) in let d : StreamProgress = (turn, drop (length xs) xs) in c ≡ d)
none_left turn xs = ap (λ (ys : List ℕ). with_rest ys) (sym (drop_all (length xs) xs (omega arith))) where
  with_rest : List ℕ → StreamProgress
  with_rest ys = (turn, ys)

pub drops_behind : (accounts : List Account) (turn : SessionStep) (xs rest : List ℕ) (done : ℕ) → rest ≡ drop done xs → Dropped ≡ front_of turn.conversation.state rest
    → stream accounts (turn, []) (drop done xs) ≡ (turn, drop (length xs) xs)
drops_behind accounts turn xs rest done is e = closed_drops accounts turn (drop done xs) (ap (front_of turn.conversation.state) (sym is) ∙ sym e) ∙ none_left turn xs

pub ends_behind : (accounts : List Account) (turn next : SessionStep) (xs rest : List ℕ) (done : ℕ) → rest ≡ drop done xs → BadLength ≡ front_of turn.conversation.state rest → next ≡ bad_length rest turn
    → stream accounts (turn, []) (drop done xs) ≡ (next, drop (length xs) xs)
ends_behind accounts turn next xs rest done is e is_next =
    ends_bad accounts turn next (drop done xs) (e ∙ ap (front_of turn.conversation.state) is) (is_next ∙ ap (λ (ys : List ℕ). bad_length ys turn) is) ∙ none_left next xs

pub goes_on : (accounts : List Account) (turn next : SessionStep) (xs rest piece : List ℕ) (done len : ℕ) → rest ≡ drop done xs → Whole len ≡ front_of turn.conversation.state rest → piece ≡ take len rest → next ≡ treated accounts piece turn
    → stream accounts (turn, []) (drop done xs) ≡ stream accounts (next, []) (drop (done + len) xs)
goes_on accounts turn next xs rest piece done len is e is_piece is_next =
    walks_on accounts turn next (drop done xs) piece (drop len (drop done xs)) len (e ∙ ap (front_of turn.conversation.state) is) (is_piece ∙ ap (take len) is) refl is_next
    ∙ ap (λ (ys : List ℕ). stream accounts (next, []) ys) (drop-drop len done xs)
