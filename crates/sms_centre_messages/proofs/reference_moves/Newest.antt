-- Moves in the middle of an event, where the newest change stands first, and as they are committed.
use Rattle.std.proofs.Common.{◌≡◌, ℕ, ◌+◌, ◌≤◌, List, [], ◌∷◌, ◌++◌, length, Option, Some, None, refl, sym, ◌∙◌, ap, subst, ⊎_elim, arith}
use Rattle.std.proofs.lemmas.Bool.{cases_eq}
use Rattle.sms_rows.specs.declared.table.change.Change.{Change}
use Rattle.sms_rows.specs.declared.table.change.Change.TheVariants.{Put, Remove}
use Rattle.sms_rows.specs.table.Since.{oldest_first, rows_after}
use Rattle.sms_rows.specs.table.Table.{all_applied, newest_of, row_at}
use Rattle.sms_rows.proofs.table.SinceLaws.{commits}
use Rattle.sms_rows.proofs.table.Tables.{newest_of_push, newest_of_push_other}
use Rattle.sms_centre_rows.specs.declared.messages.message.MessageRow.{MessageRow}
use Rattle.sms_centre_rows.specs.declared.messages.part.PartRow.{PartRow}
use Rattle.sms_centre_rows.specs.messages.Messages.{message_key, part_key, part_reaching}
use Rattle.sms_centre_rows.specs.declared.waiting.revision.Revision.{Revision}
use Rattle.sms_centre_rows.specs.declared.waiting.revision.Revision.TheVariants.{Put as PutPart, Amend, Remove as RemovePart}
use Rattle.sms_centre_rows.specs.waiting.Revisions.{all_revised, oldest_first as revisions_of, revised, rows_after as parts_after}
use Rattle.sms_centre_rows.proofs.waiting.Revising.{revisions_commit}
use Rattle.sms_centre_messages.specs.references.ReferenceIndex.{AreFew}
use Rattle.sms_centre_messages.specs.references.Moves.{AreMoves, ArePartMoves, IsMove, IsPartMove}

-- ---- of messages

-- each change is a move of the rows that those behind it lead to
abbrev pub MessagesMove : List (Change MessageRow) → List MessageRow → List PartRow → Type 0
MessagesMove [] ms ps = Unit {0}
MessagesMove (c ∷ cs) ms ps = IsMove c (rows_after message_key cs ms) ps × MessagesMove cs ms ps

moves_push : (cs : List (Change MessageRow)) (c : Change MessageRow) (ms : List MessageRow) (ps : List PartRow) → AreMoves cs ms ps → IsMove c (all_applied message_key cs ms) ps → AreMoves (cs ++ c ∷ []) ms ps
moves_push [] c ms ps moves move = (move, tt)
moves_push (d ∷ ds) c ms ps moves move = (moves.0, moves_push ds c _ ps moves.1 move)

pub moves_committed : (cs : List (Change MessageRow)) (ms : List MessageRow) (ps : List PartRow) → MessagesMove cs ms ps → AreMoves (oldest_first cs) ms ps
moves_committed [] ms ps moves = tt
moves_committed (c ∷ cs) ms ps moves =
    moves_push (oldest_first cs) c ms ps (moves_committed cs ms ps moves.1)
    (subst (λ (rows : List MessageRow). IsMove c rows ps) (sym (commits message_key cs ms)) moves.0)

-- ---- the message of a part comes among them

abbrev pub HasPut : ℕ → List (Change MessageRow) → Type 0
HasPut id cs = (m : MessageRow) × (newest_of message_key id (oldest_first cs) ≡ Some (Put m))

pub put_here : (m : MessageRow) (cs : List (Change MessageRow)) → HasPut m.id (Put m ∷ cs)
put_here m cs = (m, newest_of_push message_key m.id (oldest_first cs) (Put m) refl)

pub put_behind : (id : ℕ) (m : MessageRow) (cs : List (Change MessageRow)) → HasPut id cs → HasPut id (Put m ∷ cs)
put_behind id m cs has = ⊎_elim
    (λ (e : m.id ≡ id). subst (λ (n : ℕ). HasPut n (Put m ∷ cs)) e (put_here m cs))
    (λ (ne : m.id ≡ id → ⊥). (has.0, newest_of_push_other message_key id (oldest_first cs) (Put m) ne ∙ has.1))
    (cases_eq m.id id)

-- ---- of parts

-- a part comes whose message came, and that wasn't there, or one is so far
abbrev pub PartMoves : List (Change MessageRow) → Revision PartRow → List PartRow → Type 0
PartMoves cs (PutPart p) ps = HasPut p.id cs × ((row_at part_key (part_key p) ps ≡ None) × (length ps ≤ 2560000000000))
PartMoves cs (Amend n progress) ps = Unit {0}
PartMoves cs (RemovePart n) ps = ⊥

abbrev pub PartsMove : List (Change MessageRow) → List (Revision PartRow) → List PartRow → Type 0
PartsMove cs [] ps = Unit {0}
PartsMove cs (r ∷ rs) ps = PartMoves cs r (parts_after part_key part_reaching rs ps) × PartsMove cs rs ps

part_still : (m : MessageRow) (cs : List (Change MessageRow)) (r : Revision PartRow) (ps : List PartRow) → PartMoves cs r ps → PartMoves (Put m ∷ cs) r ps
part_still m cs (PutPart p) ps move = (put_behind p.id m cs move.0, move.1)
part_still m cs (Amend n progress) ps move = tt
part_still m cs (RemovePart n) ps move = move

-- one more change of messages leaves them so
pub parts_still : (m : MessageRow) (cs : List (Change MessageRow)) (rs : List (Revision PartRow)) (ps : List PartRow) → PartsMove cs rs ps → PartsMove (Put m ∷ cs) rs ps
parts_still m cs [] ps moves = tt
parts_still m cs (r ∷ rs) ps moves = (part_still m cs r (parts_after part_key part_reaching rs ps) moves.0, parts_still m cs rs ps moves.1)

parts_push : (cs : List (Change MessageRow)) (rs : List (Revision PartRow)) (r : Revision PartRow) (ms : List MessageRow) (ps : List PartRow) → ArePartMoves cs rs ms ps
    → IsPartMove cs r ms (all_revised part_key part_reaching rs ps) → ArePartMoves cs (rs ++ r ∷ []) ms ps
parts_push cs [] r ms ps moves move = (move, tt)
parts_push cs (x ∷ xs) r ms ps moves move = (moves.0, parts_push cs xs r ms (revised part_key part_reaching x ps) moves.1 move)

part_moved : (cs : List (Change MessageRow)) (r : Revision PartRow) (ms : List MessageRow) (ps : List PartRow) → length ms ≤ 10000000000 → PartMoves cs r ps → IsPartMove (oldest_first cs) r ms ps
part_moved cs (PutPart p) ms ps few move =
    let part = move.1.1 in
    let small : AreFew ms ps = omega (arith, few, part) in
    (move.0.0, (move.0.1, (move.1.0, small)))
part_moved cs (Amend n progress) ms ps few move = tt
part_moved cs (RemovePart n) ms ps few move = move

pub parts_committed : (cs : List (Change MessageRow)) (rs : List (Revision PartRow)) (ms : List MessageRow) (ps : List PartRow) → length ms ≤ 10000000000 → PartsMove cs rs ps → ArePartMoves (oldest_first cs) (revisions_of rs) ms ps
parts_committed cs [] ms ps few moves = tt
parts_committed cs (r ∷ rs) ms ps few moves =
    parts_push (oldest_first cs) (revisions_of rs) r ms ps (parts_committed cs rs ms ps few moves.1)
    (subst (λ (rows : List PartRow). IsPartMove (oldest_first cs) r ms rows) (sym (revisions_commit part_key part_reaching rs ps))
    (part_moved cs r ms (parts_after part_key part_reaching rs ps) few moves.0))
