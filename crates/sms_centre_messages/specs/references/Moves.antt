-- What an event changes of messages and parts, as moves of what they lay claim to, and the memory for it.
use Rattle.std.specs.Prelude.{◌≡◌, ℕ, ◌≤◌, List, [], ◌∷◌, true, Option, Some, None}
use Rattle.sms_base.specs.declared.final_state.FinalState.{FinalState}
use Rattle.sms_rows.specs.declared.table.change.Change.{Change}
use Rattle.sms_rows.specs.declared.table.change.Change.TheVariants.{Put, Remove}
use Rattle.sms_rows.specs.table.Table.{applied, newest_of, row_at}
use Rattle.sms_centre_rows.specs.declared.messages.message.MessageRow.{MessageRow}
use Rattle.sms_centre_rows.specs.declared.messages.part.PartRow.{PartRow}
use Rattle.sms_centre_rows.specs.messages.Messages.{ended, is_pending, message_at, message_key, part_key, part_reaching}
use Rattle.sms_centre_rows.specs.declared.waiting.revision.Revision.{Revision}
use Rattle.sms_centre_rows.specs.declared.waiting.revision.Revision.TheVariants.{Put as PutPart, Amend, Remove as RemovePart}
use Rattle.sms_centre_rows.specs.waiting.Revisions.{revised}
use Rattle.sms_centre_messages.specs.declared.references.message_ends.MessageEnds.{MessageEnds}
use Rattle.sms_centre_messages.specs.references.ReferenceIndex.{AreFew, ReferenceIndexOf, IsNewest}
use Rattle.sms_centre_messages.specs.references.Counts.{TookCounts, Suffices, counted}

-- ---- changes of messages

-- it is the newest, or a message that was pending has ended
abbrev pub IsMoveTo : Option FinalState → MessageRow → List MessageRow → List PartRow → Type 0
IsMoveTo None row ms ps = IsNewest row ms ps × AreFew ms ps
IsMoveTo (Some state) row ms ps =
    (m : MessageRow) × ((moment : ℕ) × ((message_at m.id ms ≡ Some m) × ((is_pending m ≡ true) × (row ≡ ended state moment m))))

abbrev pub IsMove : Change MessageRow → List MessageRow → List PartRow → Type 0
IsMove (Put row) ms ps = IsMoveTo row.state row ms ps
IsMove (Remove n) ms ps = ⊥

abbrev pub AreMoves : List (Change MessageRow) → List MessageRow → List PartRow → Type 0
AreMoves [] ms ps = Unit {0}
AreMoves (c ∷ cs) ms ps = IsMove c ms ps × AreMoves cs (applied message_key c ms) ps

-- ---- changes of parts

-- a part is put whose message is one of the changes, and that wasn't there; a part that is so far stays what it is
abbrev pub IsPartMove : List (Change MessageRow) → Revision PartRow → List MessageRow → List PartRow → Type 0
IsPartMove changes (PutPart p) ms ps =
    (m : MessageRow) × ((newest_of message_key p.id changes ≡ Some (Put m)) × ((row_at part_key (part_key p) ps ≡ None) × AreFew ms ps))
IsPartMove changes (Amend n progress) ms ps = Unit {0}
IsPartMove changes (RemovePart n) ms ps = ⊥

abbrev pub ArePartMoves : List (Change MessageRow) → List (Revision PartRow) → List MessageRow → List PartRow → Type 0
ArePartMoves changes [] ms ps = Unit {0}
ArePartMoves changes (r ∷ rs) ms ps = IsPartMove changes r ms ps × ArePartMoves changes rs ms (revised part_key part_reaching r ps)

-- ---- changes that only take out

abbrev pub IsRemoval : Change MessageRow → Type 0
IsRemoval (Put row) = ⊥
IsRemoval (Remove n) = Unit {0}

abbrev pub AreRemovals : List (Change MessageRow) → Type 0
AreRemovals [] = Unit {0}
AreRemovals (c ∷ cs) = IsRemoval c × AreRemovals cs

abbrev pub IsPartRemoval : Revision PartRow → Type 0
IsPartRemoval (PutPart p) = ⊥
IsPartRemoval (Amend n progress) = ⊥
IsPartRemoval (RemovePart n) = Unit {0}

abbrev pub ArePartRemovals : List (Revision PartRow) → Type 0
ArePartRemovals [] = Unit {0}
ArePartRemovals (r ∷ rs) = IsPartRemoval r × ArePartRemovals rs

-- ---- memory

pub record ReferenceIndexReserveOf : Type 0 where
  pub held : ℕ
  pub own : ℕ
  pub last : ℕ
  pub pending : ℕ
  pub held_bars : ℕ
  pub own_bars : ℕ

-- it is memory for so many changes of messages, of parts and of bars
pub record FitsTheReferences (s : ReferenceIndexReserveOf) (messages parts bars : ℕ) (k : ReferenceIndexOf) : Type 0 where
  pub held : Suffices messages s.held k.held
  pub own : Suffices parts s.own k.own
  pub last : Suffices messages s.last k.last
  pub pending : Suffices messages s.pending k.pending
  pub held_bars : Suffices bars s.held_bars k.held_bars
  pub own_bars : Suffices bars s.own_bars k.own_bars

-- so many changes take no memory
pub record HasRoomFor (messages parts : ℕ) (k : ReferenceIndexOf) : Type 0 where
  pub held : messages ≤ k.held.room
  pub own : parts ≤ k.own.room
  pub last : messages ≤ k.last.room
  pub pending : messages ≤ k.pending.room

-- so many bars take none
pub record HasBarRoom (bars : ℕ) (k : ReferenceIndexOf) : Type 0 where
  pub held : bars ≤ k.held_bars.room
  pub own : bars ≤ k.own_bars.room

-- the memory was taken in
pub record TakesInReferences (s : ReferenceIndexReserveOf) (old new : ReferenceIndexOf) : Type 0 where
  pub held : (key : MessageEnds) → counted key new.held ≡ counted key old.held
  pub held_room : TookCounts s.held old.held new.held
  pub own : (key : MessageEnds) → counted key new.own ≡ counted key old.own
  pub own_room : TookCounts s.own old.own new.own
  pub last : (key : MessageEnds) → counted key new.last ≡ counted key old.last
  pub last_room : TookCounts s.last old.last new.last
  pub pending : (key : MessageEnds) → counted key new.pending ≡ counted key old.pending
  pub pending_room : TookCounts s.pending old.pending new.pending
  pub held_bars : (key : MessageEnds) → counted key new.held_bars ≡ counted key old.held_bars
  pub held_bars_room : TookCounts s.held_bars old.held_bars new.held_bars
  pub own_bars : (key : MessageEnds) → counted key new.own_bars ≡ counted key old.own_bars
  pub own_bars_room : TookCounts s.own_bars old.own_bars new.own_bars
  pub last_bar : new.last_bar ≡ old.last_bar
