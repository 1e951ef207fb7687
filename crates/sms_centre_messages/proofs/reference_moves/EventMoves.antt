-- What every event of a sound centre changes are moves.
use Rattle.std.proofs.Common.{◌≡◌, List, ◌≤◌, length, refl, sym, subst}
use Rattle.sms_rows.specs.table.Since.{oldest_first}
use Rattle.sms_rows.specs.table.Table.{all_applied}
use Rattle.sms_rows.proofs.table.SinceLaws.{commits}
use Rattle.sms_centre_rows.specs.declared.messages.message.MessageRow.{MessageRow}
use Rattle.sms_centre_rows.specs.declared.messages.part.PartRow.{PartRow}
use Rattle.sms_centre_rows.specs.messages.Messages.{Messages, message_key, messages_of}
use Rattle.sms_centre_rows.specs.waiting.Revisions.{oldest_first as revisions_of}
use Rattle.sms_centre_messages.specs.references.Moves.{AreMoves, ArePartMoves}
use Rattle.sms_centre_spec.specs.declared.event.CentreEvent.{CentreEvent}
use Rattle.sms_centre_spec.specs.CentreEvent.{happened}
use Rattle.sms_centre_spec.specs.Draft.{Core, Store, changes_in, rows_of}
use Rattle.sms_centre_spec.specs.SoundCore.{IsEvent, IsSoundCore}
use Rattle.sms_centre_spec.proofs.Keeping.{keeps_same}
use Rattle.sms_centre_spec.proofs.PduFits.{event_gives}
use Rattle.sms_centre_spec.proofs.SoundStores.{store_sound}
use Rattle.sms_centre_spec.proofs.SteadyEvents.{steady_event}
use Rattle.sms_centre_messages.specs.reference_moves.ClaimMoves.{MoveReferenceIndex}
use Rattle.sms_centre_messages.proofs.reference_moves.Counting.{few_messages}
use Rattle.sms_centre_messages.proofs.reference_moves.MovesSteady.{Moving, MovingSince, moving_steady}
use Rattle.sms_centre_messages.proofs.reference_moves.Newest.{moves_committed, parts_committed}

pub event_moves : (event : CentreEvent) (c : Core) → IsSoundCore c → IsEvent event → MoveReferenceIndex (changes_in (happened event c).store) c.rows
event_moves event c sound is =
    let s : Store = (happened event c).store in
    let m : Messages = s.messages in
    let k : MovingSince c.rows s =
    steady_event (MovingSince c.rows) (moving_steady c.rows sound.rows.messages) event c (
      (store_sound c.rows c.moment sound.rows sound.now sound.moment, keeps_same c.rows),
      record { base_messages = refl; base_parts = refl; messages = tt; parts = tt },
    ) sound.now (event_gives event c sound is) in
    let few : length (messages_of m) ≤ 10000000000 = few_messages (rows_of s).messages (rows_of s).parts (rows_of s).priorities k.0.0.messages in
    let after : length (all_applied message_key (oldest_first m.messages.news) m.messages.base) ≤ 10000000000 =
    subst (λ (ms : List MessageRow). length ms ≤ 10000000000) (sym (commits message_key m.messages.news m.messages.base)) few in
    let messages : AreMoves (oldest_first m.messages.news) m.messages.base m.parts.base = moves_committed m.messages.news m.messages.base m.parts.base k.1.messages in
    let parts : ArePartMoves (oldest_first m.messages.news) (revisions_of m.parts.news) (all_applied message_key (oldest_first m.messages.news) m.messages.base) m.parts.base =
    parts_committed m.messages.news m.parts.news (all_applied message_key (oldest_first m.messages.news) m.messages.base) m.parts.base after k.1.parts in
    record {
      messages = subst (λ (ps : List PartRow). AreMoves (oldest_first m.messages.news) c.rows.messages ps) k.1.base_parts
          (subst (λ (ms : List MessageRow). AreMoves (oldest_first m.messages.news) ms m.parts.base) k.1.base_messages messages);
      parts = subst (λ (ps : List PartRow). ArePartMoves (oldest_first m.messages.news) (revisions_of m.parts.news) (all_applied message_key (oldest_first m.messages.news) c.rows.messages) ps) k.1.base_parts
          (subst (λ (ms : List MessageRow). ArePartMoves (oldest_first m.messages.news) (revisions_of m.parts.news) (all_applied message_key (oldest_first m.messages.news) ms) m.parts.base) k.1.base_messages parts);
    }
