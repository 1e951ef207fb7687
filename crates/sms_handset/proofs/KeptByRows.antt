-- What is said of a draft by its rows, its changes and its moment, and each move of them keeps, each event keeps.
use Rattle.std.proofs.Common.{ℕ, ◌+◌, List, length, Bool, true, false, Some, Result}
use Rattle.std.specs.Prelude.{◌%◌, nat_lt}
use Rattle.sms_base.specs.declared.holder.Holder.{Holder}
use Rattle.sms_link.specs.LinkTurn.{Turn, fired, taken}
use Rattle.sms_handset_rows.specs.declared.inbox.discarded_group.DiscardedGroup.{DiscardedGroup}
use Rattle.sms_handset_rows.specs.declared.inbox.entry.Entry.{Entry}
use Rattle.sms_handset_rows.specs.declared.inbox.last_accepted.LastAccepted.{LastAccepted}
use Rattle.sms_handset_rows.specs.declared.outbox.out_entry.OutEntry.{OutEntry}
use Rattle.sms_handset_rows.specs.outbox.Answers.{verdict_of}
use Rattle.sms_handset_rows.specs.outbox.References.{held_references, next_free}
use Rattle.sms_handset_rows.specs.outbox.Settling.{settled}
use Rattle.sms_concat.specs.declared.content.Part.{Part as PartOf}
use Rattle.sms_base.specs.declared.address.Address.{Address}
use Rattle.sms_handset_draft.specs.declared.counters.Counters.{Counters}
use Rattle.sms_handset_draft.specs.declared.rows.Rows.{Rows}
use Rattle.sms_handset_draft.specs.Draft.{Changes, Core, Draft, draft_of, link_of, put_counters, put_entry, put_last, put_mark, put_out, remove_entry, remove_mark, remove_out, with_turn}
use Rattle.sms_handset_draft.specs.FramesAndTicks.{at_moment, frame_heard, timers_fired}
use Rattle.sms_handset_draft.specs.Outbox.{follow, lapse, lapse_rows}
use Rattle.sms_handset.specs.HandsetEvent.{deleted, discarded, frame_received, ticked, wrote}
use Rattle.sms_handset.specs.OwnersActs.{count_split, delete, discard, write}
use Rattle.sms_handset.specs.declared.refusal.Refusal.{Refusal}
use Rattle.sms_handset.proofs.KeptByStages.{AnyEntry, AnyReference, AnyTransfer, AnyUnit, IfDone, KeptByEnds, KeptByMoves, KeptByOffers, KeptByWriting, acted_keeps, any_up, delete_keeps as deleting_keeps, discard_keeps as discarding_keeps}
use Rattle.sms_handset.proofs.KeptByStages.{frame_keeps as hearing_keeps, lapse_keeps, lapses_each, offer_keeps, timers_keep, write_keeps as writing_keeps}

-- What is said of a draft by its rows, its changes and its moment. All else in it may change.
abbrev pub Holds : (Rows → Changes → ℕ → Type 0) → Draft → Type 0
Holds P d = P d.rows d.changes d.moment

abbrev pub HoldsIfDone : (Rows → Changes → ℕ → Type 0) → Result Draft Refusal → Type 0
HoldsIfDone P r = IfDone (Holds P) r

-- each move of the rows keeps it
pub record KeptByRowMoves (P : Rows → Changes → ℕ → Type 0) : Type 0 where
  pub entry_put : (e : Entry) (d : Draft) → Holds P d → Holds P (put_entry e d)
  pub entry_removed : (n : ℕ) (d : Draft) → Holds P d → Holds P (remove_entry n d)
  pub last_put : (l : LastAccepted) (d : Draft) → Holds P d → Holds P (put_last l d)
  pub out_put : (o : OutEntry) (d : Draft) → Holds P d → Holds P (put_out o d)
  pub out_removed : (n : ℕ) (d : Draft) → Holds P d → Holds P (remove_out n d)
  pub mark_put : (m : DiscardedGroup) (d : Draft) → Holds P d → Holds P (put_mark m d)
  pub mark_removed : (n : ℕ) (d : Draft) → Holds P d → Holds P (remove_mark n d)
  pub counters_put : (c : Counters) (d : Draft) → Holds P d → Holds P (put_counters c d)

module _ (P : Rows → Changes → ℕ → Type 0) (moves : KeptByRowMoves P) where
  abbrev At : Draft → Type 0
  At d = Holds P d

  -- links, frames and RP-SMMA are no rows
  ends_keep : KeptByEnds At AnyTransfer
  ends_keep = record {
    entry_settled = λ v reference n o d s e h. moves.out_put (settled d.moment (verdict_of v) o) d h;
    notice_put = λ n is_second due d i h. h;
    notice_removed = λ n d h. h;
  }

  moves_keep : KeptByMoves At AnyReference AnyUnit AnyTransfer
  moves_keep = record {
    ends = ends_keep;
    entry_put = moves.entry_put;
    entry_removed = moves.entry_removed;
    last_put = λ l d a h. moves.last_put l d h;
    mark_put = moves.mark_put;
    mark_removed = moves.mark_removed;
    entry_counted = λ d h. moves.counters_put (record d.rows.counters { entry = d.rows.counters.entry + 1 }) d h;
    memory_flagged = λ b d h. moves.counters_put (record d.rows.counters { is_memory_full = b }) d h;
    data_answered = λ unit reference centre tpdu a. tt;
    fault_answered = λ unit fault a. tt;
    acknowledged = λ reference tag d a h. h;
    full = λ reference tag d a h. h;
    unreadable = λ reference tag d a h. h;
    rejected = λ reference tag fault d a h. h;
    status_noted = λ o status d i h. moves.out_put (record o { status = Some status }) d h;
    notice_wanted = λ d h. h;
  }

  lapsed : (d : Draft) → At d → At (lapse_rows d.rows.outbox (record d { is_recovered = false }))
  lapsed d h = lapses_each At AnyEntry (λ o known. tt) (λ o e known k. moves.out_put o e k) d.rows.outbox (record d { is_recovered = false }) (λ o i. tt) h

  offers_keep : KeptByOffers At At
  offers_keep = record {
    nothing = λ d h. h;
    entry = λ o d due idle h. moves.out_put _ d h;
    notice_again = λ n d i idle h. h;
    notice_first = λ d next idle h.
        let r : ℕ = next_free d.rows.counters.reference (held_references d.notices d.rows.outbox) in
        moves.counters_put (record d.rows.counters { notice = d.rows.counters.notice + 1; reference = (r + 1) % 256 }) d h;
  }

  follows : (d : Draft) → At d → At (follow d)
  follows d h = offer_keeps At At offers_keep (lapse d) (lapse_keeps At lapsed d h)

  abbrev WritesAt : Address → Bool → Bool → List PartOf → Draft → Type 0
  WritesAt to report is_long ps d = At d

  writes_keep : KeptByWriting At WritesAt
  writes_keep = record { one = λ to report is_long p ps d h. moves.out_put _ (put_counters _ d) (moves.counters_put _ d h); all = λ to report is_long d h. h }

  counts_split : (is_long : Bool) (d : Draft) → At d → At (count_split is_long d)
  counts_split false d h = h
  counts_split true d h = moves.counters_put _ d h

  -- ---- events

  pub frame_keeps : (octets : List ℕ) (tag : Holder) (c : Core) → Holds P (draft_of c) → Holds P (frame_received octets tag c)
  frame_keeps octets tag c h =
      let turn : Turn = taken octets (link_of (draft_of c)) in
      follows (frame_heard tag turn (draft_of c))
      (hearing_keeps At AnyReference AnyUnit AnyTransfer moves_keep tag turn (draft_of c) (any_up turn.out.up (with_turn turn (draft_of c))) h)

  pub tick_keeps : (now : ℕ) (c : Core) → Holds P (at_moment now (draft_of c)) → Holds P (ticked now c)
  tick_keeps now c h =
      let d : Draft = at_moment now (draft_of c) in
      let turn : Turn = fired d.moment (link_of d) in
      follows (timers_fired turn d) (timers_keep At AnyTransfer ends_keep turn d (any_up turn.out.up (with_turn turn d)) h)

  pub write_keeps : (text to : List ℕ) (report : Bool) (c : Core) → Holds P (draft_of c) → HoldsIfDone P (wrote text to report c)
  write_keeps text to report c h =
      acted_keeps At At follows (write text to report (draft_of c))
      (writing_keeps At WritesAt writes_keep text to report (draft_of c) (λ ps a e to_is room. counts_split (nat_lt 1 (length ps)) (draft_of c) h))

  pub delete_keeps : (n : ℕ) (c : Core) → Holds P (draft_of c) → HoldsIfDone P (deleted n c)
  delete_keeps n c h =
      acted_keeps At At follows (delete n (draft_of c)) (deleting_keeps At AnyReference AnyUnit AnyTransfer moves_keep n (draft_of c) (moves.out_removed n (draft_of c) h) h)

  pub discard_keeps : (n : ℕ) (c : Core) → Holds P (draft_of c) → HoldsIfDone P (discarded n c)
  discard_keeps n c h = acted_keeps At At follows (discard n (draft_of c)) (discarding_keeps At AnyReference AnyUnit AnyTransfer moves_keep n (draft_of c) h)
