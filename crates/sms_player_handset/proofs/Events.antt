-- What a handset's events have in common, from event to event.
use Rattle.std.proofs.Common.{◌≡◌, ℕ, List, ◌++◌, Bool, Result, Ok, Err, sym, ◌∙◌, ap, subst, append_assoc}
use Rattle.std.specs.Prelude.{IfOk, OnOk}
use Rattle.sms_base.specs.declared.holder.Holder.{Holder}
use Rattle.sms_handset_draft.specs.Draft.{Core, Draft, core_of}
use Rattle.sms_handset_draft.specs.declared.rows.Rows.{Rows}
use Rattle.sms_handset_draft.specs.Outcome.{Outcome, outcome_of}
use Rattle.sms_handset.specs.HandsetEvent.{deleted, discarded, frame_received, ticked, wrote}
use Rattle.sms_handset.specs.Planning.{IsRevised, IsRevisedIfDone, adopted}
use Rattle.sms_handset.specs.declared.event.HandsetEvent.{HandsetEvent}
use Rattle.sms_handset.specs.declared.event.HandsetEvent.TheVariants.{Frame, Tick, Write, Delete, Discard}
use Rattle.sms_handset.specs.declared.refusal.Refusal.{Refusal}
use Rattle.sms_handset.specs.HandsetEvent.{tag_of}
use Rattle.sms_play.specs.PlayState.{Party}
use Rattle.sms_play.specs.HandsetSide.{accepted_in, entries_given, given_by, happened, joined_in, memories_given, party_after}
use Rattle.sms_player_handset.specs.Meeting.{Meets, moment_after}
use Rattle.sms_player_handset.specs.declared.played.HandsetOutcome.{HandsetOutcome}
use Rattle.sms_player_handset.specs.declared.played.HandsetOutcome.TheVariants.{Done}
use Rattle.sms_script.specs.declared.report.rows.AcceptedRow.{AcceptedRow}
use Rattle.sms_script.specs.declared.report.rows.GivenRow.{GivenRow}
use Rattle.sms_script.specs.declared.report.rows.JoinedRow.{JoinedRow}
use Rattle.sms_player_handset.proofs.Moments.{StaysIfDone, frame_stays, tick_stays, write_stays, delete_stays, discard_stays}

event_stays : (event : HandsetEvent) (c : Core) → StaysIfDone (moment_after c.moment event) (happened event c)
event_stays (Frame octets tag) c = frame_stays octets (tag_of tag) c
event_stays (Tick now) c = tick_stays now c
event_stays (Write text to report) c = write_stays text to report c
event_stays (Delete entry) c = delete_stays entry c
event_stays (Discard entry) c = discard_stays entry c

pub keeps_moments : (event : HandsetEvent) (c : Core) (d : Draft) → happened event c ≡ Ok d → d.moment ≡ moment_after c.moment event
keeps_moments event c d e = subst (λ (r : Result Draft Refusal). StaysIfDone (moment_after c.moment event) r) e (event_stays event c)

-- the rows of each event by its kind
pub event_rests :
    (frame : (octets : List ℕ) (tag : Holder) (c : Core) → IsRevised c.rows (frame_received octets tag c))
    (tick : (now : ℕ) (c : Core) → IsRevised c.rows (ticked now c))
    (write : (text to : List ℕ) (report : Bool) (c : Core) → IsRevisedIfDone c.rows (wrote text to report c))
    (delete : (entry : ℕ) (c : Core) → IsRevisedIfDone c.rows (deleted entry c))
    (discard : (entry : ℕ) (c : Core) → IsRevisedIfDone c.rows (discarded entry c))
    (event : HandsetEvent) (c : Core) → IsRevisedIfDone c.rows (happened event c)
event_rests frame tick write delete discard (Frame octets tag) c = frame octets (tag_of tag) c
event_rests frame tick write delete discard (Tick now) c = tick now c
event_rests frame tick write delete discard (Write text to report) c = write text to report c
event_rests frame tick write delete discard (Delete entry) c = delete entry c
event_rests frame tick write delete discard (Discard entry) c = discard entry c

-- a draft that rests on the rows is what adopting its outcome leads to
pub adopted_is : (wanted : Result Draft Refusal) (d : Draft) (c : Core) → IsRevisedIfDone c.rows wanted → wanted ≡ Ok d → adopted (outcome_of d) c ≡ core_of d
adopted_is wanted d c h e =
    let rests : IsRevised c.rows d = subst (λ (r : Result Draft Refusal). IsRevisedIfDone c.rows r) e h in
    ap (λ (rows : Rows). record (core_of d) { rows = rows }) (sym rests)

-- a handset by its four fields
party_is : (p q : Party) → p.number ≡ q.number → p.core ≡ q.core → p.accepted ≡ q.accepted → p.joined ≡ q.joined → p ≡ q
party_is p q number core accepted joined =
    ap (λ (n : List ℕ). record { number = n; core = p.core; accepted = p.accepted; joined = p.joined }) number
    ∙ ap (λ (c : Core). record { number = q.number; core = c; accepted = p.accepted; joined = p.joined }) core
    ∙ ap (λ (rows : List AcceptedRow). record { number = q.number; core = q.core; accepted = rows; joined = p.joined }) accepted
    ∙ ap (λ (rows : List JoinedRow). record { number = q.number; core = q.core; accepted = q.accepted; joined = rows }) joined

-- what was given, by entries and then by RP-SMMA
given_is : (party : Party) (before after : List GivenRow) (d : Draft) (o : Outcome) (moment : ℕ) → o ≡ outcome_of d → d.moment ≡ moment
    → after ≡ (before ++ entries_given party.number moment party.core.rows.outbox o.changes.outbox) ++ memories_given party.number moment party.core.rows.counters.notice o.frames
    → after ≡ before ++ given_by party d
given_is party before after d o moment is time given =
    given
    ∙ ap (λ (x : Outcome). (before ++ entries_given party.number moment party.core.rows.outbox x.changes.outbox) ++ memories_given party.number moment party.core.rows.counters.notice x.frames) is
    ∙ ap (λ (m : ℕ). (before ++ entries_given party.number m party.core.rows.outbox d.changes.outbox) ++ memories_given party.number m party.core.rows.counters.notice d.frames) (sym time)
    ∙ append_assoc before (entries_given party.number d.moment party.core.rows.outbox d.changes.outbox) (memories_given party.number d.moment party.core.rows.counters.notice d.frames)

-- a plan of the event that was carried out
pub meets_planned : {E : Type 0} (res : Result HandsetOutcome E) (old new : Party) (before after : List GivenRow) (wanted : Result Draft Refusal) (d : Draft) (o : Outcome) (moment : ℕ)
    → wanted ≡ Ok d → o ≡ outcome_of d → IsRevisedIfDone old.core.rows wanted → d.moment ≡ moment → new.number ≡ old.number
    → IfOk res (λ met. met ≡ Done o.frames)
    → OnOk res (new.core ≡ adopted o old.core)
    → OnOk res (new.accepted ≡ old.accepted ++ accepted_in old.number o.changes.last)
    → OnOk res (new.joined ≡ old.joined ++ joined_in old.number o.changes.entries)
    → OnOk res (after ≡ (before ++ entries_given old.number moment old.core.rows.outbox o.changes.outbox) ++ memories_given old.number moment old.core.rows.counters.notice o.frames)
    → Meets res old new before after wanted
meets_planned {E} (Ok met) old new before after wanted d o moment w is rests time number m core accepted joined given =
    let done : new ≡ party_after old d =
    party_is new (party_after old d) number
    (core ∙ ap (λ (x : Outcome). adopted x old.core) is ∙ adopted_is wanted d old.core rests w)
    (accepted ∙ ap (λ (x : Outcome). old.accepted ++ accepted_in old.number x.changes.last) is)
    (joined ∙ ap (λ (x : Outcome). old.joined ++ joined_in old.number x.changes.entries) is) in
    subst (λ (x : HandsetOutcome). Meets {E = E} (Ok x) old new before after wanted) (sym m)
    (d, (w, ap (λ (x : Outcome). x.frames) is, done, given_is old before after d o moment is time given))
meets_planned {E} (Err e) old new before after wanted d o moment w is rests time number m core accepted joined given = tt
