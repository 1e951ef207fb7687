-- What a plan accepts is stored, whatever the event.
use Rattle.std.proofs.Common.{◌≡◌, sym, ap, subst, List, Result, Ok, Err, IfOk}
use Rattle.sms_handset_rows.specs.declared.inbox.discarded_group.DiscardedGroup.{DiscardedGroup}
use Rattle.sms_handset_draft.specs.declared.rows.Rows.{Rows}
use Rattle.sms_handset.specs.Accepted.{StoresAccepted}
use Rattle.sms_handset_draft.specs.Draft.{Changes, Draft, HandsetOf, rows_after}
use Rattle.sms_handset_draft.specs.Outcome.{Outcome}
use Rattle.sms_handset.specs.Planning.{IsPlanOf, PlanOf, IsRevised, Stores, IsRevisedIfDone, Plans, OfDelete, OfDiscard, OfFrame, OfTick, OfWrite}
use Rattle.sms_handset.specs.declared.refusal.Refusal.{Refusal}
use Rattle.sms_handset.proofs.Accepting.{LawIfDone, frame_stores, tick_stores, write_stores, delete_stores, discard_stores}
use Rattle.sms_handset.specs.declared.refusal.PlanError.{PlanError}
use Rattle.sms_handset.specs.declared.event.HandsetEvent.{HandsetEvent}
use Rattle.sms_handset.specs.declared.event.HandsetEvent.TheVariants.{Frame, Tick, Write, Delete, Discard}
use Rattle.sms_handset.specs.HandsetEvent.{deleted, discarded, frame_received, tag_of, ticked, wrote}
use Rattle.sms_handset.proofs.Resting.{frame_rests, tick_rests, write_rests, delete_rests, discard_rests}

stores_of : (s : HandsetOf) (d : Draft) (p : PlanOf) → IsPlanOf d s p → IsRevised s.core.rows d → StoresAccepted s.core.rows.marks d.changes d.rows → Stores s p
stores_of s d p is rests stores =
    let c : p.outcome.changes ≡ d.changes = ap (λ (o : Outcome). o.changes) is.outcome in
    subst (λ (cs : Changes). StoresAccepted s.core.rows.marks cs (rows_after cs s.core.rows)) (sym c)
    (subst (λ (r : Rows). StoresAccepted s.core.rows.marks d.changes r) rests stores)

-- what is known of what was wanted is known of what was done
law_of : (marks : List DiscardedGroup) (w : Result Draft Refusal) (d : Draft) → w ≡ Ok d → LawIfDone marks w → StoresAccepted marks d.changes d.rows
law_of marks w d e h = subst (λ (r : Result Draft Refusal). LawIfDone marks r) e h

rests_of : (base : Rows) (w : Result Draft Refusal) (d : Draft) → w ≡ Ok d → IsRevisedIfDone base w → IsRevised base d
rests_of base w d e h = subst (λ (r : Result Draft Refusal). IsRevisedIfDone base r) e h

plans_store : (r : Result PlanOf PlanError) (s : HandsetOf) (w : Result Draft Refusal) → IsRevisedIfDone s.core.rows w → LawIfDone s.core.rows.marks w → Plans r s w → IfOk r (Stores s)
plans_store (Ok p) s w rests stores h =
    stores_of s h.0 p h.1.1 (rests_of s.core.rows w h.0 h.1.0 rests) (law_of s.core.rows.marks w h.0 h.1.0 stores)
plans_store (Err e) s w rests stores h = tt

pub event_stores : (event : HandsetEvent) (r : Result PlanOf PlanError) (s : HandsetOf)
    → OfFrame event (λ octets tag. Plans r s (Ok (frame_received octets (tag_of tag) s.core)))
    → OfTick event (λ now. Plans r s (Ok (ticked now s.core)))
    → OfWrite event (λ text to report. Plans r s (wrote text to report s.core))
    → OfDelete event (λ entry. Plans r s (deleted entry s.core))
    → OfDiscard event (λ entry. Plans r s (discarded entry s.core))
    → IfOk r (Stores s)
event_stores (Frame octets tag) r s a b c d e = plans_store r s (Ok (frame_received octets (tag_of tag) s.core)) (frame_rests octets (tag_of tag) s.core) (frame_stores octets (tag_of tag) s.core) a
event_stores (Tick now) r s a b c d e = plans_store r s (Ok (ticked now s.core)) (tick_rests now s.core) (tick_stores now s.core) b
event_stores (Write text to report) r s a b c d e = plans_store r s (wrote text to report s.core) (write_rests text to report s.core) (write_stores text to report s.core) c
event_stores (Delete entry) r s a b c d e = plans_store r s (deleted entry s.core) (delete_rests entry s.core) (delete_stores entry s.core) d
event_stores (Discard entry) r s a b c d e = plans_store r s (discarded entry s.core) (discard_rests entry s.core) (discard_stores entry s.core) e
