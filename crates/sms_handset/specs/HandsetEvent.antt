-- An event of a handset: what it does, then what follows every event, lapsed transfers and the next offer.
use Rattle.std.specs.Prelude.{Option, ℕ, List, unwrap_or, Result, Ok, Err, Bool}
use Rattle.sms_base.specs.declared.holder.Holder.{Holder}
use Rattle.sms_base.specs.declared.holder.Holder.TheVariants.{Entry as EntryHolder}
use Rattle.sms_link.specs.LinkTurn.{taken, fired}
use Rattle.sms_handset_draft.specs.Draft.{Draft, Core, draft_of, link_of}
use Rattle.sms_handset_draft.specs.FramesAndTicks.{at_moment, frame_heard, timers_fired}
use Rattle.sms_handset_draft.specs.Outbox.{follow}
use Rattle.sms_handset.specs.declared.refusal.Refusal.{Refusal}
use Rattle.sms_handset.specs.OwnersActs.{write, delete, discard}

-- ---- a frame

abbrev pub frame_received : List ℕ → Holder → Core → Draft
frame_received octets tag c = follow (frame_heard tag (taken octets (link_of (draft_of c))) (draft_of c))

-- A frame that arrives without a tag, from a socket, is taken as one of entry 0, which no entry is.
abbrev pub tag_of : Option Holder → Holder
tag_of tag = unwrap_or tag (EntryHolder 0)

-- ---- a tick

abbrev pub ticked : ℕ → Core → Draft
ticked now c =
    let d : Draft = at_moment now (draft_of c) in
    follow (timers_fired (fired d.moment (link_of d)) d)

-- ---- an act of the owner: one that is refused changes nothing at all

abbrev pub acted : Result Draft Refusal → Result Draft Refusal
acted (Ok d) = Ok (follow d)
acted (Err refusal) = Err refusal

abbrev pub wrote : List ℕ → List ℕ → Bool → Core → Result Draft Refusal
wrote text to report c = acted (write text to report (draft_of c))

abbrev pub deleted : ℕ → Core → Result Draft Refusal
deleted n c = acted (delete n (draft_of c))

abbrev pub discarded : ℕ → Core → Result Draft Refusal
discarded n c = acted (discard n (draft_of c))
