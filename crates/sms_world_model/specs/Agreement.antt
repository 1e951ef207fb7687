-- What holds of the world after any run.
use Rattle.std.specs.Prelude.{◌≡◌, ℕ, List, [], ◌∷◌, Some}
use Rattle.sms_base.specs.Among.{Among}
use Rattle.sms_base.specs.declared.address.Address.{Address}
use Rattle.sms_base.specs.declared.final_state.FinalState.{FinalState}
use Rattle.sms_base.specs.declared.final_state.FinalState.TheVariants.{Delivered}
use Rattle.sms_base.specs.declared.holder.Holder.TheVariants.{Part}
use Rattle.sms_concat.specs.declared.content.Content.{Content}
use Rattle.sms_tpdu.specs.declared.user_data.UserData.{UserData}
use Rattle.sms_world_model.specs.World.{Accepted, Carried, Final, Frame, Allocation, IsHeld, Joined, OutEntry, Sent_up, IsRecorded, State, World, pair_given}
use Rattle.sms_world_model.specs.Submission.{HasPart, Submission, IsDeliverOf}
use Rattle.sms_world_model.specs.References.{IsEarlier}
use Rattle.sms_world_model.specs.Groups.{IsEndedAt, groups_of, joined_content, Rounds, SameItems, rounds_of, OccursOnce}
use Rattle.sms_world_model.specs.SplitMessages.{IsOf, IsSplit, IsSplitFrom, submitted_content}

-- ---- whatever happens

-- a message stays in the table as it was submitted
abbrev pub MessagesStay : World → World → Type 0
MessagesStay w v = (id : ℕ) (s : Submission) (st : State) → IsRecorded w.table id s st → (later : State) × IsRecorded v.table id s later

-- its final state stays, so that no message has two
abbrev pub FinalForGood : World → World → Type 0
FinalForGood w v = (id : ℕ) (s : Submission) (f : FinalState) → IsRecorded w.table id s (Final f) → IsRecorded v.table id s (Final f)

-- each receipt has the final state of its id, and no id has two
abbrev pub ReceiptsAgree : World → Type 0
ReceiptsAgree w =
    (id : ℕ) (f : FinalState) → Among (record { id = id; state = f }) w.receipts →
    OccursOnce (record { id = id; state = f }) w.receipts × ((s : Submission) × IsRecorded w.table id s (Final f))

-- references that are held at one handset differ
abbrev pub HeldDiffer : World → Type 0
HeldDiffer w = (g h : Allocation) → IsHeld w g → IsHeld w h → g.handset ≡ h.handset → g.reference ≡ h.reference → g.holder ≡ h.holder

-- no part and no report was given two references
abbrev pub HoldersOnce : World → Type 0
HoldersOnce w = (g h : Allocation) → Among g w.down → Among h w.down → g.holder ≡ h.holder → g ≡ h

-- each giving of a reference at a handset is later than those before it, so that no pair (reference, moment) is given twice
abbrev pub GivenOnce : List Allocation → Type 0
GivenOnce [] = Unit {0}
GivenOnce (g ∷ older) = IsEarlier older g.handset g.reference g.moment × GivenOnce older

-- a number names one frame
abbrev pub FramesDiffer : World → Type 0
FramesDiffer w = (u v : Frame) → Among (Carried u) w.bag → Among (Carried v) w.bag → u.number ≡ v.number → u ≡ v

-- what was joined is what a group joins to that ended, and each group is joined once
abbrev pub JoinedEnded : World → Type 0
JoinedEnded w =
    (j : Joined) → Among j w.joined →
    IsEndedAt j.place j.group (groups_of j.handset j.key w.accepted).ended × (joined_content j.key.total j.group ≡ Some j.content)

-- ---- while frames are timely

-- The part was offered under one reference, and its handset accepted the DELIVER that was made for it exactly once.
abbrev pub IsAcceptedOnce : World → ℕ → Submission → ℕ → UserData → Type 0
IsAcceptedOnce w id s n part =
    (g : Allocation)
    × (Among g w.down × (g.holder ≡ Part id n) × (g.handset ≡ s.handset) × IsDeliverOf s part g.moment g.tpdu
    × OccursOnce (pair_given g) w.accepted)

-- each part of a delivered message was accepted exactly once, as it was submitted
abbrev pub DeliveredAccepted : World → Type 0
DeliveredAccepted w =
    (id : ℕ) (s : Submission) (n : ℕ) (part : UserData) → IsRecorded w.table id s (Final Delivered) → HasPart s n part → IsAcceptedOnce w id s n part

-- a receipt says Delivered only where the handset accepted each part exactly once, as it was submitted
abbrev pub DeliveredReported : World → Type 0
DeliveredReported w =
    (id : ℕ) → Among (record { id = id; state = Delivered }) w.receipts →
    (s : Submission)
    × (IsRecorded w.table id s (Final Delivered) × ((n : ℕ) (part : UserData) → HasPart s n part → IsAcceptedOnce w id s n part))

-- no part of any message was accepted twice
abbrev pub NoPartTwice : World → Type 0
NoPartTwice w =
    (g : Allocation) (id n : ℕ) → Among g w.down → g.holder ≡ Part id n → Among (pair_given g) w.accepted → OccursOnce (pair_given g) w.accepted

-- each entry that counts as sent has its message
abbrev pub SentSubmitted : World → Type 0
SentSubmitted w =
    (e : OutEntry) → Among e w.outbox → e.state ≡ Sent_up →
    (id : ℕ) × (s : Submission) × (st : State)
    × (IsRecorded w.table id s st × (s.source.digits ≡ e.handset) × (s.handset ≡ e.destination.digits) × (s.parts ≡ e.user_data ∷ []))

-- no round is joined twice
abbrev pub RoundsOnce : List Joined → Type 0
RoundsOnce [] = Unit {0}
RoundsOnce (j ∷ older) =
    ((x : Joined) → Among x older → x.handset ≡ j.handset → x.key ≡ j.key → (round : List Accepted) → SameItems j.group round → SameItems x.group round → ⊥)
    × RoundsOnce older

-- ---- while frames are timely and submissions fresh

-- the pair is that of a part which this source submitted to this handset
abbrev pub IsPartFrom : World → Address → List ℕ → Accepted → Type 0
IsPartFrom w source handset x =
    (g : Allocation) × (id : ℕ) × (n : ℕ) × (s : Submission) × (st : State) × (part : UserData)
    × (Among g w.down × (g.holder ≡ Part id n) × IsRecorded w.table id s st × (s.source ≡ source) × (s.handset ≡ handset) × HasPart s n part
    × IsDeliverOf s part g.moment g.tpdu × (x ≡ pair_given g))

-- each joined content is that of one round, whose parts its source submitted to this handset
abbrev pub JoinedSubmitted : World → Type 0
JoinedSubmitted w =
    (j : Joined) → Among j w.joined →
    let r : Rounds = rounds_of j.handset j.key w.down in
    (round : List Accepted) × (Among round (r.present ∷ r.finished) × SameItems j.group round × (joined_content j.key.total round ≡ Some j.content)
    × ((x : Accepted) → Among x round → IsPartFrom w j.key.source j.handset x))

-- what was joined with a part of a split message was joined from its parts alone, and is its content
abbrev pub SplitsWhole : World → Type 0
SplitsWhole w =
    (j : Joined) → Among j w.joined → (s : Submission) (st : State) → IsRecorded w.table s.id s st → IsSplit s j.key → s.handset ≡ j.handset →
    (x : Accepted) → Among x j.group → IsOf w.down s.id x →
    ((y : Accepted) → Among y j.group → IsOf w.down s.id y) × (submitted_content s ≡ Some j.content)

-- what was joined with a part of a message that was split from a content is that content
abbrev pub SplitsJoined : World → Type 0
SplitsJoined w =
    (j : Joined) → Among j w.joined → (s : Submission) (st : State) (content : Content) (reference : ℕ) → IsRecorded w.table s.id s st →
    IsSplitFrom s content reference → s.handset ≡ j.handset → (x : Accepted) → Among x j.group → IsOf w.down s.id x → j.content ≡ content
