-- Worlds that a play state does not show.
use Rattle.std.proofs.Common.{◌≡◌, [], ◌∷◌, true, refl, inl, ⊎_elim}
use Rattle.std.proofs.lemmas.Option.{none-some}
use Rattle.sms_play.specs.Playing.{report_of}
use Rattle.sms_tpdu.specs.MoreMessages.{compared}
use Rattle.sms_world.proofs.Everything.{everything}
use Rattle.sms_world.proofs.headline.HeadlineHolds.{headline_is}
use Rattle.sms_world.specs.headline.SeenWorld.{PartSeen}
use Rattle.sms_world.specs.wrong_plays.Plays.{entry, first, from_application, part_one, setup}
use Rattle.sms_world.specs.wrong_plays.Shown.{AcceptedUnknownLaw, BeginningLaw, EntryUnknownLaw, FrameSaysNothingLaw, FrameUnknownLaw, GivenUnknownLaw, GivenUpUnknownLaw, GivenWithoutRowLaw, HolderWithoutRowLaw, MessageUnknownLaw, MessageWithoutRowLaw, NotApartLaw, OpenReportLaw, PartNotGivenLaw, PartUnknownLaw, ReceiptUnknownLaw, ReceiptUnlistedLaw, given_up, receipt_there, submission}
use Rattle.sms_world.specs.wrong_reports.Literals.{given, receipt}
use Rattle.sms_world.specs.wrong_reports.Worlds.{given_to}
use Rattle.sms_world_model.specs.World.{Accepted, Message, Pending, Sent}

pub beginning : BeginningLaw
beginning = (headline_is setup [] (report_of first) _ refl).run.0

no_pair : (x : Accepted) → [] ≡ x ∷ [] → ⊥
no_pair x e = absurd cc

no_frame : (x : Sent) → [] ≡ x ∷ [] → ⊥
no_frame x e = absurd cc

pub message_unknown : MessageUnknownLaw
message_unknown r = let x = r.there 1 from_application refl in none-some {A = Message} _ x.2.0

pub message_without_row : MessageWithoutRowLaw
message_without_row r = let x = r.only 1 submission (Pending []) refl in none-some x.0 x.1

pub part_unknown : PartUnknownLaw
part_unknown p x = none-some {A = Message} _ x.4.0

pub receipt_unknown : ReceiptUnknownLaw
receipt_unknown r = r.there receipt (inl refl)

pub receipt_unlisted : ReceiptUnlistedLaw
receipt_unlisted r = r.only receipt_there (inl refl)

pub open_report : OpenReportLaw
open_report r = let x = r.opened 1 (inl refl) in none-some x.0 x.1.0

pub accepted_unknown : AcceptedUnknownLaw
accepted_unknown r = no_pair _ r.accepted

pub entry_unknown : EntryUnknownLaw
entry_unknown r = r.outbox entry (inl refl)

pub not_apart : NotApartLaw
not_apart o = ⊎_elim (λ z. z.1 (inl refl)) (λ z. z.0 refl) o

pub given_unknown : GivenUnknownLaw
given_unknown r = (r.each given (inl refl) refl).1.0

pub given_without_row : GivenWithoutRowLaw
given_without_row r = (r.only (given_to 1) (inl refl)).1.0

pub holder_without_row : HolderWithoutRowLaw
holder_without_row r = let x = r.of_part (given_to 1) 1 1 (inl refl) refl in none-some x.0 x.2.0

abbrev seen : PartSeen
seen = record { reference = 0; tpdu = compared part_one.tpdu; is_done = true }

pub part_not_given : PartNotGivenLaw
part_not_given r = (r.part 1 1 from_application seen refl refl).1

pub given_up_unknown : GivenUpUnknownLaw
given_up_unknown r = (r.each given_up (inl refl) refl refl).1.0

pub frame_unknown : FrameUnknownLaw
frame_unknown e = no_frame _ e

pub frame_says_nothing : FrameSaysNothingLaw
unfolding everything
frame_says_nothing b = b
