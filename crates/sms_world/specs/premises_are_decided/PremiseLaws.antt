-- What is decided of an event is what the claims suppose of the world.
use Rattle.std.specs.Prelude.{◌≡◌, ◌↔◌, ℕ, suc, List, [], ◌∷◌, true}
use Rattle.sms_play.specs.Premises.{are_fresh, is_timely_event, may_begin}
use Rattle.sms_play.specs.PlayState.{PlayState}
use Rattle.sms_script.specs.declared.event.WorldEvent.{WorldEvent}
use Rattle.sms_world.specs.scripts_are_runs.PlayRefinement.{PlayRefines}
use Rattle.sms_world.specs.headline.OneRun.{happening_of}
use Rattle.sms_world_model.specs.Premises.{FreshParts, MayBegin, HandsTimely}
use Rattle.sms_world_model.specs.Place.{Key}
use Rattle.sms_world_model.specs.Groups.{of_key, submitted_pairs}
use Rattle.sms_world_model.specs.References.{Ticket, part_allocation}
use Rattle.sms_world_model.specs.Submission.{Submission}
use Rattle.sms_world_model.specs.World.{Accepted, Allocation, World}

-- Each frame that the event hands over is timely in the world exactly where that is decided on the course.
abbrev pub TimelyLaw : Type 0
TimelyLaw =
    (e : WorldEvent) (c : PlayState) (w : World) (moment : ℕ) → PlayRefines c w → (is_timely_event e c ≡ true) ↔ HandsTimely w (happening_of e moment).event

-- a part may begin a round
abbrev pub MayBeginLaw : Type 0
MayBeginLaw = (p : Accepted) (down : List Allocation) (accepted : List Accepted) → (may_begin p down accepted ≡ true) ↔ MayBegin down accepted p

-- the allocations of the parts of a submission, one after another
abbrev pub parts_given : Submission → ℕ → ℕ → List Ticket → List Allocation
parts_given s moment n [] = []
parts_given s moment n (t ∷ ts) = part_allocation s moment n t ∷ parts_given s moment (suc n) ts

abbrev pub FreshLaw : Type 0
FreshLaw =
    (s : Submission) (moment n : ℕ) (tickets : List Ticket) (down : List Allocation) (accepted : List Accepted)
    → (are_fresh (parts_given s moment n tickets) down accepted ≡ true) ↔ FreshParts s moment n tickets down accepted

-- it makes no difference how other things than parts were given, nor in which order handsets accepted
abbrev pub AlikeLaw : Type 0
AlikeLaw =
    (allocations down other : List Allocation) (accepted others : List Accepted) → submitted_pairs down ≡ submitted_pairs other
    → ((handset : List ℕ) (k : Key) → of_key handset k accepted ≡ of_key handset k others)
    → are_fresh allocations down accepted ≡ are_fresh allocations other others
