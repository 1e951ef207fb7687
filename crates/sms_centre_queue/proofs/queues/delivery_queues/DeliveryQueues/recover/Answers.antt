use Rattle.std.proofs.Common.{ℕ, List, ◌∙◌, ap}
use Rattle.sms_centre_queue.specs.declared.queues.placed_queue.PlacedQueue.{PlacedQueue}
use Rattle.sms_centre_queue.specs.queues.Queues.{under}
use Rattle.sms_centre_queue.proofs.queues.Restoring.{restored_represents}
use Rattle.sms_centre_queue.proofs.queues.delivery_queues.DeliveryQueues.recover.Goals as goal

pub returns : goal.returns
returns c =
    let bare = c.in_ok-stood.ensures in
    restored_represents c.args.handsets.now c.args.references.now.rows c.in_ok-stood.stood c.requires.sound
    (λ key. ap (λ (es : List (ℕ × PlacedQueue)). under key es) bare.queues ∙ c.in_ok-queues.ensures key) bare.touched
    (bare.next_place ∙ c.place_behind-next_place.ensures) bare.link_count bare.rested
