use Rattle.std.proofs.Common.{◌≡◌, ◌∙◌, refl, sym, ap, subst}
use Rattle.std.specs.Prelude.{option_map}
use Rattle.sms_centre_queue.specs.queues.Queues.{DeliveryQueuesDraftOf, at, under}
use Rattle.sms_centre_queue.specs.queues.Representing.{DraftRepresents}
use Rattle.sms_centre_queue.specs.queues.Unlinked.{unlinked}
use Rattle.sms_centre_queue.proofs.queues.Unlinking.{links_forgotten}
use Rattle.sms_centre_queue.proofs.queues.draft.DeliveryQueuesDraft.forget_links.Goals as goal

pub returns : goal.returns
returns c = λ g links waiting represents.
    let s = c.self.inside in
    let old : DeliveryQueuesDraftOf = record { base = s.ground.value; touched = s.touched.entries; handsets = s.handsets; references = s.references; frames = s.frames; next_place = s.next_place; link_count = s.link_count } in
    links_forgotten old (record old { touched = c.put.new.place.entries; link_count = 0 })
    (λ key. ap (λ m. under key m.entries) c.put.ensures ∙ subst (λ (p : DeliveryQueuesDraftOf). under key c.in_ok-queues.queues.entries ≡ option_map unlinked (at key p)) (sym c.self.view_is) (c.in_ok-queues.ensures key)) refl g links waiting
    (subst (λ (p : DeliveryQueuesDraftOf). DraftRepresents g links waiting p) (sym c.self.view_is) represents)
