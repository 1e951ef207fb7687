use Rattle.std.proofs.Common.{refl, ◌∙◌, ap, ◌++◌, ◌∷◌, []}
use Rattle.sms_centre_rows.specs.declared.waiting.revision.Revision.TheVariants.{Remove}
use Rattle.sms_centre_messages.proofs.message_index.PutPlaces.{puts_stay}
use Rattle.sms_centre_messages.proofs.message_index.part_changes.PartChanges.remove.Goals as goal

pub invariant_of-self-2 : goal.invariant_of-self-2
invariant_of-self-2 c =
    puts_stay c.self.inside.changes.items c.push_reserved.new.self.items (Remove c.args.key) c.self.inside.places.entries c.self.invariant
    (c.push_reserved.ensures.items ∙ ap (λ l. l ++ Remove c.args.key ∷ []) c.in_ok-reserve.ensures.items) (λ key. refl)
