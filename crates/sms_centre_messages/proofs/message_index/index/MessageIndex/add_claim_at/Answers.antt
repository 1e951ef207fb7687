use Rattle.std.proofs.Common.{◌≡◌, ◌+◌, ◌++◌, sym, subst, slice_range}
use Rattle.sms_centre_messages.specs.message_index.Forgettable.{claims_of_entries}
use Rattle.sms_centre_messages.specs.message_index.MessageIndex.{MessageIndexOf}
use Rattle.sms_centre_messages.proofs.message_index.Claiming.{claims_at, claims_beyond}
use Rattle.sms_centre_messages.proofs.message_index.index.MessageIndex.add_claim_at.Goals as goal

pub returns-in_ok-add_claim_of_header-in-Some : goal.returns-in_ok-add_claim_of_header-in-Some
returns-in_ok-add_claim_of_header-in-Some c =
    subst (λ (k : MessageIndexOf). c.add_claim_of_header.new.claims.items ≡ c.args.claims.now.items ++ claims_of_entries c.args.message.now (slice_range k.parts.rows c.args.place (c.args.place + 1))) c.self.view_is
    (claims_at c.args.message.now c.self.inside.parts.rows c.args.place c.in-Some.part.now c.args.claims.now.items c.add_claim_of_header.new.claims.items
    (sym c.in-Some.ensures) c.in_ok-add_claim_of_header-in-Some.ensures)

pub returns-in-None : goal.returns-in-None
returns-in-None c =
    subst (λ (k : MessageIndexOf). c.args.claims.now.items ≡ c.args.claims.now.items ++ claims_of_entries c.args.message.now (slice_range k.parts.rows c.args.place (c.args.place + 1))) c.self.view_is
    (claims_beyond c.args.message.now c.self.inside.parts.rows c.args.place c.args.claims.now.items (sym c.in-None.ensures))
