use Rattle.std.proofs.Common.{◌≡◌, ℕ, ◌-◌, List, ◌++◌, take, drop, sym, ◌∙◌, ap, append-nil, arith}
use Rattle.sms_centre_rows.specs.declared.messages.parts.PartEntry.{PartEntry}
use Rattle.sms_centre_messages.specs.message_index.Forgettable.{claims_of_entries}
use Rattle.sms_centre_messages.proofs.message_index.Between.{range_of_none}
use Rattle.sms_centre_messages.proofs.message_index.Claiming.{claims_more}
use Rattle.sms_centre_messages.proofs.message_index.index.MessageIndex.add_claims_at.Goals as goal

pub loop-place-init : goal.loop-place-init
loop-place-init c =
    let claims = c.args.claims.now.items in
    record {
      begun = omega arith;
      within = omega arith;
      claims =
          sym (ap (λ (l : List PartEntry). claims ++ claims_of_entries c.args.message.now l) (range_of_none c.args.places.start c.args.self.now.parts.rows) ∙ append-nil claims);
    }

pub loop-place-preserved : goal.loop-place-preserved
loop-place-preserved c = record {
  begun = omega (arith, c.loop-place.invariant.begun);
  within = omega (arith, c.loop-place.invariant.begun, c.loop-place-test.true);
  claims =
      claims_more c.args.message.now c.args.self.now.parts.rows c.args.places.start c.loop-place.place c.args.claims.now.items c.loop-place.claims.items c.add_claim_at.new.claims.items
      c.loop-place.invariant.begun c.loop-place.invariant.claims c.in_ok-add_claim_at.ensures;
}

pub returns : goal.returns
returns c =
    let rest = drop c.args.places.start c.args.self.now.parts.rows in
    let all : c.loop-place.place - c.args.places.start ≡ c.args.places.end - c.args.places.start = omega (arith, c.loop-place.invariant.within, c.loop-place-test.false) in
    c.loop-place.invariant.claims ∙ ap (λ (k : ℕ). c.args.claims.now.items ++ claims_of_entries c.args.message.now (take k rest)) all
