use Rattle.std.proofs.Common.{ap, sym, ◌∙◌, arith}
use Rattle.sms_concat.specs.joiner.StepwiseJoining.{Taken, takes}
use Rattle.sms_concat.proofs.joiner.Stepwise.{add_stays, room_left}
use Rattle.sms_concat.proofs.joiner.Joiner.add.Goals as goal

pub insert-requires : goal.insert-requires
insert-requires c =
    let old = c.self.inside in
    let t : Taken = record { reference = old.reference; total = old.total; parts = old.parts.items } in
    room_left t c.args.part _ c.self.invariant.0 c.self.invariant.1 (ap (λ (u : Taken). takes u c.args.part) c.self.view_is ∙ sym c.takes.ensures ∙ c.if-not-takes.false)

pub invariant_of-self : goal.invariant_of-self
invariant_of-self c =
    let old = c.self.inside in
    let room = c.insert.ensures.room in (
      add_stays old.reference old.total old.parts.items c.insert.new.parts.items c.args.self.now c.args.part c.takes.result c.self.view_is c.self.invariant.0 c.takes.ensures c.if-not-takes.false c.insert.ensures.items,
      omega (arith, room, c.self.invariant.1),
    )
