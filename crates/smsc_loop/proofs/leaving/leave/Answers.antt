use Rattle.std.proofs.Common.{◌⊎◌, refl, inl, inr}
use Rattle.smsc_loop.specs.Phases.{Leaves}
use Rattle.smsc_loop.specs.Calls.{Left}
use Rattle.smsc_loop.proofs.Joins.{did_join, did_still}
use Rattle.smsc_loop.proofs.Drops.{emptied_did}
use Rattle.smsc_loop.proofs.leaving.leave.Goals as goal

left_both : (over : Type 0) {X Y Z : Type 0} → over ⊎ Y → over ⊎ (X × Z) → over ⊎ (X × Y × Z)
left_both over (inl o) q = inl o
left_both over (inr y) (inl o) = inl o
left_both over (inr y) (inr z) = inr (z.0, y, z.1)

pub returns : goal.returns
returns g c = λ p a w h.
    let over = g.A.Surroundings.was_over c.args.around.now in
    let e = emptied_did g.G.Endpoint.does over c.put_last.new.endpoint c.close-due.result a w _ _ c.empty.ensures in (
      e.0,
      did_join g.G.Endpoint.does _ _ _ (did_still g.G.Endpoint.does (Left c.close-due.result) _ _ p (Leaves c.close-due.result) a w _ refl refl refl refl c.close-due.ensures.left (h, refl))
          (did_join g.G.Endpoint.does _ _ _ (c.observe_notes.ensures (Leaves c.close-due.result) a w _) (did_join g.G.Endpoint.does _ _ _ (c.put_last.ensures.did c.close-due.result a w) e.1)),
      left_both over c.put_last.ensures.put e.2,
    )
