use Rattle.std.proofs.Common.{◌≡◌, ℕ, suc, ◌+◌, drop, true, inl, inr, ⊎_elim, subst, sym, arith}
use Rattle.sms_centre_rows.specs.messages.SplitReferences.{is_among}
use Rattle.sms_centre.specs.Archiving.{parts_in}
use Rattle.sms_centre.proofs.Archived.{first_or_behind, found_by_number, none_behind}
use Rattle.sms_centre.proofs.archiving.take_each.Goals as goal

pub loop-id-init : goal.loop-id-init
loop-id-init g c = ((λ core stands m a e. inr e), (λ m parts k. k))

pub loop-id-preserved : goal.loop-id-preserved
loop-id-preserved g c = (
  (λ core stands m a e.
      ⊎_elim
      (λ (t : g.A.Archive.took c.loop-id.archive m (parts_in core.rows m.id)). inl (c.in_ok-take.ensures.others m (parts_in core.rows m.id) t))
      (λ (b : is_among m.id (drop c.loop-id.id-index c.args.ids.now) ≡ true). ⊎_elim
      (λ (q : m.id ≡ c.id-item.result). inl (subst (λ (n : ℕ). g.A.Archive.took c.take.new.archive m (parts_in core.rows n)) (sym q) (c.in_ok-take.ensures.took core m stands (found_by_number m c.id-item.result core.rows.messages stands.centre.sound.rows.messages.message_keys a q))))
      (λ (k : is_among m.id (drop (suc c.loop-id.id-index) c.args.ids.now) ≡ true).
      let next : suc c.loop-id.id-index ≡ c.loop-id.id-index + 1 = omega arith in
      inr (subst (λ (n : ℕ). is_among m.id (drop n c.args.ids.now) ≡ true) next k))
      (first_or_behind m.id c.loop-id.id-index c.args.ids.now c.id-item.result c.loop-id-test.true c.id-item.is b))
      (c.loop-id.invariant.0 core stands m a e)),
  (λ m parts k. c.in_ok-take.ensures.kept m parts (c.loop-id.invariant.1 m parts k)),
)

pub returns-clause-took : goal.returns-clause-took
returns-clause-took g c = λ core stands m a e. ⊎_elim
    (λ (t : g.A.Archive.took c.loop-id.archive m (parts_in core.rows m.id)). t)
    (λ (b : is_among m.id (drop c.loop-id.id-index c.args.ids.now) ≡ true). absurd (none_behind m.id c.loop-id.id-index c.args.ids.now (omega (arith, c.loop-id-test.false)) b))
    (c.loop-id.invariant.0 core stands m a e)
