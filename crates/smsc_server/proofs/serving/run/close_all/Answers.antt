use Rattle.std.proofs.Common.{◌≡◌, ◌<◌, ◌∙◌, ℕ, List, [], ◌++◌, Option, length, slice_get, Some, refl, sym, ap, subst}
use Rattle.smsc_server.proofs.serving.Sat.{did_same}
use Rattle.smsc_server.proofs.serving.ShareLists.{closed}
use Rattle.smsc_server.proofs.serving.run.close_all.Goals as goal

pub settle_all-requires-clause-count : goal.settle_all-requires-clause-count
settle_all-requires-clause-count g c = c.requires.count.0 ∙ sym c.requires.count.1

pub settle_all-requires-clause-ways : goal.settle_all-requires-clause-ways
settle_all-requires-clause-ways g c = c.requires.ways.0

pub settle_all-requires-clause-made : goal.settle_all-requires-clause-made
settle_all-requires-clause-made g c = c.requires.ways.1 ∙ sym c.requires.count.0

pub settle_all-requires-clause-none : goal.settle_all-requires-clause-none
settle_all-requires-clause-none g c = c.requires.ways.2

pub returns-clause-did : goal.returns-clause-did
returns-clause-did g c = λ start entered.
    let shared = c.take_back_all.ensures.shared in
    let kept = c.take_back_all.ensures.giver in
    let settled = c.settle_all.ensures in
    let all = closed g.L.Door.came start c.args.entrance c.take_back_all.new.giver entered shared (kept.0 ∙ (settled.giver.0 ∙ c.requires.ways.1)) (kept.1 ∙ settled.giver.1) in (
      all.0,
      all.1,
      λ admitted have n less.
          let did = settled.did n (subst (λ (m : ℕ). n < m) (sym c.requires.count.1) less) in
          did_same g.S.Read.remaining g.S.Write.contents admitted _ _ _ _ _ _ refl refl
          (all.2 n did.0 less (ap (λ l. slice_get l n) kept.2 ∙ did.1)) (did.2 admitted have),
    )
