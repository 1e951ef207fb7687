-- Runs one after another.
use Rattle.std.proofs.Common.{◌≡◌, ℕ, List, [], ◌∷◌, ◌++◌, false, refl}
use Rattle.sms_world_model.specs.WorldStep.{Run, after_item, end, Step}
use Rattle.sms_world_model.specs.ScriptRun.{items}
use Rattle.sms_world_model.specs.World.{World}

pub run_both : (m : ℕ) (w : World) (xs ys : List Step) → Run w (items m false xs) → Run (end w (items m false xs)) (items m false ys) → Run w (items m false (xs ++ ys))
run_both m w [] ys r s = s
run_both m w (x ∷ xs) ys r s = (r.0, run_both m (after_item w (record { step = x; moment = m; stopped = false })) xs ys r.1 s)

pub end_both : (m : ℕ) (w : World) (xs ys : List Step) → end w (items m false (xs ++ ys)) ≡ end (end w (items m false xs)) (items m false ys)
end_both m w [] ys = refl
end_both m w (x ∷ xs) ys = end_both m (after_item w (record { step = x; moment = m; stopped = false })) xs ys
