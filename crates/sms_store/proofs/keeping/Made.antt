-- Three texts that make tables, one behind another.
use Rattle.std.proofs.Common.{ℕ, List, [], IsTrue, Result, OnOk, refl, ◌∙◌, arith}
use Rattle.sqlite.specs.declared.error.Error.{Error}
use Rattle.sqlite.specs.Effect.{Database}
use Rattle.sqlite.specs.State.{State, HasCleanDisk, Survives}
use Rattle.sms_store_sql.specs.listing.Inside.{Ran}
use Rattle.sms_store_sql.specs.listing.Transaction.{Leads}
use Rattle.sms_store_sql.proofs.listing.Steps.{ok_then}

module _ (a b c d : State) (x y z : List ℕ) (Change : Database → Database → Type 0) (leads : Ran x [] a b → Ran y [] b c → Ran z [] c d → Change a.now d.now) where
  -- where each of them runs, the transaction leads where all three lead
  pub three_made : (r : Result (Unit {0}) Error) → Survives b c (λ _. ⊥) → Survives c d (λ _. ⊥) → (HasCleanDisk b → IsTrue a.is_open → IsTrue a.in_transaction → Ran x [] a b)
      → (HasCleanDisk c → IsTrue b.is_open → IsTrue b.in_transaction → Ran y [] b c) → (HasCleanDisk d → IsTrue c.is_open → IsTrue c.in_transaction → OnOk r (Ran z [] c d))
      → HasCleanDisk d → IsTrue a.is_open → IsTrue a.in_transaction → OnOk r (Leads Change a d)
  three_made r second_spares third_spares first_ran second_ran third_ran clean live inside =
      let at_c : HasCleanDisk c = omega (arith, clean, third_spares.clean) in
      let at_b : HasCleanDisk b = omega (arith, at_c, second_spares.clean) in
      let first = first_ran at_b live inside in
      let second = second_ran at_c first.inside.is_open first.inside.mode in
      ok_then r (λ third. record {
        inside = record { was_open = first.inside.was_open; is_open = third.inside.is_open; now_is = refl; committed_is = third.inside.committed_is ∙ second.inside.committed_is ∙ first.inside.committed_is; mode = third.inside.mode };
        changed = leads first second third;
      }) (third_ran clean second.inside.is_open second.inside.mode)
