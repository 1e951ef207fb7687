use Rattle.std.proofs.Common.{◌≡◌, ℕ, ◌==◌, ◌%◌, false, true, List, Option, arith, eq-eqb}
use Rattle.std.proofs.lemmas.Bool.{ne_eqb}
use Rattle.sms_centre_spec.specs.octets.OctetsAt.{octets_at}
use Rattle.sms_store.specs.centre.CentreRows.{centre_stores}
use Rattle.sms_store.specs.keeping.InKeep.{state_of}
use Rattle.sms_store.proofs.centre.BodiesRead.{still_right}
use Rattle.sms_store.proofs.centre.bodies.CentreKeep+S.octets_under.Goals as goal

pub returns-then-number-eq0-clause-outcome : goal.returns-then-number-eq0-clause-outcome
returns-then-number-eq0-clause-outcome g c rows honest holds =
    let zero : c.args.key % 256 ≡ 0 = omega (arith, c.number.ensures, c.if-number-eq0.true) in
    still_right (λ (octets : Option (List ℕ)). (c.args.key % 256 == 0) ≡ true → octets ≡ octets_at rows c.args.key) (λ (octets : Option (List ℕ)). octets ≡ octets_at rows c.args.key) rows (state_of centre_stores g.S.Store c.report_octets.new.self)
    c.report_octets.result (λ octets right. right (eq-eqb (c.args.key % 256) 0 zero)) (c.report_octets.ensures.outcome rows honest holds)

pub returns-else-number-eq0-clause-outcome : goal.returns-else-number-eq0-clause-outcome
returns-else-number-eq0-clause-outcome g c rows honest holds =
    let other : c.args.key % 256 ≡ 0 → ⊥ = λ zero. omega (arith, zero, c.number.ensures, c.if-number-eq0.false) in
    still_right (λ (octets : Option (List ℕ)). (c.args.key % 256 == 0) ≡ false → octets ≡ octets_at rows c.args.key) (λ (octets : Option (List ℕ)). octets ≡ octets_at rows c.args.key) rows (state_of centre_stores g.S.Store c.part_octets.new.self)
    c.part_octets.result (λ octets right. right (ne_eqb (c.args.key % 256) 0 other)) (c.part_octets.ensures.outcome rows honest holds)
