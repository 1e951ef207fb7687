-- What is planned with a store that answers every read but one.
use Rattle.std.proofs.Common.{◌≡◌, ℕ, List, [], ◌∷◌, Bool, true, false, Option, Some, None, Ok, Err, refl, sym, ◌∙◌, ap, ⊎_elim, cond, eq-eqb}
use Rattle.std.specs.Prelude.{◌==◌, ◌&&◌, not}
use Rattle.sms_base.proofs.Bools.{and_false}
use Rattle.sms_base.specs.Among.{Among}
use Rattle.sms_centre_spec.specs.declared.plan_error.PlanError.TheVariants.{NoBody}
use Rattle.sms_centre_spec.specs.Draft.{Draft}
use Rattle.sms_centre_spec.specs.Planning.{all_answered, outcome_of, planned}
use Rattle.sms_centre_events.specs.offering.Refusing.{answers_but}

all_true : (keys : List ℕ) → all_answered (answers_but None) keys ≡ true
all_true [] = refl
all_true (k ∷ ks) = all_true ks

one_false : (key : ℕ) (keys : List ℕ) → Among key keys → all_answered (answers_but (Some key)) keys ≡ false
one_false key [] among = absurd among
one_false key (k ∷ ks) among = ⊎_elim
    (λ (e : key ≡ k). ap (λ (b : Bool). not b && all_answered (answers_but (Some key)) ks) (eq-eqb k key (sym e)))
    (λ (a : Among key ks). ap (λ (b : Bool). not (k == key) && b) (one_false key ks a) ∙ and_false (not (k == key)))
    among

pub answered_is : (d : Draft) (refused : Option ℕ) → refused ≡ None → planned (answers_but refused) d ≡ Ok (outcome_of d)
answered_is d refused none =
    ap (λ (o : Option ℕ). planned (answers_but o) d) none
    ∙ ap (λ (b : Bool). cond b (Ok (outcome_of d)) (Err NoBody)) (all_true d.links.read)

pub refused_is : (d : Draft) (refused : Option ℕ) (key : ℕ) → Among key d.links.read → refused ≡ Some key → planned (answers_but refused) d ≡ Err NoBody
refused_is d refused key among is =
    ap (λ (o : Option ℕ). planned (answers_but o) d) is
    ∙ ap (λ (b : Bool). cond b (Ok (outcome_of d)) (Err NoBody)) (one_false key d.links.read among)
