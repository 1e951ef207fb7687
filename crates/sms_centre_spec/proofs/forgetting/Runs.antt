-- A centre without the messages that were forgotten keeps in step with the one that has them.
use Rattle.std.proofs.Common.{◌≡◌, ℕ, List, [], ◌∷◌, Bool, true, false, Some, None, sym, ◌∙◌, ap, subst, inl, inr, ⊎_elim}
use Rattle.std.specs.Prelude.{◌==◌, ◌||◌}
use Rattle.std.proofs.lemmas.Bool.{cases_Bool, eqb-true}
use Rattle.sms_base.specs.Among.{Among}
use Rattle.sms_centre_rows.specs.messages.SplitReferences.{is_among}
use Rattle.sms_centre_spec.specs.declared.event.CentreEvent.{CentreEvent}
use Rattle.sms_centre_spec.specs.CentreEvent.{happened}
use Rattle.sms_centre_spec.specs.Draft.{Core, Draft}
use Rattle.sms_centre_spec.specs.SoundCore.{IsEvent}
use Rattle.sms_centre_spec.proofs.EventLaws.{stays_sound}
use Rattle.sms_centre_spec.specs.forgetting.Forgot.{AsksOther, CanForget, Forgot, InStep, core_without}
use Rattle.sms_centre_spec.proofs.forgetting.Behind.{given_behind, may_behind}
use Rattle.sms_centre_spec.proofs.forgetting.Ended.{report_goes}
use Rattle.sms_centre_spec.proofs.forgetting.Everywhere.{event_same}

pub among_so : (id : ℕ) (ns : List ℕ) → is_among id ns ≡ true → Among id ns
among_so id [] e = let bad : false ≡ true = e in absurd cc
among_so id (n ∷ ns) e = ⊎_elim
    (λ (t : (n == id) ≡ true). inl (sym (eqb-true n id t)))
    (λ (t : (n == id) ≡ false). inr (among_so id ns (sym (ap (λ (b : Bool). b || is_among id ns) t) ∙ e)))
    (cases_Bool (n == id))

can_forget : (goes : ℕ → Bool) (large : Core) → Forgot goes (core_without goes large) large → CanForget goes large
can_forget goes large f = record {
  may = f.may;
  given = f.given;
  answered = λ s id a e.
      let r = (f.left.each_session s a).unanswered id (among_so id s.unanswered e) in
      ⊎_elim
      (λ (t : goes id ≡ true). let bad : None ≡ Some r.0 = sym (report_goes goes id large.rows.reports t) ∙ r.1.0 in absurd cc)
      (λ (t : goes id ≡ false). t)
      (cases_Bool (goes id));
}

step_of : (goes : ℕ → Bool) (event : CentreEvent) (large : Core) → Forgot goes (core_without goes large) large → IsEvent event → AsksOther goes event
    → InStep goes (happened event (core_without goes large)) (happened event large)
step_of goes event large f is other =
    let can = can_forget goes large f in
    let same = event_same goes event large f.sound.rows can other in
    record {
      frames = ap (λ (d : Draft). d.links.frames) same.draft;
      deliveries = ap (λ (d : Draft). d.bindings.deliveries) same.draft;
      answer = ap (λ (d : Draft). d.answer) same.draft;
      behind = record {
        without = same.core;
        sound = stays_sound event large f.sound is;
        left = stays_sound event (core_without goes large) f.left is;
        may = may_behind goes event large f.sound is can other;
        given = given_behind goes event large f.sound is can other;
      };
    }

pub in_step : (goes : ℕ → Bool) (event : CentreEvent) (small large : Core) → Forgot goes small large → IsEvent event → AsksOther goes event → InStep goes (happened event small) (happened event large)
in_step goes event small large f is other =
    let g : Forgot goes (core_without goes large) large = subst (λ (x : Core). Forgot goes x large) f.without f in
    subst (λ (x : Core). InStep goes (happened event x) (happened event large)) (sym f.without) (step_of goes event large g is other)
