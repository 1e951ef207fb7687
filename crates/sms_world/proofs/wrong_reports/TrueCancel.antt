use Rattle.std.proofs.Common.{◌≡◌, ℕ, zero, suc, List, [], ◌∷◌, refl, ap, subst, inl, ⊎_elim, Some}
use Rattle.sms_base.specs.Among.{Among}
use Rattle.sms_centre_rows.specs.declared.report_lines.MessageState.TheVariants.{Enroute, Final}
use Rattle.sms_base.specs.declared.final_state.FinalState.TheVariants.{Deleted}
use Rattle.sms_world.specs.wrong_reports.Literals.{name, id_one, line, asking, asked, asked_then, submits, answer}
use Rattle.sms_world.specs.headline.PlainReport.{Appears, IsCancelled, IsOwn}
use Rattle.sms_world.specs.headline.PlainWords.{numbered}
use Rattle.sms_script.specs.declared.event.Act.TheVariants.{Cancel}
use Rattle.sms_script.specs.declared.report.answers.Answer.{Answer}
use Rattle.sms_script.specs.declared.report.answers.Answered.{Answered}
use Rattle.sms_script.specs.declared.report.answers.Answered.TheVariants.{Status}
use Rattle.smpp_pdu.specs.declared.status.CommandStatus.TheVariants.{ESME_ROK}
use Rattle.sms_script.specs.declared.report.Report.{Report}
use Rattle.sms_script.specs.declared.event.WorldEvent.TheVariants.{Whole}
use Rattle.sms_world.specs.wrong_reports.Tried.{TrueCancelLaw}

abbrev after : ℕ → Report
after = asked_then (Status ESME_ROK) (line (Final Deleted) ∷ [])

appears : Appears after 1 1
appears = record { before = 0; next = refl; new = λ h. absurd h.1.0; there = (line Enroute, (inl refl, refl)) }

own : IsOwn (asking (Cancel name id_one)) after name 1
own = record { number = 1; event = submits; at = refl; asked = asked; does = inl refl; its = refl; appears = appears }

done : IsCancelled (asking (Cancel name id_one)) after 1 name id_one
done = record { line = line Enroute; among = inl refl; named = refl; own = own; pending = refl; deleted = (inl (refl, refl), tt) }

the_words : (a b : List ℕ) → Some (Whole (Cancel name id_one)) ≡ Some (Whole (Cancel a b)) → (name ≡ a) × (id_one ≡ b)
the_words a b e = (cc, cc)

the_answer : (s : Answered) → (i : Among (record { event = 2; answered = s }) (after 2).answers) → s ≡ Status ESME_ROK
the_answer s i = ⊎_elim (λ (e : record { event = 2; answered = s } ≡ answer). absurd (no (ap (λ (z : Answer). z.event) e)))
    (λ (j : Among (record { event = 2; answered = s }) (record { event = 2; answered = Status ESME_ROK } ∷ [])).
    ⊎_elim (λ (e : record { event = 2; answered = s } ≡ record { event = 2; answered = Status ESME_ROK }). ap (λ (z : Answer). z.answered) e) (λ (n : ⊥). absurd n) j) i
  where
    no : ◌≡◌ {A = ℕ} 2 1 → ⊥
    no q = absurd cc

pub has_it : TrueCancelLaw
has_it zero a b e = absurd (no e)
  where
    no : Some submits ≡ Some (Whole (Cancel a b)) → ⊥
    no q = absurd cc
has_it (suc zero) a b e = (
  λ i.
      subst (λ (z : List ℕ). IsCancelled (asking (Cancel name id_one)) after 1 a z) (the_words a b e).1
      (subst (λ (z : List ℕ). IsCancelled (asking (Cancel name id_one)) after 1 z id_one) (the_words a b e).0 done),
  λ s i n. absurd (n (the_answer s i)),
)
has_it (suc (suc n)) a b e = absurd (no n e)
  where
    no : (n : ℕ) → numbered (suc (suc (suc n))) (asking (Cancel name id_one)) ≡ Some (Whole (Cancel a b)) → ⊥
    no n q = absurd cc
