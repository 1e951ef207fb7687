use Rattle.std.proofs.Common.{◌≡◌, ℕ, zero, suc, List, [], ◌∷◌, refl, ap, subst, inl, ⊎_elim, Some}
use Rattle.sms_base.specs.Among.{Among}
use Rattle.sms_centre_rows.specs.declared.report_lines.MessageState.{MessageState}
use Rattle.sms_centre_rows.specs.declared.report_lines.MessageState.TheVariants.{Enroute}
use Rattle.sms_world.specs.wrong_reports.Literals.{name, id_one, line, asking, asked, asked_then, submits, answer}
use Rattle.sms_world.specs.headline.PlainReport.{Appears, IsFoundTruly, IsOwn}
use Rattle.sms_world.specs.headline.PlainWords.{numbered}
use Rattle.sms_script.specs.declared.event.Act.TheVariants.{Query}
use Rattle.sms_script.specs.declared.report.answers.Answer.{Answer}
use Rattle.sms_script.specs.declared.report.answers.Answered.TheVariants.{Found}
use Rattle.sms_script.specs.declared.report.Report.{Report}
use Rattle.sms_script.specs.declared.event.WorldEvent.TheVariants.{Whole}
use Rattle.sms_world.specs.wrong_reports.Tried.{TrueQueryLaw}

abbrev after : ℕ → Report
after = asked_then (Found Enroute) (line Enroute ∷ [])

appears : Appears after 1 1
appears = record { before = 0; next = refl; new = λ h. absurd h.1.0; there = (line Enroute, (inl refl, refl)) }

own : IsOwn (asking (Query name id_one)) after name 1
own = record { number = 1; event = submits; at = refl; asked = asked; does = inl refl; its = refl; appears = appears }

found : IsFoundTruly (asking (Query name id_one)) after 1 name id_one Enroute
found = record { line = line Enroute; among = inl refl; named = refl; own = own; state = refl; same = refl }

-- its words are those of the second event
the_words : (a b : List ℕ) → Some (Whole (Query name id_one)) ≡ Some (Whole (Query a b)) → (name ≡ a) × (id_one ≡ b)
the_words a b e = (cc, cc)

the_state : (s : MessageState) → (i : Among (record { event = 2; answered = Found s }) (after 2).answers) → Enroute ≡ s
the_state s i = ⊎_elim (λ (e : record { event = 2; answered = Found s } ≡ answer). absurd (no (ap (λ (z : Answer). z.event) e)))
    (λ (j : Among (record { event = 2; answered = Found s }) (record { event = 2; answered = Found Enroute } ∷ [])).
    ⊎_elim (λ (e : record { event = 2; answered = Found s } ≡ record { event = 2; answered = Found Enroute }). same (ap (λ (z : Answer). z.answered) e)) (λ (n : ⊥). absurd n) j) i
  where
    no : ◌≡◌ {A = ℕ} 2 1 → ⊥
    no q = absurd cc

    same : Found s ≡ Found Enroute → Enroute ≡ s
    same q = cc

pub has_it : TrueQueryLaw
has_it zero a b s e i = absurd (no e)
  where
    no : Some submits ≡ Some (Whole (Query a b)) → ⊥
    no q = absurd cc
has_it (suc zero) a b s e i =
    subst (λ (z : MessageState). IsFoundTruly (asking (Query name id_one)) after 1 a b z) (the_state s i)
    (subst (λ (z : List ℕ). IsFoundTruly (asking (Query name id_one)) after 1 a z Enroute) (the_words a b e).1
    (subst (λ (z : List ℕ). IsFoundTruly (asking (Query name id_one)) after 1 z id_one Enroute) (the_words a b e).0 found))
has_it (suc (suc n)) a b s e i = absurd (no n e)
  where
    no : (n : ℕ) → numbered (suc (suc (suc n))) (asking (Query name id_one)) ≡ Some (Whole (Query a b)) → ⊥
    no n q = absurd cc
