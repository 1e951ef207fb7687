-- Numbers and places that come next are new, and rows that are so far are those that stood there.
use Rattle.std.proofs.Common.{◌≡◌, ℕ, ◌+◌, ◌<◌, List, [], ◌∷◌, Option, Some, None, refl, sym, subst, inl, inr, ⊎_elim, arith}
use Rattle.std.specs.Prelude.{◌==◌, ◌⊎◌, if◌then◌else◌}
use Rattle.std.proofs.lemmas.Bool.{cond_both, eqb-true}
use Rattle.sms_base.specs.Among.{Among}
use Rattle.sms_rows.specs.table.Keys.{pair_key}
use Rattle.sms_rows.specs.table.Table.{AllAbove, Rises}
use Rattle.sms_rows.proofs.table.Tables.{found_among, found_key}
use Rattle.sms_centre_rows.specs.declared.messages.message.MessageRow.{MessageRow}
use Rattle.sms_centre_rows.specs.declared.messages.part.PartRow.{PartRow}
use Rattle.sms_centre_rows.specs.messages.Messages.{id_after, message_key, part_at, part_key}
use Rattle.sms_centre_rows.specs.messages.OpenParts.{Numbered}
use Rattle.sms_centre_rows.specs.declared.reports.report.ReportRow.{ReportRow}
use Rattle.sms_centre_rows.specs.reports.Reports.{place_after, report_key, report_of}
use Rattle.sms_centre_rows.proofs.reports.AllWaiting.{report_found}
use Rattle.sms_centre_rows.specs.declared.waiting.progress.Progress.{Progress}
use Rattle.sms_centre_rows.specs.waiting.Revisions.{amended}
use Rattle.sms_centre_spec.specs.declared.rows.Rows.{Rows}
use Rattle.sms_centre_spec.specs.MessageNumbers.{next_number}

-- ---- the next number of a message

above_id : (n : ℕ) (ms : List MessageRow) → AllAbove message_key n ms → Rises message_key ms → n < id_after (n + 1) ms
above_id n [] above rises = omega arith
above_id n (m ∷ ms) above rises = let l = above_id m.id ms rises.0 rises.1 in omega (arith, l, above.0)

pub below_next_id : (n : ℕ) (x : MessageRow) (ms : List MessageRow) → Rises message_key ms → Among x ms → x.id < id_after n ms
below_next_id n x [] rises among = absurd among
below_next_id n x (m ∷ ms) rises among = ⊎_elim
    (λ (e : x ≡ m). subst (λ (y : MessageRow). y.id < id_after (m.id + 1) ms) (sym e) (above_id m.id ms rises.0 rises.1))
    (λ (a : Among x ms). below_next_id (m.id + 1) x ms rises.1 a)
    among

pub some_next_id : (n : ℕ) (ms : List MessageRow) → Rises message_key ms → 0 < n → 0 < id_after n ms
some_next_id n [] rises some = some
some_next_id n (m ∷ ms) rises some = some_next_id (m.id + 1) ms rises.1 (omega arith)

pub below_next_number : (rows : Rows) (x : MessageRow) → Rises message_key rows.messages → Among x rows.messages → x.id < next_number rows
below_next_number rows x rises among = let low = below_next_id 1 x rows.messages rises among in omega (arith, low)

pub some_next_number : (rows : Rows) → Rises message_key rows.messages → 0 < next_number rows
some_next_number rows rises = let some = some_next_id 1 rows.messages rises (omega arith) in omega (arith, some)

-- what has no message has no part either
pub no_part : (id n : ℕ) (ps : List PartRow) → Numbered ps → ((p : PartRow) → Among p ps → p.id < id) → part_at id n ps ≡ None
no_part id n ps numbered below = none (part_at id n ps) refl
  where
    none : (o : Option PartRow) → part_at id n ps ≡ o → part_at id n ps ≡ None
    none None e = e
    none (Some p) e =
        let among = found_among part_key (pair_key id n) p ps e in
        let own = found_key part_key (pair_key id n) p ps e in
        let small = (numbered.numbers p among).1 in
        let low = below p among in
        absurd (omega (arith, own, small, low))

pub no_report : (id : ℕ) (rs : List ReportRow) → ((r : ReportRow) → Among r rs → ¬ (r.id ≡ id)) → report_of id rs ≡ None
no_report id rs other = none (report_of id rs) refl
  where
    none : (o : Option ReportRow) → report_of id rs ≡ o → report_of id rs ≡ None
    none None e = e
    none (Some r) e = let at = report_found id r rs e in absurd (other r at.0 at.1)

-- ---- the next place of a report

above_place : (n : ℕ) (rs : List ReportRow) → AllAbove report_key n rs → Rises report_key rs → n < place_after (n + 1) rs
above_place n [] above rises = omega arith
above_place n (r ∷ rs) above rises = let l = above_place r.place rs rises.0 rises.1 in omega (arith, l, above.0)

pub below_next_place : (n : ℕ) (x : ReportRow) (rs : List ReportRow) → Rises report_key rs → Among x rs → x.place < place_after n rs
below_next_place n x [] rises among = absurd among
below_next_place n x (r ∷ rs) rises among = ⊎_elim
    (λ (e : x ≡ r). subst (λ (y : ReportRow). y.place < place_after (r.place + 1) rs) (sym e) (above_place r.place rs rises.0 rises.1))
    (λ (a : Among x rs). below_next_place (r.place + 1) x rs rises.1 a)
    among

pub some_next_place : (n : ℕ) (rs : List ReportRow) → 0 < n → 0 < place_after n rs
some_next_place n [] some = some
some_next_place n (r ∷ rs) some = some_next_place (r.place + 1) rs (omega arith)

-- ---- rows, one of which is so far

pub among_amended : {A : Type 0} (key : A → ℕ) (reaching : Progress → A → A) (n : ℕ) (q : Progress) (x : A) (xs : List A) → Among x (amended key reaching n q xs)
    → (y : A) × (Among y xs × ((x ≡ y) ⊎ ((key y ≡ n) × (x ≡ reaching q y))))
among_amended key reaching n q x [] among = absurd among
among_amended {A = A} key reaching n q x (y ∷ ys) among = ⊎_elim
    (λ (e : x ≡ (if key y == n then reaching q y else y)).
    let is : (x ≡ y) ⊎ ((key y ≡ n) × (x ≡ reaching q y)) = cond_both (key y == n) (reaching q y) y (λ z. x ≡ z → (x ≡ y) ⊎ ((key y ≡ n) × (x ≡ reaching q y)))
    (λ t f. inr (eqb-true (key y) n t, f)) (λ t f. inl f) e in
    let found : (z : A) × (Among z (y ∷ ys) × ((x ≡ z) ⊎ ((key z ≡ n) × (x ≡ reaching q z)))) = (y, (inl refl, is)) in found)
    (λ (a : Among x (amended key reaching n q ys)).
    let g = among_amended key reaching n q x ys a in
    let found : (z : A) × (Among z (y ∷ ys) × ((x ≡ z) ⊎ ((key z ≡ n) × (x ≡ reaching q z)))) = (g.0, (inr g.1.0, g.1.1)) in found)
    among
