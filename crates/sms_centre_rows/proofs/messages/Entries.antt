-- Parts without their TPDUs follow the rows of the parts.
use Rattle.std.proofs.Common.{◌≡◌, ℕ, zero, suc, ◌<◌, ◌≤◌, List, [], ◌∷◌, ◌++◌, map, Bool, true, false, Option, Some, None, refl, sym, ◌∙◌, ap, subst, inl, inr, ⊎_elim, eq-eqb, arith}
use Rattle.std.specs.Option.{option_map}
use Rattle.std.specs.Prelude.{◌==◌, ◌&&◌, not}
use Rattle.std.proofs.lemmas.Bool.{cases_eq, ne_eqb, and_parts, and_from}
use Rattle.sms_base.proofs.Bools.{same_bool}
use Rattle.sms_base.specs.Among.{Among}
use Rattle.sms_rows.specs.declared.table.change.Change.TheVariants.{Put as PutRow}
use Rattle.sms_rows.specs.table.Keys.{pair_key}
use Rattle.sms_rows.specs.table.Table.{AllAbove, Rises, put, row_at}
use Rattle.sms_rows.proofs.table.Tables.{all_applied_push, among_found, found_among, found_key, row_at_put, row_at_put_other, row_behind, row_here, rises_put}
use Rattle.sms_centre_rows.specs.declared.messages.part.PartRow.{PartRow}
use Rattle.sms_centre_rows.specs.declared.messages.parts.PartEntry.{PartEntry}
use Rattle.sms_centre_rows.specs.messages.Messages.{all_done, is_undone, part_key, part_reaching}
use Rattle.sms_centre_rows.specs.messages.PartEntries.{Few, PartsOf, Represents, amending, done_to, entry_key, entry_reaching, is_done_entry, part_entry, putting, rows_now}
use Rattle.sms_centre_rows.proofs.messages.PartRows.{part_amended, part_amended_other}
use Rattle.sms_centre_rows.specs.declared.waiting.progress.Progress.{Progress}
use Rattle.sms_centre_rows.specs.declared.waiting.revision.Revision.{Revision}
use Rattle.sms_centre_rows.specs.declared.waiting.revision.Revision.TheVariants.{Put, Amend}
use Rattle.sms_centre_rows.specs.waiting.Revisions.{Revised, amend_in, amended, put_in, rows_of}
use Rattle.sms_centre_rows.proofs.waiting.Alike.{rises_alike}
use Rattle.sms_centre_rows.proofs.waiting.Amending.{rises_amended}

-- ---- entries of rows

pub entry_at : (k : ℕ) (ps : List PartRow) → row_at entry_key k (map part_entry ps) ≡ option_map part_entry (row_at part_key k ps)
entry_at k [] = refl
entry_at k (p ∷ ps) = ⊎_elim
    (λ (e : part_key p ≡ k).
    row_here entry_key k (part_entry p) (map part_entry ps) e ∙ ap (λ (o : Option PartRow). option_map part_entry o) (sym (row_here part_key k p ps e)))
    (λ (e : part_key p ≡ k → ⊥).
    row_behind entry_key k (part_entry p) (map part_entry ps) e ∙ entry_at k ps ∙ ap (λ (o : Option PartRow). option_map part_entry o) (sym (row_behind part_key k p ps e)))
    (cases_eq (part_key p) k)

above_entries : (n : ℕ) (ps : List PartRow) → AllAbove part_key n ps → AllAbove entry_key n (map part_entry ps)
above_entries n [] h = tt
above_entries n (p ∷ ps) h = (h.0, above_entries n ps h.1)

pub rises_entries : (ps : List PartRow) → Rises part_key ps → Rises entry_key (map part_entry ps)
rises_entries [] h = tt
rises_entries (p ∷ ps) h = (above_entries (part_key p) ps h.0, rises_entries ps h.1)

entries_put : (row : PartRow) (ps : List PartRow) → Rises part_key ps → put entry_key (part_entry row) (map part_entry ps) ≡ map part_entry (put part_key row ps)
entries_put row ps rises =
    rises_alike entry_key (put entry_key (part_entry row) (map part_entry ps)) (map part_entry (put part_key row ps))
    (rises_put entry_key (part_entry row) (map part_entry ps) (rises_entries ps rises)) (rises_entries (put part_key row ps) (rises_put part_key row ps rises))
    (λ k. ⊎_elim
    (λ (e : part_key row ≡ k).
    subst (λ (n : ℕ). row_at entry_key n (put entry_key (part_entry row) (map part_entry ps)) ≡ Some (part_entry row)) e (row_at_put entry_key (part_entry row) (map part_entry ps))
    ∙ sym (entry_at k (put part_key row ps)
    ∙ ap (λ (o : Option PartRow). option_map part_entry o) (subst (λ (n : ℕ). row_at part_key n (put part_key row ps) ≡ Some row) e (row_at_put part_key row ps))))
    (λ (e : part_key row ≡ k → ⊥).
    row_at_put_other entry_key k (part_entry row) (map part_entry ps) e ∙ entry_at k ps
    ∙ sym (entry_at k (put part_key row ps) ∙ ap (λ (o : Option PartRow). option_map part_entry o) (row_at_put_other part_key k row ps e)))
    (cases_eq (part_key row) k))

entries_amended : (row : PartRow) (q : Progress) (ps : List PartRow) → Rises part_key ps → row_at part_key (part_key row) ps ≡ Some row
    → put entry_key (entry_reaching q (part_entry row)) (map part_entry ps) ≡ map part_entry (amended part_key part_reaching (part_key row) q ps)
entries_amended row q ps rises there =
    let after : List PartRow = amended part_key part_reaching (part_key row) q ps in
    let entry : PartEntry = entry_reaching q (part_entry row) in
    rises_alike entry_key (put entry_key entry (map part_entry ps)) (map part_entry after)
    (rises_put entry_key entry (map part_entry ps) (rises_entries ps rises)) (rises_entries after (rises_amended part_key part_reaching (λ x y. refl) (part_key row) q ps rises))
    (λ k. ⊎_elim
    (λ (e : part_key row ≡ k).
    subst (λ (n : ℕ). row_at entry_key n (put entry_key entry (map part_entry ps)) ≡ Some entry) e (row_at_put entry_key entry (map part_entry ps))
    ∙ sym (entry_at k after
    ∙ ap (λ (o : Option PartRow). option_map part_entry o) (subst (λ (n : ℕ). row_at part_key n after ≡ Some (part_reaching q row)) e (part_amended row q ps there))))
    (λ (e : part_key row ≡ k → ⊥).
    row_at_put_other entry_key k entry (map part_entry ps) e ∙ entry_at k ps
    ∙ sym (entry_at k after ∙ ap (λ (o : Option PartRow). option_map part_entry o) (part_amended_other row q ps k e)))
    (cases_eq (part_key row) k))

-- ---- moves

pub putting_decides : (p : PartsOf) (t : Revised PartRow) (row : PartRow) → Rises part_key (rows_of part_key part_reaching t) → Represents p t → Represents (putting row p) (put_in row t)
putting_decides p t row rises tells = record {
  entries = all_applied_push entry_key p.entries.changes (PutRow (part_entry row)) p.entries.base.rows
      ∙ ap (λ (es : List PartEntry). put entry_key (part_entry row) es) tells.entries ∙ entries_put row (rows_of part_key part_reaching t) rises;
  changes = ap (λ (cs : List (Revision PartRow)). cs ++ Put row ∷ []) tells.changes;
}

pub amending_decides : (p : PartsOf) (t : Revised PartRow) (row : PartRow) (q : Progress) → Rises part_key (rows_of part_key part_reaching t)
    → row_at part_key (part_key row) (rows_of part_key part_reaching t) ≡ Some row → Represents p t → Represents (amending (part_entry row) q p) (amend_in (part_key row) q t)
amending_decides p t row q rises there tells = record {
  entries = all_applied_push entry_key p.entries.changes (PutRow (entry_reaching q (part_entry row))) p.entries.base.rows
      ∙ ap (λ (es : List PartEntry). put entry_key (entry_reaching q (part_entry row)) es) tells.entries ∙ entries_amended row q (rows_of part_key part_reaching t) rises there;
  changes = ap (λ (cs : List (Revision PartRow)). cs ++ Amend (part_key row) q ∷ []) tells.changes;
}

pub found_decides : (p : PartsOf) (t : Revised PartRow) (k : ℕ) → Represents p t → row_at entry_key k (rows_now p) ≡ option_map part_entry (row_at part_key k (rows_of part_key part_reaching t))
found_decides p t k tells = ap (λ (es : List PartEntry). row_at entry_key k es) tells.entries ∙ entry_at k (rows_of part_key part_reaching t)

-- ---- what is done

-- each one is done
done_each : (id n k : ℕ) (es : List PartEntry) → done_to id n es ≡ true → 0 < k → k ≤ n → is_done_entry (row_at entry_key (pair_key id k) es) ≡ true
unfolding done_to
done_each id zero k es e some l = absurd (omega arith)
done_each id (suc n) k es e some l = ⊎_elim
    (λ (q : k ≡ suc n). ap (λ (i : ℕ). is_done_entry (row_at entry_key (pair_key id i) es)) q ∙ (and_parts (is_done_entry (row_at entry_key (pair_key id (suc n)) es)) (done_to id n es) e).0)
    (λ (q : k ≡ suc n → ⊥). done_each id n k es (and_parts (is_done_entry (row_at entry_key (pair_key id (suc n)) es)) (done_to id n es) e).1 some (omega (arith, q)))
    (cases_eq k (suc n))

each_done : (id n : ℕ) (es : List PartEntry) → ((k : ℕ) → 0 < k → k ≤ n → is_done_entry (row_at entry_key (pair_key id k) es) ≡ true) → done_to id n es ≡ true
unfolding done_to
each_done id zero es f = refl
each_done id (suc n) es f =
    and_from (is_done_entry (row_at entry_key (pair_key id (suc n)) es)) (done_to id n es) (f (suc n) (omega arith) (omega arith)) (each_done id n es (λ k some l. f k some (omega arith)))

-- all of a list, by its members
pub all_from : (id : ℕ) (ps : List PartRow) → ((p : PartRow) → Among p ps → p.id ≡ id → p.progress.is_done ≡ true) → all_done id ps ≡ true
all_from id [] f = refl
all_from id (p ∷ ps) f = and_from (not (is_undone id p)) (all_done id ps) (first p (f p (inl refl))) (all_from id ps (λ q m. f q (inr m))) where
  first : (p : PartRow) → (p.id ≡ id → p.progress.is_done ≡ true) → not (is_undone id p) ≡ true
  first p g = ⊎_elim
      (λ (e : p.id ≡ id). ap (λ (b : Bool). not ((p.id == id) && not b)) (g e) ∙ ap (λ (b : Bool). not (b && false)) (eq-eqb p.id id e))
      (λ (e : p.id ≡ id → ⊥). ap (λ (b : Bool). not (b && not p.progress.is_done)) (ne_eqb p.id id e))
      (cases_eq p.id id)

pub member_done : (id : ℕ) (p : PartRow) (ps : List PartRow) → all_done id ps ≡ true → Among p ps → p.id ≡ id → p.progress.is_done ≡ true
member_done id p [] e m same = elim m [ ]
member_done id p (x ∷ xs) e m same =
    let parts = and_parts (not (is_undone id x)) (all_done id xs) e in
    ⊎_elim
    (λ (f : p ≡ x). done_of p.progress.is_done (ap (λ (b : Bool). not (b && not p.progress.is_done)) (sym (eq-eqb p.id id same)) ∙ ap (λ (y : PartRow). not (is_undone id y)) f ∙ parts.0))
    (λ (r : Among p xs). member_done id p xs parts.1 r same)
    m
  where
    done_of : (b : Bool) → not (true && not b) ≡ true → b ≡ true
    done_of true e = refl
    done_of false e = absurd cc

pub done_alike : (id : ℕ) (ps : List PartRow) → Few ps → done_to id 20 (map part_entry ps) ≡ all_done id ps
done_alike id ps few = same_bool (done_to id 20 (map part_entry ps)) (all_done id ps)
    (λ e. all_from id ps (λ p m same.
    let n = few.numbers p m in
    let there : row_at part_key (pair_key id p.number) ps ≡ Some p = ap (λ (k : ℕ). row_at part_key (pair_key k p.number) ps) (sym same) ∙ among_found part_key p ps few.keys m in
    let entry : row_at entry_key (pair_key id p.number) (map part_entry ps) ≡ Some (part_entry p) = entry_at (pair_key id p.number) ps ∙ ap (λ (o : Option PartRow). option_map part_entry o) there in
    sym (ap (λ (o : Option PartEntry). is_done_entry o) entry) ∙ done_each id 20 p.number (map part_entry ps) e n.0 n.1))
    (λ e. each_done id 20 (map part_entry ps) (λ k some l. ap (λ (o : Option PartEntry). is_done_entry o) (entry_at (pair_key id k) ps) ∙ by k l e (row_at part_key (pair_key id k) ps) refl))
  where
    by : (k : ℕ) → k ≤ 20 → all_done id ps ≡ true → (o : Option PartRow) → row_at part_key (pair_key id k) ps ≡ o → is_done_entry (option_map part_entry o) ≡ true
    by k l e None f = refl
    by k l e (Some p) f =
        let m = found_among part_key (pair_key id k) p ps f in
        let key : pair_key p.id p.number ≡ pair_key id k = found_key part_key (pair_key id k) p ps f in
        let n = few.numbers p m in
        member_done id p ps e m (omega (arith, key, l, n.1))
