-- Entries that are put into a map: into an empty one they stand as they stood, and beside others they are found before them.
use Rattle.std.proofs.Common.{◌≡◌, ℕ, List, [], ◌∷◌, ◌++◌, append-nil, append_assoc, nat_eq, Option, refl, sym, ◌∙◌, ap, subst}
use Rattle.std.specs.Cmp.{nat_eq_equiv}
use Rattle.std.specs.List.{IsDistinct}
use Rattle.std.specs.Map.{keys_of, lookup, update_all}
use Rattle.std.specs.Option.{option_or}
use Rattle.std.proofs.lemmas.Map.Made.{update_all_distinct}
use Rattle.indexmap.specs.IndexMap.{insert_all, insert_entry}
use Rattle.indexmap.proofs.MapLemmas.{absent_before, absent_from_lookup, insert_entry-absent}

-- what stands under a key once the entries were put in
pub put_beside : {V : Type 0} (f : ℕ → Option V) (es : List (ℕ × V)) (q : ℕ) → IsDistinct nat_eq (keys_of es) → update_all nat_eq f es q ≡ option_or (lookup (nat_eq q) es) (f q)
put_beside f es q d = update_all_distinct nat_eq_equiv nat_eq (λ x y. refl) f es q d

put_all : {V : Type 0} (done es : List (ℕ × V)) → IsDistinct nat_eq (keys_of (done ++ es)) → insert_all nat_eq done es ≡ done ++ es
put_all done [] d = sym (append-nil done)
put_all {V} done (e ∷ es) d =
    let one : insert_entry nat_eq done e.0 e.1 ≡ done ++ e ∷ [] =
    insert_entry-absent nat_eq e.0 e.1 done (absent_from_lookup (nat_eq e.0) done (absent_before nat_eq_equiv done es e d)) in
    let same : (done ++ e ∷ []) ++ es ≡ done ++ e ∷ es = append_assoc done (e ∷ []) es in
    ap (λ (l : List (ℕ × V)). insert_all nat_eq l es) one
    ∙ put_all (done ++ e ∷ []) es (subst (λ (l : List (ℕ × V)). IsDistinct nat_eq (keys_of l)) (sym same) d) ∙ same

pub moved_all : {V : Type 0} (empty es new : List (ℕ × V)) → empty ≡ [] → IsDistinct nat_eq (keys_of es) → new ≡ insert_all nat_eq empty es → new ≡ es
moved_all {V} empty es new e d n = n ∙ ap (λ (l : List (ℕ × V)). insert_all nat_eq l es) e ∙ put_all [] es d
