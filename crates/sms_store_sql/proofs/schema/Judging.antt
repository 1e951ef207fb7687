-- A schema that is judged by what is planned.
use Rattle.std.proofs.Common.{◌≡◌, ◌≢◌, ℕ, zero, suc, List, [], ◌∷◌, Bool, IsTrue, true, false, map, take, refl, sym, ap, ◌∙◌}
use Rattle.sqlite.specs.Schema.{Schema}
use Rattle.sqlite.specs.Table.{Table}
use Rattle.sqlite_schema.specs.declared.schema.Index.{Index}
use Rattle.sms_store_sql.specs.declared.schema.indexes.IndexPlan.{IndexPlan}
use Rattle.sms_store_sql.specs.declared.schema.tables.StoredTable.{StoredTable}
use Rattle.sms_store_sql.specs.schema.StoredTable.{index_planned, schema_planned, table_planned}

-- what is not as it is planned is not what is wanted
pub not_wanted : (result : Bool) (schema wanted planned : Schema) → wanted ≡ planned → (schema ≡ planned → IsTrue result) → result ≡ false → schema ≢ wanted
not_wanted result schema wanted planned same always off is =
    let on = always (is ∙ same) in
    absurd (let e : true ≡ false = sym on ∙ off in cc)

pub map_take : {A B : Type 0} (f : A → B) (n : ℕ) (xs : List A) → map f (take n xs) ≡ take n (map f xs)
map_take f zero xs = refl
map_take f (suc n) [] = refl
map_take f (suc n) (x ∷ xs) = ap (λ rest. f x ∷ rest) (map_take f n xs)

-- so many of the planned tables and indexes are so many of those that they are
pub first_planned : (t i : ℕ) (plans : List StoredTable) (others : List IndexPlan) (tables : List Table) (indexes : List Index)
    → map table_planned plans ≡ tables → map index_planned others ≡ indexes
    → schema_planned (take t plans) (take i others) ≡ record { tables = take t tables; indexes = take i indexes; views = [] }
first_planned t i plans others tables indexes same alike =
    let all = map_take table_planned t plans ∙ ap (take t) same in
    let all_indexes = map_take index_planned i others ∙ ap (take i) alike in
    λ at. record { tables = all at; indexes = all_indexes at; views = [] }
