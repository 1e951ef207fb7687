-- What the statements of a migration make of a store of version 1.
use Rattle.std.proofs.Common.{◌≡◌, ℕ, ◌<◌, ℤ, pos, true, None, drop, List, [], ◌∷◌, ◌++◌, map, Ok, refl, sym, ap, ap₂, subst, ◌∙◌, arith, IsPermutation, append-nil}
use Rattle.std.specs.List.{AllByRecursion}
use Rattle.std.proofs.lemmas.List.Sorted.{IsPermutation-map, IsPermutation-trans, IsPermutation-sym}
use Rattle.sqlite.specs.declared.types.Value.TheVariants.{Null, Int}
use Rattle.sqlite.specs.Collation.TheVariants.{Binary}
use Rattle.sqlite.specs.Order.{Row}
use Rattle.sqlite.specs.Tree.{Trees}
use Rattle.sqlite.specs.Term.{lit, col}
use Rattle.sqlite.specs.Query.{IsAnswer, Query, output, Output}
use Rattle.sqlite.specs.Source.TheVariants.{Query as Selected}
use Rattle.sqlite.specs.Command.TheVariants.{Insert}
use Rattle.sqlite.specs.Program.{overlay}
use Rattle.sqlite_rules.specs.Cast.{cast_row}
use Rattle.sqlite_rules.specs.Edit.{edit_of, numbered, put_all, taken_by, next_rowid}
use Rattle.sqlite.specs.Rowids.TheVariants.{Chosen}
use Rattle.sqlite.specs.Does.{Tally, Does}
use Rattle.sqlite.specs.Rows.{Written}
use Rattle.sqlite.specs.Effect.{Database}
use Rattle.sqlite.specs.Listing.{understood}
use Rattle.sqlite.specs.State.{State, mode_of}
use Rattle.sqlite_sql.specs.Term.{eval_all}
use Rattle.sqlite.proofs.Callers.{IsPlain, command_of, runs_as, statement_of, one_step}
use Rattle.sqlite_tied.specs.Compute.{everything}
use Rattle.sqlite_trees.specs.Tree.{put_row}
use Rattle.sqlite_typed.proofs.AnswerLemmas.{last_table, at_end, matches_are}
use Rattle.sqlite_typed.proofs.RowLemmas.{puts-map}
use Rattle.sqlite_keyed.specs.Keyed.{IsKeyedBy, next_key}
use Rattle.sqlite_keyed.proofs.ListLemmas.{map-map, filter_all, all_of, all_map}
use Rattle.sqlite_keyed.proofs.KeyedLemmas.{IsKeyedBy-insert_by}
use Rattle.sms_store_sql.specs.listing.Listing.{rows_where, ListOf, IsList, Represents, table_of, with_rowid}
use Rattle.sms_store_sql.specs.listing.Inside.{Ran}
use Rattle.sms_store_sql.proofs.listing.Found.{all_permuted, mapped_back}
use Rattle.sms_store_sql.proofs.listing.Trees.{insert_last, below_next, next_from}
use Rattle.sms_store_sql.proofs.listing.Statements.{same_value, went}
use Rattle.sms_rows.specs.table.Table.{Rises}
use Rattle.sms_store_tables.specs.centre.CentreSchema.{centre_schema}
use Rattle.sms_store_tables.specs.centre.MessageList.{message_list, message_is_list}
use Rattle.sms_store_tables.specs.centre.PriorityList.{priority_list, priority_is_list}
use Rattle.sms_store_migration.specs.Migrating.{Ranks, lowest}
use Rattle.sms_store_migration.specs.Types.{MessageRow, PriorityRow}

-- ---- many rows come under rowids of their own

module _ {X : Type 0} (l : ListOf X) (is : IsList l) where
  abbrev id : ℤ × X → ℤ
  id e = e.0

  abbrev value : ℤ × X → X
  value e = e.1

  abbrev wr : ℤ × X → Row
  wr = with_rowid l.columns

  -- the rows as they come, without rowids
  abbrev pub coming : List X → List Row
  coming xs = map (λ x. Null ∷ l.columns x) xs

  pub record Fills (rows : List Row) (values : List X) : Type 0 where
    pub entries : List (ℤ × X)
    pub keyed : IsKeyedBy id entries
    pub stored : rows ≡ map wr entries
    pub values_are : map value entries ≡ values

  one_more : (rows : List Row) (values : List X) (x : X) → Fills rows values → Fills (put_row (Int (next_rowid rows) ∷ l.columns x) rows) (values ++ x ∷ [])
  one_more rows values x f =
      let new : ℤ × X = (next_key id f.entries, x) in
      let next : next_rowid rows ≡ next_key id f.entries = ap next_rowid f.stored ∙ next_from l.columns f.entries (pos 1) in
      let last = insert_last f.entries new (below_next f.entries f.keyed) in
      record {
        entries = f.entries ++ new ∷ [];
        keyed = subst (IsKeyedBy id) last (IsKeyedBy-insert_by id f.entries new f.keyed);
        stored = ap (λ n. put_row (Int n ∷ l.columns x) rows) next ∙ ap (put_row (wr new)) f.stored ∙ puts-map id wr (λ e. refl) (new ∷ []) f.entries ∙ ap (map wr) last;
        values_are = map_end f.entries new ∙ ap (λ vs. vs ++ x ∷ []) f.values_are;
      }
    where
      map_end : (es : List (ℤ × X)) (e : ℤ × X) → map value (es ++ e ∷ []) ≡ map value es ++ value e ∷ []
      map_end [] e = refl
      map_end (d ∷ es) e = ap (λ vs. value d ∷ vs) (map_end es e)

  pub fills : (xs : List X) (rows : List Row) (values : List X) → Fills rows values → Fills (put_all rows (numbered Chosen rows (coming xs))) (values ++ xs)
  fills [] rows values f = subst (Fills rows) (sym (append-nil values)) f
  fills (x ∷ xs) rows values f = subst (Fills (put_all rows (numbered Chosen rows (coming (x ∷ xs))))) (assoc values) (fills xs _ (values ++ x ∷ []) (one_more rows values x f))
    where
      assoc : (vs : List X) → (vs ++ x ∷ []) ++ xs ≡ vs ++ x ∷ xs
      assoc [] = refl
      assoc (v ∷ vs) = ap (λ us. v ∷ us) (assoc vs)

-- ---- the text

abbrev rank_text : List ℕ
rank_text = Rattle.std.specs.Prelude.codes "INSERT INTO priority (message, priority) SELECT id, 0 FROM message"

abbrev ranking : Query
ranking = record (rows_where 2 [] (lit Null ∷ col 1 1 ∷ lit (Int (pos 0)) ∷ [])) { collations = Binary ∷ Binary ∷ Binary ∷ [] }

inserting : (command_of (understood centre_schema rank_text) ≡ Insert 6 (Selected (record { lets = []; body = ranking }))) × IsPlain (understood centre_schema rank_text)
unfolding understood everything
inserting = (refl, (refl, refl))

rises_lowest : (ms : List MessageRow) → Rises message_list.key ms → Rises priority_list.key (map lowest ms)
rises_lowest [] h = tt
rises_lowest (m ∷ ms) h = (all_map (λ (p : PriorityRow). m.id < p.id) lowest ms h.0, rises_lowest ms h.1)

fits_lowest : (ms : List MessageRow) → AllByRecursion message_list.Fits ms → AllByRecursion priority_list.Fits (map lowest ms)
fits_lowest [] h = tt
fits_lowest (m ∷ ms) h = (record { id = h.0.id; priority = omega arith }, fits_lowest ms h.1)

as_they_are : (ps : List PriorityRow) → map (λ s. cast_row (table_of priority_list.table) (drop 0 s)) (coming priority_list priority_is_list ps) ≡ coming priority_list priority_is_list ps
as_they_are [] = refl
as_they_are (p ∷ ps) = ap₂ (λ r rs. r ∷ rs) (priority_is_list.stays p) (as_they_are ps)

-- what the query of the text gives
selected : (db : Trees) (messages : List MessageRow) → Represents message_list (db 2) messages → (rows : List Row) → IsAnswer ranking (overlay db []) [] rows
    → (ps : List PriorityRow) × (rows ≡ coming priority_list priority_is_list ps) × IsPermutation ps (map lowest messages)
selected db messages held rows a =
    let source = last_table (overlay db []) 2 (with_rowid message_list.columns) (λ (e : ℤ × MessageRow). e.0) held.entries (message_is_list.own_tree db ∙ held.stored) held.keyed (at_end (overlay db [])) in
    let env = λ (e : ℤ × MessageRow). [] ∷ with_rowid message_list.columns e ∷ [] in
    let out = λ (e : ℤ × MessageRow). output ranking (env e) in
    let of = λ (e : ℤ × MessageRow). lowest e.1 in
    let everyone = filter_all (λ (e : ℤ × MessageRow). true) held.entries (all_of _ (λ _. refl) held.entries) in
    let staged : a.staged ≡ map env held.entries = a.grouped ∙ matches_are ranking (overlay db []) [] source (λ _. true) (λ _. refl) ∙ ap (map env) everyone in
    let kept : a.kept ≡ map out held.entries = a.distinct ∙ ap (map (output ranking)) staged ∙ map-map (output ranking) env held.entries in
    let back = mapped_back out a.kept a.ordered a.same held.entries kept in
    let mine : IsPermutation (map of held.entries) (map of back.0) = IsPermutation-map of _ _ back.2 in
    let whole : IsPermutation (map of held.entries) (map lowest messages) =
    subst (λ ps. IsPermutation ps (map lowest messages)) (map-map lowest (λ (e : ℤ × MessageRow). e.1) held.entries) (IsPermutation-map lowest _ _ held.listed) in (
      map of back.0,
      a.shown ∙ ap (map (λ (o : Output). o.1)) back.1 ∙ map-map _ out back.0 ∙ each back.0,
      IsPermutation-trans _ _ _ (IsPermutation-sym _ _ mine) whole,
    )
  where
    each : (es : List (ℤ × MessageRow)) → map (λ (e : ℤ × MessageRow). eval_all (lit Null ∷ col 1 1 ∷ lit (Int (pos 0)) ∷ []) ([] ∷ with_rowid message_list.columns e ∷ [])) es ≡ coming priority_list priority_is_list (map (λ (e : ℤ × MessageRow). lowest e.1) es)
    each [] = refl
    each (e ∷ es) = ap (λ rs. (Null ∷ Int (pos e.1.id) ∷ Int (pos 0) ∷ []) ∷ rs) (each es)

no_rows : (rows : List Row) → rows ≡ [] → Fills priority_list priority_is_list rows []
no_rows rows none = record { entries = []; keyed = tt; stored = none; values_are = refl }

pub ranks : (old new : State) → Ran rank_text [] old new → Ranks old.now new.now
ranks old new h has none messages held =
    let t = priority_list.table in
    let db = old.now.trees in
    let keys = (mode_of old).keys in
    let command = Insert 6 (Selected (record { lets = []; body = ranking })) in
    let w = runs_as rank_text [] old new centre_schema has command inserting.0 inserting.1 h.count h.ran in
    let text = statement_of rank_text (understood centre_schema rank_text) in
    let raw = subst (λ k. Does old.step_limit (mode_of old) [] (record old.now { schema = k }) text None command (Ok (w.tally, new.now))) has w.changed in
    let all = went raw in
    let now = ap (λ (p : Tally × Database). p.1) (same_value (went (went all.2).2).2) in
    let given = went all.1 in
    let written = went (went given.2).2 in
    let counted = went written.2 in
    let trees : all.0.trees ≡ written.0 = ap (λ (it : Written). it.trees) (same_value counted.2) ∙ same_value counted.1 in
    let edit = edit_of db (table_of t) [] Chosen 0 given.0 in
    let step = one_step centre_schema keys db written.0 edit (priority_is_list.free keys (taken_by db edit) edit.news) written.1 in
    let whole : new.now.trees ≡ written.0 = ap (λ (d : Database). d.trees) now ∙ trees in
    let found = selected db messages held given.0 (given.1.answer Null) in
    let made = λ (rows : List Row). put_all (db 12) (numbered Chosen (db 12) rows) in
    let sources = ap (map (λ s. cast_row (table_of priority_list.table) (drop 0 s))) found.1 ∙ as_they_are found.0 in
    let full = fills priority_list priority_is_list found.0 (db 12) [] (no_rows (db 12) none) in
    let rows : new.now.trees 12 ≡ made (coming priority_list priority_is_list found.0) = ap (λ (a : Trees). a 12) whole ∙ step.rows ∙ ap made sources in
    record {
      schema = ap (λ (d : Database). d.schema) now;
      priorities = record {
        entries = full.entries;
        keyed = full.keyed;
        stored = rows ∙ full.stored;
        listed = subst (λ ps. IsPermutation ps (map lowest messages)) (sym full.values_are) found.2;
        rises = rises_lowest messages held.rises;
        fit = subst (AllByRecursion priority_list.Fits) (sym full.values_are)
            (all_permuted priority_list.Fits (map lowest messages) found.0 (IsPermutation-sym _ _ found.2) (fits_lowest messages (all_permuted message_list.Fits _ _ held.listed held.fit)));
      };
      others = λ tree other free. ap (λ (a : Trees). a tree) whole ∙ step.others tree other free;
    }
