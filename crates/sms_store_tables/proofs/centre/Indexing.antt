-- What a text that makes an index does.
use Rattle.std.proofs.Common.{◌≡◌, ℕ, List, [], None, Some, Ok, slice_get, sym, ap, subst, ◌∙◌}
use Rattle.sqlite.specs.Schema.{Schema}
use Rattle.sqlite.specs.Table.{Table}
use Rattle.sqlite_schema.specs.declared.schema.Index.{Index}
use Rattle.sqlite_schema.specs.declared.command.Command.TheVariants.{CreateIndex}
use Rattle.sqlite.specs.Change.{indexed, KeepsRows}
use Rattle.sqlite.specs.Does.{Tally}
use Rattle.sqlite.specs.Effect.{Database}
use Rattle.sqlite.specs.State.{State, Writes}
use Rattle.sqlite.proofs.Callers.{runs_as}
use Rattle.sms_store_sql.specs.listing.Inside.{Ran}
use Rattle.sms_store_tables.specs.centre.Indexing.{AddsIndex, Indexes}
use Rattle.sms_store_sql.proofs.listing.Statements.{same_value, went}

pub indexes : (text : List ℕ) (place : ℕ) (table : Table) (index : Index) (before after : Schema) → AddsIndex text place table index before after → (old new : State) → Ran text [] old new → old.now.schema ≡ before → Indexes before after old.now new.now
indexes text place table index before after adds old new h has =
    let w = subst (λ t. Writes old new None (CreateIndex place) t [] h.count) adds.whole (runs_as text [] old new before has (CreateIndex place) adds.creates adds.alone h.count h.ran) in
    let placed : slice_get old.now.schema.tables place ≡ Some table = ap (λ (s : Schema). slice_get s.tables place) has ∙ adds.there in
    let all = went (rw placed at w.changed) in
    let made = all.1 in
    let both : Ok made.index ≡ Ok index = sym made.defined ∙ adds.defines in
    let same : made.index ≡ index = cc in
    let schema : all.0.schema ≡ after = made.is ∙ ap (λ s. indexed s table made.index) has ∙ ap (indexed before table) same ∙ adds.indexed_is in
    let now : new.now ≡ all.0 = ap (λ (p : Tally × Database). p.1) (same_value all.2) in
    record {
      schema = ap (λ (d : Database). d.schema) now ∙ schema;
      rows = subst (λ (d : Database). KeepsRows before.tables old.now.trees d.trees) (sym now) (subst (λ (s : Schema). KeepsRows s.tables old.now.trees all.0.trees) has made.rows);
    }
