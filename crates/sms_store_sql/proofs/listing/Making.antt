-- What a text that makes a table does.
use Rattle.std.proofs.Common.{◌≡◌, ℕ, List, [], None, Ok, false, sym, ap, subst, ◌∙◌}
use Rattle.sqlite.specs.Schema.{Schema}
use Rattle.sqlite.specs.Table.{Table}
use Rattle.sqlite.specs.Command.TheVariants.{CreateTable}
use Rattle.sqlite.specs.Change.{created, next_tree, KeepsRows}
use Rattle.sqlite.specs.Does.{Tally, lacks_sequence}
use Rattle.sqlite.specs.Effect.{Database}
use Rattle.sqlite.specs.State.{State, Writes}
use Rattle.sqlite.proofs.Callers.{runs_as}
use Rattle.sms_store_sql.specs.listing.Inside.{Ran}
use Rattle.sms_store_sql.specs.listing.Making.{Adds, Makes}
use Rattle.sms_store_sql.proofs.listing.Statements.{same_value, went}

pub makes : (text : List ℕ) (table : Table) (before after : Schema) → Adds text table before after → (old new : State) → Ran text [] old new → old.now.schema ≡ before → Makes before after old.now new.now
makes text table before after adds old new h has =
    let w = subst (λ t. Writes old new None CreateTable t [] h.count) adds.whole (runs_as text [] old new before has CreateTable adds.creates adds.alone h.count h.ran) in
    let all = went w.changed in
    let first = went all.1 in
    let made = first.1 in
    let both : Ok made.table ≡ Ok table = sym made.defined ∙ adds.defines in
    let same : made.table ≡ table = cc in
    let schema : first.0.schema ≡ after = made.is ∙ ap (λ s. created s made.table) has ∙ ap (created before) same ∙ adds.created_is in
    let plain : lacks_sequence first.0.schema ≡ false = ap lacks_sequence schema ∙ adds.unnumbered in
    let now : new.now ≡ first.0 = ap (λ (p : Tally × Database). p.1) (same_value all.2) ∙ same_value (rw plain at first.2) in
    record {
      schema = ap (λ (d : Database). d.schema) now ∙ schema;
      empty = ap (λ (d : Database). d.trees (next_tree before)) now ∙ subst (λ s. first.0.trees (next_tree s) ≡ []) has made.empty;
      others = subst (λ (d : Database). KeepsRows before.tables old.now.trees d.trees) (sym now) (subst (λ s. KeepsRows s.tables old.now.trees first.0.trees) has made.others);
    }
