-- The tables of one version are not those of another.
use Rattle.std.proofs.Common.{◌≡◌, length, sym, ap, ◌∙◌, arith}
use Rattle.sqlite.specs.Schema.{Schema}
use Rattle.sms_store_tables.specs.centre.CentreSchema.{centre_schema, first_schema, first_schema_is, schema_is, second_schema, second_schema_is}

pub schemas_differ : centre_schema ≡ first_schema → ⊥
schemas_differ same =
    let count : 8 ≡ 6 = ap (λ (s : Schema). length s.tables) (sym schema_is ∙ same ∙ first_schema_is) in
    omega (arith, count)

pub second_apart : centre_schema ≡ second_schema → ⊥
second_apart same =
    let count : 8 ≡ 7 = ap (λ (s : Schema). length s.tables) (sym schema_is ∙ same ∙ second_schema_is) in
    omega (arith, count)

pub earlier_apart : second_schema ≡ first_schema → ⊥
earlier_apart same =
    let count : 7 ≡ 6 = ap (λ (s : Schema). length s.tables) (sym second_schema_is ∙ same ∙ first_schema_is) in
    omega (arith, count)
