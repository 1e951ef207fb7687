use Rattle.std.proofs.Common.{◌≡◌, true, refl, ◌∷◌, sym, ◌∙◌, string_bytes, arith}
use Rattle.std.proofs.lemmas.Grind.{common_steps}
use Rattle.toml.proofs.Views.{Entry}
use Rattle.smsc_cli.specs.words.AccountTables.{is_file_key}
use Rattle.smsc_cli.proofs.words.account_tables.has_file_keys.Goals as goal

pub members-preserved : goal.members-preserved
members-preserved c =
    let (can, finite, same) = c.members.invariant in
    let e : Entry = (c.in-Some.key.now, c.in-Some._value.now) in
    let iter : c.members.key-iterator ≡ e ∷ c.next.new.self = grind (arith, common_steps) in
    let good : is_file_key (string_bytes e.0) ≡ true = grind (arith, common_steps) in
    (tt, tt, sym (rw (iter, good) refl) ∙ same)
