use Rattle.std.proofs.Common.{ap, ◌∙◌}
use Rattle.sqlite.specs.Effect.{Database}
use Rattle.sqlite.specs.Files.{file_state}
use Rattle.sms_store.proofs.centre.migrating.CentreKeep+FileStore+FileFrom+T.migrate_from.Goals as goal

pub returns-in-Ok-migrate_over-clause-migrated : goal.returns-in-Ok-migrate_over-clause-migrated
returns-in-Ok-migrate_over-clause-migrated g c =
    let old = file_state c.in-Ok.conn in (
      old.now,
      λ clean.
          let early = c.in-Ok-migrate_over.ensures.clean clean in
          let o = c.in-Ok.ensures.opened early in
          ((o.1 o.0.is_open).0, (λ trees h. ap (λ (db : Database). db.trees) o.0.clean ∙ (c.in-Ok.ensures.found early).holds trees h), c.in-Ok-migrate_over.ensures.migrated clean, c.in-Ok-migrate_over.ensures.settled clean),
    )

pub returns-in-Err-migrate_over-clause-refused : goal.returns-in-Err-migrate_over-clause-refused
returns-in-Err-migrate_over-clause-refused g c =
    let old = file_state c.in-Ok.conn in (
      old.now,
      λ clean.
          let early = c.in-Err-migrate_over.ensures.was_clean clean in
          let o = c.in-Ok.ensures.opened early in
          ((o.1 o.0.is_open).0, (λ trees h. ap (λ (db : Database). db.trees) o.0.clean ∙ (c.in-Ok.ensures.found early).holds trees h), c.in-Err-migrate_over.ensures.refused clean),
    )
