use Rattle.std.proofs.Common.{ap, ◌∙◌}
use Rattle.sqlite.specs.Effect.{Database}
use Rattle.sqlite.specs.Files.{file_state}
use Rattle.sms_store.proofs.keeping.opening.StoreKeep+P+FileStore+FileFrom+T.open_from.Goals as goal

pub returns-in-Ok-over-clause-opened : goal.returns-in-Ok-over-clause-opened
returns-in-Ok-over-clause-opened g c =
    let old = file_state c.in-Ok.conn in (
      old.now,
      λ clean.
          let early = c.in-Ok-over.ensures.clean clean in
          let o = c.in-Ok.ensures.opened early in
          ((o.1 o.0.is_open).0, (λ trees h. ap (λ (db : Database). db.trees) o.0.clean ∙ (c.in-Ok.ensures.found early).holds trees h), c.in-Ok-over.ensures.opened clean),
    )

pub returns-in-Err-over-clause-refused : goal.returns-in-Err-over-clause-refused
returns-in-Err-over-clause-refused g c =
    let old = file_state c.in-Ok.conn in (
      old.now,
      λ clean.
          let early = c.in-Err-over.ensures.was_clean clean in
          let o = c.in-Ok.ensures.opened early in
          ((o.1 o.0.is_open).0, (λ trees h. ap (λ (db : Database). db.trees) o.0.clean ∙ (c.in-Ok.ensures.found early).holds trees h), c.in-Err-over.ensures.refused clean),
    )
