use Rattle.std.proofs.Common.{ap, sym, ◌∙◌}
use Rattle.sqlite.specs.Effect.{Database}
use Rattle.sms_store.specs.centre.Types.{Rows, Setup}
use Rattle.sms_store.proofs.look.file.look_at.Goals as goal

pub returns : goal.returns
returns c = record {
  held = λ clean rows holds.
      let early = c.in_ok-looked.ensures.clean clean in
      let opened = c.in_ok-conn.ensures.opened early in
      let finds = c.in_ok-conn.ensures.found early in
      let same = c.in_ok-looked.ensures.held clean _ rows holds (opened.1 opened.0.is_open).0
      (λ trees held. ap (λ (db : Database). db.trees) opened.0.clean ∙ finds.holds trees held) in
      same ∙ ap (λ (setup : Setup). record rows { setup = setup }) (sym (ap (λ (found : Rows). found.setup) same));
}
