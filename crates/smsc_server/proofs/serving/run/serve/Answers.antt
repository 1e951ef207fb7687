use Rattle.std.proofs.Common.{◌∙◌, ap, sym}
use Rattle.smsc_service.specs.InService.{archive_in, store_in}
use Rattle.smsc_server.proofs.serving.Served.{served_by}
use Rattle.smsc_server.proofs.serving.run.serve.Goals as goal

pub returns-in-Ok : goal.returns-in-Ok
returns-in-Ok g c =
    let given = c.in-Ok.ensures.given in
    let called = given.4 in
    record {
      served = served_by g.L.Stream.Read.remaining g.L.Stream.Write.contents _ c.each_connection_reads_the_centres_answers.ensures _ g.L.Door.came _ g.K.RowStore.state g.A.Archive.keeps c.args.keep c.in-Ok.keep c.args.accounts.items c.in-Ok.archive given.0
          called.shown.now called.left.now c.in-Ok.ended c.with_parts.result given.2 given.3 called.shows called.met.0 called.met.1 (given.5 ∙ ap store_in (sym called.leaves))
          (given.6 ∙ ap archive_in (sym called.leaves)) c.with_parts.ensures.given;
    }
