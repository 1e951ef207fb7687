use Rattle.std.proofs.Common.{◌++◌, ap, ◌∙◌}
use Rattle.std.proofs.lemmas.Result.{on_ok_weaker}
use Rattle.std.specs.Prelude.{flat_map}
use Rattle.smsc_status.specs.Page.{tile_text, tiles_begin, tiles_end}
use Rattle.smsc_status.proofs.Chains.{chain3}
use Rattle.smsc_status.proofs.Elements.{followed_is}
use Rattle.smsc_status.proofs.page.put_tiles.Goals as goal

pub returns : goal.returns
returns c =
    let tiles = c.args.tiles.now in
    let title = tiles_begin c.args.title.now in
    on_ok_weaker c.end_tiles.result
    (λ e. chain3 c.args.out.now
    title (flat_map tile_text tiles) tiles_end
    c.in_ok-begin_tiles.ensures c.in_ok-put_rows.ensures e
    ∙ ap (λ t. c.args.out.now ++ (title ++ t)) (followed_is tiles))
    c.end_tiles.ensures
