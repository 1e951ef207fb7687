use Rattle.std.proofs.Common.{◌++◌}
use Rattle.std.proofs.lemmas.Result.{on_ok_weaker}
use Rattle.std.specs.Prelude.{codes}
use Rattle.smsc_status.specs.Page.{tile}
use Rattle.smsc_status.specs.Pieces.{piece_text}
use Rattle.smsc_status.proofs.Chains.{chain3}
use Rattle.smsc_status.proofs.page.put_figure.Goals as goal

pub returns : goal.returns
unfolding tile
returns c =
    on_ok_weaker c.put_pieces.result
    (λ e. chain3 c.args.out.now
    (codes "<div class=\"tile\"><b>") (piece_text c.args.figure.now) (codes "</b><span>" ++ (c.args.word.now ++ codes "</span></div>"))
    c.in_ok-append.ensures.ok c.in_ok-put_piece.ensures e)
    c.put_pieces.ensures
