use Rattle.std.proofs.Common.{◌∙◌, List, ℕ, take, sym, ap}
use Rattle.sms_script.specs.Limits.{passes_limits}
use Rattle.sms_script.proofs.PiecesRead.{read_enough, read_more}
use Rattle.sms_script.proofs.front.read_front.Goals as goal

pub returns-in-None : goal.returns-in-None
returns-in-None g c = let known = g.R.Read.remaining in
    read_enough (known c.args.reader.now) (known c.read.new.self) c.append.new.self
    (read_more (known c.args.reader.now) (known c.loop.reader) (known c.read.new.self) c.loop.front (take c.in_ok-count.count c.read.new.buf) c.append.new.self
    c.in_ok-append.ensures.ok c.loop.invariant c.in_ok-count.ensures.bytes.0)
    (ap (λ (l : List ℕ). passes_limits l) (sym c.as_slice.ensures) ∙ c.in-None.ensures)

pub loop-preserved : goal.loop-preserved
loop-preserved g c = let known = g.R.Read.remaining in
    read_more (known c.args.reader.now) (known c.loop.reader) (known c.read.new.self) c.loop.front (take c.in_ok-count.count c.read.new.buf) c.append.new.self
    c.in_ok-append.ensures.ok c.loop.invariant c.in_ok-count.ensures.bytes.0
