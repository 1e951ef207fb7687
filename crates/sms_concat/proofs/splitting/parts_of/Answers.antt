use Rattle.std.proofs.Common.{Ok, sym, ap, ◌∙◌, arith}
use Rattle.std.proofs.lemmas.Result.{err_from_is_err_and}
use Rattle.sms_concat.specs.Splitting.{alone, numbered, pieces_of}
use Rattle.sms_concat.proofs.Numbering.{split_alone, split_refused, some_way, none_way}
use Rattle.sms_concat.proofs.splitting.parts_of.Goals as goal

pub returns-in_err-alone : goal.returns-in_err-alone
returns-in_err-alone c =
    let p = err_from_is_err_and c.from_residual.result c.from_residual.ensures.1 in
    rw (p.1, p.2) (alone c.args.content.now, split_alone c.args.content.now c.args.reference (omega arith))

pub returns-then-len-capacity : goal.returns-then-len-capacity
returns-then-len-capacity c = split_alone c.args.content.now c.args.reference (omega arith) ∙ ap Ok (sym c.in_ok-alone.ensures)

pub returns-then-is_compressed : goal.returns-then-is_compressed
returns-then-is_compressed c = split_refused c.args.content.now c.args.reference (omega arith) (sym c.is_compressed.ensures ∙ c.if-is_compressed.true)

pub returns-in_err-numbered_parts-in-Some : goal.returns-in_err-numbered_parts-in-Some
returns-in_err-numbered_parts-in-Some c =
    let content = c.args.content.now in
    let p = err_from_is_err_and c.from_residual-in_err-numbered_parts-in-Some.result c.from_residual-in_err-numbered_parts-in-Some.ensures.1 in
    let w = some_way content c.args.reference c.in-Some.total (omega arith) (sym c.is_compressed.ensures ∙ c.if-is_compressed.false) (rw c.as_slice.ensures at c.in-Some.ensures) in
    rw (p.1, p.2) (numbered content c.args.reference c.in-Some.total 1 (pieces_of content.coding content.units), w)

pub returns-in_ok-numbered_parts-in-Some : goal.returns-in_ok-numbered_parts-in-Some
returns-in_ok-numbered_parts-in-Some c =
    let w = some_way c.args.content.now c.args.reference c.in-Some.total (omega arith) (sym c.is_compressed.ensures ∙ c.if-is_compressed.false) (rw c.as_slice.ensures at c.in-Some.ensures) in
    w ∙ ap Ok (sym c.in_ok-numbered_parts-in-Some.ensures)

pub returns-in-None : goal.returns-in-None
returns-in-None c = none_way c.args.content.now c.args.reference (omega arith) (sym c.is_compressed.ensures ∙ c.if-is_compressed.false) (rw c.as_slice.ensures at c.in-None.ensures)
