use Rattle.std.proofs.Common.{rules, ◌∙◌, sym, arith}
use Rattle.std.proofs.Math.Seq.{take-append_seam}
use Rattle.sms_relay_run.proofs.Frames.{Cut, frame_none, frame_long, frame_bad, frame_second, frame_ok, some_octets, no_octets, reads_bad, reads_good}
use Rattle.sms_relay_run.proofs.lines.read_frame.Goals as goal

pub returns-then-is_empty : goal.returns-then-is_empty
returns-then-is_empty c = reads_bad c.args.input.now _ 1 (frame_none c.args.input.now (sym c.is_empty.ensures ∙ c.if-is_empty.true))

pub returns-then-line-gt-LONGEST_LINE : goal.returns-then-line-gt-LONGEST_LINE
returns-then-line-gt-LONGEST_LINE c =
    reads_bad c.args.input.now _ 1 (frame_long c.args.input.now c.cut_line.result.0.now c.cut_line.result.1.now
    (record { some = sym c.is_empty.ensures ∙ c.if-is_empty.false; line_is = c.cut_line.ensures.line; behind_is = c.cut_line.ensures.behind }) (omega arith))

pub returns-in-Ok : goal.returns-in-Ok
returns-in-Ok c =
    let cut : Cut c.args.input.now c.cut_line.result.0.now c.cut_line.result.1.now = record { some = sym c.is_empty.ensures ∙ c.if-is_empty.false; line_is = c.cut_line.ensures.line; behind_is = c.cut_line.ensures.behind } in
    let octets = some_octets c.cut_line.result.0.now c.decode_to_slice.new.out _ c.decode_to_slice.result (search rules) c.decode_to_slice.ensures.value (search rules) in
    reads_good c.args.input.now _ c.decode_to_slice.new.out _ (frame_ok c.args.input.now c.cut_line.result.0.now c.cut_line.result.1.now c.decode_to_slice.new.out cut (omega arith) octets (sym c.if-is_empty-2.ensures)) (search rules) (take-append_seam c.decode_to_slice.new.out _)

pub returns-in-Ok-2 : goal.returns-in-Ok-2
returns-in-Ok-2 c =
    let cut : Cut c.args.input.now c.cut_line.result.0.now c.cut_line.result.1.now = record { some = sym c.is_empty.ensures ∙ c.if-is_empty.false; line_is = c.cut_line.ensures.line; behind_is = c.cut_line.ensures.behind } in
    let octets = some_octets c.cut_line.result.0.now c.decode_to_slice.new.out _ c.decode_to_slice.result (search rules) c.decode_to_slice.ensures.value (search rules) in
    reads_bad c.args.input.now _ 2 (frame_second c.args.input.now c.cut_line.result.0.now c.cut_line.result.1.now c.decode_to_slice.new.out cut (omega arith) octets (sym c.if-is_empty-2.ensures))

pub returns-in-Err : goal.returns-in-Err
returns-in-Err c =
    let cut : Cut c.args.input.now c.cut_line.result.0.now c.cut_line.result.1.now = record { some = sym c.is_empty.ensures ∙ c.if-is_empty.false; line_is = c.cut_line.ensures.line; behind_is = c.cut_line.ensures.behind } in
    let none = no_octets c.cut_line.result.0.now c.decode_to_slice.new.out _ c.decode_to_slice.result c.in-Err.field-0 (search rules) c.decode_to_slice.ensures.value (search rules) in
    reads_bad c.args.input.now _ 1 (frame_bad c.args.input.now c.cut_line.result.0.now c.cut_line.result.1.now c.in-Err.field-0 cut (omega arith) none)
