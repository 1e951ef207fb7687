use Rattle.std.proofs.Common.{◌+◌, get_or, drop}
use Rattle.std.specs.String.{string_bytes}
use Rattle.sms_alphabet.proofs.TextReads.{Reads, reads_main, reads_escape, reads_escaped, next_septet}
use Rattle.sms_alphabet.proofs.reading.text_of_septets.Goals.{then-escaped+in_ok-push, else-escaped+then-septet-eq-ESCAPE, else-escaped+else-septet-eq-ESCAPE+in_ok-push-2}
use Rattle.sms_alphabet.proofs.reading.text_of_septets.Goals as goal

pub loop-septet-preserved : goal.loop-septet-preserved
loop-septet-preserved c =
    let l = c.loop-septet in
    let septets = c.args.septets.now in
    let next = next_septet septets l.septet-index c.loop-septet-test.true in
    let before : Reads septets (string_bytes l.text) l.escaped (drop l.septet-index septets) = l.invariant in
    elim c.if-escaped.branch [
      | then-escaped+in_ok-push w ↦
          let held = rw w.if-escaped.true at before in
          rw (w.text-is, w.escaped-is, w.in_ok-push.ensures.bytes, w.character_after_escape.ensures) (reads_escaped septets (string_bytes l.text) (drop l.septet-index septets) (get_or septets l.septet-index 0) (drop (l.septet-index + 1) septets) next held)
      | else-escaped+then-septet-eq-ESCAPE w ↦
          let held = rw w.if-escaped.false at before in
          rw (w.text-is, w.escaped-is) (reads_escape septets (string_bytes l.text) (drop l.septet-index septets) (get_or septets l.septet-index 0) (drop (l.septet-index + 1) septets) w.if-septet-eq-ESCAPE.true next held)
      | else-escaped+else-septet-eq-ESCAPE+in_ok-push-2 w ↦
          let held = rw w.if-escaped.false at before in
          rw (w.text-is, w.escaped-is, w.if-escaped.false, w.in_ok-push-2.ensures.bytes, w.character_of.ensures) (reads_main septets (string_bytes l.text) (drop l.septet-index septets) (get_or septets l.septet-index 0) (drop (l.septet-index + 1) septets) w.if-septet-eq-ESCAPE.false next held)
    ]
