use Rattle.std.proofs.Common.{ℕ, ◌-◌, List, slice_get, sym, ◌∙◌, ap, arith}
use Rattle.sms_script.specs.declared.report.rows.FrameRow.{FrameRow}
use Rattle.sms_play.specs.PlayState.{frame_at as frame_at_number}
use Rattle.sms_play.proofs.staging.Numbered.{frame_from, looked_up, none_at_zero}
use Rattle.sms_play.proofs.staging.frames.frame_at.Goals as goal

pub returns-then-number-eq0 : goal.returns-then-number-eq0
returns-then-number-eq0 c = λ h.
    none_at_zero 0 c.args.bag.now h ∙ ap (λ (n : ℕ). frame_at_number n c.args.bag.now) (omega (arith, c.if-number-eq0.true))

pub returns : goal.returns
returns c = λ h.
    looked_up (λ x. x.now) c.get.result c.as_slice.result.now (c.args.number - 1) c.get.ensures.lookup.0 c.get.ensures.lookup.1
    ∙ ap (λ (l : List FrameRow). slice_get l (c.args.number - 1)) c.as_slice.ensures
    ∙ sym (frame_from 1 (c.args.number - 1) c.args.number c.args.bag.now h (omega (arith, c.if-number-eq0.false)))
