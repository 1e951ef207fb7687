use Rattle.std.proofs.Common.{◌∙◌, arith}
use Rattle.smpp_session.proofs.Cutting.{whole_fits, waits_behind, drops_behind, ends_behind, goes_on}
use Rattle.smpp_session.proofs.turn.SessionStep.walk.Goals as goal

pub returns-in-Waiting-clause-stream : goal.returns-in-Waiting-clause-stream
returns-in-Waiting-clause-stream c =
    c.loop-self.invariant.left ∙ waits_behind c.args.accounts.now c.loop-self.self c.args.octets.now c.split_at.result.1.now c.loop-self.done c.split_at.ensures.back c.in-Waiting.ensures

pub returns-in-Dropped-clause-stream : goal.returns-in-Dropped-clause-stream
returns-in-Dropped-clause-stream c =
    c.loop-self.invariant.left ∙ drops_behind c.args.accounts.now c.loop-self.self c.args.octets.now c.split_at.result.1.now c.loop-self.done c.split_at.ensures.back c.in-Dropped.ensures

pub returns-in-BadLength-clause-stream : goal.returns-in-BadLength-clause-stream
returns-in-BadLength-clause-stream c =
    c.loop-self.invariant.left
    ∙ ends_behind c.args.accounts.now c.loop-self.self c.end.new.self c.args.octets.now c.split_at.result.1.now c.loop-self.done c.split_at.ensures.back c.in-BadLength.ensures c.in_ok-end-in-BadLength.ensures

pub loop-self-preserved : goal.loop-self-preserved
loop-self-preserved c =
    let fits = whole_fits c.loop-self.self.conversation.state c.split_at.result.1.now c.in-Whole.len c.in-Whole.ensures in
    record {
      within = omega (arith, fits.1, c.split_at.ensures.back_len);
      left =
          c.loop-self.invariant.left
          ∙ goes_on c.args.accounts.now c.loop-self.self c.treat.new.self c.args.octets.now c.split_at.result.1.now c.split_at-in-Whole.result.0.now c.loop-self.done c.in-Whole.len
          c.split_at.ensures.back c.in-Whole.ensures c.split_at-in-Whole.ensures.front c.in_ok-treat-in-Whole.ensures;
    }
