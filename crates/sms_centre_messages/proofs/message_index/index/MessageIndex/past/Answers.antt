use Rattle.std.proofs.Common.{◌≡◌, ◌≤◌, true, sym, subst, arith}
use Rattle.std.specs.Prelude.{nat_le}
use Rattle.std.proofs.lemmas.Bool.{and_parts}
use Rattle.std.proofs.lemmas.Bool.Decides.{nat_tests}
use Rattle.sms_centre_rows.specs.messages.Messages.{is_pending}
use Rattle.sms_centre_messages.specs.message_index.MessageIndex.{Represents, MessageIndexOf, deadline_of}
use Rattle.sms_centre_messages.proofs.message_index.index.MessageIndex.past.Goals as goal

pub returns-clause-all : goal.returns-clause-all
returns-clause-all c = λ ms ps h m a p.
    let b = and_parts (is_pending m) (nat_le m.limit c.args.now) p in
    let q : nat_le m.limit c.args.now ≡ true = b.1 in
    let l : m.limit ≤ c.args.now = grind (arith, nat_tests) in
    c.in_ok-numbers.ensures.all (deadline_of m) ((subst (λ (k : MessageIndexOf). Represents k ms ps) (sym c.self.view_is) h).deadlines m a b.0) l
