use Rattle.std.proofs.Common.{◌≡◌, ◌++◌, ℕ, List, OnOk, codes, decimal, subst}
use Rattle.std.proofs.lemmas.List.{append-nil}
use Rattle.smsc_status.specs.Access.{cause_text}
use Rattle.smsc_status.proofs.access.put_cause.Goals as goal

-- the text of the pieces ends with nothing
pub returns : goal.returns
unfolding cause_text
returns c =
    subst (λ (t : List ℕ). OnOk c.put_pieces.result (c.put_pieces.new.out ≡ c.args.out.now ++ (codes " last_cause=" ++ t))) (append-nil (decimal c.args.cause))
    c.put_pieces.ensures
