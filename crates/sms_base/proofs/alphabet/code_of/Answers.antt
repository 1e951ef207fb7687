use Rattle.std.proofs.Common.{◌∙◌}
use Rattle.sms_base.proofs.Alphabets.{code_of_pair, found_is_pair}
use Rattle.sms_base.proofs.alphabet.code_of.Goals as goal

pub returns : goal.returns
returns c = record {
  found = found_is_pair c.args.character c.code_in_tables.result c.code_in_tables.ensures;
  only = λ code p. c.code_in_tables.ensures ∙ code_of_pair code c.args.character p;
  exact = c.code_in_tables.ensures;
}
