use Rattle.std.proofs.Common.{◌≡◌, ◌∙◌, sym, ap, Result, Ok, Err, List, ℕ}
use Rattle.std.specs.Prelude.{IfOk}
use Rattle.sms_alphabet.specs.declared.element.Element.{Element}
use Rattle.sms_alphabet.specs.declared.header_error.HeaderError.{HeaderError}
use Rattle.sms_alphabet.specs.HeaderGrammar.{BeginsWith, header_at}
use Rattle.sms_alphabet.proofs.Elements.{header_is, read_was_written, written_is_read}
use Rattle.sms_alphabet.proofs.header.Header.read.Goals as goal

found : (octets : List ℕ) (r : Result (List Element) HeaderError) → r ≡ header_at octets → IfOk r (λ elements. BeginsWith octets elements)
found octets (Ok elements) e = read_was_written octets elements (sym e)
found octets (Err fault) e = tt

pub returns-clause-found : goal.returns-clause-found
returns-clause-found c = found c.args.octets.now c.header_of.result c.header_of.ensures

pub returns-clause-only : goal.returns-clause-only
returns-clause-only c = λ elements begins. c.header_of.ensures ∙ ap header_at begins.1 ∙ written_is_read elements begins.0

pub returns-clause-fault : goal.returns-clause-fault
returns-clause-fault c = header_is c.args.octets.now c.header_of.result (sym c.header_of.ensures)
