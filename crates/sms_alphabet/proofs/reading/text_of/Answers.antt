use Rattle.std.specs.Str.{chars}
use Rattle.std.specs.String.{string_bytes}
use Rattle.sms_alphabet.proofs.Pieces.{found, only}
use Rattle.sms_alphabet.proofs.reading.text_of.Goals as goal

pub returns-clause-found : goal.returns-clause-found
returns-clause-found c = found (λ text. chars (string_bytes text)) c.args.septets.now c.read.result c.read.ensures

pub returns-clause-only : goal.returns-clause-only
returns-clause-only c = λ text h. only (λ read. chars (string_bytes read)) c.args.septets.now text c.read.result c.read.ensures h
