use Rattle.std.proofs.Common.{arith}
use Rattle.std.specs.Str.{chars}
use Rattle.std.specs.String.{string_bytes}
use Rattle.sms_base.proofs.OctetLaws.{are_octets}
use Rattle.sms_alphabet.proofs.Ucs2Laws.{found, only}
use Rattle.sms_alphabet.proofs.ucs2.ucs2_text.Goals as goal

pub returns-clause-found : goal.returns-clause-found
returns-clause-found c = found (λ text. chars (string_bytes text)) c.args.octets.now c.decode.result (are_octets c.args.octets.now (λ i. omega (arith, c.type_inv.octets i))) c.decode.ensures

pub returns-clause-only : goal.returns-clause-only
returns-clause-only c = λ text s e. only (λ read. chars (string_bytes read)) c.args.octets.now text c.decode.result c.decode.ensures s e
