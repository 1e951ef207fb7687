use Rattle.std.proofs.Common.{arith}
use Rattle.sms_base.proofs.Steps.{run_takes}
use Rattle.sms_alphabet.specs.declared.header_error.HeaderError.TheVariants.{Truncated}
use Rattle.sms_alphabet.proofs.header.header_of.Goals as goal

pub header_with-requires : goal.header_with-requires
header_with-requires c =
    let h = run_takes Truncated c.from.result c.octet.new.self (c.in_ok-elements.elements.now, c.run.new.self) c.in_ok-elements.ensures in
    omega (arith, h.1)
