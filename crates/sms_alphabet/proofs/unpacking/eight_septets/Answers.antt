use Rattle.std.proofs.Common.{ℕ, ◌≡◌, ◌/◌, ◌%◌, ◌^◌, ap, ◌∙◌, arith}
use Rattle.sms_alphabet.specs.Packing.{value_in}
use Rattle.sms_alphabet.proofs.Windows.{eight_digits, window_from_bit}
use Rattle.sms_alphabet.proofs.unpacking.eight_septets.Goals as goal

pub returns : goal.returns
returns c =
    let xs = c.args.octets.now in
    let bit = c.args.bit in
    let w = c.window_at.result / 2 ^ (bit % 8) in
    let same : w % 2 ^ 56 ≡ value_in 256 xs / 2 ^ bit % 2 ^ 56 = ap (λ (n : ℕ). n / 2 ^ (bit % 8) % 2 ^ 56) c.window_at.ensures ∙ window_from_bit xs bit (λ i. omega (arith, c.type_inv.octets i)) in
    rw (c.low_septet.ensures, c.low_septet-2.ensures, c.low_septet-3.ensures, c.low_septet-4.ensures, c.low_septet-5.ensures, c.low_septet-6.ensures, c.low_septet-7.ensures, c.low_septet-8.ensures) (eight_digits w (value_in 256 xs / 2 ^ bit) same)
