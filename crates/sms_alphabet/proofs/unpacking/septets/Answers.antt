use Rattle.std.proofs.Common.{◌≡◌, ◌/◌, ◌%◌, ◌^◌, ℕ, ◌+◌, ◌*◌, arith, ◌∙◌, ◌++◌, ◌∷◌, [], List, ap}
use Rattle.sms_alphabet.specs.Packing.{value_in, septets_in, digits_in}
use Rattle.sms_alphabet.proofs.Digits.{septets_more}
use Rattle.sms_alphabet.proofs.Windows.{eight_more}
use Rattle.sms_alphabet.proofs.unpacking.septets.Goals as goal

pub loop-i-preserved : goal.loop-i-preserved
loop-i-preserved c =
    let octets = c.args.octets.now in
    let i = c.loop-i.i in
    let eight : c.eight_septets.result ≡ digits_in 128 8 (value_in 256 octets / 2 ^ (c.args.fill + 56 * i)) =
    c.eight_septets.ensures ∙ ap (λ (k : ℕ). digits_in 128 8 (value_in 256 octets / 2 ^ k)) (let e : c.from-in-loop-i.result + 56 * c.from-in-loop-i-2.result ≡ c.args.fill + 56 * i = omega arith in e) in
    c.in_ok-append.ensures.ok ∙ ap (λ (xs : List ℕ). xs ++ c.eight_septets.result) c.loop-i.invariant ∙ ap (λ (ys : List ℕ). septets_in octets c.args.fill (8 * i) ++ ys) eight ∙ eight_more octets c.args.fill i

pub loop-i-2-preserved : goal.loop-i-2-preserved
loop-i-2-preserved c =
    let octets = c.args.octets.now in
    let i = c.loop-i-2.i in
    let place : c.septet_at.result ≡ value_in 256 octets / 2 ^ (c.args.fill + 7 * i) % 128 =
    c.septet_at.ensures ∙ ap (λ (k : ℕ). value_in 256 octets / 2 ^ k % 128) (let e : c.from-in-loop-i-2-2.result + 7 * c.from-in-loop-i-2-3.result ≡ c.args.fill + 7 * i = omega arith in e) in
    c.in_ok-push.ensures.ok ∙ ap (λ (xs : List ℕ). xs ++ c.septet_at.result ∷ []) c.loop-i-2.invariant ∙ septets_more octets c.args.fill i c.septet_at.result place
