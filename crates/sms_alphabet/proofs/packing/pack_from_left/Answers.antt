use Rattle.std.proofs.Common.{◌≡◌, ℕ, ◌-◌, ◌*◌, List, length, take, drop, ◌++◌, ◌<◌, ◌∙◌, refl, ap, arith}
use Rattle.std.proofs.lemmas.List.{take_all, length-drop}
use Rattle.sms_alphabet.specs.Packing.{value_in}
use Rattle.sms_alphabet.proofs.Held.{turn_stays, turn_pushes, done_even, done_odd}
use Rattle.sms_alphabet.proofs.Windows.{eight_turn, seven_are}
use Rattle.sms_alphabet.proofs.packing.pack_from_left.Goals.{then-bits-ge8+in_ok-push, else-bits-ge8, then-bits-gt0+in_ok-push-2, else-bits-gt0}
use Rattle.sms_alphabet.proofs.packing.pack_from_left.Goals as goal

pub loop-i-preserved : goal.loop-i-preserved
loop-i-preserved c =
    let l = c.loop-i in
    let septets = c.args.septets.now in
    let behind : take (length septets - 8 * l.i) (drop (8 * l.i) septets) ≡ drop (8 * l.i) septets = take_all (length septets - 8 * l.i) (drop (8 * l.i) septets) (omega (arith, length-drop (8 * l.i) septets)) in
    let eight : c.first_eight.result ≡ value_in 128 (take 8 (drop (8 * l.i) septets)) = c.first_eight.ensures.value ∙ ap (λ (xs : List ℕ). value_in 128 (take 8 xs)) behind in
    eight_turn l.out l.held c.args.fill c.args.septets.now l.i c.first_eight.result _ _ _ c.loop-i-test.true eight c.first_eight.ensures.range c.requires.fill_in_range l.invariant refl (c.in_ok-append.ensures.ok ∙ ap (λ (ds : List ℕ). l.out ++ ds) (ap (λ (bs : List ℕ). take 7 bs) c.to_le_bytes.ensures ∙ seven_are _)) refl

pub loop-i-2-preserved : goal.loop-i-2-preserved
loop-i-2-preserved c =
    let l = c.loop-i-2 in
    let small : c.from.result < 128 = omega (arith, c.requires.septets l.i 0 c.loop-i-2-test.true) in
    elim c.if-bits-ge8.branch [
      | then-bits-ge8+in_ok-push w ↦ turn_pushes l.out l.held l.bits c.args.fill c.args.septets.now l.i c.from.result _ _ _ c.loop-i-2-test.true c.from.ensures small l.invariant (w.out-is ∙ w.in_ok-push.ensures.ok) w.held-is w.bits-is w.if-bits-ge8.true
      | else-bits-ge8 w ↦ turn_stays l.out l.held l.bits c.args.fill c.args.septets.now l.i c.from.result _ _ _ c.loop-i-2-test.true c.from.ensures small l.invariant w.out-is w.held-is w.bits-is w.if-bits-ge8.false
    ]

pub returns : goal.returns
returns c =
    let l = c.loop-i-2 in
    let whole = take_all l.i c.args.septets.now c.loop-i-2-test.false in
    elim c.if-bits-gt0.branch [
      | then-bits-gt0+in_ok-push-2 w ↦ done_odd l.out l.held l.bits c.args.fill _ c.args.septets.now c.if-bits-gt0.out whole (w.out-is ∙ w.in_ok-push-2.ensures.ok) w.if-bits-gt0.true l.invariant.0 l.invariant.1
      | else-bits-gt0 w ↦ done_even l.out l.held l.bits c.args.fill _ c.args.septets.now c.if-bits-gt0.out whole w.out-is w.if-bits-gt0.false l.invariant.1
    ]
