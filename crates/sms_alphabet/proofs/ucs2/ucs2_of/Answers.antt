use Rattle.std.proofs.Common.{◌≡◌}
use Rattle.sms_alphabet.specs.Ucs2.{octets_for}
use Rattle.sms_alphabet.proofs.Characters.{along_start, along_turn, along_end}
use Rattle.sms_alphabet.proofs.ucs2.ucs2_of.Goals as goal

pub loop-character-init : goal.loop-character-init
loop-character-init c =
    let rest : c.into_iter-character-iterator.result.rest.now ≡ c.args.text.now = cc in
    rw (c.in_ok-out.ensures, rest) (along_start octets_for c.args.text.now c.utf8.text)

pub loop-character-preserved : goal.loop-character-preserved
loop-character-preserved c =
    let l = c.loop-character in
    let next = along_turn octets_for c.args.text.now _ l.out c.in-Some.character _ l.invariant c.in-Some.ensures.steps.0 in
    rw (c.in_ok-push_octets.ensures) next

pub returns : goal.returns
returns c =
    let l = c.loop-character in
    along_end octets_for c.args.text.now _ l.out l.invariant c.in-None.ensures.steps.0.0
