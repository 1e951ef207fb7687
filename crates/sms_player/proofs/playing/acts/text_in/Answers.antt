use Rattle.std.proofs.Common.{List, ℕ, sym, subst}
use Rattle.std.specs.Str.{IsUtf8}
use Rattle.std.proofs.lemmas.Str.{IsUtf8-from_is_utf8}
use Rattle.sms_player.proofs.playing.acts.text_in.Goals as goal

pub unreachable-requires : goal.unreachable-requires
unreachable-requires c = c.in-Err.ensures.cases.0 (subst (λ (l : List ℕ). IsUtf8 l) (sym c.as_slice.ensures) (IsUtf8-from_is_utf8 c.args.octets.now c.requires))
