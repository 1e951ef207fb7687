use Rattle.std.proofs.Common.{List, ℕ, sym, subst, ◌∙◌}
use Rattle.std.specs.Str.{IsUtf8}
use Rattle.std.proofs.lemmas.Str.{IsUtf8-from_is_utf8}
use Rattle.sms_handset_link.proofs.acts.write.Goals as goal

pub unreachable-requires : goal.unreachable-requires
unreachable-requires g c =
    c.in-Err-from_utf8.ensures.cases.0 (subst (λ (l : List ℕ). IsUtf8 l) (sym (c.as_slice-2.ensures ∙ c.in-Ok-octets.ensures.text)) (IsUtf8-from_is_utf8 c.args.text.now c.in-Ok-octets.ensures.utf8))
